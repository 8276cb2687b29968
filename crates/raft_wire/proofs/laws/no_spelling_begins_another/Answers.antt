use Rattle.raft_wire.proofs.StreamProofs.{frames_apart, entries_apart}
use Rattle.raft_wire.proofs.laws.no_spelling_begins_another.Goals as goal

pub returns-clause-frames : goal.returns-clause-frames
returns-clause-frames c = frames_apart

pub returns-clause-entries : goal.returns-clause-entries
returns-clause-entries c = entries_apart
