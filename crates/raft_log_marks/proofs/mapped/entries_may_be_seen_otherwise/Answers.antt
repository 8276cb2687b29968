use Rattle.raft_log_marks.proofs.MappedLemmas.{maps_cleanable, maps_taken}
use Rattle.raft_log_marks.proofs.mapped.entries_may_be_seen_otherwise.Goals as goal

pub returns-clause-taken : goal.returns-clause-taken
returns-clause-taken c = maps_taken

pub returns-clause-cleanable : goal.returns-clause-cleanable
returns-clause-cleanable c = maps_cleanable
