use Rattle.std.proofs.KnownBytes.{Appends-nil}
use Rattle.raft_script_session.proofs.reading.refuse_line.Goals as goal

pub returns-in_default : goal.returns-in_default
returns-in_default g c = Appends-nil _
