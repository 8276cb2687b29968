use Rattle.raft_timers.proofs.Waited.{lost_have_waited}
use Rattle.raft_timers.proofs.laws.lost_requests_have_waited.Goals as goal

pub returns : goal.returns
returns c = lost_have_waited
