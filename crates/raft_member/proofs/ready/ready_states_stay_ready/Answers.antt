use Rattle.raft_member.proofs.ReadyLemmas.{stays_ready}
use Rattle.raft_member.proofs.ready.ready_states_stay_ready.Goals as goal

pub returns : goal.returns
returns c = stays_ready
