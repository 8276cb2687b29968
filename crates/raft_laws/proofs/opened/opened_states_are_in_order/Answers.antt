use Rattle.raft_laws.proofs.OpenedStates.{opened_in_order}
use Rattle.raft_laws.proofs.opened.opened_states_are_in_order.Goals as goal

pub returns : goal.returns
returns c = opened_in_order
