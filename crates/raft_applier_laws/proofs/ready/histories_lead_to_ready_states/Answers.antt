use Rattle.raft_applier_laws.proofs.ReadyStates.{down_ready, up_ready}
use Rattle.raft_applier_laws.proofs.ready.histories_lead_to_ready_states.Goals as goal

pub returns-clause-up : goal.returns-clause-up
returns-clause-up c = up_ready

pub returns-clause-down : goal.returns-clause-down
returns-clause-down c = down_ready
