use Rattle.raft_applier_laws.proofs.ReadyStates.{down_candidates_ready, up_candidates_ready}
use Rattle.raft_applier_laws.proofs.ready.candidates_are_ready.Goals as goal

pub returns-clause-up : goal.returns-clause-up
returns-clause-up c = up_candidates_ready

pub returns-clause-down : goal.returns-clause-down
returns-clause-down c = down_candidates_ready
