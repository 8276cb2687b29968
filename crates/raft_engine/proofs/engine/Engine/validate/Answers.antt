-- A log that never falls has no fault, nor has a wish for what the snapshot has.
use Rattle.std.specs.Ordering.{nat_cmp}
use Rattle.raft_state.specs.State.{state_fault}
use Rattle.raft_engine.proofs.ValidLemmas.{never_refused, nothing_wrong}
use Rattle.raft_engine.proofs.engine.Engine.validate.Goals as goal

pub returns-clause-valid : goal.returns-clause-valid
returns-clause-valid g c = λ own s stands rising may.
    never_refused c.validate.result (state_fault nat_cmp c.args.self.now.state.state) c.validate.ensures.err (nothing_wrong own c.args.self.now s stands rising may)
