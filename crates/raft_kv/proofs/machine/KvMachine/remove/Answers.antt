use Rattle.std.proofs.Common.{◌∙◌, ap}
use Rattle.std.specs.FinMap as finite
use Rattle.raft_kv.specs.Map.{Map}
use Rattle.raft_kv.proofs.Maps.{remove_of}
use Rattle.raft_kv.proofs.Changes.{removed}
use Rattle.raft_kv.proofs.machine.KvMachine.remove.Goals as goal

pub invariant_of-self : goal.invariant_of-self
invariant_of-self c = removed c.self.inside.pairs c.remove.new.self _ _ c.self.invariant c.remove.ensures.entries c.remove.ensures.len c.remove.ensures.ordered

pub returns-clause-ok : goal.returns-clause-ok
returns-clause-ok c =
    remove_of c.self.inside.pairs c.remove.new.self c.args.key.now c.remove.ensures.updates ∙ ap (λ (m : Map). finite.remove m c.args.key.now) c.self.view_is
