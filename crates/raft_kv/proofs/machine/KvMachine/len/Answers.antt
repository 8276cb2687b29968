use Rattle.std.proofs.Common.{◌∙◌, ap, subst, sym}
use Rattle.std.specs.FinMap as finite
use Rattle.raft_kv.specs.Map.{IsWithin, Map}
use Rattle.raft_kv.proofs.Maps.{len_of}
use Rattle.raft_kv.proofs.Changes.{map_within}
use Rattle.raft_kv.proofs.machine.KvMachine.len.Goals as goal

pub returns-clause-len : goal.returns-clause-len
returns-clause-len c = c.len.ensures.len ∙ sym (len_of c.self.inside.pairs c.self.invariant.ordered) ∙ ap (λ (m : Map). finite.len m) c.self.view_is

pub returns-clause-within : goal.returns-clause-within
returns-clause-within c = subst IsWithin c.self.view_is (map_within c.self.inside.pairs c.self.invariant)
