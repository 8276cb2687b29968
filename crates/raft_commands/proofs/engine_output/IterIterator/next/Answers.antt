-- What is left of the deque gives its first command, and is what is left then.
use Rattle.std.proofs.Common.{◌≡◌, ◌∙◌, List, ap, sym, Option, Some, None, Bor}
use Rattle.std.proofs.lemmas.List.{nil_from_length}
use Rattle.std.specs.Iterator.{YieldsFirstRef}
use Rattle.std.specs.VecDeque.Iter.{deque_iter_rest, deque_iter_steps}
use Rattle.std.specs.declared.collections.vec_deque.Iter.{Iter}
use Rattle.raft_commands.proofs.engine_output.IterIterator.next.Goals as goal

module _ {X : Type 0} where
  steps_as_list : (s t : Iter X) (xs : List X) (r : Option (Bor X)) → deque_iter_rest s ≡ xs → deque_iter_steps s r t →
      YieldsFirstRef (λ ys. ys) xs r (deque_iter_rest t)
  steps_as_list s t xs None v h = (sym v ∙ nil_from_length _ h.0, ap deque_iter_rest h.1 ∙ nil_from_length _ h.0)
  steps_as_list s t xs (Some x) v h = sym v ∙ h

pub returns-clause-steps : goal.returns-clause-steps
returns-clause-steps g c =
    steps_as_list c.self.inside.commands c.next.new.self _ c.next.result c.self.view_is c.next.ensures.steps
