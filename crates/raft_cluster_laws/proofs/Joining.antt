-- Histories put together, and a history of one event.
use Rattle.std.specs.Prelude.{ℕ, List, [], ◌∷◌, ◌++◌, refl}
use Rattle.std.proofs.Common.{subst}
use Rattle.raft_machines.specs.Machine.{MachineRules}
use Rattle.raft_headline.specs.ClusterEvent.{Recorded}
use Rattle.raft_headline.specs.Machines.{Replicas}
use Rattle.raft_headline.specs.Replaying.{ReplaysFor, StepsTo, takes_number, with_number}
use Rattle.raft_headline.specs.Seen.{seen_by}

module _ (rules : MachineRules) (h : ℕ) where
  pub joins : (xs ys : List Recorded) (a b c : Replicas) → ReplaysFor rules h a xs b → ReplaysFor rules h b ys c → ReplaysFor rules h a (xs ++ ys) c
  joins [] ys a b c p k = subst (λ (g : Replicas). ReplaysFor rules h g ys c) p.1.1 k
  joins (x ∷ xs) ys a b c p k =
      let one = p.1.0 in
      let rest = joins xs ys one.new b c (one.others, p.1.1) k in (
        with_number (takes_number (seen_by h x) x.outcome) one.number rest.0,
        (record { number = one.number; others = rest.0; numbered = refl; new = one.new; step = one.step }, rest.1),
      )

  pub one_event : (r : Recorded) (number : ℕ) (old new : Replicas) → StepsTo rules h (seen_by h r) r number old new → ReplaysFor rules h old (r ∷ []) new
  one_event r number old new step = (
    with_number (takes_number (seen_by h r) r.outcome) number [],
    (record { number = number; others = []; numbered = refl; new = new; step = step }, (refl, refl)),
  )
