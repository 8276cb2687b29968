-- The nodes rise since their ids are those of the learners.
use Rattle.std.proofs.Common.{◌≡◌, ℕ, List, map, sym, subst, ◌∙◌}
use Rattle.std.specs.Ordering.{nat_cmp}
use Rattle.raft_quorums.specs.Rising.{IsRising, IsRisingByFirst}
use Rattle.raft_conditions.proofs.ChangeLemmas.{all_are_learners}
use Rattle.raft_conditions.proofs.change.learners_of.Goals as goal

pub from_rising-requires : goal.from_rising-requires
from_rising-requires c =
    let nodes : List (ℕ × List ℕ) = c.args.old.now.nodes
    in let ids : c.in_ok-ids.ids ≡ map (λ (x : ℕ × List ℕ). x.0) nodes =
    c.in_ok-ids.ensures ∙ all_are_learners c.args.old.now.configs nodes c.requires
    in let rising : IsRisingByFirst nat_cmp nodes = subst (IsRising nat_cmp) ids c.as_slice-rising.ensures.rising
    in subst (λ (xs : List (ℕ × List ℕ)). IsRisingByFirst nat_cmp xs) (sym (c.in_ok-nodes.ensures ∙ c.nodes.ensures.nodes)) rising
