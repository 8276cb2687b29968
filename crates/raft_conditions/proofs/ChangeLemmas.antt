-- Memberships that have no voter groups.
use Rattle.std.proofs.Common.{◌≡◌, ℕ, true, List, [], ◌∷◌, map, length, ◌==◌, nat_eq, refl, ap, sym, ◌∙◌, arith}
use Rattle.std.specs.List.{filter}
use Rattle.raft_membership.specs.Membership.{learner_ids}
use Rattle.raft_group_step.specs.Values.{Membership}

all_stay : (ids : List ℕ) → filter (λ id. true) ids ≡ ids
all_stay [] = refl
all_stay (id ∷ ids) = ap (λ rest. id ∷ rest) (all_stay ids)

-- all nodes are learners
pub all_are_learners : (configs : List (List ℕ)) (nodes : List (ℕ × List ℕ)) → configs ≡ []
    → learner_ids nat_eq configs nodes ≡ map (λ (x : ℕ × List ℕ). x.0) nodes
all_are_learners configs nodes e =
    ap (λ groups. learner_ids nat_eq groups nodes) e ∙ all_stay (map (λ (x : ℕ × List ℕ). x.0) nodes)

-- the membership is its nodes
pub nodes_alone : (m : Membership) (nodes : List (ℕ × List ℕ)) → m.configs ≡ [] → nodes ≡ m.nodes
    → record { configs = []; nodes = nodes } ≡ m
nodes_alone m nodes none same =
    let with_groups : List (List ℕ) → Membership = λ groups. record { configs = groups; nodes = nodes }
    in let with_nodes : List (ℕ × List ℕ) → Membership = λ others. record { configs = m.configs; nodes = others }
    in ap with_groups (sym none) ∙ ap with_nodes same

pub no_group : (groups : List (List ℕ)) → (length groups == 0) ≡ true → groups ≡ []
no_group [] h = refl
no_group (group ∷ groups) h = grind arith
