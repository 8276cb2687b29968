-- Memberships that are equal by their test are the same.
use Rattle.std.specs.Prelude.{◌≡◌, ℕ, nat_eq, ◌&&◌, true, List}
use Rattle.std.specs.Cmp.Lexicographic.{pointwise}
use Rattle.std.proofs.Common.{ap₂, eqb-true}
use Rattle.std.proofs.lemmas.Bool.{and_parts}
use Rattle.raft_group_step.specs.Values.{Membership, configs_eq, nodes_eq, membership_eq}
use Rattle.raft_laws.proofs.TrackCalls.{configs_same, same_points}

abbrev node-of : ℕ → List ℕ → ℕ × List ℕ
node-of n address = (n, address)

same_node : (x y : ℕ × List ℕ) → (nat_eq x.0 y.0 && pointwise nat_eq x.1 y.1) ≡ true → x ≡ y
same_node x y t =
    let p = and_parts (nat_eq x.0 y.0) (pointwise nat_eq x.1 y.1) t in
    ap₂ node-of (eqb-true x.0 y.0 p.0) (same_points nat_eq eqb-true x.1 y.1 p.1)

abbrev membership-of : List (List ℕ) → List (ℕ × List ℕ) → Membership
membership-of configs nodes = record { configs = configs; nodes = nodes }

pub same_membership : (x y : Membership) → membership_eq x y ≡ true → x ≡ y
same_membership x y t =
    let p = and_parts (configs_eq x.configs y.configs) (nodes_eq x.nodes y.nodes) t in
    ap₂ membership-of (configs_same x.configs y.configs p.0) (same_points _ same_node x.nodes y.nodes p.1)
