-- The ids of worked runs are ids as nodes have them.
use Rattle.std.specs.Prelude.{ℕ, ◌<◌, ◌^◌, nat_eq, List}
use Rattle.std.proofs.Common.{arith, eqb-true, ⊎_elim}
use Rattle.raft_laws.specs.OneList.{AreNodeIds}
use Rattle.raft_laws.specs.Example.{three}
use Rattle.raft_laws.specs.OneVoter.{one}
use Rattle.raft_laws.proofs.BallotSafe.{Among}
use Rattle.raft_laws.proofs.Counts.{any_among}

small_ids : (ids : List ℕ) → ((x : ℕ) → Among x ids → x < 2 ^ 64) → AreNodeIds ids
small_ids ids small n h =
    let x = any_among (λ x. nat_eq x n) ids h in
    let l = small x.0 x.1 in
    let e = eqb-true x.0 n x.2 in
    omega arith

pub one_is_small : AreNodeIds one
one_is_small n h = small_ids one (λ x a. ⊎_elim (λ e. omega arith) (λ none. absurd none) a) n h

pub three_are_small : AreNodeIds three
three_are_small n h =
    small_ids three
    (λ x a.
    ⊎_elim
    (λ e. omega arith)
    (λ b. ⊎_elim (λ e. omega arith) (λ c. ⊎_elim (λ e. omega arith) (λ none. absurd none) c) b)
    a)
    n h
