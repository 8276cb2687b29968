-- A leader's log ids from one place to another: they join, and a test of places parts them.
use Rattle.std.proofs.Common.{◌≡◌, ℕ, zero, suc, ◌+◌, ◌-◌, ◌<◌, ◌≤◌, Bool, true, false, List, [], ◌∷◌, ◌++◌, map, refl, ap, sym, arith}
use Rattle.std.specs.Prelude.{None}
use Rattle.std.specs.List.{range_with_len, filter, find}
use Rattle.raft_values.specs.declared.vote.LeaderId.{LeaderId}
use Rattle.raft_values.specs.declared.log_id.LogId.{LogId}
use Rattle.raft_log_ids.specs.LogIdList.{leader_ids}

module _ {K : Type 0} (leader : LeaderId K) where
  -- the log id at a place
  abbrev pub id_of : ℕ → LogId K
  id_of index = record { leader_id = leader; index = index }

  -- so many log ids from a place on
  abbrev pub run : ℕ → ℕ → List (LogId K)
  run from n = map id_of (range_with_len from n)

  run_parts : (a b p q n : ℕ) → b ≡ a + p → n ≡ p + q → run a n ≡ run a p ++ run b q
  run_parts a b zero q n e f =
      let at : b ≡ a = omega arith in
      let long : n ≡ q = omega arith in
      rw (at, long) refl
  run_parts a b (suc p) q n e f =
      let long : n ≡ suc (p + q) = omega arith in
      rw long (ap (λ ids. id_of a ∷ ids) (run_parts (a + 1) b p q (p + q) (omega arith) refl))

  -- two stretches that meet are one
  pub leader_ids-join : (a b c : ℕ) → a ≤ b → b ≤ c → leader_ids leader a b ++ leader_ids leader b c ≡ leader_ids leader a c
  leader_ids-join a b c h k = sym (run_parts a b (b - a) (c - b) (c - a) (omega arith) (omega arith))

  pub leader_ids-none : (a b : ℕ) → b ≤ a → leader_ids leader a b ≡ []
  leader_ids-none a b h = let none : b - a ≡ 0 = omega arith in rw none refl

  pub leader_ids-one : (a b : ℕ) → b ≡ a + 1 → leader_ids leader a b ≡ id_of a ∷ []
  leader_ids-one a b h = let one : b - a ≡ suc zero = omega arith in rw one refl

  pub leader_ids-first : (a b : ℕ) → a < b → leader_ids leader a b ≡ id_of a ∷ leader_ids leader (a + 1) b
  leader_ids-first a b h = let one : b - a ≡ suc (b - (a + 1)) = omega arith in rw one refl

  run-all : (test : LogId K → Bool) (a n : ℕ) → ((k : ℕ) → a ≤ k → k < a + n → test (id_of k) ≡ true) → filter test (run a n) ≡ run a n
  run-all test a zero h = refl
  run-all test a (suc n) h =
      rw (h a (omega arith) (omega arith)) (ap (λ ids. id_of a ∷ ids) (run-all test (a + 1) n (λ k l m. h k (omega arith) (omega arith))))

  run-no : (test : LogId K → Bool) (a n : ℕ) → ((k : ℕ) → a ≤ k → k < a + n → test (id_of k) ≡ false) → filter test (run a n) ≡ []
  run-no test a zero h = refl
  run-no test a (suc n) h =
      rw (h a (omega arith) (omega arith)) (run-no test (a + 1) n (λ k l m. h k (omega arith) (omega arith)))

  run-unfound : (test : LogId K → Bool) (a n : ℕ) → ((k : ℕ) → a ≤ k → k < a + n → test (id_of k) ≡ false) → find test (run a n) ≡ None
  run-unfound test a zero h = refl
  run-unfound test a (suc n) h =
      rw (h a (omega arith) (omega arith)) (run-unfound test (a + 1) n (λ k l m. h k (omega arith) (omega arith)))

  -- what a test does that all of them pass, or none
  pub filter-all : (test : LogId K → Bool) (a b : ℕ) → ((k : ℕ) → a ≤ k → k < b → test (id_of k) ≡ true) → filter test (leader_ids leader a b) ≡ leader_ids leader a b
  filter-all test a b h = run-all test a (b - a) (λ k l m. h k l (omega arith))

  pub filter-no : (test : LogId K → Bool) (a b : ℕ) → ((k : ℕ) → a ≤ k → k < b → test (id_of k) ≡ false) → filter test (leader_ids leader a b) ≡ []
  filter-no test a b h = run-no test a (b - a) (λ k l m. h k l (omega arith))

  pub find-no : (test : LogId K → Bool) (a b : ℕ) → ((k : ℕ) → a ≤ k → k < b → test (id_of k) ≡ false) → find test (leader_ids leader a b) ≡ None
  find-no test a b h = run-unfound test a (b - a) (λ k l m. h k l (omega arith))
