-- A map of 4,096 keys.
use Rattle.std.proofs.Common.{◌≡◌, ℕ, zero, suc, ◌+◌, ◌<◌, ◌≤◌, ◌^◌, Bool, true, false, cond, not, List, [], ◌∷◌, length, Option, Some, None, refl, sym, ap, ◌∙◌, arith}
use Rattle.std.specs.Prelude.{◌&&◌, codes, is_some, nat_le}
use Rattle.std.specs.FinMap as finite
use Rattle.std.specs.Int.{w32, from_be_bytes}
use Rattle.std.specs.Cmp.Lexicographic.{nat_list_cmp_total}
use Rattle.std.proofs.lemmas.Bool.Decides.{nat_tests}
use Rattle.raft_bytes.proofs.Numbers.{wide32}
use Rattle.raft_wire.specs.declared.kv.KvCommand.TheVariants.{Put}
use Rattle.raft_kv.specs.Map.{key_count_limit, in_order, spelled_map, IsWithin}
use Rattle.raft_kv.specs.Machine.{answer_of, answer_to, is_full_for, kv}
use Rattle.raft_kv.specs.Rows.{key_of, numbers_below, put_apple}
use Rattle.raft_kv.proofs.KeyLaws.{differs}
use Rattle.raft_kv.proofs.WithinMaps.{answer_given, empty_within, insert_within, itself, step_of}
use Rattle.raft_kv.proofs.RowLemmas.{put_fits}

abbrev one : List ℕ
one = 1 ∷ []

apart : (m n : ℕ) → n < m → m < 2 ^ 32 → key_of m ≡ key_of n → ⊥
apart m n lt low same =
    let number : m ≡ n = sym (wide32.again m low) ∙ ap (from_be_bytes w32) same ∙ wide32.again n (omega (arith, lt, low)) in
    absurd (omega (arith, lt, number))

-- what a key other than the last one has
skipped : (n : ℕ) (q : List ℕ) → (q ≡ key_of n → ⊥) → finite.get (finite.insert (numbers_below n) (key_of n) one) q ≡ finite.get (numbers_below n) q
skipped n q other =
    finite.get-insert nat_list_cmp_total (numbers_below n) (key_of n) one q ∙ ap (λ (b : Bool). cond b (Some one) (finite.get (numbers_below n) q)) (differs q (key_of n) other)

absent : (n m : ℕ) → n ≤ m → m < 2 ^ 32 → finite.get (numbers_below n) (key_of m) ≡ None
unfolding numbers_below
absent zero m le low = finite.get-empty in_order (key_of m)
absent (suc n) m le low = skipped n (key_of m) (apart m n (omega (arith, le)) low) ∙ absent n m (omega (arith, le)) low

no_word : (n : ℕ) → finite.get (numbers_below n) (codes "apple") ≡ None
unfolding numbers_below
no_word zero = finite.get-empty in_order (codes "apple")
no_word (suc n) = skipped n (codes "apple") (λ e. let sizes : 5 ≡ 4 = ap length e in absurd (omega (arith, sizes))) ∙ no_word n

pub counted : (n : ℕ) → n ≤ key_count_limit → finite.len (numbers_below n) ≡ n
unfolding numbers_below
counted zero le = finite.len-empty in_order (List ℕ)
counted (suc n) le =
    let before = counted n (omega (arith, le)) in
    let more : finite.len (numbers_below n) + 1 ≡ suc n = omega (arith, before) in
    finite.len-insert nat_list_cmp_total (numbers_below n) (key_of n) one
    ∙ ap (λ (o : Option (List ℕ)). cond (is_some o) (finite.len (numbers_below n)) (finite.len (numbers_below n) + 1)) (absent n n (omega arith) (omega (arith, le))) ∙ more

has_place : (n : ℕ) → n + 1 ≤ key_count_limit → is_full_for (numbers_below n) (key_of n) ≡ false
has_place n le =
    let few : nat_le key_count_limit n ≡ false = grind (arith, nat_tests, le) in
    ap (λ (k : ℕ). nat_le key_count_limit k && not (finite.contains_key (numbers_below n) (key_of n))) (counted n (omega (arith, le)))
    ∙ ap (λ (b : Bool). b && not (finite.contains_key (numbers_below n) (key_of n))) few

pub numbers_within : (n : ℕ) → n ≤ key_count_limit → IsWithin (numbers_below n)
unfolding numbers_below
numbers_within zero le = empty_within
numbers_within (suc n) le =
    insert_within (numbers_below n) (key_of n) one (has_place n (omega (arith, le))) (record { some = omega arith; few = omega arith }) (record { some = omega arith; few = omega arith }) (numbers_within n (omega (arith, le)))

present : (n m : ℕ) → m + 1 ≤ n → n ≤ key_count_limit → finite.get (numbers_below n) (key_of m) ≡ Some one
unfolding numbers_below
present zero m lt le = absurd (omega (arith, lt))
present (suc n) m lt le = by (nat_le n m) refl (λ low. present n m low (omega (arith, le))) where
  by : (b : Bool) → nat_le n m ≡ b → (m + 1 ≤ n → finite.get (numbers_below n) (key_of m) ≡ Some one) → finite.get (finite.insert (numbers_below n) (key_of n) one) (key_of m) ≡ Some one
  by true at before =
      let same : m ≡ n = grind (arith, nat_tests, at, lt) in
      ap (λ (k : ℕ). finite.get (finite.insert (numbers_below n) (key_of n) one) (key_of k)) same
      ∙ finite.get-insert nat_list_cmp_total (numbers_below n) (key_of n) one (key_of n) ∙ ap (λ (b : Bool). cond b (Some one) (finite.get (numbers_below n) (key_of n))) (itself (key_of n))
  by false at before =
      let low : m + 1 ≤ n = grind (arith, nat_tests, at) in
      finite.get-insert nat_list_cmp_total (numbers_below n) (key_of n) one (key_of m)
      ∙ ap (λ (b : Bool). cond b (Some one) (finite.get (numbers_below n) (key_of m))) (differs (key_of m) (key_of n) (λ e. apart n m (omega (arith, low)) (omega (arith, le)) (sym e))) ∙ before low

-- ---- the full map

full_apple : is_full_for (numbers_below key_count_limit) (codes "apple") ≡ true
full_apple =
    ap (λ (k : ℕ). nat_le key_count_limit k && not (finite.contains_key (numbers_below key_count_limit) (codes "apple"))) (counted key_count_limit (omega arith))
    ∙ ap (λ (o : Option (List ℕ)). nat_le key_count_limit key_count_limit && not (is_some o)) (no_word key_count_limit)

full_known : is_full_for (numbers_below key_count_limit) (key_of 7) ≡ false
full_known =
    ap (λ (k : ℕ). nat_le key_count_limit k && not (finite.contains_key (numbers_below key_count_limit) (key_of 7))) (counted key_count_limit (omega arith))
    ∙ ap (λ (o : Option (List ℕ)). nat_le key_count_limit key_count_limit && not (is_some o)) (present key_count_limit 7 (omega arith) (omega arith))

pub full_answer : kv.answer (spelled_map (numbers_below key_count_limit)) 0 put_apple ≡ 2 ∷ []
full_answer =
    answer_given (numbers_below key_count_limit) (Put (codes "apple") (codes "red")) (numbers_within key_count_limit (omega arith)) put_fits
    ∙ ap (λ (b : Bool). cond b (2 ∷ []) (answer_of (finite.get (numbers_below key_count_limit) (codes "apple")))) full_apple

pub full_step : kv.step (spelled_map (numbers_below key_count_limit)) 0 put_apple ≡ spelled_map (numbers_below key_count_limit)
full_step =
    step_of (numbers_below key_count_limit) (Put (codes "apple") (codes "red")) (numbers_within key_count_limit (omega arith)) put_fits
    ∙ ap (λ (b : Bool). spelled_map (cond b (numbers_below key_count_limit) (finite.insert (numbers_below key_count_limit) (codes "apple") (codes "red")))) full_apple

pub known_answer : answer_to (numbers_below key_count_limit) (Put (key_of 7) (codes "red")) ≡ 1 ∷ 1 ∷ []
known_answer =
    ap (λ (b : Bool). cond b (2 ∷ []) (answer_of (finite.get (numbers_below key_count_limit) (key_of 7)))) full_known ∙ ap answer_of (present key_count_limit 7 (omega arith) (omega arith))
