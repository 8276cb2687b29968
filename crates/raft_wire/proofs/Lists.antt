-- Lists whose count stands before them.
use Rattle.std.proofs.Common.{◌≡◌, ℕ, zero, suc, ◌+◌, ◌-◌, ◌^◌, ◌<◌, ◌≤◌, List, [], ◌∷◌, ◌++◌, length, Option, None, Result, Ok, Err, refl, sym, ap, subst, ◌∙◌, append_assoc, arith}
use Rattle.std.specs.List.{flat_map}
use Rattle.std.specs.Int.{w32, to_be_bytes}
use Rattle.std.proofs.lemmas.List.{append-nil}
use Rattle.std.proofs.lemmas.List.Concat.{flat_map-cons}
use Rattle.raft_wire.specs.declared.error.FrameFault.{FrameFault}
use Rattle.raft_wire.specs.declared.error.FrameError.{FrameError}
use Rattle.raft_wire.specs.declared.error.FrameError.TheVariants as errors
use Rattle.raft_wire.specs.Reader.{Reader, ◌>>=◌, Fails, many_at, count_at, counted_at}
use Rattle.raft_wire.specs.Memberships.{Chained, spelled_list}
use Rattle.raft_bytes.specs.Bytes.{AreBytes}
use Rattle.raft_bytes.proofs.Bytes.{bind_ok, ok_is, Takes, Takes-then}
use Rattle.raft_wire.proofs.Fitting.{Reads, count_takes, count_again}

module _ {A : Type 0} (one : Option ℕ → Reader A) (left : A → Option ℕ) (spelled : A → List ℕ) (F : Option ℕ → A → Type 0) (r : (last : Option ℕ) → Reads (one last) spelled (F last)) where
  many_take : (n : ℕ) (last : Option ℕ) (bytes : List ℕ) (x : List A × List ℕ) → AreBytes bytes → many_at one left n last bytes ≡ Ok x → Takes bytes (flat_map spelled x.0) x.1 × (length x.0 ≡ n) × Chained F left last x.0
  unfolding many_at
  many_take zero last bytes x fits e =
      subst (λ (y : List A × List ℕ). Takes bytes (flat_map spelled y.0) y.1 × (length y.0 ≡ 0) × Chained F left last y.0) (ok_is ([], bytes) x e) (record { parts = refl; rest_fits = fits }, refl, tt)
  many_take (suc n) last bytes x fits e =
      let a = bind_ok (one last bytes) (λ first. many_at one left n (left first.0) first.1 >>= λ others. Ok (first.0 ∷ others.0, others.1)) x e in
      let b = bind_ok (many_at one left n (left a.0.0) a.0.1) (λ others. Ok (a.0.0 ∷ others.0, others.1)) x a.2 in
      let first = (r last).takes bytes a.0.0 a.0.1 fits a.1 in
      let second = many_take n (left a.0.0) a.0.1 b.0 first.0.rest_fits b.1 in
      let both = Takes-then bytes (spelled a.0.0) a.0.1 (flat_map spelled b.0.0) b.0.1 first.0 second.0 in
      let made : List A × List ℕ = (a.0.0 ∷ b.0.0, b.0.1) in
      subst (λ (y : List A × List ℕ). Takes bytes (flat_map spelled y.0) y.1 × (length y.0 ≡ suc n) × Chained F left last y.0) (ok_is made x b.2) (rw flat_map-cons both, ap suc second.1, (first.1, second.2))

  many_again : (xs : List A) (last : Option ℕ) (rest : List ℕ) → Chained F left last xs → many_at one left (length xs) last (flat_map spelled xs ++ rest) ≡ Ok (xs, rest)
  unfolding many_at
  many_again [] last rest h = refl
  many_again (x ∷ xs) last rest h =
      let regrouped : flat_map spelled (x ∷ xs) ++ rest ≡ spelled x ++ (flat_map spelled xs ++ rest) = ap (λ (l : List ℕ). l ++ rest) (flat_map-cons spelled x xs) ∙ append_assoc (spelled x) (flat_map spelled xs) rest in
      ap (many_at one left (suc (length xs)) last) regrouped ∙ rw ((r last).again x (flat_map spelled xs ++ rest) h.0, many_again xs (left x) rest h.1) refl

  counted_takes : (limit : ℕ) (bytes : List ℕ) (x : List A × List ℕ) → AreBytes bytes → counted_at one left limit bytes ≡ Ok x → Takes bytes (spelled_list spelled x.0) x.1 × ((length x.0 ≤ limit) × Chained F left None x.0)
  unfolding counted_at
  counted_takes limit bytes x fits e =
      let n = bind_ok (count_at limit bytes) (λ count. many_at one left count.0 None count.1) x e in
      let t = count_takes limit bytes n.0 fits n.1 in
      let u = many_take n.0.0 None n.0.1 x t.0.rest_fits n.2 in
      let both = Takes-then bytes (to_be_bytes w32 n.0.0) n.0.1 (flat_map spelled x.0) x.1 t.0 u.0 in
      (subst (λ (k : ℕ). Takes bytes (to_be_bytes w32 k ++ flat_map spelled x.0) x.1) (sym u.1) both, (omega (arith, t.1, u.1), u.2))

  counted_again : (limit : ℕ) (xs : List A) (rest : List ℕ) → limit < 2 ^ 32 → length xs ≤ limit → Chained F left None xs → counted_at one left limit (spelled_list spelled xs ++ rest) ≡ Ok (xs, rest)
  unfolding counted_at
  counted_again limit xs rest small le h =
      ap (counted_at one left limit) (append_assoc (to_be_bytes w32 (length xs)) (flat_map spelled xs) rest) ∙ rw (count_again limit (length xs) (flat_map spelled xs ++ rest) small le, many_again xs None rest h) refl

  pub counted_reads : (limit : ℕ) → limit < 2 ^ 32 → Reads (counted_at one left limit) (spelled_list spelled) (λ xs. (length xs ≤ limit) × Chained F left None xs)
  counted_reads limit small = record {
    takes = λ bytes xs rest fits e. counted_takes limit bytes (xs, rest) fits e;
    again = λ xs rest h. counted_again limit xs rest small h.0 h.1;
  }

-- ---- reading values one after the other, as a loop does

abbrev pub Read : Type 0 → Type 0
Read A = Result (List A × List ℕ) FrameFault

-- what was read before, and what is still read
abbrev pub with_front : {A : Type 0} → List A → Read A → Read A
with_front front read = read >>= λ x. Ok (front ++ x.0, x.1)

regroup : {A : Type 0} (front : List A) (a : A) (read : Read A) → with_front front (read >>= λ x. Ok (a ∷ x.0, x.1)) ≡ with_front (front ++ a ∷ []) read
regroup {A} front a (Ok x) = ap (λ (xs : List A). Ok (xs, x.1)) (simp append_assoc)
regroup front a (Err f) = refl

module _ {A : Type 0} (one : Option ℕ → Reader A) (left : A → Option ℕ) where
  pub goes_on : (front : List A) (count i : ℕ) (last : Option ℕ) (bytes : List ℕ) (a : A) (after : List ℕ) (total : Read A) → i < count → one last bytes ≡ Ok (a, after)
      → with_front front (many_at one left (count - i) last bytes) ≡ total → with_front (front ++ a ∷ []) (many_at one left (count - (i + 1)) (left a) after) ≡ total
  unfolding many_at
  goes_on front count i last bytes a after total lt h so_far =
      let k : count - i ≡ suc (count - (i + 1)) = omega arith in
      let step : with_front front (many_at one left (count - i) last bytes) ≡ with_front (front ++ a ∷ []) (many_at one left (count - (i + 1)) (left a) after) =
      rw (k, h) (regroup front a (many_at one left (count - (i + 1)) (left a) after)) in
      sym step ∙ so_far

  pub ends : (e : FrameError) (front : List A) (count i : ℕ) (last : Option ℕ) (bytes : List ℕ) (total : Read A) → i < count → Fails e (one last bytes)
      → with_front front (many_at one left (count - i) last bytes) ≡ total → Fails e total
  unfolding many_at
  ends errors.Memory front count i last bytes total lt h so_far = tt
  ends errors.StreamFailed front count i last bytes total lt h so_far = h
  ends (errors.Fault f) front count i last bytes total lt h so_far =
      let k : count - i ≡ suc (count - (i + 1)) = omega arith in
      let step : with_front front (many_at one left (count - i) last bytes) ≡ Err f = rw (k, h) refl in
      sym so_far ∙ step

  pub is_done : (front : List A) (count i : ℕ) (last : Option ℕ) (bytes : List ℕ) (total : Read A) → count ≤ i → with_front front (many_at one left (count - i) last bytes) ≡ total → total ≡ Ok (front, bytes)
  unfolding many_at
  is_done front count i last bytes total le so_far =
      let k : count - i ≡ 0 = omega arith in
      let step : with_front front (many_at one left (count - i) last bytes) ≡ Ok (front, bytes) = rw k (ap (λ (xs : List A). Ok (xs, bytes)) (append-nil front)) in
      sym so_far ∙ step
