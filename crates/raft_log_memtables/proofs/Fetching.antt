-- Entries that are fetched one after the other.
use Rattle.std.proofs.Common.{◌≡◌, ◌<◌, ◌≤◌, ◌+◌, ◌-◌, ◌^◌, ◌⊎◌, ℕ, min, List, [], ◌∷◌, ◌++◌, length, Option, Some, None, refl, sym, ap, subst, ◌∙◌, ⊎_elim, arith}
use Rattle.std.specs.Prelude.{IfSome, slice_get, sum_by}
use Rattle.std.proofs.lemmas.Option.{slice_get-get_or}
use Rattle.std.proofs.lemmas.List.{get_or_append_left, length-append}
use Rattle.std.proofs.lemmas.List.Sums.{sum_by_push}
use Rattle.std.proofs.Math.Seq.{get_or-append_seam}
use Rattle.raft_log_records.specs.declared.item.EntryIndex.{EntryIndex}
use Rattle.raft_log_memtables.specs.Fetch.{Fits}

abbrev total : List EntryIndex → ℕ
total es = sum_by (λ (e : EntryIndex). e.entry_len) es

-- there is none yet, or the entry fits
abbrev pub MayTake : Option ℕ → ℕ → ℕ → ℕ → Type 0
MayTake most taken size more = (taken ≡ 0) ⊎ (IfSome most (λ m. size + more ≤ m) × IfSome most (λ m. size + more < 2 ^ 64))

-- what the loop keeps
pub record Taken (entry : ℕ → Option EntryIndex) (begin index : ℕ) (most : Option ℕ) (size : ℕ) (es : List EntryIndex) : Type 0 where
  pub each : (i : ℕ) → i < length es → slice_get es i ≡ entry (begin + i)
  pub reached : begin + length es ≡ index
  pub fit : 1 < length es → Fits most es
  pub counted : IfSome most (λ m. size ≡ total es)

before_push : (es : List EntryIndex) (e : EntryIndex) (i : ℕ) → i < length es → slice_get (es ++ e ∷ []) i ≡ slice_get es i
before_push es e i h =
    slice_get-get_or (es ++ e ∷ []) i e (omega (arith, length-append es (e ∷ []))) ∙ ap (λ (x : EntryIndex). Some x) (get_or_append_left es (e ∷ []) e i h) ∙ sym (slice_get-get_or es i e h)

at_push : (es : List EntryIndex) (e : EntryIndex) → slice_get (es ++ e ∷ []) (length es) ≡ Some e
at_push es e = slice_get-get_or (es ++ e ∷ []) (length es) e (omega (arith, length-append es (e ∷ []))) ∙ ap (λ (x : EntryIndex). Some x) (get_or-append_seam es e [] e)

each_more : (entry : ℕ → Option EntryIndex) (begin index : ℕ) (es : List EntryIndex) (e : EntryIndex) → ((i : ℕ) → i < length es → slice_get es i ≡ entry (begin + i)) → begin + length es ≡ index → entry index ≡ Some e
    → (i : ℕ) → i < length (es ++ e ∷ []) → slice_get (es ++ e ∷ []) i ≡ entry (begin + i)
each_more entry begin index es e h r k i l =
    ⊎_elim
    (λ before. before_push es e i before ∙ h i before)
    (λ here. let at : begin + i ≡ index = omega (arith, here, r) in
    ap (λ (n : ℕ). slice_get (es ++ e ∷ []) n) here ∙ at_push es e ∙ sym k ∙ sym (ap entry at))
    (below_or_at i (length es) (omega (arith, l, length-append es (e ∷ []))))
  where
    below_or_at : (i n : ℕ) → i < n + 1 → (i < n) ⊎ (i ≡ n)
    below_or_at i n h = grind arith

fit_more : (most : Option ℕ) (size : ℕ) (es : List EntryIndex) (e : EntryIndex) → IfSome most (λ m. size ≡ total es) → MayTake most (length es) size e.entry_len → 1 < length (es ++ e ∷ []) → Fits most (es ++ e ∷ [])
fit_more None size es e c m l = tt
fit_more (Some most) size es e c m l =
    ⊎_elim
    (λ none. absurd (omega (arith, none, l, length-append es (e ∷ []))))
    (λ fits. omega (arith, fits.0, c, sum_by_push (λ (x : EntryIndex). x.entry_len) es e))
    m

empty_total : (es : List EntryIndex) → length es ≡ 0 → total es ≡ 0
empty_total [] h = refl
empty_total (e ∷ es) h = absurd (omega arith)

counted_more : (most : Option ℕ) (size after : ℕ) (es : List EntryIndex) (e : EntryIndex) → IfSome most (λ m. size ≡ total es) → MayTake most (length es) size e.entry_len → e.entry_len < 2 ^ 32
    → after ≡ min (size + e.entry_len) (2 ^ 64 - 1) → IfSome most (λ m. after ≡ total (es ++ e ∷ []))
counted_more None size after es e c m s a = tt
counted_more (Some most) size after es e c m s a =
    ⊎_elim
    (λ none. omega (arith, a, c, s, empty_total es none, sum_by_push (λ (x : EntryIndex). x.entry_len) es e))
    (λ fits. omega (arith, a, c, fits.1, sum_by_push (λ (x : EntryIndex). x.entry_len) es e))
    m

pub taken_more : (entry : ℕ → Option EntryIndex) (begin index : ℕ) (most : Option ℕ) (size more after : ℕ) (es new : List EntryIndex) (e : EntryIndex) → new ≡ es ++ e ∷ [] → entry index ≡ Some e → more ≡ e.entry_len
    → MayTake most (length es) size more → more < 2 ^ 32 → after ≡ min (size + more) (2 ^ 64 - 1) → Taken entry begin index most size es → Taken entry begin (index + 1) most after new
taken_more entry begin index most size more after es new e n k is m s a t =
    let may : MayTake most (length es) size e.entry_len = subst (λ (x : ℕ). MayTake most (length es) size x) is m in
    subst (Taken entry begin (index + 1) most after) (sym n) (record {
      each = each_more entry begin index es e t.each t.reached k;
      reached = omega (arith, t.reached, length-append es (e ∷ []));
      fit = fit_more most size es e t.counted may;
      counted = counted_more most size after es e t.counted may (omega (arith, s, is)) (omega (arith, a, is));
    })
