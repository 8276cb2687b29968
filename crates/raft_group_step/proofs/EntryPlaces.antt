-- Where the entries of a log stand.
use Rattle.std.specs.Prelude.{◌≡◌, ℕ, ◌+◌, ◌-◌, ◌<◌, ◌≤◌, nat_lt, true, false, List, [], ◌∷◌, Option, Some, None, drop, slice_get, refl}
use Rattle.std.proofs.Common.{ap, ◌∙◌, zero, suc, arith}
use Rattle.std.proofs.lemmas.Bool.{cond_both, ltb-false}
use Rattle.std.proofs.lemmas.Option.{slice_get_within}
use Rattle.raft_values.specs.declared.log_id.LogId.{LogId}
use Rattle.raft_group_step.specs.Values.{Entry}
use Rattle.raft_group_step.specs.StoredGroup.{StoredGroup, end_place, entry_at, first_place, has_id_in_log, id_of, is_id}

-- a place of a list's rest is one of the list
pub slice_drop : {A : Type 0} (k : ℕ) (xs : List A) (i : ℕ) → slice_get (drop k xs) i ≡ slice_get xs (k + i)
slice_drop zero xs i = let e : i ≡ 0 + i = omega arith in ap (slice_get xs) e
slice_drop (suc k) [] i = refl
slice_drop (suc k) (x ∷ xs) i = let e : suc (k + i) ≡ suc k + i = omega arith in slice_drop k xs i ∙ ap (slice_get (x ∷ xs)) e

-- an entry of the log stands between its first place and its end
pub entry_within : (s : StoredGroup) (place : ℕ) (e : Entry) → entry_at s place ≡ Some e → (first_place s ≤ place) × (place < end_place s) × (slice_get s.log (place - first_place s) ≡ Some e)
entry_within s place e =
    cond_both (nat_lt place (first_place s)) None (slice_get s.log (place - first_place s)) (λ o. o ≡ Some e → (first_place s ≤ place) × (place < end_place s) × (slice_get s.log (place - first_place s) ≡ Some e))
    (λ t h. absurd (let f : None ≡ Some e = h in cc))
    (λ t h.
    let low = ltb-false place (first_place s) t in
    let high = slice_get_within s.log (place - first_place s) e h in
    (omega (arith, low), omega (arith, low, high), h))

-- so does one whose log id the log has
pub in_log_within : (s : StoredGroup) (id : LogId ℕ) → has_id_in_log s id ≡ true → id.index < end_place s
in_log_within s id t = go (entry_at s id.index) refl t
  where
    go : (o : Option Entry) → entry_at s id.index ≡ o → is_id id (id_of o) ≡ true → id.index < end_place s
    go None is f = absurd (let g : false ≡ true = f in cc)
    go (Some e) is f = (entry_within s id.index e is).1
