-- Log ids that stand at consecutive places: what lists of them become by their places.
use Rattle.std.specs.Prelude.{◌≡◌, ℕ, zero, suc, ◌+◌, ◌-◌, ◌<◌, ◌≤◌, ◌==◌, nat_lt, nat_le, true, false, List, [], ◌∷◌, ◌++◌, length, take, drop, Option, Some, None, refl}
use Rattle.std.specs.List.{slice_get, fold}
use Rattle.std.proofs.Common.{⊎_elim, sym, ap, ◌∙◌, subst, arith, append-nil, append_assoc}
use Rattle.std.proofs.lemmas.Bool.{cases_lt}
use Rattle.std.proofs.lemmas.Bool.Decides.{nat_tests}
use Rattle.raft_values.specs.declared.log_id.LogId.{LogId}
use Rattle.raft_log_ids.specs.LogIdList.{last_id, id_at, ids_between, appended, extended, truncated, from_place}

-- the one is below the other, or not
pub by_order : {P : Type 0} (a b : ℕ) → (a < b → P) → (b ≤ a → P) → P
by_order a b f g = ⊎_elim f g (cases_lt a b)

-- the log ids stand at the places from this one on
abbrev pub Placed : ℕ → List (LogId ℕ) → Type 0
Placed place [] = Unit {0}
Placed place (id ∷ ids) = (id.index ≡ place) × Placed (suc place) ids

-- what there is ends before the place
abbrev pub EndsBefore : Option (LogId ℕ) → ℕ → Type 0
EndsBefore None place = Unit {0}
EndsBefore (Some last) place = last.index + 1 ≡ place

none_between : (found : Option (LogId ℕ)) (place : ℕ) → EndsBefore found place → ids_between found place ≡ []
none_between None place h = refl
none_between (Some last) place h =
    let none : place - (last.index + 1) ≡ 0 = omega arith in
    rw none refl

pub last_of : (ids : List (LogId ℕ)) (id : LogId ℕ) → last_id (ids ++ id ∷ []) ≡ Some id
last_of [] id = refl
last_of (x ∷ []) id = refl
last_of (x ∷ y ∷ ids) id =
    let at : length (x ∷ y ∷ ids ++ id ∷ []) - 1 ≡ suc (length (y ∷ ids ++ id ∷ []) - 1) = omega arith in
    rw at (last_of (y ∷ ids) id)

appended-placed : (ids : List (LogId ℕ)) (id : LogId ℕ) → EndsBefore (last_id ids) id.index → appended ids id ≡ ids ++ id ∷ []
appended-placed ids id h =
    ap (λ between. (ids ++ between) ++ id ∷ []) (none_between (last_id ids) id.index h) ∙ ap (λ front. front ++ id ∷ []) (append-nil ids)

-- log ids that go on where others end come right behind them
pub extended-placed : (ids more : List (LogId ℕ)) (place : ℕ) → EndsBefore (last_id ids) place → Placed place more → extended ids more ≡ ids ++ more
extended-placed ids [] place h p = sym (append-nil ids)
extended-placed ids (id ∷ more) place h p =
    let one : appended ids id ≡ ids ++ id ∷ [] = appended-placed ids id (subst (EndsBefore (last_id ids)) (sym p.0) h) in
    let at : id.index + 1 ≡ suc place = let e : id.index ≡ place = p.0 in omega arith in
    let ends : EndsBefore (last_id (ids ++ id ∷ [])) (suc place) = subst (λ found. EndsBefore found (suc place)) (sym (last_of ids id)) at in
    ap (λ start. fold appended start more) one ∙ extended-placed (ids ++ id ∷ []) more (suc place) ends p.1 ∙ append_assoc ids (id ∷ []) more

abbrev none : List (LogId ℕ)
none = []

take-none : (n : ℕ) → take n none ≡ none
take-none zero = refl
take-none (suc n) = refl

drop-none : (n : ℕ) → drop n none ≡ none
drop-none zero = refl
drop-none (suc n) = refl

all_gone : (at : ℕ) (ids : List (LogId ℕ)) (place : ℕ) → Placed place ids → at ≤ place → truncated ids at ≡ []
all_gone at [] place p l = refl
all_gone at (id ∷ ids) place p l =
    let out : nat_lt id.index at ≡ false = let e : id.index ≡ place = p.0 in grind (arith, nat_tests, e, l) in
    rw out (all_gone at ids (suc place) p.1 (omega arith))

-- those below a place are the first ones
pub truncated-placed : (at : ℕ) (ids : List (LogId ℕ)) (place : ℕ) → Placed place ids → truncated ids at ≡ take (at - place) ids
truncated-placed at [] place p = sym (take-none (at - place))
truncated-placed at (id ∷ ids) place p =
    by_order place at
    (λ l. let kept : nat_lt id.index at ≡ true = let e : id.index ≡ place = p.0 in grind (arith, nat_tests, e, l) in
    let more : at - place ≡ suc (at - suc place) = omega arith in
    rw (kept, more) (ap (λ rest. id ∷ rest) (truncated-placed at ids (suc place) p.1)))
    (λ l. let none : at - place ≡ 0 = omega arith in rw none (all_gone at (id ∷ ids) place p l))

all_kept : (at : ℕ) (ids : List (LogId ℕ)) (place : ℕ) → Placed place ids → at ≤ place → from_place at ids ≡ ids
all_kept at [] place p l = refl
all_kept at (id ∷ ids) place p l =
    let kept : nat_le at id.index ≡ true = let e : id.index ≡ place = p.0 in grind (arith, nat_tests, e, l) in
    rw kept (ap (λ rest. id ∷ rest) (all_kept at ids (suc place) p.1 (omega arith)))

-- those from a place on are the last ones
pub from_place-placed : (at : ℕ) (ids : List (LogId ℕ)) (place : ℕ) → Placed place ids → from_place at ids ≡ drop (at - place) ids
from_place-placed at [] place p = sym (drop-none (at - place))
from_place-placed at (id ∷ ids) place p =
    by_order place at
    (λ l. let gone : nat_le at id.index ≡ false = let e : id.index ≡ place = p.0 in grind (arith, nat_tests, e, l) in
    let more : at - place ≡ suc (at - suc place) = omega arith in
    rw (gone, more) (from_place-placed at ids (suc place) p.1))
    (λ l. let none : at - place ≡ 0 = omega arith in rw none (all_kept at (id ∷ ids) place p l))

-- below the first one there is none
pub below_first : (at : ℕ) (ids : List (LogId ℕ)) (place : ℕ) → Placed place ids → at < place → id_at ids at ≡ None
below_first at [] place p l = refl
below_first at (id ∷ ids) place p l =
    let other : (id.index == at) ≡ false = let e : id.index ≡ place = p.0 in grind (arith, nat_tests, e, l) in
    rw other (below_first at ids (suc place) p.1 (omega arith))

-- the log id at a place is found by counting
pub id_at-placed : (at : ℕ) (ids : List (LogId ℕ)) (place : ℕ) → Placed place ids → place ≤ at → id_at ids at ≡ slice_get ids (at - place)
id_at-placed at [] place p l = refl
id_at-placed at (id ∷ ids) place p l =
    by_order place at
    (λ m. let other : (id.index == at) ≡ false = let e : id.index ≡ place = p.0 in grind (arith, nat_tests, e, m) in
    let more : at - place ≡ suc (at - suc place) = omega arith in
    rw (other, more) (id_at-placed at ids (suc place) p.1 (omega arith)))
    (λ m. let same : (id.index == at) ≡ true = let e : id.index ≡ place = p.0 in grind (arith, nat_tests, e, l, m) in
    let none : at - place ≡ 0 = omega arith in rw (same, none) refl)

behind_last : (x : LogId ℕ) (ids : List (LogId ℕ)) (place : ℕ) → Placed place (x ∷ ids) → (last : LogId ℕ) → slice_get (x ∷ ids) (length ids) ≡ Some last → last.index ≡ place + length ids
behind_last x [] place p last e = let same : x ≡ last = cc in subst (λ (y : LogId ℕ). y.index ≡ place + 0) same (let f : x.index ≡ place = p.0 in omega arith)
behind_last x (y ∷ ids) place p last e =
    let f : last.index ≡ suc place + length ids = behind_last y ids (suc place) p.1 last e in omega arith

-- where placed log ids end
pub ends-placed : (ids : List (LogId ℕ)) (place : ℕ) → Placed place ids → EndsBefore (last_id ids) (place + length ids)
ends-placed [] place p = tt
ends-placed (x ∷ ids) place p =
    let at : length (x ∷ ids) - 1 ≡ length ids = omega arith in
    rw at (ends_found (slice_get (x ∷ ids) (length ids)) refl)
  where
    ends_found : (found : Option (LogId ℕ)) → slice_get (x ∷ ids) (length ids) ≡ found → EndsBefore found (place + length (x ∷ ids))
    ends_found None e = tt
    ends_found (Some last) e = let f : last.index ≡ place + length ids = behind_last x ids place p last e in omega arith
