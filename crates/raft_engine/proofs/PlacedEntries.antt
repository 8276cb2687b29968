-- Entries that stand at consecutive places, and the log ids of a stored group that they make.
use Rattle.std.specs.Prelude.{◌≡◌, ℕ, zero, suc, ◌+◌, ◌-◌, ◌<◌, ◌≤◌, ◌==◌, nat_lt, Bool, true, false, if◌then◌else◌, List, [], ◌∷◌, ◌++◌, length, take, drop, Option, Some, None, is_some, refl}
use Rattle.std.specs.List.{slice_get}
use Rattle.std.proofs.Common.{sym, ap, ◌∙◌, subst, arith}
use Rattle.std.proofs.lemmas.Bool.Decides.{nat_tests}
use Rattle.std.proofs.lemmas.List.{length-take}
use Rattle.raft_values.specs.declared.log_id.LogId.{LogId}
use Rattle.raft_values.specs.LogId.{next_place}
use Rattle.raft_log_ids.specs.LogIdList.{AllGoOn}
use Rattle.raft_group_step.specs.Values.{Entry, log_id_eq}
use Rattle.raft_group_step.specs.StoredGroup.{StoredGroup, first_place, end_place, entry_at, id_of, id_at, is_id, has_id_in_log, log_below}
use Rattle.raft_group_step.proofs.EntryPlaces.{entry_within}
use Rattle.raft_known_state.specs.KnownState.{ArePlaced, IsPlaced, entry_ids}
use Rattle.raft_known_state.proofs.PlacedIds.{by_order}
use Rattle.raft_messages.specs.Entries.{all_go_on, goes_on}

-- ---- lists

-- an entry stands where it is counted
pub found_at : (es : List Entry) (place n : ℕ) (e : Entry) → ArePlaced place es → slice_get es n ≡ Some e → e.log_id.index ≡ place + n
found_at [] place n e p f = cc
found_at (y ∷ es) place zero e p f =
    let same : y ≡ e = cc in subst (λ (z : Entry). z.log_id.index ≡ place + 0) same (let g : y.log_id.index ≡ place = p.0 in omega arith)
found_at (y ∷ es) place (suc n) e p f = let g : e.log_id.index ≡ suc place + n = found_at es (suc place) n e p.1 f in omega arith

pub taken : (es : List Entry) (place n : ℕ) → ArePlaced place es → ArePlaced place (take n es)
taken [] place zero p = tt
taken [] place (suc n) p = tt
taken (e ∷ es) place zero p = tt
taken (e ∷ es) place (suc n) p = (p.0, taken es (suc place) n p.1)

pub dropped : (es : List Entry) (place n : ℕ) → ArePlaced place es → ArePlaced (place + n) (drop n es)
dropped [] place zero p = tt
dropped [] place (suc n) p = tt
dropped (e ∷ es) place zero p = let same : place ≡ place + 0 = omega arith in subst (λ k. ArePlaced k (e ∷ es)) same p
dropped (e ∷ es) place (suc n) p =
    let same : suc place + n ≡ place + suc n = omega arith in subst (λ k. ArePlaced k (drop n es)) same (dropped es (suc place) n p.1)

pub get_of_taken : (es : List Entry) (n i : ℕ) → i < n → slice_get (take n es) i ≡ slice_get es i
get_of_taken es zero i l = absurd (omega arith)
get_of_taken [] (suc n) i l = refl
get_of_taken (e ∷ es) (suc n) zero l = refl
get_of_taken (e ∷ es) (suc n) (suc i) l = get_of_taken es n i (omega arith)

pub get_of_joined : (es more : List Entry) (i : ℕ) → i < length es → slice_get (es ++ more) i ≡ slice_get es i
get_of_joined [] more i l = absurd (omega arith)
get_of_joined (e ∷ es) more zero l = refl
get_of_joined (e ∷ es) more (suc i) l = get_of_joined es more i (omega arith)

pub get_of_dropped : (es : List Entry) (n i : ℕ) → slice_get (drop n es) i ≡ slice_get es (n + i)
get_of_dropped es zero i = let at : zero + i ≡ i = omega arith in ap (slice_get es) (sym at)
get_of_dropped [] (suc n) i = refl
get_of_dropped (e ∷ es) (suc n) i = let at : suc n + i ≡ suc (n + i) = omega arith in get_of_dropped es n i ∙ ap (slice_get (e ∷ es)) (sym at)

-- where nothing is found, the list has ended
pub none_past : (es : List Entry) (n : ℕ) → slice_get es n ≡ None → length es ≤ n
none_past [] n f = omega arith
none_past (e ∷ es) zero f = cc
none_past (e ∷ es) (suc n) f = let g : length es ≤ n = none_past es n f in omega arith

pub some_within : (es : List Entry) (n : ℕ) (e : Entry) → slice_get es n ≡ Some e → n < length es
some_within [] n e f = cc
some_within (y ∷ es) zero e f = omega arith
some_within (y ∷ es) (suc n) e f = let g : n < length es = some_within es n e f in omega arith

-- ---- a stored group

pub entry_from : (s : StoredGroup) (place : ℕ) → first_place s ≤ place → entry_at s place ≡ slice_get s.log (place - first_place s)
entry_from s place l = let below : nat_lt place (first_place s) ≡ false = grind (arith, nat_tests, l) in rw below refl

-- above the purge point the log id is that of the entry
pub id_from : (s : StoredGroup) (place : ℕ) → first_place s ≤ place → id_at s place ≡ id_of (entry_at s place)
id_from s place l = let above : (place + 1 == first_place s) ≡ false = grind (arith, nat_tests, l) in rw above refl

-- the log id of an entry at its place is in the log
pub in_log_of_entry : (s : StoredGroup) (e : Entry) → entry_at s e.log_id.index ≡ Some e → has_id_in_log s e.log_id ≡ true
in_log_of_entry s e f = let same : log_id_eq e.log_id e.log_id ≡ true = grind (arith, nat_tests) in ap (λ o. is_id e.log_id (id_of o)) f ∙ same

-- the log has this entry at the place
pub record HasEntry (s : StoredGroup) (place : ℕ) : Type 0 where
  pub entry : Entry
  pub there : entry_at s place ≡ Some entry
  pub id : id_at s place ≡ Some entry.log_id
  pub index : entry.log_id.index ≡ place

-- it has one at each place from its first one to its end
pub has_entry : (s : StoredGroup) (place : ℕ) → IsPlaced s → first_place s ≤ place → place < end_place s → HasEntry s place
has_entry s place p l m = found (slice_get s.log (place - first_place s)) refl
  where
    found : (e : Option Entry) → slice_get s.log (place - first_place s) ≡ e → HasEntry s place
    found None f = let g : length s.log ≤ place - first_place s = none_past s.log (place - first_place s) f in absurd (omega arith)
    found (Some e) f =
        let g : e.log_id.index ≡ first_place s + (place - first_place s) = found_at s.log (first_place s) (place - first_place s) e p f in
        record { entry = e; there = entry_from s place l ∙ f; id = id_from s place l ∙ ap id_of (entry_from s place l ∙ f); index = omega arith }

-- behind the log there is none
pub none_behind : (s : StoredGroup) (place : ℕ) → end_place s ≤ place → is_some (entry_at s place) ≡ false
none_behind s place l = found (entry_at s place) refl
  where
    found : (e : Option Entry) → entry_at s place ≡ e → is_some (entry_at s place) ≡ false
    found None f = ap is_some f
    found (Some e) f = let g : place < end_place s = (entry_within s place e f).1 in absurd (omega arith)

-- the log id that was found says whether an entry stands at its place
pub entry_of_id : (s : StoredGroup) (place : ℕ) (found : Option (LogId ℕ)) → first_place s ≤ place → found ≡ id_at s place → is_some (entry_at s place) ≡ is_some found
entry_of_id s place found l f = rw (f ∙ id_from s place l) (by_entry (entry_at s place))
  where
    by_entry : (e : Option Entry) → is_some e ≡ is_some (id_of e)
    by_entry None = refl
    by_entry (Some e) = refl

-- and is the one of that place
pub id_of_place : (s : StoredGroup) (place : ℕ) (id : LogId ℕ) → IsPlaced s → first_place s ≤ place → Some id ≡ id_at s place → id.index ≡ place
id_of_place s place id p l f = found (entry_at s place) refl
  where
    found : (e : Option Entry) → entry_at s place ≡ e → id.index ≡ place
    found None g = let none : Some id ≡ None = f ∙ id_from s place l ∙ ap id_of g in cc
    found (Some e) g =
        let same : id ≡ e.log_id = let both : Some id ≡ Some e.log_id = f ∙ id_from s place l ∙ ap id_of g in cc in
        let within = entry_within s place e g in
        let at : e.log_id.index ≡ first_place s + (place - first_place s) = found_at s.log (first_place s) (place - first_place s) e p (sym (entry_from s place l) ∙ g) in
        ap (λ (i : LogId ℕ). i.index) same ∙ (let k : first_place s ≤ place = within.0 in omega arith)

-- a log id that was found is in the log
pub in_log_of_id : (s : StoredGroup) (place : ℕ) (id : LogId ℕ) → IsPlaced s → first_place s ≤ place → place < end_place s → Some id ≡ id_at s place → has_id_in_log s id ≡ true
in_log_of_id s place id p l m f =
    let h = has_entry s place p l m in
    let same : id ≡ h.entry.log_id = let both : Some id ≡ Some h.entry.log_id = f ∙ h.id in cc in
    subst (λ (i : LogId ℕ). has_id_in_log s i ≡ true) (sym same) (in_log_of_entry s h.entry (ap (entry_at s) h.index ∙ h.there))

-- so is one that was found above the purge point
pub in_log_of_found : (s : StoredGroup) (place : ℕ) (id : LogId ℕ) → IsPlaced s → first_place s ≤ place → Some id ≡ id_at s place → has_id_in_log s id ≡ true
in_log_of_found s place id p l f = found (entry_at s place) refl
  where
    found : (e : Option Entry) → entry_at s place ≡ e → has_id_in_log s id ≡ true
    found None g = let none : Some id ≡ None = f ∙ id_from s place l ∙ ap id_of g in cc
    found (Some e) g = in_log_of_id s place id p l (entry_within s place e g).1 f

-- ---- a log that is shortened, or grows

abbrev pub with_log : StoredGroup → List Entry → StoredGroup
with_log s log = record s { log = log }

pub id_below_cut : (s : StoredGroup) (at i : ℕ) → i < at → id_at (with_log s (log_below s at)) i ≡ id_at s i
id_below_cut s at i l =
    by_order i (first_place s)
    (λ m. let b : nat_lt i (first_place s) ≡ true = grind (arith, nat_tests, m) in rw b refl)
    (λ m. let b : nat_lt i (first_place s) ≡ false = grind (arith, nat_tests, m) in
    let same : slice_get (take (at - first_place s) s.log) (i - first_place s) ≡ slice_get s.log (i - first_place s) = get_of_taken s.log (at - first_place s) (i - first_place s) (omega arith) in
    rw (b, same) refl)

pub id_before_more : (s : StoredGroup) (more : List Entry) (i : ℕ) → i < end_place s → id_at (with_log s (s.log ++ more)) i ≡ id_at s i
id_before_more s more i l =
    by_order i (first_place s)
    (λ m. let b : nat_lt i (first_place s) ≡ true = grind (arith, nat_tests, m) in rw b refl)
    (λ m. let b : nat_lt i (first_place s) ≡ false = grind (arith, nat_tests, m) in
    let same : slice_get (s.log ++ more) (i - first_place s) ≡ slice_get s.log (i - first_place s) = get_of_joined s.log more (i - first_place s) (omega arith) in
    rw (b, same) refl)

-- the log ends at the place from which on it was shortened
pub end_of_cut : (s : StoredGroup) (at : ℕ) → first_place s ≤ at → at ≤ end_place s → end_place (with_log s (log_below s at)) ≡ at
end_of_cut s at l m = let n = length-take (at - first_place s) s.log in omega (arith, n)

-- it ends nowhere below, or ends where it did
pub end_of_any_cut : (s : StoredGroup) (at place : ℕ) → first_place s ≤ at → place ≤ at → place ≤ end_place s → place ≤ end_place (with_log s (log_below s at))
end_of_any_cut s at place l m k = let n = length-take (at - first_place s) s.log in omega (arith, n)

-- ---- log ids that go on

-- those that go on by the test do
pub go_on : (es : List Entry) (last : Option (LogId ℕ)) → all_go_on last es ≡ true → AllGoOn last (entry_ids es)
go_on [] last h = tt
go_on (e ∷ es) None h = (tt, go_on es (Some e.log_id) h)
go_on (e ∷ es) (Some last) h = by_test (go_on es (Some e.log_id)) (nat_lt last.index e.log_id.index) refl
  where
    by_test : (all_go_on (Some e.log_id) es ≡ true → AllGoOn (Some e.log_id) (entry_ids es)) → (b : Bool) → nat_lt last.index e.log_id.index ≡ b → AllGoOn (Some last) (entry_ids (e ∷ es))
    by_test rest true f = (grind (arith, nat_tests, f), rest (ap (λ b. if b then all_go_on (Some e.log_id) es else false) (sym f) ∙ h))
    by_test rest false f = let no : false ≡ true = ap (λ b. if b then all_go_on (Some e.log_id) es else false) (sym f) ∙ h in cc

-- entries that stand behind the last log id go on by the test
pub placed_go_on : (es : List Entry) (place : ℕ) (last : Option (LogId ℕ)) → ArePlaced place es → next_place last ≤ place → all_go_on last es ≡ true
placed_go_on [] place last p l = refl
placed_go_on (e ∷ es) place last p l =
    let f : goes_on last e.log_id ≡ true = first last l in
    let n : e.log_id.index + 1 ≤ suc place = let g : e.log_id.index ≡ place = p.0 in omega arith in
    rw f (placed_go_on es (suc place) (Some e.log_id) p.1 n)
  where
    first : (x : Option (LogId ℕ)) → next_place x ≤ place → goes_on x e.log_id ≡ true
    first None m = refl
    first (Some id) m = let g : e.log_id.index ≡ place = p.0 in grind (arith, nat_tests, g, m)
