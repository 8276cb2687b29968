-- What is known of a stored group follows its storing commands.
use Rattle.std.specs.Prelude.{OnOk, Result, Ok, Err, ◌≡◌, ℕ, zero, suc, ◌+◌, ◌-◌, ◌<◌, ◌≤◌, ◌==◌, nat_lt, if◌then◌else◌, true, false, List, [], ◌∷◌, ◌++◌, length, take, drop, Option, Some, None, option_and_then, refl}
use Rattle.std.specs.List.{slice_get, take-map}
use Rattle.std.specs.Option.{option_eq, option_or, is_some}
use Rattle.std.proofs.Common.{sym, ap, ◌∙◌, subst, arith, append_assoc, append-nil, length-append, get_or}
use Rattle.std.proofs.lemmas.Bool.Decides.{nat_tests}
use Rattle.std.proofs.lemmas.Option.{slice_get-map, slice_get_read}
use Rattle.std.proofs.lemmas.List.{length-map, drop-map, take_all, map-append}
use Rattle.raft_values.specs.declared.vote.Vote.{Vote}
use Rattle.raft_values.specs.declared.log_id.LogId.{LogId}
use Rattle.raft_values.specs.LogId.{next_place, place_of}
use Rattle.raft_values.specs.LogIndex.{next_of}
use Rattle.raft_state.specs.declared.raft_state.RaftState.{RaftState}
use Rattle.raft_log_ids.specs.LogIdList.{last_id, id_at, extended, truncated, purged, or_alone}
use Rattle.raft_state.specs.State.{last_purged}
use Rattle.raft_state.specs.declared.entry.EntryPayload.TheVariants.{Blank, Normal, Membership as Members}
use Rattle.raft_state.specs.Payload.{membership_of}
use Rattle.raft_group_step.specs.Values.{Entry, EntryPayload, Membership, LoggedMembership, log_id_eq, last_membership, membership_after}
use Rattle.raft_group_step.specs.StoredGroup.{StoredGroup, Snapshot, first_place, end_place, entry_at, id_of, is_id, has_id_in_log, log_below, membership_in_force}
use Rattle.raft_group_step.specs.StoredGroup.{id_at as id_at_place, last_id as last_stored_id}
use Rattle.raft_known_state.specs.KnownState.{KnownState, EffectiveMembership, SnapshotMeta, Knows, ArePlaced, IsPlaced, purged_ids, entry_ids, stored_ids, memberships_in, with_membership_of, effective_of, last_membership_of, meta_of, take_below, drop_below, last_else, force_of, force_of_snapshot, IsEntryOrPast, AreUpToTerm}
use Rattle.raft_known_state.specs.KnownState.{AreInOrder, AreNoted, MembershipState, committed_membership, committed_of, with_committed, with_goal, with_members}
use Rattle.raft_known_state.proofs.OrderLemmas.{placed_in_order}
use Rattle.raft_known_state.proofs.TermLemmas.{up_to_both, up_to_dropped, up_to_more, up_to_taken}
use Rattle.raft_known_state.proofs.PlacedIds.{by_order, Placed, EndsBefore, extended-placed, truncated-placed, from_place-placed, below_first, id_at-placed, ends-placed}

-- a state as contracts see it
abbrev pub StateOf : Type 0
StateOf = RaftState ℕ (List ℕ) ℕ

-- ---- log ids

pub ids_placed : (es : List Entry) (place : ℕ) → ArePlaced place es → Placed place (entry_ids es)
ids_placed [] place p = tt
ids_placed (e ∷ es) place p = (p.0, ids_placed es (suc place) p.1)

-- the place of the first log id: that of the purge point, if there is one
abbrev pub start_of : Option (LogId ℕ) → ℕ
start_of None = 0
start_of (Some id) = id.index

pub stored_placed : (purged_id : Option (LogId ℕ)) (log : List Entry) → ArePlaced (next_place purged_id) log → Placed (start_of purged_id) (purged_ids purged_id ++ entry_ids log)
stored_placed None log p = ids_placed log 0 p
stored_placed (Some id) log p =
    let at : id.index + 1 ≡ suc id.index = omega arith in (refl, ids_placed log (suc id.index) (subst (λ n. ArePlaced n log) at p))

-- how many log ids there are, and where they end
pub stored_end : (purged_id : Option (LogId ℕ)) (log : List Entry) → start_of purged_id + length (purged_ids purged_id ++ entry_ids log) ≡ next_place purged_id + length log
stored_end None log = ap (λ n. 0 + n) (length-map log (λ (e : Entry). e.log_id))
stored_end (Some id) log = let n : length (entry_ids log) ≡ length log = length-map log (λ (e : Entry). e.log_id) in omega arith

pub stored_ends : (purged_id : Option (LogId ℕ)) (log : List Entry) → ArePlaced (next_place purged_id) log → EndsBefore (last_id (purged_ids purged_id ++ entry_ids log)) (next_place purged_id + length log)
stored_ends purged_id log p =
    subst (EndsBefore (last_id (purged_ids purged_id ++ entry_ids log))) (stored_end purged_id log) (ends-placed _ (start_of purged_id) (stored_placed purged_id log p))

end_by : (found : Option (LogId ℕ)) (n : ℕ) → EndsBefore found n → (found ≡ None → n ≡ 0) → next_place found ≡ n
end_by None n h z = sym (z refl)
end_by (Some last) n h z = h

none_last : (ids : List (LogId ℕ)) → last_id ids ≡ None → ids ≡ []
none_last [] e = refl
none_last (x ∷ ids) e = absurd (some_last x ids e)
  where
    some_there : (y : LogId ℕ) (ys : List (LogId ℕ)) → slice_get (y ∷ ys) (length ys) ≡ None → ⊥
    some_there y [] f = cc
    some_there y (z ∷ ys) f = some_there z ys f

    some_last : (y : LogId ℕ) (ys : List (LogId ℕ)) → last_id (y ∷ ys) ≡ None → ⊥
    some_last y ys f = let at : length (y ∷ ys) - 1 ≡ length ys = omega arith in some_there y ys (ap (slice_get (y ∷ ys)) (sym at) ∙ f)

no_entries : (purged_id : Option (LogId ℕ)) (log : List Entry) → purged_ids purged_id ++ entry_ids log ≡ [] → next_place purged_id + length log ≡ 0
no_entries None [] e = refl
no_entries None (x ∷ log) e = cc
no_entries (Some id) log e = cc

-- the place after the last log id is the place after the log
pub end-known : (s : StoredGroup) → IsPlaced s → next_place (last_id (stored_ids s)) ≡ end_place s
end-known s p = end_by (last_id (stored_ids s)) (end_place s) (stored_ends s.purged s.log p) (λ e. no_entries s.purged s.log (none_last (stored_ids s) e))

-- ---- the log id at a place

id_in_log : (log : List Entry) (n : ℕ) → slice_get (entry_ids log) n ≡ id_of (slice_get log n)
id_in_log log n = slice_get-map (λ (e : Entry). e.log_id) log n

id_at-parts : (purged_id : Option (LogId ℕ)) (log : List Entry) (i : ℕ) → ArePlaced (next_place purged_id) log
    → id_at (purged_ids purged_id ++ entry_ids log) i
    ≡ (if i + 1 == next_place purged_id then purged_id else id_of (if nat_lt i (next_place purged_id) then None else slice_get log (i - next_place purged_id)))
id_at-parts None log i p =
    let a : (i + 1 == 0) ≡ false = grind (arith, nat_tests) in
    let b : nat_lt i 0 ≡ false = grind (arith, nat_tests) in
    rw (a, b) (id_at-placed i (entry_ids log) 0 (ids_placed log 0 p) (omega arith) ∙ id_in_log log (i - 0))
id_at-parts (Some id) log i p =
    let all : Placed id.index (id ∷ entry_ids log) = stored_placed (Some id) log p in
    by_order i id.index
    (λ l. let a : (i + 1 == id.index + 1) ≡ false = grind (arith, nat_tests, l) in
    let b : nat_lt i (id.index + 1) ≡ true = grind (arith, nat_tests, l) in
    rw (a, b) (below_first i (id ∷ entry_ids log) id.index all l))
    (λ l. by_order id.index i
    (λ m. let a : (i + 1 == id.index + 1) ≡ false = grind (arith, nat_tests, m) in
    let b : nat_lt i (id.index + 1) ≡ false = grind (arith, nat_tests, m) in
    let n : i - id.index ≡ suc (i - (id.index + 1)) = omega arith in
    rw (a, b) (id_at-placed i (id ∷ entry_ids log) id.index all l ∙ ap (slice_get (id ∷ entry_ids log)) n ∙ id_in_log log (i - (id.index + 1))))
    (λ m. let a : (i + 1 == id.index + 1) ≡ true = grind (arith, nat_tests, l, m) in
    let n : i - id.index ≡ 0 = omega arith in
    rw a (id_at-placed i (id ∷ entry_ids log) id.index all l ∙ ap (slice_get (id ∷ entry_ids log)) n)))

-- the log id at a place is that of the log's entry there, or the purge point
pub id_at-known : (s : StoredGroup) (i : ℕ) → IsPlaced s → id_at (stored_ids s) i ≡ id_at_place s i
id_at-known s i p = id_at-parts s.purged s.log i p

last-parts : (ids : List (LogId ℕ)) (start n : ℕ) → Placed start ids → start + length ids ≡ n → 0 < length ids → id_at ids (n - 1) ≡ last_id ids
last-parts ids start n p e l =
    let at : n - 1 - start ≡ length ids - 1 = omega arith in
    id_at-placed (n - 1) ids start p (omega arith) ∙ ap (slice_get ids) at

some_ids : (purged_id : Option (LogId ℕ)) (log : List Entry) → 0 < next_place purged_id + length log → 0 < length (purged_ids purged_id ++ entry_ids log)
some_ids None log l = let n : length (entry_ids log) ≡ length log = length-map log (λ (e : Entry). e.log_id) in omega arith
some_ids (Some id) log l = omega arith

-- the last log id is that of the log's last entry, or the purge point
pub last-known : (s : StoredGroup) → IsPlaced s → last_id (stored_ids s) ≡ last_stored_id s
last-known s p =
    by_order 0 (end_place s)
    (λ l. let a : (end_place s == 0) ≡ false = grind (arith, nat_tests, l) in
    rw a (sym (last-parts (stored_ids s) (start_of s.purged) (end_place s) (stored_placed s.purged s.log p) (stored_end s.purged s.log) (some_ids s.purged s.log l)) ∙ id_at-known s (end_place s - 1) p))
    (λ l. let a : (end_place s == 0) ≡ true = grind (arith, nat_tests, l) in
    rw a (none_ids (stored_ids s) (let e : start_of s.purged + length (stored_ids s) ≡ end_place s = stored_end s.purged s.log in omega arith)))
  where
    none_ids : (ids : List (LogId ℕ)) → length ids ≡ 0 → last_id ids ≡ None
    none_ids [] e = refl
    none_ids (x ∷ ids) e = cc

-- ---- what storing commands make of the log ids

pub log_whole : (s : StoredGroup) → log_below s (end_place s) ≡ s.log
log_whole s = take_all (end_place s - first_place s) s.log (omega arith)

pub appended_ids : (s : StoredGroup) (es : List Entry) → IsPlaced s → ArePlaced (end_place s) es → extended (stored_ids s) (entry_ids es) ≡ purged_ids s.purged ++ entry_ids (log_below s (end_place s) ++ es)
appended_ids s es p q =
    extended-placed (stored_ids s) (entry_ids es) (end_place s) (stored_ends s.purged s.log p) (ids_placed es (end_place s) q)
    ∙ append_assoc (purged_ids s.purged) (entry_ids s.log) (entry_ids es)
    ∙ ap (λ ids. purged_ids s.purged ++ ids) (sym (map-append (λ (e : Entry). e.log_id) s.log es) ∙ ap (λ log. entry_ids (log ++ es)) (sym (log_whole s)))

pub truncated_ids : (purged_id : Option (LogId ℕ)) (log : List Entry) (at : ℕ) → ArePlaced (next_place purged_id) log → next_place purged_id ≤ at
    → truncated (purged_ids purged_id ++ entry_ids log) at ≡ purged_ids purged_id ++ entry_ids (take (at - next_place purged_id) log)
truncated_ids None log at p l = truncated-placed at (entry_ids log) 0 (ids_placed log 0 p) ∙ take-map (λ (e : Entry). e.log_id) (at - 0) log
truncated_ids (Some id) log at p l =
    let n : at - id.index ≡ suc (at - (id.index + 1)) = omega arith in
    truncated-placed at (id ∷ entry_ids log) id.index (stored_placed (Some id) log p)
    ∙ ap (λ k. take k (id ∷ entry_ids log)) n ∙ ap (λ ids. id ∷ ids) (take-map (λ (e : Entry). e.log_id) (at - (id.index + 1)) log)

kept_ids : (ids : List (LogId ℕ)) (n : ℕ) (upto : LogId ℕ) → ((id : LogId ℕ) → slice_get ids n ≡ Some id → id ≡ upto) → or_alone (drop n ids) upto ≡ upto ∷ drop (suc n) ids
kept_ids [] zero upto h = refl
kept_ids [] (suc n) upto h = refl
kept_ids (id ∷ ids) zero upto h = ap (λ (x : LogId ℕ). x ∷ ids) (h id refl)
kept_ids (id ∷ ids) (suc n) upto h = kept_ids ids n upto h

entry_of_id : (found : Option Entry) (id upto : LogId ℕ) → ((e : Entry) → found ≡ Some e → e.log_id ≡ upto) → id_of found ≡ Some id → id ≡ upto
entry_of_id None id upto h e = cc
entry_of_id (Some x) id upto h e = let same : x.log_id ≡ id = cc in sym same ∙ h x refl

-- purged up to the log id of an entry, or past the end
pub purged_ids-known : (purged_id : Option (LogId ℕ)) (log : List Entry) (upto : LogId ℕ) → ArePlaced (next_place purged_id) log → next_place purged_id ≤ upto.index
    → ((e : Entry) → slice_get log (upto.index - next_place purged_id) ≡ Some e → e.log_id ≡ upto)
    → purged (purged_ids purged_id ++ entry_ids log) upto ≡ upto ∷ entry_ids (drop (upto.index + 1 - next_place purged_id) log)
purged_ids-known None log upto p l h =
    let more : upto.index + 1 - 0 ≡ suc (upto.index - 0) = omega arith in
    let none : (id : LogId ℕ) → slice_get (entry_ids log) (upto.index - 0) ≡ Some id → id ≡ upto = λ id e. entry_of_id (slice_get log (upto.index - 0)) id upto h (sym (id_in_log log (upto.index - 0)) ∙ e) in
    ap (λ ids. or_alone ids upto) (from_place-placed upto.index (entry_ids log) 0 (ids_placed log 0 p))
    ∙ kept_ids (entry_ids log) (upto.index - 0) upto none
    ∙ ap (λ ids. upto ∷ ids) (drop-map (λ (e : Entry). e.log_id) (suc (upto.index - 0)) log ∙ ap (λ n. entry_ids (drop n log)) (sym more))
purged_ids-known (Some id) log upto p l h =
    let at : upto.index - id.index ≡ suc (upto.index - (id.index + 1)) = omega arith in
    let more : upto.index + 1 - (id.index + 1) ≡ suc (upto.index - (id.index + 1)) = omega arith in
    let n = upto.index - (id.index + 1) in
    let none : (x : LogId ℕ) → slice_get (entry_ids log) n ≡ Some x → x ≡ upto = λ x e. entry_of_id (slice_get log n) x upto h (sym (id_in_log log n) ∙ e) in
    ap (λ ids. or_alone ids upto) (from_place-placed upto.index (id ∷ entry_ids log) id.index (stored_placed (Some id) log p) ∙ ap (λ k. drop k (id ∷ entry_ids log)) at)
    ∙ kept_ids (entry_ids log) n upto none
    ∙ ap (λ ids. upto ∷ ids) (drop-map (λ (e : Entry). e.log_id) (suc n) log ∙ ap (λ k. entry_ids (drop k log)) (sym more))

-- ---- memberships

abbrev no_entries_at_all : List Entry
no_entries_at_all = []

none_taken : (n : ℕ) → take n no_entries_at_all ≡ no_entries_at_all
none_taken zero = refl
none_taken (suc n) = refl

none_dropped : (n : ℕ) → drop n no_entries_at_all ≡ no_entries_at_all
none_dropped zero = refl
none_dropped (suc n) = refl

none_below : (es : List Entry) (at place : ℕ) → ArePlaced place es → at ≤ place → take_below at (memberships_in es) ≡ []
none_below [] at place p l = refl
none_below (e ∷ es) at place p l = here e.payload (none_below es at (suc place) p.1 (omega arith))
  where
    here : (x : EntryPayload) → take_below at (memberships_in es) ≡ [] → take_below at (with_membership_of e.log_id x (memberships_in es)) ≡ []
    here Blank rest = rest
    here (Normal command) rest = rest
    here (Members m) rest = let f : nat_lt e.log_id.index at ≡ false = let g : e.log_id.index ≡ place = p.0 in grind (arith, nat_tests, g, l) in rw f refl

all_above : (es : List Entry) (at place : ℕ) → ArePlaced place es → at ≤ place → drop_below at (memberships_in es) ≡ memberships_in es
all_above [] at place p l = refl
all_above (e ∷ es) at place p l = here e.payload (all_above es at (suc place) p.1 (omega arith))
  where
    here : (x : EntryPayload) → drop_below at (memberships_in es) ≡ memberships_in es → drop_below at (with_membership_of e.log_id x (memberships_in es)) ≡ with_membership_of e.log_id x (memberships_in es)
    here Blank rest = rest
    here (Normal command) rest = rest
    here (Members m) rest = let f : nat_lt e.log_id.index at ≡ false = let g : e.log_id.index ≡ place = p.0 in grind (arith, nat_tests, g, l) in rw f refl

-- the memberships below a place are those of the entries below it
pub memberships_below : (es : List Entry) (at place : ℕ) → ArePlaced place es → take_below at (memberships_in es) ≡ memberships_in (take (at - place) es)
memberships_below [] at place p = ap memberships_in (sym (none_taken (at - place)))
memberships_below (e ∷ es) at place p =
    by_order place at
    (λ l. let more : at - place ≡ suc (at - suc place) = omega arith in
    rw more (here e.payload l (memberships_below es at (suc place) p.1)))
    (λ l. let none : at - place ≡ 0 = omega arith in rw none (none_below (e ∷ es) at place p l))
  where
    here : (x : EntryPayload) → place < at → take_below at (memberships_in es) ≡ memberships_in (take (at - suc place) es) → take_below at (with_membership_of e.log_id x (memberships_in es)) ≡ with_membership_of e.log_id x (memberships_in (take (at - suc place) es))
    here Blank l rest = rest
    here (Normal command) l rest = rest
    here (Members m) l rest = let f : nat_lt e.log_id.index at ≡ true = let g : e.log_id.index ≡ place = p.0 in grind (arith, nat_tests, g, l) in rw f (ap (λ ms. record { log_id = Some e.log_id; membership = m } ∷ ms) rest)

pub memberships_above : (es : List Entry) (at place : ℕ) → ArePlaced place es → drop_below at (memberships_in es) ≡ memberships_in (drop (at - place) es)
memberships_above [] at place p = ap memberships_in (sym (none_dropped (at - place)))
memberships_above (e ∷ es) at place p =
    by_order place at
    (λ l. let more : at - place ≡ suc (at - suc place) = omega arith in
    rw more (here e.payload l (memberships_above es at (suc place) p.1)))
    (λ l. let none : at - place ≡ 0 = omega arith in rw none (all_above (e ∷ es) at place p l))
  where
    here : (x : EntryPayload) → place < at → drop_below at (memberships_in es) ≡ memberships_in (drop (at - suc place) es) → drop_below at (with_membership_of e.log_id x (memberships_in es)) ≡ memberships_in (drop (at - suc place) es)
    here Blank l rest = rest
    here (Normal command) l rest = rest
    here (Members m) l rest = let f : nat_lt e.log_id.index at ≡ true = let g : e.log_id.index ≡ place = p.0 in grind (arith, nat_tests, g, l) in rw f rest

pub memberships-append : (es more : List Entry) → memberships_in (es ++ more) ≡ memberships_in es ++ memberships_in more
memberships-append [] more = refl
memberships-append (e ∷ es) more = here e.payload (memberships-append es more)
  where
    here : (x : EntryPayload) → memberships_in (es ++ more) ≡ memberships_in es ++ memberships_in more → with_membership_of e.log_id x (memberships_in (es ++ more)) ≡ with_membership_of e.log_id x (memberships_in es) ++ memberships_in more
    here Blank rest = rest
    here (Normal command) rest = rest
    here (Members m) rest = ap (λ ms. record { log_id = Some e.log_id; membership = m } ∷ ms) rest

-- the last membership of entries, as one in force
pub last_in : (es : List Entry) (before : Option LoggedMembership) → effective_of (last_membership before es) ≡ last_else (effective_of before) (memberships_in es)
last_in [] before = refl
last_in (e ∷ es) before = here e.payload (last_in es)
  where
    here : (x : EntryPayload) → ((b : Option LoggedMembership) → effective_of (last_membership b es) ≡ last_else (effective_of b) (memberships_in es)) → effective_of (last_membership (membership_after before e.log_id x) es) ≡ last_else (effective_of before) (with_membership_of e.log_id x (memberships_in es))
    here Blank rest = rest before
    here (Normal command) rest = rest before
    here (Members m) rest = rest (Some (record { log_id = e.log_id; membership = m }))

pub of_snapshot : (x : Option Snapshot) → force_of_snapshot (meta_of x) ≡ effective_of (option_and_then (λ (y : Snapshot). y.membership) x)
of_snapshot None = refl
of_snapshot (Some x) = here x.membership
  where
    here : (m : Option LoggedMembership) → record { log_id = (last_membership_of m).log_id; membership = (last_membership_of m).membership } ≡ effective_of m
    here None = refl
    here (Some m) = refl

-- what is known gives the membership in force
pub force_known : (k : KnownState) (s : StoredGroup) → k.state.snapshot_meta ≡ meta_of s.snapshot → k.memberships ≡ memberships_in s.log → force_of k ≡ effective_of (membership_in_force s)
force_known k s e f =
    ap (λ meta. last_else (force_of_snapshot meta) k.memberships) e
    ∙ ap (last_else (force_of_snapshot (meta_of s.snapshot))) f
    ∙ ap (λ m. last_else m (memberships_in s.log)) (of_snapshot s.snapshot)
    ∙ sym (last_in s.log (option_and_then (λ (y : Snapshot). y.membership) s.snapshot))

-- the memberships of one entry more
pub memberships-next : (es : List Entry) (i : ℕ) (e : Entry) → slice_get es i ≡ Some e → memberships_in (take (i + 1) es) ≡ memberships_in (take i es) ++ memberships_in (e ∷ [])
memberships-next [] i e h = cc
memberships-next (x ∷ es) zero e h = let same : x ≡ e = cc in ap (λ (y : Entry). memberships_in (y ∷ [])) same
memberships-next (x ∷ es) (suc i) e h =
    let more : suc i + 1 ≡ suc (i + 1) = omega arith in
    rw more (here x.payload (memberships-next es i e h))
  where
    here : (y : EntryPayload) → memberships_in (take (i + 1) es) ≡ memberships_in (take i es) ++ memberships_in (e ∷ []) → with_membership_of x.log_id y (memberships_in (take (i + 1) es)) ≡ with_membership_of x.log_id y (memberships_in (take i es)) ++ memberships_in (e ∷ [])
    here Blank rest = rest
    here (Normal command) rest = rest
    here (Members m) rest = ap (λ ms. record { log_id = Some x.log_id; membership = m } ∷ ms) rest

-- the memberships of one entry: its own, or none
membership_alone : (id : LogId ℕ) (x : EntryPayload) (m : Membership) → Some m ≡ membership_of x → with_membership_of id x [] ≡ record { log_id = Some id; membership = m } ∷ []
membership_alone id Blank m e = cc
membership_alone id (Normal command) m e = cc
membership_alone id (Members n) m e = let same : n ≡ m = cc in ap (λ (y : Membership). record { log_id = Some id; membership = y } ∷ []) same

no_membership_alone : (id : LogId ℕ) (x : EntryPayload) → None ≡ membership_of x → with_membership_of id x [] ≡ []
no_membership_alone id Blank e = refl
no_membership_alone id (Normal command) e = refl
no_membership_alone id (Members n) e = cc

module _ (before now : List EffectiveMembership) (es : List Entry) (i : ℕ) (e : Entry) (so_far : now ≡ before ++ memberships_in (take i es)) (within : i < length es) (there : e ≡ get_or es i e) where
  with_next : before ++ memberships_in (take (i + 1) es) ≡ now ++ memberships_in (e ∷ [])
  with_next =
      ap (λ ms. before ++ ms) (memberships-next es i e (slice_get_read es (length es) i e refl within there))
      ∙ sym (append_assoc before (memberships_in (take i es)) (memberships_in (e ∷ [])))
      ∙ ap (λ ms. ms ++ memberships_in (e ∷ [])) (sym so_far)

  -- an entry with a membership adds it
  pub one_put : (m : Membership) (x : EffectiveMembership) → Some m ≡ membership_of e.payload → x ≡ record { log_id = Some e.log_id; membership = m } → (new : List EffectiveMembership) → new ≡ now ++ x ∷ [] → new ≡ before ++ memberships_in (take (i + 1) es)
  one_put m x has made new put =
      put ∙ ap (λ (y : EffectiveMembership). now ++ y ∷ []) made ∙ ap (λ ms. now ++ ms) (sym (membership_alone e.log_id e.payload m has)) ∙ sym with_next

  -- an entry without one adds none
  pub none_put : None ≡ membership_of e.payload → now ≡ before ++ memberships_in (take (i + 1) es)
  none_put has =
      sym (append-nil now) ∙ ap (λ ms. now ++ ms) (sym (no_membership_alone e.log_id e.payload has)) ∙ sym with_next

-- the last of a list, if it has one, whatever stands before
pub last_is : (ms : List EffectiveMembership) (m other : EffectiveMembership) → Some m ≡ slice_get ms (length ms - 1) → m ≡ last_else other ms
last_is [] m other e = cc
last_is (x ∷ ms) m other e =
    let at : length (x ∷ ms) - 1 ≡ length ms = omega arith in
    last_of_more ms x (e ∙ ap (slice_get (x ∷ ms)) at)
  where
    last_of_more : (ys : List EffectiveMembership) (y : EffectiveMembership) → Some m ≡ slice_get (y ∷ ys) (length ys) → m ≡ last_else y ys
    last_of_more [] y f = cc
    last_of_more (z ∷ ys) y f = last_of_more ys z f

-- whether the log id found at a place above the purge point is this one
pub is_found : (s : StoredGroup) (id : LogId ℕ) → first_place s ≤ id.index → option_eq log_id_eq (id_at_place s id.index) (Some id) ≡ has_id_in_log s id
is_found s id l =
    let above : (id.index + 1 == first_place s) ≡ false = grind (arith, nat_tests, l) in
    rw above (by_found (id_of (entry_at s id.index)))
  where
    by_found : (found : Option (LogId ℕ)) → option_eq log_id_eq found (Some id) ≡ is_id id found
    by_found None = refl
    by_found (Some other) = refl

-- whether there is an entry at a place above the purge point
pub some_found : (s : StoredGroup) (place : ℕ) → first_place s ≤ place → is_some (id_at_place s place) ≡ is_some (entry_at s place)
some_found s place l =
    let above : (place + 1 == first_place s) ≡ false = grind (arith, nat_tests, l) in
    rw above (by_entry (entry_at s place))
  where
    by_entry : (found : Option Entry) → is_some (id_of found) ≡ is_some found
    by_entry None = refl
    by_entry (Some e) = refl

-- below the log there is none
pub none_found : (s : StoredGroup) (id : LogId ℕ) → id.index < first_place s → false ≡ has_id_in_log s id
none_found s id l =
    let below : nat_lt id.index (first_place s) ≡ true = grind (arith, nat_tests, l) in rw below refl

-- the memberships of a placed log are in order
pub known_in_order : (k : KnownState) (s : StoredGroup) → Knows k s → IsPlaced s → AreInOrder k.memberships
known_in_order k s old p = subst AreInOrder (sym old.memberships) (placed_in_order s.log (first_place s) (ids_placed s.log (first_place s) p))

-- entries go on where others end
pub behind : (es more : List Entry) (place : ℕ) → ArePlaced place es → ArePlaced (place + length es) more → ArePlaced place (es ++ more)
behind [] more place p q = let same : place + 0 ≡ place = omega arith in subst (λ k. ArePlaced k more) same q
behind (e ∷ es) more place p q =
    let same : place + length (e ∷ es) ≡ suc place + length es = omega arith in (p.0, behind es more (suc place) p.1 (subst (λ k. ArePlaced k more) same q))

-- and so they are with those of entries behind it
pub grown_in_order : (k : KnownState) (s : StoredGroup) (es : List Entry) → Knows k s → IsPlaced s → ArePlaced (end_place s) es → AreInOrder (k.memberships ++ memberships_in es)
grown_in_order k s es old p q =
    subst AreInOrder (memberships-append s.log es ∙ ap (λ ms. ms ++ memberships_in es) (sym old.memberships))
    (placed_in_order (s.log ++ es) (first_place s) (ids_placed (s.log ++ es) (first_place s) (behind s.log es (first_place s) p q)))

-- what is known gives the last committed membership
pub committed_known : (k : KnownState) (s : StoredGroup) → k.state.snapshot_meta ≡ meta_of s.snapshot → k.memberships ≡ memberships_in s.log → committed_of k ≡ committed_membership s k.state.committed
committed_known k s e f =
    ap (λ meta. last_else (force_of_snapshot meta) (take_below (next_place k.state.committed) k.memberships)) e
    ∙ ap (λ ms. last_else (force_of_snapshot (meta_of s.snapshot)) (take_below (next_place k.state.committed) ms)) f

-- what is known anew, once both memberships are noted
pub knows_again : (k : KnownState) (s : StoredGroup) → k.state.vote.value ≡ s.vote → k.state.log_ids ≡ stored_ids s → AreUpToTerm k.highest_term (entry_ids s.log) → k.state.purged_next ≡ first_place s
    → k.state.snapshot_meta ≡ meta_of s.snapshot → k.memberships ≡ memberships_in s.log → k.state.purge_upto ≡ option_or k.wish s.purged → AreNoted k → Knows k s
knows_again k s vote ids terms purged_at snapshot memberships goal noted =
    record {
      vote = vote;
      ids = ids;
      terms = terms;
      purged = purged_at;
      snapshot = snapshot;
      memberships = memberships;
      in_force = noted.0 ∙ force_known k s snapshot memberships;
      last_committed = noted.1 ∙ committed_known k s snapshot memberships;
      goal = goal;
    }

-- what is known of a stored group is noted
pub noted_known : (k : KnownState) (s : StoredGroup) → Knows k s → AreNoted k
noted_known k s old =
    (old.in_force ∙ sym (force_known k s old.snapshot old.memberships), old.last_committed ∙ sym (committed_known k s old.snapshot old.memberships))

-- and stays so where the memberships stay
pub noted_still : (k k' : KnownState) → AreNoted k → k'.state.membership_state ≡ k.state.membership_state → k'.state.snapshot_meta ≡ k.state.snapshot_meta
    → k'.state.committed ≡ k.state.committed → k'.memberships ≡ k.memberships → AreNoted k'
noted_still k k' noted both meta committed items =
    let force : force_of k' ≡ force_of k = ap (λ m. last_else (force_of_snapshot m) k'.memberships) meta ∙ ap (last_else (force_of_snapshot k.state.snapshot_meta)) items in
    let upto : committed_of k' ≡ committed_of k =
    ap (λ m. last_else (force_of_snapshot m) (take_below (next_place k'.state.committed) k'.memberships)) meta
    ∙ ap (λ (c : Option (LogId ℕ)). last_else (force_of_snapshot k.state.snapshot_meta) (take_below (next_place c) k'.memberships)) committed
    ∙ ap (λ ms. last_else (force_of_snapshot k.state.snapshot_meta) (take_below (next_place k.state.committed) ms)) items in (
      ap (λ (b : MembershipState). b.effective) both ∙ noted.0 ∙ sym force,
      ap (λ (b : MembershipState). b.committed) both ∙ noted.1 ∙ sym upto,
    )

-- both memberships are noted where they changed, and else as before
pub both_ok : {T E A B P : Type 0} (r : Result T E) → OnOk r A → OnOk r B → (A → B → P) → OnOk r P
both_ok (Ok x) a b f = f a b
both_ok (Err e) a b f = tt

-- nothing added leaves a list as it was
pub none_added : (ms more : List EffectiveMembership) → length (ms ++ more) ≡ length ms → ms ++ more ≡ ms
none_added ms [] e = append-nil ms
none_added ms (m ∷ more) e = let all : length (ms ++ m ∷ more) ≡ length ms + length (m ∷ more) = length-append ms (m ∷ more) in absurd (omega arith)

place_next : (found : Option (LogId ℕ)) → next_of (place_of found) ≡ next_place found
place_next None = refl
place_next (Some id) = refl

-- the place after the last log id, read by its place
pub end_known : (found : Option (LogId ℕ)) (s : StoredGroup) (ids : List (LogId ℕ)) → found ≡ last_id ids → ids ≡ stored_ids s → IsPlaced s → next_of (place_of found) ≡ end_place s
end_known found s ids e f p = place_next found ∙ ap next_place (e ∙ ap last_id f) ∙ end-known s p

-- ---- what is known after each storing command

module _ (k k' k'' : KnownState) (s : StoredGroup) (old : Knows k s) (noted : AreNoted k'') (both : k'' ≡ with_members k' k''.state.membership_state) where
  again : (s' : StoredGroup) → k'.state.vote.value ≡ s'.vote → k'.state.log_ids ≡ stored_ids s' → AreUpToTerm k'.highest_term (entry_ids s'.log) → k'.state.purged_next ≡ first_place s'
      → k'.state.snapshot_meta ≡ meta_of s'.snapshot → k'.memberships ≡ memberships_in s'.log → k'.state.purge_upto ≡ option_or k'.wish s'.purged → Knows k'' s'
  again s' vote ids terms at snapshot memberships goal =
      knows_again k'' s' (ap (λ (y : KnownState). y.state.vote.value) both ∙ vote) (ap (λ (y : KnownState). y.state.log_ids) both ∙ ids)
      (subst (λ (y : KnownState). AreUpToTerm y.highest_term (entry_ids s'.log)) (sym both) terms)
      (ap (λ (y : KnownState). y.state.purged_next) both ∙ at) (ap (λ (y : KnownState). y.state.snapshot_meta) both ∙ snapshot)
      (ap (λ (y : KnownState). y.memberships) both ∙ memberships)
      (ap (λ (y : KnownState). y.state.purge_upto) both ∙ goal ∙ ap (λ (y : KnownState). option_or y.wish s'.purged) (sym both)) noted

  pub saved : (x : Snapshot) → k' ≡ record k { state = record k.state { snapshot_meta = meta_of (Some x) } } → Knows k'' (record s { snapshot = Some x })
  saved x e =
      again (record s { snapshot = Some x }) (ap (λ (y : KnownState). y.state.vote.value) e ∙ old.vote) (ap (λ (y : KnownState). y.state.log_ids) e ∙ old.ids)
      (subst (λ (y : KnownState). AreUpToTerm y.highest_term (entry_ids s.log)) (sym e) old.terms)
      (ap (λ (y : KnownState). y.state.purged_next) e ∙ old.purged) (ap (λ (y : KnownState). y.state.snapshot_meta) e) (ap (λ (y : KnownState). y.memberships) e ∙ old.memberships)
      (ap (λ (y : KnownState). y.state.purge_upto) e ∙ old.goal ∙ ap (λ (y : KnownState). option_or y.wish s.purged) (sym e))

  terms_of_log : k.highest_term ≤ k'.highest_term → AreUpToTerm k'.highest_term (entry_ids s.log)
  terms_of_log l = up_to_more k.highest_term k'.highest_term (entry_ids s.log) l old.terms

  pub cut : (p : IsPlaced s) (at : ℕ) → first_place s ≤ at → k.highest_term ≤ k'.highest_term → k'.wish ≡ k.wish → k'.state ≡ record k.state { log_ids = truncated k.state.log_ids at } → k'.memberships ≡ take_below at k.memberships
      → Knows k'' (record s { log = log_below s at })
  cut p at l t w e f =
      again (record s { log = log_below s at }) (ap (λ (y : StateOf). y.vote.value) e ∙ old.vote)
      (ap (λ (y : StateOf). y.log_ids) e ∙ ap (λ ids. truncated ids at) old.ids ∙ truncated_ids s.purged s.log at p l)
      (up_to_taken k'.highest_term (at - first_place s) s.log (terms_of_log t))
      (ap (λ (y : StateOf). y.purged_next) e ∙ old.purged) (ap (λ (y : StateOf). y.snapshot_meta) e ∙ old.snapshot)
      (f ∙ ap (take_below at) old.memberships ∙ memberships_below s.log at (first_place s) p)
      (ap (λ (y : StateOf). y.purge_upto) e ∙ old.goal ∙ ap (λ wish. option_or wish s.purged) (sym w))

  pub put : (p : IsPlaced s) (es : List Entry) → ArePlaced (end_place s) es → k.highest_term ≤ k'.highest_term → AreUpToTerm k'.highest_term (entry_ids es) → k'.wish ≡ k.wish → k'.state ≡ record k.state { log_ids = extended k.state.log_ids (entry_ids es) } → k'.memberships ≡ k.memberships ++ memberships_in es
      → Knows k'' (record s { log = log_below s (end_place s) ++ es })
  put p es q t h w e f =
      again (record s { log = log_below s (end_place s) ++ es }) (ap (λ (y : StateOf). y.vote.value) e ∙ old.vote)
      (ap (λ (y : StateOf). y.log_ids) e ∙ ap (λ ids. extended ids (entry_ids es)) old.ids ∙ appended_ids s es p q)
      (subst (AreUpToTerm k'.highest_term) (sym (map-append (λ (e : Entry). e.log_id) (log_below s (end_place s)) es))
      (up_to_both k'.highest_term (entry_ids (log_below s (end_place s))) (entry_ids es) (up_to_taken k'.highest_term (end_place s - first_place s) s.log (terms_of_log t)) h))
      (ap (λ (y : StateOf). y.purged_next) e ∙ old.purged) (ap (λ (y : StateOf). y.snapshot_meta) e ∙ old.snapshot)
      (f ∙ ap (λ ms. ms ++ memberships_in es) old.memberships ∙ sym (memberships-append s.log es) ∙ ap (λ log. memberships_in (log ++ es)) (sym (log_whole s)))
      (ap (λ (y : StateOf). y.purge_upto) e ∙ old.goal ∙ ap (λ wish. option_or wish s.purged) (sym w))

  pub removed : (p : IsPlaced s) (upto : LogId ℕ) → first_place s ≤ upto.index → IsEntryOrPast s upto → k.highest_term ≤ k'.highest_term → k'.wish ≡ k.wish
      → k'.state ≡ record k.state { log_ids = purged k.state.log_ids upto; purged_next = upto.index + 1; purge_upto = option_or k.wish (Some upto) } → k'.memberships ≡ drop_below (upto.index + 1) k.memberships
      → Knows k'' (record s { purged = Some upto; log = drop (upto.index + 1 - first_place s) s.log })
  removed p upto l h t w e f =
      let within : nat_lt upto.index (first_place s) ≡ false = grind (arith, nat_tests, l) in
      let there : (x : Entry) → slice_get s.log (upto.index - first_place s) ≡ Some x → x.log_id ≡ upto =
      λ x g. h x (ap (λ b. if b then None else slice_get s.log (upto.index - first_place s)) within ∙ g) in
      again (record s { purged = Some upto; log = drop (upto.index + 1 - first_place s) s.log }) (ap (λ (y : StateOf). y.vote.value) e ∙ old.vote)
      (ap (λ (y : StateOf). y.log_ids) e ∙ ap (λ ids. purged ids upto) old.ids ∙ purged_ids-known s.purged s.log upto p l there)
      (up_to_dropped k'.highest_term (upto.index + 1 - first_place s) s.log (terms_of_log t))
      (ap (λ (y : StateOf). y.purged_next) e) (ap (λ (y : StateOf). y.snapshot_meta) e ∙ old.snapshot)
      (f ∙ ap (drop_below (upto.index + 1)) old.memberships ∙ memberships_above s.log (upto.index + 1) (first_place s) p)
      (ap (λ (y : StateOf). y.purge_upto) e ∙ ap (λ wish. option_or wish (Some upto)) (sym w))

-- entries behind all of the log are its last ones
pub grown_log : (s : StoredGroup) (es : List Entry) → record s { log = log_below s (end_place s) ++ es } ≡ record s { log = s.log ++ es }
grown_log s es = ap (λ log. record s { log = log ++ es }) (log_whole s)

-- a log without entries stands at its places
pub empty_placed : (s : StoredGroup) → s.log ≡ [] → IsPlaced s
empty_placed s e = subst (ArePlaced (first_place s)) (sym e) tt

-- ---- what is known of a group that is read

-- of a log without entries the purge point is the last log id
pub last_of_purged : (purged_id : Option (LogId ℕ)) → last_id (purged_ids purged_id) ≡ purged_id
last_of_purged None = refl
last_of_purged (Some id) = refl

-- entries right behind the purge point
pub placed_behind : (s : StoredGroup) (es : List Entry) → s.log ≡ es → IsPlaced s → ArePlaced (end_place (record s { log = [] })) es
placed_behind s es e p =
    let at : first_place s ≡ first_place s + 0 = omega arith in
    subst (λ n. ArePlaced n es) at (subst (ArePlaced (first_place s)) e p)

-- a state of which only the log above the purge point isn't known yet
pub record HasRead (state : StateOf) (vote : Vote ℕ) (purged_id : Option (LogId ℕ)) (snapshot : SnapshotMeta) : Type 0 where
  pub vote_is : state.vote.value ≡ vote
  pub ids : state.log_ids ≡ purged_ids purged_id
  pub at : state.purged_next ≡ next_place purged_id
  pub meta : state.snapshot_meta ≡ snapshot
  pub goal : state.purge_upto ≡ purged_id

-- of a log that has no entry yet all is known
pub read : (state : StateOf) (k k' : KnownState) (s : StoredGroup) → HasRead state s.vote s.purged (meta_of s.snapshot) → s.log ≡ []
    → k.state ≡ state → k.memberships ≡ [] → k.wish ≡ None → AreNoted k' → k' ≡ with_members k k'.state.membership_state → Knows k' s
read state k k' s before empty e f none noted both =
    let ids : stored_ids s ≡ purged_ids s.purged = ap (λ log. purged_ids s.purged ++ entry_ids log) empty ∙ append-nil (purged_ids s.purged) in
    knows_again k' s
    (ap (λ (y : KnownState). y.state.vote.value) both ∙ ap (λ (y : StateOf). y.vote.value) e ∙ before.vote_is)
    (ap (λ (y : KnownState). y.state.log_ids) both ∙ ap (λ (y : StateOf). y.log_ids) e ∙ before.ids ∙ sym ids)
    (subst (λ log. AreUpToTerm k'.highest_term (entry_ids log)) (sym empty) tt)
    (ap (λ (y : KnownState). y.state.purged_next) both ∙ ap (λ (y : StateOf). y.purged_next) e ∙ before.at)
    (ap (λ (y : KnownState). y.state.snapshot_meta) both ∙ ap (λ (y : StateOf). y.snapshot_meta) e ∙ before.meta)
    (ap (λ (y : KnownState). y.memberships) both ∙ f ∙ ap memberships_in (sym empty))
    (ap (λ (y : KnownState). y.state.purge_upto) both ∙ ap (λ (y : StateOf). y.purge_upto) e ∙ before.goal
    ∙ ap (λ wish. option_or wish s.purged) (sym none) ∙ ap (λ (y : KnownState). option_or y.wish s.purged) (sym both)) noted

-- ---- what is committed

-- with another place committed, both memberships noted
pub committed_on : (k k' : KnownState) (s : StoredGroup) (upto : Option (LogId ℕ)) → Knows k s → AreNoted k' → k' ≡ with_committed k upto k'.state.membership_state → Knows k' s
committed_on k k' s upto old noted both =
    knows_again k' s (ap (λ (y : KnownState). y.state.vote.value) both ∙ old.vote) (ap (λ (y : KnownState). y.state.log_ids) both ∙ old.ids)
    (subst (λ (y : KnownState). AreUpToTerm y.highest_term (entry_ids s.log)) (sym both) old.terms)
    (ap (λ (y : KnownState). y.state.purged_next) both ∙ old.purged) (ap (λ (y : KnownState). y.state.snapshot_meta) both ∙ old.snapshot)
    (ap (λ (y : KnownState). y.memberships) both ∙ old.memberships)
    (ap (λ (y : KnownState). y.state.purge_upto) both ∙ old.goal ∙ ap (λ (y : KnownState). option_or y.wish s.purged) (sym both)) noted

-- as many memberships are committed as before
pub noted_upto : (k : KnownState) (upto : Option (LogId ℕ)) (n m : ℕ) → AreNoted k → take n k.memberships ≡ take_below (next_place k.state.committed) k.memberships
    → take m k.memberships ≡ take_below (next_place upto) k.memberships → m ≡ n → AreNoted (with_committed k upto k.state.membership_state)
noted_upto k upto n m noted e f same = (
  noted.0,
  noted.1 ∙ ap (last_else (force_of_snapshot k.state.snapshot_meta)) (sym e ∙ ap (λ j. take j k.memberships) (sym same) ∙ f),
)

-- ---- up to where the log is to be purged

-- the last purged log id is the first one of all
first_known : (purged_id : Option (LogId ℕ)) (log : List Entry) → last_purged (next_place purged_id) (purged_ids purged_id ++ entry_ids log) ≡ purged_id
first_known None log = refl
first_known (Some id) log = let at : id.index + 1 ≡ suc id.index = omega arith in ap (λ n. last_purged n (id ∷ entry_ids log)) at

pub purged_known : (k : KnownState) (s : StoredGroup) → Knows k s → last_purged k.state.purged_next k.state.log_ids ≡ s.purged
purged_known k s old =
    ap (λ n. last_purged n k.state.log_ids) old.purged ∙ ap (last_purged (first_place s)) old.ids ∙ first_known s.purged s.log

-- with another wish
pub wished_for : (k k' : KnownState) (s : StoredGroup) (wish upto : Option (LogId ℕ)) → Knows k s → k' ≡ with_goal k wish upto → upto ≡ option_or wish s.purged → Knows k' s
wished_for k k' s wish upto old same goal =
    let other : Knows (with_goal k wish upto) s =
    record {
      vote = old.vote;
      ids = old.ids;
      terms = old.terms;
      purged = old.purged;
      snapshot = old.snapshot;
      memberships = old.memberships;
      in_force = old.in_force;
      last_committed = old.last_committed;
      goal = goal;
    } in
    subst (λ x. Knows x s) (sym same) other
