-- Entries at their places, and storing commands that fit.
use Rattle.std.specs.Prelude.{◌≡◌, ℕ, zero, suc, ◌+◌, ◌-◌, ◌<◌, ◌≤◌, ◌==◌, cond, not, nat_lt, is_some, Bool, true, false, List, [], ◌∷◌, ◌++◌, drop, length, slice_get, take, Option, Some, None, IfSome, refl}
use Rattle.std.proofs.Common.{sym, ap, ◌∙◌, subst, arith, eq-eqb, eqb-true, ltb-true, ⊎_elim}
use Rattle.std.proofs.lemmas.Bool.{cases_lt, cond_both}
use Rattle.std.proofs.lemmas.List.{length-take-le}
use Rattle.std.proofs.lemmas.List.Elements.{All-append, All-drop, All-head, All-nil, All-tail, All-take}
use Rattle.raft_values.specs.declared.log_id.LogId.{LogId}
use Rattle.raft_values.specs.LogId.{next_place}
use Rattle.raft_state.specs.declared.entry.EntryPayload.TheVariants.{Blank, Normal, Membership as Members}
use Rattle.raft_group_step.specs.Values.{Entry, EntryPayload, LoggedMembership, last_membership, membership_after}
use Rattle.raft_group_step.specs.StoredGroup.{Snapshot, StoredGroup, StoringCommand, MakeGroup, SetVote, PutEntries, CutFrom, RemoveUpTo, SetSnapshot, StartAfter, after_storing, after_storing_all, end_place, entry_at, first_place, has_id_in_log, held, id_at, id_before, id_of, prefix_of}
use Rattle.raft_group_step.specs.StepResult.{is_within}
use Rattle.raft_group_step.specs.SnapshotRequest.{place_above}
use Rattle.raft_group_step.specs.AppendRequest.{above_committed, missing_entries}
use Rattle.raft_group_step.specs.SnapshotTrigger.{snapshot_at}
use Rattle.raft_group_step.proofs.EntryPlaces.{entry_within, in_log_within}
use Rattle.raft_laws.proofs.FreshEntries.{within_is, without_is}
use Rattle.raft_laws.proofs.Shapes.{slice_after, slice_drop, slice_taken}
use Rattle.raft_laws.proofs.BallotAgreement.{slice_get-append}
use Rattle.raft_step_laws.specs.Fitting.{AllFit, ArePlacedFrom, FitEntries, IsLoggedBounded, IsPayloadBounded, IsSnapshotBounded, FitsStored, FitsStoring}

abbrev pub Fits : Entry → Type 0
Fits e = IsPayloadBounded e.payload

-- ---- entries at their places

placed_none : (start : ℕ) → ArePlacedFrom start []
placed_none start i e h = absurd (let f : None ≡ Some e = h in cc)

pub placed_take : (k start : ℕ) (es : List Entry) → ArePlacedFrom start es → ArePlacedFrom start (take k es)
placed_take k start es h i e at = h i e (slice_taken k es i e at)

pub placed_drop : (k start : ℕ) (es : List Entry) → ArePlacedFrom start es → ArePlacedFrom (start + k) (drop k es)
placed_drop k start es h i e at = let p = h (k + i) e (sym (slice_drop k es i) ∙ at) in omega arith

placed_append : (start : ℕ) (xs ys : List Entry) → ArePlacedFrom start xs → ArePlacedFrom (start + length xs) ys → ArePlacedFrom start (xs ++ ys)
placed_append start xs ys h k i e at =
    ⊎_elim
    (λ l. h i e (sym (slice_get-append xs ys i l) ∙ at))
    (λ l.
    let n : length xs + (i - length xs) ≡ i = omega arith in
    let p = k (i - length xs) e (sym (slice_after xs ys (i - length xs)) ∙ ap (slice_get (xs ++ ys)) n ∙ at) in
    omega arith)
    (cases_lt i (length xs))

pub placed_one : (start : ℕ) (e : Entry) → e.log_id.index ≡ start → ArePlacedFrom start (e ∷ [])
placed_one start e is zero x at =
    let same : e ≡ x = (let f : Some e ≡ Some x = at in cc) in
    let p = ap (λ (y : Entry). y.log_id.index) same in
    omega arith
placed_one start e is (suc i) x at = absurd (let f : None ≡ Some x = at in cc)

-- so too one by one
abbrev pub StandFrom : ℕ → List Entry → Type 0
StandFrom k [] = Unit {0}
StandFrom k (e ∷ es) = (e.log_id.index ≡ k) × StandFrom (k + 1) es

pub placed_stand : (k : ℕ) (es : List Entry) → ArePlacedFrom k es → StandFrom k es
placed_stand k [] h = tt
placed_stand k (e ∷ es) h =
    let first = h 0 e refl in
    (omega (arith, first), placed_stand (k + 1) es (λ i x at. let p = h (suc i) x at in omega arith))

pub stand_placed : (k : ℕ) (es : List Entry) → StandFrom k es → ArePlacedFrom k es
stand_placed k [] h i x at = absurd (let f : None ≡ Some x = at in cc)
stand_placed k (e ∷ es) h zero x at =
    let same : e ≡ x = (let f : Some e ≡ Some x = at in cc) in
    let p = ap (λ (y : Entry). y.log_id.index) same in
    omega (arith, h.0)
stand_placed k (e ∷ es) h (suc i) x at = let p = stand_placed (k + 1) es h.1 i x at in omega arith

-- ---- entries in the log

pub some_entry : (o : Option Entry) → is_some o ≡ true → (e : Entry) × (o ≡ Some e)
some_entry None t = absurd (let f : false ≡ true = t in cc)
some_entry (Some e) t = (e, refl)

-- where there is none, the place is past the end
pub no_entry : (st : StoredGroup) (i : ℕ) → is_some (entry_at st i) ≡ false → first_place st ≤ i → end_place st ≤ i
no_entry st i =
    cond_both (nat_lt i (first_place st)) None (slice_get st.log (i - first_place st)) (λ o. is_some o ≡ false → first_place st ≤ i → end_place st ≤ i)
    (λ t f l. let low = ltb-true i (first_place st) t in absurd (omega arith))
    (λ t f l. let past = past_end (i - first_place st) st.log f in omega arith)
  where
    past_end : (k : ℕ) (es : List Entry) → is_some (slice_get es k) ≡ false → length es ≤ k
    past_end k [] f = omega arith
    past_end zero (x ∷ xs) f = absurd (let g : true ≡ false = f in cc)
    past_end (suc k) (x ∷ xs) f = let p = past_end k xs f in omega arith

-- an entry in the log has its place
pub entry_place : (st : StoredGroup) → FitsStored st → (i : ℕ) (e : Entry) → entry_at st i ≡ Some e → e.log_id.index ≡ i
entry_place st h i e at =
    let w = entry_within st i e at in
    let p = h.placed (i - first_place st) e w.2 in
    omega (arith, w.0)

-- the log id before a place in the log is that of the place before
pub before_next : (st : StoredGroup) → FitsStored st → (i : ℕ) → first_place st ≤ i → i ≤ end_place st → next_place (id_before st i) ≡ i
before_next st h i low high =
    cond_both (i == 0) None (id_at st (i - 1)) (λ o. next_place o ≡ i)
    (λ t. let e = eqb-true i 0 t in omega arith)
    (λ t.
    cond_both (i - 1 + 1 == first_place st) st.purged (id_of (entry_at st (i - 1))) (λ o. next_place o ≡ i)
    (λ u. let e = eqb-true (i - 1 + 1) (first_place st) u in let pos = positive i t in omega arith)
    (λ u.
    let pos = positive i t in
    let above : first_place st < i = strictly u pos in
    inside (entry_at st (i - 1)) refl above pos))
  where
    positive : (n : ℕ) → (n == 0) ≡ false → 0 < n
    positive zero f = absurd (let g : true ≡ false = f in cc)
    positive (suc n) f = omega arith

    strictly : (i - 1 + 1 == first_place st) ≡ false → 0 < i → first_place st < i
    strictly f pos =
        ⊎_elim
        (λ l. l)
        (λ l.
        let e : i - 1 + 1 ≡ first_place st = omega arith in
        absurd (let g : true ≡ false = sym (eq-eqb (i - 1 + 1) (first_place st) e) ∙ f in cc))
        (cases_lt (first_place st) i)

    inside : (o : Option Entry) → entry_at st (i - 1) ≡ o → first_place st < i → 0 < i → next_place (id_of o) ≡ i
    inside None is above pos =
        let past = no_entry st (i - 1) (ap is_some is) (omega arith) in absurd (omega arith)
    inside (Some e) is above pos = let p = entry_place st h (i - 1) e is in omega arith

-- ---- the memberships of entries that fit

pub logged_fits : (before : Option LoggedMembership) (es : List Entry) → IsLoggedBounded before → FitEntries es → IsLoggedBounded (last_membership before es)
logged_fits before [] h k = h
logged_fits before (e ∷ es) h k =
    logged_fits (membership_after before e.log_id e.payload) es (after e.payload (All-head Fits e es k)) (All-tail Fits e es k)
  where
    after : (p : EntryPayload) → IsPayloadBounded p → IsLoggedBounded (membership_after before e.log_id p)
    after Blank f = h
    after (Normal command) f = h
    after (Members m) f = f

prefix_fits : (o : Option Snapshot) → IfSome o IsSnapshotBounded → FitEntries (prefix_of o)
prefix_fits None h = All-nil Fits
prefix_fits (Some x) h = h.entries

pub held_fits : (st : StoredGroup) → FitsStored st → FitEntries (held st)
held_fits st h =
    All-append Fits (prefix_of st.snapshot) _ (prefix_fits st.snapshot h.snapshot)
    (All-drop Fits (length (prefix_of st.snapshot) - first_place st) st.log h.entries)

pub built_fits : (st : StoredGroup) (id : LogId ℕ) → FitsStored st → IsSnapshotBounded (snapshot_at st id)
built_fits st id h =
    let xs = All-take Fits (id.index + 1) (held st) (held_fits st h) in
    record { entries = xs; membership = logged_fits None (take (id.index + 1) (held st)) tt xs }

-- ---- storing commands that fit

pub stored_fits : (c : StoringCommand) (st : StoredGroup) → FitsStored st → FitsStoring st c → FitsStored (after_storing c st)
stored_fits MakeGroup st h k = record { entries = h.entries; placed = h.placed; snapshot = h.snapshot }
stored_fits (SetVote vote) st h k = record { entries = h.entries; placed = h.placed; snapshot = h.snapshot }
stored_fits (PutEntries place es) st h k =
    let from = first_place st in
    let kept = take (place - from) st.log in
    let end = k.at_end in
    let size : length kept ≡ place - from = length-take-le (place - from) st.log (omega arith) in
    record {
      entries = All-append Fits kept es (All-take Fits (place - from) st.log h.entries) k.entries;
      placed =
          placed_append from kept es (placed_take (place - from) from st.log h.placed)
          (λ i e at. let p = k.placed i e at in omega (arith, end, size));
      snapshot = h.snapshot;
    }
stored_fits (CutFrom place) st h k =
    let from = first_place st in
    record {
      entries = All-take Fits (place - from) st.log h.entries;
      placed = placed_take (place - from) from st.log h.placed;
      snapshot = h.snapshot;
    }
stored_fits (RemoveUpTo id) st h k =
    let gone = id.index + 1 - first_place st in
    record {
      entries = All-drop Fits gone st.log h.entries;
      placed = λ i e at. let p = placed_drop gone (first_place st) st.log h.placed i e at in omega (arith, k);
      snapshot = h.snapshot;
    }
stored_fits (SetSnapshot x) st h k = record { entries = h.entries; placed = h.placed; snapshot = k }
stored_fits (StartAfter id) st h k = record { entries = All-nil Fits; placed = placed_none _; snapshot = h.snapshot }

-- a stop after any number of them
pub stop_fits : (k : ℕ) (cs : List StoringCommand) (st : StoredGroup) → FitsStored st → AllFit st cs → FitsStored (after_storing_all (take k cs) st)
stop_fits zero cs st h all = h
stop_fits (suc k) [] st h all = h
stop_fits (suc k) (c ∷ cs) st h all = stop_fits k cs (after_storing c st) (stored_fits c st h all.0) all.1

pub all_fit : (cs : List StoringCommand) (c : StoringCommand) (st : StoredGroup) → AllFit st cs → FitsStoring (after_storing_all cs st) c → AllFit st (cs ++ c ∷ [])
all_fit [] c st h k = (k, tt)
all_fit (x ∷ cs) c st h k = (h.0, all_fit cs c (after_storing x st) h.1 k)

-- ---- entries that are put

-- they stand one after another, from a place within these two on
abbrev pub StandWithin : ℕ → ℕ → List Entry → Type 0
StandWithin low high [] = Unit {0}
StandWithin low high (e ∷ es) =
    (low ≤ e.log_id.index) × (e.log_id.index ≤ high) × StandFrom e.log_id.index (e ∷ es)

stand_within : (low high k : ℕ) (es : List Entry) → low ≤ k → k ≤ high → StandFrom k es → StandWithin low high es
stand_within low high k [] l m h = tt
stand_within low high k (e ∷ es) l m h =
    (omega (arith, h.0), omega (arith, h.0), (refl, subst (λ n. StandFrom (n + 1) es) (sym h.0) h.1))

-- above what is committed all are kept
all_above : (committed : Option ℕ) (k : ℕ) (es : List Entry) → StandFrom k es → place_above committed ≤ k → StandFrom k (above_committed committed es)
all_above committed k [] h l = tt
all_above committed k (e ∷ es) h l = go (is_within e.log_id.index committed) refl (all_above committed (k + 1) es h.1 (omega arith))
  where
    go : (b : Bool) → is_within e.log_id.index committed ≡ b → StandFrom (k + 1) (above_committed committed es) → StandFrom k (cond (not b) (e ∷ above_committed committed es) (above_committed committed es))
    go true t rest = let w = within_is committed e.log_id.index t in absurd (omega (arith, h.0))
    go false t rest = (h.0, rest)

pub above_within : (committed : Option ℕ) (high k : ℕ) (es : List Entry) → place_above committed ≤ high → k ≤ high → StandFrom k es → StandWithin (place_above committed) high (above_committed committed es)
above_within committed high k [] l m h = tt
above_within committed high k (e ∷ es) l m h =
    go (is_within e.log_id.index committed) refl (λ n. above_within committed high (k + 1) es l n h.1)
  where
    go : (b : Bool) → is_within e.log_id.index committed ≡ b → (k + 1 ≤ high → StandWithin (place_above committed) high (above_committed committed es)) → StandWithin (place_above committed) high (cond (not b) (e ∷ above_committed committed es) (above_committed committed es))
    go true t rest = let w = within_is committed e.log_id.index t in rest (omega (arith, h.0))
    go false t rest =
        let past = without_is committed e.log_id.index t in (
          past,
          omega (arith, h.0),
          (
            refl,
            all_above committed (e.log_id.index + 1) es (subst (λ n. StandFrom (n + 1) es) (sym h.0) h.1) (omega arith),
          ),
        )

pub missing_within : (st : StoredGroup) (low : ℕ) (es : List Entry) → StandWithin low (end_place st) es → StandWithin low (end_place st) (missing_entries st es)
missing_within st low [] h = tt
missing_within st low (e ∷ es) h =
    go (has_id_in_log st e.log_id) refl
    (λ l. missing_within st low es (stand_within low (end_place st) (e.log_id.index + 1) es (omega (arith, h.0)) l h.2.1))
  where
    go : (b : Bool) → has_id_in_log st e.log_id ≡ b → (e.log_id.index + 1 ≤ end_place st → StandWithin low (end_place st) (missing_entries st es)) → StandWithin low (end_place st) (cond b (missing_entries st es) (e ∷ es))
    go true t rest = let w = in_log_within st e.log_id t in rest (omega arith)
    go false t rest = h
