-- The membership in force of a snapshot and a log that are joined stays, however much of the log the snapshot has.
use Rattle.std.specs.Prelude.{◌≡◌, ℕ, ◌+◌, ◌-◌, ◌<◌, ◌≤◌, nat_lt, true, false, List, length, take, drop, slice_get, Option, Some, None, option_and_then, option_map, refl}
use Rattle.std.proofs.Common.{sym, ap, ◌∙◌, arith, ⊎_elim, le-ltb, ltb-true}
use Rattle.std.proofs.lemmas.Bool.{cases_lt, cond-false, or_cases}
use Rattle.std.proofs.lemmas.List.{drop-drop}
use Rattle.std.proofs.lemmas.Option.{slice_get_within}
use Rattle.raft_values.specs.declared.log_id.LogId.{LogId}
use Rattle.raft_values.specs.LogId.{next_place}
use Rattle.raft_group_step.specs.Values.{Entry, last_membership}
use Rattle.raft_group_step.specs.StoredGroup.{StoredGroup, Snapshot, CutFrom, after_storing, end_place, entry_at, first_place, has_id_in_log, id_of, is_id, membership_in_force, prefix_of, snapshot_last}
use Rattle.raft_group_step.specs.SnapshotTrigger.{snapshot_at}
use Rattle.raft_group_step.specs.Opening.{is_joined_to}
use Rattle.raft_group_step.proofs.LastMembership.{last_overlap}
use Rattle.raft_laws.proofs.Shapes.{Joined, joined_at, joined_cut, joined_held}
use Rattle.raft_laws.proofs.Memberships.{in_force}
use Rattle.raft_laws.proofs.Standing.{SnapshotFits}

-- a snapshot's list ends with its last log id
last_of : (o : Option Snapshot) → ((x : Snapshot) → o ≡ Some x → SnapshotFits x) → length (prefix_of o) ≡ next_place (option_map (λ (x : Snapshot). x.last) o)
last_of None f = refl
last_of (Some x) f = (f x refl).size

membership_of_prefix : (o : Option Snapshot) → ((x : Snapshot) → o ≡ Some x → SnapshotFits x) → option_and_then (λ (x : Snapshot). x.membership) o ≡ last_membership None (prefix_of o)
membership_of_prefix None f = refl
membership_of_prefix (Some x) f = (f x refl).membership

-- an entry that has a log id is there
entry_with : (o : Option Entry) (id : LogId ℕ) → id_of o ≡ Some id → (e : Entry) × (o ≡ Some e)
entry_with None id h = absurd (let no : None ≡ Some id = h in cc)
entry_with (Some e) id h = (e, refl)

module _ (st : StoredGroup) (fits : (x : Snapshot) → st.snapshot ≡ Some x → SnapshotFits x) where
  pub covered_places : length (prefix_of st.snapshot) ≡ next_place (snapshot_last st)
  covered_places = last_of st.snapshot fits

  module _ (xs : List Entry) (j : Joined st xs) where
    pub purge_keeps : (place : ℕ) → place < next_place (snapshot_last st) → last_membership (option_and_then (λ (x : Snapshot). x.membership) st.snapshot) (drop (place + 1 - first_place st) st.log) ≡ membership_in_force st
    purge_keeps place within =
        let size = length (prefix_of st.snapshot) in
        let gone = place + 1 - first_place st in
        let start = first_place st + gone in
        let low : start ≤ size = omega (arith, covered_places, j.low) in
        ap (λ l. last_membership (option_and_then (λ (x : Snapshot). x.membership) st.snapshot) (drop gone l)) j.log
        ∙ ap (last_membership (option_and_then (λ (x : Snapshot). x.membership) st.snapshot)) (drop-drop gone (first_place st) xs)
        ∙ ap (λ b. last_membership b (drop start xs)) (membership_of_prefix st.snapshot fits ∙ ap (last_membership None) j.front)
        ∙ last_overlap start size None xs low
        ∙ sym (in_force st xs j (λ x e. (fits x e).membership))

    pub snapshot_has : (last : LogId ℕ) → id_of (entry_at st last.index) ≡ Some last → next_place (snapshot_last st) ≤ last.index → (snapshot_at st last).membership ≡ membership_in_force (after_storing (CutFrom (last.index + 1)) st)
    snapshot_has last there past =
        let low : length (prefix_of st.snapshot) ≤ last.index = omega (arith, covered_places) in
        let entry = entry_with (entry_at st last.index) last there in
        let above : first_place st ≤ last.index = omega (arith, j.low) in
        let within = slice_get_within xs last.index entry.0 (sym (joined_at st xs j last.index above) ∙ entry.1) in
        let cut = joined_cut st xs j (last.index + 1) (omega arith) (omega arith) in
        ap (λ l. last_membership None (take (last.index + 1) l)) (joined_held st xs j)
        ∙ sym (in_force (after_storing (CutFrom (last.index + 1)) st) (take (last.index + 1) xs) cut (λ x e. (fits x e).membership))

-- an opening drops a log that ends below the snapshot's last entry
entry_within : (st : StoredGroup) (i : ℕ) (e : Entry) → first_place st ≤ i → entry_at st i ≡ Some e → i < end_place st
entry_within st i e above there =
    let at = slice_get_within st.log (i - first_place st) e (sym (cond-false (nat_lt i (first_place st)) None (slice_get st.log (i - first_place st)) (le-ltb i (first_place st) above)) ∙ there) in
    omega arith

id_there : (o : Option Entry) (id : LogId ℕ) → is_id id (id_of o) ≡ true → (e : Entry) × (o ≡ Some e)
id_there None id h = absurd (let no : false ≡ true = h in cc)
id_there (Some e) id h = (e, refl)

pub stale_dropped : (st : StoredGroup) (last : LogId ℕ) → end_place st ≤ last.index → is_joined_to st last ≡ true → ⊥
stale_dropped st last short joined =
    ⊎_elim
    (λ below. let l = ltb-true last.index (first_place st) below in omega arith)
    (λ has.
    ⊎_elim
    (λ l. omega arith)
    (λ above.
    let entry = id_there (entry_at st last.index) last has in
    let within = entry_within st last.index entry.0 above entry.1 in
    omega arith)
    (cases_lt last.index (first_place st)))
    (or_cases (nat_lt last.index (first_place st)) (has_id_in_log st last) joined)
