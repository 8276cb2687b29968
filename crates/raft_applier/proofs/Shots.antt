-- The membership that a snapshot of what is applied has.
use Rattle.std.specs.Prelude.{◌≡◌, ◌==◌, ℕ, ◌+◌, ◌-◌, ◌≤◌, cond, nat_lt, Bool, true, false, List, [], ◌∷◌, slice_get, take, Option, Some, None, option_and_then, refl}
use Rattle.std.proofs.Common.{sym, ap, ◌∙◌, arith}
use Rattle.std.proofs.lemmas.Bool.Decides.{nat_tests}
use Rattle.raft_values.specs.declared.log_id.LogId.{LogId}
use Rattle.raft_values.specs.LogId.{next_place}
use Rattle.raft_group_step.specs.Values.{Entry}
use Rattle.raft_group_step.specs.StoredGroup.{StoredGroup, Snapshot, CutFrom, after_storing, entry_at, first_place, held, id_at, id_of, membership_in_force}
use Rattle.raft_group_step.specs.Frames.{committed_id}
use Rattle.raft_group_step.specs.GroupState.{GroupState}
use Rattle.raft_group_step.specs.SnapshotRequest.{place_above}
use Rattle.raft_laws.specs.OneList.{applied_list}
use Rattle.raft_known_state.specs.KnownState.{ArePlaced, committed_membership, effective_of, force_of_snapshot, last_else, memberships_in, meta_of}
use Rattle.raft_known_state.proofs.KnownStateLemmas.{last_in, memberships_below, of_snapshot}
use Rattle.raft_engine.specs.Building.{IsSnapshotOfApplied}
use Rattle.raft_applier.specs.Building.{HasItsMembership}

-- the last committed membership is the one in force of a log that ends behind what is committed
pub cut_in_force : (s : StoredGroup) (committed : Option (LogId ℕ)) → ArePlaced (first_place s) s.log → committed_membership s committed ≡ effective_of (membership_in_force (after_storing (CutFrom (next_place committed)) s))
cut_in_force s committed placed =
    let before = option_and_then (λ (y : Snapshot). y.membership) s.snapshot in
    ap (λ ms. last_else (force_of_snapshot (meta_of s.snapshot)) ms) (memberships_below s.log (next_place committed) (first_place s) placed)
    ∙ ap (λ m. last_else m (memberships_in (take (next_place committed - first_place s) s.log))) (of_snapshot s.snapshot)
    ∙ sym (last_in (take (next_place committed - first_place s) s.log) before)

-- a snapshot of what is applied has this membership
pub shot_membership : (s : GroupState) (x : Snapshot) → HasItsMembership s → IsSnapshotOfApplied s x → x.membership ≡ membership_in_force (after_storing (CutFrom (x.last.index + 1)) s.stored)
shot_membership s x has is = ap (λ (y : Snapshot). y.membership) is.covers ∙ has x.last is.applied is.entry is.later

-- and all that is applied
pub shot_list : (s : GroupState) (x : Snapshot) → IsSnapshotOfApplied s x → x.«prefix» ≡ applied_list s
shot_list s x is = ap (λ (y : Snapshot). y.«prefix») is.covers ∙ ap (λ k. take k (held s.stored)) (ap place_above (sym is.applied))

-- an entry that is there has the log id at its place
id_there : (st : StoredGroup) (i : ℕ) (id : LogId ℕ) → id_of (entry_at st i) ≡ Some id → id_at st i ≡ Some id
id_there st i id there = go (nat_lt i (first_place st)) refl
  where
    go : (b : Bool) → nat_lt i (first_place st) ≡ b → id_at st i ≡ Some id
    go true low = absurd (let no : None ≡ Some id = sym (ap (λ b. id_of (cond b None (slice_get st.log (i - first_place st)))) low) ∙ there in cc)
    go false from =
        let le : first_place st ≤ i = grind (arith, nat_tests, from) in
        let other : (i + 1 == first_place st) ≡ false = grind (arith, nat_tests, le) in
        ap (λ b. cond b st.purged (id_of (entry_at st i))) other ∙ there

-- what is committed has the snapshot's last log id
pub shot_last : (s : GroupState) (x : Snapshot) → s.applied ≡ s.committed → IsSnapshotOfApplied s x → committed_id s ≡ Some x.last
shot_last s x same is =
    ap (option_and_then (id_at s.stored)) (sym same ∙ is.applied) ∙ id_there s.stored x.last.index x.last is.entry
