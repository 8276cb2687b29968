-- What is applied has an entry in the log, of which a snapshot can be built.
use Rattle.std.specs.Prelude.{◌≡◌, ℕ, ◌+◌, ◌≤◌, ◌<◌, true, false, Option, Some, None, option_map, refl}
use Rattle.std.proofs.Common.{sym, ap, ◌∙◌, subst, arith}
use Rattle.std.proofs.lemmas.Bool.{ltb-true}
use Rattle.raft_values.specs.declared.log_id.LogId.{LogId}
use Rattle.raft_values.specs.LogId.{next_place, place_of, stands_before}
use Rattle.raft_group_step.specs.StoredGroup.{Snapshot, end_place, entry_at, first_place, id_of, snapshot_last}
use Rattle.raft_group_step.specs.GroupState.{GroupState}
use Rattle.raft_group_step.specs.Frames.{committed_id}
use Rattle.raft_group_step.specs.SnapshotTrigger.{snapshot_at}
use Rattle.raft_engine.specs.Building.{IsSnapshotOfApplied, covered_id}
use Rattle.raft_engine.specs.Standing.{IsStateOf}
use Rattle.raft_engine.proofs.PlacedEntries.{HasEntry, has_entry}
use Rattle.raft_engine.proofs.PurgeLemmas.{snapshot_known}
use Rattle.raft_member.specs.Member.{Engine}

past_next : (known : Option (LogId ℕ)) (id : LogId ℕ) → stands_before known (Some id) ≡ true → next_place known ≤ id.index
past_next None id h = omega arith
past_next (Some last) id h = let l : last.index < id.index = ltb-true last.index id.index h in omega arith

-- no log id that is none stands behind another
pub none_stands_behind : (known : Option (LogId ℕ)) → stands_before known None ≡ true → ⊥
none_stands_behind None h = absurd (let no : false ≡ true = h in cc)
none_stands_behind (Some last) h = absurd (let no : false ≡ true = h in cc)

module _ (own : ℕ) (e : Engine) (s : GroupState) (h : IsStateOf own e s) (applied : LogId ℕ)
    (is : e.state.state.committed ≡ Some applied) (past : stands_before (covered_id e) (Some applied) ≡ true) where
  known : committed_id s ≡ Some applied
  known = sym h.committed ∙ is

  at_place : s.applied ≡ Some applied.index
  at_place = h.order.applied ∙ sym h.order.committed ∙ ap place_of known

  later : next_place (snapshot_last s.stored) ≤ applied.index
  later =
      past_next (snapshot_last s.stored) applied
      (ap (λ o. stands_before o (Some applied)) (sym (snapshot_known s.stored e.state.state.snapshot_meta h.knows.snapshot)) ∙ past)

  entry : HasEntry s.stored applied.index
  entry =
      let upto : next_place (committed_id s) ≡ applied.index + 1 = ap next_place known in
      let within : next_place (committed_id s) ≤ end_place s.stored = h.order.within in
      let purged : first_place s.stored ≤ next_place (snapshot_last s.stored) = h.order.purged in
      let l = later in
      has_entry s.stored applied.index h.order.placed (omega arith) (omega arith)

  built_of : option_map (snapshot_at s.stored) (id_of (entry_at s.stored applied.index)) ≡ Some (snapshot_at s.stored entry.entry.log_id)
  built_of = ap (λ o. option_map (snapshot_at s.stored) (id_of o)) entry.there

  is_of_applied : (x : Snapshot) → option_map (snapshot_at s.stored) (id_of (entry_at s.stored applied.index)) ≡ Some x → IsSnapshotOfApplied s x
  is_of_applied x found =
      let same : x ≡ snapshot_at s.stored entry.entry.log_id = (let both : Some x ≡ Some (snapshot_at s.stored entry.entry.log_id) = sym found ∙ built_of in cc) in
      let id = entry.entry.log_id in
      let applied_there : s.applied ≡ Some id.index = at_place ∙ ap Some (sym entry.index) in
      let entry_there : id_of (entry_at s.stored id.index) ≡ Some id = ap (λ place. id_of (entry_at s.stored place)) entry.index ∙ ap id_of entry.there in
      let later_there : next_place (snapshot_last s.stored) ≤ id.index = (let l = later in let i = entry.index in omega arith) in
      subst (IsSnapshotOfApplied s) (sym same)
      (record {
        applied = applied_there;
        entry = entry_there;
        later = later_there;
        covers = refl;
      })

  covering : (x : Snapshot) × IsSnapshotOfApplied s x
  covering = (snapshot_at s.stored entry.entry.log_id, is_of_applied (snapshot_at s.stored entry.entry.log_id) built_of)

-- where the last snapshot doesn't have all that is applied, there is one that has
pub has_one : (own : ℕ) (e : Engine) (s : GroupState) → IsStateOf own e s → stands_before (covered_id e) e.state.state.committed ≡ true → (x : Snapshot) × IsSnapshotOfApplied s x
has_one own e s h past = by_committed e.state.state.committed refl
  where
    by_committed : (o : Option (LogId ℕ)) → e.state.state.committed ≡ o → (x : Snapshot) × IsSnapshotOfApplied s x
    by_committed None is = absurd (none_stands_behind (covered_id e) (ap (λ o. stands_before (covered_id e) o) (sym is) ∙ past))
    by_committed (Some applied) is = covering own e s h applied is (ap (λ o. stands_before (covered_id e) o) (sym is) ∙ past)
