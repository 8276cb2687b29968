-- What an opening makes of a stored group: its log is as it was, or empty above the snapshot. Either goes on from the snapshot.
use Rattle.std.specs.Prelude.{◌≡◌, ℕ, ◌+◌, ◌-◌, true, length, drop, slice_get, Option, Some, None, option_and_then, option_map, refl}
use Rattle.std.proofs.Common.{sym, ap, ◌∙◌, subst, arith}
use Rattle.std.proofs.Math.Seq.{drop-nil}
use Rattle.raft_values.specs.declared.log_id.LogId.{LogId}
use Rattle.raft_values.specs.LogId.{next_place}
use Rattle.raft_group_step.specs.Values.{Entry, Membership, last_membership}
use Rattle.raft_group_step.specs.StoredGroup.{StoredGroup, Snapshot, StartAfter, end_place, first_place, id_at, membership_in_force, prefix_of, snapshot_last}
use Rattle.raft_group_step.specs.GroupState.{GroupState, state_of}
use Rattle.raft_group_step.specs.StepResult.{StepResult, unchanged}
use Rattle.raft_group_step.specs.Opening.{drop_stale_log, is_joined_to}
use Rattle.raft_group_step.proofs.Words.{either, either_by}
use Rattle.raft_laws.specs.BallotWorld.{BallotNode}
use Rattle.raft_laws.specs.GroupWorld.{Down}
use Rattle.raft_laws.specs.VotesRise.{stored_of}
use Rattle.raft_laws.specs.Opened.{IsInOrder, OpenedPlacesAreLow, OpenedPurgesKeepTheMembership, OpenedStatesAreInOrder}
use Rattle.raft_laws.specs.Ready.{IsKeptAtOpening}
use Rattle.raft_laws.proofs.BallotAgreement.{same_some}
use Rattle.raft_laws.proofs.FewMembers.{stored_entries_few, stored_few}
use Rattle.raft_laws.proofs.HeldLists.{at_node, machine}
use Rattle.raft_laws.proofs.Ids.{id_at_is}
use Rattle.raft_laws.proofs.KeptMemberships.{covered_places}
use Rattle.raft_laws.proofs.LowGroups.{Low, low_after}
use Rattle.raft_laws.proofs.LowPlaces.{NodeLow, history_low}
use Rattle.raft_laws.proofs.ReadyStates.{purge_of_kept_log}
use Rattle.raft_laws.proofs.Shapes.{joined_end, slice_drop, slice_taken}
use Rattle.raft_laws.proofs.Standing.{UpFits}
use Rattle.raft_laws.proofs.StepEntries.{StoredEach}
use Rattle.raft_laws.proofs.StepOpening.{opened_up}
use Rattle.raft_laws.proofs.WorldStart.{founded}
use Rattle.raft_laws.proofs.WrittenMembers.{IsFewEntry}

-- a log without what the snapshot has, up to this place, keeps the membership in force
abbrev KeepsAt : ℕ → StoredGroup → Type 0
KeepsAt place st =
    last_membership (option_and_then (λ (x : Snapshot). x.membership) st.snapshot) (drop (place + 1 - first_place st) st.log) ≡ membership_in_force st

module _ (st : StoredGroup) where
  dropped_low : (o : Option Snapshot) → st.snapshot ≡ o → Low st → Low (drop_stale_log (option_map (λ (x : Snapshot). x.last) o) (unchanged (state_of st))).state.stored
  dropped_low None is h = h
  dropped_low (Some x) is h =
      either (λ (r : StepResult). Low r.state.stored) _ _ _ h (low_after (StartAfter x.last) st h (h.snapshot x is))

  -- a log that the opening dropped is empty, so nothing goes from it
  dropped_keeps : (place : ℕ) → (IsKeptAtOpening st → KeepsAt place st) → (o : Option (LogId ℕ)) → snapshot_last st ≡ o → KeepsAt place (drop_stale_log o (unchanged (state_of st))).state.stored
  dropped_keeps place kept None is = kept (λ last e. absurd (let no : None ≡ Some last = sym is ∙ e in cc))
  dropped_keeps place kept (Some last) is =
      either_by (λ (r : StepResult). KeepsAt place r.state.stored) (is_joined_to st last) _ _
      (λ joined. kept (λ other e. subst (λ (id : LogId ℕ). is_joined_to st id ≡ true) (same_some (sym is ∙ e)) joined))
      (λ no.
      ap (last_membership (option_and_then (λ (x : Snapshot). x.membership) st.snapshot)) (drop-nil (place + 1 - (last.index + 1))))

  dropped_few : StoredEach IsFewEntry st → (o : Option (LogId ℕ)) → StoredEach IsFewEntry (drop_stale_log o (unchanged (state_of st))).state.stored
  dropped_few h None = h
  dropped_few h (Some last) =
      either_by (λ (r : StepResult). StoredEach IsFewEntry r.state.stored) (is_joined_to st last) _ _ (λ joined. h) (λ no. (tt, h.1))

-- ---- what goes on from its snapshot is in order

module _ {m : Membership} {x : BallotNode} {s : GroupState} (up : UpFits m x s) where
  placed_at : (i : ℕ) (e : Entry) → slice_get s.stored.log i ≡ Some e → e.log_id.index ≡ first_place s.stored + i
  placed_at i e there =
      let start = first_place s.stored in
      let listed : slice_get up.list (start + i) ≡ Some e =
      sym (slice_drop start up.list i) ∙ ap (λ l. slice_get l i) (sym up.joined.log) ∙ there
      in
      let place = up.fits.good.placed (start + i) e listed in
      omega arith

  last_at : (o : Option Snapshot) → s.stored.snapshot ≡ o → (last : LogId ℕ) → option_map (λ (y : Snapshot). y.last) o ≡ Some last → id_at s.stored last.index ≡ Some last
  last_at None is last e = absurd (let no : None ≡ Some last = e in cc)
  last_at (Some y) is last e =
      let fits = up.fits.snapshot y is in
      let size : length (prefix_of s.stored.snapshot) ≡ y.last.index + 1 = ap (λ o. length (prefix_of o)) is ∙ fits.size in
      let has = fits.last in
      let front : slice_get (prefix_of s.stored.snapshot) y.last.index ≡ Some has.entry =
      ap (λ o. slice_get (prefix_of o) y.last.index) is ∙ has.there
      in
      let listed : slice_get up.list y.last.index ≡ Some has.entry =
      slice_taken (length (prefix_of s.stored.snapshot)) up.list y.last.index has.entry
      (ap (λ l. slice_get l y.last.index) (sym up.joined.front) ∙ front)
      in
      subst (λ (id : LogId ℕ). id_at s.stored id.index ≡ Some id) (same_some e)
      (id_at_is m x s.stored up.list up.fits up.joined y.last.index has.entry listed (omega (arith, up.joined.low, size))
      ∙ ap Some has.same)

  in_order : StoredEach IsFewEntry s.stored → IsInOrder s.stored
  in_order few =
      let size : length (prefix_of s.stored.snapshot) ≡ next_place (snapshot_last s.stored) = covered_places s.stored up.fits.snapshot in
      let ends : end_place s.stored ≡ length up.list = joined_end s.stored up.list up.joined in
      record {
        placed = placed_at;
        covered = omega (arith, size, up.joined.low);
        joined = last_at s.stored.snapshot refl;
        reaches = omega (arith, size, ends, up.joined.high);
        members = stored_few s.stored up.fits.snapshot few;
      }

-- ---- histories

pub opened_low : OpenedPlacesAreLow
opened_low ids rs end h n st is =
    (dropped_low st st.snapshot refl (subst NodeLow is (history_low ids h.node_ids rs end h.replays n))).reaches

pub opened_keeps : OpenedPurgesKeepTheMembership
opened_keeps ids rs end h n st is place within =
    dropped_keeps st place (λ kept. purge_of_kept_log ids rs end h n st (ap stored_of is) kept place within) (snapshot_last st) refl

pub opened_in_order : OpenedStatesAreInOrder
opened_in_order ids rs end h n st is =
    let f = founded ids h.node_ids rs end h.replays in
    let fits = at_node f.membership (machine f.membership f.some end f.is) end f.is.matches.fits n (Down st) is in
    in_order (opened_up f.membership f.some n f.is.matches.before st fits.1.down fits.1.lead)
    (dropped_few st (stored_entries_few ids rs end h n st (ap stored_of is)) (snapshot_last st))
