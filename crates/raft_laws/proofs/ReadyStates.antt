-- What nodes of every history are to purge, and the snapshots that they may build, as an engine asks.
use Rattle.std.specs.Prelude.{◌≡◌, ℕ, ◌+◌, ◌-◌, ◌<◌, ◌≤◌, List, length, drop, Option, Some, None, option_and_then, option_map, refl}
use Rattle.std.proofs.Common.{ap, subst, arith, ⊎_elim}
use Rattle.raft_values.specs.declared.log_id.LogId.{LogId}
use Rattle.raft_values.specs.LogId.{next_place}
use Rattle.raft_group_step.specs.StoredGroup.{StoredGroup, Snapshot, CutFrom, after_storing, entry_at, first_place, id_of, membership_in_force, snapshot_last}
use Rattle.raft_group_step.specs.Values.{Membership, Entry, last_membership}
use Rattle.raft_group_step.specs.SnapshotTrigger.{snapshot_at}
use Rattle.raft_group_step.specs.GroupState.{GroupState}
use Rattle.raft_laws.specs.BallotWorld.{BallotNode, BallotWorld}
use Rattle.raft_laws.specs.GroupWorld.{GroupWorld, NodeState, Absent, Up, Down, Recorded}
use Rattle.raft_laws.specs.VotesRise.{stored_of}
use Rattle.raft_laws.specs.OneList.{IsGroupHistory}
use Rattle.raft_laws.specs.Ready.{IsKeptAtOpening}
use Rattle.raft_laws.proofs.BallotAgreement.{same_some}
use Rattle.raft_laws.proofs.Shapes.{Stale}
use Rattle.raft_laws.proofs.Standing.{DownFits, SnapshotFits, up_down}
use Rattle.raft_laws.proofs.StepFits.{NodeFits}
use Rattle.raft_laws.proofs.WorldFits.{NodeStateFits}
use Rattle.raft_laws.proofs.WorldStart.{Founded, founded}
use Rattle.raft_laws.proofs.HeldLists.{at_node, machine}
use Rattle.raft_laws.proofs.KeptMemberships.{covered_places, purge_keeps, snapshot_has, stale_dropped}

module _ (ids : List ℕ) (rs : List Recorded) (end : GroupWorld) (h : IsGroupHistory ids rs end) where
  f : Founded end
  f = founded ids h.node_ids rs end h.replays

  module _ (n : ℕ) (s : GroupState) (is : end.nodes n ≡ Up s) where
    fits : NodeFits f.membership (machine f.membership f.some end f.is) n s
    fits = (at_node f.membership (machine f.membership f.some end f.is) end f.is.matches.fits n (Up s) is).1

    pub wish_covered : (place : ℕ) → s.wish ≡ Some place → place < next_place (snapshot_last s.stored)
    wish_covered place wish =
        let within = fits.wish place wish in
        let size = covered_places s.stored fits.up.fits.snapshot in
        omega arith

    pub purge_of_up_node : (place : ℕ) → place < next_place (snapshot_last s.stored) → last_membership (option_and_then (λ (x : Snapshot). x.membership) s.stored.snapshot) (drop (place + 1 - first_place s.stored) s.stored.log) ≡ membership_in_force s.stored
    purge_of_up_node = purge_keeps s.stored fits.up.fits.snapshot fits.up.list fits.up.joined

    pub snapshot_ready : (last : LogId ℕ) → s.applied ≡ Some last.index → id_of (entry_at s.stored last.index) ≡ Some last → next_place (snapshot_last s.stored) ≤ last.index → (snapshot_at s.stored last).membership ≡ membership_in_force (after_storing (CutFrom (last.index + 1)) s.stored)
    snapshot_ready last applied there past =
        snapshot_has s.stored fits.up.fits.snapshot fits.up.list fits.up.joined last there past

  -- a snapshot's last log id, where the list of the snapshot has some place
  last_there : (o : Option Snapshot) (place : ℕ) → place < next_place (option_map (λ (x : Snapshot). x.last) o) → (last : LogId ℕ) × (option_map (λ (x : Snapshot). x.last) o ≡ Some last)
  last_there None place within = absurd (omega arith)
  last_there (Some x) place within = (x.last, refl)

  module _ (st : StoredGroup) (kept : IsKeptAtOpening st) (place : ℕ) (within : place < next_place (snapshot_last st)) where
    not_stale : ((x : Snapshot) → st.snapshot ≡ Some x → SnapshotFits x) → (xs : List Entry) → Stale st xs → ⊥
    not_stale snapshot xs stale =
        let last = last_there st.snapshot place within in
        let size = covered_places st snapshot in
        let front = ap length stale.front in
        let above = ap next_place last.1 in
        stale_dropped st last.0 (omega (arith, stale.short)) (kept last.0 last.1)

    keeps : {m : Membership} {x : BallotNode} → DownFits m x st → last_membership (option_and_then (λ (x : Snapshot). x.membership) st.snapshot) (drop (place + 1 - first_place st) st.log) ≡ membership_in_force st
    keeps d =
        ⊎_elim
        (λ j. purge_keeps st d.fits.snapshot d.list j place within)
        (λ stale. absurd (not_stale d.fits.snapshot d.list stale))
        d.shape

  pub purge_of_kept_log : (n : ℕ) (st : StoredGroup) → stored_of (end.nodes n) ≡ Some st → IsKeptAtOpening st → (place : ℕ) → place < next_place (snapshot_last st) → last_membership (option_and_then (λ (x : Snapshot). x.membership) st.snapshot) (drop (place + 1 - first_place st) st.log) ≡ membership_in_force st
  purge_of_kept_log n st stored kept place within =
      keeps st kept place within (down_fits (end.nodes n) (f.is.matches.fits.nodes n) stored)
    where
      world : BallotWorld
      world = machine f.membership f.some end f.is

      down_fits : (x : NodeState) → NodeStateFits f.membership world n x → stored_of x ≡ Some st → DownFits f.membership (world.node n) st
      down_fits Absent fits e = absurd (let no : None ≡ Some st = e in cc)
      down_fits (Up s) fits e = subst (DownFits f.membership (world.node n)) (same_some e) (up_down fits.1.up)
      down_fits (Down stored) fits e = subst (DownFits f.membership (world.node n)) (same_some e) fits.1.down
