-- Snapshots have the whole list up to their last entry.
use Rattle.std.specs.Prelude.{◌≡◌, ◌⊎◌, ℕ, List, length, Some, None}
use Rattle.std.proofs.Common.{inl, sym, ap, ◌∙◌, subst, arith, ⊎_elim}
use Rattle.raft_group_step.specs.Values.{Entry, Membership}
use Rattle.raft_group_step.specs.StoredGroup.{StoredGroup, Snapshot, prefix_of}
use Rattle.raft_group_step.specs.Message.{SnapshotRequest}
use Rattle.raft_laws.specs.BallotWorld.{BallotNode, BallotWorld}
use Rattle.raft_laws.specs.GroupWorld.{NodeState, Absent, Up, Down}
use Rattle.raft_laws.specs.VotesRise.{stored_of}
use Rattle.raft_laws.proofs.BallotAgreement.{same_some}
use Rattle.raft_laws.proofs.BallotSafe.{among_at}
use Rattle.raft_laws.proofs.Shapes.{Good, Joined, Stale, good_take}
use Rattle.raft_laws.proofs.Standing.{BodyFits, SnapshotFits, StoredFits}
use Rattle.raft_laws.proofs.StepFits.{world_after}
use Rattle.raft_laws.proofs.WorldFits.{NodeStateFits}
use Rattle.raft_laws.proofs.WorldStart.{founded}
use Rattle.raft_laws.proofs.Counts.{contains_at}
use Rattle.raft_history_laws.specs.WholeSnapshots.{IsWhole, SentSnapshotsAreWhole, SnapshotsAreWhole}

whole : (m : Membership) (x : Snapshot) → Good m 0 x.«prefix» → SnapshotFits x → IsWhole x
whole m x good h =
    record {
      size = h.size;
      placed = λ i e at. let p = good.placed i e at in omega arith;
      entry = h.last.entry;
      stands_last = h.last.there;
      last = h.last.same;
      membership = h.membership;
    }

-- the snapshot of what fits
fitted : (m : Membership) (x : BallotNode) (st : StoredGroup) (xs : List Entry) (y : Snapshot) → StoredFits m x st xs → Joined st xs ⊎ Stale st xs → st.snapshot ≡ Some y → IsWhole y
fitted m x st xs y fits shape is =
    let front : prefix_of st.snapshot ≡ y.«prefix» = ap prefix_of is in
    let good : Good m 0 (prefix_of st.snapshot) =
    ⊎_elim
    (λ j. subst (Good m 0) (sym j.front) (good_take (length (prefix_of st.snapshot)) fits.good))
    (λ s. subst (Good m 0) (sym s.front) fits.good)
    shape
    in
    whole m y (subst (Good m 0) front good) (fits.snapshot y is)

stored_whole : (m : Membership) (b : BallotWorld) (n : ℕ) (state : NodeState) (st : StoredGroup) (x : Snapshot) → NodeStateFits m b n state → stored_of state ≡ Some st → st.snapshot ≡ Some x → IsWhole x
stored_whole m b n Absent st x h e is = absurd (let no : None ≡ Some st = e in cc)
stored_whole m b n (Up s) st x h e is =
    let u = h.1.up in
    fitted m (b.node n) s.stored u.list x u.fits (inl u.joined) (ap (λ (y : StoredGroup). y.snapshot) (same_some e) ∙ is)
stored_whole m b n (Down stored) st x h e is =
    let d = h.1.down in
    fitted m (b.node n) stored d.list x d.fits d.shape (ap (λ (y : StoredGroup). y.snapshot) (same_some e) ∙ is)

pub snapshots_whole : SnapshotsAreWhole
snapshots_whole ids rs end h n st x has is =
    let f = founded ids h.node_ids rs end h.replays in
    stored_whole f.membership (world_after f.membership f.is.matches.before) n (end.nodes n) st x (f.is.matches.fits.nodes n) has is

pub sent_whole : SentSnapshotsAreWhole
sent_whole ids rs end h y within vote id x is =
    let f = founded ids h.node_ids rs end h.replays in
    let b = world_after f.membership f.is.matches.before in
    let k = contains_at end.messages y within in
    let fits = f.is.matches.fits.messages y (among_at end.messages k.0 y k.1) in
    let body : BodyFits f.membership b y.sender (SnapshotRequest vote id x) = subst (BodyFits f.membership b y.sender) is fits in
    whole f.membership x body.good body.snapshot
