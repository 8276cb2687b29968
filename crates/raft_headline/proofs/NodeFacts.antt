-- What each node of a group has applied, wherever a history leads: a front of the one list, which later ones only lengthen.
use Rattle.std.specs.Prelude.{◌≡◌, ℕ, ◌+◌, ◌-◌, ◌≤◌, List, ◌++◌, drop, length, take, Some, None, refl}
use Rattle.std.proofs.Common.{sym, ap, ◌∙◌, arith, ⊎_elim, length-take-le, take-take}
use Rattle.std.proofs.lemmas.Bool.{cases_lt}
use Rattle.std.proofs.lemmas.List.{take-append-le, take_all}
use Rattle.raft_group_step.specs.StoredGroup.{StoredGroup, Snapshot, first_place, held, prefix_of}
use Rattle.raft_group_step.specs.GroupState.{GroupState}
use Rattle.raft_group_step.specs.SnapshotRequest.{place_above}
use Rattle.raft_laws.specs.BallotLists.{AgreeBelow}
use Rattle.raft_laws.specs.BallotWorld.{BallotWorld}
use Rattle.raft_laws.specs.GroupWorld.{GroupWorld, NodeState, Absent, Up, Down, Recorded, new_world}
use Rattle.raft_laws.specs.GroupRun.{Replays}
use Rattle.raft_laws.specs.OneList.{IsGroupHistory, applied_list}
use Rattle.raft_laws.specs.Settled.{group_list}
use Rattle.raft_laws.specs.VotesRise.{stored_of}
use Rattle.raft_laws.proofs.BallotAgreement.{agree_less, same_some}
use Rattle.raft_laws.proofs.Committed.{applied_agrees, same_front}
use Rattle.raft_laws.proofs.GroupList.{goes_on, list_grows}
use Rattle.raft_laws.proofs.HeldLists.{at_node, machine}
use Rattle.raft_laws.proofs.Histories.{histories-join}
use Rattle.raft_laws.proofs.Shapes.{joined_at, joined_below}
use Rattle.raft_laws.proofs.Standing.{SnapshotFits, UpFits}
use Rattle.raft_laws.proofs.WorldStart.{Founded, founded}
use Rattle.raft_headline.proofs.StepRuns.{PlacedLog}

module _ (ids : List ℕ) (rs : List Recorded) (w : GroupWorld) (h : IsGroupHistory ids rs w) where
  f : Founded w
  f = founded ids h.node_ids rs w h.replays

  abbrev ballots : BallotWorld
  ballots = machine f.membership f.some w f.is

  module _ (n : ℕ) (s : GroupState) (is : w.nodes n ≡ Up s) where
    up : UpFits f.membership (ballots.node n) s
    up = (at_node f.membership ballots w f.is.matches.fits n (Up s) is).1.up

    pub applied_committed : s.applied ≡ s.committed
    applied_committed = up.applied

    agrees : AgreeBelow (place_above s.applied) (held s.stored) (group_list w)
    agrees = applied_agrees ids rs w h n s is

    pub applied_size : length (applied_list s) ≡ place_above s.applied
    applied_size = length-take-le (place_above s.applied) (held s.stored) agrees.left

    pub applied_within : place_above s.applied ≤ length (group_list w)
    applied_within = agrees.right

    pub applied_front : applied_list s ≡ take (place_above s.applied) (group_list w)
    applied_front = same_front (place_above s.applied) (held s.stored) (group_list w) agrees

    pub placed_log : PlacedLog s
    placed_log i e there =
        ⊎_elim
        (λ l. absurd (let no : None ≡ Some e = sym (joined_below s.stored up.list up.joined i l) ∙ there in cc))
        (λ l.
        let p : e.log_id.index ≡ 0 + i = up.fits.good.placed i e (sym (joined_at s.stored up.list up.joined i l) ∙ there) in
        omega arith)
        (cases_lt i (first_place s.stored))

    pub snapshot_applied : length (prefix_of s.stored.snapshot) ≤ place_above s.applied
    snapshot_applied =
        let same : place_above s.applied ≡ place_above s.committed = ap place_above up.applied in
        omega (arith, up.fits.reaches, up.commit)

    -- a stored snapshot is a front of what is applied
    pub prefix_applied : take (length (prefix_of s.stored.snapshot)) (applied_list s) ≡ prefix_of s.stored.snapshot
    prefix_applied =
        let start = prefix_of s.stored.snapshot in
        take-take (length start) (place_above s.applied) (held s.stored) snapshot_applied
        ∙ take-append-le (length start) start (drop (length start - first_place s.stored) s.stored.log) (omega arith)
        ∙ take_all (length start) start (omega arith)

  snapshot_of : (n : ℕ) (x : NodeState) (st : StoredGroup) (y : Snapshot) → w.nodes n ≡ x → stored_of x ≡ Some st → st.snapshot ≡ Some y → SnapshotFits y
  snapshot_of n Absent st y is e g = absurd (let no : None ≡ Some st = e in cc)
  snapshot_of n (Up s) st y is e g =
      (up n s is).fits.snapshot y (ap (λ (t : StoredGroup). t.snapshot) (same_some e) ∙ g)
  snapshot_of n (Down stored) st y is e g =
      let down = (at_node f.membership ballots w f.is.matches.fits n (Down stored) is).1.down in
      down.fits.snapshot y (ap (λ (t : StoredGroup). t.snapshot) (same_some e) ∙ g)

  -- a stored snapshot's list is as long as its last log id says
  pub snapshot_size : (n : ℕ) (st : StoredGroup) (y : Snapshot) → stored_of (w.nodes n) ≡ Some st → st.snapshot ≡ Some y → length y.«prefix» ≡ y.last.index + 1
  snapshot_size n st y e g = (snapshot_of n (w.nodes n) st y refl e g).size

-- the list of a world stays the front of later ones
pub list_front : (ids : List ℕ) (rs more : List Recorded) (w v : GroupWorld) → IsGroupHistory ids rs w → Replays w more v → AgreeBelow (length (group_list w)) (group_list w) (group_list v)
list_front ids rs more w v h run =
    list_grows w v (goes_on more w v run) (founded ids h.node_ids rs w h.replays)
    (founded ids h.node_ids (rs ++ more) v (histories-join rs more (new_world ids) w v h.replays run))

-- what was applied stays the front of what is applied
pub applied_stays : (ids : List ℕ) (rs more : List Recorded) (w v : GroupWorld) → IsGroupHistory ids rs w → IsGroupHistory ids (rs ++ more) v → Replays w more v → (n m : ℕ) (s t : GroupState) → w.nodes n ≡ Up s → v.nodes m ≡ Up t → place_above s.applied ≤ place_above t.applied → take (place_above s.applied) (applied_list t) ≡ applied_list s
applied_stays ids rs more w v h k run n m s t is now le =
    let a = place_above s.applied in
    let front = list_front ids rs more w v h run in
    ap (take a) (applied_front ids (rs ++ more) v k m t now)
    ∙ take-take a (place_above t.applied) (group_list v) le
    ∙ sym (same_front a (group_list w) (group_list v) (agree_less a (applied_within ids rs w h n s is) front))
    ∙ sym (applied_front ids rs w h n s is)
