-- What nodes know to be committed, what they applied, and their snapshots are fronts of the group's list.
use Rattle.std.specs.Prelude.{◌≡◌, ℕ, zero, suc, ◌≤◌, List, [], ◌∷◌, length, take, Some, None, refl}
use Rattle.std.proofs.Common.{sym, ap, ◌∙◌, subst, arith}
use Rattle.raft_group_step.specs.StoredGroup.{StoredGroup, Holds, held, prefix_of}
use Rattle.raft_group_step.specs.GroupState.{GroupState}
use Rattle.raft_group_step.specs.SnapshotRequest.{place_above}
use Rattle.raft_laws.specs.BallotLists.{AgreeBelow}
use Rattle.raft_laws.specs.BallotWorld.{BallotWorld}
use Rattle.raft_laws.specs.BallotRanks.{ballot_group}
use Rattle.raft_laws.specs.GroupWorld.{GroupWorld, NodeState, Absent, Up, Down, Recorded}
use Rattle.raft_laws.specs.Settled.{group_list}
use Rattle.raft_laws.specs.VotesRise.{stored_of}
use Rattle.raft_laws.specs.OneList.{IsGroupHistory}
use Rattle.raft_laws.proofs.BallotAgreement.{agree_append, agree_less, agree_tail, agree_head, agree_trans, same_some}
use Rattle.raft_laws.proofs.BallotSettling.{all_commits}
use Rattle.raft_laws.proofs.WorldStart.{Founded, founded}
use Rattle.raft_laws.proofs.WorldLimits.{NodeLimits, WorldLimits, replied}
use Rattle.raft_laws.proofs.WorldCommits.{history_limits}
use Rattle.raft_laws.proofs.HeldLists.{HoldsLog, as_holds, at_node, events, holds_list, machine, node_holds}

-- lists that agree have equal fronts
pub same_front : {A : Type 0} (k : ℕ) (xs ys : List A) → AgreeBelow k xs ys → take k xs ≡ take k ys
same_front zero xs ys a = refl
same_front (suc k) [] ys a = absurd (omega (arith, a.left))
same_front (suc k) (x ∷ xs) [] a = absurd (omega (arith, a.right))
same_front (suc k) (x ∷ xs) (y ∷ ys) a = ap (λ z. z ∷ take k xs) (agree_head a) ∙ ap (λ zs. y ∷ zs) (same_front k xs ys (agree_tail a))

module _ (ids : List ℕ) (rs : List Recorded) (end : GroupWorld) (h : IsGroupHistory ids rs end) where
  f : Founded end
  f = founded ids h.node_ids rs end h.replays

  abbrev world : BallotWorld
  world = machine f.membership f.some end f.is

  limits : WorldLimits end
  limits = history_limits ids h.node_ids rs end h.replays

  state_limits : (n : ℕ) (x : NodeState) → end.nodes n ≡ x → NodeLimits (length (group_list end)) (replied end) x
  state_limits n x is = subst (NodeLimits (length (group_list end)) (replied end)) is (limits.nodes n)

  -- as far as the machine's node knows to be committed, the node holds the list
  committed_front : (n : ℕ) (st : StoredGroup) (k : ℕ) → HoldsLog f.membership (world.node n).log st → k ≤ (world.node n).commit → k ≤ length (group_list end) → AgreeBelow k (held st) (group_list end)
  committed_front n st k holds le within =
      holds_list f.membership f.some end f.is n st k holds
      (agree_less k le (all_commits (ballot_group f.membership) f.some (events f.membership f.some end f.is) n))
      within

  pub committed_agrees : (n : ℕ) (s : GroupState) → end.nodes n ≡ Up s → AgreeBelow (place_above s.committed) (held s.stored) (group_list end)
  committed_agrees n s is =
      let fits = at_node f.membership world end f.is.matches.fits n (Up s) is in
      let low = (state_limits n (Up s) is).committed in
      let commit = fits.1.up.commit in
      committed_front n s.stored (place_above s.committed) (node_holds f.membership world n (Up s) s.stored fits refl) (omega arith) low

  pub committed_holds : (n : ℕ) (s : GroupState) → end.nodes n ≡ Up s → (place : ℕ) → s.committed ≡ Some place → Holds s.stored (group_list end) place
  committed_holds n s is place at =
      let above : place_above s.committed ≡ suc place = let e = ap place_above at in omega arith in
      as_holds f.membership f.some end f.is s.stored place
      (subst (λ k. AgreeBelow k (held s.stored) (group_list end)) above (committed_agrees n s is))

  applied_is : (n : ℕ) (s : GroupState) → end.nodes n ≡ Up s → s.applied ≡ s.committed
  applied_is n s is = (at_node f.membership world end f.is.matches.fits n (Up s) is).1.up.applied

  pub applied_agrees : (n : ℕ) (s : GroupState) → end.nodes n ≡ Up s → AgreeBelow (place_above s.applied) (held s.stored) (group_list end)
  applied_agrees n s is = subst (λ o. AgreeBelow (place_above o) (held s.stored) (group_list end)) (sym (applied_is n s is)) (committed_agrees n s is)

  pub applied_holds : (n : ℕ) (s : GroupState) → end.nodes n ≡ Up s → (place : ℕ) → s.applied ≡ Some place → Holds s.stored (group_list end) place
  applied_holds n s is place at = committed_holds n s is place (sym (applied_is n s is) ∙ at)

  prefix_front : (st : StoredGroup) → AgreeBelow (length (prefix_of st.snapshot)) (held st) (group_list end) → AgreeBelow (length (prefix_of st.snapshot)) (prefix_of st.snapshot) (group_list end)
  prefix_front st a = agree_trans (agree_append (prefix_of st.snapshot) _) a

  snapshot_at : (n : ℕ) (x : NodeState) (st : StoredGroup) → end.nodes n ≡ x → stored_of x ≡ Some st → AgreeBelow (length (prefix_of st.snapshot)) (prefix_of st.snapshot) (group_list end)
  snapshot_at n Absent st is e = absurd (let no : None ≡ Some st = e in cc)
  snapshot_at n (Up s) st is e =
      let fits = at_node f.membership world end f.is.matches.fits n (Up s) is in
      let low = (state_limits n (Up s) is).snapshot in
      subst (λ (y : StoredGroup). AgreeBelow (length (prefix_of y.snapshot)) (prefix_of y.snapshot) (group_list end)) (same_some e)
      (prefix_front s.stored
      (committed_front n s.stored (length (prefix_of s.stored.snapshot)) (node_holds f.membership world n (Up s) s.stored fits refl) fits.1.up.fits.reaches low))
  snapshot_at n (Down stored) st is e =
      let fits = at_node f.membership world end f.is.matches.fits n (Down stored) is in
      let low = state_limits n (Down stored) is in
      subst (λ (y : StoredGroup). AgreeBelow (length (prefix_of y.snapshot)) (prefix_of y.snapshot) (group_list end)) (same_some e)
      (prefix_front stored
      (committed_front n stored (length (prefix_of stored.snapshot)) (node_holds f.membership world n (Down stored) stored fits refl) fits.1.down.fits.reaches low))

  pub snapshot_front : (n : ℕ) (st : StoredGroup) → stored_of (end.nodes n) ≡ Some st → AgreeBelow (length (prefix_of st.snapshot)) (prefix_of st.snapshot) (group_list end)
  snapshot_front n st e = snapshot_at n (end.nodes n) st refl e
