-- Past what a leader was noted with its node has own entries alone, as long as it keeps the vote.
use Rattle.std.specs.Prelude.{◌≡◌, ℕ, ◌<◌, ◌≤◌, ◌^◌, Bool, true, false, List, [], ◌++◌, length, slice_get, Option, Some, refl}
use Rattle.std.proofs.Common.{sym, ap, ap₂, ◌∙◌, subst, arith, ⊎_elim}
use Rattle.std.proofs.lemmas.Bool.{cases_Bool, cases_lt}
use Rattle.std.proofs.lemmas.Option.{none-some, slice_get_within}
use Rattle.raft_values.specs.declared.vote.LeaderId.{LeaderId}
use Rattle.raft_values.specs.declared.vote.Vote.{Vote}
use Rattle.raft_group_step.specs.Values.{Entry, Membership}
use Rattle.raft_group_step.specs.StoredGroup.{StoredGroup, held}
use Rattle.raft_group_step.specs.GroupState.{GroupState, Role, Follower, Candidate, Leader, state_of}
use Rattle.raft_group_step.specs.GroupEvent.{Open}
use Rattle.raft_group_step.specs.StepResult.{StepResult}
use Rattle.raft_group_step.specs.GroupStep.{group_step}
use Rattle.raft_laws.specs.BallotLists.{AgreeBelow}
use Rattle.raft_laws.specs.BallotWorld.{BallotEvent, BallotWorld, ballot_run}
use Rattle.raft_laws.specs.BallotRanks.{ballot_entry, ballot_group, ballot_log, owner_of, rank_of}
use Rattle.raft_laws.specs.declared.world_event.WorldEvent.{WorldEvent}
use Rattle.raft_laws.specs.GroupWorld.{GroupWorld, NodeState, Absent, Up, Down, Led, Outcome, Done, Refused, Stopped, Skipped, Recorded, is_stop, new_world}
use Rattle.raft_laws.specs.NodeEvent.{NodeEvent, Comes, Crashes, Halts, Restarts, after_step, outcome_at, state_after}
use Rattle.raft_laws.specs.GroupRun.{Scene, Nowhere, At, Replays, after_scene, led_after, led_as, led_by, outcome_in, scene_of, stop_at}
use Rattle.raft_laws.specs.OneList.{AreNodeIds}
use Rattle.raft_laws.specs.VotesRise.{stored_of}
use Rattle.raft_laws.proofs.BallotAgreement.{same_some}
use Rattle.raft_laws.proofs.BallotRuns.{run_next}
use Rattle.raft_laws.proofs.BallotSafe.{Among, Safe}
use Rattle.raft_laws.proofs.HeldLists.{HoldsLog, node_holds}
use Rattle.raft_laws.proofs.Ids.{ballot_at, size_same}
use Rattle.raft_laws.proofs.SettledFits.{same_lists}
use Rattle.raft_laws.proofs.Standing.{OwnVote, up_down}
use Rattle.raft_laws.proofs.StepDispatch.{opening_fits}
use Rattle.raft_laws.proofs.StepFits.{StepEnd, world_after}
use Rattle.raft_laws.proofs.VoteRanks.{owner_is, rank_leader}
use Rattle.raft_laws.proofs.WorldFits.{LedFits, NodeStateFits, WorldFits, after_safe}
use Rattle.raft_laws.proofs.WorldRuns.{MayTakePlace, among_either}
use Rattle.raft_laws.proofs.WorldSteps.{MayHappen, comes_end}
use Rattle.raft_history_laws.proofs.Along.{along}
use Rattle.raft_history_laws.proofs.AlongNodes.{may_follow}
use Rattle.raft_history_laws.proofs.Later.{one_node}
use Rattle.raft_history_laws.proofs.LeaderLists.{notes_are_own, vote_fits}
use Rattle.raft_list_laws.proofs.LeadsGrow.{run_own}
use Rattle.raft_list_laws.proofs.NotedWorlds.{has_some}

-- a vote is its leader, and whether it is committed
pub same_votes : (a b : Vote ℕ) → a.leader_id ≡ b.leader_id → a.committed ≡ b.committed → a ≡ b
same_votes a b leader flag = ap₂ (λ (i : LeaderId ℕ) (c : Bool). let v : Vote ℕ = record { leader_id = i; committed = c } in v) leader flag

-- past what the leader was noted with there are own entries alone
abbrev pub OwnBehind : Led → List Entry → Type 0
OwnBehind l xs = (i : ℕ) (e : Entry) → length l.list ≤ i → slice_get xs i ≡ Some e → e.log_id.leader_id ≡ l.vote.leader_id

-- so it is of the notes of a node under the vote that it has stored
abbrev OwnAt : List Led → ℕ → NodeState → Type 0
OwnAt led n x = (l : Led) → Among l led → l.node ≡ n → (st : StoredGroup) → stored_of x ≡ Some st → st.vote ≡ l.vote → OwnBehind l (held st)

-- ---- an event at a node, followed by the ballot machine

module _ (m : Membership) (some : 0 < length m.configs) (before : List BallotEvent) (n : ℕ) where
  abbrev b : BallotWorld
  b = world_after m before

  -- the node's state after some events of the machine
  abbrev FitsLater : NodeState → Type 0
  FitsLater x = (es : List BallotEvent) × NodeStateFits m (ballot_run (ballot_group m) es b) n x

  step_later : n < 2 ^ 64 → (s : GroupState) (r : StepResult) → StepEnd m n before s.stored r → (stopped : Bool) (k : ℕ) → FitsLater (after_step (stop_at stopped k) s r)
  step_later small s r end true k = let stop = end.stops k in (stop.later.events, (small, stop.fits))
  step_later small s r end false k = (end.later.events, (small, end.node))

  event_later : (e : NodeEvent) (stopped : Bool) (k : ℕ) (x : NodeState) → NodeStateFits m b n x → MayHappen m b n e x → FitsLater (state_after n e (stop_at stopped k) x)
  event_later e stopped k Absent h may = ([], h)
  event_later (Comes e) stopped k (Up s) h may = step_later h.0 s (group_step n s e) (comes_end m some before n h.0 s e h.1 may) stopped k
  event_later Crashes stopped k (Up s) h may = ([], (h.0, record { down = up_down h.1.up; lead = h.1.lead }))
  event_later Halts stopped k (Up s) h may = ([], (h.0, record { down = up_down h.1.up; lead = h.1.lead }))
  event_later Restarts stopped k (Up s) h may = ([], h)
  event_later (Comes e) stopped k (Down stored) h may = ([], h)
  event_later Crashes stopped k (Down stored) h may = ([], h)
  event_later Halts stopped k (Down stored) h may = ([], h)
  event_later Restarts stopped k (Down stored) h may =
      step_later h.0 (state_of stored) (group_step n (state_of stored) Open) (opening_fits m some n h.0 before stored h.1) stopped k

  -- what is stored under a committed vote of the node's own is all that the vote's leader had
  state_lead : (w : BallotWorld) → Safe (ballot_group m) w → (x : NodeState) (st : StoredGroup) → NodeStateFits m w n x → stored_of x ≡ Some st → OwnVote n st.vote true → w.lead (rank_of st.vote.leader_id) ≡ ballot_log (held st)
  state_lead w safe x st fits has mine =
      let v = vote_fits m w n x st fits has in
      let holds = node_holds m w n x st fits has in
      let owned : owner_of (rank_of st.vote.leader_id) ≡ n = owner_is st.vote.leader_id mine.term v.bound ∙ mine.node in
      let term = mine.term in
      let positive : 0 < (w.node n).ballot = omega (arith, v.ballot) in
      let leads = (safe.node n).leads (v.committed ∙ mine.flag) positive (ap owner_of v.ballot ∙ owned) in
      ap w.lead (sym v.ballot) ∙ sym leads.0 ∙ holds.is

  module _ (l : Led) (fits : LedFits m b l) (mine : OwnVote n l.vote true) (x y : NodeState) (st0 st : StoredGroup) (was : stored_of x ≡ Some st0) (is : stored_of y ≡ Some st) (at : NodeStateFits m b n x) (es : List BallotEvent) (at_y : NodeStateFits m (ballot_run (ballot_group m) es b) n y) (same : st.vote ≡ l.vote) where
    safe : Safe (ballot_group m) b
    safe = after_safe m some before

    abbrev next : BallotWorld
    next = ballot_run (ballot_group m) es b

    abbrev rank : ℕ
    rank = rank_of l.vote.leader_id

    is_led : b.led rank ≡ true
    is_led =
        let front = fits.front.right in
        let there = has_some l.list fits.has in
        let sizes = size_same l.list in
        let term = mine.term in
        ⊎_elim
        (λ yes. yes)
        (λ not_led. let none = ap length (safe.unled rank (omega arith) not_led) in absurd (omega arith))
        (cases_Bool (b.led rank))

    -- the vote was the node's before
    vote_before : st0.vote ≡ l.vote
    vote_before =
        let v = vote_fits m b n x st0 at was in
        let v' = vote_fits m next n y st at_y is in
        let own = (safe.node n).own rank is_led (owner_is l.vote.leader_id mine.term fits.bound ∙ mine.node) in
        let rises = (run_next (ballot_group m) some b es safe).later.ballots n in
        let now : rank_of st.vote.leader_id ≡ rank = ap (λ (u : Vote ℕ). rank_of u.leader_id) same in
        let before_is = v.ballot in
        let after_is = v'.ballot in
        let lower = own.0 in
        let level : rank ≡ (b.node n).ballot = omega arith in
        let leader = rank_leader st0.vote.leader_id l.vote.leader_id v.bound fits.bound (sym before_is ∙ sym level) in
        same_votes st0.vote l.vote leader (sym v.committed ∙ own.1 level ∙ sym mine.flag)

    own_still : OwnBehind l (held st0) → OwnBehind l (held st)
    own_still h i e le at_i =
        let s' = (run_next (ballot_group m) some b es safe).safe in
        let later = (run_next (ballot_group m) some b es safe).later in
        let first : b.lead rank ≡ ballot_log (held st0) =
        ap (λ (u : Vote ℕ). b.lead (rank_of u.leader_id)) (sym vote_before) ∙ state_lead b safe x st0 at was (subst (λ u. OwnVote n u true) (sym vote_before) mine)
        in
        let second : next.lead rank ≡ ballot_log (held st) =
        ap (λ (u : Vote ℕ). next.lead (rank_of u.leader_id)) (sym same) ∙ state_lead next s' y st at_y is (subst (λ u. OwnVote n u true) (sym same) mine)
        in
        let holds : HoldsLog m (b.node n).log st0 = node_holds m b n x st0 at was in
        let holds' : HoldsLog m (next.node n).log st = node_holds m next n y st at_y is in
        let size = ap length first in
        let sizes = size_same (held st0) in
        ⊎_elim
        (λ old.
        let agree : AgreeBelow (length (b.lead rank)) (ballot_log (held st0)) (ballot_log (held st)) =
        subst (λ xs. AgreeBelow (length (b.lead rank)) xs (ballot_log (held st))) first (subst (AgreeBelow (length (b.lead rank)) (b.lead rank)) second (later.lead rank))
        in
        let lists = same_lists (length (b.lead rank)) holds.good holds'.good agree in
        h i e le (lists.same i (omega arith) ∙ at_i))
        (λ new.
        let own = (run_own (ballot_group m) some rank es b safe is_led).own i (ballot_entry e) (omega arith) (ap (λ xs. slice_get xs i) second ∙ ballot_at (held st) i e at_i) in
        rank_leader e.log_id.leader_id l.vote.leader_id (holds'.good.bounded i e at_i) fits.bound own)
        (cases_lt i (length (held st0)))

-- ---- event by event

-- the note of a node that is up has all that it holds
note_whole : (o : Outcome) (n : ℕ) (x : NodeState) (l : Led) → Among l (led_after o n x) → (st : StoredGroup) → stored_of x ≡ Some st → l.list ≡ held st
note_whole o n x l a st is = go o a
  where
    of_role : (s : GroupState) (role : Role) → Among l (led_as n s role) → s.stored ≡ st → l.list ≡ held st
    of_role s Follower h same = absurd h
    of_role s (Candidate granters) h same = absurd h
    of_role s (Leader lead) h same = ⊎_elim (λ e. ap (λ (y : Led). y.list) e ∙ ap held same) (λ none. absurd none) h

    of_state : (y : NodeState) → Among l (led_by n y) → stored_of y ≡ Some st → l.list ≡ held st
    of_state Absent h has = absurd h
    of_state (Up s) h has = of_role s s.role h (same_some has)
    of_state (Down stored) h has = absurd h

    go : (q : Outcome) → Among l (led_after q n x) → l.list ≡ held st
    go (Done sent told unknown) h = of_state x h is
    go (Refused why) h = of_state x h is
    go (Stopped unknown) h = absurd h
    go Skipped h = absurd h

note_node : (o : Outcome) (n : ℕ) (x : NodeState) (l : Led) → Among l (led_after o n x) → l.node ≡ n
note_node o n x l a = go o a
  where
    of_role : (s : GroupState) (role : Role) → Among l (led_as n s role) → l.node ≡ n
    of_role s Follower h = absurd h
    of_role s (Candidate granters) h = absurd h
    of_role s (Leader lead) h = ⊎_elim (λ e. ap (λ (y : Led). y.node) e) (λ none. absurd none) h

    of_state : (y : NodeState) → Among l (led_by n y) → l.node ≡ n
    of_state Absent h = absurd h
    of_state (Up s) h = of_role s s.role h
    of_state (Down stored) h = absurd h

    go : (q : Outcome) → Among l (led_after q n x) → l.node ≡ n
    go (Done sent told unknown) h = of_state x h
    go (Refused why) h = of_state x h
    go (Stopped unknown) h = absurd h
    go Skipped h = absurd h

-- a node that isn't there stays so
stored_before : (n : ℕ) (e : NodeEvent) (stop : Option ℕ) (x : NodeState) (st : StoredGroup) → stored_of (state_after n e stop x) ≡ Some st → (st0 : StoredGroup) × (stored_of x ≡ Some st0)
stored_before n e stop Absent st is = absurd (none-some _ is)
stored_before n e stop (Up s) st is = (s.stored, refl)
stored_before n e stop (Down stored) st is = (stored, refl)

abbrev AllOwn : GroupWorld → Type 0
AllOwn w = (n : ℕ) → OwnAt w.led n (w.nodes n)

module _ (m : Membership) (some : 0 < length m.configs) (before : List BallotEvent) (w : GroupWorld) (fits : WorldFits m (world_after m before) w) (own_notes : (l : Led) → Among l w.led → OwnVote l.node l.vote true) (h : AllOwn w) (e : WorldEvent) (stop : Bool) (k : ℕ) where
  at_own : (n : ℕ) (at : NodeEvent) → MayHappen m (world_after m before) n at (w.nodes n) → OwnAt (w.led ++ led_after (outcome_at n at stop (w.nodes n)) n (state_after n at (stop_at stop k) (w.nodes n))) n (state_after n at (stop_at stop k) (w.nodes n))
  at_own n at may l a here st is same =
      let x = w.nodes n in
      let y = state_after n at (stop_at stop k) x in
      let o = outcome_at n at stop x in
      ⊎_elim
      (λ old.
      let later = event_later m some before n at stop k x (fits.nodes n) may in
      let was = stored_before n at (stop_at stop k) x st is in
      let mine : OwnVote n l.vote true = subst (λ i. OwnVote i l.vote true) here (own_notes l old) in
      let earlier = vote_before m some before n l (fits.led l old) mine x y was.0 st was.1 is (fits.nodes n) later.0 later.1 same in
      own_still m some before n l (fits.led l old) mine x y was.0 st was.1 is (fits.nodes n) later.0 later.1 same
      (h n l old here was.0 was.1 earlier))
      (λ new. λ i x' le at_i.
      let whole = ap length (note_whole o n y l new st is) in
      let within = slice_get_within (held st) i x' at_i in
      absurd (omega arith))
      (among_either l w.led (led_after o n y) a)

  -- the notes of other nodes say nothing of a node
  other_own : (n : ℕ) (at : NodeEvent) (i : ℕ) → (i ≡ n → ⊥) → OwnAt (w.led ++ led_after (outcome_at n at stop (w.nodes n)) n (state_after n at (stop_at stop k) (w.nodes n))) i (w.nodes i)
  other_own n at i other l a here =
      ⊎_elim
      (λ old. h i l old here)
      (λ new. absurd (other (sym here ∙ note_node (outcome_at n at stop (w.nodes n)) n (state_after n at (stop_at stop k) (w.nodes n)) l new)))
      (among_either l w.led (led_after (outcome_at n at stop (w.nodes n)) n (state_after n at (stop_at stop k) (w.nodes n))) a)

  scene_own : (scene : Scene) → MayTakePlace m some w before fits scene → AllOwn (after_scene w e (outcome_in w stop scene) (stop_at stop k) scene)
  scene_own Nowhere may = h
  scene_own (At n at) may = λ i.
      one_node (λ j y. OwnAt (w.led ++ led_after (outcome_at n at stop (w.nodes n)) n (state_after n at (stop_at stop k) (w.nodes n))) j y) n i (state_after n at (stop_at stop k) (w.nodes n)) w.nodes
      (λ same. subst (λ j. OwnAt (w.led ++ led_after (outcome_at n at stop (w.nodes n)) n (state_after n at (stop_at stop k) (w.nodes n))) j (state_after n at (stop_at stop k) (w.nodes n))) (sym same) (at_own n at may))
      (λ other. other_own n at i other)

pub all_own : (ids : List ℕ) → AreNodeIds ids → (rs : List Recorded) (end : GroupWorld) → Replays (new_world ids) rs end → AllOwn end
all_own ids small rs end run =
    along ids AllOwn
    (λ early w past r k is h.
    let f = may_follow ids small early w past r k is in
    subst (λ o. AllOwn (after_scene w r.event o (stop_at (is_stop r.outcome) k) (scene_of w r.event))) (sym is)
    (scene_own f.membership f.some f.first.before w f.first.fits (notes_are_own ids small early w past) h r.event (is_stop r.outcome) k (scene_of w r.event) f.may))
    (λ n l none. absurd none)
    rs end run
