-- What is committed anywhere in a group's world stands on the group's list, over every history.
use Rattle.std.specs.Prelude.{◌≡◌, ◌⊎◌, ℕ, zero, suc, ◌+◌, ◌<◌, ◌≤◌, ◌==◌, ◌&&◌, max, nat_le, Bool, true, false, List, [], ◌∷◌, ◌++◌, length, take, slice_get, Option, Some, None, refl}
use Rattle.std.specs.List.{list_any}
use Rattle.std.proofs.Common.{inl, inr, sym, ap, ◌∙◌, subst, arith, ⊎_elim, eq-eqb, le-leb, length-take-le}
use Rattle.std.proofs.lemmas.Bool.{and_from, cases_lt, or_left, or_right}
use Rattle.raft_values.specs.declared.vote.Vote.{Vote}
use Rattle.raft_values.specs.declared.log_id.LogId.{LogId}
use Rattle.raft_quorums.specs.Quorum.{is_quorum as is_quorum_of}
use Rattle.raft_group_step.specs.Values.{Membership, Entry, has_id, is_written_by, leader_eq, log_id_eq, vote_eq}
use Rattle.raft_group_step.specs.StoredGroup.{StoredGroup, StoringCommand, MakeGroup, SetVote, PutEntries, CutFrom, RemoveUpTo, SetSnapshot, StartAfter, after_storing, after_storing_all, held, prefix_of}
use Rattle.raft_group_step.specs.Message.{Message}
use Rattle.raft_group_step.specs.GroupState.{GroupState, Role, Follower, Candidate, Leader, is_leader, no_group, state_of}
use Rattle.raft_group_step.specs.GroupEvent.{GroupEvent, Open}
use Rattle.raft_group_step.specs.StepResult.{RefusalReason, StepResult}
use Rattle.raft_group_step.specs.SnapshotRequest.{place_above}
use Rattle.raft_group_step.specs.GroupStep.{group_step}
use Rattle.raft_laws.specs.BallotWorld.{BallotEvent}
use Rattle.raft_laws.specs.declared.world_event.WorldEvent.{WorldEvent}
use Rattle.raft_laws.specs.GroupWorld.{GroupWorld, NodeState, Absent, Up, Down, Led, Outcome, Recorded, is_stop, new_world, state_or}
use Rattle.raft_laws.specs.Stop.{stopped_after}
use Rattle.raft_laws.specs.NodeEvent.{NodeEvent, Comes, Crashes, Halts, Restarts, after_step, outcome_at, outcome_of_end, outcome_of_step, outcome_of_stop, state_after}
use Rattle.raft_laws.specs.GroupRun.{Scene, Nowhere, At, Replays, after_scene, ended, happens, led_after, led_as, led_by, outcome_in, outcome_of, scene_of, sent_in, stop_at}
use Rattle.raft_laws.specs.Settled.{group_list, has_accepted_some, has_led_with, has_replied, is_accepted_by_quorum, is_at_or_after, setup_configs, settled_part, count_to_last}
use Rattle.raft_laws.specs.OneList.{AreNodeIds}
use Rattle.raft_laws.proofs.BallotSafe.{Among, among_at}
use Rattle.raft_laws.proofs.VoteRanks.{leader_eq_from}
use Rattle.raft_laws.proofs.Histories.{histories-join}
use Rattle.raft_laws.proofs.StepFits.{world_after}
use Rattle.raft_laws.proofs.StepClaims.{ClaimWithin, CommandWithin, claim_more}
use Rattle.raft_laws.proofs.StepCommits.{AcceptedBy}
use Rattle.raft_laws.proofs.StepLimits.{StateClaims, StepClaims, opening_limits, step_limits}
use Rattle.raft_laws.proofs.WorldFits.{NodeStateFits, WorldFits}
use Rattle.raft_laws.proofs.WorldSteps.{MayHappen}
use Rattle.raft_laws.proofs.WorldRuns.{Matches, MayTakePlace, SetUpWith, among_either, may_take_place, setup_stays}
use Rattle.raft_laws.proofs.WorldStart.{Founded, founded, history_matches}
use Rattle.raft_laws.proofs.Counts.{among_any, count_from, among_behind}
use Rattle.raft_laws.proofs.GroupList.{Goes, goes_on, list_grows, part_short, quorum_back}
use Rattle.raft_laws.proofs.BallotQuorums.{quorum_more}
use Rattle.raft_laws.proofs.TrackElections.{quorum_link}
use Rattle.raft_laws.proofs.WorldLimits.{ComesKnown, NodeLimits, SceneKnown, WorldLimits, known_still, replied, replied_still, replied_wider, same_log_id, scene_known, vote_itself}

-- an entry that a leader committed in an event, with the note that the event leaves
pub record Settles (m : Membership) (w : GroupWorld) (top : ℕ) (led : List Led) : Type 0 where
  pub note : Led
  pub among : Among note led
  pub entry : Entry
  pub there : slice_get note.list entry.log_id.index ≡ Some entry
  pub written : entry.log_id.leader_id ≡ note.vote.leader_id
  pub test : ℕ → Bool
  pub quorum : is_quorum_of m.configs test ≡ true
  pub accepted : (n : ℕ) → test n ≡ true → AcceptedBy (replied w) note.node note.vote entry.log_id.index n
  pub is_top : top ≡ entry.log_id.index + 1

-- how far a node claims after an event
pub record NodeAfter (m : Membership) (w : GroupWorld) (x : NodeState) (sent : List Message) (led : List Led) : Type 0 where
  pub top : ℕ
  pub low : length (group_list w) ≤ top
  pub state : NodeLimits top (replied w) x
  pub messages : (y : Message) → Among y sent → ClaimWithin top y.body
  pub reached : (top ≡ length (group_list w)) ⊎ Settles m w top led

-- the snapshot after some of the commands
pub snapshot_after : (limit : ℕ) (k : ℕ) (cs : List StoringCommand) (st : StoredGroup) → length (prefix_of st.snapshot) ≤ limit → ((c : StoringCommand) → Among c cs → CommandWithin limit c) → length (prefix_of (after_storing_all (take k cs) st).snapshot) ≤ limit
snapshot_after limit zero cs st l h = l
snapshot_after limit (suc k) [] st l h = l
snapshot_after limit (suc k) (c ∷ cs) st l h =
    snapshot_after limit k cs (after_storing c st) (one c (h c (inl refl))) (λ d a. h d (inr a))
  where
    one : (d : StoringCommand) → CommandWithin limit d → length (prefix_of (after_storing d st).snapshot) ≤ limit
    one MakeGroup w = l
    one (SetVote vote) w = l
    one (PutEntries place entries) w = l
    one (CutFrom place) w = l
    one (RemoveUpTo id) w = l
    one (SetSnapshot x) w = w
    one (StartAfter id) w = l

module _ (m : Membership) (some : 0 < length m.configs) (w : GroupWorld) (limits : WorldLimits w) (before : List BallotEvent) (n : ℕ) where
  abbrev limit : ℕ
  limit = length (group_list w)

  -- nothing is claimed
  quiet : (x : NodeState) → NodeLimits limit (replied w) x → NodeAfter m w x [] []
  quiet x h =
      record {
        top = limit;
        low = omega arith;
        state = h;
        messages = λ y a. absurd a;
        reached = inl refl;
      }

  -- a node that leads leaves a note
  led_note : (s : GroupState) (role : Role) → is_leader role ≡ true → Among (record { node = n; vote = s.stored.vote; list = held s.stored }) (led_as n s role)
  led_note s Follower t = absurd (let e : false ≡ true = t in cc)
  led_note s (Candidate granters) t = absurd (let e : false ≡ true = t in cc)
  led_note s (Leader lead) t = inl refl

  module _ (base : StoredGroup) (low : length (prefix_of base.snapshot) ≤ limit) (r : StepResult) (h : StepClaims limit (replied w) m n r) where
    abbrev top : ℕ
    top = max limit (place_above r.state.committed)

    top_reached : (top ≡ limit) ⊎ Settles m w top (led_by n (Up r.state))
    top_reached =
        ⊎_elim
        (λ l. inl (let e : top ≡ limit = omega arith in e))
        (λ x.
        let place : place_above r.state.committed ≡ x.entry.log_id.index + 1 = ap place_above x.place in
        ⊎_elim
        (λ l. inl (let e : top ≡ limit = omega arith in e))
        (λ l.
        inr
        (record {
          note = record { node = n; vote = r.state.stored.vote; list = held r.state.stored };
          among = led_note r.state r.state.role x.leads;
          entry = x.entry;
          there = x.there;
          written = x.written;
          test = x.test;
          quorum = x.quorum;
          accepted = x.accepted;
          is_top = let e : top ≡ x.entry.log_id.index + 1 = omega arith in e;
        }))
        (cases_lt (place_above r.state.committed) limit))
        h.moves

    ran : (sent : List Message) → ((y : Message) → Among y sent → Among y r.messages) → NodeAfter m w (Up r.state) sent (led_by n (Up r.state))
    ran sent few =
        record {
          top = top;
          low = omega arith;
          state = record { committed = h.claims.0; snapshot = h.claims.1; matched = h.claims.4 };
          messages = λ y a. h.claims.2 y (few y a);
          reached = top_reached;
        }

    of_end : (why : Option RefusalReason) → NodeAfter m w (Up r.state) (sent_in (outcome_of_end r why)) (led_after (outcome_of_end r why) n (Up r.state))
    of_end None = ran r.messages (λ y a. a)
    of_end (Some why) = ran [] (λ y a. absurd a)

    step_after : (s : GroupState) → s.stored ≡ base → (stopped : Bool) (k : ℕ) (e : GroupEvent) → NodeAfter m w (after_step (stop_at stopped k) s r) (sent_in (outcome_of_step stopped s e r)) (led_after (outcome_of_step stopped s e r) n (after_step (stop_at stopped k) s r))
    step_after s is false k e = of_end r.refused
    step_after s is true k e = of_stop r.refused
      where
        down : NodeAfter m w (Down (stopped_after k s.stored r)) [] []
        down =
            quiet (Down (stopped_after k s.stored r))
            (snapshot_after limit k r.commands s.stored (subst (λ (st : StoredGroup). length (prefix_of st.snapshot) ≤ limit) (sym is) low) h.stops)

        of_stop : (why : Option RefusalReason) → NodeAfter m w (Down (stopped_after k s.stored r)) (sent_in (outcome_of_stop s e r why)) (led_after (outcome_of_stop s e r why) n (Down (stopped_after k s.stored r)))
        of_stop None = down
        of_stop (Some why) = down

  node_after : (e : NodeEvent) (stopped : Bool) (k : ℕ) (x : NodeState) → NodeStateFits m (world_after m before) n x → MayHappen m (world_after m before) n e x → ComesKnown w limits e → NodeLimits limit (replied w) x → NodeAfter m w (state_after n e (stop_at stopped k) x) (sent_in (outcome_at n e stopped x)) (led_after (outcome_at n e stopped x) n (state_after n e (stop_at stopped k) x))
  node_after e stopped k Absent fits may known h = quiet Absent tt
  node_after (Comes e) stopped k (Up s) fits may known h =
      step_after s.stored h.snapshot (group_step n s e) (step_limits limit (replied w) m some n before fits.0 s e fits.1 may known h) s refl stopped k e
  node_after Crashes stopped k (Up s) fits may known h = quiet (Down s.stored) h.snapshot
  node_after Halts stopped k (Up s) fits may known h = quiet (Down s.stored) h.snapshot
  node_after Restarts stopped k (Up s) fits may known h = quiet (Up s) h
  node_after (Comes e) stopped k (Down stored) fits may known h = quiet (Down stored) h
  node_after Crashes stopped k (Down stored) fits may known h = quiet (Down stored) h
  node_after Halts stopped k (Down stored) fits may known h = quiet (Down stored) h
  node_after Restarts stopped k (Down stored) fits may known h =
      step_after stored h (group_step n (state_of stored) Open) (opening_limits limit (replied w) m some n before stored fits.1 h) (state_of stored) refl stopped k Open

-- ---- what was committed is settled in the world after it

module _ (m : Membership) (w w' : GroupWorld) (goes : Goes w w') (setup : w'.setup ≡ Some m) (top : ℕ) (led : List Led) (s : Settles m w top led) (noted : Among s.note w'.led) where
  abbrev vote : Vote ℕ
  vote = s.note.vote

  abbrev from_place : LogId ℕ → Bool
  from_place = is_at_or_after vote.leader_id s.entry.log_id.index

  passes : (id : LogId ℕ) → id.leader_id ≡ vote.leader_id → s.entry.log_id.index ≤ id.index → from_place id ≡ true
  passes id leader le =
      and_from (leader_eq id.leader_id vote.leader_id) (nat_le s.entry.log_id.index id.index) (leader_eq_from id.leader_id vote.leader_id leader) (le-leb s.entry.log_id.index id.index le)

  own_accepts : (n : ℕ) → n ≡ s.note.node → has_led_with w' vote from_place n ≡ true
  own_accepts n e =
      among_any (λ (l : Led). l.node == n && vote_eq l.vote vote && list_any (λ (x : Entry). from_place x.log_id) l.list) w'.led s.note noted
      (and_from (s.note.node == n && vote_eq vote vote) (list_any (λ (x : Entry). from_place x.log_id) s.note.list)
      (and_from (s.note.node == n) (vote_eq vote vote) (eq-eqb s.note.node n (sym e)) (vote_itself vote))
      (among_any (λ (x : Entry). from_place x.log_id) s.note.list s.entry (among_at s.note.list s.entry.log_id.index s.entry s.there) (passes s.entry.log_id s.written (omega arith))))

  peer_accepts : (n : ℕ) (id : LogId ℕ) → replied w vote n id → id.leader_id ≡ vote.leader_id → s.entry.log_id.index ≤ id.index → has_replied w' vote from_place n ≡ true
  peer_accepts n id h leader le =
      replied_wider vote (λ other. log_id_eq other id) from_place
      (λ other t. let same = same_log_id other id t in passes other (same.0 ∙ leader) (omega (arith, same.1)))
      w' n (replied_still w w' goes vote n id h)

  accepts_now : (n : ℕ) → s.test n ≡ true → has_accepted_some w' vote from_place n ≡ true
  accepts_now n t =
      ⊎_elim
      (λ e. or_right (has_replied w' vote from_place n) (has_led_with w' vote from_place n) (own_accepts n e))
      (λ x. or_left (has_replied w' vote from_place n) (has_led_with w' vote from_place n) (peer_accepts n x.0 x.1 x.2 x.3))
      (s.accepted n t)

  settled_now : is_accepted_by_quorum w' vote s.entry ≡ true
  settled_now =
      and_from (is_written_by vote.leader_id s.entry) _ (leader_eq_from s.entry.log_id.leader_id vote.leader_id s.written)
      (subst (λ o. is_quorum_of (setup_configs o) (has_accepted_some w' vote from_place) ≡ true) (sym setup)
      (quorum_back m.configs (has_accepted_some w' vote from_place)
      (quorum_more m.configs s.test (has_accepted_some w' vote from_place) accepts_now (quorum_link m.configs s.test s.quorum))))

  part_reaches : s.entry.log_id.index < length (settled_part w' s.note)
  part_reaches =
      let counts = count_from (is_accepted_by_quorum w' vote) 0 0 s.note.list (omega arith) in
      let c = count_to_last (is_accepted_by_quorum w' vote) 0 0 s.note.list in
      let past = counts.all s.entry.log_id.index s.entry s.there settled_now in
      let inside : c ≤ length s.note.list = omega (arith, counts.within) in
      let size : length (take c s.note.list) ≡ c = length-take-le c s.note.list inside in
      omega arith

-- how far a world claims after an event
pub record SceneAfter (m : Membership) (w v : GroupWorld) : Type 0 where
  pub top : ℕ
  pub low : length (group_list w) ≤ top
  pub nodes : (j : ℕ) → NodeLimits top (replied w) (v.nodes j)
  pub messages : (x : Message) → Among x v.messages → ClaimWithin top x.body
  pub led : List Led
  pub noted : (l : Led) → Among l led → Among l v.led
  pub reached : (top ≡ length (group_list w)) ⊎ Settles m w top led

more_claimed : (low top : ℕ) → low ≤ top → (Replied : Vote ℕ → ℕ → LogId ℕ → Type 0) (s : GroupState) → StateClaims low Replied s → StateClaims top Replied s
more_claimed low top le Replied s h = record { committed = omega (arith, h.committed); snapshot = omega (arith, h.snapshot); matched = h.matched }

node_more : (low top : ℕ) → low ≤ top → (Replied : Vote ℕ → ℕ → LogId ℕ → Type 0) (x : NodeState) → NodeLimits low Replied x → NodeLimits top Replied x
node_more low top le Replied Absent h = tt
node_more low top le Replied (Up s) h = more_claimed low top le Replied s h
node_more low top le Replied (Down stored) h = omega arith

node_still : (w w' : GroupWorld) → Goes w w' → (most : ℕ) (x : NodeState) → NodeLimits most (replied w) x → NodeLimits most (replied w') x
node_still w w' goes most Absent h = tt
node_still w w' goes most (Up s) h = record { committed = h.committed; snapshot = h.snapshot; matched = known_still w w' goes s.stored.vote s.role h.matched }
node_still w w' goes most (Down stored) h = h

module _ (m : Membership) (some : 0 < length m.configs) (w : GroupWorld) (limits : WorldLimits w) (before : List BallotEvent) (fits : WorldFits m (world_after m before) w) (e : WorldEvent) (k : ℕ) where
  at_after : (stopped : Bool) (n : ℕ) (at_node : NodeEvent) → MayHappen m (world_after m before) n at_node (w.nodes n) → ComesKnown w limits at_node → SceneAfter m w (ended w e (outcome_at n at_node stopped (w.nodes n)) n (state_after n at_node (stop_at stopped k) (w.nodes n)))
  at_after stopped n at_node may known =
      let o = outcome_at n at_node stopped (w.nodes n) in
      let x = state_after n at_node (stop_at stopped k) (w.nodes n) in
      let a : NodeAfter m w x (sent_in o) (led_after o n x) = node_after m some w limits before n at_node stopped k (w.nodes n) (fits.nodes n) may known (limits.nodes n) in
      record {
        top = a.top;
        low = a.low;
        nodes = λ j. one j x a.top a.low a.state (j == n) refl;
        messages = λ y b.
            ⊎_elim
            (λ old. claim_more (length (group_list w)) a.top a.low y.body (limits.messages y old))
            (λ new. a.messages y new)
            (among_either y w.messages (sent_in o) b);
        led = led_after o n x;
        noted = λ l b. among_behind l w.led (led_after o n x) b;
        reached = a.reached;
      }
    where
      one : (j : ℕ) (x : NodeState) (top : ℕ) → length (group_list w) ≤ top → NodeLimits top (replied w) x → (b : Bool) → (j == n) ≡ b → NodeLimits top (replied w) (state_or b x (w.nodes j))
      one j x most low h true q = h
      one j x most low h false q = node_more (length (group_list w)) most low (replied w) (w.nodes j) (limits.nodes j)

  scene_after : (stopped : Bool) (scene : Scene) → MayTakePlace m some w before fits scene → SceneKnown w limits scene → SceneAfter m w (after_scene w e (outcome_in w stopped scene) (stop_at stopped k) scene)
  scene_after stopped Nowhere may known =
      record {
        top = length (group_list w);
        low = omega arith;
        nodes = limits.nodes;
        messages = limits.messages;
        led = [];
        noted = λ l b. absurd b;
        reached = inl refl;
      }
  scene_after stopped (At n at_node) may known = at_after stopped n at_node may known

-- ---- each event, and each history

module _ (ids : List ℕ) (small : AreNodeIds ids) where
  -- a world that a history leads to
  record Led' (w : GroupWorld) : Type 0 where
    history : List Recorded
    replays : Replays (new_world ids) history w

  found : (w : GroupWorld) → Led' w → Founded w
  found w h = founded ids small h.history w h.replays

  module _ (w : GroupWorld) (limits : WorldLimits w) (h : Led' w) (e : WorldEvent) (o : Outcome) (k : ℕ) (is : o ≡ outcome_of w e (is_stop o)) where
    abbrev next : GroupWorld
    next = happens w e o k

    next_led : Led' next
    next_led =
        let r : Recorded = record { event = e; outcome = o } in
        record {
          history = h.history ++ r ∷ [];
          replays = histories-join h.history (r ∷ []) (new_world ids) w next h.replays (is, (k, refl));
        }

    f : Founded next
    f = found next next_led

    goes : Goes w next
    goes = let r : Recorded = record { event = e; outcome = o } in goes_on (r ∷ []) w next (is, (k, refl))

    longer : length (group_list w) ≤ length (group_list next)
    longer = (list_grows w next goes (found w h) f).right

    top_within : (top : ℕ) (led : List Led) → ((l : Led) → Among l led → Among l next.led) → (top ≡ length (group_list w)) ⊎ Settles f.membership w top led → top ≤ length (group_list next)
    top_within top led noted reached =
        ⊎_elim
        (λ same. omega (arith, longer))
        (λ s.
        let among = noted s.note s.among in
        ⊎_elim
        (λ setup.
        let reaches = part_reaches f.membership w next goes setup top led s among in
        let short = part_short f.membership f.some next f.is s.note among in
        omega (arith, s.is_top))
        (λ no. absurd (no s.note among))
        f.is.setup)
        reached

    before_fits : Matches f.membership f.some w
    before_fits =
        let r : Recorded = record { event = e; outcome = o } in
        history_matches f.membership f.some ids small h.history w h.replays
        (λ x q. f.known x (setup_stays (r ∷ []) w next (is, (k, refl)) x q))

    known_before : SetUpWith f.membership w
    known_before = let r : Recorded = record { event = e; outcome = o } in λ x q. f.known x (setup_stays (r ∷ []) w next (is, (k, refl)) x q)

    after : SceneAfter f.membership w next
    after =
        let b = before_fits.before in
        let fits = before_fits.fits in
        subst (λ v. SceneAfter f.membership w (after_scene w e v (stop_at (is_stop o) k) (scene_of w e))) (sym is)
        (scene_after f.membership f.some w limits b fits e k (is_stop o) (scene_of w e)
        (may_take_place f.membership f.some w b fits known_before e o k is f.known)
        (scene_known w limits e))

    event_limits : WorldLimits next
    event_limits =
        let top = after.top in
        let le = top_within top after.led after.noted after.reached in
        record {
          nodes = λ j. node_still w next goes (length (group_list next)) (next.nodes j) (node_more top (length (group_list next)) le (replied w) (next.nodes j) (after.nodes j));
          messages = λ x a. claim_more top (length (group_list next)) le x.body (after.messages x a);
        }

  new_state : (limit : ℕ) (b : Bool) → NodeLimits limit (replied (new_world ids)) (state_or b (Up (state_of no_group)) Absent)
  new_state limit true = record { committed = omega arith; snapshot = omega arith; matched = tt }
  new_state limit false = tt

  start_limits : WorldLimits (new_world ids)
  start_limits = record { nodes = λ n. new_state (length (group_list (new_world ids))) (has_id ids n); messages = λ x a. absurd a }

  run_limits : (rs : List Recorded) (w end : GroupWorld) → WorldLimits w → Led' w → Replays w rs end → WorldLimits end
  run_limits [] w end limits h run = subst WorldLimits (sym run) limits
  run_limits (r ∷ rs) w end limits h run =
      run_limits rs (happens w r.event r.outcome run.1.0) end
      (event_limits w limits h r.event r.outcome run.1.0 run.0)
      (next_led w limits h r.event r.outcome run.1.0 run.0)
      run.1.1

  -- wherever a history leads, nothing is said to be committed that is not on the list
  pub history_limits : (rs : List Recorded) (end : GroupWorld) → Replays (new_world ids) rs end → WorldLimits end
  history_limits rs end run = run_limits rs (new_world ids) end start_limits (record { history = []; replays = refl }) run
