-- What a leader knows of its peers is what the events of its lead make of new peers, along every run.
use Rattle.std.specs.Prelude.{◌≡◌, ℕ, ◌==◌, ◌||◌, cond, Bool, true, false, List, [], ◌∷◌, ◌++◌, Option, Some, None, Contains, is_some, unwrap_or, refl}
use Rattle.std.proofs.Common.{sym, ap, ap₂, ◌∙◌, subst, append-nil}
use Rattle.raft_quorums.specs.QuorumLaws.{wider_quorum}
use Rattle.raft_group_step.specs.Values.{has_id}
use Rattle.raft_group_step.specs.StoredGroup.{StoredGroup}
use Rattle.raft_group_step.specs.Peer.{PeerState, new_peer}
use Rattle.raft_group_step.specs.GroupState.{GroupState, Lead, Follower, Leader, Untold, is_leader, no_group, state_of}
use Rattle.raft_group_step.specs.GroupEvent.{GroupEvent, Open}
use Rattle.raft_group_step.specs.StepResult.{RefusalReason, StepResult}
use Rattle.raft_group_step.specs.Lead.{configs_in_force, peer_of}
use Rattle.raft_group_step.specs.Refusal.{refusal_of}
use Rattle.raft_group_step.specs.GroupStep.{group_step, step_unless}
use Rattle.raft_group_step.proofs.Words.{leads_if}
use Rattle.raft_laws.specs.declared.world_event.WorldEvent.{WorldEvent}
use Rattle.raft_laws.specs.GroupWorld.{GroupWorld, NodeState, Absent, Up, Down, Outcome, Recorded, is_stop, new_world, state_or}
use Rattle.raft_laws.specs.NodeEvent.{NodeEvent, Comes, Crashes, Halts, Restarts, after_step, outcome_at, outcome_of_end, outcome_of_step, state_after}
use Rattle.raft_laws.specs.GroupRun.{Scene, Nowhere, At, after_scene, group_run, history_of, outcome_of, ran, scene_of, stop_at}
use Rattle.raft_laws.specs.OneList.{AreNodeIds, IsGroupHistory}
use Rattle.raft_laws.specs.Origins.{Events}
use Rattle.raft_laws.proofs.BallotAgreement.{with_value_cases}
use Rattle.raft_laws.proofs.Runs.{run-replays}
use Rattle.raft_laws.proofs.StepFits.{world_after}
use Rattle.raft_laws.proofs.StepMoments.{step_goes}
use Rattle.raft_laws.proofs.VoteOrders.{differ_flags as never}
use Rattle.raft_laws.proofs.WorldFits.{NodeStateFits}
use Rattle.raft_laws.proofs.WorldOrigins.{run_more}
use Rattle.raft_step_laws.specs.Commits.{has_quorum_at, reaches}
use Rattle.raft_step_laws.specs.PeerStates.{keeps_its_lead, peer_after_event, peer_after_sending}
use Rattle.raft_step_laws.specs.Tokens.{HasItsOwnVote}
use Rattle.raft_step_laws.proofs.LeaderSends.{matched_after}
use Rattle.raft_step_laws.proofs.PeerEvents.{keeps_none, leads_begin_anew, peers_replay}
use Rattle.raft_history_laws.specs.AnsweredCommits.{AnsweredAreCommitted, WaitingLackAnswers}
use Rattle.raft_history_laws.specs.KnownPeers.{MatchedIsAnswered, PeerStatesReplay, accepted_by_event, answered_in, has_answered_quorum, one_reaches, peer_after_lead}
use Rattle.raft_history_laws.specs.Leads.{LeadEvent, Leads, lead_behind, lead_with, leads_behind, leads_from, leads_of}
use Rattle.raft_history_laws.proofs.CommittedAtOnce.{leaders_commit, waiting_lack}
use Rattle.raft_history_laws.proofs.LeadPeers.{answered_by_vote, answered_more, event_reaches, lead_by_vote, lead_more, new_accepts_none, new_unmoved, reaches_both}
use Rattle.raft_history_laws.proofs.OrderedNodes.{keeps_vote, peers_in_order}
use Rattle.raft_history_laws.proofs.PeersInOrder.{RoleInOrder}
use Rattle.raft_history_laws.proofs.RunLedgers.{along_runs, f, node_is, other_is, outcome_is, run}
use Rattle.raft_history_laws.proofs.ServedNodes.{has_own_vote, opens_own_vote}

-- what a leader in this state knows, by these events of its lead
pub record KnowsBy (s : GroupState) (lead : Lead) (events : List LeadEvent) : Type 0 where
  pub peers : (peer : ℕ) → peer_of lead peer ≡ peer_after_lead s events (new_peer lead.began peer)
  pub answers : (peer place : ℕ) → reaches (peer_of lead peer).matched place ≡ one_reaches place (answered_in s events (new_peer lead.began peer))

abbrev pub Knows : GroupState → List LeadEvent → Type 0
Knows s events = (lead : Lead) → s.role ≡ Leader lead → KnowsBy s lead events

-- ---- a step that isn't refused

module _ (own : ℕ) (s : GroupState) (e : GroupEvent) (mine : HasItsOwnVote own s) (passed : refusal_of own s e ≡ None) (order : RoleInOrder s.stored s.role) (events : List LeadEvent) (h : Knows s events) where
  abbrev r : StepResult
  r = group_step own s e

  abbrev x : LeadEvent
  x = record { event = e; sent = r.messages }

  module _ (lead' : Lead) (is : r.state.role ≡ Leader lead') where
    -- in the lead that there was
    module _ (keeps : keeps_its_lead s e r.state ≡ true) (lead : Lead) (was : s.role ≡ Leader lead) where
      vote : s.stored.vote ≡ r.state.stored.vote
      vote = keeps_vote s e r.state keeps

      abbrev fresh : ℕ → PeerState
      fresh peer = new_peer lead.began peer

      same_fresh : (peer : ℕ) → fresh peer ≡ new_peer lead'.began peer
      same_fresh peer = ap (λ k. new_peer k peer) (sym (peers_replay own s e mine passed lead lead' was is keeps).0)

      replays : (peer : ℕ) → peer_of lead' peer ≡ peer_after_sending r.messages (peer_after_event s e (peer_of lead peer))
      replays peer = (peers_replay own s e mine passed lead lead' was is keeps).1 peer

      goes_peers : (peer : ℕ) → peer_of lead' peer ≡ peer_after_lead r.state (events ++ x ∷ []) (new_peer lead'.began peer)
      goes_peers peer =
          replays peer
          ∙ ap (λ p. peer_after_sending r.messages (peer_after_event s e p)) ((h lead was).peers peer)
          ∙ sym (lead_more s events x (fresh peer))
          ∙ lead_by_vote s r.state vote (events ++ x ∷ []) (fresh peer)
          ∙ ap (peer_after_lead r.state (events ++ x ∷ [])) (same_fresh peer)

      goes_answers : (peer place : ℕ) → reaches (peer_of lead' peer).matched place ≡ one_reaches place (answered_in r.state (events ++ x ∷ []) (new_peer lead'.began peer))
      goes_answers peer place =
          let p = peer_of lead peer in
          ap (λ q. reaches q.matched place) (replays peer)
          ∙ ap (λ o. reaches o place) (matched_after r.messages (peer_after_event s e p))
          ∙ event_reaches place p (order lead was peer).follows s e
          ∙ ap₂ (λ b ids. b || one_reaches place ids) ((h lead was).answers peer place) (ap (accepted_by_event s e) ((h lead was).peers peer))
          ∙ sym (reaches_both place (answered_in s events (fresh peer)) (accepted_by_event s e (peer_after_lead s events (fresh peer))))
          ∙ ap (one_reaches place) (sym (answered_more s events x (fresh peer)))
          ∙ ap (one_reaches place) (answered_by_vote s r.state vote (events ++ x ∷ []) (fresh peer))
          ∙ ap (λ q. one_reaches place (answered_in r.state (events ++ x ∷ []) q)) (same_fresh peer)

      goes_on : KnowsBy r.state lead' (events ++ x ∷ [])
      goes_on = record { peers = goes_peers; answers = goes_answers }

    -- in a lead that begins
    module _ (none : keeps_its_lead s e r.state ≡ false) where
      anew : (peer : ℕ) → peer_of lead' peer ≡ peer_after_sending r.messages (new_peer lead'.began peer)
      anew peer = leads_begin_anew own s e mine passed lead' is none peer

      begins_anew : KnowsBy r.state lead' (x ∷ [])
      begins_anew =
          record {
            peers = λ peer. anew peer ∙ ap (peer_after_sending r.messages) (sym (new_unmoved r.state e lead'.began peer));
            answers = λ peer place.
                ap (λ q. reaches q.matched place) (anew peer)
                ∙ ap (λ o. reaches o place) (matched_after r.messages (new_peer lead'.began peer))
                ∙ ap (one_reaches place) (sym (append-nil (accepted_by_event r.state e (new_peer lead'.began peer)) ∙ new_accepts_none r.state e lead'.began peer));
          }

    knows_then : (b : Bool) → keeps_its_lead s e r.state ≡ b → KnowsBy r.state lead' (cond b events [] ++ x ∷ [])
    knows_then true keeps = go (is_leader s.role) refl
      where
        go : (b : Bool) → is_leader s.role ≡ b → KnowsBy r.state lead' (events ++ x ∷ [])
        go true leads = let was = leads_if s.role leads in goes_on keeps was.0 was.1
        go false idle = never (keeps_its_lead s e r.state) keeps (keeps_none s e r.state idle)
    knows_then false none = begins_anew none

  step_knows : Knows r.state (lead_with s e r.state r.messages events)
  step_knows lead' is =
      subst (λ b. KnowsBy r.state lead' (cond b (cond (keeps_its_lead s e r.state) events [] ++ x ∷ []) [])) (sym (ap is_leader is))
      (knows_then lead' is (keeps_its_lead s e r.state) refl)

-- ---- each event at a node

abbrev KnowsIn : NodeState → List LeadEvent → Type 0
KnowsIn Absent events = Unit {0}
KnowsIn (Up s) events = Knows s events
KnowsIn (Down stored) events = Unit {0}

abbrev HasItsOwnVoteIn : ℕ → NodeState → Type 0
HasItsOwnVoteIn n Absent = Unit {0}
HasItsOwnVoteIn n (Up s) = HasItsOwnVote n s
HasItsOwnVoteIn n (Down stored) = Unit {0}

abbrev OrderedIn : NodeState → Type 0
OrderedIn Absent = Unit {0}
OrderedIn (Up s) = RoleInOrder s.stored s.role
OrderedIn (Down stored) = Unit {0}

module _ (own : ℕ) (s : GroupState) (e : GroupEvent) (mine : HasItsOwnVote own s) (order : RoleInOrder s.stored s.role) (events : List LeadEvent) (h : Knows s events) (k : ℕ) where
  comes_know : (stopped : Bool) (o : Option RefusalReason) → refusal_of own s e ≡ o → is_stop (outcome_of_step stopped s e (group_step own s e)) ≡ stopped → KnowsIn (after_step (stop_at stopped k) s (group_step own s e)) (lead_behind (Comes e) (outcome_of_step stopped s e (group_step own s e)) (Up s) (after_step (stop_at stopped k) s (group_step own s e)) events)
  comes_know true o is same = tt
  comes_know false (Some why) is same =
      subst (λ p. KnowsIn (Up (step_unless p own s e).state) (lead_behind (Comes e) (outcome_of_end (step_unless p own s e) (step_unless p own s e).refused) (Up s) (Up (step_unless p own s e).state) events)) (sym is) h
  comes_know false None is same =
      let r = group_step own s e in
      let taken : r.refused ≡ None = ap (λ o. (step_unless o own s e).refused) is ∙ (step_goes own s e).taken in
      subst (λ o. Knows r.state (lead_behind (Comes e) (outcome_of_end r o) (Up s) (Up r.state) events)) (sym taken)
      (step_knows own s e mine is order events h)

follower_knows : (st : StoredGroup) (events : List LeadEvent) → Knows (state_of st) events
follower_knows st events lead is = absurd (let f : Follower ≡ Leader lead = is in cc)

opens_know : (own : ℕ) (st : StoredGroup) (events : List LeadEvent) (k : ℕ) (stopped : Bool) → KnowsIn (after_step (stop_at stopped k) (state_of st) (group_step own (state_of st) Open)) (lead_behind Restarts (outcome_of_step stopped (state_of st) Open (group_step own (state_of st) Open)) (Down st) (after_step (stop_at stopped k) (state_of st) (group_step own (state_of st) Open)) events)
opens_know own st events k true = tt
opens_know own st events k false =
    let s = state_of st in
    let r = group_step own s Open in
    let taken : r.refused ≡ None = (step_goes own s Open).taken in
    subst (λ o. Knows r.state (lead_behind Restarts (outcome_of_end r o) (Down st) (Up r.state) events)) (sym taken)
    (step_knows own s Open (opens_own_vote own st) refl (λ lead is. absurd (let f : Follower ≡ Leader lead = is in cc)) events (follower_knows st events))

node_knows : (n : ℕ) (e : NodeEvent) (stopped : Bool) (k : ℕ) (y : NodeState) → HasItsOwnVoteIn n y → OrderedIn y → is_stop (outcome_at n e stopped y) ≡ stopped → (events : List LeadEvent) → KnowsIn y events → KnowsIn (state_after n e (stop_at stopped k) y) (lead_behind e (outcome_at n e stopped y) y (state_after n e (stop_at stopped k) y) events)
node_knows n e stopped k Absent mine order same events h = tt
node_knows n (Comes e) stopped k (Up s) mine order same events h = comes_know n s e mine order events h k stopped (refusal_of n s e) refl same
node_knows n Crashes stopped k (Up s) mine order same events h = tt
node_knows n Halts stopped k (Up s) mine order same events h = tt
node_knows n Restarts stopped k (Up s) mine order same events h = h
node_knows n (Comes e) stopped k (Down st) mine order same events h = tt
node_knows n Crashes stopped k (Down st) mine order same events h = tt
node_knows n Halts stopped k (Down st) mine order same events h = tt
node_knows n Restarts stopped k (Down st) mine order same events h = opens_know n st events k stopped

-- ---- along every run

more_from : (pre : Events) (x : WorldEvent × Option ℕ) (w : GroupWorld) (l : Leads) → leads_from (pre ++ x ∷ []) w l ≡ leads_behind (outcome_of (group_run pre w) x.0 (is_some x.1)) (group_run pre w) (ran (group_run pre w) x.0 x.1) (scene_of (group_run pre w) x.0) (leads_from pre w l)
more_from [] x w l = refl
more_from (y ∷ pre) x w l = more_from pre x (ran w y.0 y.1) (leads_behind (outcome_of w y.0 (is_some y.1)) w (ran w y.0 y.1) (scene_of w y.0) l)

module _ (ids : List ℕ) (small : AreNodeIds ids) where
  abbrev first : GroupWorld
  first = new_world ids

  module _ (pre : Events) (x : WorldEvent × Option ℕ) where
    abbrev w : GroupWorld
    w = group_run pre first

    abbrev next : GroupWorld
    next = ran w x.0 x.1

    abbrev outcome : Outcome
    outcome = outcome_of w x.0 (is_some x.1)

    abbrev k : ℕ
    k = unwrap_or x.1 0

    own_votes : (n : ℕ) (y : NodeState) → w.nodes n ≡ y → HasItsOwnVoteIn n y
    own_votes n Absent is = tt
    own_votes n (Up s) is =
        let b = f ids small pre x in
        has_own_vote b.membership (world_after b.membership b.first.before) n s
        (subst (NodeStateFits b.membership (world_after b.membership b.first.before) n) is (b.first.fits.nodes n)).1
    own_votes n (Down st) is = tt

    orders : (n : ℕ) (y : NodeState) → w.nodes n ≡ y → OrderedIn y
    orders n Absent is = tt
    orders n (Up s) is = peers_in_order ids small (history_of pre first) w (run ids small pre x) n s is
    orders n (Down st) is = tt

    module _ (n : ℕ) (at_node : NodeEvent) (here : scene_of w x.0 ≡ At n at_node) where
      event_knows : (events : List LeadEvent) → KnowsIn (w.nodes n) events → KnowsIn (next.nodes n) (lead_behind at_node outcome (w.nodes n) (next.nodes n) events)
      event_knows events h =
          subst (λ y. KnowsIn y (lead_behind at_node outcome (w.nodes n) y events)) (sym (node_is ids small pre x n at_node here))
          (subst (λ o. KnowsIn (state_after n at_node (stop_at (is_stop outcome) k) (w.nodes n)) (lead_behind at_node o (w.nodes n) (state_after n at_node (stop_at (is_stop outcome) k) (w.nodes n)) events)) (sym (outcome_is ids small pre x n at_node here))
          (node_knows n at_node (is_stop outcome) k (w.nodes n) (own_votes n (w.nodes n) refl) (orders n (w.nodes n) refl)
          (ap is_stop (sym (outcome_is ids small pre x n at_node here))) events h))

    scene_knows : (scene : Scene) → scene_of w x.0 ≡ scene → (l : Leads) → ((j : ℕ) → KnowsIn (w.nodes j) (l j)) → (j : ℕ) → KnowsIn (next.nodes j) (leads_behind outcome w next scene l j)
    scene_knows Nowhere here l h j =
        subst (λ (v : GroupWorld). KnowsIn (v.nodes j) (l j)) (sym (ap (after_scene w x.0 outcome (stop_at (is_stop outcome) k)) here)) (h j)
    scene_knows (At n at_node) here l h j =
        with_value_cases l n (lead_behind at_node outcome (w.nodes n) (next.nodes n) (l n)) j (λ events. KnowsIn (next.nodes j) events)
        (λ e. subst (λ i. KnowsIn (next.nodes i) (lead_behind at_node outcome (w.nodes n) (next.nodes n) (l n))) (sym e) (event_knows n at_node here (l n) (h n)))
        (λ ne. subst (λ y. KnowsIn y (l j)) (sym (other_is ids small pre x n at_node here j ne)) (h j))

  start_knows : (b : Bool) → KnowsIn (state_or b (Up (state_of no_group)) Absent) []
  start_knows true = follower_knows no_group []
  start_knows false = tt

  pub leaders_know : (es : Events) (n : ℕ) → KnowsIn ((group_run es first).nodes n) (leads_of es first n)
  leaders_know es =
      along_runs (λ (pre : Events). (n : ℕ) → KnowsIn ((group_run pre first).nodes n) (leads_of pre first n))
      (λ n. start_knows (has_id ids n))
      (λ pre x h n.
      subst (λ (l : Leads). KnowsIn ((group_run (pre ++ x ∷ []) first).nodes n) (l n)) (sym (more_from pre x first (λ m. [])))
      (subst (λ (v : GroupWorld). KnowsIn (v.nodes n) (leads_behind (outcome pre x) (w pre x) (next pre x) (scene_of (w pre x) x.0) (leads_of pre first) n)) (sym (run_more pre x first))
      (scene_knows pre x (scene_of (group_run pre first) x.0) refl (leads_of pre first) h n)))
      es

pub knows_at : (ids : List ℕ) → AreNodeIds ids → (es : Events) (n : ℕ) (s : GroupState) → (group_run es (new_world ids)).nodes n ≡ Up s → Knows s (leads_of es (new_world ids) n)
knows_at ids small es n s up = subst (λ y. KnowsIn y (leads_of es (new_world ids) n)) up (leaders_know ids small es n)

pub states_replay : PeerStatesReplay
states_replay ids small es n s lead up is peer = (knows_at ids small es n s up lead is).peers peer

pub matched_answered : MatchedIsAnswered
matched_answered ids small es n s lead up is peer place = (knows_at ids small es n s up lead is).answers peer place

-- ---- quorums by what was answered

abbrev pub history_at : List ℕ → Events → List Recorded
history_at ids es = history_of es (new_world ids)

pub is_history : (ids : List ℕ) → AreNodeIds ids → (es : Events) → IsGroupHistory ids (history_at ids es) (group_run es (new_world ids))
is_history ids small es = record { node_ids = small; replays = run-replays es (new_world ids) }

module _ (ids : List ℕ) (small : AreNodeIds ids) (es : Events) (n : ℕ) (s : GroupState) (lead : Lead) (up : (group_run es (new_world ids)).nodes n ≡ Up s) (is : s.role ≡ Leader lead) where
  abbrev events : List LeadEvent
  events = leads_of es (new_world ids) n

  known_quorum : (place : ℕ) → has_answered_quorum n s lead events place ≡ true → has_quorum_at n s.stored lead place ≡ true
  known_quorum place t =
      wider_quorum (λ k. k == n || one_reaches place (answered_in s events (new_peer lead.began k))) (λ k. k == n || reaches (peer_of lead k).matched place)
      (λ k q. ap (λ b. k == n || b) (matched_answered ids small es n s lead up is k place) ∙ q)
      (configs_in_force s.stored) t

  waiting_lack_answer : (x : Untold) → Contains s.untold x → has_answered_quorum n s lead events x.place ≡ false
  waiting_lack_answer x there = go (has_answered_quorum n s lead events x.place) refl
    where
      go : (b : Bool) → has_answered_quorum n s lead events x.place ≡ b → has_answered_quorum n s lead events x.place ≡ false
      go false q = q
      go true q =
          let lacks = waiting_lack ids (history_at ids es) (group_run es (new_world ids)) (is_history ids small es) n s lead up is x there in
          never (has_quorum_at n s.stored lead x.place) (known_quorum x.place q) lacks

pub answered_committed : AnsweredAreCommitted
answered_committed ids small es n s lead up is e inside written many =
    leaders_commit ids (history_at ids es) (group_run es (new_world ids)) (is_history ids small es) n s lead up is e inside written
    (known_quorum ids small es n s lead up is e.log_id.index many)

pub waiting_lack_answers : WaitingLackAnswers
waiting_lack_answers ids small es n s lead up is x there = waiting_lack_answer ids small es n s lead up is x there
