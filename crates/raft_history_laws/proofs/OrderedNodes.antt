-- What each leader knows of its peers is in order, along every history.
use Rattle.std.specs.Prelude.{◌≡◌, ℕ, ◌<◌, ◌≤◌, ◌^◌, ◌&&◌, Bool, true, false, List, ◌++◌, length, Option, Some, None, refl}
use Rattle.std.proofs.Common.{sym, ap, ◌∙◌, subst, arith, ⊎_elim}
use Rattle.std.proofs.lemmas.Bool.{and_parts}
use Rattle.raft_values.specs.declared.vote.Vote.{Vote}
use Rattle.raft_group_step.specs.Values.{Membership, vote_eq}
use Rattle.raft_group_step.specs.StoredGroup.{StoredGroup, end_place, prefix_of}
use Rattle.raft_group_step.specs.Peer.{new_peer, peer_or}
use Rattle.raft_group_step.specs.GroupState.{GroupState, Lead, Follower, Leader, is_leader, no_group, state_of}
use Rattle.raft_group_step.specs.GroupEvent.{GroupEvent, AddGroup, Call, Receive, Open}
use Rattle.raft_group_step.specs.StepResult.{RefusalReason, StepResult}
use Rattle.raft_group_step.specs.Lead.{other_ids, peer_of}
use Rattle.raft_group_step.specs.Frames.{has_grown}
use Rattle.raft_group_step.specs.Refusal.{refusal_of}
use Rattle.raft_group_step.specs.GroupStep.{event_step, finished, group_step, step_unless}
use Rattle.raft_group_step.proofs.Words.{leads_if}
use Rattle.raft_laws.specs.BallotWorld.{BallotEvent, BallotNode, ballot_start}
use Rattle.raft_laws.specs.BallotRanks.{ballot_group, rank_of}
use Rattle.raft_laws.specs.GroupWorld.{GroupWorld, NodeState, Absent, Up, Down, Recorded, new_world, state_or}
use Rattle.raft_laws.specs.NodeEvent.{Comes, Restarts, after_step}
use Rattle.raft_laws.specs.GroupRun.{Replays, stop_at}
use Rattle.raft_laws.specs.OneList.{AreNodeIds}
use Rattle.raft_laws.proofs.BallotRuns.{run_next}
use Rattle.raft_laws.proofs.BallotSettling.{run_append}
use Rattle.raft_laws.proofs.BallotStep.{Later}
use Rattle.raft_laws.proofs.Shapes.{joined_end}
use Rattle.raft_laws.proofs.Standing.{UpFits}
use Rattle.raft_laws.proofs.StepDispatch.{opening_fits, step_fits}
use Rattle.raft_laws.proofs.StepFits.{EventFits, NodeFits, StepEnd, world_after}
use Rattle.raft_laws.proofs.VoteRanks.{vote_eq_same}
use Rattle.raft_laws.proofs.WorldFits.{NodeStateFits, after_safe}
use Rattle.raft_step_laws.specs.Fitting.{FitsEvent, FitsStored}
use Rattle.raft_step_laws.specs.PeerStates.{keeps_its_lead}
use Rattle.raft_step_laws.specs.Tokens.{HasItsOwnVote, leads_on}
use Rattle.raft_step_laws.proofs.FitSteps.{steps_fit}
use Rattle.raft_step_laws.proofs.LeaderSends.{finished_sends, same_lead, settled, settled_role}
use Rattle.raft_step_laws.proofs.PeerEvents.{PeersThen, known, peers_then, unknown}
use Rattle.raft_step_laws.proofs.Sending.{finished_adds}
use Rattle.raft_history_laws.proofs.CommittedAtOnce.{node_then}
use Rattle.raft_history_laws.proofs.AlongNodes.{NodesKeepGiven, along_given}
use Rattle.raft_history_laws.proofs.FittingWorlds.{FitsAt, all_fits, comes_within}
use Rattle.raft_history_laws.proofs.NotedIds.{leads_all_at}
use Rattle.raft_history_laws.proofs.PeersInOrder.{AllInOrder, CoversFront, IsInOrder, RoleInOrder, all_serve_in_order, event_in_order, longer_in_order, new_in_order}
use Rattle.raft_history_laws.proofs.ServedNodes.{has_own_vote, opens_own_vote}
use Rattle.raft_history_laws.proofs.StepLeads.{BeganWithin, began_of, none_began}
use Rattle.raft_history_laws.proofs.StepWaits.{opening_waits}
use Rattle.raft_history_laws.proofs.WaitingTokens.{TokensWait, comes_wait, no_tokens}

on_vote : (s t : GroupState) → leads_on s t ≡ true → s.stored.vote ≡ t.stored.vote
on_vote s t k =
    let rest = (and_parts (is_leader s.role) (is_leader t.role && vote_eq s.stored.vote t.stored.vote) k).1 in
    vote_eq_same s.stored.vote t.stored.vote (and_parts (is_leader t.role) (vote_eq s.stored.vote t.stored.vote) rest).1

-- an event after which the node leads on in its lead leaves its vote
pub keeps_vote : (s : GroupState) (e : GroupEvent) (t : GroupState) → keeps_its_lead s e t ≡ true → s.stored.vote ≡ t.stored.vote
keeps_vote s AddGroup t k = on_vote s t k
keeps_vote s (Call call now) t k = on_vote s t k
keeps_vote s (Receive peer m now) t k = on_vote s t k
keeps_vote s Open t k = absurd (let f : false ≡ true = k in cc)

-- ---- a leader's log never gets shorter in its lead

module _ (m : Membership) (some : 0 < length m.configs) (own : ℕ) (before : List BallotEvent) (s : GroupState) (fits : NodeFits m (world_after m before) own s) (base : StoredGroup) (r : StepResult) (end : StepEnd m own before base r) where
  abbrev after : List BallotEvent
  after = before ++ end.later.events

  later : Later (world_after m before) (world_after m after)
  later =
      subst (Later (world_after m before)) (sym (run_append (ballot_group m) some before end.later.events (ballot_start (ballot_group m))))
      (run_next (ballot_group m) some (world_after m before) end.later.events (after_safe m some before)).later

  lead_grows : (lead lead' : Lead) → s.role ≡ Leader lead → r.state.role ≡ Leader lead' → s.stored.vote ≡ r.state.stored.vote → end_place s.stored ≤ end_place r.state.stored
  lead_grows lead lead' a b v =
      let x = leads_all_at m some before own s lead fits a in
      let y = leads_all_at m some after own r.state lead' (node_then m some own before base r end) b in
      let l = (later.lead (rank_of s.stored.vote.leader_id)).right in
      let same : length ((world_after m after).lead (rank_of r.state.stored.vote.leader_id)) ≡ length ((world_after m after).lead (rank_of s.stored.vote.leader_id)) =
      ap (λ (w : Vote ℕ). length ((world_after m after).lead (rank_of w.leader_id))) (sym v)
      in
      omega arith

covers_front : {m : Membership} (x : BallotNode) (s : GroupState) → UpFits m x s → CoversFront s.stored
covers_front x s u y is =
    let size = (u.fits.snapshot y is).size in
    let same = ap (λ o. length (prefix_of o)) is in
    let low = u.joined.low in
    let high = u.joined.high in
    let ends = joined_end s.stored u.list u.joined in
    (omega arith, omega arith)

-- ---- each step

module _ (own : ℕ) (s : GroupState) (e : GroupEvent) (mine : HasItsOwnVote own s) (passed : refusal_of own s e ≡ None) (h : RoleInOrder s.stored s.role) where
  abbrev q : StepResult
  q = event_step own s e

  abbrev r : StepResult
  r = finished own s.committed q

  module _ (fits : FitsStored r.state.stored) (covers : CoversFront r.state.stored) (began : BeganWithin r.state.role r.state.stored) (grows : (lead lead' : Lead) → s.role ≡ Leader lead → r.state.role ≡ Leader lead' → keeps_its_lead s e q.state ≡ true → end_place s.stored ≤ end_place r.state.stored) where
    known_in_order : (a after : Lead) → q.state.role ≡ Leader a → r.state.role ≡ Leader after → after.began ≡ a.began → PeersThen s e q a → AllInOrder r.state.stored a
    known_in_order a after is then' same (known lead was keeps peers) n =
        let l = grows lead after was then' keeps in
        subst (IsInOrder (end_place r.state.stored)) (sym (peers n))
        (longer_in_order (end_place s.stored) (end_place r.state.stored) _ l (event_in_order (end_place s.stored) s e (peer_of lead n) (h lead was n)))
    known_in_order a after is then' same (unknown none) n =
        let l = began after.began (ap began_of then') in
        subst (IsInOrder (end_place r.state.stored)) (sym (ap (peer_or (new_peer a.began n)) none))
        (new_in_order (end_place r.state.stored) a.began n (omega (arith, same)))

    finished_in_order : RoleInOrder r.state.stored r.state.role
    finished_in_order lead is =
        let on = finished_adds own s.committed q in
        let a = leads_if q.state.role (sym on.leads ∙ ap is_leader is) in
        let sends = finished_sends own s.committed a.0 q a.1 in
        let p = settled own q in
        let all = known_in_order a.0 sends.after a.1 sends.role sends.began (peers_then own s e mine passed a.0 a.1) in
        let role : RoleInOrder r.state.stored p.state.role = λ l f. subst (AllInOrder r.state.stored) (same_lead a.0 l (sym (settled_role own q ∙ a.1) ∙ f)) all in
        subst (λ st. RoleInOrder st r.state.role) (sym sends.stored)
        (all_serve_in_order own (has_grown s.committed p.state.committed) (other_ids own p.state.stored) p
        (subst FitsStored sends.stored fits)
        (subst CoversFront sends.stored covers)
        (subst (λ st. RoleInOrder st p.state.role) sends.stored role))
        lead is

-- ---- along every history

pub record OrderedNode (s : GroupState) : Type 0 where
  pub waits : TokensWait s
  pub order : RoleInOrder s.stored s.role

abbrev NodeOrdered : ℕ → NodeState → Type 0
NodeOrdered n Absent = Unit {0}
NodeOrdered n (Up s) = OrderedNode s
NodeOrdered n (Down stored) = Unit {0}

follower_ordered : (st : StoredGroup) → RoleInOrder st Follower
follower_ordered st lead is = absurd (let f : Follower ≡ Leader lead = is in cc)

stops_ordered : (n : ℕ) (stopped : Bool) (k : ℕ) (s : GroupState) (r : StepResult) → OrderedNode r.state → NodeOrdered n (after_step (stop_at stopped k) s r)
stops_ordered n true k s r h = tt
stops_ordered n false k s r h = h

module _ (m : Membership) (some : 0 < length m.configs) (own : ℕ) (small : own < 2 ^ 64) (before : List BallotEvent) (s : GroupState) (e : GroupEvent) (fits : NodeFits m (world_after m before) own s) (event_fits : EventFits m (world_after m before) e) (stored : FitsStored s.stored) (f : FitsEvent e) (h : OrderedNode s) where
  abbrev end : StepEnd m own before s.stored (group_step own s e)
  end = step_fits m some own small before s e fits event_fits

  passed_ordered : refusal_of own s e ≡ None → TokensWait (group_step own s e).state → RoleInOrder (group_step own s e).state.stored (group_step own s e).state.role
  passed_ordered passed waits =
      let then' = node_then m some own before s.stored (group_step own s e) end in
      let is : group_step own s e ≡ finished own s.committed (event_step own s e) = ap (λ o. step_unless o own s e) passed in
      let mine = has_own_vote m (world_after m before) own s fits in
      let good = (steps_fit own s e stored (comes_within m some before own s fits e) f).stored in
      let covers = covers_front ((world_after m (before ++ end.later.events)).node own) (group_step own s e).state then'.up in
      let on = finished_adds own s.committed (event_step own s e) in
      subst (λ (x : StepResult). RoleInOrder x.state.stored x.state.role) (sym is)
      (finished_in_order own s e mine passed h.order
      (subst (λ (x : StepResult). FitsStored x.state.stored) is good)
      (subst (λ (x : StepResult). CoversFront x.state.stored) is covers)
      (subst (λ (x : StepResult). BeganWithin x.state.role x.state.stored) is waits.began)
      (λ lead lead' a b keeps.
      let role = ap (λ (x : StepResult). x.state.role) is ∙ b in
      let vote = keeps_vote s e (event_step own s e).state keeps ∙ sym on.vote ∙ sym (ap (λ (x : StepResult). x.state.stored.vote) is) in
      subst (λ (x : StepResult). end_place s.stored ≤ end_place x.state.stored) is
      (lead_grows m some own before s fits s.stored (group_step own s e) end lead lead' a role vote)))

  pub event_ordered : TokensWait (group_step own s e).state → OrderedNode (group_step own s e).state
  event_ordered waits = record { waits = waits; order = go (refusal_of own s e) refl }
    where
      go : (o : Option RefusalReason) → refusal_of own s e ≡ o → RoleInOrder (group_step own s e).state.stored (group_step own s e).state.role
      go None passed = passed_ordered passed waits
      go (Some why) refused = subst (λ o. RoleInOrder (step_unless o own s e).state.stored (step_unless o own s e).state.role) (sym refused) h.order

opened_ordered : (m : Membership) (some : 0 < length m.configs) (own : ℕ) (before : List BallotEvent) (st : StoredGroup) (fits : NodeStateFits m (world_after m before) own (Down st)) → FitsStored st → OrderedNode (group_step own (state_of st) Open).state
opened_ordered m some own before st fits stored =
    let s = state_of st in
    let x = opening_waits m some own fits.0 before st fits.1 in
    let waits = no_tokens (group_step own s Open).state x.quiet.untold x.began in
    let end = opening_fits m some own fits.0 before st fits.1 in
    let then' = node_then m some own before st (group_step own s Open) end in
    record {
      waits = waits;
      order =
          finished_in_order own s Open (opens_own_vote own st) refl (follower_ordered st)
          (steps_fit own s Open stored tt tt).stored
          (covers_front ((world_after m (before ++ end.later.events)).node own) (group_step own s Open).state then'.up)
          waits.began
          (λ lead lead' a b keeps. absurd (let no : Follower ≡ Leader lead = a in cc));
    }

nodes_ordered : NodesKeepGiven FitsAt NodeOrdered
nodes_ordered m some before n e stopped k Absent fits may given h = tt
nodes_ordered m some before n (Comes e) stopped k (Up s) fits may given h =
    stops_ordered n stopped k s (group_step n s e)
    (⊎_elim
    (λ event_fits. event_ordered m some n fits.0 before s e fits.1 event_fits given.0 given.1 h (comes_wait m some n fits.0 before s e fits.1 may h.waits))
    (λ no. subst (λ o. OrderedNode (step_unless o n s e).state) (sym no.1) h)
    may)
nodes_ordered m some before n Restarts stopped k (Up s) fits may given h = h
nodes_ordered m some before n other stopped k (Up s) fits may given h = tt
nodes_ordered m some before n Restarts stopped k (Down st) fits may given h =
    stops_ordered n stopped k (state_of st) (group_step n (state_of st) Open) (opened_ordered m some n before st fits given.0)
nodes_ordered m some before n other stopped k (Down st) fits may given h = tt

start_ordered : (n : ℕ) (b : Bool) → NodeOrdered n (state_or b (Up (state_of no_group)) Absent)
start_ordered n true =
    record { waits = no_tokens (state_of no_group) refl (none_began Follower no_group refl); order = follower_ordered no_group }
start_ordered n false = tt

pub peers_in_order : (ids : List ℕ) → AreNodeIds ids → (rs : List Recorded) (end : GroupWorld) → Replays (new_world ids) rs end → (n : ℕ) (s : GroupState) → end.nodes n ≡ Up s → RoleInOrder s.stored s.role
peers_in_order ids small rs end run n s up =
    let node : OrderedNode s = subst (NodeOrdered n) up (along_given FitsAt NodeOrdered nodes_ordered ids small (all_fits ids small) start_ordered rs end run n) in
    node.order
