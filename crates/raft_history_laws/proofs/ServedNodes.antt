-- Each peer of a leader that lacks entries has a request outstanding, along every history.
use Rattle.std.specs.Prelude.{◌≡◌, ◌⊎◌, ℕ, Bool, true, false, List, Option, Some, None, refl}
use Rattle.std.proofs.Common.{sym, ap, ◌∙◌, subst}
use Rattle.raft_group_step.specs.Values.{Membership}
use Rattle.raft_group_step.specs.StoredGroup.{StoredGroup}
use Rattle.raft_group_step.specs.Message.{Message}
use Rattle.raft_group_step.specs.Peer.{Outstanding}
use Rattle.raft_group_step.specs.GroupState.{GroupState, Follower, Leader, Untold, no_group, state_of}
use Rattle.raft_group_step.specs.GroupEvent.{GroupEvent, Open}
use Rattle.raft_group_step.specs.StepResult.{RefusalReason, StepResult}
use Rattle.raft_group_step.specs.Refusal.{refusal_of}
use Rattle.raft_group_step.specs.GroupStep.{group_step, step_unless}
use Rattle.raft_laws.specs.BallotWorld.{BallotWorld}
use Rattle.raft_laws.specs.GroupWorld.{GroupWorld, NodeState, Absent, Up, Down, Done, Refused, Stopped, Skipped, is_stop, state_or}
use Rattle.raft_laws.specs.NodeEvent.{NodeEvent, Comes, Crashes, Halts, Restarts, after_step, outcome_at, outcome_of_end, state_after}
use Rattle.raft_laws.specs.GroupRun.{At, after_scene, outcome_in, outcome_of, scene_of, stop_at}
use Rattle.raft_laws.proofs.StepFits.{NodeFits, world_after}
use Rattle.raft_laws.proofs.StepMoments.{step_goes}
use Rattle.raft_laws.proofs.WorldFits.{NodeStateFits}
use Rattle.raft_laws.proofs.WorldStart.{founded}
use Rattle.raft_laws.proofs.Numbers.{state_here}
use Rattle.raft_step_laws.specs.Serving.{IsSent, waited_for}
use Rattle.raft_step_laws.specs.Tokens.{HasItsOwnVote}
use Rattle.raft_step_laws.proofs.Served.{peers_served}
use Rattle.raft_history_laws.specs.ServedPeers.{LackingAreSent, LacksEntries, LeadersServe, ServesPeers, waited_in}
use Rattle.raft_history_laws.proofs.AlongNodes.{NodesKeep, along_nodes}
use Rattle.raft_history_laws.proofs.NodeLedgers.{own_vote}

-- a candidate's and a leader's vote is its own
pub has_own_vote : (m : Membership) (b : BallotWorld) (n : ℕ) (s : GroupState) → NodeFits m b n s → HasItsOwnVote n s
has_own_vote m b n s fits = own_vote n b s s.role fits.role

-- a node that is opened has no role yet
pub opens_own_vote : (n : ℕ) (st : StoredGroup) → HasItsOwnVote n (state_of st)
opens_own_vote n st t = absurd (let f : false ≡ true = t in cc)

-- ---- each event at a node

follower_serves : (n : ℕ) (st : StoredGroup) → ServesPeers n (state_of st)
follower_serves n st peer h = absurd (let f : Follower ≡ Leader h.lead = h.leads in cc)

step_serves : (own : ℕ) (s : GroupState) (e : GroupEvent) → HasItsOwnVote own s → ServesPeers own s → (o : Option RefusalReason) → refusal_of own s e ≡ o → ServesPeers own (group_step own s e).state
step_serves own s e mine h None passed =
    λ peer lacks.
    let served = peers_served own s e mine passed lacks.lead lacks.leads peer lacks.member lacks.lacks in
    (served.request, served.outstanding)
step_serves own s e mine h (Some why) refused = subst (λ o. ServesPeers own (step_unless o own s e).state) (sym refused) h

abbrev NodeServes : ℕ → NodeState → Type 0
NodeServes n Absent = Unit {0}
NodeServes n (Up s) = ServesPeers n s
NodeServes n (Down stored) = Unit {0}

stops_serve : (n : ℕ) (stopped : Bool) (k : ℕ) (s : GroupState) (r : StepResult) → ServesPeers n r.state → NodeServes n (after_step (stop_at stopped k) s r)
stops_serve n true k s r h = tt
stops_serve n false k s r h = h

nodes_serve : NodesKeep NodeServes
nodes_serve m some before n e stopped k Absent fits may h = tt
nodes_serve m some before n (Comes e) stopped k (Up s) fits may h =
    stops_serve n stopped k s (group_step n s e)
    (step_serves n s e (has_own_vote m (world_after m before) n s fits.1) h (refusal_of n s e) refl)
nodes_serve m some before n Restarts stopped k (Up s) fits may h = h
nodes_serve m some before n other stopped k (Up s) fits may h = tt
nodes_serve m some before n Restarts stopped k (Down stored) fits may h =
    stops_serve n stopped k (state_of stored) (group_step n (state_of stored) Open)
    (step_serves n (state_of stored) Open (opens_own_vote n stored) (follower_serves n stored) None refl)
nodes_serve m some before n other stopped k (Down stored) fits may h = tt

start_serves : (n : ℕ) (b : Bool) → NodeServes n (state_or b (Up (state_of no_group)) Absent)
start_serves n true = follower_serves n no_group
start_serves n false = tt

pub leaders_serve : LeadersServe
leaders_serve ids rs end h n s up =
    subst (NodeServes n) up (along_nodes NodeServes nodes_serve ids h.node_ids start_serves rs end h.replays n)

-- ---- one event of a history

abbrev SentOne : GroupState → Option Outstanding → List Message → ℕ → Type 0
SentOne s before sent peer =
    (request : Outstanding) × (waited_for s.role peer ≡ Some request) × ((before ≡ Some request) ⊎ IsSent sent peer request.id)

done_sent : {a b : List Message} {c d : List Untold} {e f : List ℕ} → Done a c e ≡ Done b d f → a ≡ b
done_sent e = cc

up_same : {s t : GroupState} → Up s ≡ Up t → s ≡ t
up_same e = cc

not_done : {P : Type 0} {why : RefusalReason} {a : List Message} {b : List Untold} {c : List ℕ} → Refused why ≡ Done a b c → P
not_done {P} {why} {a} {b} {c} e = absurd (let f : Refused why ≡ Done a b c = e in cc)

skipped_not_done : {P : Type 0} {a : List Message} {b : List Untold} {c : List ℕ} → Skipped ≡ Done a b c → P
skipped_not_done {P} {a} {b} {c} e = absurd (let f : Skipped ≡ Done a b c = e in cc)

stopped_not_done : {P : Type 0} {xs : List ℕ} {a : List Message} {b : List Untold} {c : List ℕ} → Stopped xs ≡ Done a b c → P
stopped_not_done {P} {xs} {a} {b} {c} e = absurd (let f : Stopped xs ≡ Done a b c = e in cc)

down_not_up : {P : Type 0} {st : StoredGroup} {s : GroupState} → Down st ≡ Up s → P
down_not_up {P} {st} {s} e = absurd (let f : Down st ≡ Up s = e in cc)

module _ (sent : List Message) (told : List Untold) (unknown : List ℕ) (t : GroupState) (peer : ℕ) where
  step_sends : (own : ℕ) (s : GroupState) (e : GroupEvent) → HasItsOwnVote own s → (o : Option RefusalReason) → refusal_of own s e ≡ o → outcome_of_end (group_step own s e) (group_step own s e).refused ≡ Done sent told unknown → Up (group_step own s e).state ≡ Up t → LacksEntries own t peer → SentOne t (waited_for s.role peer) sent peer
  step_sends own s e mine (Some why) refused is up lacks =
      not_done (subst (λ o. outcome_of_end (step_unless o own s e) (step_unless o own s e).refused ≡ Done sent told unknown) refused is)
  step_sends own s e mine None passed is up lacks =
      let r = group_step own s e in
      let taken : r.refused ≡ None = ap (λ o. (step_unless o own s e).refused) passed ∙ (step_goes own s e).taken in
      let same = done_sent (sym (ap (outcome_of_end r) taken) ∙ is) in
      let state : t ≡ r.state = sym (up_same up) in
      subst (λ x. SentOne x (waited_for s.role peer) sent peer) (sym state)
      (subst (λ ms. SentOne r.state (waited_for s.role peer) ms peer) same
      (go (subst (λ x. LacksEntries own x peer) state lacks)))
    where
      go : LacksEntries own (group_step own s e).state peer → SentOne (group_step own s e).state (waited_for s.role peer) (group_step own s e).messages peer
      go l =
          let served = peers_served own s e mine passed l.lead l.leads peer l.member l.lacks in
          (served.request, served.outstanding, served.since)

  node_sends : (m : Membership) (b : BallotWorld) (n : ℕ) (e : NodeEvent) (x : NodeState) → NodeStateFits m b n x → outcome_at n e false x ≡ Done sent told unknown → state_after n e None x ≡ Up t → LacksEntries n t peer → SentOne t (waited_in x peer) sent peer
  node_sends m b n e Absent fits is up lacks = skipped_not_done is
  node_sends m b n (Comes e) (Up s) fits is up lacks = step_sends n s e (has_own_vote m b n s fits.1) (refusal_of n s e) refl is up lacks
  node_sends m b n Crashes (Up s) fits is up lacks = down_not_up up
  node_sends m b n Halts (Up s) fits is up lacks = stopped_not_done is
  node_sends m b n Restarts (Up s) fits is up lacks = skipped_not_done is
  node_sends m b n (Comes e) (Down stored) fits is up lacks = skipped_not_done is
  node_sends m b n Crashes (Down stored) fits is up lacks = skipped_not_done is
  node_sends m b n Halts (Down stored) fits is up lacks = skipped_not_done is
  node_sends m b n Restarts (Down stored) fits is up lacks =
      step_sends n (state_of stored) Open (opens_own_vote n stored) None refl is up lacks

pub lacking_are_sent : LackingAreSent
lacking_are_sent ids rs last middle end h on n e here sent told unknown done s up peer lacks =
    let f = founded ids h.node_ids rs middle h.replays in
    let goes : is_stop last.outcome ≡ false = ap is_stop done in
    let is : outcome_at n e false (middle.nodes n) ≡ Done sent told unknown =
    sym (on.0 ∙ ap (outcome_of middle last.event) goes ∙ ap (outcome_in middle false) here) ∙ done
    in
    let next : end ≡ after_scene middle last.event last.outcome None (At n e) =
    on.1.1
    ∙ ap (λ b. after_scene middle last.event last.outcome (stop_at b on.1.0) (scene_of middle last.event)) goes
    ∙ ap (after_scene middle last.event last.outcome None) here
    in
    let there : state_after n e None (middle.nodes n) ≡ Up s =
    sym (ap (λ (w : GroupWorld). w.nodes n) next ∙ state_here n (state_after n e None (middle.nodes n)) middle.nodes) ∙ up
    in
    node_sends sent told unknown s peer f.membership (world_after f.membership f.is.matches.before) n e (middle.nodes n) (f.is.matches.fits.nodes n) is there lacks
