-- A candidate that a quorum granted leads in that event.
use Rattle.std.specs.Prelude.{◌≡◌, ℕ, ◌+◌, ◌==◌, ◌&&◌, Bool, true, false, List, [], ◌∷◌, Option, Some, None, cond, is_some, refl}
use Rattle.std.specs.List.{list_any}
use Rattle.std.proofs.Common.{sym, ap, ◌∙◌, subst}
use Rattle.std.proofs.lemmas.Bool.{and_right}
use Rattle.raft_values.specs.declared.vote.Vote.{Vote}
use Rattle.raft_values.specs.declared.log_id.LogId.{LogId}
use Rattle.raft_values.specs.LogId.{log_id_of, place_of}
use Rattle.raft_values.specs.Vote.{vote_of}
use Rattle.raft_quorums.specs.Quorum.{is_quorum}
use Rattle.raft_state.specs.declared.entry.EntryPayload.TheVariants.{Blank, Membership as Members}
use Rattle.raft_group_step.specs.Values.{ChangeMembers, LoggedMembership, entry_of, has_id, is_written_by, vote_eq, vote_lt}
use Rattle.raft_group_step.specs.StoredGroup.{Snapshot, PutEntries, entry_at, id_of, log_below, membership_in_force, snapshot_last}
use Rattle.raft_group_step.specs.Message.{Message, MessageBody, VoteRequest, VoteReply, AppendRequest, AppendReply, SnapshotRequest, SnapshotReply, AppendFields, ReplyFields, ReplyResult, Success, PartialSuccess, Conflict, HigherVote}
use Rattle.raft_group_step.specs.Peer.{is_answer_to}
use Rattle.raft_group_step.specs.GroupState.{GroupState, Lead, Role, Follower, Candidate, Leader, is_candidate, is_leader, state_of}
use Rattle.raft_group_step.specs.declared.group_call.GroupCall.TheVariants.{Initialize, Elect, Propose, ChangeMembership, Heartbeat, Lost, TriggerSnapshot, TriggerPurge}
use Rattle.raft_group_step.specs.GroupEvent.{GroupCall, GroupEvent, AddGroup, Call, Receive, Open}
use Rattle.raft_group_step.specs.StepResult.{RefusalReason, StepResult, append, in_role, is_within, renew, step_down, store, store_vote, take_over, unchanged, apply_up_to}
use Rattle.raft_group_step.specs.Lead.{begin_lead, committed_vote, configs_in_force, lead_if, new_lead, other_ids, peer_of, with_grant}
use Rattle.raft_group_step.specs.Elect.{ask, elect_step, other_voters}
use Rattle.raft_group_step.specs.VoteRequest.{judged, may_grant}
use Rattle.raft_group_step.specs.VoteReply.{counted, take_over_greater}
use Rattle.raft_group_step.specs.AppendRequest.{heard, is_held}
use Rattle.raft_group_step.specs.SnapshotRequest.{offered}
use Rattle.raft_group_step.specs.Reply.{answered, reply_step, with_higher_vote}
use Rattle.raft_group_step.specs.MembershipStep.{append_changed}
use Rattle.raft_group_step.specs.Heartbeat.{beat_as, send_notices}
use Rattle.raft_group_step.specs.Lost.{lost_as}
use Rattle.raft_group_step.specs.SnapshotTrigger.{snapshot_of_applied, store_snapshot_at}
use Rattle.raft_group_step.specs.PurgeTrigger.{purge_as, purge_within}
use Rattle.raft_group_step.specs.Opening.{drop_stale_log, is_joined_to, opening_step}
use Rattle.raft_group_step.specs.Refusal.{refusal_of}
use Rattle.raft_group_step.specs.GroupStep.{begun, call_step, event_step, finished, message_step, step_unless}
use Rattle.raft_group_step.proofs.LastMembership.{last_membership-append}
use Rattle.raft_group_step.proofs.Words.{either, ask_state, installing_keeps_role, joined_keeps_role, removing_keeps_role}
use Rattle.raft_laws.proofs.VoteOrders.{differ_flags as never}
use Rattle.raft_step_laws.specs.Elections.{CandidatesLack, GrantedCandidatesLead, GrantersReplay, LacksAQuorum, configs_counted, counts_a_grant, granters_after, granters_of, is_grant_for, stands_in_call, with_granter}
use Rattle.raft_step_laws.proofs.Sending.{finished_adds, idle_end}

-- ---- words of roles

granters_in : (role : Role) (granters : List ℕ) → role ≡ Candidate granters → granters ≡ granters_of role
granters_in role granters e = sym (ap granters_of e)

not_leading : (role : Role) (granters : List ℕ) → role ≡ Candidate granters → is_leader role ≡ false
not_leading role granters e = ap is_leader e

standing : (role : Role) (granters : List ℕ) → role ≡ Candidate granters → is_candidate role ≡ true
standing role granters e = ap is_candidate e

not_both : {A : Type 0} → (role : Role) (granters : List ℕ) → role ≡ Candidate granters → is_candidate role ≡ false → A
not_both role granters e f = never (is_candidate role) (standing role granters e) f

no_candidate : (role : Role) → is_leader role ≡ true → is_candidate role ≡ false
no_candidate Follower t = refl
no_candidate (Candidate granters) t = absurd (let f : false ≡ true = t in cc)
no_candidate (Leader lead) t = refl

-- ---- what is no grant leaves the role, or ends it, or changes what a leader knows of its peers

data Calm (r q : StepResult) : Type 0 where
  same : q.state.role ≡ r.state.role → Calm r q
  gone : q.state.role ≡ Follower → Calm r q
  yet : is_leader r.state.role ≡ true → is_leader q.state.role ≡ true → Calm r q

calm_then : {p q r : StepResult} → Calm p q → r.state.role ≡ q.state.role → Calm p r
calm_then (same e) f = same (f ∙ e)
calm_then (gone e) f = gone (f ∙ e)
calm_then (yet e g) f = yet e (ap is_leader f ∙ g)

abbrev SameRole : StepResult → StepResult → Type 0
SameRole r q = q.state.role ≡ r.state.role

took_calm : (v : Vote ℕ) (r : StepResult) → Calm r (take_over v r)
took_calm v r = either (Calm r) (vote_lt r.state.stored.vote v) (store_vote v (step_down r)) (renew r) (gone refl) (same refl)

greater_calm : (v : Vote ℕ) (r : StepResult) → Calm r (take_over_greater v r)
greater_calm v r = either (Calm r) (vote_lt r.state.stored.vote v) (store_vote v (step_down r)) r (gone refl) (same refl)

heard_calm : (own peer : ℕ) (m : AppendFields) (b : Bool) (r : StepResult) → Calm r (heard own peer m b r)
heard_calm own peer m true r = same refl
heard_calm own peer m false r =
    let taken = take_over m.vote r in
    calm_then (took_calm m.vote r) (joined_keeps_role own peer m (is_held taken.state.stored taken.state.committed m.previous) taken)

offered_calm : (own peer : ℕ) (v : Vote ℕ) (id : ℕ) (x : Snapshot) (b : Bool) (r : StepResult) → Calm r (offered own peer v id x b r)
offered_calm own peer v id x true r = same refl
offered_calm own peer v id x false r =
    let taken = take_over v r in
    calm_then (took_calm v r) (installing_keeps_role (is_within x.last.index taken.state.committed) x taken)

judged_calm : (own peer : ℕ) (v : Vote ℕ) (b : Bool) (r : StepResult) → Calm r (judged own peer v b r)
judged_calm own peer v true r = calm_then {r = judged own peer v true r} (took_calm v r) refl
judged_calm own peer v false r = same refl

higher_calm : (o : ReplyResult) (r : StepResult) → Calm r (with_higher_vote o r)
higher_calm Success r = same refl
higher_calm (PartialSuccess last) r = same refl
higher_calm Conflict r = same refl
higher_calm (HigherVote v) r = greater_calm v r

-- a leader that leads on
leads_calm : {p r q : StepResult} → is_leader r.state.role ≡ true → is_leader q.state.role ≡ true → Calm p r → Calm p q
leads_calm f g (same e) = yet (ap is_leader (sym e) ∙ f) g
leads_calm f g (gone e) = never (is_leader Follower) (ap is_leader (sym e) ∙ f) refl
leads_calm f g (yet e h) = yet e g

answered_calm : (peer : ℕ) (m : ReplyFields) (role : Role) (p r : StepResult) → r.state.role ≡ role → Calm p r → Calm p (answered peer m role r)
answered_calm peer m Follower p r e h = h
answered_calm peer m (Candidate granters) p r e h = h
answered_calm peer m (Leader lead) p r e h =
    either (Calm p) (vote_eq m.vote r.state.stored.vote && is_answer_to m (peer_of lead peer).outstanding) _ r
    (leads_calm {r = r} (ap is_leader e) refl h) h

reply_calm : (peer : ℕ) (m : ReplyFields) (r : StepResult) → Calm r (reply_step peer m r)
reply_calm peer m r =
    let judged = with_higher_vote m.outcome r in
    answered_calm peer m judged.state.role r judged refl (higher_calm m.outcome r)

-- ---- calls

pub changed_role : (o : Option LoggedMembership) (change : ChangeMembers) (token : ℕ) (r : StepResult) → SameRole r (append_changed o change token r)
changed_role None change token r = refl
changed_role (Some m) change token r = refl

notices_role : (own : ℕ) (lead : Lead) (ns : List ℕ) (r : StepResult) → SameRole r (send_notices own lead ns r)
notices_role own lead [] r = refl
notices_role own lead (n ∷ ns) r = notices_role own lead ns _

pub beat_role : (own : ℕ) (role : Role) (r : StepResult) → SameRole r (beat_as own role r)
beat_role own Follower r = refl
beat_role own (Candidate granters) r = refl
beat_role own (Leader lead) r = notices_role own lead (other_ids own r.state.stored) r

lost_calm : (peer : ℕ) (role : Role) (r : StepResult) → r.state.role ≡ role → Calm r (lost_as peer role r)
lost_calm peer Follower r e = same refl
lost_calm peer (Candidate granters) r e = same refl
lost_calm peer (Leader lead) r e =
    either (Calm r) (is_some (peer_of lead peer).outstanding) _ r (yet (ap is_leader e) refl) (same refl)

shot_role : (id : Option (LogId ℕ)) (r : StepResult) → SameRole r (store_snapshot_at id r)
shot_role None r = refl
shot_role (Some id) r = refl

pub snapshot_role : (applied : Option ℕ) (r : StepResult) → SameRole r (snapshot_of_applied applied r)
snapshot_role None r = refl
snapshot_role (Some a) r = either (SameRole r) _ r _ refl (shot_role (id_of (entry_at r.state.stored a)) r)

purge_role : (place : ℕ) (role : Role) (r : StepResult) → SameRole r (purge_as place role r)
purge_role place Follower r = removing_keeps_role (id_of (entry_at r.state.stored place)) r
purge_role place (Candidate granters) r = removing_keeps_role (id_of (entry_at r.state.stored place)) r
purge_role place (Leader lead) r = either (SameRole r) _ r _ refl refl

pub within_role : (place : ℕ) (last : Option (LogId ℕ)) (r : StepResult) → SameRole r (purge_within place last r)
within_role place None r = refl
within_role place (Some last) r = purge_role _ r.state.role r

-- ---- an opening makes no candidate

dropped_role : (last : Option (LogId ℕ)) (r : StepResult) → SameRole r (drop_stale_log last r)
dropped_role None r = refl
dropped_role (Some last) r = either (SameRole r) (is_joined_to r.state.stored last) r _ refl refl

-- a lead that begins knows of no peer
pub data Opened (q : StepResult) : Type 0 where
  begins : (lead : Lead) → q.state.role ≡ Leader lead → lead.peers ≡ [] → Opened q
  waits : q.state.role ≡ Follower → Opened q

pub opened_role : (own : ℕ) (s : GroupState) → Opened (opening_step own s.stored)
opened_role own s =
    let last = snapshot_last s.stored in
    let placed = apply_up_to (place_of last) (drop_stale_log last (unchanged (state_of s.stored))) in
    let vote = placed.state.stored.vote in
    either Opened (vote.committed && vote.leader_id.node_id == own) (in_role (Leader (new_lead placed.state.stored)) placed) placed
    (begins (new_lead placed.state.stored) refl refl)
    (waits (dropped_role last (unchanged (state_of s.stored))))

-- ---- what the event itself does to the role

pub data Standing (own : ℕ) (s : GroupState) (e : GroupEvent) (q : StepResult) : Type 0 where
  stands_on : q.state.role ≡ s.role → granters_after own s e ≡ granters_of s.role → counts_a_grant s e ≡ false → Standing own s e q
  lacks : (granters : List ℕ) → q.state.role ≡ Candidate granters → granters ≡ granters_after own s e → configs_in_force q.state.stored ≡ configs_counted s e → is_quorum (configs_in_force q.state.stored) (has_id granters) ≡ false → Standing own s e q
  -- a lead begins, which knows of no peer yet
  wins : (lead : Lead) → q.state.role ≡ Leader lead → lead.peers ≡ [] → Standing own s e q
  follows : q.state.role ≡ Follower → counts_a_grant s e ≡ false → Standing own s e q
  -- a grant that comes to no candidate
  idles : q.state.role ≡ s.role → is_candidate s.role ≡ false → counts_a_grant s e ≡ false → Standing own s e q
  leads_yet : is_leader s.role ≡ true → is_leader q.state.role ≡ true → counts_a_grant s e ≡ false → Standing own s e q

-- an event without a grant
calm_stands : {own : ℕ} {s : GroupState} {e : GroupEvent} (r q : StepResult) → r.state.role ≡ s.role → granters_after own s e ≡ granters_of s.role → counts_a_grant s e ≡ false → Calm r q → Standing own s e q
calm_stands r q f after none (same g) = stands_on (g ∙ f) after none
calm_stands r q f after none (gone g) = follows g none
calm_stands r q f after none (yet h g) = leads_yet (ap is_leader (sym f) ∙ h) g none

-- the lead begins
begun_lead : (r : StepResult) → (begin_lead r).state.role ≡ Leader (new_lead r.state.stored)
begun_lead r =
    let q = in_role (Leader (new_lead r.state.stored)) (store_vote (committed_vote r.state.stored.vote) r) in
    either (λ x. x.state.role ≡ Leader (new_lead r.state.stored)) (list_any (is_written_by q.state.stored.vote.leader_id) q.state.stored.log) q (append Blank q)
    refl refl

-- one more grant
granted_stands : {own : ℕ} {s : GroupState} {e : GroupEvent} (granters : List ℕ) (r : StepResult) → granters ≡ granters_after own s e → configs_in_force r.state.stored ≡ configs_counted s e → (b : Bool) → is_quorum (configs_in_force r.state.stored) (has_id granters) ≡ b → Standing own s e (lead_if b (in_role (Candidate granters) r))
granted_stands granters r e f true t = wins (new_lead r.state.stored) (begun_lead (in_role (Candidate granters) r)) refl
granted_stands granters r e f false t = lacks granters refl e f t

module _ (own : ℕ) (s : GroupState) (now : ℕ) where
  abbrev r : StepResult
  r = begun now s

  -- the node stands for election, and grants itself its vote
  elected_stands : (call : GroupCall) → stands_in_call call ≡ true → (q : StepResult) → configs_in_force q.state.stored ≡ configs_counted s (Call call now) → Standing own s (Call call now) (elect_step own q)
  elected_stands call t q f =
      let vote = vote_of (q.state.stored.vote.leader_id.term + 1) own false in
      let voted : StepResult = in_role (Candidate []) (store_vote vote (step_down q)) in
      let ns = other_voters own q.state.stored in
      let asked = ask own ns voted in
      let same_state = ask_state own ns voted in
      let after : granters_after own s (Call call now) ≡ own ∷ [] = ap (λ b. cond b (own ∷ []) (granters_of s.role)) t in
      subst (λ role. Standing own s (Call call now) (with_grant own role asked)) (sym (ap (λ (x : GroupState). x.role) same_state))
      (granted_stands (own ∷ []) asked (sym after)
      (ap (λ (x : GroupState). configs_in_force x.stored) same_state ∙ f)
      (is_quorum (configs_in_force asked.state.stored) (has_id (own ∷ []))) refl)

  call_stands : (call : GroupCall) → Standing own s (Call call now) (call_step own call r)
  call_stands (Initialize m) =
      let es = entry_of (log_id_of 0 0 0) (Members m) ∷ [] in
      let put = store (PutEntries 0 es) r in
      elected_stands (Initialize m) refl put (ap configs_in (last_membership-append _ (log_below s.stored 0) es))
    where
      configs_in : Option LoggedMembership → List (List ℕ)
      configs_in None = []
      configs_in (Some x) = x.membership.configs
  call_stands Elect = elected_stands Elect refl r refl
  call_stands (Propose command token) = stands_on refl refl refl
  call_stands (ChangeMembership change token) = stands_on (changed_role (membership_in_force s.stored) change token r) refl refl
  call_stands Heartbeat = stands_on (beat_role own s.role r) refl refl
  call_stands (Lost peer) = calm_stands r (lost_as peer s.role r) refl refl refl (lost_calm peer s.role r refl)
  call_stands TriggerSnapshot = stands_on (snapshot_role s.applied r) refl refl
  call_stands (TriggerPurge place) = stands_on (within_role place (snapshot_last s.stored) r) refl refl

  module _ (peer : ℕ) (m : Message) where
    abbrev e : GroupEvent
    e = Receive peer m now

    -- a message that is no grant
    passes : (q : StepResult) → is_grant_for s.stored m.body ≡ false → Calm r q → Standing own s e q
    passes q none h =
        calm_stands r q refl
        (ap (λ b. cond b (with_granter peer (granters_of s.role)) (granters_of s.role)) none)
        (ap (λ b. is_candidate s.role && b) none ∙ and_right (is_candidate s.role) false refl)
        h

    granted_by : (role : Role) → s.role ≡ role → is_grant_for s.stored m.body ≡ true → Standing own s e (with_grant peer role r)
    granted_by Follower is t = idles refl (ap is_candidate is) (ap (λ x. is_candidate x && is_grant_for s.stored m.body) is)
    granted_by (Candidate granters) is t =
        let after : granters_after own s e ≡ with_granter peer granters =
        ap (λ b. cond b (with_granter peer (granters_of s.role)) (granters_of s.role)) t ∙ ap (λ x. with_granter peer (granters_of x)) is
        in
        granted_stands (with_granter peer granters) r (sym after) refl
        (is_quorum (configs_in_force s.stored) (has_id (with_granter peer granters))) refl
    granted_by (Leader lead) is t = idles refl (ap is_candidate is) (ap (λ x. is_candidate x && is_grant_for s.stored m.body) is)

    counted_stands : (v : Vote ℕ) (b : Bool) → is_grant_for s.stored m.body ≡ b → Standing own s e (counted peer b v r)
    counted_stands v true t = granted_by s.role refl t
    counted_stands v false t = passes (take_over_greater v r) t (greater_calm v r)

    body_stands : (b : MessageBody) → m.body ≡ b → Standing own s e (message_step own peer b r)
    body_stands (VoteRequest v last) is = passes _ (ap (is_grant_for s.stored) is) (judged_calm own peer v (may_grant r.state v last) r)
    body_stands (VoteReply v granted last) is = counted_stands v (granted && vote_eq v s.stored.vote) (ap (is_grant_for s.stored) is)
    body_stands (AppendRequest a) is = passes _ (ap (is_grant_for s.stored) is) (heard_calm own peer a (vote_lt a.vote s.stored.vote) r)
    body_stands (AppendReply a) is = passes _ (ap (is_grant_for s.stored) is) (reply_calm peer a r)
    body_stands (SnapshotRequest v id x) is = passes _ (ap (is_grant_for s.stored) is) (offered_calm own peer v id x (vote_lt v s.stored.vote) r)
    body_stands (SnapshotReply a) is = passes _ (ap (is_grant_for s.stored) is) (reply_calm peer a r)

pub event_stands : (own : ℕ) (s : GroupState) (e : GroupEvent) → Standing own s e (event_step own s e)
event_stands own s AddGroup = stands_on refl refl refl
event_stands own s (Call call now) = call_stands own s now call
event_stands own s (Receive peer m now) = body_stands own s now peer m m.body refl
event_stands own s Open = open_stands (opened_role own s)
  where
    open_stands : Opened (opening_step own s.stored) → Standing own s Open (opening_step own s.stored)
    open_stands (begins lead f g) = wins lead f g
    open_stands (waits f) = follows f refl

-- ---- the laws

module _ (own : ℕ) (s : GroupState) (e : GroupEvent) where
  abbrev q : StepResult
  q = event_step own s e

  abbrev end : StepResult
  end = finished own s.committed q

  -- a candidate is as the event itself left it
  candidate_end : (granters : List ℕ) → end.state.role ≡ Candidate granters → end ≡ q
  candidate_end granters is =
      idle_end own s.committed q (sym (finished_adds own s.committed q).leads ∙ not_leading end.state.role granters is)

  candidate_then : (granters : List ℕ) → end.state.role ≡ Candidate granters → q.state.role ≡ Candidate granters
  candidate_then granters is = sym (ap (λ (x : StepResult). x.state.role) (candidate_end granters is)) ∙ is

  granters_are : (granters : List ℕ) → end.state.role ≡ Candidate granters → granters ≡ granters_after own s e
  granters_are granters is = go (event_stands own s e)
    where
      then : q.state.role ≡ Candidate granters
      then = candidate_then granters is

      go : Standing own s e q → granters ≡ granters_after own s e
      go (stands_on f after none) = granters_in s.role granters (sym f ∙ then) ∙ sym after
      go (lacks others f after counted few) = granters_in q.state.role granters then ∙ ap granters_of f ∙ after
      go (wins lead f g) = not_both q.state.role granters then (ap is_candidate f)
      go (follows f none) = not_both q.state.role granters then (ap is_candidate f)
      go (idles f idle none) = not_both q.state.role granters then (ap is_candidate f ∙ idle)
      go (leads_yet f g none) = not_both q.state.role granters then (no_candidate q.state.role g)

  leads_then : counts_a_grant s e ≡ true → is_quorum (configs_counted s e) (has_id (granters_after own s e)) ≡ true → is_leader end.state.role ≡ true
  leads_then counts many = (finished_adds own s.committed q).leads ∙ go (event_stands own s e)
    where
      go : Standing own s e q → is_leader q.state.role ≡ true
      go (stands_on f after none) = never (counts_a_grant s e) counts none
      go (lacks granters f after counted few) =
          never (is_quorum (configs_counted s e) (has_id (granters_after own s e))) many
          (ap (λ cs. is_quorum cs (has_id (granters_after own s e))) (sym counted)
          ∙ ap (λ ns. is_quorum (configs_in_force q.state.stored) (has_id ns)) (sym after)
          ∙ few)
      go (wins lead f g) = ap is_leader f
      go (follows f none) = never (counts_a_grant s e) counts none
      go (idles f idle none) = never (counts_a_grant s e) counts none
      go (leads_yet f g none) = never (counts_a_grant s e) counts none

  lacks_then : LacksAQuorum s → (is_candidate s.role ≡ true → configs_in_force end.state.stored ≡ configs_in_force s.stored) → LacksAQuorum end.state
  lacks_then before stays granters is = go (event_stands own s e)
    where
      then : q.state.role ≡ Candidate granters
      then = candidate_then granters is

      whole : end ≡ q
      whole = candidate_end granters is

      go : Standing own s e q → is_quorum (configs_in_force end.state.stored) (has_id granters) ≡ false
      go (stands_on f after none) =
          let was : s.role ≡ Candidate granters = sym f ∙ then in
          ap (λ cs. is_quorum cs (has_id granters)) (stays (standing s.role granters was)) ∙ before granters was
      go (lacks others f after counted few) =
          let others_are : granters ≡ others = granters_in q.state.role granters then ∙ ap granters_of f in
          ap (λ (x : StepResult). is_quorum (configs_in_force x.state.stored) (has_id granters)) whole
          ∙ ap (λ ns. is_quorum (configs_in_force q.state.stored) (has_id ns)) others_are ∙ few
      go (wins lead f g) = not_both q.state.role granters then (ap is_candidate f)
      go (follows f none) = not_both q.state.role granters then (ap is_candidate f)
      go (idles f idle none) = not_both q.state.role granters then (ap is_candidate f ∙ idle)
      go (leads_yet f g none) = not_both q.state.role granters then (no_candidate q.state.role g)

  lacks_unless : (why : Option RefusalReason) → LacksAQuorum s → (is_candidate s.role ≡ true → configs_in_force (step_unless why own s e).state.stored ≡ configs_in_force s.stored) → LacksAQuorum (step_unless why own s e).state
  lacks_unless (Some why) before stays = before
  lacks_unless None before stays = lacks_then before stays

pub granters_replay : GrantersReplay
granters_replay own s e passed granters is =
    granters_are own s e granters (sym (ap (λ o. (step_unless o own s e).state.role) passed) ∙ is)

pub granted_lead : GrantedCandidatesLead
granted_lead own s e passed counts many =
    ap (λ o. is_leader (step_unless o own s e).state.role) passed ∙ leads_then own s e counts many

pub candidates_lack : CandidatesLack
candidates_lack own s e before stays = lacks_unless own s e (refusal_of own s e) before stays
