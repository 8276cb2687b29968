-- A candidate's and a leader's vote stays its own.
use Rattle.std.specs.Prelude.{◌≡◌, ℕ, ◌==◌, ◌&&◌, is_some, nat_lt, Bool, true, false, List, [], ◌∷◌, Option, Some, None, refl}
use Rattle.std.proofs.Common.{sym, ap, ◌∙◌, subst, eqb-true}
use Rattle.std.proofs.lemmas.Bool.{and_parts}
use Rattle.raft_values.specs.declared.vote.LeaderId.{LeaderId}
use Rattle.raft_values.specs.declared.vote.Vote.{Vote}
use Rattle.raft_values.specs.declared.log_id.LogId.{LogId}
use Rattle.raft_values.specs.LogId.{log_id_of, place_of}
use Rattle.raft_state.specs.declared.entry.EntryPayload.TheVariants.{Membership as Members}
use Rattle.raft_group_step.specs.Values.{ChangeMembers, Entry, LoggedMembership, entry_of, vote_eq, vote_lt}
use Rattle.raft_group_step.specs.StoredGroup.{Snapshot, CutFrom, PutEntries, StartAfter, entry_at, first_place, has_id_in_log, id_of, membership_in_force, snapshot_last}
use Rattle.raft_group_step.specs.Message.{MessageBody, VoteRequest, VoteReply, AppendRequest, AppendReply, SnapshotRequest, SnapshotReply, AppendFields, ReplyFields, ReplyResult, Success, PartialSuccess, Conflict, HigherVote}
use Rattle.raft_group_step.specs.Peer.{is_answer_to}
use Rattle.raft_group_step.specs.GroupState.{GroupState, Lead, Role, Follower, Candidate, Leader, is_leader, state_of}
use Rattle.raft_group_step.specs.declared.group_call.GroupCall.TheVariants.{Initialize, Elect, Propose, ChangeMembership, Heartbeat, Lost, TriggerSnapshot, TriggerPurge}
use Rattle.raft_group_step.specs.GroupEvent.{GroupCall, GroupEvent, AddGroup, Call, Receive, Open}
use Rattle.raft_group_step.specs.StepResult.{RefusalReason, StepResult, apply_up_to, in_role, is_within, later_place, renew, step_down, store, store_vote, take_over, unchanged}
use Rattle.raft_group_step.specs.Lead.{new_lead, other_ids, peer_of, remove_up_to, with_grant, with_wish}
use Rattle.raft_group_step.specs.Elect.{elect_step}
use Rattle.raft_group_step.specs.VoteRequest.{judged, may_grant}
use Rattle.raft_group_step.specs.VoteReply.{counted, take_over_greater}
use Rattle.raft_group_step.specs.AppendRequest.{cut_at, cut_from, heard, is_held, joined, put_entries}
use Rattle.raft_group_step.specs.SnapshotRequest.{cut_other, install_unless, offered, place_above}
use Rattle.raft_group_step.specs.Reply.{answered, reply_step, with_higher_vote}
use Rattle.raft_group_step.specs.MembershipStep.{append_changed}
use Rattle.raft_group_step.specs.Heartbeat.{beat_as, send_notices}
use Rattle.raft_group_step.specs.Lost.{lost_as}
use Rattle.raft_group_step.specs.SnapshotTrigger.{snapshot_of_applied, store_snapshot_at}
use Rattle.raft_group_step.specs.PurgeTrigger.{purge_as, purge_within}
use Rattle.raft_group_step.specs.Opening.{drop_stale_log, is_joined_to, opening_step}
use Rattle.raft_group_step.specs.Refusal.{refusal_of}
use Rattle.raft_group_step.specs.GroupStep.{begun, call_step, event_step, finished, message_step, step_unless}
use Rattle.raft_group_step.proofs.Words.{either, either_by}
use Rattle.raft_step_laws.specs.Tokens.{HasItsOwnVote, VotesStayOwn, seeks_or_leads}
use Rattle.raft_step_laws.proofs.Sending.{finished_adds, idle_end}
use Rattle.raft_step_laws.proofs.Telling.{elected_leader, granted_leader, seeks}

module _ (own : ℕ) where
  -- a candidate or leader has its own vote
  record Mine (r : StepResult) : Type 0 where
    is : HasItsOwnVote own r.state

  passed_on : (r q : StepResult) → seeks_or_leads q.state.role ≡ seeks_or_leads r.state.role → q.state.stored.vote.leader_id ≡ r.state.stored.vote.leader_id → Mine r → Mine q
  passed_on r q e f h =
      record { is = λ t. ap (λ (x : LeaderId ℕ). x.node_id) f ∙ h.is (sym e ∙ t) }

  follower : (q : StepResult) → q.state.role ≡ Follower → Mine q
  follower q e = record { is = λ t. absurd (let f : false ≡ true = sym (ap seeks_or_leads e) ∙ t in cc) }

  took_mine : (v : Vote ℕ) (r : StepResult) → Mine r → Mine (take_over v r)
  took_mine v r h =
      either Mine (vote_lt r.state.stored.vote v) (store_vote v (step_down r)) (renew r)
      (follower (store_vote v (step_down r)) refl) (passed_on r (renew r) refl refl h)

  greater_mine : (v : Vote ℕ) (r : StepResult) → Mine r → Mine (take_over_greater v r)
  greater_mine v r h =
      either Mine (vote_lt r.state.stored.vote v) (store_vote v (step_down r)) r
      (follower (store_vote v (step_down r)) refl) h

  cut_mine : (i : ℕ) (r : StepResult) → Mine r → Mine (cut_from i r)
  cut_mine i r h = either Mine (is_some (entry_at r.state.stored i)) (store (CutFrom i) r) r (passed_on r _ refl refl h) h

  cut_at_mine : (id : Option (LogId ℕ)) (r : StepResult) → Mine r → Mine (cut_at id r)
  cut_at_mine None r h = h
  cut_at_mine (Some id) r h = cut_mine id.index r h

  put_mine : (es : List Entry) (r : StepResult) → Mine r → Mine (put_entries es r)
  put_mine [] r h = h
  put_mine (e ∷ es) r h = passed_on (cut_from e.log_id.index r) _ refl refl (cut_mine e.log_id.index r h)

  joined_mine : (peer : ℕ) (a : AppendFields) (b : Bool) (r : StepResult) → Mine r → Mine (joined own peer a b r)
  joined_mine peer a true r h = passed_on (put_entries _ r) _ refl refl (put_mine _ r h)
  joined_mine peer a false r h = passed_on (cut_at a.previous r) _ refl refl (cut_at_mine a.previous r h)

  heard_mine : (peer : ℕ) (a : AppendFields) (b : Bool) (r : StepResult) → Mine r → Mine (heard own peer a b r)
  heard_mine peer a true r h = passed_on r _ refl refl h
  heard_mine peer a false r h =
      let taken = take_over a.vote r in
      joined_mine peer a (is_held taken.state.stored taken.state.committed a.previous) taken (took_mine a.vote r h)

  other_mine : (last : LogId ℕ) (r : StepResult) → Mine r → Mine (cut_other last r)
  other_mine last r h =
      either Mine (has_id_in_log r.state.stored last) r _ h
      (either Mine (is_some (entry_at r.state.stored last.index)) _ r (cut_mine (place_above r.state.committed) r h) h)

  unless_mine : (b : Bool) (x : Snapshot) (r : StepResult) → Mine r → Mine (install_unless b x r)
  unless_mine true x r h = h
  unless_mine false x r h = passed_on (cut_other x.last r) _ refl refl (other_mine x.last r h)

  offered_mine : (peer : ℕ) (v : Vote ℕ) (id : ℕ) (x : Snapshot) (b : Bool) (r : StepResult) → Mine r → Mine (offered own peer v id x b r)
  offered_mine peer v id x true r h = passed_on r _ refl refl h
  offered_mine peer v id x false r h =
      let taken = take_over v r in
      let b = is_within x.last.index taken.state.committed in
      passed_on (install_unless b x taken) _ refl refl (unless_mine b x taken (took_mine v r h))

  judged_mine : (peer : ℕ) (v : Vote ℕ) (b : Bool) (r : StepResult) → Mine r → Mine (judged own peer v b r)
  judged_mine peer v true r h = passed_on (take_over v r) _ refl refl (took_mine v r h)
  judged_mine peer v false r h = passed_on r _ refl refl h

  -- a grant makes a leader of a candidate alone
  granted_mine : (peer : ℕ) (role : Role) (r : StepResult) → r.state.role ≡ role → Mine r → Mine (with_grant peer role r)
  granted_mine peer Follower r e h = h
  granted_mine peer (Candidate granters) r e h =
      record {
        is = λ t. ap (λ (x : LeaderId ℕ). x.node_id) (granted_leader peer (Candidate granters) r) ∙ h.is (ap seeks_or_leads e);
      }
  granted_mine peer (Leader lead) r e h = h

  counted_mine : (peer : ℕ) (b : Bool) (v : Vote ℕ) (r : StepResult) → Mine r → Mine (counted peer b v r)
  counted_mine peer true v r h = granted_mine peer r.state.role r refl h
  counted_mine peer false v r h = greater_mine v r h

  answered_mine : (peer : ℕ) (m : ReplyFields) (role : Role) (r : StepResult) → r.state.role ≡ role → Mine r → Mine (answered peer m role r)
  answered_mine peer m Follower r e h = h
  answered_mine peer m (Candidate granters) r e h = h
  answered_mine peer m (Leader lead) r e h =
      either Mine (vote_eq m.vote r.state.stored.vote && is_answer_to m (peer_of lead peer).outstanding) _ r
      (passed_on r _ (sym (ap seeks_or_leads e)) refl h) h

  higher_mine : (o : ReplyResult) (r : StepResult) → Mine r → Mine (with_higher_vote o r)
  higher_mine Success r h = h
  higher_mine (PartialSuccess last) r h = h
  higher_mine Conflict r h = h
  higher_mine (HigherVote v) r h = greater_mine v r h

  reply_mine : (peer : ℕ) (m : ReplyFields) (r : StepResult) → Mine r → Mine (reply_step peer m r)
  reply_mine peer m r h =
      let judged = with_higher_vote m.outcome r in answered_mine peer m judged.state.role judged refl (higher_mine m.outcome r h)

  elected_mine : (r : StepResult) → Mine (elect_step own r)
  elected_mine r = record { is = λ t. ap (λ (x : LeaderId ℕ). x.node_id) (elected_leader own r) }

  changed_mine : (o : Option LoggedMembership) (change : ChangeMembers) (token : ℕ) (r : StepResult) → Mine r → Mine (append_changed o change token r)
  changed_mine None change token r h = h
  changed_mine (Some m) change token r h = passed_on r _ refl refl h

  notices_mine : (lead : Lead) (ns : List ℕ) (r : StepResult) → Mine r → Mine (send_notices own lead ns r)
  notices_mine lead [] r h = h
  notices_mine lead (n ∷ ns) r h = notices_mine lead ns _ (passed_on r _ refl refl h)

  beat_mine : (role : Role) (r : StepResult) → Mine r → Mine (beat_as own role r)
  beat_mine Follower r h = h
  beat_mine (Candidate granters) r h = h
  beat_mine (Leader lead) r h = notices_mine lead (other_ids own r.state.stored) r h

  lost_mine : (peer : ℕ) (role : Role) (r : StepResult) → r.state.role ≡ role → Mine r → Mine (lost_as peer role r)
  lost_mine peer Follower r e h = h
  lost_mine peer (Candidate granters) r e h = h
  lost_mine peer (Leader lead) r e h =
      either Mine (is_some (peer_of lead peer).outstanding) _ r (passed_on r _ (sym (ap seeks_or_leads e)) refl h) h

  shot_mine : (id : Option (LogId ℕ)) (r : StepResult) → Mine r → Mine (store_snapshot_at id r)
  shot_mine None r h = h
  shot_mine (Some id) r h = passed_on r _ refl refl h

  snapshot_mine : (applied : Option ℕ) (r : StepResult) → Mine r → Mine (snapshot_of_applied applied r)
  snapshot_mine None r h = h
  snapshot_mine (Some a) r h = either Mine _ r _ h (shot_mine (id_of (entry_at r.state.stored a)) r h)

  remove_mine : (id : Option (LogId ℕ)) (r : StepResult) → Mine r → Mine (remove_up_to id r)
  remove_mine None r h = h
  remove_mine (Some id) r h = passed_on r _ refl refl h

  purge_mine : (place : ℕ) (role : Role) (r : StepResult) → Mine r → Mine (purge_as place role r)
  purge_mine place Follower r h = remove_mine (id_of (entry_at r.state.stored place)) r h
  purge_mine place (Candidate granters) r h = remove_mine (id_of (entry_at r.state.stored place)) r h
  purge_mine place (Leader lead) r h =
      either Mine (nat_lt place (first_place r.state.stored)) r (with_wish (later_place r.state.wish (Some place)) r) h
      (passed_on r _ refl refl h)

  within_mine : (place : ℕ) (last : Option (LogId ℕ)) (r : StepResult) → Mine r → Mine (purge_within place last r)
  within_mine place None r h = h
  within_mine place (Some last) r h = purge_mine _ r.state.role r h

  -- a node leads on from an opening under its own vote
  dropped_follows : (last : Option (LogId ℕ)) (r : StepResult) → r.state.role ≡ Follower → (drop_stale_log last r).state.role ≡ Follower
  dropped_follows None r e = e
  dropped_follows (Some last) r e =
      either (λ q. q.state.role ≡ Follower) (is_joined_to r.state.stored last) r (store (StartAfter last) r) e e

  opened_mine : (s : GroupState) → Mine (opening_step own s.stored)
  opened_mine s =
      let last = snapshot_last s.stored in
      let placed = apply_up_to (place_of last) (drop_stale_log last (unchanged (state_of s.stored))) in
      let vote = placed.state.stored.vote in
      either_by Mine (vote.committed && vote.leader_id.node_id == own) (in_role (Leader (new_lead placed.state.stored)) placed) placed
      (λ t. record { is = λ u. eqb-true vote.leader_id.node_id own (and_parts vote.committed (vote.leader_id.node_id == own) t).1 })
      (λ t. follower placed (dropped_follows last (unchanged (state_of s.stored)) refl))

  call_mine : (call : GroupCall) (r : StepResult) → Mine r → Mine (call_step own call r)
  call_mine (Initialize m) r h = elected_mine (store (PutEntries 0 (entry_of (log_id_of 0 0 0) (Members m) ∷ [])) r)
  call_mine Elect r h = elected_mine r
  call_mine (Propose command token) r h = passed_on r _ refl refl h
  call_mine (ChangeMembership change token) r h = changed_mine (membership_in_force r.state.stored) change token r h
  call_mine Heartbeat r h = beat_mine r.state.role r h
  call_mine (Lost peer) r h = lost_mine peer r.state.role r refl h
  call_mine TriggerSnapshot r h = snapshot_mine r.state.applied r h
  call_mine (TriggerPurge place) r h = within_mine place (snapshot_last r.state.stored) r h

  body_mine : (peer : ℕ) (b : MessageBody) (r : StepResult) → Mine r → Mine (message_step own peer b r)
  body_mine peer (VoteRequest v last) r h = judged_mine peer v (may_grant r.state v last) r h
  body_mine peer (VoteReply v granted last) r h = counted_mine peer (granted && vote_eq v r.state.stored.vote) v r h
  body_mine peer (AppendRequest a) r h = heard_mine peer a (vote_lt a.vote r.state.stored.vote) r h
  body_mine peer (AppendReply a) r h = reply_mine peer a r h
  body_mine peer (SnapshotRequest v id x) r h = offered_mine peer v id x (vote_lt v r.state.stored.vote) r h
  body_mine peer (SnapshotReply a) r h = reply_mine peer a r h

  event_mine : (s : GroupState) (e : GroupEvent) → HasItsOwnVote own s → Mine (event_step own s e)
  event_mine s AddGroup h = record { is = h }
  event_mine s (Call call now) h = call_mine call (begun now s) (record { is = h })
  event_mine s (Receive peer m now) h = body_mine peer m.body (begun now s) (record { is = h })
  event_mine s Open h = opened_mine s

  -- the end of an event leaves the vote and whether the node leads
  finished_mine : (before : Option ℕ) (r : StepResult) → Mine r → (b : Bool) → is_leader r.state.role ≡ b → Mine (finished own before r)
  finished_mine before r h true t =
      let on = finished_adds own before r in
      record {
        is = λ u. ap (λ (v : Vote ℕ). v.leader_id.node_id) on.vote ∙ h.is (seeks r.state.role t);
      }
  finished_mine before r h false t = subst Mine (sym (idle_end own before r t)) h

  unless_refused : (s : GroupState) (e : GroupEvent) (why : Option RefusalReason) → HasItsOwnVote own s → HasItsOwnVote own (step_unless why own s e).state
  unless_refused s e (Some why) h = h
  unless_refused s e None h =
      (finished_mine s.committed (event_step own s e) (event_mine s e h) (is_leader (event_step own s e).state.role) refl).is

pub votes_stay_own : VotesStayOwn
votes_stay_own own s e h = unless_refused own s e (refusal_of own s e) h
