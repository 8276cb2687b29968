-- Each word by which steps are put together keeps the moment, and none refuses.
use Rattle.std.specs.Prelude.{◌≡◌, ℕ, ◌+◌, max, if◌then◌else◌, Bool, true, false, List, [], ◌∷◌, ◌++◌, Option, Some, None, refl}
use Rattle.std.proofs.Common.{◌∙◌, ap}
use Rattle.raft_values.specs.declared.vote.Vote.{Vote}
use Rattle.raft_values.specs.Vote.{vote_of}
use Rattle.raft_values.specs.declared.log_id.LogId.{LogId}
use Rattle.raft_values.specs.LogId.{log_id_of, place_of}
use Rattle.raft_state.specs.declared.entry.EntryPayload.TheVariants.{Blank, Membership as Members}
use Rattle.raft_group_step.specs.Values.{ChangeMembers, Entry, LoggedMembership, entry_of, has_id}
use Rattle.raft_group_step.specs.StoredGroup.{CutFrom, PutEntries, Snapshot, StartAfter, snapshot_last}
use Rattle.raft_group_step.specs.Message.{AppendFields, ReplyFields, ReplyResult, Success, PartialSuccess, Conflict, HigherVote, MessageBody, VoteRequest, VoteReply, AppendRequest, AppendReply, SnapshotRequest, SnapshotReply}
use Rattle.raft_group_step.specs.Peer.{PeerState}
use Rattle.raft_group_step.specs.GroupState.{GroupState, Lead, Role, Follower, Candidate, Leader, state_of}
use Rattle.raft_group_step.specs.declared.group_call.GroupCall.TheVariants.{Initialize, Elect, Propose, ChangeMembership, Heartbeat, Lost, TriggerSnapshot, TriggerPurge}
use Rattle.raft_group_step.specs.GroupEvent.{GroupCall, GroupEvent, AddGroup, Call, Receive, Open}
use Rattle.raft_group_step.specs.StepResult.{StepResult, RefusalReason, append, apply_up_to, in_role, later_place, renew, send, step_down, store, store_vote, take_over, unchanged}
use Rattle.raft_group_step.specs.Lead.{append_blank, commit_as_leader, committed_vote, lead_if, new_lead, other_ids, peer_of, purge_as_wished, remove_up_to, with_grant, with_wish}
use Rattle.raft_group_step.specs.Frames.{has_grown, notice, send_entries, send_request, send_snapshot, serve, serve_all, serve_as, with_frames, with_peer_state}
use Rattle.raft_group_step.specs.Elect.{ask, elect_step, other_voters, stand}
use Rattle.raft_group_step.specs.VoteRequest.{judged, may_grant}
use Rattle.raft_group_step.specs.VoteReply.{counted, take_over_greater}
use Rattle.raft_group_step.specs.AppendRequest.{above_committed, cut_at, cut_from, heard, joined, missing_entries, put_entries}
use Rattle.raft_group_step.specs.SnapshotRequest.{cut_other, install_unless, offered, place_above}
use Rattle.raft_group_step.specs.Reply.{after_answer, answered, ended, reply_step, with_higher_vote}
use Rattle.raft_group_step.specs.MembershipStep.{append_changed}
use Rattle.raft_group_step.specs.Heartbeat.{beat_as, send_notices}
use Rattle.raft_group_step.specs.Lost.{lost_as}
use Rattle.raft_group_step.specs.SnapshotTrigger.{snapshot_of_applied, store_snapshot_at}
use Rattle.raft_group_step.specs.PurgeTrigger.{purge_as, purge_within}
use Rattle.raft_group_step.specs.Opening.{drop_stale_log, resume_lead}
use Rattle.raft_group_step.specs.Refusal.{refusal_of}
use Rattle.raft_group_step.specs.GroupStep.{begun, call_step, event_step, finished, message_step, step_unless}
use Rattle.raft_group_step.proofs.Words.{either}
use Rattle.raft_laws.specs.Moments.{MomentsOfCalls, MomentsOfMessages, MomentsOfOpenings}
use Rattle.raft_laws.specs.Refusals.{RefusalsAreTold}

-- the moment is this one, and nothing was refused
pub record Goes (now : ℕ) (r : StepResult) : Type 0 where
  pub moment : r.state.now ≡ now
  pub taken : r.refused ≡ None

module _ (now : ℕ) where
  -- what changes neither
  on : (r q : StepResult) → q.state.now ≡ r.state.now → q.refused ≡ r.refused → Goes now r → Goes now q
  on r q e f h = record { moment = e ∙ h.moment; taken = f ∙ h.taken }

  -- ---- votes and leads

  take_over_goes : (vote : Vote ℕ) (r : StepResult) → Goes now r → Goes now (take_over vote r)
  take_over_goes vote r h = either (Goes now) _ _ _ (on r (store_vote vote (step_down r)) refl refl h) (on r (renew r) refl refl h)

  greater_goes : (vote : Vote ℕ) (r : StepResult) → Goes now r → Goes now (take_over_greater vote r)
  greater_goes vote r h = either (Goes now) _ _ _ (on r (store_vote vote (step_down r)) refl refl h) h

  blank_goes : (r : StepResult) → Goes now r → Goes now (append_blank r)
  blank_goes r h = either (Goes now) _ _ _ h (on r (append Blank r) refl refl h)

  lead_goes : (b : Bool) (r : StepResult) → Goes now r → Goes now (lead_if b r)
  lead_goes true r h =
      let led = in_role (Leader (new_lead r.state.stored)) (store_vote (committed_vote r.state.stored.vote) r) in
      blank_goes led (on r led refl refl h)
  lead_goes false r h = h

  grant_goes : (n : ℕ) (role : Role) (r : StepResult) → Goes now r → Goes now (with_grant n role r)
  grant_goes n Follower r h = h
  grant_goes n (Candidate granters) r h =
      let granted = if has_id granters n then granters else granters ++ n ∷ [] in
      let candidate = in_role (Candidate granted) r in
      lead_goes _ candidate (on r candidate refl refl h)
  grant_goes n (Leader lead) r h = h

  ask_goes : (own : ℕ) (ns : List ℕ) (r : StepResult) → Goes now r → Goes now (ask own ns r)
  ask_goes own [] r h = h
  ask_goes own (n ∷ ns) r h = ask_goes own ns _ (on r _ refl refl h)

  elect_goes : (own : ℕ) (r : StepResult) → Goes now r → Goes now (elect_step own r)
  elect_goes own r h =
      let vote = vote_of (r.state.stored.vote.leader_id.term + 1) own false in
      let candidate = in_role (Candidate []) (store_vote vote (step_down r)) in
      grant_goes own (stand own r).state.role (stand own r)
      (ask_goes own (other_voters own r.state.stored) candidate (on r candidate refl refl h))

  judged_goes : (own peer : ℕ) (vote : Vote ℕ) (b : Bool) (r : StepResult) → Goes now r → Goes now (judged own peer vote b r)
  judged_goes own peer vote true r h = on (take_over vote r) _ refl refl (take_over_goes vote r h)
  judged_goes own peer vote false r h = on r _ refl refl h

  counted_goes : (peer : ℕ) (b : Bool) (vote : Vote ℕ) (r : StepResult) → Goes now r → Goes now (counted peer b vote r)
  counted_goes peer true vote r h = grant_goes peer r.state.role r h
  counted_goes peer false vote r h = greater_goes vote r h

  -- ---- append and snapshot requests

  cut_goes : (place : ℕ) (r : StepResult) → Goes now r → Goes now (cut_from place r)
  cut_goes place r h = either (Goes now) _ _ _ (on r (store (CutFrom place) r) refl refl h) h

  cut_at_goes : (id : Option (LogId ℕ)) (r : StepResult) → Goes now r → Goes now (cut_at id r)
  cut_at_goes None r h = h
  cut_at_goes (Some id) r h = cut_goes id.index r h

  put_goes : (es : List Entry) (r : StepResult) → Goes now r → Goes now (put_entries es r)
  put_goes [] r h = h
  put_goes (e ∷ es) r h = on (cut_from e.log_id.index r) _ refl refl (cut_goes e.log_id.index r h)

  joined_goes : (own peer : ℕ) (m : AppendFields) (b : Bool) (r : StepResult) → Goes now r → Goes now (joined own peer m b r)
  joined_goes own peer m true r h =
      let fresh = missing_entries r.state.stored (above_committed r.state.committed m.entries) in
      on (put_entries fresh r) _ refl refl (put_goes fresh r h)
  joined_goes own peer m false r h = on (cut_at m.previous r) _ refl refl (cut_at_goes m.previous r h)

  heard_goes : (own peer : ℕ) (m : AppendFields) (b : Bool) (r : StepResult) → Goes now r → Goes now (heard own peer m b r)
  heard_goes own peer m true r h = on r _ refl refl h
  heard_goes own peer m false r h = joined_goes own peer m _ (take_over m.vote r) (take_over_goes m.vote r h)

  cut_other_goes : (last : LogId ℕ) (r : StepResult) → Goes now r → Goes now (cut_other last r)
  cut_other_goes last r h =
      either (Goes now) _ _ _ h (either (Goes now) _ _ _ (cut_goes (place_above r.state.committed) r h) h)

  install_goes : (b : Bool) (x : Snapshot) (r : StepResult) → Goes now r → Goes now (install_unless b x r)
  install_goes true x r h = h
  install_goes false x r h = on (cut_other x.last r) _ refl refl (cut_other_goes x.last r h)

  offered_goes : (own peer : ℕ) (vote : Vote ℕ) (id : ℕ) (x : Snapshot) (b : Bool) (r : StepResult) → Goes now r → Goes now (offered own peer vote id x b r)
  offered_goes own peer vote id x true r h = on r _ refl refl h
  offered_goes own peer vote id x false r h =
      on (install_unless _ x (take_over vote r)) _ refl refl
      (install_goes _ x (take_over vote r) (take_over_goes vote r h))

  -- ---- replies

  higher_goes : (o : ReplyResult) (r : StepResult) → Goes now r → Goes now (with_higher_vote o r)
  higher_goes Success r h = h
  higher_goes (PartialSuccess last) r h = h
  higher_goes Conflict r h = h
  higher_goes (HigherVote vote) r h = greater_goes vote r h

  answered_goes : (peer : ℕ) (m : ReplyFields) (role : Role) (r : StepResult) → Goes now r → Goes now (answered peer m role r)
  answered_goes peer m Follower r h = h
  answered_goes peer m (Candidate granters) r h = h
  answered_goes peer m (Leader lead) r h =
      either (Goes now) _ _ _ (on r (with_peer_state (after_answer (peer_of lead peer) m m.outcome) lead r) refl refl h) h

  reply_goes : (peer : ℕ) (m : ReplyFields) (r : StepResult) → Goes now r → Goes now (reply_step peer m r)
  reply_goes peer m r h =
      answered_goes peer m (with_higher_vote m.outcome r).state.role (with_higher_vote m.outcome r) (higher_goes m.outcome r h)

  message_goes : (own peer : ℕ) (b : MessageBody) (r : StepResult) → Goes now r → Goes now (message_step own peer b r)
  message_goes own peer (VoteRequest vote last) r h = judged_goes own peer vote (may_grant r.state vote last) r h
  message_goes own peer (VoteReply vote granted last) r h = counted_goes peer _ vote r h
  message_goes own peer (AppendRequest m) r h = heard_goes own peer m _ r h
  message_goes own peer (AppendReply m) r h = reply_goes peer m r h
  message_goes own peer (SnapshotRequest vote id x) r h = offered_goes own peer vote id x _ r h
  message_goes own peer (SnapshotReply m) r h = reply_goes peer m r h

  -- ---- calls

  changed_goes : (o : Option LoggedMembership) (change : ChangeMembers) (token : ℕ) (r : StepResult) → Goes now r → Goes now (append_changed o change token r)
  changed_goes None change token r h = h
  changed_goes (Some m) change token r h = on r _ refl refl h

  notices_go : (own : ℕ) (lead : Lead) (ns : List ℕ) (r : StepResult) → Goes now r → Goes now (send_notices own lead ns r)
  notices_go own lead [] r h = h
  notices_go own lead (n ∷ ns) r h = notices_go own lead ns _ (on r _ refl refl h)

  beat_goes : (own : ℕ) (role : Role) (r : StepResult) → Goes now r → Goes now (beat_as own role r)
  beat_goes own Follower r h = h
  beat_goes own (Candidate granters) r h = h
  beat_goes own (Leader lead) r h = notices_go own lead (other_ids own r.state.stored) r h

  lost_goes : (peer : ℕ) (role : Role) (r : StepResult) → Goes now r → Goes now (lost_as peer role r)
  lost_goes peer Follower r h = h
  lost_goes peer (Candidate granters) r h = h
  lost_goes peer (Leader lead) r h = either (Goes now) _ _ _ (on r (with_peer_state (ended (peer_of lead peer)) lead r) refl refl h) h

  shot_goes : (id : Option (LogId ℕ)) (r : StepResult) → Goes now r → Goes now (store_snapshot_at id r)
  shot_goes None r h = h
  shot_goes (Some id) r h = on r _ refl refl h

  snapshot_goes : (place : Option ℕ) (r : StepResult) → Goes now r → Goes now (snapshot_of_applied place r)
  snapshot_goes None r h = h
  snapshot_goes (Some place) r h = either (Goes now) _ _ _ h (shot_goes _ r h)

  remove_goes : (id : Option (LogId ℕ)) (r : StepResult) → Goes now r → Goes now (remove_up_to id r)
  remove_goes None r h = h
  remove_goes (Some id) r h = on r _ refl refl h

  purge_goes : (place : ℕ) (role : Role) (r : StepResult) → Goes now r → Goes now (purge_as place role r)
  purge_goes place Follower r h = remove_goes _ r h
  purge_goes place (Candidate granters) r h = remove_goes _ r h
  purge_goes place (Leader lead) r h = either (Goes now) _ _ _ h (on r (with_wish (later_place r.state.wish (Some place)) r) refl refl h)

  within_goes : (place : ℕ) (last : Option (LogId ℕ)) (r : StepResult) → Goes now r → Goes now (purge_within place last r)
  within_goes place None r h = h
  within_goes place (Some last) r h = purge_goes _ r.state.role r h

  call_goes : (own : ℕ) (call : GroupCall) (r : StepResult) → Goes now r → Goes now (call_step own call r)
  call_goes own (Initialize m) r h =
      elect_goes own (store (PutEntries 0 (entry_of (log_id_of 0 0 0) (Members m) ∷ [])) r) (on r _ refl refl h)
  call_goes own Elect r h = elect_goes own r h
  call_goes own (Propose command token) r h = on r _ refl refl h
  call_goes own (ChangeMembership change token) r h = changed_goes _ change token r h
  call_goes own Heartbeat r h = beat_goes own r.state.role r h
  call_goes own (Lost peer) r h = lost_goes peer r.state.role r h
  call_goes own TriggerSnapshot r h = snapshot_goes r.state.applied r h
  call_goes own (TriggerPurge place) r h = within_goes place _ r h

  -- ---- openings

  drop_goes : (last : Option (LogId ℕ)) (r : StepResult) → Goes now r → Goes now (drop_stale_log last r)
  drop_goes None r h = h
  drop_goes (Some last) r h = either (Goes now) _ _ _ h (on r (store (StartAfter last) r) refl refl h)

  resume_goes : (own : ℕ) (r : StepResult) → Goes now r → Goes now (resume_lead own r)
  resume_goes own r h = either (Goes now) _ _ _ (on r (in_role (Leader (new_lead r.state.stored)) r) refl refl h) h

  -- ---- the end of an event

  commit_goes : (own : ℕ) (role : Role) (r : StepResult) → Goes now r → Goes now (commit_as_leader own role r)
  commit_goes own Follower r h = h
  commit_goes own (Candidate granters) r h = h
  commit_goes own (Leader lead) r h = on r _ refl refl h

  wished_goes : (role : Role) (wish : Option ℕ) (r : StepResult) → Goes now r → Goes now (purge_as_wished role wish r)
  wished_goes Follower wish r h = h
  wished_goes (Candidate granters) wish r h = h
  wished_goes (Leader lead) None r h = h
  wished_goes (Leader lead) (Some place) r h =
      either (Goes now) _ _ _ h (remove_goes _ (with_wish None r) (on r (with_wish None r) refl refl h))

  request_goes : (own : ℕ) (p : PeerState) (lead : Lead) (o : Option Snapshot) (r : StepResult) → Goes now r → Goes now (send_request own p lead o r)
  request_goes own p lead None r h = on r _ refl refl h
  request_goes own p lead (Some x) r h =
      either (Goes now) _ _ _ (on r (send_snapshot own p lead x r) refl refl h) (on r (send_entries own p lead r) refl refl h)

  serve_goes : (own : ℕ) (has_news : Bool) (p : PeerState) (lead : Lead) (r : StepResult) → Goes now r → Goes now (serve own has_news p lead r)
  serve_goes own has_news p lead r h =
      either (Goes now) _ _ _ (request_goes own p lead _ r h) (either (Goes now) _ _ _ (on r (send own p.peer (notice r.state p) r) refl refl h) h)

  serve_as_goes : (own : ℕ) (has_news : Bool) (n : ℕ) (role : Role) (r : StepResult) → Goes now r → Goes now (serve_as own has_news n role r)
  serve_as_goes own has_news n Follower r h = h
  serve_as_goes own has_news n (Candidate granters) r h = h
  serve_as_goes own has_news n (Leader lead) r h = serve_goes own has_news _ lead r h

  serve_all_goes : (own : ℕ) (has_news : Bool) (ns : List ℕ) (r : StepResult) → Goes now r → Goes now (serve_all own has_news ns r)
  serve_all_goes own has_news [] r h = h
  serve_all_goes own has_news (n ∷ ns) r h = serve_all_goes own has_news ns _ (serve_as_goes own has_news n r.state.role r h)

  frames_go : (own : ℕ) (before : Option ℕ) (r : StepResult) → Goes now r → Goes now (with_frames own before r)
  frames_go own before r h =
      serve_all_goes own (has_grown before r.state.committed) (other_ids own r.state.stored) r h

  finished_goes : (own : ℕ) (before : Option ℕ) (r : StepResult) → Goes now r → Goes now (finished own before r)
  finished_goes own before r h =
      let committed = commit_as_leader own r.state.role r in
      frames_go own before _
      (wished_goes committed.state.role committed.state.wish committed (commit_goes own r.state.role r h))

-- ---- each kind of event

-- the moment that an event comes at, unless it is refused
abbrev moment_of : GroupState → GroupEvent → ℕ
moment_of s AddGroup = s.now
moment_of s (Call call now) = max s.now now
moment_of s (Receive peer m now) = max s.now now
moment_of s Open = 0

event_goes : (own : ℕ) (s : GroupState) (e : GroupEvent) → Goes (moment_of s e) (event_step own s e)
event_goes own s AddGroup = record { moment = refl; taken = refl }
event_goes own s (Call call now) = call_goes (max s.now now) own call (begun now s) (record { moment = refl; taken = refl })
event_goes own s (Receive peer m now) =
    message_goes (max s.now now) own peer m.body (begun now s) (record { moment = refl; taken = refl })
event_goes own s Open =
    let last = snapshot_last s.stored in
    let whole = unchanged (state_of s.stored) in
    let joined = drop_stale_log last whole in
    resume_goes 0 own (apply_up_to (place_of last) joined)
    (on 0 joined (apply_up_to (place_of last) joined) refl refl (drop_goes 0 last whole (record { moment = refl; taken = refl })))

-- an event that isn't refused goes on to its end
pub step_goes : (own : ℕ) (s : GroupState) (e : GroupEvent) → Goes (moment_of s e) (step_unless None own s e)
step_goes own s e = finished_goes (moment_of s e) own s.committed (event_step own s e) (event_goes own s e)

pub moments_of_calls : MomentsOfCalls
moments_of_calls own s call now goes =
    ap (λ (o : Option RefusalReason). (step_unless o own s (Call call now)).state.now) goes
    ∙ (step_goes own s (Call call now)).moment

pub moments_of_messages : MomentsOfMessages
moments_of_messages own s peer m now goes =
    ap (λ (o : Option RefusalReason). (step_unless o own s (Receive peer m now)).state.now) goes
    ∙ (step_goes own s (Receive peer m now)).moment

pub moments_of_openings : MomentsOfOpenings
moments_of_openings own s = (step_goes own s Open).moment

told_as : (own : ℕ) (s : GroupState) (e : GroupEvent) (why : Option RefusalReason) → (step_unless why own s e).refused ≡ why
told_as own s e None = (step_goes own s e).taken
told_as own s e (Some why) = refl

pub refusals_told : RefusalsAreTold
refusals_told own s e = told_as own s e (refusal_of own s e)
