-- What an event itself sends has no number: requests that are waited for go out at its end alone.
use Rattle.std.specs.Prelude.{◌≡◌, ℕ, ◌==◌, ◌&&◌, cond, is_some, nat_lt, Bool, true, false, List, [], ◌∷◌, ◌++◌, Option, Some, None, refl}
use Rattle.std.specs.List.{list_any}
use Rattle.std.proofs.Common.{sym, subst}
use Rattle.raft_values.specs.declared.vote.Vote.{Vote}
use Rattle.raft_values.specs.declared.log_id.LogId.{LogId}
use Rattle.raft_values.specs.LogId.{log_id_of, place_of}
use Rattle.raft_quorums.specs.Quorum.{is_quorum}
use Rattle.raft_state.specs.declared.entry.EntryPayload.TheVariants.{Blank, Membership as Members}
use Rattle.raft_group_step.specs.Values.{ChangeMembers, Entry, LoggedMembership, entry_of, has_id, is_written_by, vote_eq, vote_lt}
use Rattle.raft_group_step.specs.StoredGroup.{Snapshot, CutFrom, PutEntries, StartAfter, entry_at, first_place, has_id_in_log, id_of, membership_in_force, snapshot_last}
use Rattle.raft_group_step.specs.Message.{MessageBody, VoteRequest, VoteReply, AppendRequest, AppendReply, SnapshotRequest, SnapshotReply, AppendFields, ReplyFields, ReplyResult, Success, PartialSuccess, Conflict, HigherVote}
use Rattle.raft_group_step.specs.Peer.{is_answer_to}
use Rattle.raft_group_step.specs.GroupState.{GroupState, Lead, Role, Follower, Candidate, Leader, state_of}
use Rattle.raft_group_step.specs.declared.group_call.GroupCall.TheVariants.{Initialize, Elect, Propose, ChangeMembership, Heartbeat, Lost, TriggerSnapshot, TriggerPurge}
use Rattle.raft_group_step.specs.GroupEvent.{GroupCall, GroupEvent, AddGroup, Call, Receive, Open}
use Rattle.raft_group_step.specs.StepResult.{StepResult, append, apply_up_to, in_role, is_within, later_place, renew, send, step_down, store, store_vote, take_over, unchanged}
use Rattle.raft_group_step.specs.Lead.{committed_vote, configs_in_force, lead_if, new_lead, other_ids, peer_of, remove_up_to, with_grant, with_wish}
use Rattle.raft_group_step.specs.Elect.{ask, elect_step, other_voters, stand}
use Rattle.raft_group_step.specs.VoteRequest.{judged, may_grant}
use Rattle.raft_group_step.specs.VoteReply.{counted, take_over_greater}
use Rattle.raft_group_step.specs.AppendRequest.{cut_at, cut_from, heard, is_held, joined, put_entries}
use Rattle.raft_group_step.specs.SnapshotRequest.{cut_other, install_unless, offered, place_above}
use Rattle.raft_group_step.specs.Reply.{answered, reply_step, with_higher_vote}
use Rattle.raft_group_step.specs.MembershipStep.{append_changed}
use Rattle.raft_group_step.specs.Heartbeat.{beat_as, send_notices}
use Rattle.raft_group_step.specs.Lost.{lost_as}
use Rattle.raft_group_step.specs.SnapshotTrigger.{snapshot_of_applied, store_snapshot_at}
use Rattle.raft_group_step.specs.PurgeTrigger.{purge_as, purge_within}
use Rattle.raft_group_step.specs.Opening.{drop_stale_log, is_joined_to, opening_step}
use Rattle.raft_group_step.specs.GroupStep.{begun, call_step, event_step, message_step}
use Rattle.raft_group_step.proofs.Words.{either}
use Rattle.raft_step_laws.specs.Serving.{request_number}
use Rattle.raft_step_laws.proofs.PeerLists.{AllUnnumbered, unnumbered_more}

-- no message has a number
record Plain (r : StepResult) : Type 0 where
  messages : AllUnnumbered r.messages

same_plain : (r q : StepResult) → q.messages ≡ r.messages → Plain r → Plain q
same_plain r q e h = record { messages = subst AllUnnumbered (sym e) h.messages }

send_plain : (own peer : ℕ) (b : MessageBody) (r : StepResult) → request_number b ≡ None → Plain r → Plain (send own peer b r)
send_plain own peer b r e h =
    record {
      messages = unnumbered_more r.messages (record { sender = own; addressee = peer; body = b } ∷ []) h.messages (e, tt);
    }

-- ---- votes and elections

took_plain : (v : Vote ℕ) (r : StepResult) → Plain r → Plain (take_over v r)
took_plain v r h =
    either Plain (vote_lt r.state.stored.vote v) (store_vote v (step_down r)) (renew r) (same_plain r _ refl h) (same_plain r _ refl h)

greater_plain : (v : Vote ℕ) (r : StepResult) → Plain r → Plain (take_over_greater v r)
greater_plain v r h = either Plain (vote_lt r.state.stored.vote v) (store_vote v (step_down r)) r (same_plain r _ refl h) h

led_plain : (b : Bool) (r : StepResult) → Plain r → Plain (lead_if b r)
led_plain true r h =
    let q = in_role (Leader (new_lead r.state.stored)) (store_vote (committed_vote r.state.stored.vote) r) in
    either Plain (list_any (is_written_by q.state.stored.vote.leader_id) q.state.stored.log) q (append Blank q) (same_plain r q refl h) (same_plain r _ refl h)
led_plain false r h = h

granted_plain : (n : ℕ) (role : Role) (r : StepResult) → Plain r → Plain (with_grant n role r)
granted_plain n Follower r h = h
granted_plain n (Candidate granters) r h =
    let granted = cond (has_id granters n) granters (granters ++ n ∷ []) in
    led_plain (is_quorum (configs_in_force r.state.stored) (has_id granted)) (in_role (Candidate granted) r) (same_plain r _ refl h)
granted_plain n (Leader lead) r h = h

asked_plain : (own : ℕ) (ns : List ℕ) (r : StepResult) → Plain r → Plain (ask own ns r)
asked_plain own [] r h = h
asked_plain own (n ∷ ns) r h = asked_plain own ns _ (send_plain own n _ r refl h)

elected_plain : (own : ℕ) (r : StepResult) → Plain r → Plain (elect_step own r)
elected_plain own r h =
    granted_plain own (stand own r).state.role (stand own r)
    (asked_plain own (other_voters own r.state.stored) _ (same_plain r _ refl h))

judged_plain : (own peer : ℕ) (v : Vote ℕ) (b : Bool) (r : StepResult) → Plain r → Plain (judged own peer v b r)
judged_plain own peer v true r h = send_plain own peer _ (take_over v r) refl (took_plain v r h)
judged_plain own peer v false r h = send_plain own peer _ r refl h

counted_plain : (peer : ℕ) (b : Bool) (v : Vote ℕ) (r : StepResult) → Plain r → Plain (counted peer b v r)
counted_plain peer true v r h = granted_plain peer r.state.role r h
counted_plain peer false v r h = greater_plain v r h

-- ---- entries and snapshots of a leader

cut_plain : (i : ℕ) (r : StepResult) → Plain r → Plain (cut_from i r)
cut_plain i r h = either Plain (is_some (entry_at r.state.stored i)) (store (CutFrom i) r) r (same_plain r _ refl h) h

cut_at_plain : (id : Option (LogId ℕ)) (r : StepResult) → Plain r → Plain (cut_at id r)
cut_at_plain None r h = h
cut_at_plain (Some id) r h = cut_plain id.index r h

put_plain : (es : List Entry) (r : StepResult) → Plain r → Plain (put_entries es r)
put_plain [] r h = h
put_plain (e ∷ es) r h = same_plain (cut_from e.log_id.index r) _ refl (cut_plain e.log_id.index r h)

joined_plain : (own peer : ℕ) (a : AppendFields) (b : Bool) (r : StepResult) → Plain r → Plain (joined own peer a b r)
joined_plain own peer a true r h = send_plain own peer _ _ refl (same_plain (put_entries _ r) _ refl (put_plain _ r h))
joined_plain own peer a false r h = send_plain own peer _ (cut_at a.previous r) refl (cut_at_plain a.previous r h)

heard_plain : (own peer : ℕ) (a : AppendFields) (b : Bool) (r : StepResult) → Plain r → Plain (heard own peer a b r)
heard_plain own peer a true r h = send_plain own peer _ r refl h
heard_plain own peer a false r h =
    let taken = take_over a.vote r in
    joined_plain own peer a (is_held taken.state.stored taken.state.committed a.previous) taken (took_plain a.vote r h)

other_plain : (last : LogId ℕ) (r : StepResult) → Plain r → Plain (cut_other last r)
other_plain last r h =
    either Plain (has_id_in_log r.state.stored last) r _ h
    (either Plain (is_some (entry_at r.state.stored last.index)) _ r (cut_plain (place_above r.state.committed) r h) h)

unless_plain : (b : Bool) (x : Snapshot) (r : StepResult) → Plain r → Plain (install_unless b x r)
unless_plain true x r h = h
unless_plain false x r h = same_plain (cut_other x.last r) _ refl (other_plain x.last r h)

offered_plain : (own peer : ℕ) (v : Vote ℕ) (id : ℕ) (x : Snapshot) (b : Bool) (r : StepResult) → Plain r → Plain (offered own peer v id x b r)
offered_plain own peer v id x true r h = send_plain own peer _ r refl h
offered_plain own peer v id x false r h =
    let taken = take_over v r in
    let b = is_within x.last.index taken.state.committed in
    send_plain own peer _ (install_unless b x taken) refl (unless_plain b x taken (took_plain v r h))

-- ---- replies

answered_plain : (peer : ℕ) (m : ReplyFields) (role : Role) (r : StepResult) → Plain r → Plain (answered peer m role r)
answered_plain peer m Follower r h = h
answered_plain peer m (Candidate granters) r h = h
answered_plain peer m (Leader lead) r h =
    either Plain (vote_eq m.vote r.state.stored.vote && is_answer_to m (peer_of lead peer).outstanding) _ r (same_plain r _ refl h) h

higher_plain : (o : ReplyResult) (r : StepResult) → Plain r → Plain (with_higher_vote o r)
higher_plain Success r h = h
higher_plain (PartialSuccess last) r h = h
higher_plain Conflict r h = h
higher_plain (HigherVote v) r h = greater_plain v r h

reply_plain : (peer : ℕ) (m : ReplyFields) (r : StepResult) → Plain r → Plain (reply_step peer m r)
reply_plain peer m r h =
    let judged = with_higher_vote m.outcome r in answered_plain peer m judged.state.role judged (higher_plain m.outcome r h)

-- ---- calls

changed_plain : (o : Option LoggedMembership) (change : ChangeMembers) (token : ℕ) (r : StepResult) → Plain r → Plain (append_changed o change token r)
changed_plain None change token r h = h
changed_plain (Some m) change token r h = same_plain r _ refl h

notices_plain : (own : ℕ) (lead : Lead) (ns : List ℕ) (r : StepResult) → Plain r → Plain (send_notices own lead ns r)
notices_plain own lead [] r h = h
notices_plain own lead (n ∷ ns) r h = notices_plain own lead ns _ (send_plain own n _ r refl h)

beat_plain : (own : ℕ) (role : Role) (r : StepResult) → Plain r → Plain (beat_as own role r)
beat_plain own Follower r h = h
beat_plain own (Candidate granters) r h = h
beat_plain own (Leader lead) r h = notices_plain own lead (other_ids own r.state.stored) r h

lost_plain : (peer : ℕ) (role : Role) (r : StepResult) → Plain r → Plain (lost_as peer role r)
lost_plain peer Follower r h = h
lost_plain peer (Candidate granters) r h = h
lost_plain peer (Leader lead) r h = either Plain (is_some (peer_of lead peer).outstanding) _ r (same_plain r _ refl h) h

shot_plain : (id : Option (LogId ℕ)) (r : StepResult) → Plain r → Plain (store_snapshot_at id r)
shot_plain None r h = h
shot_plain (Some id) r h = same_plain r _ refl h

snapshot_plain : (applied : Option ℕ) (r : StepResult) → Plain r → Plain (snapshot_of_applied applied r)
snapshot_plain None r h = h
snapshot_plain (Some a) r h = either Plain _ r _ h (shot_plain (id_of (entry_at r.state.stored a)) r h)

remove_plain : (id : Option (LogId ℕ)) (r : StepResult) → Plain r → Plain (remove_up_to id r)
remove_plain None r h = h
remove_plain (Some id) r h = same_plain r _ refl h

purge_plain : (place : ℕ) (role : Role) (r : StepResult) → Plain r → Plain (purge_as place role r)
purge_plain place Follower r h = remove_plain (id_of (entry_at r.state.stored place)) r h
purge_plain place (Candidate granters) r h = remove_plain (id_of (entry_at r.state.stored place)) r h
purge_plain place (Leader lead) r h =
    either Plain (nat_lt place (first_place r.state.stored)) r (with_wish (later_place r.state.wish (Some place)) r) h (same_plain r _ refl h)

within_plain : (place : ℕ) (last : Option (LogId ℕ)) (r : StepResult) → Plain r → Plain (purge_within place last r)
within_plain place None r h = h
within_plain place (Some last) r h = purge_plain _ r.state.role r h

call_plain : (own : ℕ) (call : GroupCall) (r : StepResult) → Plain r → Plain (call_step own call r)
call_plain own (Initialize m) r h =
    let put = store (PutEntries 0 (entry_of (log_id_of 0 0 0) (Members m) ∷ [])) r in elected_plain own put (same_plain r put refl h)
call_plain own Elect r h = elected_plain own r h
call_plain own (Propose command token) r h = same_plain r _ refl h
call_plain own (ChangeMembership change token) r h = changed_plain (membership_in_force r.state.stored) change token r h
call_plain own Heartbeat r h = beat_plain own r.state.role r h
call_plain own (Lost peer) r h = lost_plain peer r.state.role r h
call_plain own TriggerSnapshot r h = snapshot_plain r.state.applied r h
call_plain own (TriggerPurge place) r h = within_plain place (snapshot_last r.state.stored) r h

-- ---- all events

body_plain : (own peer : ℕ) (b : MessageBody) (r : StepResult) → Plain r → Plain (message_step own peer b r)
body_plain own peer (VoteRequest v last) r h = judged_plain own peer v (may_grant r.state v last) r h
body_plain own peer (VoteReply v granted last) r h = counted_plain peer (granted && vote_eq v r.state.stored.vote) v r h
body_plain own peer (AppendRequest a) r h = heard_plain own peer a (vote_lt a.vote r.state.stored.vote) r h
body_plain own peer (AppendReply a) r h = reply_plain peer a r h
body_plain own peer (SnapshotRequest v id x) r h = offered_plain own peer v id x (vote_lt v r.state.stored.vote) r h
body_plain own peer (SnapshotReply a) r h = reply_plain peer a r h

opened_plain : (own : ℕ) (s : GroupState) → Plain (opening_step own s.stored)
opened_plain own s =
    let last = snapshot_last s.stored in
    let fresh = unchanged (state_of s.stored) in
    let placed = apply_up_to (place_of last) (drop_stale_log last fresh) in
    let vote = placed.state.stored.vote in
    let k : Plain placed = same_plain (drop_stale_log last fresh) placed refl (dropped last fresh (record { messages = tt })) in
    either Plain (vote.committed && vote.leader_id.node_id == own) (in_role (Leader (new_lead placed.state.stored)) placed) placed
    (same_plain placed _ refl k) k
  where
    dropped : (o : Option (LogId ℕ)) (r : StepResult) → Plain r → Plain (drop_stale_log o r)
    dropped None r h = h
    dropped (Some x) r h = either Plain (is_joined_to r.state.stored x) r (store (StartAfter x) r) h (same_plain r _ refl h)

event_plain : (own : ℕ) (s : GroupState) (e : GroupEvent) → Plain (event_step own s e)
event_plain own s AddGroup = record { messages = tt }
event_plain own s (Call call now) = call_plain own call (begun now s) (record { messages = tt })
event_plain own s (Receive peer m now) = body_plain own peer m.body (begun now s) (record { messages = tt })
event_plain own s Open = opened_plain own s

pub event_unnumbered : (own : ℕ) (s : GroupState) (e : GroupEvent) → AllUnnumbered (event_step own s e).messages
event_unnumbered own s e = (event_plain own s e).messages
