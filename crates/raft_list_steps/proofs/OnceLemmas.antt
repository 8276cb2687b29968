-- What an event sends accepts once at most: a request is answered once, and all else that is sent are requests.
use Rattle.std.specs.Prelude.{◌≡◌, ◌⊎◌, ℕ, ◌+◌, ◌&&◌, ◌==◌, nat_lt, if◌then◌else◌, Bool, true, false, List, [], ◌∷◌, ◌++◌, Option, Some, None, All, is_some, refl}
use Rattle.std.specs.List.{list_any}
use Rattle.std.proofs.Common.{inl, inr, sym, ap, ◌∙◌, subst}
use Rattle.std.proofs.lemmas.List.Elements.{All-append, All-head, All-nil, All-push, All-tail}
use Rattle.raft_values.specs.declared.vote.Vote.{Vote}
use Rattle.raft_values.specs.declared.log_id.LogId.{LogId}
use Rattle.raft_values.specs.LogId.{log_id_of, place_of}
use Rattle.raft_values.specs.Vote.{vote_of}
use Rattle.raft_quorums.specs.Quorum.{is_quorum}
use Rattle.raft_state.specs.declared.entry.EntryPayload.TheVariants.{Blank, Membership as Members}
use Rattle.raft_group_step.specs.Values.{ChangeMembers, LoggedMembership, entry_of, has_id, is_written_by, vote_eq, vote_lt}
use Rattle.raft_group_step.specs.StoredGroup.{StoredGroup, MakeGroup, PutEntries, StartAfter, entry_at, first_place, id_of, last_id, membership_in_force, snapshot_last}
use Rattle.raft_group_step.specs.Message.{Message, MessageBody, VoteRequest, VoteReply, AppendRequest, AppendReply, SnapshotRequest, SnapshotReply, ReplyFields, ReplyResult, Success, PartialSuccess, Conflict, HigherVote}
use Rattle.raft_group_step.specs.GroupState.{GroupState, Lead, Role, Follower, Candidate, Leader, state_of}
use Rattle.raft_group_step.specs.declared.group_call.GroupCall.TheVariants.{Initialize, Elect, Propose, ChangeMembership, Heartbeat, Lost, TriggerSnapshot, TriggerPurge}
use Rattle.raft_group_step.specs.GroupEvent.{GroupCall, GroupEvent, AddGroup, Call, Receive, Open}
use Rattle.raft_group_step.specs.StepResult.{StepResult, RefusalReason, append, apply_up_to, in_role, later_place, send, step_down, store, store_vote, unchanged}
use Rattle.raft_group_step.specs.Refusal.{refusal_of}
use Rattle.raft_group_step.specs.Elect.{ask, elect_step, other_voters, stand}
use Rattle.raft_group_step.specs.VoteReply.{counted, take_over_greater}
use Rattle.raft_group_step.specs.Reply.{after_answer, answered, ended, reply_step, with_higher_vote}
use Rattle.raft_group_step.specs.Peer.{is_answer_to}
use Rattle.raft_group_step.specs.MembershipStep.{append_changed}
use Rattle.raft_group_step.specs.Heartbeat.{beat_as, send_notices}
use Rattle.raft_group_step.specs.Lost.{lost_as}
use Rattle.raft_group_step.specs.Lead.{committed_vote, configs_in_force, lead_if, new_lead, other_ids, peer_of, remove_up_to, with_grant, with_wish}
use Rattle.raft_group_step.specs.Frames.{notice, with_peer_state}
use Rattle.raft_group_step.specs.SnapshotTrigger.{snapshot_of_applied, store_snapshot_at}
use Rattle.raft_group_step.specs.PurgeTrigger.{purge_as, purge_within}
use Rattle.raft_group_step.specs.Opening.{drop_stale_log, is_joined_to, opening_step}
use Rattle.raft_group_step.specs.GroupStep.{begun, call_step, event_step, finished, group_step, message_step, step_unless}
use Rattle.raft_group_step.proofs.Words.{either}
use Rattle.raft_step_laws.specs.Replies.{is_request}
use Rattle.raft_step_laws.proofs.Answering.{requests_answered}
use Rattle.raft_step_laws.proofs.Sending.{AsksReply, finished_adds}
use Rattle.raft_laws.specs.GroupWorld.{NodeState, Absent, Up, Down}
use Rattle.raft_laws.specs.NodeEvent.{NodeEvent, Comes, Crashes, Halts, Restarts, outcome_at, outcome_of_end, outcome_of_step, outcome_of_stop}
use Rattle.raft_laws.specs.GroupRun.{Scene, Nowhere, At, outcome_in, scene_of, sent_in}
use Rattle.raft_list_facts.specs.Accepting.{accepted_in}
use Rattle.raft_list_facts.specs.declared.acceptance.Acceptance.{Acceptance}
use Rattle.raft_list_steps.specs.Reports.{AcceptsOnce, EventsAcceptOnce, OpeningsAcceptNothing, accepted_by, listed}

-- ---- requests accept nothing

request_accepts_none : (b : MessageBody) → is_request b ≡ true → accepted_in b ≡ None
request_accepts_none (VoteRequest vote last) is = refl
request_accepts_none (VoteReply vote granted last) is = absurd (let no : false ≡ true = is in cc)
request_accepts_none (AppendRequest m) is = refl
request_accepts_none (AppendReply m) is = absurd (let no : false ≡ true = is in cc)
request_accepts_none (SnapshotRequest vote id snapshot) is = refl
request_accepts_none (SnapshotReply m) is = absurd (let no : false ≡ true = is in cc)

requests_accept_none : (ms : List Message) → All AsksReply ms → accepted_by ms ≡ []
requests_accept_none [] h = refl
requests_accept_none (m ∷ ms) h =
    ap (λ (o : Option Acceptance). listed o ++ accepted_by ms) (request_accepts_none m.body (All-head AsksReply m ms h))
    ∙ requests_accept_none ms (All-tail AsksReply m ms h)

one_at_most : (o : Option Acceptance) (rest : List Acceptance) → rest ≡ [] → ((listed o ++ rest) ≡ []) ⊎ ((x : Acceptance) × ((listed o ++ rest) ≡ x ∷ []))
one_at_most None rest none = inl none
one_at_most (Some x) rest none = inr (x, ap (λ (xs : List Acceptance). x ∷ xs) none)

-- ---- words that send requests alone

record Asks (r : StepResult) : Type 0 where
  all : All AsksReply r.messages

same_asks : (r q : StepResult) → q.messages ≡ r.messages → Asks r → Asks q
same_asks r q e h = record { all = subst (All AsksReply) (sym e) h.all }

send_asks : (own peer : ℕ) (b : MessageBody) (r : StepResult) → is_request b ≡ true → Asks r → Asks (send own peer b r)
send_asks own peer b r is h = record { all = All-push AsksReply r.messages (record { sender = own; addressee = peer; body = b }) h.all is }

ask_asks : (own : ℕ) (ns : List ℕ) (r : StepResult) → Asks r → Asks (ask own ns r)
ask_asks own [] r h = h
ask_asks own (n ∷ ns) r h =
    let b = VoteRequest r.state.stored.vote (last_id r.state.stored) in
    ask_asks own ns (send own n b r) (send_asks own n b r refl h)

lead_asks : (b : Bool) (r : StepResult) → Asks r → Asks (lead_if b r)
lead_asks true r h =
    let q = in_role (Leader (new_lead r.state.stored)) (store_vote (committed_vote r.state.stored.vote) r) in
    either Asks (list_any (is_written_by q.state.stored.vote.leader_id) q.state.stored.log) q (append Blank q) (same_asks r q refl h) (same_asks r (append Blank q) refl h)
lead_asks false r h = h

grant_asks : (n : ℕ) (role : Role) (r : StepResult) → Asks r → Asks (with_grant n role r)
grant_asks n Follower r h = h
grant_asks n (Candidate granters) r h =
    let granted = if has_id granters n then granters else granters ++ n ∷ [] in
    let q = in_role (Candidate granted) r in
    lead_asks (is_quorum (configs_in_force r.state.stored) (has_id granted)) q (same_asks r q refl h)
grant_asks n (Leader lead) r h = h

elect_asks : (own : ℕ) (r : StepResult) → Asks r → Asks (elect_step own r)
elect_asks own r h =
    let stood = stand own r in
    let q = in_role (Candidate []) (store_vote (vote_of (r.state.stored.vote.leader_id.term + 1) own false) (step_down r)) in
    grant_asks own stood.state.role stood (ask_asks own (other_voters own r.state.stored) q (same_asks r q refl h))

changed_asks : (m : Option LoggedMembership) (change : ChangeMembers) (token : ℕ) (r : StepResult) → Asks r → Asks (append_changed m change token r)
changed_asks None change token r h = h
changed_asks (Some m) change token r h = same_asks r _ refl h

notices_ask : (own : ℕ) (lead : Lead) (ns : List ℕ) (r : StepResult) → Asks r → Asks (send_notices own lead ns r)
notices_ask own lead [] r h = h
notices_ask own lead (n ∷ ns) r h =
    let b = notice r.state (peer_of lead n) in
    notices_ask own lead ns (send own n b r) (send_asks own n b r refl h)

beat_asks : (own : ℕ) (role : Role) (r : StepResult) → Asks r → Asks (beat_as own role r)
beat_asks own Follower r h = h
beat_asks own (Candidate granters) r h = h
beat_asks own (Leader lead) r h = notices_ask own lead (other_ids own r.state.stored) r h

lost_asks : (peer : ℕ) (role : Role) (r : StepResult) → Asks r → Asks (lost_as peer role r)
lost_asks peer Follower r h = h
lost_asks peer (Candidate granters) r h = h
lost_asks peer (Leader lead) r h =
    let p = peer_of lead peer in
    let q = with_peer_state (ended p) lead r in
    either Asks (is_some p.outstanding) q r (same_asks r q refl h) h

stored_asks : (id : Option (LogId ℕ)) (r : StepResult) → Asks r → Asks (store_snapshot_at id r)
stored_asks None r h = h
stored_asks (Some id) r h = same_asks r _ refl h

snapshot_asks : (applied : Option ℕ) (r : StepResult) → Asks r → Asks (snapshot_of_applied applied r)
snapshot_asks None r h = h
snapshot_asks (Some applied) r h = either Asks _ _ _ h (stored_asks (id_of (entry_at r.state.stored applied)) r h)

remove_asks : (id : Option (LogId ℕ)) (r : StepResult) → Asks r → Asks (remove_up_to id r)
remove_asks None r h = h
remove_asks (Some id) r h = same_asks r _ refl h

purge_asks : (place : ℕ) (role : Role) (r : StepResult) → Asks r → Asks (purge_as place role r)
purge_asks place Follower r h = remove_asks (id_of (entry_at r.state.stored place)) r h
purge_asks place (Candidate granters) r h = remove_asks (id_of (entry_at r.state.stored place)) r h
purge_asks place (Leader lead) r h =
    let q = with_wish (later_place r.state.wish (Some place)) r in
    either Asks (nat_lt place (first_place r.state.stored)) r q h (same_asks r q refl h)

within_asks : (place : ℕ) (last : Option (LogId ℕ)) (r : StepResult) → Asks r → Asks (purge_within place last r)
within_asks place None r h = h
within_asks place (Some last) r h = purge_asks _ r.state.role r h

call_asks : (own : ℕ) (call : GroupCall) (r : StepResult) → Asks r → Asks (call_step own call r)
call_asks own (Initialize m) r h =
    let q = store (PutEntries 0 (entry_of (log_id_of 0 0 0) (Members m) ∷ [])) r in elect_asks own q (same_asks r q refl h)
call_asks own Elect r h = elect_asks own r h
call_asks own (Propose command token) r h = same_asks r _ refl h
call_asks own (ChangeMembership change token) r h = changed_asks (membership_in_force r.state.stored) change token r h
call_asks own Heartbeat r h = beat_asks own r.state.role r h
call_asks own (Lost peer) r h = lost_asks peer r.state.role r h
call_asks own TriggerSnapshot r h = snapshot_asks r.state.applied r h
call_asks own (TriggerPurge place) r h = within_asks place (snapshot_last r.state.stored) r h

greater_asks : (vote : Vote ℕ) (r : StepResult) → Asks r → Asks (take_over_greater vote r)
greater_asks vote r h =
    let q = store_vote vote (step_down r) in either Asks (vote_lt r.state.stored.vote vote) q r (same_asks r q refl h) h

counted_asks : (peer : ℕ) (b : Bool) (vote : Vote ℕ) (r : StepResult) → Asks r → Asks (counted peer b vote r)
counted_asks peer true vote r h = grant_asks peer r.state.role r h
counted_asks peer false vote r h = greater_asks vote r h

higher_asks : (outcome : ReplyResult) (r : StepResult) → Asks r → Asks (with_higher_vote outcome r)
higher_asks Success r h = h
higher_asks (PartialSuccess last) r h = h
higher_asks Conflict r h = h
higher_asks (HigherVote vote) r h = greater_asks vote r h

answered_asks : (peer : ℕ) (m : ReplyFields) (role : Role) (r : StepResult) → Asks r → Asks (answered peer m role r)
answered_asks peer m Follower r h = h
answered_asks peer m (Candidate granters) r h = h
answered_asks peer m (Leader lead) r h =
    let p = peer_of lead peer in
    let q = with_peer_state (after_answer p m m.outcome) lead r in
    either Asks (vote_eq m.vote r.state.stored.vote && is_answer_to m p.outstanding) q r (same_asks r q refl h) h

reply_asks : (peer : ℕ) (m : ReplyFields) (r : StepResult) → Asks r → Asks (reply_step peer m r)
reply_asks peer m r h =
    let judged = with_higher_vote m.outcome r in answered_asks peer m judged.state.role judged (higher_asks m.outcome r h)

message_asks : (own peer : ℕ) (b : MessageBody) (r : StepResult) → is_request b ≡ false → Asks r → Asks (message_step own peer b r)
message_asks own peer (VoteRequest vote last) r other h = absurd (let e : true ≡ false = other in cc)
message_asks own peer (VoteReply vote granted last) r other h = counted_asks peer (granted && vote_eq vote r.state.stored.vote) vote r h
message_asks own peer (AppendRequest m) r other h = absurd (let e : true ≡ false = other in cc)
message_asks own peer (AppendReply m) r other h = reply_asks peer m r h
message_asks own peer (SnapshotRequest vote id snapshot) r other h = absurd (let e : true ≡ false = other in cc)
message_asks own peer (SnapshotReply m) r other h = reply_asks peer m r h

stale_asks : (last : Option (LogId ℕ)) (r : StepResult) → Asks r → Asks (drop_stale_log last r)
stale_asks None r h = h
stale_asks (Some last) r h =
    let q = store (StartAfter last) r in either Asks (is_joined_to r.state.stored last) r q h (same_asks r q refl h)

nothing_asks : (s : GroupState) → Asks (unchanged s)
nothing_asks s = record { all = All-nil AsksReply }

opening_asks : (own : ℕ) (st : StoredGroup) → Asks (opening_step own st)
opening_asks own st =
    let kept = drop_stale_log (snapshot_last st) (unchanged (state_of st)) in
    let h = stale_asks (snapshot_last st) (unchanged (state_of st)) (nothing_asks (state_of st)) in
    let applied = apply_up_to (place_of (snapshot_last st)) kept in
    let led = in_role (Leader (new_lead applied.state.stored)) applied in
    let vote = applied.state.stored.vote in
    either Asks (vote.committed && vote.leader_id.node_id == own) led applied (same_asks kept led refl h) (same_asks kept applied refl h)

-- ---- the whole step

ended_none : (own : ℕ) (before : Option ℕ) (r : StepResult) → Asks r → accepted_by (finished own before r).messages ≡ []
ended_none own before r h =
    let on = finished_adds own before r in
    ap accepted_by on.added ∙ requests_accept_none (r.messages ++ on.more) (All-append AsksReply r.messages on.more h.all on.requests)

ended_asks : (own : ℕ) (before : Option ℕ) (r : StepResult) → Asks r → AcceptsOnce (finished own before r).messages
ended_asks own before r h = inl (ended_none own before r h)

taken_once : (own : ℕ) (s : GroupState) (e : GroupEvent) → refusal_of own s e ≡ None → AcceptsOnce (group_step own s e).messages
taken_once own s e taken = subst (λ (o : Option RefusalReason). AcceptsOnce (step_unless o own s e).messages) (sym taken) (by_event e taken)
  where
    by_message : (peer : ℕ) (m : Message) (now : ℕ) → refusal_of own s (Receive peer m now) ≡ None → (b : Bool) → is_request m.body ≡ b → AcceptsOnce (finished own s.committed (event_step own s (Receive peer m now))).messages
    by_message peer m now passed true asks =
        let answer = requests_answered own s peer m now passed asks in
        let step : (group_step own s (Receive peer m now)).messages ≡ (finished own s.committed (event_step own s (Receive peer m now))).messages =
        ap (λ (o : Option RefusalReason). (step_unless o own s (Receive peer m now)).messages) passed
        in
        subst AcceptsOnce (sym answer.first ∙ step) (one_at_most (accepted_in answer.reply) (accepted_by answer.rest) (requests_accept_none answer.rest answer.one_reply))
    by_message peer m now passed false other =
        ended_asks own s.committed _ (message_asks own peer m.body (begun now s) other (nothing_asks (begun now s).state))

    by_event : (g : GroupEvent) → refusal_of own s g ≡ None → AcceptsOnce (finished own s.committed (event_step own s g)).messages
    by_event AddGroup passed = ended_asks own s.committed _ (same_asks (unchanged s) (store MakeGroup (unchanged s)) refl (nothing_asks s))
    by_event (Call call now) passed = ended_asks own s.committed _ (call_asks own call (begun now s) (nothing_asks (begun now s).state))
    by_event (Receive peer m now) passed = by_message peer m now passed (is_request m.body) refl
    by_event Open passed = ended_asks own s.committed _ (opening_asks own s.stored)

ended_once : (own : ℕ) (s : GroupState) (e : GroupEvent) (b : Bool) → AcceptsOnce (sent_in (outcome_of_step b s e (group_step own s e)))
ended_once own s e b = go (refusal_of own s e) refl b
  where
    go : (o : Option RefusalReason) → refusal_of own s e ≡ o → (stops : Bool) → AcceptsOnce (sent_in (outcome_of_step stops s e (group_step own s e)))
    go o is true = stopped (group_step own s e).refused
      where
        stopped : (p : Option RefusalReason) → AcceptsOnce (sent_in (outcome_of_stop s e (group_step own s e) p))
        stopped None = inl refl
        stopped (Some why) = inl refl
    go o is false = ran (group_step own s e).refused
      where
        once : (p : Option RefusalReason) → refusal_of own s e ≡ p → AcceptsOnce (group_step own s e).messages
        once None passed = taken_once own s e passed
        once (Some why) why_not = subst (λ (q : Option RefusalReason). AcceptsOnce (step_unless q own s e).messages) (sym why_not) (inl refl)

        ran : (p : Option RefusalReason) → AcceptsOnce (sent_in (outcome_of_end (group_step own s e) p))
        ran None = once o is
        ran (Some why) = inl refl

at_once : (n : ℕ) (at : NodeEvent) (b : Bool) (state : NodeState) → AcceptsOnce (sent_in (outcome_at n at b state))
at_once n at b Absent = inl refl
at_once n (Comes e) b (Up s) = ended_once n s e b
at_once n Crashes b (Up s) = inl refl
at_once n Halts b (Up s) = inl refl
at_once n Restarts b (Up s) = inl refl
at_once n (Comes e) b (Down stored) = inl refl
at_once n Crashes b (Down stored) = inl refl
at_once n Halts b (Down stored) = inl refl
at_once n Restarts b (Down stored) = ended_once n (state_of stored) Open b

pub events_accept_once : EventsAcceptOnce
events_accept_once w e b = in_scene (scene_of w e)
  where
    in_scene : (scene : Scene) → AcceptsOnce (sent_in (outcome_in w b scene))
    in_scene Nowhere = inl refl
    in_scene (At n at) = at_once n at b (w.nodes n)

-- ---- an opening

opened_none : (own : ℕ) (stored : StoredGroup) (b : Bool) → accepted_by (sent_in (outcome_of_step b (state_of stored) Open (group_step own (state_of stored) Open))) ≡ []
opened_none own stored true = stopped (group_step own (state_of stored) Open).refused
  where
    stopped : (p : Option RefusalReason) → accepted_by (sent_in (outcome_of_stop (state_of stored) Open (group_step own (state_of stored) Open) p)) ≡ []
    stopped None = refl
    stopped (Some why) = refl
opened_none own stored false = ran (group_step own (state_of stored) Open).refused
  where
    by : (o : Option RefusalReason) → refusal_of own (state_of stored) Open ≡ o → accepted_by (group_step own (state_of stored) Open).messages ≡ []
    by None passed =
        subst (λ (o : Option RefusalReason). accepted_by (step_unless o own (state_of stored) Open).messages ≡ []) (sym passed)
        (ended_none own (state_of stored).committed _ (opening_asks own stored))
    by (Some why) refused = subst (λ (o : Option RefusalReason). accepted_by (step_unless o own (state_of stored) Open).messages ≡ []) (sym refused) refl

    ran : (p : Option RefusalReason) → accepted_by (sent_in (outcome_of_end (group_step own (state_of stored) Open) p)) ≡ []
    ran None = by (refusal_of own (state_of stored) Open) refl
    ran (Some why) = refl

opened_at : (n : ℕ) (b : Bool) (state : NodeState) → accepted_by (sent_in (outcome_at n Restarts b state)) ≡ []
opened_at n b Absent = refl
opened_at n b (Up s) = refl
opened_at n b (Down stored) = opened_none n stored b

pub openings_accept_nothing : OpeningsAcceptNothing
openings_accept_nothing w n b = opened_at n b (w.nodes n)
