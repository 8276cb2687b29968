-- No node's stored vote is below one that it sent or answered as its own.
use Rattle.std.specs.Prelude.{◌≡◌, ℕ, ◌+◌, ◌==◌, Bool, true, false, List, [], ◌∷◌, ◌++◌, if◌then◌else◌, Option, Some, None, refl}
use Rattle.std.proofs.Common.{sym, ap, ◌∙◌, subst, arith, ⊎_elim, eq-eqb}
use Rattle.raft_values.specs.declared.vote.Vote.{Vote}
use Rattle.raft_values.specs.Vote.{vote_of}
use Rattle.raft_values.specs.declared.log_id.LogId.{LogId}
use Rattle.raft_values.specs.LogId.{log_id_of}
use Rattle.raft_group_step.specs.Values.{Entry, LoggedMembership, ChangeMembers, entry_of, has_id, vote_lt}
use Rattle.raft_state.specs.declared.entry.EntryPayload.TheVariants.{Blank, Membership as Members}
use Rattle.raft_group_step.specs.StoredGroup.{StoredGroup, Snapshot, CutFrom, PutEntries, StartAfter, entry_at, id_of, snapshot_last}
use Rattle.raft_group_step.specs.Message.{Message, MessageBody, VoteRequest, VoteReply, AppendRequest, AppendReply, SnapshotRequest, SnapshotReply, AppendFields, ReplyFields, ReplyResult, Success, PartialSuccess, Conflict, HigherVote}
use Rattle.raft_group_step.specs.Peer.{PeerState}
use Rattle.raft_group_step.specs.GroupState.{GroupState, Lead, Role, Follower, Candidate, Leader, state_of}
use Rattle.raft_group_step.specs.declared.group_call.GroupCall.TheVariants.{Initialize, Elect, Propose, ChangeMembership, Heartbeat, Lost, TriggerSnapshot, TriggerPurge}
use Rattle.raft_group_step.specs.GroupEvent.{GroupCall, GroupEvent, AddGroup, Call, Receive, Open}
use Rattle.raft_group_step.specs.StepResult.{StepResult, RefusalReason, append, in_role, is_within, later_place, send, store, step_down, store_vote, take_over, unchanged}
use Rattle.raft_group_step.specs.Elect.{ask, stand, elect_step, other_voters}
use Rattle.raft_group_step.specs.VoteRequest.{judged, may_grant}
use Rattle.raft_group_step.specs.VoteReply.{counted, take_over_greater}
use Rattle.raft_group_step.specs.AppendRequest.{above_committed, cut_at, cut_from, heard, joined, missing_entries, put_entries}
use Rattle.raft_group_step.specs.SnapshotRequest.{cut_other, install_unless, offered, place_above}
use Rattle.raft_group_step.specs.Reply.{after_answer, answered, ended, reply_step, with_higher_vote}
use Rattle.raft_group_step.specs.MembershipStep.{append_changed}
use Rattle.raft_group_step.specs.Heartbeat.{beat_as, send_notices}
use Rattle.raft_group_step.specs.Lost.{lost_as}
use Rattle.raft_group_step.specs.Lead.{begin_lead, commit_as_leader, committed_vote, lead_if, new_lead, other_ids, peer_of, purge_as_wished, remove_up_to, with_grant, with_wish}
use Rattle.raft_group_step.specs.Frames.{has_grown, send_entries, send_request, send_snapshot, with_peer_state, serve, serve_all, serve_as}
use Rattle.raft_group_step.specs.SnapshotTrigger.{snapshot_of_applied, store_snapshot_at}
use Rattle.raft_group_step.specs.PurgeTrigger.{purge_as, purge_within}
use Rattle.raft_group_step.specs.Opening.{drop_stale_log, resume_lead}
use Rattle.raft_group_step.specs.Refusal.{refusal_of}
use Rattle.raft_group_step.specs.GroupStep.{begun, call_step, event_step, finished, group_step, message_step, step_unless}
use Rattle.raft_group_step.proofs.Words.{either, either_by}
use Rattle.raft_group_step.proofs.Votes.{not_below_itself}
use Rattle.raft_laws.specs.declared.world_event.WorldEvent.{WorldEvent}
use Rattle.raft_laws.specs.GroupWorld.{GroupWorld, NodeState, Absent, Up, Down, Outcome, Recorded, is_stop, new_world, state_or}
use Rattle.raft_laws.specs.NodeEvent.{NodeEvent, Comes, Crashes, Halts, Restarts, after_step, outcome_at, outcome_of_end, outcome_of_stop, state_after}
use Rattle.raft_laws.specs.GroupRun.{Scene, Nowhere, At, Replays, after_scene, happens, outcome_in, scene_of, sent_in, stop_at}
use Rattle.raft_laws.specs.VotesRise.{SentVoteKept, SentVotesStay, own_vote, stored_of}
use Rattle.raft_laws.proofs.BallotSafe.{Among, among_at}
use Rattle.raft_laws.proofs.Counts.{contains_at}
use Rattle.raft_laws.proofs.VoteOrders.{committed_not_below, later_term_not_below, not_below}
use Rattle.raft_laws.proofs.VotesRise.{not_below_again, scene_gives}
use Rattle.raft_laws.proofs.WorldRuns.{among_either}

-- each of the messages is this node's, and tells a vote as its own that isn't above this one
abbrev AllTell : ℕ → Vote ℕ → List Message → Type 0
AllTell own vote [] = Unit {0}
AllTell own vote (m ∷ ms) = (m.sender ≡ own) × (vote_lt vote (own_vote m.body) ≡ false) × AllTell own vote ms

tell_more : (own : ℕ) (vote : Vote ℕ) (ms : List Message) (m : Message) → AllTell own vote ms → m.sender ≡ own → vote_lt vote (own_vote m.body) ≡ false → AllTell own vote (ms ++ m ∷ [])
tell_more own vote [] m h is low = (is, low, tt)
tell_more own vote (x ∷ ms) m h is low = (h.0, h.1, tell_more own vote ms m h.2 is low)

tell_later : (own : ℕ) (before vote : Vote ℕ) (ms : List Message) → AllTell own before ms → vote_lt vote before ≡ false → AllTell own vote ms
tell_later own before vote [] h up = tt
tell_later own before vote (m ∷ ms) h up = (h.0, not_below_again (own_vote m.body) before vote h.1 up, tell_later own before vote ms h.2 up)

tells_so : (own : ℕ) (vote : Vote ℕ) (ms : List Message) (m : Message) → AllTell own vote ms → Among m ms → (m.sender ≡ own) × (vote_lt vote (own_vote m.body) ≡ false)
tells_so own vote [] m h a = absurd a
tells_so own vote (x ∷ ms) m h a =
    ⊎_elim
    (λ e. (ap (λ (y : Message). y.sender) e ∙ h.0, ap (λ (y : Message). vote_lt vote (own_vote y.body)) e ∙ h.1))
    (λ rest. tells_so own vote ms m h.2 rest)
    a

-- ---- words that store no vote and send nothing

-- it holds of the vote that a step has stored so far, and of what it has sent
record HoldsOf (Q : Vote ℕ → List Message → Type 0) (r : StepResult) : Type 0 where
  holds : Q r.state.stored.vote r.messages

module _ (Q : Vote ℕ → List Message → Type 0) where
  pass : (r q : StepResult) → q.state.stored.vote ≡ r.state.stored.vote → q.messages ≡ r.messages → HoldsOf Q r → HoldsOf Q q
  pass r q v m h = record { holds = subst (λ x. Q x q.messages) (sym v) (subst (Q r.state.stored.vote) (sym m) h.holds) }

  cut_from-quiet : (i : ℕ) (r : StepResult) → HoldsOf Q r → HoldsOf Q (cut_from i r)
  cut_from-quiet i r h = either (HoldsOf Q) _ _ _ (pass r (store (CutFrom i) r) refl refl h) h

  cut_at-quiet : (id : Option (LogId ℕ)) (r : StepResult) → HoldsOf Q r → HoldsOf Q (cut_at id r)
  cut_at-quiet None r h = h
  cut_at-quiet (Some id) r h = cut_from-quiet id.index r h

  put-quiet : (es : List Entry) (r : StepResult) → HoldsOf Q r → HoldsOf Q (put_entries es r)
  put-quiet [] r h = h
  put-quiet (e ∷ es) r h = pass (cut_from e.log_id.index r) _ refl refl (cut_from-quiet e.log_id.index r h)

  cut_other-quiet : (last : LogId ℕ) (r : StepResult) → HoldsOf Q r → HoldsOf Q (cut_other last r)
  cut_other-quiet last r h =
      either (HoldsOf Q) _ _ _ h (either (HoldsOf Q) _ _ _ (cut_from-quiet (place_above r.state.committed) r h) h)

  install-quiet : (b : Bool) (x : Snapshot) (r : StepResult) → HoldsOf Q r → HoldsOf Q (install_unless b x r)
  install-quiet true x r h = h
  install-quiet false x r h = pass (cut_other x.last r) _ refl refl (cut_other-quiet x.last r h)

  remove-quiet : (id : Option (LogId ℕ)) (r : StepResult) → HoldsOf Q r → HoldsOf Q (remove_up_to id r)
  remove-quiet None r h = h
  remove-quiet (Some id) r h = pass r _ refl refl h

  answered-quiet : (peer : ℕ) (m : ReplyFields) (role : Role) (r : StepResult) → HoldsOf Q r → HoldsOf Q (answered peer m role r)
  answered-quiet peer m Follower r h = h
  answered-quiet peer m (Candidate g) r h = h
  answered-quiet peer m (Leader lead) r h =
      either (HoldsOf Q) _ _ _ (pass r (with_peer_state (after_answer (peer_of lead peer) m m.outcome) lead r) refl refl h) h

  changed-quiet : (m : Option LoggedMembership) (c : ChangeMembers) (token : ℕ) (r : StepResult) → HoldsOf Q r → HoldsOf Q (append_changed m c token r)
  changed-quiet None c token r h = h
  changed-quiet (Some m) c token r h = pass r _ refl refl h

  lost-quiet : (peer : ℕ) (role : Role) (r : StepResult) → HoldsOf Q r → HoldsOf Q (lost_as peer role r)
  lost-quiet peer Follower r h = h
  lost-quiet peer (Candidate g) r h = h
  lost-quiet peer (Leader lead) r h = either (HoldsOf Q) _ _ _ (pass r (with_peer_state (ended (peer_of lead peer)) lead r) refl refl h) h

  snapshot_at-quiet : (id : Option (LogId ℕ)) (r : StepResult) → HoldsOf Q r → HoldsOf Q (store_snapshot_at id r)
  snapshot_at-quiet None r h = h
  snapshot_at-quiet (Some id) r h = pass r _ refl refl h

  snapshot-quiet : (a : Option ℕ) (r : StepResult) → HoldsOf Q r → HoldsOf Q (snapshot_of_applied a r)
  snapshot-quiet None r h = h
  snapshot-quiet (Some a) r h = either (HoldsOf Q) _ _ _ h (snapshot_at-quiet _ r h)

  purge_as-quiet : (i : ℕ) (role : Role) (r : StepResult) → HoldsOf Q r → HoldsOf Q (purge_as i role r)
  purge_as-quiet i Follower r h = remove-quiet _ r h
  purge_as-quiet i (Candidate g) r h = remove-quiet _ r h
  purge_as-quiet i (Leader lead) r h = either (HoldsOf Q) _ _ _ h (pass r (with_wish (later_place r.state.wish (Some i)) r) refl refl h)

  purge_within-quiet : (i : ℕ) (last : Option (LogId ℕ)) (r : StepResult) → HoldsOf Q r → HoldsOf Q (purge_within i last r)
  purge_within-quiet i None r h = h
  purge_within-quiet i (Some last) r h = purge_as-quiet _ r.state.role r h

  drop-quiet : (last : Option (LogId ℕ)) (r : StepResult) → HoldsOf Q r → HoldsOf Q (drop_stale_log last r)
  drop-quiet None r h = h
  drop-quiet (Some last) r h = either (HoldsOf Q) _ _ _ h (pass r (store (StartAfter last) r) refl refl h)

  commit-quiet : (own : ℕ) (role : Role) (r : StepResult) → HoldsOf Q r → HoldsOf Q (commit_as_leader own role r)
  commit-quiet own Follower r h = h
  commit-quiet own (Candidate g) r h = h
  commit-quiet own (Leader lead) r h = pass r _ refl refl h

  wished-quiet : (role : Role) (wish : Option ℕ) (r : StepResult) → HoldsOf Q r → HoldsOf Q (purge_as_wished role wish r)
  wished-quiet Follower wish r h = h
  wished-quiet (Candidate g) wish r h = h
  wished-quiet (Leader lead) None r h = h
  wished-quiet (Leader lead) (Some place) r h =
      either (HoldsOf Q) _ _ _ h (remove-quiet (id_of (entry_at r.state.stored place)) (with_wish None r) (pass r (with_wish None r) refl refl h))

-- ---- words that store a vote or send

-- a vote that was taken over isn't above the one then in force
abbrev Took : ℕ → Vote ℕ → Vote ℕ → List Message → Type 0
Took own v vote ms = AllTell own vote ms × (vote_lt vote v ≡ false)

module _ (own : ℕ) where
  abbrev Tells : StepResult → Type 0
  Tells r = HoldsOf (AllTell own) r

  send-tells : (peer : ℕ) (b : MessageBody) (r : StepResult) → Tells r → vote_lt r.state.stored.vote (own_vote b) ≡ false → Tells (send own peer b r)
  send-tells peer b r h low = record { holds = tell_more own r.state.stored.vote r.messages _ h.holds refl low }

  -- what tells the vote in force
  own-tells : (peer : ℕ) (b : MessageBody) (r : StepResult) → own_vote b ≡ r.state.stored.vote → Tells r → Tells (send own peer b r)
  own-tells peer b r is h = send-tells peer b r h (ap (vote_lt r.state.stored.vote) is ∙ not_below_itself r.state.stored.vote)

  store_vote-tells : (v : Vote ℕ) (r : StepResult) → Tells r → vote_lt v r.state.stored.vote ≡ false → Tells (store_vote v r)
  store_vote-tells v r h up = record { holds = tell_later own r.state.stored.vote v r.messages h.holds up }

  down-tells : (r : StepResult) → Tells r → Tells (step_down r)
  down-tells r h = pass (AllTell own) r _ refl refl h

  greater-tells : (v : Vote ℕ) (r : StepResult) → Tells r → Tells (take_over_greater v r)
  greater-tells v r h =
      either_by Tells _ _ _ (λ t. store_vote-tells v (step_down r) (down-tells r h) (not_below r.state.stored.vote v t)) (λ t. h)

  take_over-took : (v : Vote ℕ) (r : StepResult) → Tells r → HoldsOf (Took own v) (take_over v r)
  take_over-took v r h =
      either_by (HoldsOf (Took own v)) _ _ _
      (λ t. record {
        holds = ((store_vote-tells v (step_down r) (down-tells r h) (not_below r.state.stored.vote v t)).holds, not_below_itself v);
      })
      (λ t. record { holds = (h.holds, t) })

  begin-tells : (r : StepResult) → Tells r → Tells (begin_lead r)
  begin-tells r h =
      let led = store_vote-tells (committed_vote r.state.stored.vote) r h (committed_not_below (committed_vote r.state.stored.vote) r.state.stored.vote refl refl) in
      let begun = in_role (Leader (new_lead r.state.stored)) (store_vote (committed_vote r.state.stored.vote) r) in
      either Tells _ _ _
      (pass (AllTell own) (store_vote (committed_vote r.state.stored.vote) r) begun refl refl led)
      (pass (AllTell own) (store_vote (committed_vote r.state.stored.vote) r) (append Blank begun) refl refl led)

  lead_if-tells : (b : Bool) (r : StepResult) → Tells r → Tells (lead_if b r)
  lead_if-tells true r h = begin-tells r h
  lead_if-tells false r h = h

  with_grant-tells : (n : ℕ) (role : Role) (r : StepResult) → Tells r → Tells (with_grant n role r)
  with_grant-tells n Follower r h = h
  with_grant-tells n (Candidate g) r h =
      let granters = if has_id g n then g else g ++ n ∷ [] in
      lead_if-tells _ _ (pass (AllTell own) r (in_role (Candidate granters) r) refl refl h)
  with_grant-tells n (Leader lead) r h = h

  ask-tells : (ns : List ℕ) (r : StepResult) → Tells r → Tells (ask own ns r)
  ask-tells [] r h = h
  ask-tells (n ∷ ns) r h = ask-tells ns _ (own-tells n (VoteRequest r.state.stored.vote _) r refl h)

  stand-tells : (r : StepResult) → Tells r → Tells (stand own r)
  stand-tells r h =
      let vote = vote_of (r.state.stored.vote.leader_id.term + 1) own false in
      let stood = store_vote-tells vote (step_down r) (down-tells r h) (later_term_not_below vote r.state.stored.vote (omega arith)) in
      ask-tells (other_voters own r.state.stored) _ (pass (AllTell own) (store_vote vote (step_down r)) _ refl refl stood)

  elect-tells : (r : StepResult) → Tells r → Tells (elect_step own r)
  elect-tells r h = with_grant-tells own (stand own r).state.role (stand own r) (stand-tells r h)

  judged-tells : (peer : ℕ) (v : Vote ℕ) (b : Bool) (r : StepResult) → Tells r → Tells (judged own peer v b r)
  judged-tells peer v true r h =
      own-tells peer (VoteReply (take_over v r).state.stored.vote true _) (take_over v r) refl
      (record { holds = (take_over-took v r h).holds.0 })
  judged-tells peer v false r h = own-tells peer (VoteReply r.state.stored.vote false _) r refl h

  counted-tells : (peer : ℕ) (b : Bool) (v : Vote ℕ) (r : StepResult) → Tells r → Tells (counted peer b v r)
  counted-tells peer true v r h = with_grant-tells peer r.state.role r h
  counted-tells peer false v r h = greater-tells v r h

  -- what is replied under a vote that was taken over
  took_sends : (peer : ℕ) (b : MessageBody) (v : Vote ℕ) (r : StepResult) → own_vote b ≡ v → Took own v r.state.stored.vote r.messages → Tells (send own peer b r)
  took_sends peer b v r is h = send-tells peer b r (record { holds = h.0 }) (ap (vote_lt r.state.stored.vote) is ∙ h.1)

  joined-tells : (peer : ℕ) (m : AppendFields) (b : Bool) (r : StepResult) → HoldsOf (Took own m.vote) r → Tells (joined own peer m b r)
  joined-tells peer m true r h =
      let fresh = missing_entries r.state.stored (above_committed r.state.committed m.entries) in
      took_sends peer _ m.vote _ refl (put-quiet (Took own m.vote) fresh r h).holds
  joined-tells peer m false r h = took_sends peer _ m.vote _ refl (cut_at-quiet (Took own m.vote) m.previous r h).holds

  heard-tells : (peer : ℕ) (m : AppendFields) (b : Bool) (r : StepResult) → Tells r → Tells (heard own peer m b r)
  heard-tells peer m true r h = own-tells peer _ r refl h
  heard-tells peer m false r h = joined-tells peer m _ (take_over m.vote r) (take_over-took m.vote r h)

  offered-tells : (peer : ℕ) (v : Vote ℕ) (id : ℕ) (x : Snapshot) (b : Bool) (r : StepResult) → Tells r → Tells (offered own peer v id x b r)
  offered-tells peer v id x true r h = own-tells peer _ r refl h
  offered-tells peer v id x false r h =
      let taken = take_over v r in
      took_sends peer _ v _ refl (install-quiet (Took own v) (is_within x.last.index taken.state.committed) x taken (take_over-took v r h)).holds

  higher-tells : (o : ReplyResult) (r : StepResult) → Tells r → Tells (with_higher_vote o r)
  higher-tells Success r h = h
  higher-tells (PartialSuccess last) r h = h
  higher-tells Conflict r h = h
  higher-tells (HigherVote v) r h = greater-tells v r h

  reply-tells : (peer : ℕ) (m : ReplyFields) (r : StepResult) → Tells r → Tells (reply_step peer m r)
  reply-tells peer m r h =
      let judged = with_higher_vote m.outcome r in answered-quiet (AllTell own) peer m judged.state.role judged (higher-tells m.outcome r h)

  message-tells : (peer : ℕ) (b : MessageBody) (r : StepResult) → Tells r → Tells (message_step own peer b r)
  message-tells peer (VoteRequest v last) r h = judged-tells peer v (may_grant r.state v last) r h
  message-tells peer (VoteReply v granted last) r h = counted-tells peer _ v r h
  message-tells peer (AppendRequest m) r h = heard-tells peer m _ r h
  message-tells peer (AppendReply m) r h = reply-tells peer m r h
  message-tells peer (SnapshotRequest v id x) r h = offered-tells peer v id x _ r h
  message-tells peer (SnapshotReply m) r h = reply-tells peer m r h

  notices-tells : (lead : Lead) (ns : List ℕ) (r : StepResult) → Tells r → Tells (send_notices own lead ns r)
  notices-tells lead [] r h = h
  notices-tells lead (n ∷ ns) r h = notices-tells lead ns _ (own-tells n _ r refl h)

  beat-tells : (role : Role) (r : StepResult) → Tells r → Tells (beat_as own role r)
  beat-tells Follower r h = h
  beat-tells (Candidate g) r h = h
  beat-tells (Leader lead) r h = notices-tells lead (other_ids own r.state.stored) r h

  call-tells : (c : GroupCall) (r : StepResult) → Tells r → Tells (call_step own c r)
  call-tells (Initialize m) r h =
      let set_up = store (PutEntries 0 (entry_of (log_id_of 0 0 0) (Members m) ∷ [])) r in
      elect-tells set_up (pass (AllTell own) r set_up refl refl h)
  call-tells Elect r h = elect-tells r h
  call-tells (Propose c t) r h = pass (AllTell own) r _ refl refl h
  call-tells (ChangeMembership c t) r h = changed-quiet (AllTell own) _ c t r h
  call-tells Heartbeat r h = beat-tells r.state.role r h
  call-tells (Lost p) r h = lost-quiet (AllTell own) p r.state.role r h
  call-tells TriggerSnapshot r h = snapshot-quiet (AllTell own) r.state.applied r h
  call-tells (TriggerPurge i) r h = purge_within-quiet (AllTell own) i _ r h

  resume-tells : (r : StepResult) → Tells r → Tells (resume_lead own r)
  resume-tells r h = either Tells _ _ _ (pass (AllTell own) r (in_role (Leader (new_lead r.state.stored)) r) refl refl h) h

  event-tells : (s : GroupState) (e : GroupEvent) → Tells (event_step own s e)
  event-tells s AddGroup = record { holds = tt }
  event-tells s (Call c now) = call-tells c (begun now s) (record { holds = tt })
  event-tells s (Receive peer m now) = message-tells peer m.body (begun now s) (record { holds = tt })
  event-tells s Open =
      let last = snapshot_last s.stored in
      let dropped = drop_stale_log last (unchanged (state_of s.stored)) in
      resume-tells _ (pass (AllTell own) dropped _ refl refl (drop-quiet (AllTell own) last (unchanged (state_of s.stored)) (record { holds = tt })))

  entries-tell : (p : PeerState) (lead : Lead) (r : StepResult) → Tells r → Tells (send_entries own p lead r)
  entries-tell p lead r h = record { holds = tell_more own r.state.stored.vote r.messages _ h.holds refl (not_below_itself r.state.stored.vote) }

  request-tells : (p : PeerState) (lead : Lead) (snapshot : Option Snapshot) (r : StepResult) → Tells r → Tells (send_request own p lead snapshot r)
  request-tells p lead None r h = entries-tell p lead r h
  request-tells p lead (Some snapshot) r h =
      either Tells _ _ _
      (pass (AllTell own) (send own p.peer (SnapshotRequest r.state.stored.vote p.next_id snapshot) r) (send_snapshot own p lead snapshot r) refl refl (own-tells p.peer _ r refl h))
      (entries-tell p lead r h)

  serve-tells : (b : Bool) (p : PeerState) (lead : Lead) (r : StepResult) → Tells r → Tells (serve own b p lead r)
  serve-tells b p lead r h =
      either Tells _ _ _ (request-tells p lead _ r h) (either Tells _ _ _ (own-tells p.peer _ r refl h) h)

  serve_as-tells : (b : Bool) (n : ℕ) (role : Role) (r : StepResult) → Tells r → Tells (serve_as own b n role r)
  serve_as-tells b n Follower r h = h
  serve_as-tells b n (Candidate g) r h = h
  serve_as-tells b n (Leader lead) r h = serve-tells b _ lead r h

  serve_all-tells : (b : Bool) (ns : List ℕ) (r : StepResult) → Tells r → Tells (serve_all own b ns r)
  serve_all-tells b [] r h = h
  serve_all-tells b (n ∷ ns) r h = serve_all-tells b ns _ (serve_as-tells b n r.state.role r h)

  finished-tells : (before : Option ℕ) (r : StepResult) → Tells r → Tells (finished own before r)
  finished-tells before r h =
      let committed = commit_as_leader own r.state.role r in
      let purged = purge_as_wished committed.state.role committed.state.wish committed in
      serve_all-tells (has_grown before purged.state.committed) (other_ids own purged.state.stored) purged
      (wished-quiet (AllTell own) committed.state.role committed.state.wish committed
      (commit-quiet (AllTell own) own r.state.role r h))

  unless-tells : (s : GroupState) (e : GroupEvent) (why : Option RefusalReason) → Tells (step_unless why own s e)
  unless-tells s e (Some why) = record { holds = tt }
  unless-tells s e None = finished-tells s.committed _ (event-tells s e)

  step-tells : (s : GroupState) (e : GroupEvent) → Tells (group_step own s e)
  step-tells s e = unless-tells s e (refusal_of own s e)

-- what a step sends is its node's own
pub step_sends_own : (own : ℕ) (s : GroupState) (e : GroupEvent) (m : Message) → Among m (group_step own s e).messages → m.sender ≡ own
step_sends_own own s e m sent = (tells_so own _ _ m (step-tells own s e).holds sent).0

-- ---- along a history

-- the node that sent it has this stored then
record Sent (n : ℕ) (after : NodeState) (m : Message) : Type 0 where
  sender : m.sender ≡ n
  stored : StoredGroup
  is_stored : stored_of after ≡ Some stored
  kept : vote_lt stored.vote (own_vote m.body) ≡ false

step_sends : (n k : ℕ) (s : GroupState) (e : GroupEvent) (m : Message) (why : Option RefusalReason) → let o = outcome_of_end (group_step n s e) why in
    Among m (sent_in o) → Sent n (after_step (stop_at (is_stop o) k) s (group_step n s e)) m
step_sends n k s e m (Some why) a = absurd a
step_sends n k s e m None a =
    let r = group_step n s e in
    let told = tells_so n r.state.stored.vote r.messages m (step-tells n s e).holds a in
    record { sender = told.0; stored = r.state.stored; is_stored = refl; kept = told.1 }

-- a step that is to stop sends nothing
stop_sends : (n k : ℕ) (s : GroupState) (e : GroupEvent) (m : Message) (why : Option RefusalReason) → let o = outcome_of_stop s e (group_step n s e) why in
    Among m (sent_in o) → Sent n (after_step (stop_at (is_stop o) k) s (group_step n s e)) m
stop_sends n k s e m (Some why) a = absurd a
stop_sends n k s e m None a = absurd a

event_sends : (n : ℕ) (e : NodeEvent) (b : Bool) (k : ℕ) (x : NodeState) (m : Message) → let o = outcome_at n e b x in
    Among m (sent_in o) → Sent n (state_after n e (stop_at (is_stop o) k) x) m
event_sends n e b k Absent m a = absurd a
event_sends n (Comes e) true k (Up s) m a = stop_sends n k s e m (group_step n s e).refused a
event_sends n (Comes e) false k (Up s) m a = step_sends n k s e m (group_step n s e).refused a
event_sends n Crashes b k (Up s) m a = absurd a
event_sends n Halts b k (Up s) m a = absurd a
event_sends n Restarts b k (Up s) m a = absurd a
event_sends n (Comes e) b k (Down st) m a = absurd a
event_sends n Crashes b k (Down st) m a = absurd a
event_sends n Halts b k (Down st) m a = absurd a
event_sends n Restarts true k (Down st) m a = stop_sends n k (state_of st) Open m (group_step n (state_of st) Open).refused a
event_sends n Restarts false k (Down st) m a = step_sends n k (state_of st) Open m (group_step n (state_of st) Open).refused a

abbrev AllKept : GroupWorld → List Message → Type 0
AllKept w ms = (m : Message) → Among m ms → SentVoteKept w m

sent_here : (w : GroupWorld) (n : ℕ) (x : NodeState) (m : Message) (v : GroupWorld) → v.nodes m.sender ≡ state_or (m.sender == n) x (w.nodes m.sender) → Sent n x m → SentVoteKept v m
sent_here w n x m v is h =
    record {
      stored = h.stored;
      is_stored = ap stored_of (is ∙ ap (λ b. state_or b x (w.nodes m.sender)) (eq-eqb m.sender n h.sender)) ∙ h.is_stored;
      kept = h.kept;
    }

scene_keeps : (w : GroupWorld) (e : WorldEvent) (o : Outcome) (k : ℕ) (scene : Scene) → o ≡ outcome_in w (is_stop o) scene → AllKept w w.messages → let v = after_scene w e o (stop_at (is_stop o) k) scene in AllKept v v.messages
scene_keeps w e o k Nowhere is h m a = h m a
scene_keeps w e o k (At n at_node) is h m a =
    let x = state_after n at_node (stop_at (is_stop o) k) (w.nodes n) in
    let v = after_scene w e o (stop_at (is_stop o) k) (At n at_node) in
    ⊎_elim
    (λ old.
    let was = h m old in
    let stays = (scene_gives w e o (stop_at (is_stop o) k) (At n at_node) m.sender).kept was.stored was.is_stored in
    record { stored = stays.0; is_stored = stays.1; kept = not_below_again (own_vote m.body) was.stored.vote (stays.0).vote was.kept stays.2 })
    (λ new.
    let sent = event_sends n at_node (is_stop o) k (w.nodes n) m (subst (λ p. Among m (sent_in p)) is new) in
    sent_here w n x m v refl (subst (λ p. Sent n (state_after n at_node (stop_at (is_stop p) k) (w.nodes n)) m) (sym is) sent))
    (among_either m w.messages (sent_in o) a)

all_keep : (w end : GroupWorld) (rs : List Recorded) → Replays w rs end → AllKept w w.messages → AllKept end end.messages
all_keep w end [] is h = subst (λ v. AllKept v v.messages) (sym is) h
all_keep w end (r ∷ rs) is h =
    all_keep (happens w r.event r.outcome (is.1).0) end rs (is.1).1
    (scene_keeps w r.event r.outcome (is.1).0 (scene_of w r.event) is.0 h)

-- so whatever a node sent, its stored vote isn't below
pub sent_votes_stay : SentVotesStay
sent_votes_stay ids rs end is m there =
    let at = contains_at end.messages m there in
    all_keep (new_world ids) end rs is (λ x none. absurd none) m (among_at end.messages at.0 m at.1)
