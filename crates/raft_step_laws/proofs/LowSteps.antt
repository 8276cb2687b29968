-- The numbers that a step stores and sends are below the limit, where those that the node has are.
use Rattle.std.specs.Prelude.{◌≡◌, ℕ, ◌+◌, ◌-◌, ◌<◌, ◌==◌, ◌&&◌, cond, is_none, is_some, nat_lt, not, Bool, true, false, List, [], ◌∷◌, ◌++◌, drop, take, Option, Some, None, All, IfSome, map, option_map, refl}
use Rattle.std.specs.List.{list_any}
use Rattle.std.proofs.Common.{sym, subst, arith, eqb-true}
use Rattle.std.proofs.lemmas.Bool.{and_parts, cond_both}
use Rattle.std.proofs.lemmas.List.Elements.{All-cons, All-drop, All-filter, All-head, All-nil, All-push, All-tail, All-take, All-weaker}
use Rattle.raft_values.specs.declared.vote.Vote.{Vote}
use Rattle.raft_values.specs.Vote.{vote_of}
use Rattle.raft_values.specs.declared.log_id.LogId.{LogId}
use Rattle.raft_values.specs.LogId.{log_id_of, next_place}
use Rattle.raft_quorums.specs.Quorum.{is_quorum}
use Rattle.raft_state.specs.declared.entry.EntryPayload.TheVariants.{Blank, Normal, Membership as Members}
use Rattle.raft_group_step.specs.Values.{after_change, ChangeMembers, Entry, EntryPayload, LoggedMembership, Membership, entry_of, has_id, is_written_by, vote_eq, vote_lt}
use Rattle.raft_group_step.specs.StoredGroup.{Snapshot, StoringCommand, MakeGroup, SetVote, PutEntries, CutFrom, RemoveUpTo, SetSnapshot, StartAfter, end_place, entry_at, first_place, has_id_in_log, id_before, id_of, last_id, membership_in_force, snapshot_last}
use Rattle.raft_group_step.specs.Message.{AppendFields, Message, HeartBeat, Numbered, MessageBody, VoteRequest, VoteReply, AppendRequest, AppendReply, SnapshotRequest, SnapshotReply, ReplyFields, ReplyResult, Success, PartialSuccess, Conflict, HigherVote, last_sent}
use Rattle.raft_group_step.specs.Peer.{Outstanding, PeerState, is_answer_to, is_kept_for_peers, new_peer}
use Rattle.raft_group_step.specs.GroupState.{GroupState, Lead, Role, Follower, Candidate, Leader, is_candidate, state_of}
use Rattle.raft_group_step.specs.declared.group_call.GroupCall.TheVariants.{Initialize, Elect, Propose, ChangeMembership, Heartbeat, Lost, TriggerSnapshot, TriggerPurge}
use Rattle.raft_group_step.specs.GroupEvent.{GroupCall, GroupEvent, AddGroup, Call, Receive, Open}
use Rattle.raft_group_step.specs.StepResult.{NotAllowed, NumberAtEnd, RefusalReason, StepResult, append, apply_up_to, in_role, is_within, later_place, refused_step, renew, send, step_down, store, store_vote, take_over, unchanged}
use Rattle.raft_group_step.specs.Lead.{begin_lead, commit_as_leader, committed_vote, configs_in_force, lead_if, new_lead, other_ids, peer_of, purge_as_wished, purge_up_to, remove_up_to, with_grant, with_wish}
use Rattle.raft_group_step.specs.Frames.{committed_id, entries_in_request, has_grown, lacks_entries, notice, request_start, send_entries, send_request, send_snapshot, serve, serve_all, serve_as, waiting, with_peer_state}
use Rattle.raft_group_step.specs.Elect.{ask, elect_step, other_voters, stand}
use Rattle.raft_group_step.specs.VoteRequest.{judged, may_grant}
use Rattle.raft_group_step.specs.VoteReply.{counted, take_over_greater}
use Rattle.raft_group_step.specs.AppendRequest.{above_committed, cut_at, cut_from, heard, is_held, joined, missing_entries, put_entries}
use Rattle.raft_group_step.specs.SnapshotRequest.{cut_other, install_unless, offered, place_above}
use Rattle.raft_group_step.specs.Reply.{accepted_up_to, after_answer, answered, ended, is_part_of, reply_step, with_higher_vote}
use Rattle.raft_group_step.specs.Propose.{append_with_token}
use Rattle.raft_group_step.specs.MembershipStep.{append_changed}
use Rattle.raft_group_step.specs.Heartbeat.{beat_as, send_notices}
use Rattle.raft_group_step.specs.Lost.{lost_as}
use Rattle.raft_group_step.specs.SnapshotTrigger.{snapshot_of_applied, store_snapshot_at}
use Rattle.raft_group_step.specs.PurgeTrigger.{purge_as, purge_within}
use Rattle.raft_group_step.specs.Opening.{drop_stale_log, is_joined_to, resume_lead}
use Rattle.raft_group_step.specs.Initialize.{initialize_step, is_new}
use Rattle.raft_group_step.specs.Refusal.{are_in_range, next_blank, next_ids, next_term, number_limit, numbers_of, numbers_of_id, numbers_of_membership, numbers_of_result, range_reason, reasons_of, reasons_of_call, refusal_of}
use Rattle.raft_group_step.specs.GroupStep.{begun, call_step, event_step, finished, group_step, message_step, step_unless}
use Rattle.raft_group_step.proofs.Words.{either, either_by, ask_state}
use Rattle.raft_group_step.proofs.Refusals.{unless_none}
use Rattle.raft_laws.proofs.StepCalls.{NoReason, no_reason}
use Rattle.raft_laws.proofs.LowGroups.{put_end}
use Rattle.raft_laws.proofs.StepPlaces.{HasRoom}
use Rattle.raft_step_laws.specs.Numbers.{AreLow, BringsLowPrefix, EachPeer, HasLowId, HasLowPrefix, IsLowBody, IsLowPeer, IsLowSnapshot, IsLowStored, StepsSendLowNumbers}
use Rattle.raft_step_laws.proofs.LowWords.{IsLow, LowReply, LowRequest, StoringLow, before_low, built_low, entry_low, first_low, found_peer, id_low, joined_low, known_low, last_low, missing_low, more_low, none_low, one_low, parts_low, put_peer, range_low, reply_low, reply_parts, request_low, request_parts, rest_low, sent_low, stop_low, stored_low}

abbrev LowMessage : Message → Type 0
LowMessage m = IsLowBody m.body

-- a notice says what its peer has accepted, and what is committed
notice_low : (s : GroupState) (p : PeerState) → IsLowStored s.stored → AreLow (numbers_of_id p.matched) → IsLowBody (notice s p)
notice_low s p h k =
    let m : AppendFields =
    record { vote = s.stored.vote; id = HeartBeat; previous = p.matched; committed = committed_id s; entries = [] }
    in
    let low : LowRequest m =
    record {
      vote = h.vote;
      id = none_low;
      previous = k;
      committed = known_low s.stored h s.committed;
      entries = All-nil HasLowId;
    }
    in record { numbers = request_low m low; «prefix» = tt }

-- ---- the words of a step. Q: what is known of each peer

module _ (Q : PeerState → Type 0) where
  -- all that was stored and sent is low, and what the node has then
  record Keeps (r : StepResult) : Type 0 where
    now : IsLowStored r.state.stored
    all : All StoringLow r.commands
    messages : All LowMessage r.messages
    peers : EachPeer Q r.state.role

  -- what stores and sends nothing
  recast : (r q : StepResult) → q.state.stored ≡ r.state.stored → q.commands ≡ r.commands → q.messages ≡ r.messages → EachPeer Q q.state.role → Keeps r → Keeps q
  recast r q e f g p h =
      record {
        now = subst IsLowStored (sym e) h.now;
        all = subst (All StoringLow) (sym f) h.all;
        messages = subst (All LowMessage) (sym g) h.messages;
        peers = p;
      }

  same : (r q : StepResult) → q.state.stored ≡ r.state.stored → q.commands ≡ r.commands → q.messages ≡ r.messages → q.state.role ≡ r.state.role → Keeps r → Keeps q
  same r q e f g o h = recast r q e f g (subst (EachPeer Q) (sym o) h.peers) h

  stores : (c : StoringCommand) (r : StepResult) → Keeps r → StoringLow c → Keeps (store c r)
  stores c r h k =
      record {
        now = stored_low c r.state.stored h.now k;
        all = All-push StoringLow r.commands c h.all k;
        messages = h.messages;
        peers = h.peers;
      }

  sends : (own peer : ℕ) (b : MessageBody) (r : StepResult) → Keeps r → IsLowBody b → Keeps (send own peer b r)
  sends own peer b r h k =
      record {
        now = h.now;
        all = h.all;
        messages = All-push LowMessage r.messages (record { sender = own; addressee = peer; body = b }) h.messages k;
        peers = h.peers;
      }

  -- ---- votes and elections

  voted : (v : Vote ℕ) (r : StepResult) → Keeps r → v.leader_id.term < number_limit → Keeps (store_vote v r)
  voted v r h k = same (store (SetVote v) r) (store_vote v r) refl refl refl refl (stores (SetVote v) r h k)

  down : (v : Vote ℕ) (r : StepResult) → Keeps r → v.leader_id.term < number_limit → Keeps (store_vote v (step_down r))
  down v r h k = voted v (step_down r) (recast r (step_down r) refl refl refl tt h) k

  took : (v : Vote ℕ) (r : StepResult) → Keeps r → v.leader_id.term < number_limit → Keeps (take_over v r)
  took v r h k =
      either Keeps (vote_lt r.state.stored.vote v) (store_vote v (step_down r)) (renew r) (down v r h k) (same r (renew r) refl refl refl refl h)

  greater : (v : Vote ℕ) (r : StepResult) → Keeps r → v.leader_id.term < number_limit → Keeps (take_over_greater v r)
  greater v r h k = either Keeps (vote_lt r.state.stored.vote v) (store_vote v (step_down r)) r (down v r h k) h

  -- an entry at the log's end
  appended : (p : EntryPayload) (r : StepResult) → Keeps r → HasRoom r.state → Keeps (append p r)
  appended p r h room =
      let st = r.state.stored in
      let id : LogId ℕ = record { leader_id = st.vote.leader_id; index = end_place st } in
      let e = entry_of id p in
      stores (PutEntries (end_place st) (e ∷ [])) r h (All-cons HasLowId e [] (id_low id h.now.vote room) (All-nil HasLowId))

  began : (r : StepResult) → Keeps r → HasRoom r.state → Keeps (begin_lead r)
  began r h room =
      let v = committed_vote r.state.stored.vote in
      let q = in_role (Leader (new_lead r.state.stored)) (store_vote v r) in
      let k = recast (store_vote v r) q refl refl refl (All-nil Q) (voted v r h h.now.vote) in
      either Keeps (list_any (is_written_by q.state.stored.vote.leader_id) q.state.stored.log) q (append Blank q) k (appended Blank q k room)

  led : (b : Bool) (r : StepResult) → Keeps r → HasRoom r.state → Keeps (lead_if b r)
  led true r h room = began r h room
  led false r h room = h

  granted_keeps : (n : ℕ) (role : Role) (r : StepResult) → Keeps r → (is_candidate role ≡ true → HasRoom r.state) → Keeps (with_grant n role r)
  granted_keeps n Follower r h room = h
  granted_keeps n (Candidate granters) r h room =
      let granted = cond (has_id granters n) granters (granters ++ n ∷ []) in
      led (is_quorum (configs_in_force r.state.stored) (has_id granted)) (in_role (Candidate granted) r)
      (recast r (in_role (Candidate granted) r) refl refl refl tt h) (room refl)
  granted_keeps n (Leader lead) r h room = h

  ballot_low : (r : StepResult) → Keeps r → AreLow (r.state.stored.vote.leader_id.term ∷ numbers_of_id (last_id r.state.stored))
  ballot_low r h = more_low r.state.stored.vote.leader_id.term (numbers_of_id (last_id r.state.stored)) h.now.vote (last_low r.state.stored h.now)

  asked : (own : ℕ) (ns : List ℕ) (r : StepResult) → Keeps r → Keeps (ask own ns r)
  asked own [] r h = h
  asked own (n ∷ ns) r h = asked own ns _ (sends own n _ r h (record { numbers = ballot_low r h; «prefix» = tt }))

  elected : (own : ℕ) (r : StepResult) → Keeps r → next_term r.state < number_limit → HasRoom r.state → Keeps (elect_step own r)
  elected own r h term room =
      let v = vote_of (r.state.stored.vote.leader_id.term + 1) own false in
      let q : StepResult = in_role (Candidate []) (store_vote v (step_down r)) in
      granted_keeps own (stand own r).state.role (stand own r)
      (asked own (other_voters own r.state.stored) q (recast (store_vote v (step_down r)) q refl refl refl tt (down v r h term)))
      (λ t. subst HasRoom (sym (ask_state own (other_voters own r.state.stored) q)) room)

  judged_keeps : (own peer : ℕ) (v : Vote ℕ) (b : Bool) (r : StepResult) → Keeps r → v.leader_id.term < number_limit → Keeps (judged own peer v b r)
  judged_keeps own peer v true r h k =
      let t = took v r h k in sends own peer _ (take_over v r) t (record { numbers = ballot_low (take_over v r) t; «prefix» = tt })
  judged_keeps own peer v false r h k = sends own peer _ r h (record { numbers = ballot_low r h; «prefix» = tt })

  counted_keeps : (peer : ℕ) (b : Bool) (v : Vote ℕ) (r : StepResult) → Keeps r → v.leader_id.term < number_limit → (is_candidate r.state.role ≡ true → HasRoom r.state) → Keeps (counted peer b v r)
  counted_keeps peer true v r h k room = granted_keeps peer r.state.role r h room
  counted_keeps peer false v r h k room = greater v r h k

  -- ---- entries of another leader

  cut : (i : ℕ) (r : StepResult) → Keeps r → Keeps (cut_from i r)
  cut i r h = either Keeps (is_some (entry_at r.state.stored i)) (store (CutFrom i) r) r (stores (CutFrom i) r h tt) h

  cut_at_keeps : (id : Option (LogId ℕ)) (r : StepResult) → Keeps r → Keeps (cut_at id r)
  cut_at_keeps None r h = h
  cut_at_keeps (Some id) r h = cut id.index r h

  put : (es : List Entry) (r : StepResult) → Keeps r → All HasLowId es → Keeps (put_entries es r)
  put [] r h k = h
  put (e ∷ es) r h k = stores (PutEntries e.log_id.index (e ∷ es)) (cut_from e.log_id.index r) (cut e.log_id.index r h) k

  reply_keeps : (own peer : ℕ) (m : ReplyFields) (r : StepResult) → Keeps r → LowReply m → Keeps (send own peer (AppendReply m) r)
  reply_keeps own peer m r h k = sends own peer (AppendReply m) r h (record { numbers = reply_low m k; «prefix» = tt })

  -- the reply to a request
  replies : (m : AppendFields) (o : ReplyResult) → LowRequest m → AreLow (numbers_of_result o) → LowReply (record { vote = m.vote; id = m.id; previous = m.previous; last = last_sent m.previous m.entries; outcome = o })
  replies m o k l =
      record { vote = k.vote; id = k.id; previous = k.previous; last = sent_low m.previous m.entries k.previous k.entries; outcome = l }

  joins : (own peer : ℕ) (m : AppendFields) (b : Bool) (r : StepResult) → Keeps r → LowRequest m → Keeps (joined own peer m b r)
  joins own peer m true r h k =
      let above = above_committed r.state.committed m.entries in
      let fresh = missing_entries r.state.stored above in
      let low = All-filter (λ (e : Entry). not (is_within e.log_id.index r.state.committed)) HasLowId m.entries k.entries in
      reply_keeps own peer _ _
      (same (put_entries fresh r) _ refl refl refl refl (put fresh r h (missing_low r.state.stored above low))) (replies m Success k none_low)
  joins own peer m false r h k = reply_keeps own peer _ (cut_at m.previous r) (cut_at_keeps m.previous r h) (replies m Conflict k none_low)

  heard_keeps : (own peer : ℕ) (m : AppendFields) (b : Bool) (r : StepResult) → Keeps r → LowRequest m → Keeps (heard own peer m b r)
  heard_keeps own peer m true r h k =
      reply_keeps own peer _ r h (replies m (HigherVote r.state.stored.vote) k (one_low r.state.stored.vote.leader_id.term h.now.vote))
  heard_keeps own peer m false r h k =
      let taken = take_over m.vote r in
      joins own peer m (is_held taken.state.stored taken.state.committed m.previous) taken (took m.vote r h k.vote) k

  -- ---- snapshots of another leader

  other : (last : LogId ℕ) (r : StepResult) → Keeps r → Keeps (cut_other last r)
  other last r h =
      either Keeps (has_id_in_log r.state.stored last) r _ h
      (either Keeps (is_some (entry_at r.state.stored last.index)) _ r (cut (place_above r.state.committed) r h) h)

  installed : (b : Bool) (x : Snapshot) (r : StepResult) → Keeps r → IsLowSnapshot x → Keeps (install_unless b x r)
  installed true x r h k = h
  installed false x r h k =
      let set = store (SetSnapshot x) (cut_other x.last r) in
      let removed = store (RemoveUpTo x.last) set in
      same removed (apply_up_to (Some x.last.index) removed) refl refl refl refl
      (stores (RemoveUpTo x.last) set (stores (SetSnapshot x) (cut_other x.last r) (other x.last r h) k) k.last)

  -- the reply to a snapshot
  reply_shot : (own peer : ℕ) (v : Vote ℕ) (id : ℕ) (x : Snapshot) (o : ReplyResult) (r : StepResult) → Keeps r → v.leader_id.term < number_limit → id < number_limit → IsLowSnapshot x → AreLow (numbers_of_result o) → Keeps (send own peer (SnapshotReply (record { vote = v; id = Numbered id; previous = None; last = Some x.last; outcome = o })) r)
  reply_shot own peer v id x o r h k l s q =
      let m : ReplyFields = record { vote = v; id = Numbered id; previous = None; last = Some x.last; outcome = o } in
      let low : LowReply m = record { vote = k; id = one_low id l; previous = none_low; last = s.last; outcome = q } in
      sends own peer (SnapshotReply m) r h (record { numbers = reply_low m low; «prefix» = tt })

  offered_keeps : (own peer : ℕ) (v : Vote ℕ) (id : ℕ) (x : Snapshot) (b : Bool) (r : StepResult) → Keeps r → v.leader_id.term < number_limit → id < number_limit → IsLowSnapshot x → Keeps (offered own peer v id x b r)
  offered_keeps own peer v id x true r h k l s =
      reply_shot own peer v id x (HigherVote r.state.stored.vote) r h k l s (one_low r.state.stored.vote.leader_id.term h.now.vote)
  offered_keeps own peer v id x false r h k l s =
      let taken = take_over v r in
      let b = is_within x.last.index taken.state.committed in
      reply_shot own peer v id x Success (install_unless b x taken) (installed b x taken (took v r h k) s) k l s none_low

  -- ---- replies

  higher : (o : ReplyResult) (r : StepResult) → Keeps r → AreLow (numbers_of_result o) → Keeps (with_higher_vote o r)
  higher Success r h k = h
  higher (PartialSuccess last) r h k = h
  higher Conflict r h k = h
  higher (HigherVote v) r h k = greater v r h (All-head IsLow v.leader_id.term [] k)

  -- ---- calls

  tokened : (p : EntryPayload) (token : ℕ) (r : StepResult) → Keeps r → HasRoom r.state → Keeps (append_with_token p token r)
  tokened p token r h room = appended p _ (same r _ refl refl refl refl h) room

  changed_keeps : (o : Option LoggedMembership) (change : ChangeMembers) (token : ℕ) (r : StepResult) → Keeps r → HasRoom r.state → Keeps (append_changed o change token r)
  changed_keeps None change token r h room = h
  changed_keeps (Some m) change token r h room = tokened (Members (after_change m.membership change)) token r h room

  first_keeps : (own : ℕ) (m : Membership) (r : StepResult) → Keeps r → next_term r.state < number_limit → end_place r.state.stored ≡ 0 → Keeps (initialize_step own m r)
  first_keeps own m r h term none =
      let e = entry_of (log_id_of 0 0 0) (Members m) in
      let ends = put_end 0 (e ∷ []) r.state.stored in
      elected own (store (PutEntries 0 (e ∷ [])) r)
      (stores (PutEntries 0 (e ∷ [])) r h
      (All-cons HasLowId e [] (id_low (log_id_of 0 0 0) (omega arith) (omega arith)) (All-nil HasLowId)))
      term (omega (arith, none, ends))

  shot : (id : Option (LogId ℕ)) (r : StepResult) → Keeps r → AreLow (numbers_of_id id) → Keeps (store_snapshot_at id r)
  shot None r h k = h
  shot (Some id) r h k = stores (SetSnapshot _) r h (built_low r.state.stored h.now id k)

  snapshot_keeps : (o : Option ℕ) (r : StepResult) → Keeps r → Keeps (snapshot_of_applied o r)
  snapshot_keeps None r h = h
  snapshot_keeps (Some a) r h =
      either Keeps (nat_lt a (next_place (snapshot_last r.state.stored))) r _ h
      (shot (id_of (entry_at r.state.stored a)) r h (entry_low r.state.stored h.now a))

  removed_keeps : (id : Option (LogId ℕ)) (r : StepResult) → Keeps r → AreLow (numbers_of_id id) → Keeps (remove_up_to id r)
  removed_keeps None r h k = h
  removed_keeps (Some id) r h k = stores (RemoveUpTo id) r h k

  purged : (place : ℕ) (r : StepResult) → Keeps r → Keeps (purge_up_to place r)
  purged place r h = removed_keeps (id_of (entry_at r.state.stored place)) r h (entry_low r.state.stored h.now place)

  purge_keeps : (place : ℕ) (role : Role) (r : StepResult) → Keeps r → Keeps (purge_as place role r)
  purge_keeps place Follower r h = purged place r h
  purge_keeps place (Candidate granters) r h = purged place r h
  purge_keeps place (Leader lead) r h =
      either Keeps (nat_lt place (first_place r.state.stored)) r (with_wish (later_place r.state.wish (Some place)) r) h (same r _ refl refl refl refl h)

  within_keeps : (place : ℕ) (last : Option (LogId ℕ)) (r : StepResult) → Keeps r → Keeps (purge_within place last r)
  within_keeps place None r h = h
  within_keeps place (Some last) r h = purge_keeps _ r.state.role r h

  -- ---- the end of an event

  commit_keeps : (own : ℕ) (role : Role) (r : StepResult) → Keeps r → Keeps (commit_as_leader own role r)
  commit_keeps own Follower r h = h
  commit_keeps own (Candidate granters) r h = h
  commit_keeps own (Leader lead) r h = same r _ refl refl refl refl h

  wished_keeps : (role : Role) (wish : Option ℕ) (r : StepResult) → Keeps r → Keeps (purge_as_wished role wish r)
  wished_keeps Follower wish r h = h
  wished_keeps (Candidate granters) wish r h = h
  wished_keeps (Leader lead) None r h = h
  wished_keeps (Leader lead) (Some place) r h =
      let q = with_wish None r in
      either Keeps (is_kept_for_peers place lead.peers) r (purge_up_to place q) h (purged place q (same r q refl refl refl refl h))

  -- ---- openings

  dropped : (last : Option (LogId ℕ)) (r : StepResult) → Keeps r → AreLow (numbers_of_id last) → Keeps (drop_stale_log last r)
  dropped None r h k = h
  dropped (Some last) r h k = either Keeps (is_joined_to r.state.stored last) r (store (StartAfter last) r) h (stores (StartAfter last) r h k)

  resumed : (own : ℕ) (r : StepResult) → Keeps r → Keeps (resume_lead own r)
  resumed own r h =
      let vote = r.state.stored.vote in
      either Keeps (vote.committed && vote.leader_id.node_id == own) (in_role (Leader (new_lead r.state.stored)) r) r
      (recast r (in_role (Leader (new_lead r.state.stored)) r) refl refl refl (All-nil Q) h) h

-- ---- what an event does to a leader's peers: each has room for one more request

record HasRoomForOne (p : PeerState) : Type 0 where
  matched : AreLow (numbers_of_id p.matched)
  next : p.next_id < number_limit

new_low : (began n : ℕ) → HasRoomForOne (new_peer began n)
new_low began n = record { matched = none_low; next = omega arith }

known_peer : (lead : Lead) (n : ℕ) → All HasRoomForOne lead.peers → HasRoomForOne (peer_of lead n)
known_peer lead n h = found_peer HasRoomForOne (new_peer lead.began n) lead.peers (new_low lead.began n) h

after_answer_low : (p : PeerState) (m : ReplyFields) (o : ReplyResult) → HasRoomForOne p → LowReply m → AreLow (numbers_of_result o) → HasRoomForOne (after_answer p m o)
after_answer_low p m Success h k l = record { matched = k.last; next = h.next }
after_answer_low p m (PartialSuccess last) h k l =
    cond_both (is_part_of p m last) (accepted_up_to last p) (ended p) HasRoomForOne
    (λ t. record { matched = l; next = h.next })
    (λ t. record { matched = h.matched; next = h.next })
after_answer_low p m Conflict h k l = record { matched = h.matched; next = h.next }
after_answer_low p m (HigherVote v) h k l = record { matched = h.matched; next = h.next }

abbrev EventKeeps : StepResult → Type 0
EventKeeps r = Keeps HasRoomForOne r

answered_keeps : (peer : ℕ) (m : ReplyFields) (role : Role) (r : StepResult) → EventKeeps r → EachPeer HasRoomForOne role → LowReply m → EventKeeps (answered peer m role r)
answered_keeps peer m Follower r h ps k = h
answered_keeps peer m (Candidate granters) r h ps k = h
answered_keeps peer m (Leader lead) r h ps k =
    let p = after_answer (peer_of lead peer) m m.outcome in
    either EventKeeps (vote_eq m.vote r.state.stored.vote && is_answer_to m (peer_of lead peer).outstanding) (with_peer_state p lead r) r
    (recast HasRoomForOne r (with_peer_state p lead r) refl refl refl
    (put_peer HasRoomForOne p lead.peers (after_answer_low (peer_of lead peer) m m.outcome (known_peer lead peer ps) k k.outcome) ps) h)
    h

replied_keeps : (peer : ℕ) (m : ReplyFields) (r : StepResult) → EventKeeps r → LowReply m → EventKeeps (reply_step peer m r)
replied_keeps peer m r h k =
    let judged = with_higher_vote m.outcome r in
    let q = higher HasRoomForOne m.outcome r h k.outcome in
    answered_keeps peer m judged.state.role judged q q.peers k

lost_keeps : (peer : ℕ) (role : Role) (r : StepResult) → EventKeeps r → EachPeer HasRoomForOne role → EventKeeps (lost_as peer role r)
lost_keeps peer Follower r h ps = h
lost_keeps peer (Candidate granters) r h ps = h
lost_keeps peer (Leader lead) r h ps =
    let p = peer_of lead peer in
    let known = known_peer lead peer ps in
    either EventKeeps (is_some p.outstanding) (with_peer_state (ended p) lead r) r
    (recast HasRoomForOne r (with_peer_state (ended p) lead r) refl refl refl
    (put_peer HasRoomForOne (ended p) lead.peers (record { matched = known.matched; next = known.next }) ps) h)
    h

notices_keep : (own : ℕ) (lead : Lead) (ns : List ℕ) (r : StepResult) → EventKeeps r → All HasRoomForOne lead.peers → EventKeeps (send_notices own lead ns r)
notices_keep own lead [] r h ps = h
notices_keep own lead (n ∷ ns) r h ps =
    notices_keep own lead ns _
    (sends HasRoomForOne own n _ r h (notice_low r.state (peer_of lead n) h.now (known_peer lead n ps).matched)) ps

beat_keeps : (own : ℕ) (role : Role) (r : StepResult) → EventKeeps r → EachPeer HasRoomForOne role → EventKeeps (beat_as own role r)
beat_keeps own Follower r h ps = h
beat_keeps own (Candidate granters) r h ps = h
beat_keeps own (Leader lead) r h ps = notices_keep own lead (other_ids own r.state.stored) r h ps

-- ---- what a leader sends at the end: at most one request with a number to each peer

abbrev EndKeeps : StepResult → Type 0
EndKeeps r = Keeps IsLowPeer r

kept_peer : (lead : Lead) (n : ℕ) → All IsLowPeer lead.peers → IsLowPeer (peer_of lead n)
kept_peer lead n h =
    found_peer IsLowPeer (new_peer lead.began n) lead.peers
    (record { matched = none_low; next = omega arith; idle = λ e. omega arith }) h

waiting_low : (p : PeerState) (previous last : Option (LogId ℕ)) (b : Bool) → IsLowPeer p → p.next_id < number_limit → IsLowPeer (waiting p previous last b)
waiting_low p previous last b h l =
    let o : Outstanding = record { id = p.next_id; previous = previous; last = last; has_snapshot = b } in
    record {
      matched = h.matched;
      next = omega arith;
      idle = λ e. absurd (let f : Some o ≡ None = e in cc);
    }

shown_low : (v : Vote ℕ) (id : ℕ) (x : Snapshot) → v.leader_id.term < number_limit → id < number_limit → IsLowSnapshot x → IsLowBody (SnapshotRequest v id x)
shown_low v id x k l s =
    let ids = numbers_of_id (Some x.last) in
    let rest = ids ++ numbers_of_membership x.membership in
    record {
      numbers =
          more_low v.leader_id.term (id ∷ rest) k
          (more_low id rest l (joined_low ids (numbers_of_membership x.membership) s.last s.membership));
      «prefix» = s.entries;
    }

requests_keep : (own : ℕ) (p : PeerState) (lead : Lead) (o : Option Snapshot) (r : StepResult) → r.state.stored.snapshot ≡ o → EndKeeps r → All IsLowPeer lead.peers → IsLowPeer p → p.next_id < number_limit → EndKeeps (send_request own p lead o r)
requests_keep own p lead o r is h ps k l = go o is
  where
    asks : (q : StepResult) (previous last : Option (LogId ℕ)) (b : Bool) → EndKeeps q → EndKeeps (with_peer_state (waiting p previous last b) lead q)
    asks q previous last b g =
        recast IsLowPeer q _ refl refl refl
        (put_peer IsLowPeer (waiting p previous last b) lead.peers (waiting_low p previous last b k l) ps) g

    entries : EndKeeps (send_entries own p lead r)
    entries =
        let st = r.state.stored in
        let start = request_start st p in
        let previous = id_before st start in
        let es = take entries_in_request (drop (start - first_place st) st.log) in
        let m : AppendFields =
        record {
          vote = st.vote;
          id = Numbered p.next_id;
          previous = previous;
          committed = committed_id r.state;
          entries = es;
        }
        in
        let low : LowRequest m =
        record {
          vote = h.now.vote;
          id = one_low p.next_id l;
          previous = before_low st h.now start;
          committed = known_low st h.now r.state.committed;
          entries =
              All-take HasLowId entries_in_request (drop (start - first_place st) st.log)
              (All-drop HasLowId (start - first_place st) st.log h.now.log);
        }
        in
        asks (send own p.peer (AppendRequest m) r) previous (last_sent previous es) false
        (sends IsLowPeer own p.peer (AppendRequest m) r h (record { numbers = request_low m low; «prefix» = tt }))

    go : (x : Option Snapshot) → r.state.stored.snapshot ≡ x → EndKeeps (send_request own p lead x r)
    go None e = entries
    go (Some x) e =
        either EndKeeps (nat_lt p.search (first_place r.state.stored)) (send_snapshot own p lead x r) (send_entries own p lead r)
        (asks (send own p.peer (SnapshotRequest r.state.stored.vote p.next_id x) r) None (Some x.last) true
        (sends IsLowPeer own p.peer (SnapshotRequest r.state.stored.vote p.next_id x) r h
        (shown_low r.state.stored.vote p.next_id x h.now.vote l (subst (λ y. IfSome y IsLowSnapshot) e h.now.snapshot))))
        entries

none_is : {A : Type 0} (o : Option A) → is_none o ≡ true → o ≡ None
none_is None t = refl
none_is (Some x) t = absurd (let f : false ≡ true = t in cc)

serve_keeps : (own : ℕ) (b : Bool) (p : PeerState) (lead : Lead) (r : StepResult) → EndKeeps r → All IsLowPeer lead.peers → IsLowPeer p → EndKeeps (serve own b p lead r)
serve_keeps own b p lead r h ps k =
    let told = send own p.peer (notice r.state p) r in
    either_by EndKeeps (is_none p.outstanding && lacks_entries r.state.stored p) (send_request own p lead r.state.stored.snapshot r) (cond b told r)
    (λ t.
    let idle = none_is p.outstanding (and_parts (is_none p.outstanding) (lacks_entries r.state.stored p) t).0 in
    requests_keep own p lead r.state.stored.snapshot r refl h ps k (k.idle idle))
    (λ t. either EndKeeps b told r (sends IsLowPeer own p.peer (notice r.state p) r h (notice_low r.state p h.now k.matched)) h)

serve_as_keeps : (own : ℕ) (b : Bool) (n : ℕ) (role : Role) (r : StepResult) → EndKeeps r → EachPeer IsLowPeer role → EndKeeps (serve_as own b n role r)
serve_as_keeps own b n Follower r h ps = h
serve_as_keeps own b n (Candidate granters) r h ps = h
serve_as_keeps own b n (Leader lead) r h ps = serve_keeps own b (peer_of lead n) lead r h ps (kept_peer lead n ps)

serve_all_keeps : (own : ℕ) (b : Bool) (ns : List ℕ) (r : StepResult) → EndKeeps r → EndKeeps (serve_all own b ns r)
serve_all_keeps own b [] r h = h
serve_all_keeps own b (n ∷ ns) r h = serve_all_keeps own b ns _ (serve_as_keeps own b n r.state.role r h h.peers)

finished_keeps : (own : ℕ) (before : Option ℕ) (r : StepResult) → EndKeeps r → EndKeeps (finished own before r)
finished_keeps own before r h =
    let committed = commit_as_leader own r.state.role r in
    let gone = purge_as_wished committed.state.role committed.state.wish committed in
    serve_all_keeps own (has_grown before gone.state.committed) (other_ids own gone.state.stored) gone
    (wished_keeps IsLowPeer committed.state.role committed.state.wish committed (commit_keeps IsLowPeer own r.state.role r h))

-- ---- what an event that isn't refused passed

numbers_passed : (s : GroupState) (ns : List ℕ) → range_reason s ns ≡ None → AreLow ns × AreLow (next_ids s.role)
numbers_passed s ns e =
    let t = unless_none (are_in_range (ns ++ next_ids s.role)) NumberAtEnd e in
    parts_low ns (next_ids s.role) (range_low (ns ++ next_ids s.role) t)

rooms_of : (ps : List PeerState) → AreLow (map (λ (p : PeerState). p.next_id) ps) → All IsLowPeer ps → All HasRoomForOne ps
rooms_of [] h k = All-nil HasRoomForOne
rooms_of (p ∷ ps) h k =
    let ids = map (λ (q : PeerState). q.next_id) ps in
    All-cons HasRoomForOne p ps
    (record { matched = (All-head IsLowPeer p ps k).matched; next = first_low p.next_id ids h })
    (rooms_of ps (rest_low p.next_id ids h) (All-tail IsLowPeer p ps k))

peers_passed : (role : Role) → AreLow (next_ids role) → EachPeer IsLowPeer role → EachPeer HasRoomForOne role
peers_passed Follower h k = tt
peers_passed (Candidate granters) h k = tt
peers_passed (Leader lead) h k = rooms_of lead.peers h k

peers_kept : (role : Role) → EachPeer HasRoomForOne role → EachPeer IsLowPeer role
peers_kept Follower h = tt
peers_kept (Candidate granters) h = tt
peers_kept (Leader lead) h =
    All-weaker HasRoomForOne IsLowPeer
    (λ p k. record { matched = k.matched; next = omega (arith, k.next); idle = λ e. k.next }) lead.peers h

abbrev CallLow : GroupState → GroupCall → Type 0
CallLow s (Initialize m) = (next_term s < number_limit) × (end_place s.stored ≡ 0)
CallLow s Elect = (next_term s < number_limit) × HasRoom s
CallLow s (Propose command token) = HasRoom s
CallLow s (ChangeMembership change token) = HasRoom s
CallLow s Heartbeat = Unit {0}
CallLow s (Lost peer) = Unit {0}
CallLow s TriggerSnapshot = Unit {0}
CallLow s (TriggerPurge place) = Unit {0}

record CallPasses (s : GroupState) (call : GroupCall) : Type 0 where
  ids : AreLow (next_ids s.role)
  known : CallLow s call

second_low : (m n : ℕ) (ns : List ℕ) → AreLow (m ∷ n ∷ ns) → n < number_limit
second_low m n ns h = first_low n ns (rest_low m (n ∷ ns) h)

call_passed : (own : ℕ) (s : GroupState) (now : ℕ) (call : GroupCall) → NoReason (reasons_of_call own s now call) → CallPasses s call
call_passed own s now (Initialize m) passed =
    let p = numbers_passed s (now ∷ next_term s ∷ []) passed.1.0 in
    let new = unless_none (is_new s.stored) NotAllowed passed.1.1.1.0 in
    let two = and_parts (vote_eq s.stored.vote (vote_of 0 0 false) && end_place s.stored == 0) (is_none s.stored.snapshot) new in
    let one = and_parts (vote_eq s.stored.vote (vote_of 0 0 false)) (end_place s.stored == 0) two.0 in
    record { ids = p.1; known = (second_low now (next_term s) [] p.0, eqb-true (end_place s.stored) 0 one.1) }
call_passed own s now Elect passed =
    let place = end_place s.stored in
    let p = numbers_passed s (now ∷ next_term s ∷ place ∷ []) passed.0 in
    record {
      ids = p.1;
      known = (
        second_low now (next_term s) (place ∷ []) p.0,
        second_low (next_term s) place [] (rest_low now (next_term s ∷ place ∷ []) p.0),
      );
    }
call_passed own s now (Propose command token) passed =
    let p = numbers_passed s (now ∷ end_place s.stored ∷ []) passed.1.0 in
    record { ids = p.1; known = second_low now (end_place s.stored) [] p.0 }
call_passed own s now (ChangeMembership change token) passed =
    let p = numbers_passed s (now ∷ end_place s.stored ∷ []) passed.0 in
    record { ids = p.1; known = second_low now (end_place s.stored) [] p.0 }
call_passed own s now Heartbeat passed = record { ids = (numbers_passed s (now ∷ []) passed.0).1; known = tt }
call_passed own s now (Lost peer) passed = record { ids = (numbers_passed s (now ∷ []) passed.0).1; known = tt }
call_passed own s now TriggerSnapshot passed = record { ids = (numbers_passed s (now ∷ []) passed.0).1; known = tt }
call_passed own s now (TriggerPurge place) passed = record { ids = (numbers_passed s (now ∷ []) passed.0).1; known = tt }

abbrev BodyLow : GroupState → MessageBody → Type 0
BodyLow s (VoteRequest v last) = v.leader_id.term < number_limit
BodyLow s (VoteReply v granted last) = (v.leader_id.term < number_limit) × (is_candidate s.role ≡ true → HasRoom s)
BodyLow s (AppendRequest m) = LowRequest m
BodyLow s (AppendReply m) = LowReply m
BodyLow s (SnapshotRequest v id x) = (v.leader_id.term < number_limit) × (id < number_limit) × IsLowSnapshot x
BodyLow s (SnapshotReply m) = LowReply m

-- a candidate that a message may make a leader has room for its blank entry
blank_room : (s : GroupState) → AreLow (next_blank s) → is_candidate s.role ≡ true → HasRoom s
blank_room s h = go (is_candidate s.role) h
  where
    go : (b : Bool) → AreLow (cond b (end_place s.stored ∷ []) []) → b ≡ true → HasRoom s
    go true k t = first_low (end_place s.stored) [] k
    go false k t = absurd (let e : false ≡ true = t in cc)

body_passed : (s : GroupState) (b : MessageBody) → AreLow (numbers_of b) → AreLow (next_blank s) → HasLowPrefix b → BodyLow s b
body_passed s (VoteRequest v last) h blank k = first_low v.leader_id.term (numbers_of_id last) h
body_passed s (VoteReply v granted last) h blank k = (first_low v.leader_id.term (numbers_of_id last) h, blank_room s blank)
body_passed s (AppendRequest m) h blank k = request_parts m h
body_passed s (AppendReply m) h blank k = reply_parts m h
body_passed s (SnapshotRequest v id x) h blank k =
    let ids = numbers_of_id (Some x.last) in
    let all = ids ++ numbers_of_membership x.membership in
    let rest = rest_low v.leader_id.term (id ∷ all) h in
    let parts = parts_low ids (numbers_of_membership x.membership) (rest_low id all rest) in (
      first_low v.leader_id.term (id ∷ all) h,
      first_low id all rest,
      record { last = parts.0; membership = parts.1; entries = k },
    )
body_passed s (SnapshotReply m) h blank k = reply_parts m h

-- ---- all events

call_keeps : (own : ℕ) (call : GroupCall) (r : StepResult) → EventKeeps r → CallLow r.state call → EventKeeps (call_step own call r)
call_keeps own (Initialize m) r h k = first_keeps HasRoomForOne own m r h k.0 k.1
call_keeps own Elect r h k = elected HasRoomForOne own r h k.0 k.1
call_keeps own (Propose command token) r h k = tokened HasRoomForOne (Normal command) token r h k
call_keeps own (ChangeMembership change token) r h k = changed_keeps HasRoomForOne (membership_in_force r.state.stored) change token r h k
call_keeps own Heartbeat r h k = beat_keeps own r.state.role r h h.peers
call_keeps own (Lost peer) r h k = lost_keeps peer r.state.role r h h.peers
call_keeps own TriggerSnapshot r h k = snapshot_keeps HasRoomForOne r.state.applied r h
call_keeps own (TriggerPurge place) r h k = within_keeps HasRoomForOne place (snapshot_last r.state.stored) r h

body_keeps : (own peer : ℕ) (b : MessageBody) (r : StepResult) → EventKeeps r → BodyLow r.state b → EventKeeps (message_step own peer b r)
body_keeps own peer (VoteRequest v last) r h k = judged_keeps HasRoomForOne own peer v (may_grant r.state v last) r h k
body_keeps own peer (VoteReply v granted last) r h k =
    counted_keeps HasRoomForOne peer (granted && vote_eq v r.state.stored.vote) v r h k.0 k.1
body_keeps own peer (AppendRequest m) r h k = heard_keeps HasRoomForOne own peer m (vote_lt m.vote r.state.stored.vote) r h k
body_keeps own peer (AppendReply m) r h k = replied_keeps peer m r h k
body_keeps own peer (SnapshotRequest v id x) r h k =
    offered_keeps HasRoomForOne own peer v id x (vote_lt v r.state.stored.vote) r h k.0 k.1 k.2
body_keeps own peer (SnapshotReply m) r h k = replied_keeps peer m r h k

-- nothing was stored or sent yet
none_yet : (Q : PeerState → Type 0) (s : GroupState) → IsLowStored s.stored → EachPeer Q s.role → Keeps Q (unchanged s)
none_yet Q s h k = record { now = h; all = All-nil StoringLow; messages = All-nil LowMessage; peers = k }

event_ends : (r : StepResult) → EventKeeps r → EndKeeps r
event_ends r h = record { now = h.now; all = h.all; messages = h.messages; peers = peers_kept r.state.role h.peers }

last_of : (o : Option Snapshot) → IfSome o IsLowSnapshot → AreLow (numbers_of_id (option_map (λ (x : Snapshot). x.last) o))
last_of None h = none_low
last_of (Some x) h = h.last

module _ (own : ℕ) (s : GroupState) (low : IsLowStored s.stored) (peers : EachPeer IsLowPeer s.role) where
  event_keeps : (e : GroupEvent) → BringsLowPrefix e → refusal_of own s e ≡ None → EndKeeps (event_step own s e)
  event_keeps AddGroup f passed = stores IsLowPeer MakeGroup (unchanged s) (none_yet IsLowPeer s low peers) tt
  event_keeps (Call call now) f passed =
      let p = call_passed own s now call (no_reason (reasons_of own s (Call call now)) passed).1 in
      event_ends (call_step own call (begun now s))
      (call_keeps own call (begun now s) (none_yet HasRoomForOne (begun now s).state low (peers_passed s.role p.ids peers)) p.known)
  event_keeps (Receive peer m now) f passed =
      let why = no_reason (reasons_of own s (Receive peer m now)) passed in
      let p = numbers_passed s (now ∷ numbers_of m.body ++ next_blank s) why.1.1.0 in
      let parts = parts_low (numbers_of m.body) (next_blank s) (rest_low now (numbers_of m.body ++ next_blank s) p.0) in
      event_ends (message_step own peer m.body (begun now s))
      (body_keeps own peer m.body (begun now s)
      (none_yet HasRoomForOne (begun now s).state low (peers_passed s.role p.1 peers)) (body_passed s m.body parts.0 parts.1 f))
  event_keeps Open f passed =
      let last = snapshot_last s.stored in
      let fresh = unchanged (state_of s.stored) in
      resumed IsLowPeer own _
      (same IsLowPeer (drop_stale_log last fresh) _ refl refl refl refl
      (dropped IsLowPeer last fresh (none_yet IsLowPeer (state_of s.stored) low tt) (last_of s.stored.snapshot low.snapshot)))

  step_keeps : (e : GroupEvent) → BringsLowPrefix e → (why : Option RefusalReason) → refusal_of own s e ≡ why → EndKeeps (step_unless why own s e)
  step_keeps e f (Some why) is =
      same IsLowPeer (unchanged s) (refused_step s why) refl refl refl refl (none_yet IsLowPeer s low peers)
  step_keeps e f None is = finished_keeps own s.committed (event_step own s e) (event_keeps e f is)

pub steps_send_low : StepsSendLowNumbers
steps_send_low own s e low peers f =
    let k = step_keeps own s low peers e f (refusal_of own s e) refl in
    record {
      messages = k.messages;
      stored = k.now;
      peers = k.peers;
      stops = λ n. stop_low n (group_step own s e).commands s.stored low k.all;
    }
