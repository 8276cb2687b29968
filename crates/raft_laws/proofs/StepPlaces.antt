-- Each kind of event that isn't refused keeps the places of what is stored low, after each of its storing commands.
use Rattle.std.specs.Prelude.{◌≡◌, ℕ, ◌+◌, ◌≤◌, ◌<◌, ◌^◌, ◌==◌, ◌&&◌, cond, is_none, is_some, Bool, true, false, List, [], ◌∷◌, ◌++◌, Option, Some, None, option_map, refl}
use Rattle.std.proofs.Common.{sym, subst, arith, eqb-true}
use Rattle.std.proofs.lemmas.Bool.{and_parts}
use Rattle.raft_values.specs.declared.vote.Vote.{Vote}
use Rattle.raft_values.specs.Vote.{vote_of}
use Rattle.raft_values.specs.declared.log_id.LogId.{LogId}
use Rattle.raft_values.specs.LogId.{log_id_of, next_place}
use Rattle.raft_quorums.specs.Quorum.{is_quorum}
use Rattle.raft_state.specs.declared.entry.EntryPayload.TheVariants.{Blank, Membership as Members}
use Rattle.raft_group_step.specs.Values.{ChangeMembers, Entry, EntryPayload, entry_of, has_id, LoggedMembership, Membership, vote_eq, vote_lt}
use Rattle.raft_group_step.specs.StoredGroup.{StoredGroup, Snapshot, MakeGroup, SetVote, PutEntries, CutFrom, RemoveUpTo, SetSnapshot, StartAfter, end_place, entry_at, first_place, has_id_in_log, id_of, membership_in_force, snapshot_last}
use Rattle.raft_group_step.specs.Message.{AppendFields, ReplyFields, ReplyResult, Success, PartialSuccess, Conflict, HigherVote, MessageBody, VoteRequest, VoteReply, AppendRequest, AppendReply, SnapshotRequest, SnapshotReply}
use Rattle.raft_group_step.specs.GroupState.{GroupState, Lead, Role, Follower, Candidate, Leader, is_candidate, state_of}
use Rattle.raft_group_step.specs.declared.group_call.GroupCall.TheVariants.{Initialize, Elect, Propose, ChangeMembership, Heartbeat, Lost, TriggerSnapshot, TriggerPurge}
use Rattle.raft_group_step.specs.GroupEvent.{GroupCall, GroupEvent, AddGroup, Call, Receive, Open}
use Rattle.raft_group_step.specs.StepResult.{StepResult, RefusalReason, NotAllowed, append, in_role, is_within, renew, step_down, store, store_vote, take_over, unchanged}
use Rattle.raft_group_step.specs.Elect.{ask, elect_step, other_voters, stand}
use Rattle.raft_group_step.specs.VoteRequest.{judged, may_grant}
use Rattle.raft_group_step.specs.VoteReply.{counted, take_over_greater}
use Rattle.raft_group_step.specs.AppendRequest.{above_committed, cut_at, cut_from, heard, is_held, joined, missing_entries, put_entries}
use Rattle.raft_group_step.specs.SnapshotRequest.{cut_other, install, install_unless, offered, place_above}
use Rattle.raft_group_step.specs.Reply.{answered, reply_step, with_higher_vote}
use Rattle.raft_group_step.specs.Propose.{append_with_token}
use Rattle.raft_group_step.specs.MembershipStep.{append_changed}
use Rattle.raft_group_step.specs.Heartbeat.{beat_as, send_notices}
use Rattle.raft_group_step.specs.Lost.{lost_as}
use Rattle.raft_group_step.specs.Lead.{begin_lead, commit_as_leader, configs_in_force, lead_if, other_ids, purge_as_wished, purge_up_to, remove_up_to, with_grant, with_wish}
use Rattle.raft_group_step.specs.Frames.{with_frames}
use Rattle.raft_group_step.specs.SnapshotTrigger.{snapshot_of_applied, store_snapshot_at}
use Rattle.raft_group_step.specs.PurgeTrigger.{purge_as, purge_within}
use Rattle.raft_group_step.specs.Opening.{drop_stale_log, resume_lead}
use Rattle.raft_group_step.specs.Initialize.{initialize_step, is_new}
use Rattle.raft_group_step.specs.GroupStep.{begun, call_step, event_step, finished, group_step, message_step, step_unless}
use Rattle.raft_group_step.specs.Refusal.{do_follow, is_sound, is_of_leader, keep_voters, next_blank, next_term, numbers_of, numbers_of_entries, numbers_of_id, numbers_of_request, reasons_of, reasons_of_call, refusal_of}
use Rattle.raft_group_step.proofs.Words.{either, ask_state, cut_keeps_first}
use Rattle.raft_group_step.proofs.Refusals.{unless_none}
use Rattle.raft_laws.proofs.StepCalls.{NoReason, no_reason}
use Rattle.raft_laws.proofs.StepCommits.{frames_same}
use Rattle.raft_laws.proofs.StepMessages.{message_passed}
use Rattle.raft_laws.proofs.StepEntries.{Each}
use Rattle.raft_laws.proofs.LowGroups.{Low, StaysLow, low_id, put_end, same_low, store_low}
use Rattle.raft_laws.proofs.LowNumbers.{IsLow, StandAbove, StandFrom, above_stand, entries_low, follow_stand, low_parts, missing_stand, passed_low, stand_each, stand_end}

-- there is room for one more entry
abbrev pub HasRoom : GroupState → Type 0
HasRoom s = end_place s.stored < 2 ^ 62

-- the log begins no higher than what is committed ends
abbrev pub BeginsCommitted : GroupState → Type 0
BeginsCommitted s = first_place s.stored ≤ place_above s.committed

module _ (start : StoredGroup) where
  abbrev Stays : StepResult → Type 0
  Stays r = StaysLow start r

  same : (r q : StepResult) → q.state.stored ≡ r.state.stored → q.commands ≡ r.commands → Stays r → Stays q
  same r q e c h = same_low start r q e c h

  -- ---- votes

  vote_low : (v : Vote ℕ) (r : StepResult) → Stays r → Stays (store_vote v r)
  vote_low v r h = same (store (SetVote v) r) (store_vote v r) refl refl (store_low start (SetVote v) r h tt)

  down_low : (v : Vote ℕ) (r : StepResult) → Stays r → Stays (store_vote v (step_down r))
  down_low v r h = vote_low v (step_down r) (same r (step_down r) refl refl h)

  take_over_low : (v : Vote ℕ) (r : StepResult) → Stays r → Stays (take_over v r)
  take_over_low v r h = either Stays _ _ _ (down_low v r h) (same r (renew r) refl refl h)

  greater_low : (v : Vote ℕ) (r : StepResult) → Stays r → Stays (take_over_greater v r)
  greater_low v r h = either Stays _ _ _ (down_low v r h) h

  judged_low : (own peer : ℕ) (v : Vote ℕ) (b : Bool) (r : StepResult) → Stays r → Stays (judged own peer v b r)
  judged_low own peer v true r h = same (take_over v r) _ refl refl (take_over_low v r h)
  judged_low own peer v false r h = same r _ refl refl h

  -- ---- entries that the node writes itself

  append_low : (p : EntryPayload) (r : StepResult) → Stays r → HasRoom r.state → Stays (append p r)
  append_low p r h l = store_low start _ r h (omega (arith, l), (l, tt))

  begin_low : (r : StepResult) → Stays r → HasRoom r.state → Stays (begin_lead r)
  begin_low r h l =
      let voted = vote_low _ r h in
      either Stays _ _ _ (same _ _ refl refl voted) (append_low Blank _ (same _ _ refl refl voted) l)

  lead_if_low : (b : Bool) (r : StepResult) → Stays r → HasRoom r.state → Stays (lead_if b r)
  lead_if_low true r h l = begin_low r h l
  lead_if_low false r h l = h

  grant_low : (n : ℕ) (role : Role) (r : StepResult) → Stays r → (is_candidate role ≡ true → HasRoom r.state) → Stays (with_grant n role r)
  grant_low n Follower r h l = h
  grant_low n (Candidate granters) r h l =
      let granted = cond (has_id granters n) granters (granters ++ n ∷ []) in
      lead_if_low (is_quorum (configs_in_force r.state.stored) (has_id granted)) (in_role (Candidate granted) r)
      (same r (in_role (Candidate granted) r) refl refl h) (l refl)
  grant_low n (Leader lead) r h l = h

  counted_low : (peer : ℕ) (b : Bool) (v : Vote ℕ) (r : StepResult) → Stays r → (is_candidate r.state.role ≡ true → HasRoom r.state) → Stays (counted peer b v r)
  counted_low peer true v r h l = grant_low peer r.state.role r h l
  counted_low peer false v r h l = greater_low v r h

  token_low : (p : EntryPayload) (token : ℕ) (r : StepResult) → Stays r → HasRoom r.state → Stays (append_with_token p token r)
  token_low p token r h l = append_low p _ (same r _ refl refl h) l

  changed_low : (m : Option LoggedMembership) (change : ChangeMembers) (token : ℕ) (r : StepResult) → Stays r → HasRoom r.state → Stays (append_changed m change token r)
  changed_low None change token r h l = h
  changed_low (Some m) change token r h l = token_low _ token r h l

  ask_low : (own : ℕ) (ns : List ℕ) (r : StepResult) → Stays r → Stays (ask own ns r)
  ask_low own [] r h = h
  ask_low own (n ∷ ns) r h = ask_low own ns _ (same r _ refl refl h)

  elect_low : (own : ℕ) (r : StepResult) → Stays r → HasRoom r.state → Stays (elect_step own r)
  elect_low own r h l =
      let vote = vote_of (r.state.stored.vote.leader_id.term + 1) own false in
      let voted : StepResult = in_role (Candidate []) (store_vote vote (step_down r)) in
      grant_low own (stand own r).state.role (stand own r)
      (ask_low own (other_voters own r.state.stored) voted (same (store_vote vote (step_down r)) voted refl refl (down_low vote r h)))
      (λ t. subst HasRoom (sym (ask_state own (other_voters own r.state.stored) voted)) l)

  first_low : (own : ℕ) (m : Membership) (r : StepResult) → Stays r → end_place r.state.stored ≡ 0 → Stays (initialize_step own m r)
  first_low own m r h l =
      let es = entry_of (log_id_of 0 0 0) (Members m) ∷ [] in
      let put = store (PutEntries 0 es) r in
      let ends = put_end 0 es r.state.stored in
      elect_low own put (store_low start (PutEntries 0 es) r h (omega (arith, l), (omega arith, tt))) (omega (arith, l, ends))

  -- ---- entries of another leader

  cut_low : (i : ℕ) (r : StepResult) → Stays r → Stays (cut_from i r)
  cut_low i r h = either Stays _ _ _ (store_low start (CutFrom i) r h tt) h

  cut_at_low : (id : Option (LogId ℕ)) (r : StepResult) → Stays r → Stays (cut_at id r)
  cut_at_low None r h = h
  cut_at_low (Some id) r h = cut_low id.index r h

  put_low : (es : List Entry) (r : StepResult) → Stays r → StandAbove (first_place r.state.stored) es → Stays (put_entries es r)
  put_low [] r h k = h
  put_low (e ∷ es) r h k =
      let cut = cut_from e.log_id.index r in
      let begins = cut_keeps_first e.log_id.index r in
      let ends = stand_end k.0 (e ∷ es) (omega (arith, k.2.1)) k.2 in
      store_low start (PutEntries e.log_id.index (e ∷ es)) cut (cut_low e.log_id.index r h)
      (omega (arith, begins, ends, k.1, k.2.0), stand_each k.0 (e ∷ es) k.2)

  joined_low : (own peer : ℕ) (m : AppendFields) (b : Bool) (r : StepResult) → Stays r → BeginsCommitted r.state → StandFrom (next_place m.previous) m.entries → Stays (joined own peer m b r)
  joined_low own peer m true r h begins k =
      let above = above_stand r.state.committed (next_place m.previous) m.entries k in
      let fresh = missing_entries r.state.stored (above_committed r.state.committed m.entries) in
      same (put_entries fresh r) _ refl refl
      (put_low fresh r h (missing_stand r.state.stored (first_place r.state.stored) above.0 (above_committed r.state.committed m.entries) (omega (arith, above.1, begins)) above.2))
  joined_low own peer m false r h begins k = same (cut_at m.previous r) _ refl refl (cut_at_low m.previous r h)

  heard_low : (own peer : ℕ) (m : AppendFields) (b : Bool) (r : StepResult) → Stays r → BeginsCommitted r.state → StandFrom (next_place m.previous) m.entries → Stays (heard own peer m b r)
  heard_low own peer m true r h begins k = same r _ refl refl h
  heard_low own peer m false r h begins k =
      let taken = take_over m.vote r in
      joined_low own peer m (is_held taken.state.stored taken.state.committed m.previous) taken (take_over_low m.vote r h)
      (either (λ q. BeginsCommitted q.state) (vote_lt r.state.stored.vote m.vote) (store_vote m.vote (step_down r)) (renew r) begins begins)
      k

  -- ---- answers

  higher_low : (o : ReplyResult) (r : StepResult) → Stays r → Stays (with_higher_vote o r)
  higher_low Success r h = h
  higher_low (PartialSuccess last) r h = h
  higher_low Conflict r h = h
  higher_low (HigherVote v) r h = greater_low v r h

  answered_low : (peer : ℕ) (m : ReplyFields) (role : Role) (r : StepResult) → Stays r → Stays (answered peer m role r)
  answered_low peer m Follower r h = h
  answered_low peer m (Candidate granters) r h = h
  answered_low peer m (Leader lead) r h = either Stays _ _ _ (same r _ refl refl h) h

  reply_low : (peer : ℕ) (m : ReplyFields) (r : StepResult) → Stays r → Stays (reply_step peer m r)
  reply_low peer m r h =
      let judged = with_higher_vote m.outcome r in
      answered_low peer m judged.state.role judged (higher_low m.outcome r h)

  -- ---- snapshots

  cut_other_low : (last : LogId ℕ) (r : StepResult) → Stays r → Stays (cut_other last r)
  cut_other_low last r h =
      either Stays (has_id_in_log r.state.stored last) r (cond (is_some (entry_at r.state.stored last.index)) (cut_from (place_above r.state.committed) r) r) h
      (either Stays (is_some (entry_at r.state.stored last.index)) (cut_from (place_above r.state.committed) r) r (cut_low _ r h) h)

  install_low : (x : Snapshot) (r : StepResult) → Stays r → x.last.index < 2 ^ 62 → Stays (install x r)
  install_low x r h l =
      let cut = cut_other x.last r in
      let set = store (SetSnapshot x) cut in
      same (store (RemoveUpTo x.last) set) _ refl refl
      (store_low start (RemoveUpTo x.last) set (store_low start (SetSnapshot x) cut (cut_other_low x.last r h) l) l)

  unless_low : (b : Bool) (x : Snapshot) (r : StepResult) → Stays r → x.last.index < 2 ^ 62 → Stays (install_unless b x r)
  unless_low true x r h l = h
  unless_low false x r h l = install_low x r h l

  offered_low : (own peer : ℕ) (v : Vote ℕ) (id : ℕ) (x : Snapshot) (b : Bool) (r : StepResult) → Stays r → x.last.index < 2 ^ 62 → Stays (offered own peer v id x b r)
  offered_low own peer v id x true r h l = same r _ refl refl h
  offered_low own peer v id x false r h l =
      let taken = take_over v r in
      let installed = install_unless (is_within x.last.index taken.state.committed) x taken in
      same installed _ refl refl (unless_low (is_within x.last.index taken.state.committed) x taken (take_over_low v r h) l)

  -- what is at a place in the log is built a snapshot of
  shot_low : (id : Option (LogId ℕ)) (r : StepResult) → Stays r → ((last : LogId ℕ) → id ≡ Some last → last.index < 2 ^ 62) → Stays (store_snapshot_at id r)
  shot_low None r h l = h
  shot_low (Some id) r h l = store_low start _ r h (l id refl)

  shots_low : (applied : Option ℕ) (r : StepResult) → Stays r → Stays (snapshot_of_applied applied r)
  shots_low None r h = h
  shots_low (Some a) r h =
      either Stays _ _ _ h
      (shot_low (id_of (entry_at r.state.stored a)) r h (low_id r.state.stored h.now a))

  -- ---- purges

  remove_low : (id : Option (LogId ℕ)) (r : StepResult) → Stays r → ((last : LogId ℕ) → id ≡ Some last → last.index < 2 ^ 62) → Stays (remove_up_to id r)
  remove_low None r h l = h
  remove_low (Some id) r h l = store_low start (RemoveUpTo id) r h (l id refl)

  purge_low : (place : ℕ) (r : StepResult) → Stays r → Stays (purge_up_to place r)
  purge_low place r h = remove_low (id_of (entry_at r.state.stored place)) r h (low_id r.state.stored h.now place)

  purge_as_low : (place : ℕ) (role : Role) (r : StepResult) → Stays r → Stays (purge_as place role r)
  purge_as_low place Follower r h = purge_low place r h
  purge_as_low place (Candidate granters) r h = purge_low place r h
  purge_as_low place (Leader lead) r h = either Stays _ _ _ h (same r _ refl refl h)

  purge_within_low : (place : ℕ) (last : Option (LogId ℕ)) (r : StepResult) → Stays r → Stays (purge_within place last r)
  purge_within_low place None r h = h
  purge_within_low place (Some last) r h = purge_as_low _ r.state.role r h

  wished_low : (role : Role) (wish : Option ℕ) (r : StepResult) → Stays r → Stays (purge_as_wished role wish r)
  wished_low Follower wish r h = h
  wished_low (Candidate granters) wish r h = h
  wished_low (Leader lead) None r h = h
  wished_low (Leader lead) (Some place) r h =
      either Stays _ _ _ h (purge_low place (with_wish None r) (same r (with_wish None r) refl refl h))

  -- ---- the end of an event

  commit_low : (own : ℕ) (role : Role) (r : StepResult) → Stays r → Stays (commit_as_leader own role r)
  commit_low own Follower r h = h
  commit_low own (Candidate granters) r h = h
  commit_low own (Leader lead) r h = same r _ refl refl h

  frames_low : (own : ℕ) (before : Option ℕ) (r : StepResult) → Stays r → Stays (with_frames own before r)
  frames_low own before r h = let on = frames_same own before r in same r (with_frames own before r) on.0 on.4 h

  finished_low : (own : ℕ) (before : Option ℕ) (r : StepResult) → Stays r → Stays (finished own before r)
  finished_low own before r h =
      let committed = commit_as_leader own r.state.role r in
      frames_low own before _ (wished_low committed.state.role committed.state.wish committed (commit_low own r.state.role r h))

  -- ---- an opening

  drop_low : (x : Option Snapshot) (r : StepResult) → Stays r → ((y : Snapshot) → x ≡ Some y → y.last.index < 2 ^ 62) → Stays (drop_stale_log (option_map (λ (y : Snapshot). y.last) x) r)
  drop_low None r h l = h
  drop_low (Some x) r h l = either Stays _ _ _ h (store_low start (StartAfter x.last) r h (l x refl))

  resume_low : (own : ℕ) (r : StepResult) → Stays r → Stays (resume_lead own r)
  resume_low own r h = either Stays _ _ _ (same r _ refl refl h) h

  -- ---- calls

  notices_low : (own : ℕ) (lead : Lead) (ns : List ℕ) (r : StepResult) → Stays r → Stays (send_notices own lead ns r)
  notices_low own lead [] r h = h
  notices_low own lead (n ∷ ns) r h = notices_low own lead ns _ (same r _ refl refl h)

  beat_low : (own : ℕ) (role : Role) (r : StepResult) → Stays r → Stays (beat_as own role r)
  beat_low own Follower r h = h
  beat_low own (Candidate granters) r h = h
  beat_low own (Leader lead) r h = notices_low own lead (other_ids own r.state.stored) r h

  lost_low : (peer : ℕ) (role : Role) (r : StepResult) → Stays r → Stays (lost_as peer role r)
  lost_low peer Follower r h = h
  lost_low peer (Candidate granters) r h = h
  lost_low peer (Leader lead) r h = either Stays _ _ _ (same r _ refl refl h) h

  -- what a call that isn't refused is known to keep
  abbrev CallLow : GroupState → GroupCall → Type 0
  CallLow s (Initialize m) = end_place s.stored ≡ 0
  CallLow s Elect = HasRoom s
  CallLow s (Propose command token) = HasRoom s
  CallLow s (ChangeMembership change token) = HasRoom s
  CallLow s Heartbeat = Unit {0}
  CallLow s (Lost peer) = Unit {0}
  CallLow s TriggerSnapshot = Unit {0}
  CallLow s (TriggerPurge place) = Unit {0}

  call_low : (own : ℕ) (call : GroupCall) (r : StepResult) → Stays r → CallLow r.state call → Stays (call_step own call r)
  call_low own (Initialize m) r h l = first_low own m r h l
  call_low own Elect r h l = elect_low own r h l
  call_low own (Propose command token) r h l = token_low _ token r h l
  call_low own (ChangeMembership change token) r h l = changed_low _ change token r h l
  call_low own Heartbeat r h l = beat_low own r.state.role r h
  call_low own (Lost peer) r h l = lost_low peer r.state.role r h
  call_low own TriggerSnapshot r h l = shots_low r.state.applied r h
  call_low own (TriggerPurge place) r h l = purge_within_low place _ r h

  -- ---- messages

  -- what a message that isn't refused is known to keep
  abbrev BodyLow : GroupState → MessageBody → Type 0
  BodyLow s (VoteRequest v last) = Unit {0}
  BodyLow s (VoteReply v granted last) = is_candidate s.role ≡ true → HasRoom s
  BodyLow s (AppendRequest m) = StandFrom (next_place m.previous) m.entries
  BodyLow s (AppendReply m) = Unit {0}
  BodyLow s (SnapshotRequest v id x) = x.last.index < 2 ^ 62
  BodyLow s (SnapshotReply m) = Unit {0}

  body_low : (own peer : ℕ) (b : MessageBody) (r : StepResult) → Stays r → BeginsCommitted r.state → BodyLow r.state b → Stays (message_step own peer b r)
  body_low own peer (VoteRequest v last) r h begins l = judged_low own peer v (may_grant r.state v last) r h
  body_low own peer (VoteReply v granted last) r h begins l = counted_low peer _ v r h l
  body_low own peer (AppendRequest m) r h begins l = heard_low own peer m _ r h begins l
  body_low own peer (AppendReply m) r h begins l = reply_low peer m r h
  body_low own peer (SnapshotRequest v id x) r h begins l = offered_low own peer v id x _ r h l
  body_low own peer (SnapshotReply m) r h begins l = reply_low peer m r h

-- ---- what an event that isn't refused keeps

-- a candidate that a message may make a leader has room for its blank entry
blank_room : (s : GroupState) → Each IsLow (next_blank s) → is_candidate s.role ≡ true → HasRoom s
blank_room s h = go (is_candidate s.role) h
  where
    go : (b : Bool) → Each IsLow (cond b (end_place s.stored ∷ []) []) → b ≡ true → HasRoom s
    go true k t = k.0
    go false k t = absurd (let e : false ≡ true = t in cc)

call_known : (own : ℕ) (s : GroupState) (now : ℕ) (call : GroupCall) → NoReason (reasons_of_call own s now call) → CallLow s.stored s call
call_known own s now (Initialize m) passed =
    let new = unless_none (is_new s.stored) NotAllowed passed.1.1.1.0 in
    let two = and_parts (vote_eq s.stored.vote (vote_of 0 0 false) && end_place s.stored == 0) (is_none s.stored.snapshot) new in
    let one = and_parts (vote_eq s.stored.vote (vote_of 0 0 false)) (end_place s.stored == 0) two.0 in
    eqb-true (end_place s.stored) 0 one.1
call_known own s now Elect passed = (passed_low s (now ∷ next_term s ∷ end_place s.stored ∷ []) passed.0).1.1.0
call_known own s now (Propose command token) passed = (passed_low s (now ∷ end_place s.stored ∷ []) passed.1.0).1.0
call_known own s now (ChangeMembership change token) passed = (passed_low s (now ∷ end_place s.stored ∷ []) passed.0).1.0
call_known own s now Heartbeat passed = tt
call_known own s now (Lost peer) passed = tt
call_known own s now TriggerSnapshot passed = tt
call_known own s now (TriggerPurge place) passed = tt

body_known : (own peer : ℕ) (s : GroupState) (b : MessageBody) → Each IsLow (numbers_of b) → Each IsLow (next_blank s) → is_sound own peer s.stored b ≡ true → BodyLow s.stored s b
body_known own peer s (VoteRequest v last) h blank sound = tt
body_known own peer s (VoteReply v granted last) h blank sound = blank_room s blank
body_known own peer s (AppendRequest m) h blank sound =
    let one = and_parts (is_of_leader peer m.vote && do_follow m.vote m.previous m.entries) (keep_voters (membership_in_force s.stored) m.entries) sound in
    let two = and_parts (is_of_leader peer m.vote) (do_follow m.vote m.previous m.entries) one.0 in
    let ids = low_parts (numbers_of_request m.id ++ numbers_of_id m.previous ++ numbers_of_id m.committed) (numbers_of_entries m.entries) h.1 in
    follow_stand m.vote m.previous m.entries two.1 (entries_low m.entries ids.1)
body_known own peer s (AppendReply m) h blank sound = tt
body_known own peer s (SnapshotRequest v id x) h blank sound = h.1.1.1.0
body_known own peer s (SnapshotReply m) h blank sound = tt

-- what is to be known of the node before an event
abbrev pub MayBegin : GroupState → GroupEvent → Type 0
MayBegin s AddGroup = Unit {0}
MayBegin s (Call call now) = Unit {0}
MayBegin s (Receive peer x now) = BeginsCommitted s
MayBegin s Open = Unit {0}

nothing_yet : (s : GroupState) → Low s.stored → StaysLow s.stored (unchanged s)
nothing_yet s h = record { stored = refl; all = h; now = h }

event_low : (own : ℕ) (s : GroupState) (e : GroupEvent) → refusal_of own s e ≡ None → Low s.stored → MayBegin s e → StaysLow s.stored (event_step own s e)
event_low own s AddGroup passed h begins = store_low s.stored MakeGroup (unchanged s) (nothing_yet s h) tt
event_low own s (Call call now) passed h begins =
    let p = no_reason (reasons_of own s (Call call now)) passed in
    call_low s.stored own call (begun now s) (nothing_yet (begun now s).state h) (call_known own s now call p.1)
event_low own s (Receive peer x now) passed h begins =
    let p = no_reason (reasons_of own s (Receive peer x now)) passed in
    let numbers = passed_low s (now ∷ numbers_of x.body ++ next_blank s) p.1.1.0 in
    let parts = low_parts (numbers_of x.body) (next_blank s) numbers.1 in
    body_low s.stored own peer x.body (begun now s) (nothing_yet (begun now s).state h) begins
    (body_known own peer s x.body parts.0 parts.1 (message_passed own s peer x now passed).sound)
event_low own s Open passed h begins =
    let fresh = unchanged (state_of s.stored) in
    resume_low s.stored own _
    (same_low s.stored (drop_stale_log (snapshot_last s.stored) fresh) _ refl refl
    (drop_low s.stored s.stored.snapshot fresh (nothing_yet (state_of s.stored) h) h.snapshot))

unless_refused : (own : ℕ) (s : GroupState) (e : GroupEvent) (why : Option RefusalReason) → refusal_of own s e ≡ why → Low s.stored → MayBegin s e → StaysLow s.stored (step_unless why own s e)
unless_refused own s e (Some why) is h begins = record { stored = refl; all = h; now = h }
unless_refused own s e None is h begins = finished_low s.stored own s.committed _ (event_low own s e is h begins)

-- each step keeps places low, after each of its storing commands
pub step_low : (own : ℕ) (s : GroupState) (e : GroupEvent) → Low s.stored → MayBegin s e → StaysLow s.stored (group_step own s e)
step_low own s e h begins = unless_refused own s e (refusal_of own s e) refl h begins
