-- Each kind of event keeps what is stored in line with the commands.
use Rattle.std.specs.Prelude.{◌≡◌, ℕ, ◌+◌, not, cond, Bool, true, false, List, [], ◌∷◌, length, Option, Some, None, refl}
use Rattle.raft_values.specs.declared.vote.Vote.{Vote}
use Rattle.raft_values.specs.Vote.{vote_of}
use Rattle.raft_values.specs.declared.log_id.LogId.{LogId}
use Rattle.raft_values.specs.LogId.{log_id_of}
use Rattle.raft_group_step.specs.Values.{Entry, EntryPayload, entry_of, LoggedMembership}
use Rattle.raft_state.specs.declared.entry.EntryPayload.TheVariants.{Membership as Members}
use Rattle.raft_group_step.specs.Values.{ChangeMembers}
use Rattle.raft_group_step.specs.StoredGroup.{has_id_in_log, StoredGroup, Snapshot, MakeGroup, PutEntries, CutFrom, RemoveUpTo, SetSnapshot, after_storing_all}
use Rattle.raft_group_step.specs.Message.{AppendFields, ReplyFields, ReplyResult, Success, PartialSuccess, Conflict, HigherVote, MessageBody, VoteRequest, VoteReply, AppendRequest, AppendReply, SnapshotRequest, SnapshotReply}
use Rattle.raft_group_step.specs.GroupState.{GroupState, Lead, Role, Follower, Candidate, Leader, state_of}
use Rattle.raft_group_step.specs.declared.group_call.GroupCall.TheVariants.{Initialize, Elect, Propose, ChangeMembership, Heartbeat, Lost, TriggerSnapshot, TriggerPurge}
use Rattle.raft_group_step.specs.GroupEvent.{GroupCall, GroupEvent, AddGroup, Call, Receive, Open}
use Rattle.raft_group_step.specs.StepResult.{is_within, StepResult, RefusalReason, unchanged, store, store_vote, step_down, take_over}
use Rattle.raft_group_step.specs.Elect.{ask, stand, elect_step, other_voters}
use Rattle.raft_group_step.specs.VoteRequest.{judged, may_grant}
use Rattle.raft_group_step.specs.VoteReply.{take_over_greater, counted}
use Rattle.raft_group_step.specs.AppendRequest.{is_held, above_committed, missing_entries, cut_from, cut_at, put_entries, joined, heard}
use Rattle.raft_group_step.specs.SnapshotRequest.{place_above, cut_other, install, install_unless, offered}
use Rattle.raft_group_step.specs.Reply.{answered, with_higher_vote, reply_step}
use Rattle.raft_group_step.specs.Propose.{append_with_token}
use Rattle.raft_group_step.specs.MembershipStep.{append_changed}
use Rattle.raft_group_step.specs.Heartbeat.{send_notices, beat_as}
use Rattle.raft_group_step.specs.Lost.{lost_as}
use Rattle.raft_group_step.specs.Lead.{other_ids}
use Rattle.raft_group_step.specs.SnapshotTrigger.{store_snapshot_at, snapshot_of_applied}
use Rattle.raft_group_step.specs.PurgeTrigger.{purge_as, purge_within}
use Rattle.raft_group_step.specs.Opening.{drop_stale_log, resume_lead}
use Rattle.raft_group_step.specs.GroupStep.{begun, message_step, call_step, event_step, step_unless, group_step}
use Rattle.raft_group_step.specs.Refusal.{refusal_of}
use Rattle.raft_group_step.proofs.Words.{either, either_by, take_over_keeps_committed}
use Rattle.raft_group_step.proofs.Refusals.{past_above}
use Rattle.raft_laws.specs.Stop.{stopped_after}
use Rattle.raft_laws.specs.StoringOrder.{StoresInOrder}
use Rattle.raft_laws.proofs.StepWords.{same, store-keeps, store_vote-keeps, step_down-keeps, take_over-keeps, append-keeps, with_grant-keeps, remove-keeps, finished-keeps}
use Rattle.std.proofs.Math.Seq.{take-length}
use Rattle.std.proofs.Common.{sym, ◌∙◌, ap, subst, arith}
use Rattle.std.proofs.lemmas.Bool.{or_parts}
use Rattle.raft_laws.proofs.VoteOrders.{not_below, later_term_not_below}

-- each of the entries stands above the place
abbrev AllAbove : Option ℕ → List Entry → Type 0
AllAbove committed [] = Unit {0}
AllAbove committed (e ∷ es) = (is_within e.log_id.index committed ≡ false) × AllAbove committed es

above-all : (committed : Option ℕ) (es : List Entry) → AllAbove committed (above_committed committed es)
above-all committed [] = tt
above-all committed (e ∷ es) = go (is_within e.log_id.index committed) refl (above-all committed es)
  where
    go : (b : Bool) → is_within e.log_id.index committed ≡ b → AllAbove committed (above_committed committed es) → AllAbove committed (cond (not b) (e ∷ above_committed committed es) (above_committed committed es))
    go true q rest = rest
    go false q rest = (q, rest)

missing-above : (committed : Option ℕ) (s : StoredGroup) (es : List Entry) → AllAbove committed es → AllAbove committed (missing_entries s es)
missing-above committed s [] h = tt
missing-above committed s (e ∷ es) h = go (has_id_in_log s e.log_id) (missing-above committed s es h.1)
  where
    go : (b : Bool) → AllAbove committed (missing_entries s es) → AllAbove committed (cond b (missing_entries s es) (e ∷ es))
    go true rest = rest
    go false rest = h

module _ (committed : Option ℕ) (s : StoredGroup) where
  ask-keeps : (own : ℕ) (ns : List ℕ) (r : StepResult) → StoresInOrder committed s r → StoresInOrder committed s (ask own ns r)
  ask-keeps own [] r h = h
  ask-keeps own (n ∷ ns) r h = ask-keeps own ns _ (same committed s r _ refl refl h)

  stand-keeps : (own : ℕ) (r : StepResult) → StoresInOrder committed s r → StoresInOrder committed s (stand own r)
  stand-keeps own r h =
      ask-keeps own (other_voters own r.state.stored) _
      (same committed s (store_vote _ (step_down r)) _ refl refl
      (store_vote-keeps committed s _ (step_down r) (step_down-keeps committed s r h)
      (later_term_not_below (vote_of (r.state.stored.vote.leader_id.term + 1) own false) r.state.stored.vote (omega arith))))

  elect-keeps : (own : ℕ) (r : StepResult) → StoresInOrder committed s r → StoresInOrder committed s (elect_step own r)
  elect-keeps own r h = with_grant-keeps committed s own (stand own r).state.role (stand own r) (stand-keeps own r h)

  judged-keeps : (own peer : ℕ) (v : Vote ℕ) (b : Bool) (r : StepResult) → StoresInOrder committed s r → StoresInOrder committed s (judged own peer v b r)
  judged-keeps own peer v true r h = same committed s (take_over v r) _ refl refl (take_over-keeps committed s v r h)
  judged-keeps own peer v false r h = same committed s r _ refl refl h

  greater-keeps : (v : Vote ℕ) (r : StepResult) → StoresInOrder committed s r → StoresInOrder committed s (take_over_greater v r)
  greater-keeps v r h =
      either_by (StoresInOrder committed s) _ _ _
      (λ t. store_vote-keeps committed s v (step_down r) (step_down-keeps committed s r h) (not_below r.state.stored.vote v t))
      (λ t. h)

  counted-keeps : (peer : ℕ) (b : Bool) (v : Vote ℕ) (r : StepResult) → StoresInOrder committed s r → StoresInOrder committed s (counted peer b v r)
  counted-keeps peer true v r h = with_grant-keeps committed s peer r.state.role r h
  counted-keeps peer false v r h = greater-keeps v r h

  cut_from-keeps : (i : ℕ) (r : StepResult) → StoresInOrder committed s r → is_within i committed ≡ false → StoresInOrder committed s (cut_from i r)
  cut_from-keeps i r h p = either (StoresInOrder committed s) _ _ _ (store-keeps committed s (CutFrom i) r h p) h

  cut_at-keeps : (id : Option (LogId ℕ)) (r : StepResult) → StoresInOrder committed s r → is_held r.state.stored committed id ≡ false → StoresInOrder committed s (cut_at id r)
  cut_at-keeps None r h p = h
  cut_at-keeps (Some id) r h p = cut_from-keeps id.index r h (or_parts _ _ p).0

  put-keeps : (es : List Entry) (r : StepResult) → StoresInOrder committed s r → AllAbove committed es → StoresInOrder committed s (put_entries es r)
  put-keeps [] r h p = h
  put-keeps (e ∷ es) r h p = store-keeps committed s _ _ (cut_from-keeps e.log_id.index r h p.0) tt

  joined-keeps : (own peer : ℕ) (m : AppendFields) (b : Bool) (r : StepResult) → StoresInOrder committed s r → r.state.committed ≡ committed → is_held r.state.stored r.state.committed m.previous ≡ b → StoresInOrder committed s (joined own peer m b r)
  joined-keeps own peer m true r h c p =
      same committed s (put_entries _ r) _ refl refl
      (put-keeps _ r h
      (missing-above committed r.state.stored _
      (subst (λ x. AllAbove committed (above_committed x m.entries)) (sym c) (above-all committed m.entries))))
  joined-keeps own peer m false r h c p =
      same committed s (cut_at m.previous r) _ refl refl
      (cut_at-keeps m.previous r h (ap (λ x. is_held r.state.stored x m.previous) (sym c) ∙ p))

  heard-keeps : (own peer : ℕ) (m : AppendFields) (b : Bool) (r : StepResult) → StoresInOrder committed s r → r.state.committed ≡ committed → StoresInOrder committed s (heard own peer m b r)
  heard-keeps own peer m true r h c = same committed s r _ refl refl h
  heard-keeps own peer m false r h c =
      joined-keeps own peer m _ (take_over m.vote r) (take_over-keeps committed s m.vote r h)
      (take_over_keeps_committed m.vote r ∙ c) refl

  cut_other-keeps : (last : LogId ℕ) (r : StepResult) → StoresInOrder committed s r → r.state.committed ≡ committed → StoresInOrder committed s (cut_other last r)
  cut_other-keeps last r h c =
      either (StoresInOrder committed s) _ _ _ h
      (either (StoresInOrder committed s) _ _ _ (cut_from-keeps (place_above r.state.committed) r h
      (ap (λ x. is_within (place_above x) committed) c ∙ past_above committed)) h)

  install-keeps : (x : Snapshot) (r : StepResult) → StoresInOrder committed s r → r.state.committed ≡ committed → StoresInOrder committed s (install x r)
  install-keeps x r h c =
      same committed s (store _ (store _ (cut_other x.last r))) _ refl refl
      (store-keeps committed s (RemoveUpTo x.last) _
      (store-keeps committed s (SetSnapshot x) _ (cut_other-keeps x.last r h c) tt) tt)

  install_unless-keeps : (b : Bool) (x : Snapshot) (r : StepResult) → StoresInOrder committed s r → r.state.committed ≡ committed → StoresInOrder committed s (install_unless b x r)
  install_unless-keeps true x r h c = h
  install_unless-keeps false x r h c = install-keeps x r h c

  offered-keeps : (own peer : ℕ) (v : Vote ℕ) (id : ℕ) (x : Snapshot) (b : Bool) (r : StepResult) → StoresInOrder committed s r → r.state.committed ≡ committed → StoresInOrder committed s (offered own peer v id x b r)
  offered-keeps own peer v id x true r h c = same committed s r _ refl refl h
  offered-keeps own peer v id x false r h c =
      same committed s (install_unless _ x (take_over v r)) _ refl refl
      (install_unless-keeps _ x (take_over v r) (take_over-keeps committed s v r h) (take_over_keeps_committed v r ∙ c))

  higher-keeps : (o : ReplyResult) (r : StepResult) → StoresInOrder committed s r → StoresInOrder committed s (with_higher_vote o r)
  higher-keeps Success r h = h
  higher-keeps (PartialSuccess last) r h = h
  higher-keeps Conflict r h = h
  higher-keeps (HigherVote v) r h = greater-keeps v r h

  answered-keeps : (peer : ℕ) (m : ReplyFields) (role : Role) (r : StepResult) → StoresInOrder committed s r → StoresInOrder committed s (answered peer m role r)
  answered-keeps peer m Follower r h = h
  answered-keeps peer m (Candidate g) r h = h
  answered-keeps peer m (Leader lead) r h = either (StoresInOrder committed s) _ _ _ (same committed s r _ refl refl h) h

  reply-keeps : (peer : ℕ) (m : ReplyFields) (r : StepResult) → StoresInOrder committed s r → StoresInOrder committed s (reply_step peer m r)
  reply-keeps peer m r h =
      answered-keeps peer m (with_higher_vote m.outcome r).state.role (with_higher_vote m.outcome r) (higher-keeps m.outcome r h)

  message-keeps : (own peer : ℕ) (b : MessageBody) (r : StepResult) → StoresInOrder committed s r → r.state.committed ≡ committed → StoresInOrder committed s (message_step own peer b r)
  message-keeps own peer (VoteRequest v last) r h c = judged-keeps own peer v (may_grant r.state v last) r h
  message-keeps own peer (VoteReply v granted last) r h c = counted-keeps peer _ v r h
  message-keeps own peer (AppendRequest m) r h c = heard-keeps own peer m _ r h c
  message-keeps own peer (AppendReply m) r h c = reply-keeps peer m r h
  message-keeps own peer (SnapshotRequest v id x) r h c = offered-keeps own peer v id x _ r h c
  message-keeps own peer (SnapshotReply m) r h c = reply-keeps peer m r h

  token-keeps : (p : EntryPayload) (token : ℕ) (r : StepResult) → StoresInOrder committed s r → StoresInOrder committed s (append_with_token p token r)
  token-keeps p token r h = append-keeps committed s p _ (same committed s r _ refl refl h)

  changed-keeps : (m : Option LoggedMembership) (c : ChangeMembers) (token : ℕ) (r : StepResult) → StoresInOrder committed s r → StoresInOrder committed s (append_changed m c token r)
  changed-keeps None c token r h = h
  changed-keeps (Some m) c token r h = token-keeps _ token r h

  notices-keeps : (own : ℕ) (lead : Lead) (ns : List ℕ) (r : StepResult) → StoresInOrder committed s r → StoresInOrder committed s (send_notices own lead ns r)
  notices-keeps own lead [] r h = h
  notices-keeps own lead (n ∷ ns) r h = notices-keeps own lead ns _ (same committed s r _ refl refl h)

  beat-keeps : (own : ℕ) (role : Role) (r : StepResult) → StoresInOrder committed s r → StoresInOrder committed s (beat_as own role r)
  beat-keeps own Follower r h = h
  beat-keeps own (Candidate g) r h = h
  beat-keeps own (Leader lead) r h = notices-keeps own lead (other_ids own r.state.stored) r h

  lost-keeps : (peer : ℕ) (role : Role) (r : StepResult) → StoresInOrder committed s r → StoresInOrder committed s (lost_as peer role r)
  lost-keeps peer Follower r h = h
  lost-keeps peer (Candidate g) r h = h
  lost-keeps peer (Leader lead) r h = either (StoresInOrder committed s) _ _ _ (same committed s r _ refl refl h) h

  snapshot_at-keeps : (id : Option (LogId ℕ)) (r : StepResult) → StoresInOrder committed s r → StoresInOrder committed s (store_snapshot_at id r)
  snapshot_at-keeps None r h = h
  snapshot_at-keeps (Some id) r h = store-keeps committed s _ r h tt

  snapshot-keeps : (a : Option ℕ) (r : StepResult) → StoresInOrder committed s r → StoresInOrder committed s (snapshot_of_applied a r)
  snapshot-keeps None r h = h
  snapshot-keeps (Some a) r h = either (StoresInOrder committed s) _ _ _ h (snapshot_at-keeps _ r h)

  purge_as-keeps : (i : ℕ) (role : Role) (r : StepResult) → StoresInOrder committed s r → StoresInOrder committed s (purge_as i role r)
  purge_as-keeps i Follower r h = remove-keeps committed s _ r h
  purge_as-keeps i (Candidate g) r h = remove-keeps committed s _ r h
  purge_as-keeps i (Leader lead) r h = either (StoresInOrder committed s) _ _ _ h (same committed s r _ refl refl h)

  purge_within-keeps : (i : ℕ) (last : Option (LogId ℕ)) (r : StepResult) → StoresInOrder committed s r → StoresInOrder committed s (purge_within i last r)
  purge_within-keeps i None r h = h
  purge_within-keeps i (Some last) r h = purge_as-keeps _ r.state.role r h

  call-keeps : (own : ℕ) (c : GroupCall) (r : StepResult) → StoresInOrder committed s r → StoresInOrder committed s (call_step own c r)
  call-keeps own (Initialize m) r h =
      elect-keeps own _
      (store-keeps committed s (PutEntries 0 (entry_of (log_id_of 0 0 0) (Members m) ∷ [])) r h tt)
  call-keeps own Elect r h = elect-keeps own r h
  call-keeps own (Propose c t) r h = token-keeps _ t r h
  call-keeps own (ChangeMembership c t) r h = changed-keeps _ c t r h
  call-keeps own Heartbeat r h = beat-keeps own r.state.role r h
  call-keeps own (Lost p) r h = lost-keeps p r.state.role r h
  call-keeps own TriggerSnapshot r h = snapshot-keeps r.state.applied r h
  call-keeps own (TriggerPurge i) r h = purge_within-keeps i _ r h

  drop-keeps : (last : Option (LogId ℕ)) (r : StepResult) → StoresInOrder committed s r → StoresInOrder committed s (drop_stale_log last r)
  drop-keeps None r h = h
  drop-keeps (Some last) r h = either (StoresInOrder committed s) _ _ _ h (store-keeps committed s _ r h tt)

  resume-keeps : (own : ℕ) (r : StepResult) → StoresInOrder committed s r → StoresInOrder committed s (resume_lead own r)
  resume-keeps own r h = either (StoresInOrder committed s) _ _ _ (same committed s r _ refl refl h) h

  start : (st : GroupState) → st.stored ≡ s → StoresInOrder committed s (unchanged st)
  start st e = record { stored = e; all = tt }

event-keeps : (own : ℕ) (st : GroupState) (e : GroupEvent) → StoresInOrder st.committed st.stored (event_step own st e)
event-keeps own st AddGroup = store-keeps st.committed st.stored MakeGroup (unchanged st) (start st.committed st.stored st refl) tt
event-keeps own st (Call c now) = call-keeps st.committed st.stored own c (begun now st) (start st.committed st.stored _ refl)
event-keeps own st (Receive peer m now) = message-keeps st.committed st.stored own peer m.body (begun now st) (start st.committed st.stored _ refl) refl
event-keeps own st Open =
    resume-keeps st.committed st.stored own _
    (same st.committed st.stored (drop_stale_log _ (unchanged (state_of st.stored))) _ refl refl
    (drop-keeps st.committed st.stored _ (unchanged (state_of st.stored)) (start st.committed st.stored _ refl)))

unless-keeps : (own : ℕ) (st : GroupState) (e : GroupEvent) (why : Option RefusalReason) → StoresInOrder st.committed st.stored (step_unless why own st e)
unless-keeps own st e (Some why) = record { stored = refl; all = tt }
unless-keeps own st e None = finished-keeps st.committed st.stored own st.committed _ (event-keeps own st e)

pub step-keeps : (own : ℕ) (st : GroupState) (e : GroupEvent) → StoresInOrder st.committed st.stored (group_step own st e)
step-keeps own st e = unless-keeps own st e (refusal_of own st e)

-- a step that stops after all its storing commands has stored what it stores
pub stopped_at_end : (own : ℕ) (s : GroupState) (e : GroupEvent) → (group_step own s e).state.stored ≡ stopped_after (length (group_step own s e).commands) s.stored (group_step own s e)
stopped_at_end own s e = (step-keeps own s e).stored ∙ ap (λ cs. after_storing_all cs s.stored) (sym (take-length (group_step own s e).commands))
