-- Where the entries of a step come from: what holds of each entry that a node has, that comes in a message and that the
-- event writes, holds of each entry that the node has then, wherever it stops, and of each that it sends.
use Rattle.std.specs.Prelude.{◌≡◌, ℕ, zero, suc, ◌+◌, ◌&&◌, cond, nat_lt, Bool, true, false, List, [], ◌∷◌, ◌++◌, take, drop, filter, slice_get, Option, Some, None, is_none, refl}
use Rattle.std.proofs.Common.{sym, subst}
use Rattle.raft_values.specs.declared.vote.Vote.{Vote}
use Rattle.raft_values.specs.declared.log_id.LogId.{LogId}
use Rattle.raft_values.specs.LogId.{log_id_of}
use Rattle.raft_quorums.specs.Quorum.{is_quorum}
use Rattle.raft_state.specs.declared.entry.EntryPayload.TheVariants.{Blank, Normal, Membership as Members}
use Rattle.raft_group_step.specs.Values.{after_change, ChangeMembers, Entry, EntryPayload, entry_of, has_id, LoggedMembership, vote_lt}
use Rattle.raft_group_step.specs.StoredGroup.{StoredGroup, Snapshot, StoringCommand, MakeGroup, SetVote, PutEntries, CutFrom, RemoveUpTo, SetSnapshot, StartAfter, after_storing, after_storing_all, end_place, first_place, has_id_in_log, held, membership_in_force, prefix_of, snapshot_last}
use Rattle.raft_group_step.specs.Message.{Message, MessageBody, VoteRequest, VoteReply, AppendRequest, AppendReply, SnapshotRequest, SnapshotReply, AppendFields, ReplyFields, ReplyResult, Success, PartialSuccess, Conflict, HigherVote}
use Rattle.raft_group_step.specs.Peer.{PeerState, is_kept_for_peers}
use Rattle.raft_group_step.specs.GroupState.{GroupState, Lead, Role, Follower, Candidate, Leader, state_of}
use Rattle.raft_group_step.specs.declared.group_call.GroupCall.TheVariants.{Initialize, Elect, Propose, ChangeMembership, Heartbeat, Lost, TriggerSnapshot, TriggerPurge}
use Rattle.raft_group_step.specs.GroupEvent.{GroupCall, GroupEvent, AddGroup, Call, Receive, Open}
use Rattle.raft_group_step.specs.StepResult.{RefusalReason, StepResult, append, in_role, refused_step, send, step_down, store, store_vote, take_over, unchanged}
use Rattle.raft_group_step.specs.Lead.{begin_lead, commit_as_leader, configs_in_force, lead_if, other_ids, purge_as_wished, purge_up_to, remove_up_to, with_grant, with_wish}
use Rattle.raft_group_step.specs.Frames.{entries_in_request, has_grown, lacks_entries, notice, send_entries, send_request, send_snapshot, serve, serve_all, serve_as}
use Rattle.raft_group_step.specs.Elect.{ask, elect_step, other_voters, stand}
use Rattle.raft_group_step.specs.VoteRequest.{judged, may_grant}
use Rattle.raft_group_step.specs.VoteReply.{counted, take_over_greater}
use Rattle.raft_group_step.specs.AppendRequest.{above_committed, cut_at, cut_from, heard, joined, missing_entries, put_entries}
use Rattle.raft_group_step.specs.SnapshotRequest.{cut_other, install, install_unless, offered, place_above}
use Rattle.raft_group_step.specs.Reply.{answered, reply_step, with_higher_vote}
use Rattle.raft_group_step.specs.Propose.{append_with_token}
use Rattle.raft_group_step.specs.MembershipStep.{append_changed}
use Rattle.raft_group_step.specs.Heartbeat.{beat_as, send_notices}
use Rattle.raft_group_step.specs.Lost.{lost_as}
use Rattle.raft_group_step.specs.SnapshotTrigger.{snapshot_at, snapshot_of_applied, store_snapshot_at}
use Rattle.raft_group_step.specs.PurgeTrigger.{purge_as, purge_within}
use Rattle.raft_group_step.specs.Opening.{drop_stale_log, resume_lead}
use Rattle.raft_group_step.specs.Refusal.{refusal_of}
use Rattle.raft_group_step.specs.GroupStep.{begun, call_step, event_step, finished, group_step, message_step, step_unless}
use Rattle.raft_group_step.proofs.Words.{either, either_by}

-- each of these is so
abbrev pub Each : {A : Type 0} → (A → Type 0) → List A → Type 0
Each P [] = Unit {0}
Each P (x ∷ xs) = P x × Each P xs

pub each_take : {A : Type 0} (P : A → Type 0) (k : ℕ) (xs : List A) → Each P xs → Each P (take k xs)
each_take P zero xs h = tt
each_take P (suc k) [] h = tt
each_take P (suc k) (x ∷ xs) h = (h.0, each_take P k xs h.1)

pub each_drop : {A : Type 0} (P : A → Type 0) (k : ℕ) (xs : List A) → Each P xs → Each P (drop k xs)
each_drop P zero xs h = h
each_drop P (suc k) [] h = tt
each_drop P (suc k) (x ∷ xs) h = each_drop P k xs h.1

pub each_append : {A : Type 0} (P : A → Type 0) (xs ys : List A) → Each P xs → Each P ys → Each P (xs ++ ys)
each_append P [] ys h k = k
each_append P (x ∷ xs) ys h k = (h.0, each_append P xs ys h.1 k)

pub each_filter : {A : Type 0} (P : A → Type 0) (p : A → Bool) (xs : List A) → Each P xs → Each P (filter p xs)
each_filter P p [] h = tt
each_filter P p (x ∷ xs) h = go (p x) (each_filter P p xs h.1)
  where
    go : (b : Bool) → Each P (filter p xs) → Each P (cond b (x ∷ filter p xs) (filter p xs))
    go true rest = (h.0, rest)
    go false rest = rest

pub each_at : {A : Type 0} (P : A → Type 0) (xs : List A) (i : ℕ) (x : A) → Each P xs → slice_get xs i ≡ Some x → P x
each_at P [] i x h e = absurd (let f : None ≡ Some x = e in cc)
each_at P (y ∷ ys) zero x h e = subst P (let f : Some y ≡ Some x = e in cc) h.0
each_at P (y ∷ ys) (suc i) x h e = each_at P ys i x h.1 e

pub each_more : {A : Type 0} (P Q : A → Type 0) → ((x : A) → P x → Q x) → (xs : List A) → Each P xs → Each Q xs
each_more P Q f [] h = tt
each_more P Q f (x ∷ xs) h = (f x h.0, each_more P Q f xs h.1)

module _ (P : Entry → Type 0) where
  -- each entry of the log and of the snapshot
  abbrev pub StoredEach : StoredGroup → Type 0
  StoredEach st = Each P st.log × Each P (prefix_of st.snapshot)

  abbrev pub BodyEach : MessageBody → Type 0
  BodyEach (VoteRequest vote last) = Unit {0}
  BodyEach (VoteReply vote granted last) = Unit {0}
  BodyEach (AppendRequest a) = Each P a.entries
  BodyEach (AppendReply reply) = Unit {0}
  BodyEach (SnapshotRequest vote id x) = Each P x.«prefix»
  BodyEach (SnapshotReply reply) = Unit {0}

  -- the entry that a call writes at the next place
  abbrev pub WrittenEach : StoredGroup → EntryPayload → Type 0
  WrittenEach st payload =
      P (entry_of (record { leader_id = st.vote.leader_id; index = end_place st }) payload)

  abbrev pub ChangedEach : StoredGroup → Option LoggedMembership → ChangeMembers → Type 0
  ChangedEach st None change = Unit {0}
  ChangedEach st (Some x) change = WrittenEach st (Members (after_change x.membership change))

  abbrev pub CallEach : StoredGroup → GroupCall → Type 0
  CallEach st (Initialize first) = P (entry_of (log_id_of 0 0 0) (Members first))
  CallEach st Elect = Unit {0}
  CallEach st (Propose command token) = WrittenEach st (Normal command)
  CallEach st (ChangeMembership change token) = ChangedEach st (membership_in_force st) change
  CallEach st Heartbeat = Unit {0}
  CallEach st (Lost peer) = Unit {0}
  CallEach st TriggerSnapshot = Unit {0}
  CallEach st (TriggerPurge place) = Unit {0}

  -- each entry that an event brings, unless it is refused
  abbrev pub BroughtEach : StoredGroup → GroupEvent → Type 0
  BroughtEach st AddGroup = Unit {0}
  BroughtEach st (Call call now) = CallEach st call
  BroughtEach st (Receive peer x now) = BodyEach x.body
  BroughtEach st Open = Unit {0}

  abbrev CommandEach : StoringCommand → Type 0
  CommandEach MakeGroup = Unit {0}
  CommandEach (SetVote vote) = Unit {0}
  CommandEach (PutEntries place entries) = Each P entries
  CommandEach (CutFrom place) = Unit {0}
  CommandEach (RemoveUpTo id) = Unit {0}
  CommandEach (SetSnapshot x) = Each P x.«prefix»
  CommandEach (StartAfter id) = Unit {0}

  abbrev MessageEach : Message → Type 0
  MessageEach x = BodyEach x.body

  record Kept (r : StepResult) : Type 0 where
    now : StoredEach r.state.stored
    commands : Each CommandEach r.commands
    messages : Each MessageEach r.messages

  stored-each : (c : StoringCommand) (st : StoredGroup) → StoredEach st → CommandEach c → StoredEach (after_storing c st)
  stored-each MakeGroup st h k = h
  stored-each (SetVote vote) st h k = h
  stored-each (PutEntries place entries) st h k = (each_append P _ entries (each_take P _ st.log h.0) k, h.1)
  stored-each (CutFrom place) st h k = (each_take P _ st.log h.0, h.1)
  stored-each (RemoveUpTo id) st h k = (each_drop P _ st.log h.0, h.1)
  stored-each (SetSnapshot x) st h k = (h.0, k)
  stored-each (StartAfter id) st h k = (tt, h.1)

  all-each : (cs : List StoringCommand) (st : StoredGroup) → StoredEach st → Each CommandEach cs → StoredEach (after_storing_all cs st)
  all-each [] st h k = h
  all-each (c ∷ cs) st h k = all-each cs (after_storing c st) (stored-each c st h k.0) k.1

  held-each : (st : StoredGroup) → StoredEach st → Each P (held st)
  held-each st h = each_append P (prefix_of st.snapshot) _ h.1 (each_drop P _ st.log h.0)

  -- ---- the words by which steps are put together

  -- neither stored nor sent
  same-each : (r q : StepResult) → q.state.stored ≡ r.state.stored → q.commands ≡ r.commands → q.messages ≡ r.messages → Kept r → Kept q
  same-each r q e f g h =
      record {
        now = subst StoredEach (sym e) h.now;
        commands = subst (Each CommandEach) (sym f) h.commands;
        messages = subst (Each MessageEach) (sym g) h.messages;
      }

  store-each : (c : StoringCommand) (r : StepResult) → Kept r → CommandEach c → Kept (store c r)
  store-each c r h k =
      record {
        now = stored-each c r.state.stored h.now k;
        commands = each_append CommandEach r.commands (c ∷ []) h.commands (k, tt);
        messages = h.messages;
      }

  send-each : (own peer : ℕ) (b : MessageBody) (r : StepResult) → Kept r → BodyEach b → Kept (send own peer b r)
  send-each own peer b r h k =
      record {
        now = h.now;
        commands = h.commands;
        messages = each_append MessageEach r.messages (record { sender = own; addressee = peer; body = b } ∷ []) h.messages (k, tt);
      }

  vote-each : (v : Vote ℕ) (r : StepResult) → Kept r → Kept (store_vote v r)
  vote-each v r h = same-each (store (SetVote v) r) (store_vote v r) refl refl refl (store-each (SetVote v) r h tt)

  down-each : (v : Vote ℕ) (r : StepResult) → Kept r → Kept (store_vote v (step_down r))
  down-each v r h = vote-each v (step_down r) (same-each r (step_down r) refl refl refl h)

  take_over-each : (v : Vote ℕ) (r : StepResult) → Kept r → Kept (take_over v r)
  take_over-each v r h = either_by Kept (vote_lt r.state.stored.vote v) _ _ (λ t. down-each v r h) (λ t. same-each r _ refl refl refl h)

  greater-each : (v : Vote ℕ) (r : StepResult) → Kept r → Kept (take_over_greater v r)
  greater-each v r h = either_by Kept (vote_lt r.state.stored.vote v) _ _ (λ t. down-each v r h) (λ t. h)

  append-each : (payload : EntryPayload) (r : StepResult) → Kept r → WrittenEach r.state.stored payload → Kept (append payload r)
  append-each payload r h k = store-each _ r h (k, tt)

  -- each blank entry is so too
  module _ (blank : (id : LogId ℕ) → P (entry_of id Blank)) where
    begin-each : (r : StepResult) → Kept r → Kept (begin_lead r)
    begin-each r h =
        let lead = same-each (store_vote _ r) _ refl refl refl (vote-each _ r h) in
        either Kept _ _ _ lead (append-each Blank _ lead (blank _))

    lead_if-each : (b : Bool) (r : StepResult) → Kept r → Kept (lead_if b r)
    lead_if-each true r h = begin-each r h
    lead_if-each false r h = h

    grant-each : (n : ℕ) (role : Role) (r : StepResult) → Kept r → Kept (with_grant n role r)
    grant-each n Follower r h = h
    grant-each n (Candidate granters) r h =
        let granted = cond (has_id granters n) granters (granters ++ n ∷ []) in
        lead_if-each (is_quorum (configs_in_force r.state.stored) (has_id granted)) (in_role (Candidate granted) r)
        (same-each r _ refl refl refl h)
    grant-each n (Leader lead) r h = h

    ask-each : (own : ℕ) (ns : List ℕ) (r : StepResult) → Kept r → Kept (ask own ns r)
    ask-each own [] r h = h
    ask-each own (n ∷ ns) r h = ask-each own ns _ (send-each own n _ r h tt)

    stand-each : (own : ℕ) (r : StepResult) → Kept r → Kept (stand own r)
    stand-each own r h =
        ask-each own (other_voters own r.state.stored) _
        (same-each (store_vote _ (step_down r)) _ refl refl refl (down-each _ r h))

    elect-each : (own : ℕ) (r : StepResult) → Kept r → Kept (elect_step own r)
    elect-each own r h = grant-each own (stand own r).state.role (stand own r) (stand-each own r h)

    -- ---- messages

    judged-each : (own peer : ℕ) (v : Vote ℕ) (b : Bool) (r : StepResult) → Kept r → Kept (judged own peer v b r)
    judged-each own peer v true r h = send-each own peer _ (take_over v r) (take_over-each v r h) tt
    judged-each own peer v false r h = send-each own peer _ r h tt

    counted-each : (peer : ℕ) (b : Bool) (v : Vote ℕ) (r : StepResult) → Kept r → Kept (counted peer b v r)
    counted-each peer true v r h = grant-each peer r.state.role r h
    counted-each peer false v r h = greater-each v r h

    cut_from-each : (i : ℕ) (r : StepResult) → Kept r → Kept (cut_from i r)
    cut_from-each i r h = either Kept _ _ _ (store-each (CutFrom i) r h tt) h

    cut_at-each : (id : Option (LogId ℕ)) (r : StepResult) → Kept r → Kept (cut_at id r)
    cut_at-each None r h = h
    cut_at-each (Some id) r h = cut_from-each id.index r h

    missing-each : (st : StoredGroup) (es : List Entry) → Each P es → Each P (missing_entries st es)
    missing-each st [] h = tt
    missing-each st (e ∷ es) h = go (has_id_in_log st e.log_id) (missing-each st es h.1)
      where
        go : (b : Bool) → Each P (missing_entries st es) → Each P (cond b (missing_entries st es) (e ∷ es))
        go true rest = rest
        go false rest = h

    put-each : (es : List Entry) (r : StepResult) → Kept r → Each P es → Kept (put_entries es r)
    put-each [] r h k = h
    put-each (e ∷ es) r h k = store-each _ _ (cut_from-each e.log_id.index r h) k

    joined-each : (own peer : ℕ) (a : AppendFields) (b : Bool) (r : StepResult) → Kept r → Each P a.entries → Kept (joined own peer a b r)
    joined-each own peer a true r h k =
        let fresh = missing_entries r.state.stored (above_committed r.state.committed a.entries) in
        let put = put-each fresh r h (missing-each r.state.stored _ (each_filter P _ a.entries k)) in
        send-each own peer _ _ (same-each (put_entries fresh r) _ refl refl refl put) tt
    joined-each own peer a false r h k = send-each own peer _ (cut_at a.previous r) (cut_at-each a.previous r h) tt

    heard-each : (own peer : ℕ) (a : AppendFields) (b : Bool) (r : StepResult) → Kept r → Each P a.entries → Kept (heard own peer a b r)
    heard-each own peer a true r h k = send-each own peer _ r h tt
    heard-each own peer a false r h k = joined-each own peer a _ (take_over a.vote r) (take_over-each a.vote r h) k

    cut_other-each : (last : LogId ℕ) (r : StepResult) → Kept r → Kept (cut_other last r)
    cut_other-each last r h =
        either Kept _ _ _ h (either Kept _ _ _ (cut_from-each (place_above r.state.committed) r h) h)

    install-each : (x : Snapshot) (r : StepResult) → Kept r → Each P x.«prefix» → Kept (install x r)
    install-each x r h k =
        same-each (store (RemoveUpTo x.last) (store (SetSnapshot x) (cut_other x.last r))) _ refl refl refl
        (store-each (RemoveUpTo x.last) _ (store-each (SetSnapshot x) _ (cut_other-each x.last r h) k) tt)

    unless-each : (b : Bool) (x : Snapshot) (r : StepResult) → Kept r → Each P x.«prefix» → Kept (install_unless b x r)
    unless-each true x r h k = h
    unless-each false x r h k = install-each x r h k

    offered-each : (own peer : ℕ) (v : Vote ℕ) (id : ℕ) (x : Snapshot) (b : Bool) (r : StepResult) → Kept r → Each P x.«prefix» → Kept (offered own peer v id x b r)
    offered-each own peer v id x true r h k = send-each own peer _ r h tt
    offered-each own peer v id x false r h k =
        send-each own peer _ _ (unless-each _ x (take_over v r) (take_over-each v r h) k) tt

    higher-each : (o : ReplyResult) (r : StepResult) → Kept r → Kept (with_higher_vote o r)
    higher-each Success r h = h
    higher-each (PartialSuccess last) r h = h
    higher-each Conflict r h = h
    higher-each (HigherVote v) r h = greater-each v r h

    answered-each : (peer : ℕ) (reply : ReplyFields) (role : Role) (r : StepResult) → Kept r → Kept (answered peer reply role r)
    answered-each peer reply Follower r h = h
    answered-each peer reply (Candidate granters) r h = h
    answered-each peer reply (Leader lead) r h = either Kept _ _ _ (same-each r _ refl refl refl h) h

    reply-each : (peer : ℕ) (reply : ReplyFields) (r : StepResult) → Kept r → Kept (reply_step peer reply r)
    reply-each peer reply r h =
        answered-each peer reply (with_higher_vote reply.outcome r).state.role (with_higher_vote reply.outcome r)
        (higher-each reply.outcome r h)

    message-each : (own peer : ℕ) (b : MessageBody) (r : StepResult) → Kept r → BodyEach b → Kept (message_step own peer b r)
    message-each own peer (VoteRequest v last) r h k = judged-each own peer v (may_grant r.state v last) r h
    message-each own peer (VoteReply v granted last) r h k = counted-each peer _ v r h
    message-each own peer (AppendRequest a) r h k = heard-each own peer a _ r h k
    message-each own peer (AppendReply reply) r h k = reply-each peer reply r h
    message-each own peer (SnapshotRequest v id x) r h k = offered-each own peer v id x _ r h k
    message-each own peer (SnapshotReply reply) r h k = reply-each peer reply r h

    -- ---- calls

    token-each : (payload : EntryPayload) (token : ℕ) (r : StepResult) → Kept r → WrittenEach r.state.stored payload → Kept (append_with_token payload token r)
    token-each payload token r h k = append-each payload _ (same-each r _ refl refl refl h) k

    changed-each : (o : Option LoggedMembership) (change : ChangeMembers) (token : ℕ) (r : StepResult) → Kept r → ChangedEach r.state.stored o change → Kept (append_changed o change token r)
    changed-each None change token r h k = h
    changed-each (Some x) change token r h k = token-each _ token r h k

    notices-each : (own : ℕ) (lead : Lead) (ns : List ℕ) (r : StepResult) → Kept r → Kept (send_notices own lead ns r)
    notices-each own lead [] r h = h
    notices-each own lead (n ∷ ns) r h = notices-each own lead ns _ (send-each own n _ r h tt)

    beat-each : (own : ℕ) (role : Role) (r : StepResult) → Kept r → Kept (beat_as own role r)
    beat-each own Follower r h = h
    beat-each own (Candidate granters) r h = h
    beat-each own (Leader lead) r h = notices-each own lead (other_ids own r.state.stored) r h

    lost-each : (peer : ℕ) (role : Role) (r : StepResult) → Kept r → Kept (lost_as peer role r)
    lost-each peer Follower r h = h
    lost-each peer (Candidate granters) r h = h
    lost-each peer (Leader lead) r h = either Kept _ _ _ (same-each r _ refl refl refl h) h

    snapshot_at-each : (id : Option (LogId ℕ)) (r : StepResult) → Kept r → Kept (store_snapshot_at id r)
    snapshot_at-each None r h = h
    snapshot_at-each (Some id) r h =
        store-each (SetSnapshot (snapshot_at r.state.stored id)) r h (each_take P (id.index + 1) (held r.state.stored) (held-each r.state.stored h.now))

    snapshot-each : (a : Option ℕ) (r : StepResult) → Kept r → Kept (snapshot_of_applied a r)
    snapshot-each None r h = h
    snapshot-each (Some a) r h = either Kept _ _ _ h (snapshot_at-each _ r h)

    remove-each : (id : Option (LogId ℕ)) (r : StepResult) → Kept r → Kept (remove_up_to id r)
    remove-each None r h = h
    remove-each (Some id) r h = store-each (RemoveUpTo id) r h tt

    purge_as-each : (i : ℕ) (role : Role) (r : StepResult) → Kept r → Kept (purge_as i role r)
    purge_as-each i Follower r h = remove-each _ r h
    purge_as-each i (Candidate granters) r h = remove-each _ r h
    purge_as-each i (Leader lead) r h = either Kept _ _ _ h (same-each r _ refl refl refl h)

    purge_within-each : (i : ℕ) (last : Option (LogId ℕ)) (r : StepResult) → Kept r → Kept (purge_within i last r)
    purge_within-each i None r h = h
    purge_within-each i (Some last) r h = purge_as-each _ r.state.role r h

    call-each : (own : ℕ) (c : GroupCall) (r : StepResult) → Kept r → CallEach r.state.stored c → Kept (call_step own c r)
    call-each own (Initialize first) r h k =
        elect-each own _ (store-each (PutEntries 0 (entry_of (log_id_of 0 0 0) (Members first) ∷ [])) r h (k, tt))
    call-each own Elect r h k = elect-each own r h
    call-each own (Propose command token) r h k = token-each (Normal command) token r h k
    call-each own (ChangeMembership change token) r h k = changed-each (membership_in_force r.state.stored) change token r h k
    call-each own Heartbeat r h k = beat-each own r.state.role r h
    call-each own (Lost peer) r h k = lost-each peer r.state.role r h
    call-each own TriggerSnapshot r h k = snapshot-each r.state.applied r h
    call-each own (TriggerPurge place) r h k = purge_within-each place _ r h

    -- ---- the end of an event

    request-each : (own : ℕ) (p : PeerState) (lead : Lead) (o : Option Snapshot) (r : StepResult) → r.state.stored.snapshot ≡ o → Kept r → Kept (send_request own p lead o r)
    request-each own p lead o r e h = go o e
      where
        entries : Kept (send_entries own p lead r)
        entries =
            same-each _ (send_entries own p lead r) refl refl refl
            (send-each own p.peer _ r h (each_take P entries_in_request _ (each_drop P _ r.state.stored.log h.now.0)))

        go : (o' : Option Snapshot) → r.state.stored.snapshot ≡ o' → Kept (send_request own p lead o' r)
        go None f = entries
        go (Some x) f =
            either Kept (nat_lt p.search (first_place r.state.stored)) (send_snapshot own p lead x r) (send_entries own p lead r)
            (same-each _ (send_snapshot own p lead x r) refl refl refl
            (send-each own p.peer (SnapshotRequest r.state.stored.vote p.next_id x) r h
            (subst (λ z. Each P (prefix_of z)) f h.now.1)))
            entries

    serve-each : (own : ℕ) (b : Bool) (p : PeerState) (lead : Lead) (r : StepResult) → Kept r → Kept (serve own b p lead r)
    serve-each own b p lead r h =
        let told = cond b (send own p.peer (notice r.state p) r) r in
        either Kept (is_none p.outstanding && lacks_entries r.state.stored p) (send_request own p lead r.state.stored.snapshot r) told
        (request-each own p lead r.state.stored.snapshot r refl h)
        (either Kept b (send own p.peer (notice r.state p) r) r (send-each own p.peer (notice r.state p) r h tt) h)

    serve_as-each : (own : ℕ) (b : Bool) (n : ℕ) (role : Role) (r : StepResult) → Kept r → Kept (serve_as own b n role r)
    serve_as-each own b n Follower r h = h
    serve_as-each own b n (Candidate granters) r h = h
    serve_as-each own b n (Leader lead) r h = serve-each own b _ lead r h

    serve_all-each : (own : ℕ) (b : Bool) (ns : List ℕ) (r : StepResult) → Kept r → Kept (serve_all own b ns r)
    serve_all-each own b [] r h = h
    serve_all-each own b (n ∷ ns) r h = serve_all-each own b ns _ (serve_as-each own b n r.state.role r h)

    commit-each : (own : ℕ) (role : Role) (r : StepResult) → Kept r → Kept (commit_as_leader own role r)
    commit-each own Follower r h = h
    commit-each own (Candidate granters) r h = h
    commit-each own (Leader lead) r h = same-each r _ refl refl refl h

    purge-each : (role : Role) (wish : Option ℕ) (r : StepResult) → Kept r → Kept (purge_as_wished role wish r)
    purge-each Follower wish r h = h
    purge-each (Candidate granters) wish r h = h
    purge-each (Leader lead) None r h = h
    purge-each (Leader lead) (Some place) r h =
        either Kept (is_kept_for_peers place lead.peers) r (purge_up_to place (with_wish None r)) h
        (remove-each _ (with_wish None r) (same-each r (with_wish None r) refl refl refl h))

    finished-each : (own : ℕ) (before : Option ℕ) (r : StepResult) → Kept r → Kept (finished own before r)
    finished-each own before r h =
        let committed = commit_as_leader own r.state.role r in
        let purged = purge_as_wished committed.state.role committed.state.wish committed in
        serve_all-each own (has_grown before purged.state.committed) (other_ids own purged.state.stored) purged
        (purge-each committed.state.role committed.state.wish committed (commit-each own r.state.role r h))

    -- ---- all events

    drop-each : (last : Option (LogId ℕ)) (r : StepResult) → Kept r → Kept (drop_stale_log last r)
    drop-each None r h = h
    drop-each (Some last) r h = either Kept _ _ _ h (store-each (StartAfter last) r h tt)

    resume-each : (own : ℕ) (r : StepResult) → Kept r → Kept (resume_lead own r)
    resume-each own r h = either Kept _ _ _ (same-each r _ refl refl refl h) h

    none-yet : (s : GroupState) → StoredEach s.stored → Kept (unchanged s)
    none-yet s h = record { now = h; commands = tt; messages = tt }

    event-each : (own : ℕ) (s : GroupState) (e : GroupEvent) → StoredEach s.stored → BroughtEach s.stored e → Kept (event_step own s e)
    event-each own s AddGroup h k = store-each MakeGroup (unchanged s) (none-yet s h) tt
    event-each own s (Call call now) h k = call-each own call (begun now s) (none-yet _ h) k
    event-each own s (Receive peer x now) h k = message-each own peer x.body (begun now s) (none-yet _ h) k
    event-each own s Open h k =
        resume-each own _
        (same-each (drop_stale_log (snapshot_last s.stored) (unchanged (state_of s.stored))) _ refl refl refl
        (drop-each (snapshot_last s.stored) (unchanged (state_of s.stored)) (none-yet (state_of s.stored) h)))

    step-each : (own : ℕ) (s : GroupState) (e : GroupEvent) → StoredEach s.stored → (why : Option RefusalReason) → refusal_of own s e ≡ why → (why ≡ None → BroughtEach s.stored e) → Kept (step_unless why own s e)
    step-each own s e h (Some why) f k = same-each (unchanged s) (refused_step s why) refl refl refl (none-yet s h)
    step-each own s e h None f k = finished-each own s.committed (event_step own s e) (event-each own s e h (k refl))

    -- ---- what stands for callers

    -- each entry that the node has at the end, or after so many storing commands, and each that it sent
    pub record EntriesKept (base : StoredGroup) (r : StepResult) : Type 0 where
      pub end : Each P (held r.state.stored) × StoredEach r.state.stored
      pub stops : (k : ℕ) → StoredEach (after_storing_all (take k r.commands) base)
      pub messages : Each MessageEach r.messages

    pub entries_kept : (own : ℕ) (s : GroupState) (e : GroupEvent) → StoredEach s.stored → (refusal_of own s e ≡ None → BroughtEach s.stored e) → EntriesKept s.stored (group_step own s e)
    entries_kept own s e h k =
        let q = step-each own s e h (refusal_of own s e) refl k in
        record {
          end = (held-each (group_step own s e).state.stored q.now, q.now);
          stops = λ n. all-each (take n (group_step own s e).commands) s.stored h (each_take CommandEach n (group_step own s e).commands q.commands);
          messages = q.messages;
        }
