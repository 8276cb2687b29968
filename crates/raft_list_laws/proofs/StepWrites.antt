-- What holds of each entry of a step, once the leader has written: what held of each before it, or what holds of an entry that is
-- written under the vote then. So it is wherever the step stops, at its end, and of what it sends.
use Rattle.std.specs.Prelude.{◌≡◌, ◌⊎◌, ℕ, zero, suc, ◌&&◌, ◌==◌, nat_lt, cond, Bool, true, false, List, [], ◌∷◌, ◌++◌, take, Option, Some, None, is_none, refl}
use Rattle.std.proofs.Common.{inl, inr, sym, ap, ◌∙◌, subst, ⊎_elim}
use Rattle.raft_values.specs.declared.vote.Vote.{Vote}
use Rattle.raft_values.specs.declared.log_id.LogId.{LogId}
use Rattle.raft_values.specs.LogId.{log_id_of, place_of}
use Rattle.raft_quorums.specs.Quorum.{is_quorum}
use Rattle.raft_state.specs.declared.entry.EntryPayload.TheVariants.{Blank, Normal, Membership as Members}
use Rattle.raft_group_step.specs.Values.{after_change, ChangeMembers, Entry, EntryPayload, entry_of, has_id, LoggedMembership, Membership}
use Rattle.raft_group_step.specs.StoredGroup.{StoredGroup, Snapshot, StoringCommand, MakeGroup, PutEntries, RemoveUpTo, StartAfter, after_storing, after_storing_all, end_place, first_place, id_of, entry_at, membership_in_force, prefix_of, snapshot_last}
use Rattle.raft_group_step.specs.Message.{Message, MessageBody, VoteRequest, VoteReply, AppendRequest, AppendReply, SnapshotRequest, SnapshotReply}
use Rattle.raft_group_step.specs.Peer.{PeerState, is_kept_for_peers}
use Rattle.raft_group_step.specs.GroupState.{GroupState, Lead, Role, Follower, Candidate, Leader, is_leader, state_of}
use Rattle.raft_group_step.specs.declared.group_call.GroupCall.TheVariants.{Initialize, Elect, Propose, ChangeMembership, Heartbeat, Lost, TriggerSnapshot, TriggerPurge}
use Rattle.raft_group_step.specs.GroupEvent.{GroupCall, GroupEvent, AddGroup, Call, Receive, Open}
use Rattle.raft_group_step.specs.StepResult.{RefusalReason, StepResult, append, apply_up_to, in_role, refused_step, send, store, store_vote, unchanged}
use Rattle.raft_group_step.specs.Lead.{begin_lead, commit_as_leader, committed_vote, configs_in_force, lead_if, new_lead, other_ids, purge_as_wished, purge_up_to, remove_up_to, with_grant, with_wish}
use Rattle.raft_group_step.specs.Frames.{entries_in_request, has_grown, lacks_entries, notice, send_entries, send_request, send_snapshot, serve, serve_all, serve_as}
use Rattle.raft_group_step.specs.Elect.{elect_step, stand}
use Rattle.raft_group_step.specs.VoteRequest.{may_grant}
use Rattle.raft_group_step.specs.VoteReply.{counted}
use Rattle.raft_group_step.specs.Propose.{append_with_token}
use Rattle.raft_group_step.specs.MembershipStep.{append_changed}
use Rattle.raft_group_step.specs.Opening.{drop_stale_log, is_joined_to, resume_lead}
use Rattle.raft_group_step.specs.Refusal.{refusal_of}
use Rattle.raft_group_step.specs.GroupStep.{begun, call_step, event_step, finished, group_step, message_step, step_unless}
use Rattle.raft_group_step.proofs.Words.{either}
use Rattle.raft_laws.proofs.StepEntries.{Each, each_append, each_drop, each_more, each_take, BodyEach, StoredEach}
use Rattle.raft_laws.proofs.StepWords.{all-append}
use Rattle.raft_list_laws.proofs.StepParts.{Kept, all-each, beat-each, greater-each, heard-each, judged-each, lost-each, none-yet, offered-each, purge_within-each, reply-each, same-each, snapshot-each, stand-each, store-each, vote-each}

-- of each entry of a message
pub body_more : (P Q : Entry → Type 0) → ((e : Entry) → P e → Q e) → (b : MessageBody) → BodyEach P b → BodyEach Q b
body_more P Q f (VoteRequest vote last) h = h
body_more P Q f (VoteReply vote granted last) h = h
body_more P Q f (AppendRequest a) h = each_more P Q f a.entries h
body_more P Q f (AppendReply reply) h = h
body_more P Q f (SnapshotRequest vote id x) h = each_more P Q f x.«prefix» h
body_more P Q f (SnapshotReply reply) h = h

pub stored_more : (P Q : Entry → Type 0) → ((e : Entry) → P e → Q e) → (st : StoredGroup) → StoredEach P st → StoredEach Q st
stored_more P Q f st h = (each_more P Q f st.log h.0, each_more P Q f (prefix_of st.snapshot) h.1)

-- the first k of some commands and one more: of the former alone, or all
take_more : {A : Type 0} (k : ℕ) (xs : List A) (y : A) → (take k (xs ++ y ∷ []) ≡ take k xs) ⊎ (take k (xs ++ y ∷ []) ≡ xs ++ y ∷ [])
take_more zero xs y = inl refl
take_more (suc zero) [] y = inr refl
take_more (suc (suc k)) [] y = inr refl
take_more (suc k) (x ∷ xs) y = ⊎_elim (λ e. inl (ap (λ l. x ∷ l) e)) (λ e. inr (ap (λ l. x ∷ l) e)) (take_more k xs y)

-- K held of each entry, and Own holds of one that is written under the vote
module _ (K : Entry → Type 0) (Own : Vote ℕ → Entry → Type 0) where
  abbrev pub AsStored : Vote ℕ → Entry → Type 0
  AsStored vote e = K e ⊎ Own vote e

  abbrev pub StoredOk : StoredGroup → Type 0
  StoredOk st = StoredEach (AsStored st.vote) st

  -- where the node leads
  abbrev pub AsLed : StepResult → Entry → Type 0
  AsLed r e = K e ⊎ (Own r.state.stored.vote e × (is_leader r.state.role ≡ true))

  module _ (base : StoredGroup) where
    pub record Done (r : StepResult) : Type 0 where
      pub stored : r.state.stored ≡ after_storing_all r.commands base
      pub stops : (k : ℕ) → StoredOk (after_storing_all (take k r.commands) base)
      pub now : StoredEach (AsLed r) r.state.stored
      pub messages : Each (λ (m : Message). BodyEach (AsLed r) m.body) r.messages

    -- nothing is written
    pub none-written : StoredEach K base → (r : StepResult) → Kept K base r → Done r
    none-written first r h =
        record {
          stored = h.stored;
          stops = λ k.
              let st = after_storing_all (take k r.commands) base in
              stored_more K (AsStored st.vote) (λ e x. inl x) st (all-each K base (take k r.commands) base first (each_take _ k r.commands h.commands));
          now = stored_more K (AsLed r) (λ e x. inl x) r.state.stored h.now;
          messages = each_more (λ (m : Message). BodyEach K m.body) (λ (m : Message). BodyEach (AsLed r) m.body) (λ m x. body_more K (AsLed r) (λ e y. inl y) m.body x) r.messages h.messages;
        }

    -- one more command
    more_stops : (r : StepResult) (c : StoringCommand) → r.state.stored ≡ after_storing_all r.commands base → ((k : ℕ) → StoredOk (after_storing_all (take k r.commands) base)) → StoredOk (after_storing c r.state.stored) → (k : ℕ) → StoredOk (after_storing_all (take k (r.commands ++ c ∷ [])) base)
    more_stops r c stored stops last k =
        ⊎_elim
        (λ e. subst (λ cs. StoredOk (after_storing_all cs base)) (sym e) (stops k))
        (λ e.
        subst StoredOk
        (ap (after_storing c) stored ∙ sym (all-append r.commands c base) ∙ ap (λ cs. after_storing_all cs base) (sym e))
        last)
        (take_more k r.commands c)

    -- a leader writes an entry
    pub append-written : StoredEach K base → (payload : EntryPayload) (r : StepResult) → Kept K base r → is_leader r.state.role ≡ true → Own r.state.stored.vote (entry_of (record { leader_id = r.state.stored.vote.leader_id; index = end_place r.state.stored }) payload) → Done (append payload r)
    append-written first payload r h leads own =
        let x = entry_of (record { leader_id = r.state.stored.vote.leader_id; index = end_place r.state.stored }) payload in
        let c = PutEntries (end_place r.state.stored) (x ∷ []) in
        let vote = r.state.stored.vote in
        let early = none-written first r h in
        let old : StoredEach (AsStored vote) r.state.stored = stored_more K (AsStored vote) (λ e y. inl y) r.state.stored h.now in
        let led : StoredEach (AsLed (append payload r)) r.state.stored = stored_more K (AsLed (append payload r)) (λ e y. inl y) r.state.stored h.now in
        record {
          stored = ap (after_storing c) h.stored ∙ sym (all-append r.commands c base);
          stops =
              more_stops r c h.stored early.stops
              (each_append (AsStored vote) _ (x ∷ []) (each_take (AsStored vote) _ r.state.stored.log old.0) (inr own, tt), old.1);
          now = (each_append (AsLed (append payload r)) _ (x ∷ []) (each_take (AsLed (append payload r)) _ r.state.stored.log led.0) (inr (own, leads), tt), led.1);
          messages = each_more (λ (m : Message). BodyEach K m.body) (λ (m : Message). BodyEach (AsLed (append payload r)) m.body) (λ m y. body_more K (AsLed (append payload r)) (λ e z. inl z) m.body y) r.messages h.messages;
        }

    -- ---- the end of an event

    led_same : (r q : StepResult) → q.state.stored ≡ r.state.stored → is_leader q.state.role ≡ is_leader r.state.role → (e : Entry) → AsLed r e → AsLed q e
    led_same r q s l e h =
        ⊎_elim
        (λ k. inl k)
        (λ o. inr (subst (λ (st : StoredGroup). Own st.vote e) (sym s) o.0, l ∙ o.1))
        h

    same-done : (r q : StepResult) → q.state.stored ≡ r.state.stored → q.commands ≡ r.commands → q.messages ≡ r.messages → is_leader q.state.role ≡ is_leader r.state.role → Done r → Done q
    same-done r q e f g l h =
        record {
          stored = e ∙ h.stored ∙ ap (λ cs. after_storing_all cs base) (sym f);
          stops = subst (λ (cs : List StoringCommand). (k : ℕ) → StoredOk (after_storing_all (take k cs) base)) (sym f) h.stops;
          now = subst (StoredEach (AsLed q)) (sym e) (stored_more (AsLed r) (AsLed q) (led_same r q e l) r.state.stored h.now);
          messages =
              subst (Each (λ (m : Message). BodyEach (AsLed q) m.body)) (sym g)
              (each_more (λ (m : Message). BodyEach (AsLed r) m.body) (λ (m : Message). BodyEach (AsLed q) m.body) (λ m x. body_more (AsLed r) (AsLed q) (led_same r q e l) m.body x) r.messages h.messages);
        }

    remove-done : (id : LogId ℕ) (r : StepResult) → Done r → Done (store (RemoveUpTo id) r)
    remove-done id r h =
        let c = RemoveUpTo id in
        let vote = r.state.stored.vote in
        let old : StoredEach (AsStored vote) r.state.stored =
        stored_more (AsLed r) (AsStored vote) (λ e x. ⊎_elim (λ k. inl k) (λ o. inr o.0) x) r.state.stored h.now
        in
        record {
          stored = ap (after_storing c) h.stored ∙ sym (all-append r.commands c base);
          stops = more_stops r c h.stored h.stops (each_drop (AsStored vote) _ r.state.stored.log old.0, old.1);
          now = (each_drop (AsLed r) _ r.state.stored.log h.now.0, h.now.1);
          messages = h.messages;
        }

    send-done : (own peer : ℕ) (b : MessageBody) (r : StepResult) → Done r → BodyEach (AsLed r) b → Done (send own peer b r)
    send-done own peer b r h k =
        record {
          stored = h.stored;
          stops = h.stops;
          now = h.now;
          messages = each_append (λ (m : Message). BodyEach (AsLed r) m.body) r.messages (record { sender = own; addressee = peer; body = b } ∷ []) h.messages (k, tt);
        }

    request-done : (own : ℕ) (p : PeerState) (lead : Lead) (o : Option Snapshot) (r : StepResult) → r.state.role ≡ Leader lead → r.state.stored.snapshot ≡ o → Done r → Done (send_request own p lead o r)
    request-done own p lead o r is e h = go o e
      where
        entries : Done (send_entries own p lead r)
        entries =
            same-done _ (send_entries own p lead r) refl refl refl (ap is_leader (sym is))
            (send-done own p.peer _ r h (each_take (AsLed r) entries_in_request _ (each_drop (AsLed r) _ r.state.stored.log h.now.0)))

        go : (o' : Option Snapshot) → r.state.stored.snapshot ≡ o' → Done (send_request own p lead o' r)
        go None f = entries
        go (Some x) f =
            either Done (nat_lt p.search (first_place r.state.stored)) (send_snapshot own p lead x r) (send_entries own p lead r)
            (same-done _ (send_snapshot own p lead x r) refl refl refl (ap is_leader (sym is))
            (send-done own p.peer (SnapshotRequest r.state.stored.vote p.next_id x) r h
            (subst (λ z. Each (AsLed r) (prefix_of z)) f h.now.1)))
            entries

    serve_as-done : (own : ℕ) (b : Bool) (n : ℕ) (role : Role) (r : StepResult) → r.state.role ≡ role → Done r → Done (serve_as own b n role r)
    serve_as-done own b n Follower r is h = h
    serve_as-done own b n (Candidate granters) r is h = h
    serve_as-done own b n (Leader lead) r is h = serves _
      where
        serves : (p : PeerState) → Done (serve own b p lead r)
        serves p =
            let told = cond b (send own p.peer (notice r.state p) r) r in
            either Done (is_none p.outstanding && lacks_entries r.state.stored p) (send_request own p lead r.state.stored.snapshot r) told
            (request-done own p lead r.state.stored.snapshot r is refl h)
            (either Done b (send own p.peer (notice r.state p) r) r (send-done own p.peer (notice r.state p) r h tt) h)

    serve_all-done : (own : ℕ) (b : Bool) (ns : List ℕ) (r : StepResult) → Done r → Done (serve_all own b ns r)
    serve_all-done own b [] r h = h
    serve_all-done own b (n ∷ ns) r h = serve_all-done own b ns _ (serve_as-done own b n r.state.role r refl h)

    commit-done : (own : ℕ) (role : Role) (r : StepResult) → Done r → Done (commit_as_leader own role r)
    commit-done own Follower r h = h
    commit-done own (Candidate granters) r h = h
    commit-done own (Leader lead) r h = same-done r _ refl refl refl refl h

    remove_up_to-done : (id : Option (LogId ℕ)) (r : StepResult) → Done r → Done (remove_up_to id r)
    remove_up_to-done None r h = h
    remove_up_to-done (Some id) r h = remove-done id r h

    purge-done : (role : Role) (wish : Option ℕ) (r : StepResult) → Done r → Done (purge_as_wished role wish r)
    purge-done Follower wish r h = h
    purge-done (Candidate granters) wish r h = h
    purge-done (Leader lead) None r h = h
    purge-done (Leader lead) (Some place) r h =
        either Done (is_kept_for_peers place lead.peers) r (purge_up_to place (with_wish None r)) h
        (remove_up_to-done (id_of (entry_at r.state.stored place)) (with_wish None r) (same-done r (with_wish None r) refl refl refl refl h))

    pub finished-done : (own : ℕ) (before : Option ℕ) (r : StepResult) → Done r → Done (finished own before r)
    finished-done own before r h =
        let committed = commit_as_leader own r.state.role r in
        let purged = purge_as_wished committed.state.role committed.state.wish committed in
        serve_all-done own (has_grown before purged.state.committed) (other_ids own purged.state.stored) purged
        (purge-done committed.state.role committed.state.wish committed (commit-done own r.state.role r h))

    -- ---- what leaders write

    -- the blank entry of a lead that begins is written so
    abbrev pub BlankIsOwn : StepResult → Type 0
    BlankIsOwn r =
        Own (committed_vote r.state.stored.vote) (entry_of (record { leader_id = r.state.stored.vote.leader_id; index = end_place r.state.stored }) Blank)

    module _ (first : StoredEach K base) where
      begin-done : (r : StepResult) → Kept K base r → BlankIsOwn r → Done (begin_lead r)
      begin-done r h blank =
          let leads = in_role (Leader (new_lead r.state.stored)) (store_vote (committed_vote r.state.stored.vote) r) in
          let lead = same-each K base (store_vote (committed_vote r.state.stored.vote) r) leads refl refl refl (vote-each K base (committed_vote r.state.stored.vote) r h) in
          either Done _ leads (append Blank leads) (none-written first leads lead) (append-written first Blank leads lead refl blank)

      lead_if-done : (b : Bool) (r : StepResult) → Kept K base r → BlankIsOwn r → Done (lead_if b r)
      lead_if-done true r h blank = begin-done r h blank
      lead_if-done false r h blank = none-written first r h

      grant-done : (n : ℕ) (role : Role) (r : StepResult) → Kept K base r → ((granters : List ℕ) → role ≡ Candidate granters → BlankIsOwn r) → Done (with_grant n role r)
      grant-done n Follower r h blank = none-written first r h
      grant-done n (Candidate granters) r h blank =
          let granted = cond (has_id granters n) granters (granters ++ n ∷ []) in
          lead_if-done (is_quorum (configs_in_force r.state.stored) (has_id granted)) (in_role (Candidate granted) r)
          (same-each K base r (in_role (Candidate granted) r) refl refl refl h) (blank granters refl)
      grant-done n (Leader lead) r h blank = none-written first r h

      elect-done : (own : ℕ) (r : StepResult) → Kept K base r → BlankIsOwn (stand own r) → Done (elect_step own r)
      elect-done own r h blank = grant-done own (stand own r).state.role (stand own r) (stand-each K base own r h) (λ granters is. blank)

      counted-done : (peer : ℕ) (b : Bool) (v : Vote ℕ) (r : StepResult) → Kept K base r → ((granters : List ℕ) → r.state.role ≡ Candidate granters → BlankIsOwn r) → Done (counted peer b v r)
      counted-done peer true v r h blank = grant-done peer r.state.role r h blank
      counted-done peer false v r h blank = none-written first _ (greater-each K base v r h)

      -- each entry that a message brings, and the blank one of a lead that begins with it
      abbrev pub BodyOk : ℕ → GroupState → MessageBody → Type 0
      BodyOk own s (VoteRequest v last) = Unit {0}
      BodyOk own s (VoteReply v granted last) = (granters : List ℕ) → s.role ≡ Candidate granters → BlankIsOwn (unchanged s)
      BodyOk own s (AppendRequest a) = Each K a.entries
      BodyOk own s (AppendReply reply) = Unit {0}
      BodyOk own s (SnapshotRequest v id x) = Each K x.«prefix»
      BodyOk own s (SnapshotReply reply) = Unit {0}

      message-done : (own peer : ℕ) (b : MessageBody) (s : GroupState) → Kept K base (unchanged s) → BodyOk own s b → Done (message_step own peer b (unchanged s))
      message-done own peer (VoteRequest v last) s h k = none-written first _ (judged-each K base own peer v (may_grant s v last) (unchanged s) h)
      message-done own peer (VoteReply v granted last) s h k = counted-done peer _ v (unchanged s) h k
      message-done own peer (AppendRequest a) s h k = none-written first _ (heard-each K base own peer a _ (unchanged s) h k)
      message-done own peer (AppendReply reply) s h k = none-written first _ (reply-each K base peer reply (unchanged s) h)
      message-done own peer (SnapshotRequest v id x) s h k = none-written first _ (offered-each K base own peer v id x _ (unchanged s) h k)
      message-done own peer (SnapshotReply reply) s h k = none-written first _ (reply-each K base peer reply (unchanged s) h)

      token-done : (payload : EntryPayload) (token : ℕ) (s : GroupState) → Kept K base (unchanged s) → is_leader s.role ≡ true → Own s.stored.vote (entry_of (record { leader_id = s.stored.vote.leader_id; index = end_place s.stored }) payload) → Done (append_with_token payload token (unchanged s))
      token-done payload token s h leads own =
          append-written first payload _ (same-each K base (unchanged s) _ refl refl refl h) leads own

      -- what a leader writes for a change of the membership
      abbrev pub ChangeOk : GroupState → Option LoggedMembership → ChangeMembers → Type 0
      ChangeOk s None change = Unit {0}
      ChangeOk s (Some x) change =
          (is_leader s.role ≡ true)
          × Own s.stored.vote (entry_of (record { leader_id = s.stored.vote.leader_id; index = end_place s.stored }) (Members (after_change x.membership change)))

      changed-done : (o : Option LoggedMembership) (change : ChangeMembers) (token : ℕ) (s : GroupState) → Kept K base (unchanged s) → ChangeOk s o change → Done (append_changed o change token (unchanged s))
      changed-done None change token s h k = none-written first (unchanged s) h
      changed-done (Some x) change token s h k = token-done _ token s h k.0 k.1

      abbrev pub set_up_first : Membership → GroupState → StepResult
      set_up_first m s = store (PutEntries 0 (entry_of (log_id_of 0 0 0) (Members m) ∷ [])) (unchanged s)

      abbrev pub CallOk : ℕ → GroupState → GroupCall → Type 0
      CallOk own s (Initialize m) = K (entry_of (log_id_of 0 0 0) (Members m)) × BlankIsOwn (stand own (set_up_first m s))
      CallOk own s Elect = BlankIsOwn (stand own (unchanged s))
      CallOk own s (Propose command token) =
          (is_leader s.role ≡ true)
          × Own s.stored.vote (entry_of (record { leader_id = s.stored.vote.leader_id; index = end_place s.stored }) (Normal command))
      CallOk own s (ChangeMembership change token) = ChangeOk s (membership_in_force s.stored) change
      CallOk own s Heartbeat = Unit {0}
      CallOk own s (Lost peer) = Unit {0}
      CallOk own s TriggerSnapshot = Unit {0}
      CallOk own s (TriggerPurge place) = Unit {0}

      call-done : (own : ℕ) (c : GroupCall) (s : GroupState) → Kept K base (unchanged s) → CallOk own s c → Done (call_step own c (unchanged s))
      call-done own (Initialize m) s h k =
          elect-done own (set_up_first m s) (store-each K base (PutEntries 0 (entry_of (log_id_of 0 0 0) (Members m) ∷ [])) (unchanged s) h (k.0, tt)) k.1
      call-done own Elect s h k = elect-done own (unchanged s) h k
      call-done own (Propose command token) s h k = token-done (Normal command) token s h k.0 k.1
      call-done own (ChangeMembership change token) s h k = changed-done (membership_in_force s.stored) change token s h k
      call-done own Heartbeat s h k = none-written first _ (beat-each K base own s.role (unchanged s) h)
      call-done own (Lost peer) s h k = none-written first _ (lost-each K base peer s.role (unchanged s) h)
      call-done own TriggerSnapshot s h k = none-written first _ (snapshot-each K base s.applied (unchanged s) h)
      call-done own (TriggerPurge place) s h k = none-written first _ (purge_within-each K base place _ (unchanged s) h)

  -- ---- events

  -- what an event brings and writes
  abbrev pub EventOk : ℕ → (s : GroupState) → StoredEach K s.stored → GroupEvent → Type 0
  EventOk own s first AddGroup = Unit {0}
  EventOk own s first (Call call now) = CallOk s.stored first own (begun now s).state call
  EventOk own s first (Receive peer x now) = BodyOk s.stored first own (begun now s).state x.body
  EventOk own s first Open = ⊥

  event-done : (own : ℕ) (s : GroupState) (e : GroupEvent) → (first : StoredEach K s.stored) → EventOk own s first e → Done s.stored (event_step own s e)
  event-done own s AddGroup first k = none-written s.stored first _ (store-each K s.stored MakeGroup (unchanged s) (none-yet K s.stored s refl first) tt)
  event-done own s (Call call now) first k = call-done s.stored first own call (begun now s).state (none-yet K s.stored (begun now s).state refl first) k
  event-done own s (Receive peer x now) first k = message-done s.stored first own peer x.body (begun now s).state (none-yet K s.stored (begun now s).state refl first) k
  event-done own s Open first k = absurd k

  unless-done : (own : ℕ) (s : GroupState) (e : GroupEvent) → (first : StoredEach K s.stored) → (why : Option RefusalReason) → (why ≡ None → EventOk own s first e) → Done s.stored (step_unless why own s e)
  unless-done own s e first (Some why) k =
      none-written s.stored first (refused_step s why) (same-each K s.stored (unchanged s) (refused_step s why) refl refl refl (none-yet K s.stored s refl first))
  unless-done own s e first None k = finished-done s.stored own s.committed (event_step own s e) (event-done own s e first (k refl))

  -- a step of a node that is up
  pub step-done : (own : ℕ) (s : GroupState) (e : GroupEvent) → (first : StoredEach K s.stored) → (refusal_of own s e ≡ None → EventOk own s first e) → Done s.stored (group_step own s e)
  step-done own s e first k = unless-done own s e first (refusal_of own s e) k

  -- ---- openings

  module _ (own : ℕ) (st : StoredGroup) (first : StoredOk st) (leads : (e : Entry) → Own st.vote e → (st.vote.committed && st.vote.leader_id.node_id == own) ≡ true) where
    -- the log may be dropped
    record Opened (r : StepResult) : Type 0 where
      stored : r.state.stored ≡ after_storing_all r.commands st
      stops : (k : ℕ) → StoredOk (after_storing_all (take k r.commands) st)
      vote : r.state.stored.vote ≡ st.vote
      now : StoredOk r.state.stored
      messages : r.messages ≡ []

    none_stored : (k : ℕ) → StoredOk (after_storing_all (take k (let cs : List StoringCommand = [] in cs)) st)
    none_stored zero = first
    none_stored (suc k) = first

    kept_log : Opened (unchanged (state_of st))
    kept_log = record { stored = refl; stops = none_stored; vote = refl; now = first; messages = refl }

    dropped_log : (last : Option (LogId ℕ)) → Opened (drop_stale_log last (unchanged (state_of st)))
    dropped_log None = kept_log
    dropped_log (Some last) =
        either Opened (is_joined_to st last) _ _ kept_log
        (record {
          stored = refl;
          stops = more_stops st (unchanged (state_of st)) (StartAfter last) refl none_stored (tt, first.1);
          vote = refl;
          now = (tt, first.1);
          messages = refl;
        })

    resumed-done : (r : StepResult) → Opened r → Done st (resume_lead own r)
    resumed-done r h = go (r.state.stored.vote.committed && r.state.stored.vote.leader_id.node_id == own) refl
      where
        led : (q : StepResult) → q.state.stored ≡ r.state.stored → ((e : Entry) → Own st.vote e → is_leader q.state.role ≡ true) → StoredEach (AsLed q) r.state.stored
        led q same l =
            stored_more (AsStored r.state.stored.vote) (AsLed q)
            (λ e x.
            ⊎_elim
            (λ k. inl k)
            (λ o. inr (subst (λ (s : StoredGroup). Own s.vote e) (sym same) o, l e (subst (λ v. Own v e) h.vote o)))
            x)
            r.state.stored h.now

        go : (b : Bool) → (r.state.stored.vote.committed && r.state.stored.vote.leader_id.node_id == own) ≡ b → Done st (cond b (in_role (Leader (new_lead r.state.stored)) r) r)
        go true is =
            record {
              stored = h.stored;
              stops = h.stops;
              now = led (in_role (Leader (new_lead r.state.stored)) r) refl (λ e o. refl);
              messages = subst (Each (λ (m : Message). BodyEach (AsLed (in_role (Leader (new_lead r.state.stored)) r)) m.body)) (sym h.messages) tt;
            }
        go false is =
            record {
              stored = h.stored;
              stops = h.stops;
              now =
                  led r refl
                  (λ e o.
                  let yes = leads e o in
                  absurd (let no : true ≡ false = sym yes ∙ ap (λ (v : Vote ℕ). v.committed && v.leader_id.node_id == own) (sym h.vote) ∙ is in cc));
              messages = subst (Each (λ (m : Message). BodyEach (AsLed r) m.body)) (sym h.messages) tt;
            }

    applied : (place : Option ℕ) (r : StepResult) → Opened r → Opened (apply_up_to place r)
    applied place r h = record { stored = h.stored; stops = h.stops; vote = h.vote; now = h.now; messages = h.messages }

    pub opening-done : Done st (group_step own (state_of st) Open)
    opening-done =
        let last = snapshot_last st in
        finished-done st own None (event_step own (state_of st) Open)
        (resumed-done (apply_up_to (place_of last) (drop_stale_log last (unchanged (state_of st))))
        (applied (place_of last) _ (dropped_log last)))
