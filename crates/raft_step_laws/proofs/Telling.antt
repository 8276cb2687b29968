-- What becomes of tokens in a step.
use Rattle.std.specs.Prelude.{◌≡◌, ℕ, ◌+◌, ◌==◌, ◌&&◌, not, is_some, nat_lt, Bool, true, false, List, [], ◌∷◌, ◌++◌, filter, Option, Some, None, All, cond, refl}
use Rattle.std.specs.Bool.{beq}
use Rattle.std.specs.List.{list_any}
use Rattle.std.proofs.Common.{sym, ap, ap₂, ◌∙◌, subst, arith, append-nil, ne_eqb}
use Rattle.std.proofs.lemmas.Bool.{and_parts, and_right}
use Rattle.std.proofs.lemmas.List.Elements.{All-cons, All-nil, All-same}
use Rattle.raft_values.specs.declared.vote.Vote.{Vote}
use Rattle.raft_values.specs.declared.vote.LeaderId.{LeaderId}
use Rattle.raft_values.specs.declared.log_id.LogId.{LogId}
use Rattle.raft_values.specs.LogId.{log_id_of}
use Rattle.raft_quorums.specs.Quorum.{is_quorum}
use Rattle.raft_state.specs.declared.entry.EntryPayload.TheVariants.{Blank, Membership as Members}
use Rattle.raft_group_step.specs.Values.{ChangeMembers, LoggedMembership, entry_of, has_id, is_written_by, vote_eq, vote_lt}
use Rattle.raft_group_step.specs.StoredGroup.{Snapshot, PutEntries, entry_at, first_place, id_of, membership_in_force, snapshot_last}
use Rattle.raft_group_step.specs.Message.{Message, MessageBody, VoteRequest, VoteReply, AppendRequest, AppendReply, SnapshotRequest, SnapshotReply, AppendFields, ReplyFields, ReplyResult, Success, PartialSuccess, Conflict, HigherVote}
use Rattle.raft_group_step.specs.Peer.{is_answer_to, is_kept_for_peers}
use Rattle.raft_group_step.specs.GroupState.{GroupState, Lead, Role, Follower, Candidate, Leader, Untold, is_leader}
use Rattle.raft_group_step.specs.declared.group_call.GroupCall.TheVariants.{Initialize, Elect, Propose, ChangeMembership, Heartbeat, Lost, TriggerSnapshot, TriggerPurge}
use Rattle.raft_group_step.specs.GroupEvent.{GroupCall, GroupEvent, AddGroup, Call, Receive, Open}
use Rattle.raft_group_step.specs.StepResult.{InProgress, NotLeader, RefusalReason, StepResult, append, in_role, is_within, later_place, renew, step_down, store, store_vote, take_over, tokens_of}
use Rattle.raft_group_step.specs.Lead.{begin_lead, commit_as_leader, committed_vote, configs_in_force, lead_if, new_lead, other_ids, peer_of, purge_as_wished, purge_up_to, remove_up_to, with_grant, with_wish}
use Rattle.raft_group_step.specs.Frames.{with_frames}
use Rattle.raft_group_step.specs.Elect.{elect_step, other_voters, stand}
use Rattle.raft_group_step.specs.VoteRequest.{judged, may_grant}
use Rattle.raft_group_step.specs.VoteReply.{counted, take_over_greater}
use Rattle.raft_group_step.specs.AppendRequest.{heard, is_held, joined}
use Rattle.raft_group_step.specs.SnapshotRequest.{install_unless, offered}
use Rattle.raft_group_step.specs.Reply.{answered, with_higher_vote}
use Rattle.raft_group_step.specs.MembershipStep.{append_changed}
use Rattle.raft_group_step.specs.Heartbeat.{beat_as, send_notices}
use Rattle.raft_group_step.specs.Lost.{lost_as}
use Rattle.raft_group_step.specs.SnapshotTrigger.{snapshot_of_applied, store_snapshot_at}
use Rattle.raft_group_step.specs.PurgeTrigger.{purge_as, purge_within}
use Rattle.raft_group_step.specs.Refusal.{do_follow, has_known_snapshot, is_of_leader, is_settled_membership, is_sound, keep_voters, known_leader, reasons_of, reasons_of_call, refusal_of}
use Rattle.raft_group_step.specs.GroupStep.{begun, call_step, event_step, finished, group_step, message_step, step_unless}
use Rattle.raft_group_step.proofs.Words.{either, either_by, ask_state, installing_keeps_role, joined_keeps_role}
use Rattle.raft_group_step.proofs.Refusals.{unless_none}
use Rattle.raft_laws.proofs.StepCalls.{NoReason, no_reason}
use Rattle.raft_laws.proofs.StepMessages.{message_passed, of_leader}
use Rattle.raft_laws.proofs.StepTokens.{frames_same}
use Rattle.raft_laws.proofs.VoteRanks.{same_vote}
use Rattle.raft_laws.proofs.WorldLimits.{vote_itself}
use Rattle.raft_laws.proofs.VoteOrders.{differ_flags as never}
use Rattle.raft_step_laws.specs.Tokens.{HasItsOwnVote, OpensWithNone, TokensGo, TokensOfSteps, TokensWaitLeading, UntoldIsAbove, WaitsAbove, WaitsLeading, brought, is_due, leads_on, seeks_or_leads}
use Rattle.raft_step_laws.proofs.Sending.{finished_adds}
use Rattle.raft_step_laws.proofs.Untold.{Without, counted_without, down_without, elect_without, finished_without, heard_without, joined_without, judged_without, offered_without, opening_without, reply_without, same_without, unless_without}

-- ---- what leaves all tokens, and whether the node leads

pub record Stays (r q : StepResult) : Type 0 where
  pub untold : q.state.untold ≡ r.state.untold
  pub told : q.told ≡ r.told
  pub unknown : q.unknown ≡ r.unknown
  pub leads : is_leader q.state.role ≡ is_leader r.state.role
  pub vote : q.state.stored.vote ≡ r.state.stored.vote

stays_refl : (r : StepResult) → Stays r r
stays_refl r = record { untold = refl; told = refl; unknown = refl; leads = refl; vote = refl }

-- a leader with other notes of its peers
stays_lead : (r q : StepResult) (lead lead' : Lead) → r.state.role ≡ Leader lead → q.state.role ≡ Leader lead' → q.state.untold ≡ r.state.untold → q.told ≡ r.told → q.unknown ≡ r.unknown → q.state.stored.vote ≡ r.state.stored.vote → Stays r q
stays_lead r q lead lead' e f g h i j =
    record { untold = g; told = h; unknown = i; leads = ap is_leader f ∙ sym (ap is_leader e); vote = j }

notices_stay : (own : ℕ) (lead : Lead) (ns : List ℕ) (p r : StepResult) → Stays p r → Stays p (send_notices own lead ns r)
notices_stay own lead [] p r h = h
notices_stay own lead (n ∷ ns) p r h =
    notices_stay own lead ns p _ (record { untold = h.untold; told = h.told; unknown = h.unknown; leads = h.leads; vote = h.vote })

pub beat_stays : (own : ℕ) (role : Role) (r : StepResult) → Stays r (beat_as own role r)
beat_stays own Follower r = stays_refl r
beat_stays own (Candidate granters) r = stays_refl r
beat_stays own (Leader lead) r = notices_stay own lead (other_ids own r.state.stored) r r (stays_refl r)

lost_stays : (peer : ℕ) (role : Role) (r : StepResult) → r.state.role ≡ role → Stays r (lost_as peer role r)
lost_stays peer Follower r e = stays_refl r
lost_stays peer (Candidate granters) r e = stays_refl r
lost_stays peer (Leader lead) r e =
    either (Stays r) (is_some (peer_of lead peer).outstanding) _ r (stays_lead r _ lead _ e refl refl refl refl refl) (stays_refl r)

answered_stays : (peer : ℕ) (m : ReplyFields) (role : Role) (r : StepResult) → r.state.role ≡ role → Stays r (answered peer m role r)
answered_stays peer m Follower r e = stays_refl r
answered_stays peer m (Candidate granters) r e = stays_refl r
answered_stays peer m (Leader lead) r e =
    either (Stays r) (vote_eq m.vote r.state.stored.vote && is_answer_to m (peer_of lead peer).outstanding) _ r
    (stays_lead r _ lead _ e refl refl refl refl refl) (stays_refl r)

shot_stays : (id : Option (LogId ℕ)) (r : StepResult) → Stays r (store_snapshot_at id r)
shot_stays None r = stays_refl r
shot_stays (Some id) r = record { untold = refl; told = refl; unknown = refl; leads = refl; vote = refl }

pub snapshot_stays : (applied : Option ℕ) (r : StepResult) → Stays r (snapshot_of_applied applied r)
snapshot_stays None r = stays_refl r
snapshot_stays (Some a) r = either (Stays r) _ r _ (stays_refl r) (shot_stays (id_of (entry_at r.state.stored a)) r)

remove_stays : (id : Option (LogId ℕ)) (r : StepResult) → Stays r (remove_up_to id r)
remove_stays None r = stays_refl r
remove_stays (Some id) r = record { untold = refl; told = refl; unknown = refl; leads = refl; vote = refl }

purge_stays : (place : ℕ) (role : Role) (r : StepResult) → Stays r (purge_as place role r)
purge_stays place Follower r = remove_stays (id_of (entry_at r.state.stored place)) r
purge_stays place (Candidate granters) r = remove_stays (id_of (entry_at r.state.stored place)) r
purge_stays place (Leader lead) r =
    either (Stays r) (nat_lt place (first_place r.state.stored)) r (with_wish (later_place r.state.wish (Some place)) r) (stays_refl r)
    (record { untold = refl; told = refl; unknown = refl; leads = refl; vote = refl })

pub within_stays : (place : ℕ) (last : Option (LogId ℕ)) (r : StepResult) → Stays r (purge_within place last r)
within_stays place None r = stays_refl r
within_stays place (Some last) r = purge_stays _ r.state.role r

stays_without : {lost : List ℕ} {r q : StepResult} → Stays r q → Without lost r → Without lost q
stays_without {lost} {r} {q} s h = same_without lost r q s.untold s.told s.unknown h

-- ---- the term of an election

begun_leader : (r : StepResult) → (begin_lead r).state.stored.vote.leader_id ≡ r.state.stored.vote.leader_id
begun_leader r =
    let q = in_role (Leader (new_lead r.state.stored)) (store_vote (committed_vote r.state.stored.vote) r) in
    either (λ x. x.state.stored.vote.leader_id ≡ r.state.stored.vote.leader_id)
    (list_any (is_written_by q.state.stored.vote.leader_id) q.state.stored.log) q (append Blank q) refl refl

led_leader : (b : Bool) (r : StepResult) → (lead_if b r).state.stored.vote.leader_id ≡ r.state.stored.vote.leader_id
led_leader true r = begun_leader r
led_leader false r = refl

pub granted_leader : (n : ℕ) (role : Role) (r : StepResult) → (with_grant n role r).state.stored.vote.leader_id ≡ r.state.stored.vote.leader_id
granted_leader n Follower r = refl
granted_leader n (Candidate granters) r =
    let granted = cond (has_id granters n) granters (granters ++ n ∷ []) in
    led_leader (is_quorum (configs_in_force r.state.stored) (has_id granted)) (in_role (Candidate granted) r)
granted_leader n (Leader lead) r = refl

-- a node that stood for election has its own vote, in the next term
pub elected_leader : (own : ℕ) (r : StepResult) → (elect_step own r).state.stored.vote.leader_id ≡ record { term = r.state.stored.vote.leader_id.term + 1; node_id = own }
elected_leader own r =
    granted_leader own (stand own r).state.role (stand own r)
    ∙ ap (λ (x : GroupState). x.stored.vote.leader_id) (ask_state own (other_voters own r.state.stored) _)

-- ---- what the event itself does to tokens

-- a leader leads on, and the event's token waits with the others
record GoesOn (s : GroupState) (e : GroupEvent) (q : StepResult) : Type 0 where
  was : is_leader s.role ≡ true
  leads : is_leader q.state.role ≡ true
  vote : q.state.stored.vote ≡ s.stored.vote
  untold : q.state.untold ≡ s.untold ++ brought s e
  told : q.told ≡ []
  unknown : q.unknown ≡ []

data Course (s : GroupState) (e : GroupEvent) (q : StepResult) : Type 0 where
  on : GoesOn s e q → Course s e q
  -- the node gave up its lead, or had none
  over : Without (tokens_of s.untold) q → leads_on s q.state ≡ false → Course s e q
  -- there is no token
  bare : Without [] q → s.untold ≡ [] → brought s e ≡ [] → Course s e q

not_leading : (s t : GroupState) → is_leader t.role ≡ false → leads_on s t ≡ false
not_leading s t e = ap (λ b. is_leader s.role && (b && vote_eq s.stored.vote t.stored.vote)) e ∙ and_right (is_leader s.role) false refl

pub another_vote : (s t : GroupState) → vote_eq s.stored.vote t.stored.vote ≡ false → leads_on s t ≡ false
another_vote s t e =
    ap (λ b. is_leader s.role && (is_leader t.role && b)) e
    ∙ ap (λ b. is_leader s.role && b) (and_right (is_leader t.role) false refl) ∙ and_right (is_leader s.role) false refl

pub next_term_differs : (v w : Vote ℕ) → w.leader_id.term ≡ v.leader_id.term + 1 → vote_eq v w ≡ false
next_term_differs v w e =
    ap (λ b. (b && v.leader_id.node_id == w.leader_id.node_id) && beq v.committed w.committed) (ne_eqb v.leader_id.term w.leader_id.term (λ f. omega arith))

-- ---- at a leader

module _ (own : ℕ) (s : GroupState) (is : is_leader s.role ≡ true) where
  -- what leaves all tokens, where the event brings none
  stays_on : {e : GroupEvent} (now : ℕ) (q : StepResult) → brought s e ≡ [] → Stays (begun now s) q → Course s e q
  stays_on now q none h =
      on
      (record {
        was = is;
        leads = h.leads ∙ is;
        vote = h.vote;
        untold = h.untold ∙ sym (append-nil s.untold) ∙ ap (λ xs. s.untold ++ xs) (sym none);
        told = h.told;
        unknown = h.unknown;
      })

  -- the lead is given up
  given_up : (now : ℕ) → Without (tokens_of s.untold) (step_down (begun now s))
  given_up now = record { untold = refl; told = refl; unknown = refl }

  elected_over : {e : GroupEvent} (now : ℕ) (r : StepResult) → r.state.stored.vote ≡ s.stored.vote → Without (tokens_of s.untold) (step_down r) → Course s e (elect_step own r)
  elected_over now r v h =
      let leader = elected_leader own r in
      over (elect_without (tokens_of s.untold) own r h)
      (another_vote s (elect_step own r).state
      (next_term_differs s.stored.vote (elect_step own r).state.stored.vote
      (ap (λ (x : LeaderId ℕ). x.term) leader ∙ ap (λ (x : Vote ℕ). x.leader_id.term + 1) v)))

  changed_on : (now : ℕ) (o : Option LoggedMembership) (change : ChangeMembers) (token : ℕ) → is_settled_membership s o ≡ true → Course s (Call (ChangeMembership change token) now) (append_changed o change token (begun now s))
  changed_on now None change token known = absurd (let f : false ≡ true = known in cc)
  changed_on now (Some m) change token known =
      on (record { was = is; leads = is; vote = refl; untold = refl; told = refl; unknown = refl })

  call_course : (call : GroupCall) (now : ℕ) → NoReason (reasons_of_call own s now call) → Course s (Call call now) (call_step own call (begun now s))
  call_course (Initialize m) now passed =
      elected_over now (store (PutEntries 0 (entry_of (log_id_of 0 0 0) (Members m) ∷ [])) (begun now s)) refl
      (same_without (tokens_of s.untold) (step_down (begun now s)) _ refl refl refl (given_up now))
  call_course Elect now passed = elected_over now (begun now s) refl (given_up now)
  call_course (Propose command token) now passed =
      on (record { was = is; leads = is; vote = refl; untold = refl; told = refl; unknown = refl })
  call_course (ChangeMembership change token) now passed =
      changed_on now (membership_in_force s.stored) change token (unless_none (is_settled_membership s (membership_in_force s.stored)) InProgress passed.1.1.0)
  call_course Heartbeat now passed = stays_on now _ refl (beat_stays own s.role (begun now s))
  call_course (Lost peer) now passed = stays_on now _ refl (lost_stays peer s.role (begun now s) refl)
  call_course TriggerSnapshot now passed = stays_on now _ refl (snapshot_stays s.applied (begun now s))
  call_course (TriggerPurge place) now passed = stays_on now _ refl (within_stays place (snapshot_last s.stored) (begun now s))

  module _ (peer : ℕ) (m : Message) (now : ℕ) where
    abbrev r : StepResult
    r = begun now s

    abbrev e : GroupEvent
    e = Receive peer m now

    taken_down : (v : Vote ℕ) → Without (tokens_of s.untold) (store_vote v (step_down r))
    taken_down v = same_without (tokens_of s.untold) (step_down r) _ refl refl refl (given_up now)

    renewed_on : Course s e (renew r)
    renewed_on = stays_on now (renew r) refl (record { untold = refl; told = refl; unknown = refl; leads = refl; vote = refl })

    sent_course : (to : ℕ) (b : MessageBody) (q : StepResult) → Course s e q → Course s e (record q { messages = q.messages ++ record { sender = own; addressee = to; body = b } ∷ [] })
    sent_course to b q (on h) =
        on (record { was = h.was; leads = h.leads; vote = h.vote; untold = h.untold; told = h.told; unknown = h.unknown })
    sent_course to b q (over h f) = over (same_without (tokens_of s.untold) q _ refl refl refl h) f
    sent_course to b q (bare h f g) = bare (same_without [] q _ refl refl refl h) f g

    took_course : (v : Vote ℕ) → Course s e (take_over v r)
    took_course v =
        either (Course s e) (vote_lt s.stored.vote v) (store_vote v (step_down r)) (renew r)
        (over (taken_down v) (not_leading s (store_vote v (step_down r)).state refl))
        renewed_on

    greater_course : (v : Vote ℕ) → Course s e (take_over_greater v r)
    greater_course v =
        either (Course s e) (vote_lt s.stored.vote v) (store_vote v (step_down r)) r
        (over (taken_down v) (not_leading s (store_vote v (step_down r)).state refl))
        (stays_on now r refl (stays_refl r))

    judged_course : (v : Vote ℕ) (b : Bool) → Course s e (judged own peer v b r)
    judged_course v true = sent_course peer _ (take_over v r) (took_course v)
    judged_course v false = sent_course peer _ r (stays_on now r refl (stays_refl r))

    granted_stays : (role : Role) → is_leader role ≡ true → Stays r (with_grant peer role r)
    granted_stays Follower t = absurd (let f : false ≡ true = t in cc)
    granted_stays (Candidate granters) t = absurd (let f : false ≡ true = t in cc)
    granted_stays (Leader lead) t = stays_refl r

    counted_course : (v : Vote ℕ) (b : Bool) → Course s e (counted peer b v r)
    counted_course v true = stays_on now _ refl (granted_stays s.role is)
    counted_course v false = greater_course v

    -- another leader's vote that isn't below is greater, so the lead is given up
    record GaveWay (q : StepResult) : Type 0 where
      tokens : Without (tokens_of s.untold) q
      follows : q.state.role ≡ Follower

    gave_way : (v : Vote ℕ) → s.stored.vote.leader_id.node_id ≡ own → (v.leader_id.node_id ≡ own → ⊥) → vote_lt v s.stored.vote ≡ false → GaveWay (take_over v r)
    gave_way v mine other low =
        either_by GaveWay (vote_lt s.stored.vote v) (store_vote v (step_down r)) (renew r)
        (λ t. record { tokens = taken_down v; follows = refl })
        (λ t. absurd (other (ap (λ (x : Vote ℕ). x.leader_id.node_id) (sym (same_vote s.stored.vote v t low)) ∙ mine)))

    heard_course : (a : AppendFields) (b : Bool) → vote_lt a.vote s.stored.vote ≡ b → s.stored.vote.leader_id.node_id ≡ own → (a.vote.leader_id.node_id ≡ own → ⊥) → Course s e (heard own peer a b r)
    heard_course a true low mine other = sent_course peer _ r (stays_on now r refl (stays_refl r))
    heard_course a false low mine other =
        let taken = take_over a.vote r in
        let way = gave_way a.vote mine other low in
        let b = is_held taken.state.stored taken.state.committed a.previous in
        over (joined_without (tokens_of s.untold) own peer a b taken way.tokens)
        (not_leading s (joined own peer a b taken).state (ap is_leader (joined_keeps_role own peer a b taken ∙ way.follows)))

    offered_course : (v : Vote ℕ) (id : ℕ) (x : Snapshot) (b : Bool) → vote_lt v s.stored.vote ≡ b → s.stored.vote.leader_id.node_id ≡ own → (v.leader_id.node_id ≡ own → ⊥) → Course s e (offered own peer v id x b r)
    offered_course v id x true low mine other = sent_course peer _ r (stays_on now r refl (stays_refl r))
    offered_course v id x false low mine other =
        let taken = take_over v r in
        let way = gave_way v mine other low in
        let b = is_within x.last.index taken.state.committed in
        sent_course peer _ (install_unless b x taken)
        (over (unless_without (tokens_of s.untold) b x taken way.tokens)
        (not_leading s (install_unless b x taken).state (ap is_leader (installing_keeps_role b x taken ∙ way.follows))))

    -- a reply whose greater vote is taken over counts no more
    answered_course : (a : ReplyFields) (q : StepResult) → Course s e q → Course s e (answered peer a q.state.role q)
    answered_course a q (on h) =
        let k = answered_stays peer a q.state.role q refl in
        on
        (record {
          was = h.was;
          leads = k.leads ∙ h.leads;
          vote = k.vote ∙ h.vote;
          untold = k.untold ∙ h.untold;
          told = k.told ∙ h.told;
          unknown = k.unknown ∙ h.unknown;
        })
    answered_course a q (over h f) =
        let k = answered_stays peer a q.state.role q refl in
        over (stays_without k h)
        (ap₂ (λ b v. is_leader s.role && (b && vote_eq s.stored.vote v)) k.leads k.vote ∙ f)
    answered_course a q (bare h f g) = bare (stays_without (answered_stays peer a q.state.role q refl) h) f g

    higher_course : (o : ReplyResult) → Course s e (with_higher_vote o r)
    higher_course Success = stays_on now r refl (stays_refl r)
    higher_course (PartialSuccess last) = stays_on now r refl (stays_refl r)
    higher_course Conflict = stays_on now r refl (stays_refl r)
    higher_course (HigherVote v) = greater_course v

    body_course : (b : MessageBody) → (peer ≡ own → ⊥) → is_sound own peer s.stored b ≡ true → s.stored.vote.leader_id.node_id ≡ own → Course s e (message_step own peer b r)
    body_course (VoteRequest v last) stranger sound mine = judged_course v (may_grant r.state v last)
    body_course (VoteReply v granted last) stranger sound mine = counted_course v (granted && vote_eq v s.stored.vote)
    body_course (AppendRequest a) stranger sound mine =
        let one = and_parts (is_of_leader peer a.vote && do_follow a.vote a.previous a.entries) (keep_voters (membership_in_force s.stored) a.entries) sound in
        let two = and_parts (is_of_leader peer a.vote) (do_follow a.vote a.previous a.entries) one.0 in
        heard_course a (vote_lt a.vote s.stored.vote) refl mine (of_leader peer stranger a.vote two.0).1
    body_course (AppendReply a) stranger sound mine = answered_course a (with_higher_vote a.outcome r) (higher_course a.outcome)
    body_course (SnapshotRequest v id x) stranger sound mine =
        let parts = and_parts (is_of_leader peer v) (has_known_snapshot (membership_in_force s.stored) x.membership) sound in
        offered_course v id x (vote_lt v s.stored.vote) refl mine (of_leader peer stranger v parts.0).1
    body_course (SnapshotReply a) stranger sound mine = answered_course a (with_higher_vote a.outcome r) (higher_course a.outcome)

-- ---- at a node that doesn't lead

module _ (own : ℕ) (s : GroupState) (idle : is_leader s.role ≡ false) (none : s.untold ≡ []) where
  abbrev lost : List ℕ
  lost = tokens_of s.untold

  begins : (now : ℕ) → Without lost (begun now s)
  begins now = record { untold = none; told = refl; unknown = sym (ap tokens_of none) }

  ends : {e : GroupEvent} (q : StepResult) → Without lost q → Course s e q
  ends q h = over h (ap (λ b. b && (is_leader q.state.role && vote_eq s.stored.vote q.state.stored.vote)) idle)

  idle_call : (call : GroupCall) (now : ℕ) → NoReason (reasons_of_call own s now call) → Course s (Call call now) (call_step own call (begun now s))
  idle_call (Initialize m) now passed =
      let put = store (PutEntries 0 (entry_of (log_id_of 0 0 0) (Members m) ∷ [])) (begun now s) in
      ends _ (elect_without lost own put (down_without lost put (same_without lost (begun now s) put refl refl refl (begins now))))
  idle_call Elect now passed = ends _ (elect_without lost own (begun now s) (down_without lost (begun now s) (begins now)))
  idle_call (Propose command token) now passed =
      never (is_leader s.role) (unless_none (is_leader s.role) (NotLeader (known_leader s.stored.vote)) passed.1.1.0) idle
  idle_call (ChangeMembership change token) now passed =
      never (is_leader s.role) (unless_none (is_leader s.role) (NotLeader (known_leader s.stored.vote)) passed.1.0) idle
  idle_call Heartbeat now passed = ends _ (stays_without (beat_stays own s.role (begun now s)) (begins now))
  idle_call (Lost peer) now passed = ends _ (stays_without (lost_stays peer s.role (begun now s) refl) (begins now))
  idle_call TriggerSnapshot now passed = ends _ (stays_without (snapshot_stays s.applied (begun now s)) (begins now))
  idle_call (TriggerPurge place) now passed = ends _ (stays_without (within_stays place (snapshot_last s.stored) (begun now s)) (begins now))

  idle_body : {e : GroupEvent} (peer now : ℕ) (b : MessageBody) → Course s e (message_step own peer b (begun now s))
  idle_body peer now (VoteRequest v last) = ends _ (judged_without lost own peer v _ (begun now s) (begins now))
  idle_body peer now (VoteReply v granted last) = ends _ (counted_without lost peer _ v (begun now s) (begins now))
  idle_body peer now (AppendRequest a) = ends _ (heard_without lost own peer a _ (begun now s) (begins now))
  idle_body peer now (AppendReply a) = ends _ (reply_without lost peer a (begun now s) (begins now))
  idle_body peer now (SnapshotRequest v id x) = ends _ (offered_without lost own peer v id x _ (begun now s) (begins now))
  idle_body peer now (SnapshotReply a) = ends _ (reply_without lost peer a (begun now s) (begins now))

-- ---- all events

pub seeks : (role : Role) → is_leader role ≡ true → seeks_or_leads role ≡ true
seeks Follower t = absurd (let f : false ≡ true = t in cc)
seeks (Candidate granters) t = absurd (let f : false ≡ true = t in cc)
seeks (Leader lead) t = refl

module _ (own : ℕ) (s : GroupState) (mine : HasItsOwnVote own s) (waits : WaitsLeading s) where
  course_by : (b : Bool) → is_leader s.role ≡ b → (e : GroupEvent) → OpensWithNone s e → refusal_of own s e ≡ None → Course s e (event_step own s e)
  course_by true t AddGroup none passed =
      on (record { was = t; leads = t; vote = refl; untold = sym (append-nil s.untold); told = refl; unknown = refl })
  course_by false t AddGroup none passed =
      over (record { untold = waits t; told = refl; unknown = sym (ap tokens_of (waits t)) })
      (ap (λ b. b && (b && vote_eq s.stored.vote s.stored.vote)) t)
  course_by true t (Call call now) none passed =
      call_course own s t call now (no_reason (reasons_of own s (Call call now)) passed).1
  course_by false t (Call call now) none passed =
      idle_call own s t (waits t) call now (no_reason (reasons_of own s (Call call now)) passed).1
  course_by true t (Receive peer m now) none passed =
      let p = message_passed own s peer m now passed in
      body_course own s t peer m now m.body p.stranger p.sound (mine (seeks s.role t))
  course_by false t (Receive peer m now) none passed = idle_body own s t (waits t) peer now m.body
  course_by b t Open none passed =
      bare (opening_without [] own s (record { untold = refl; told = refl; unknown = refl })) none refl

  course : (e : GroupEvent) → OpensWithNone s e → refusal_of own s e ≡ None → Course s e (event_step own s e)
  course e none passed = course_by (is_leader s.role) refl e none passed

-- ---- the end of an event

-- a purge tells nothing
pub record Untouched (r q : StepResult) : Type 0 where
  pub untold : q.state.untold ≡ r.state.untold
  pub told : q.told ≡ r.told
  pub committed : q.state.committed ≡ r.state.committed

removed_untouched : (id : Option (LogId ℕ)) (r : StepResult) → Untouched r (remove_up_to id r)
removed_untouched None r = record { untold = refl; told = refl; committed = refl }
removed_untouched (Some id) r = record { untold = refl; told = refl; committed = refl }

pub purged_untouched : (role : Role) (wish : Option ℕ) (r : StepResult) → Untouched r (purge_as_wished role wish r)
purged_untouched Follower wish r = record { untold = refl; told = refl; committed = refl }
purged_untouched (Candidate granters) wish r = record { untold = refl; told = refl; committed = refl }
purged_untouched (Leader lead) None r = record { untold = refl; told = refl; committed = refl }
purged_untouched (Leader lead) (Some place) r =
    let wished = with_wish None r in
    let o = id_of (entry_at r.state.stored place) in
    let k = removed_untouched o wished in
    either (Untouched r) (is_kept_for_peers place lead.peers) r (purge_up_to place wished)
    (record { untold = refl; told = refl; committed = refl })
    (record { untold = k.untold; told = k.told; committed = k.committed })

-- what a leader commits is told, and the rest waits
record Divided (xs : List Untold) (told : List Untold) (q : StepResult) : Type 0 where
  due : q.told ≡ told ++ filter (is_due q.state) xs
  waits : q.state.untold ≡ filter (λ x. not (is_due q.state x)) xs

committed_divides : (own : ℕ) (role : Role) (r : StepResult) → is_leader role ≡ true → Divided r.state.untold r.told (commit_as_leader own role r)
committed_divides own Follower r t = absurd (let f : false ≡ true = t in cc)
committed_divides own (Candidate granters) r t = absurd (let f : false ≡ true = t in cc)
committed_divides own (Leader lead) r t = record { due = refl; waits = refl }

divided_on : {xs told : List Untold} (r q : StepResult) → q.state.untold ≡ r.state.untold → q.told ≡ r.told → q.state.committed ≡ r.state.committed → Divided xs told r → Divided xs told q
divided_on {xs} {told} r q e f g h =
    record {
      due = f ∙ h.due ∙ ap (λ c. told ++ filter (λ (x : Untold). is_within x.place c) xs) (sym g);
      waits = e ∙ h.waits ∙ ap (λ c. filter (λ (x : Untold). not (is_within x.place c)) xs) (sym g);
    }

finished_divides : (own : ℕ) (before : Option ℕ) (r : StepResult) → is_leader r.state.role ≡ true → Divided r.state.untold r.told (finished own before r)
finished_divides own before r t =
    let committed = commit_as_leader own r.state.role r in
    let purged = purge_as_wished committed.state.role committed.state.wish committed in
    let one = purged_untouched committed.state.role committed.state.wish committed in
    let two = frames_same own before purged in
    divided_on purged (with_frames own before purged) two.untold two.told two.committed
    (divided_on committed purged one.untold one.told one.committed (committed_divides own r.state.role r t))

-- ---- the laws

module _ (own : ℕ) (s : GroupState) (e : GroupEvent) where
  abbrev q : StepResult
  q = event_step own s e

  abbrev end : StepResult
  end = finished own s.committed q

  goes : Course s e q → TokensGo s e end
  goes (on h) =
      let adds = finished_adds own s.committed q in
      let divides = finished_divides own s.committed q h.leads in
      let same : vote_eq s.stored.vote end.state.stored.vote ≡ true =
      ap (vote_eq s.stored.vote) (adds.vote ∙ h.vote) ∙ vote_itself s.stored.vote
      in
      let leads : leads_on s end.state ≡ true =
      ap (λ b. b && (is_leader end.state.role && vote_eq s.stored.vote end.state.stored.vote)) h.was
      ∙ ap (λ b. b && vote_eq s.stored.vote end.state.stored.vote) (adds.leads ∙ h.leads) ∙ same
      in
      record {
        told = λ t. divides.due ∙ ap₂ (λ ys xs. ys ++ filter (is_due end.state) xs) h.told h.untold;
        waits = λ t. divides.waits ∙ ap (filter (λ x. not (is_due end.state x))) h.untold;
        none_unknown = λ t. adds.unknown ∙ h.unknown;
        unknown = λ f. never (leads_on s end.state) leads f;
        none_told = λ f. never (leads_on s end.state) leads f;
        none_waits = λ f. never (leads_on s end.state) leads f;
      }
  goes (over h f) =
      let adds = finished_adds own s.committed q in
      let k = finished_without (tokens_of s.untold) own s.committed q h in
      let no_lead : leads_on s end.state ≡ false =
      ap₂ (λ b v. is_leader s.role && (b && vote_eq s.stored.vote v)) adds.leads adds.vote ∙ f
      in
      record {
        told = λ t. never (leads_on s end.state) t no_lead;
        waits = λ t. never (leads_on s end.state) t no_lead;
        none_unknown = λ t. never (leads_on s end.state) t no_lead;
        unknown = λ t. k.unknown;
        none_told = λ t. k.told;
        none_waits = λ t. k.untold;
      }
  goes (bare h none nothing) =
      let k = finished_without [] own s.committed q h in
      let all : s.untold ++ brought s e ≡ [] = ap₂ (λ xs ys. xs ++ ys) none nothing in
      record {
        told = λ t. k.told ∙ sym (ap (filter (is_due end.state)) all);
        waits = λ t. k.untold ∙ sym (ap (filter (λ x. not (is_due end.state x))) all);
        none_unknown = λ t. k.unknown;
        unknown = λ t. k.unknown ∙ sym (ap tokens_of none);
        none_told = λ t. k.told;
        none_waits = λ t. k.untold;
      }

pub tokens_go : TokensOfSteps
tokens_go own s e mine waits none passed =
    subst (λ o. TokensGo s e (step_unless o own s e)) (sym passed) (goes own s e (course own s mine waits e none passed))

pub tokens_wait_leading : TokensWaitLeading
tokens_wait_leading own s e mine waits none idle = go (refusal_of own s e) refl
  where
    go : (o : Option RefusalReason) → refusal_of own s e ≡ o → (group_step own s e).state.untold ≡ []
    go (Some why) f =
        ap (λ x. (step_unless x own s e).state.untold) f
        ∙ waits (sym (ap (λ x. is_leader (step_unless x own s e).state.role) f) ∙ idle)
    go None f =
        (tokens_go own s e mine waits none f).none_waits (not_leading s (group_step own s e).state idle)

-- what a filter keeps passes
kept_pass : (p : Untold → Bool) (xs : List Untold) → All (λ x. p x ≡ false) (filter (λ x. not (p x)) xs)
kept_pass p [] = All-nil (λ x. p x ≡ false)
kept_pass p (x ∷ xs) = go (p x) refl (kept_pass p xs)
  where
    go : (b : Bool) → p x ≡ b → All (λ y. p y ≡ false) (filter (λ y. not (p y)) xs) → All (λ y. p y ≡ false) (cond (not b) (x ∷ filter (λ y. not (p y)) xs) (filter (λ y. not (p y)) xs))
    go true t rest = rest
    go false t rest = All-cons (λ y. p y ≡ false) x (filter (λ y. not (p y)) xs) t rest

pub untold_above : UntoldIsAbove
untold_above own s e mine waits none above = go (refusal_of own s e) refl
  where
    above_by : (b : Bool) → leads_on s (group_step own s e).state ≡ b → TokensGo s e (group_step own s e) → WaitsAbove (group_step own s e).state
    above_by true t h =
        All-same (λ x. is_due (group_step own s e).state x ≡ false) _ _ (h.waits t)
        (kept_pass (is_due (group_step own s e).state) (s.untold ++ brought s e))
    above_by false t h =
        All-same (λ x. is_due (group_step own s e).state x ≡ false) _ _ (h.none_waits t)
        (All-nil (λ x. is_due (group_step own s e).state x ≡ false))

    go : (o : Option RefusalReason) → refusal_of own s e ≡ o → WaitsAbove (group_step own s e).state
    go (Some why) f = subst (λ x. WaitsAbove (step_unless x own s e).state) (sym f) above
    go None f = above_by (leads_on s (group_step own s e).state) refl (tokens_go own s e mine waits none f)
