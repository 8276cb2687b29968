-- What a leader's events do leaves room for what it does at their end.
use Rattle.std.specs.Prelude.{◌≡◌, ℕ, ◌^◌, ◌<◌, ◌==◌, ◌&&◌, max, min, nat_lt, nat_le, true, false, if◌then◌else◌, List, [], ◌∷◌, ◌++◌, length, Option, Some, None, is_some, refl}
use Rattle.std.proofs.Common.{ap, sym, ◌∙◌, subst, arith}
use Rattle.std.proofs.lemmas.Bool.{eqb-true}
use Rattle.raft_values.specs.declared.log_id.LogId.{LogId}
use Rattle.raft_values.specs.LogId.{next_place}
use Rattle.raft_state.specs.declared.entry.EntryPayload.TheVariants.{Normal, Membership as Members}
use Rattle.raft_group_step.specs.Values.{ChangeMembers, EntryPayload, LoggedMembership, Membership, after_change, vote_eq, vote_lt}
use Rattle.raft_group_step.specs.StoredGroup.{end_place, entry_at, first_place, id_of, membership_in_force, snapshot_last}
use Rattle.raft_group_step.specs.Message.{ReplyFields, ReplyResult, Success, PartialSuccess, Conflict, HigherVote}
use Rattle.raft_group_step.specs.Peer.{PeerState, is_answer_to, new_peer, peer_or}
use Rattle.raft_group_step.specs.GroupState.{GroupState, Lead, Role, Follower, Candidate, Leader, is_leader}
use Rattle.raft_group_step.specs.declared.group_call.GroupCall.TheVariants.{ChangeMembership, Propose}
use Rattle.raft_group_step.specs.GroupEvent.{Call}
use Rattle.raft_group_step.specs.StepResult.{StepResult, RefusalReason, CommandTooLong, InProgress, later_place, step_down, store_vote}
use Rattle.raft_group_step.specs.Lead.{other_ids, peer_of, purge_up_to, with_wish}
use Rattle.raft_group_step.specs.Frames.{with_peer_state}
use Rattle.raft_group_step.specs.Refusal.{are_in_range, command_limit, first_of_reasons, is_settled_membership, lead_reason, next_blank, numbers_of_id, numbers_of_reply, numbers_of_request, numbers_of_result, range_reason, reasons_of_change, refusal_of, unless}
use Rattle.raft_group_step.specs.GroupStep.{begun}
use Rattle.raft_group_step.specs.Propose.{append_with_token, propose_step}
use Rattle.raft_group_step.specs.MembershipStep.{append_changed, membership_step}
use Rattle.raft_group_step.specs.Heartbeat.{beat_as}
use Rattle.raft_group_step.specs.Lost.{lost_as}
use Rattle.raft_group_step.specs.Reply.{accepted_up_to, after_answer, answered, ended, is_part_of, reply_step, with_higher_vote}
use Rattle.raft_group_step.specs.PurgeTrigger.{purge_as, purge_trigger_step, purge_within}
use Rattle.raft_group_step.proofs.Words.{removing_keeps_role}
use Rattle.raft_group_step.proofs.Peers.{answer_keeps_peer}
use Rattle.raft_engine.specs.Events.{CanFinish, HasLeadRoom, IsReady}
use Rattle.raft_engine.proofs.AppendLemmas.{with_token}
use Rattle.raft_engine.proofs.EventLemmas.{no_first_reason}
use Rattle.raft_engine.proofs.ReplicationLemmas.{told_state}
use Rattle.raft_engine.proofs.RoomLemmas.{back_low, call_accepted, first_low, front_low, lead_accepted, low_numbers, others_low, room_kept, room_when_ready, room_with_peer}
use Rattle.raft_engine.proofs.RoomToGrow.{room_appended}

-- there is room for what a leader does after the step
abbrev pub Finishes : ℕ → StepResult → Type 0
Finishes own r = CanFinish own r.state r.state.role

-- ---- a leader appends

module _ (own at token : ℕ) (s : GroupState) (lead : Lead) (is_lead : s.role ≡ Leader lead) (ready : IsReady own s)
    (range : range_reason s (at ∷ end_place s.stored ∷ []) ≡ None) where
  -- an entry leaves room
  pub finish_appended : (payload : EntryPayload) → CanFinish own (append_with_token payload token (begun at s)).state s.role
  finish_appended payload =
      let r = with_token token (begun at s) in
      let low : end_place s.stored < 2 ^ 62 = first_low (end_place s.stored) [] (others_low at (end_place s.stored ∷ []) (low_numbers s (at ∷ end_place s.stored ∷ []) range)) in
      subst (CanFinish own (append_with_token payload token (begun at s)).state) (sym is_lead)
      (room_appended own r lead payload (omega arith) (room_kept own s r.state lead refl refl (room_when_ready own s lead (at ∷ end_place s.stored ∷ []) ready is_lead range)))

module _ (own at token : ℕ) (s : GroupState) (ready : IsReady own s) where
  module _ (command : List ℕ) (accepted : refusal_of own s (Call (Propose command token) at) ≡ None) where
    propose_range : first_of_reasons (range_reason s (at ∷ end_place s.stored ∷ []) ∷ lead_reason s ∷ []) ≡ None
    propose_range =
        (no_first_reason (unless (nat_le (length command) command_limit) CommandTooLong) (range_reason s (at ∷ end_place s.stored ∷ []) ∷ lead_reason s ∷ [])
        (call_accepted own at s (Propose command token) accepted)).1

    -- who takes a command leads
    pub proposes : (lead : Lead) × (s.role ≡ Leader lead)
    proposes =
        lead_accepted s
        (no_first_reason (lead_reason s) [] (no_first_reason (range_reason s (at ∷ end_place s.stored ∷ [])) (lead_reason s ∷ []) propose_range).1).0

    pub finish_proposed : CanFinish own (propose_step command token (begun at s)).state s.role
    finish_proposed =
        finish_appended own at token s proposes.0 proposes.1 ready
        (no_first_reason (range_reason s (at ∷ end_place s.stored ∷ [])) (lead_reason s ∷ []) propose_range).0 (Normal command)

  module _ (change : ChangeMembers) (m : LoggedMembership) (in_force : membership_in_force s.stored ≡ Some m)
      (accepted : refusal_of own s (Call (ChangeMembership change token) at) ≡ None) where
    abbrev changed : Membership
    changed = after_change m.membership change

    abbrev change_range : Option RefusalReason
    change_range = range_reason s (at ∷ end_place s.stored ∷ [])

    abbrev settled : Option RefusalReason
    settled = unless (is_settled_membership s (membership_in_force s.stored)) InProgress

    in_range : (change_range ≡ None) × (first_of_reasons (lead_reason s ∷ settled ∷ reasons_of_change (membership_in_force s.stored) change) ≡ None)
    in_range =
        no_first_reason change_range (lead_reason s ∷ settled ∷ reasons_of_change (membership_in_force s.stored) change)
        (call_accepted own at s (ChangeMembership change token) accepted)

    by_leader : (lead_reason s ≡ None) × (first_of_reasons (settled ∷ reasons_of_change (membership_in_force s.stored) change) ≡ None)
    by_leader = no_first_reason (lead_reason s) (settled ∷ reasons_of_change (membership_in_force s.stored) change) in_range.1

    -- who takes a change leads
    pub changes : (lead : Lead) × (s.role ≡ Leader lead)
    changes = lead_accepted s by_leader.0

    pub finish_changed : Finishes own (membership_step change token (begun at s))
    finish_changed =
        subst (λ found. Finishes own (append_changed found change token (begun at s))) (sym in_force)
        (finish_appended own at token s changes.0 changes.1 ready in_range.0 (Members changed))

-- ---- what is known of a peer

-- the peer at an id has it
peer_there : (p : PeerState) (peers : List PeerState) → (peer_or p peers).peer ≡ p.peer
peer_there p [] = refl
peer_there p (x ∷ xs) =
    elim (x.peer == p.peer) as (λ b. (x.peer == p.peer) ≡ b → (if b then x else peer_or p xs).peer ≡ p.peer) [
      | true ↦ λ t. eqb-true x.peer p.peer t
      | false ↦ λ _. peer_there p xs
    ] refl

-- what changes of a peer but the number of its next request leaves room
known_finishes : (own n : ℕ) (r : StepResult) (lead : Lead) (p : PeerState) → p.peer ≡ (peer_of lead n).peer → p.next_id ≡ (peer_of lead n).next_id → HasLeadRoom own r.state lead
    → Finishes own (with_peer_state p lead r)
known_finishes own n r lead p same next room =
    let at : n ≡ p.peer = sym (same ∙ peer_there (new_peer lead.began n) lead.peers) in
    room_with_peer own r.state lead p (next ∙ ap (λ k. (peer_of lead k).next_id) at) room

lost_finishes : (own n : ℕ) (role : Role) (r : StepResult) → r.state.role ≡ role → Finishes own r → Finishes own (lost_as n role r)
lost_finishes own n Follower r e can = can
lost_finishes own n (Candidate granters) r e can = can
lost_finishes own n (Leader lead) r e can =
    elim (is_some (peer_of lead n).outstanding) as (λ b. Finishes own (if b then with_peer_state (ended (peer_of lead n)) lead r else r)) [
      | true ↦ known_finishes own n r lead (ended (peer_of lead n)) refl refl (subst (CanFinish own r.state) e can)
      | false ↦ can
    ]

-- a request that is lost leaves room
pub finish_lost : (own n : ℕ) (r : StepResult) → Finishes own r → Finishes own (lost_as n r.state.role r)
finish_lost own n r can = lost_finishes own n r.state.role r refl can

answer_keeps_number : (p : PeerState) (reply : ReplyFields) (outcome : ReplyResult) → (after_answer p reply outcome).next_id ≡ p.next_id
answer_keeps_number p reply Success = refl
answer_keeps_number p reply (PartialSuccess last) =
    elim (is_part_of p reply last) as (λ b. (if b then accepted_up_to last p else ended p).next_id ≡ p.next_id) [
      | true ↦ refl
      | false ↦ refl
    ]
answer_keeps_number p reply Conflict = refl
answer_keeps_number p reply (HigherVote vote) = refl

answer_finishes : (own n : ℕ) (reply : ReplyFields) (role : Role) (r : StepResult) → r.state.role ≡ role → Finishes own r
    → Finishes own (answered n reply role r)
answer_finishes own n reply Follower r e can = can
answer_finishes own n reply (Candidate granters) r e can = can
answer_finishes own n reply (Leader lead) r e can =
    let p = peer_of lead n in
    let after = after_answer p reply reply.outcome in
    elim (vote_eq reply.vote r.state.stored.vote && is_answer_to reply p.outstanding) as (λ b. Finishes own (if b then with_peer_state after lead r else r)) [
      | true ↦ known_finishes own n r lead after (answer_keeps_peer p reply reply.outcome) (answer_keeps_number p reply reply.outcome) (subst (CanFinish own r.state) e can)
      | false ↦ can
    ]

judge_finishes : (own : ℕ) (outcome : ReplyResult) (r : StepResult) → Finishes own r → Finishes own (with_higher_vote outcome r)
judge_finishes own Success r can = can
judge_finishes own (PartialSuccess last) r can = can
judge_finishes own Conflict r can = can
judge_finishes own (HigherVote vote) r can =
    elim (vote_lt r.state.stored.vote vote) as (λ b. Finishes own (if b then store_vote vote (step_down r) else r)) [
      | true ↦ tt
      | false ↦ can
    ]

-- an answer leaves room
pub finish_answered : (own n : ℕ) (reply : ReplyFields) (r : StepResult) → Finishes own r → Finishes own (reply_step n reply r)
finish_answered own n reply r can =
    let judged = with_higher_vote reply.outcome r in
    answer_finishes own n reply judged.state.role judged refl (judge_finishes own reply.outcome r can)

-- ---- notices

beat_state : (own : ℕ) (role : Role) (r : StepResult) → (beat_as own role r).state ≡ r.state
beat_state own Follower r = refl
beat_state own (Candidate granters) r = refl
beat_state own (Leader lead) r = told_state own lead (other_ids own r.state.stored) r

-- notices leave room
pub finish_beat : (own : ℕ) (r : StepResult) → Finishes own r → Finishes own (beat_as own r.state.role r)
finish_beat own r can = subst (λ (s : GroupState). CanFinish own s s.role) (sym (beat_state own r.state.role r)) can

-- ---- purging

-- who doesn't lead can finish in any state
unled_finishes : (own : ℕ) (s s' : GroupState) (role : Role) → s.role ≡ role → is_leader role ≡ false → s'.role ≡ s.role → CanFinish own s' s'.role
unled_finishes own s s' Follower e f same = subst (CanFinish own s') (sym (same ∙ e)) tt
unled_finishes own s s' (Candidate granters) e f same = subst (CanFinish own s') (sym (same ∙ e)) tt
unled_finishes own s s' (Leader lead) e f same = cc f

module _ (own : ℕ) (r : StepResult) (ready : IsReady own r.state) where
  wish_later : (wish : Option ℕ) (n : ℕ) → ((place : ℕ) → wish ≡ Some place → place < next_place (snapshot_last r.state.stored)) → n < next_place (snapshot_last r.state.stored)
      → (place : ℕ) → later_place wish (Some n) ≡ Some place → place < next_place (snapshot_last r.state.stored)
  wish_later None n h l place e = let same : n ≡ place = cc e in subst (λ k. k < next_place (snapshot_last r.state.stored)) same l
  wish_later (Some a) n h l place e =
      let same : max a n ≡ place = cc e in
      let before = h a refl in
      subst (λ k. k < next_place (snapshot_last r.state.stored)) same (omega arith)

  -- a later wish leaves room
  wished_room : (lead : Lead) (n : ℕ) → n < next_place (snapshot_last r.state.stored) → HasLeadRoom own r.state lead
      → HasLeadRoom own (with_wish (later_place r.state.wish (Some n)) r).state lead
  wished_room lead n l room =
      record {
        places = room.places;
        numbers = room.numbers;
        wish = wish_later r.state.wish n ready.wish l;
      }

  purge_finishes : (n : ℕ) (role : Role) → r.state.role ≡ role → n < next_place (snapshot_last r.state.stored) → Finishes own r
      → Finishes own (purge_as n role r)
  purge_finishes n Follower e l can = unled_finishes own r.state (purge_up_to n r).state Follower e refl (removing_keeps_role (id_of (entry_at r.state.stored n)) r)
  purge_finishes n (Candidate granters) e l can =
      unled_finishes own r.state (purge_up_to n r).state (Candidate granters) e refl (removing_keeps_role (id_of (entry_at r.state.stored n)) r)
  purge_finishes n (Leader lead) e l can =
      let later = with_wish (later_place r.state.wish (Some n)) r in
      elim (nat_lt n (first_place r.state.stored)) as (λ b. Finishes own (if b then r else later)) [
        | true ↦ can
        | false ↦ subst (CanFinish own later.state) (sym e) (wished_room lead n l (subst (CanFinish own r.state) e can))
      ]

  within_finishes : (place : ℕ) (last : Option (LogId ℕ)) → snapshot_last r.state.stored ≡ last → Finishes own r
      → Finishes own (purge_within place last r)
  within_finishes place None e can = can
  within_finishes place (Some last) e can =
      let covered : min place last.index < next_place (snapshot_last r.state.stored) = subst (λ found. min place last.index < next_place found) (sym e) (omega arith) in
      purge_finishes (min place last.index) r.state.role refl covered can

  -- a purge leaves room
  pub finish_purged : (place : ℕ) → Finishes own r → Finishes own (purge_trigger_step place r)
  finish_purged place can = within_finishes place (snapshot_last r.state.stored) refl can

-- ---- what a reply says

id_fits : (id : Option (LogId ℕ)) → are_in_range (numbers_of_id id) ≡ true → next_place id < 2 ^ 64
id_fits None h = omega arith
id_fits (Some id) h = let low = first_low id.index [] (others_low id.leader_id.term (id.index ∷ []) h) in omega arith

-- the place after the last log id of a reply fits
pub reply_fits : (at : ℕ) (s : GroupState) (m : ReplyFields) → range_reason s (at ∷ numbers_of_reply m ++ next_blank s) ≡ None → next_place m.last < 2 ^ 64
reply_fits at s m h =
    let all = front_low (numbers_of_reply m) (next_blank s) (others_low at (numbers_of_reply m ++ next_blank s) (low_numbers s (at ∷ numbers_of_reply m ++ next_blank s) h)) in
    let behind_vote = others_low m.vote.leader_id.term (numbers_of_request m.id ++ numbers_of_id m.previous ++ numbers_of_id m.last ++ numbers_of_result m.outcome) all in
    let up_to_last = front_low (numbers_of_request m.id ++ numbers_of_id m.previous ++ numbers_of_id m.last) (numbers_of_result m.outcome) behind_vote in
    id_fits m.last (back_low (numbers_of_request m.id ++ numbers_of_id m.previous) (numbers_of_id m.last) up_to_last)
