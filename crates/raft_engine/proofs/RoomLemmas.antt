-- A leader has room to finish: when its state is ready, and what changes of the state leave of that.
use Rattle.std.specs.Prelude.{◌≡◌, ℕ, ◌^◌, ◌<◌, ◌≤◌, ◌==◌, nat_lt, true, false, if◌then◌else◌, List, [], ◌∷◌, ◌++◌, map, None, refl}
use Rattle.std.proofs.Common.{sym, ◌∙◌, subst, arith}
use Rattle.std.proofs.lemmas.Bool.{eqb-true, ltb-true}
use Rattle.std.proofs.lemmas.List.Folds.{list_all-append}
use Rattle.raft_values.specs.LogId.{next_place}
use Rattle.raft_quorums.specs.QuorumLaws.{and_left, and_right}
use Rattle.raft_group_step.specs.StoredGroup.{StoredGroup, end_place, snapshot_last}
use Rattle.raft_group_step.specs.Peer.{PeerState, new_peer, peer_or, with_peer}
use Rattle.raft_group_step.specs.GroupState.{GroupState, Lead, Role, Follower, Candidate, Leader, is_leader}
use Rattle.raft_group_step.specs.Lead.{peer_of}
use Rattle.raft_group_step.specs.Refusal.{are_in_range, first_of_reasons, is_right_party, is_sound, known_leader, lead_reason, next_blank, next_ids, number_limit, numbers_of, range_reason, reasons_of_call, refusal_of, unknown_group, unless}
use Rattle.raft_group_step.specs.StepResult.{BreaksCondition, NotLeader, NumberAtEnd, WrongParty}
use Rattle.raft_group_step.specs.Message.{MessageBody}
use Rattle.raft_group_step.specs.GroupEvent.{Call, GroupCall}
use Rattle.raft_group_step.proofs.Words.{leads_if}
use Rattle.raft_group_step.proofs.Peers.{with_peer-found, with_peer-others}
use Rattle.raft_group_step.proofs.Refusals.{unless_none as passes}
use Rattle.raft_engine.specs.Sending.{with_known}
use Rattle.raft_engine.specs.Events.{CanFinish, HasLeadRoom, IsReady, received}
use Rattle.raft_engine.proofs.EventLemmas.{no_first_reason}

-- ---- events that aren't refused

-- no reason of a call counts
pub call_accepted : (own at : ℕ) (s : GroupState) (call : GroupCall) → refusal_of own s (Call call at) ≡ None → first_of_reasons (reasons_of_call own s at call) ≡ None
call_accepted own at s call h = (no_first_reason (unknown_group s) (reasons_of_call own s at call) h).1

-- the numbers of a message are in range, and it keeps the conditions
pub message_accepted : (own peer at : ℕ) (s : GroupState) (body : MessageBody) → refusal_of own s (received own peer body at) ≡ None
    → (range_reason s (at ∷ numbers_of body ++ next_blank s) ≡ None) × (is_sound own peer s.stored body ≡ true)
message_accepted own peer at s body h =
    let sound = unless (is_sound own peer s.stored body) BreaksCondition in
    let range = range_reason s (at ∷ numbers_of body ++ next_blank s) in
    let right = unless (is_right_party own peer (record { sender = peer; addressee = own; body = body })) WrongParty in
    let known = no_first_reason right (unknown_group s ∷ range ∷ sound ∷ []) h in
    let others = no_first_reason (unknown_group s) (range ∷ sound ∷ []) known.1 in
    let ranged = no_first_reason range (sound ∷ []) others.1 in
    (ranged.0, passes (is_sound own peer s.stored body) BreaksCondition (no_first_reason sound [] ranged.1).0)

-- who isn't refused as no leader leads
pub lead_accepted : (s : GroupState) → lead_reason s ≡ None → (lead : Lead) × (s.role ≡ Leader lead)
lead_accepted s h = leads_if s.role (passes (is_leader s.role) (NotLeader (known_leader s.stored.vote)) h)

-- ---- numbers in range

-- a number in range is below 2 ^ 62
pub low_number : (n : ℕ) → nat_lt n number_limit ≡ true → n < 2 ^ 62
low_number n h = ltb-true n number_limit h

-- the first number of a list in range, and the others
pub first_low : (n : ℕ) (ns : List ℕ) → are_in_range (n ∷ ns) ≡ true → n < 2 ^ 62
first_low n ns h = low_number n (and_left (nat_lt n number_limit) (are_in_range ns) h)

pub others_low : (n : ℕ) (ns : List ℕ) → are_in_range (n ∷ ns) ≡ true → are_in_range ns ≡ true
others_low n ns h = and_right (nat_lt n number_limit) (are_in_range ns) h

-- the parts of a list in range
pub front_low : (ms ns : List ℕ) → are_in_range (ms ++ ns) ≡ true → are_in_range ms ≡ true
front_low ms ns h = and_left (are_in_range ms) (are_in_range ns) (sym (list_all-append (λ n. nat_lt n number_limit) ms ns) ∙ h)

pub back_low : (ms ns : List ℕ) → are_in_range (ms ++ ns) ≡ true → are_in_range ns ≡ true
back_low ms ns h = and_right (are_in_range ms) (are_in_range ns) (sym (list_all-append (λ n. nat_lt n number_limit) ms ns) ∙ h)

-- numbers that aren't refused are in range, and so are the next ones of the peers
pub low_numbers : (s : GroupState) (ns : List ℕ) → range_reason s ns ≡ None → are_in_range ns ≡ true
low_numbers s ns h = front_low ns (next_ids s.role) (passes (are_in_range (ns ++ next_ids s.role)) NumberAtEnd h)

-- the number of a peer's next request
number_of_peer : (p : PeerState) (peers : List PeerState) → p.next_id < 2 ^ 62 → are_in_range (map (λ (q : PeerState). q.next_id) peers) ≡ true → (peer_or p peers).next_id < 2 ^ 62
number_of_peer p [] l h = l
number_of_peer p (x ∷ xs) l h =
    elim (x.peer == p.peer) as (λ b. (if b then x else peer_or p xs).next_id < 2 ^ 62) [
      | true ↦ first_low x.next_id (map (λ (q : PeerState). q.next_id) xs) h
      | false ↦ number_of_peer p xs l (others_low x.next_id (map (λ (q : PeerState). q.next_id) xs) h)
    ]

pub low_next_id : (s : GroupState) (lead : Lead) (ns : List ℕ) → s.role ≡ Leader lead → range_reason s ns ≡ None → (n : ℕ) → (peer_of lead n).next_id < 2 ^ 62
low_next_id s lead ns is_lead h n =
    number_of_peer (new_peer lead.began n) lead.peers (omega arith)
    (subst (λ role. are_in_range (next_ids role) ≡ true) is_lead
    (back_low ns (next_ids s.role) (passes (are_in_range (ns ++ next_ids s.role)) NumberAtEnd h)))

-- ---- ready states

-- a ready state stays ready at each moment
pub ready_at : (own now : ℕ) (s : GroupState) → IsReady own s → IsReady own (record s { now = now })
ready_at own now s ready = record { places = ready.places; wish = ready.wish }

-- a leader whose state is ready has room
pub room_when_ready : (own : ℕ) (s : GroupState) (lead : Lead) (ns : List ℕ) → IsReady own s → s.role ≡ Leader lead → range_reason s ns ≡ None → HasLeadRoom own s lead
room_when_ready own s lead ns ready is_lead h =
    let places = ready.places in
    record {
      places = omega arith;
      numbers = λ n. let low = low_next_id s lead ns is_lead h n in omega arith;
      wish = ready.wish;
    }

finish_as : (own : ℕ) (s : GroupState) (role : Role) → ((lead : Lead) → role ≡ Leader lead → HasLeadRoom own s lead) → CanFinish own s role
finish_as own s Follower h = tt
finish_as own s (Candidate granters) h = tt
finish_as own s (Leader lead) h = h lead refl

-- whoever has room as a leader can finish in each role
pub can_finish : (own : ℕ) (s : GroupState) → ((lead : Lead) → s.role ≡ Leader lead → HasLeadRoom own s lead) → CanFinish own s s.role
can_finish own s h = finish_as own s s.role h

-- the event can be finished whatever role the node has
pub can_finish_when_ready : (own : ℕ) (s : GroupState) (ns : List ℕ) → IsReady own s → range_reason s ns ≡ None → CanFinish own s s.role
can_finish_when_ready own s ns ready h = can_finish own s (λ lead is_lead. room_when_ready own s lead ns ready is_lead h)

-- ---- what leaves room

-- what is neither stored nor wished for takes no room
pub room_kept : (own : ℕ) (s s' : GroupState) (lead : Lead) → s'.stored ≡ s.stored → s'.wish ≡ s.wish → HasLeadRoom own s lead → HasLeadRoom own s' lead
room_kept own s s' lead stored wish room =
    record {
      places = subst (λ (y : StoredGroup). end_place y < 2 ^ 63) (sym stored) room.places;
      numbers = room.numbers;
      wish = λ place e. subst (λ (y : StoredGroup). place < next_place (snapshot_last y)) (sym stored) (room.wish place (sym wish ∙ e));
    }

-- so it is in each role
pub finish_kept : (own : ℕ) (s s' : GroupState) → s'.stored ≡ s.stored → s'.wish ≡ s.wish → s'.role ≡ s.role → CanFinish own s s.role → CanFinish own s' s'.role
finish_kept own s s' stored wish role can =
    can_finish own s' (λ lead is_lead. room_kept own s s' lead stored wish (subst (CanFinish own s) (sym role ∙ is_lead) can))

-- an event that begins has room at its moment
pub room_at : (own now : ℕ) (s : GroupState) (lead : Lead) → HasLeadRoom own s lead → HasLeadRoom own (record s { now = now }) lead
room_at own now s lead room = room_kept own s (record s { now = now }) lead refl refl room

pub finish_at : (own now : ℕ) (s : GroupState) → CanFinish own s s.role → CanFinish own (record s { now = now }) s.role
finish_at own now s can = finish_kept own s (record s { now = now }) refl refl refl can

-- what is known of a peer takes no room where the number of its next request stays
pub room_with_peer : (own : ℕ) (s : GroupState) (lead : Lead) (p : PeerState) → p.next_id ≡ (peer_of lead p.peer).next_id → HasLeadRoom own s lead
    → HasLeadRoom own (with_known p lead s) (record lead { peers = with_peer p lead.peers })
room_with_peer own s lead p same room =
    record {
      places = room.places;
      numbers = λ n.
          elim (p.peer == n) as (λ b. (p.peer == n) ≡ b → (peer_or (new_peer lead.began n) (with_peer p lead.peers)).next_id ≤ 2 ^ 63) [
            | true ↦ λ t.
                let here : p.peer ≡ n = eqb-true p.peer n t in
                let found : peer_or (new_peer lead.began n) (with_peer p lead.peers) ≡ p = with_peer-found p (new_peer lead.began n) lead.peers here in
                let some : (peer_of lead p.peer).next_id ≤ 2 ^ 63 = room.numbers p.peer in
                rw found (omega (arith, some, same))
            | false ↦ λ f. rw (with_peer-others p (new_peer lead.began n) lead.peers f) (room.numbers n)
          ] refl;
      wish = room.wish;
    }
