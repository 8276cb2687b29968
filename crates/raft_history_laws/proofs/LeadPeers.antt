-- A peer by the events of a lead: one event more, and what it has answered.
use Rattle.std.specs.Prelude.{◌≡◌, ℕ, ◌≤◌, ◌==◌, ◌&&◌, ◌||◌, cond, nat_le, Bool, true, false, List, [], ◌∷◌, ◌++◌, Option, Some, None, refl}
use Rattle.std.proofs.Common.{sym, ap, ap₂, ◌∙◌, arith, append_assoc, append-nil, leb-true, le-leb}
use Rattle.std.proofs.lemmas.Bool.{and_parts, cond_both, and_right}
use Rattle.raft_values.specs.declared.log_id.LogId.{LogId}
use Rattle.raft_values.specs.declared.vote.Vote.{Vote}
use Rattle.raft_values.specs.LogId.{next_place}
use Rattle.raft_group_step.specs.Values.{vote_eq}
use Rattle.raft_group_step.specs.Message.{MessageBody, VoteRequest, VoteReply, AppendRequest, AppendReply, SnapshotRequest, SnapshotReply, ReplyFields, ReplyResult, Success, PartialSuccess, Conflict, HigherVote}
use Rattle.raft_group_step.specs.Peer.{Outstanding, PeerState, is_answer_to, new_peer}
use Rattle.raft_group_step.specs.GroupState.{GroupState}
use Rattle.raft_group_step.specs.GroupEvent.{GroupEvent, AddGroup, Call, Receive, Open}
use Rattle.raft_group_step.specs.Reply.{accepted_up_to, after_answer, ended, is_part_of}
use Rattle.raft_step_laws.specs.Commits.{reaches}
use Rattle.raft_step_laws.specs.PeerStates.{loses, peer_after_event, peer_after_message, peer_after_reply, peer_after_sending}
use Rattle.raft_step_laws.proofs.PeerLists.{cond_same}
use Rattle.raft_history_laws.specs.KnownPeers.{accepted_by_event, accepted_by_message, accepted_by_reply, accepted_in, answered_in, in_list, one_reaches, peer_after_lead}
use Rattle.raft_history_laws.specs.Leads.{LeadEvent}
use Rattle.raft_history_laws.proofs.PeersInOrder.{IsAnswered, is_answered}

-- ---- the fold over the events of a lead goes by the vote alone

event_by_vote : (s t : GroupState) → s.stored.vote ≡ t.stored.vote → (e : GroupEvent) (p : PeerState) → peer_after_event s e p ≡ peer_after_event t e p
event_by_vote s t v AddGroup p = refl
event_by_vote s t v (Call call now) p = refl
event_by_vote s t v (Receive peer m now) p = ap (λ w. cond (peer == p.peer) (peer_after_message w m.body p) p) v
event_by_vote s t v Open p = refl

accepted_by_vote : (s t : GroupState) → s.stored.vote ≡ t.stored.vote → (e : GroupEvent) (p : PeerState) → accepted_by_event s e p ≡ accepted_by_event t e p
accepted_by_vote s t v AddGroup p = refl
accepted_by_vote s t v (Call call now) p = refl
accepted_by_vote s t v (Receive peer m now) p = ap (λ w. cond (peer == p.peer) (accepted_by_message w m.body p) []) v
accepted_by_vote s t v Open p = refl

abbrev pub one_more : GroupState → LeadEvent → PeerState → PeerState
one_more s x p = peer_after_sending x.sent (peer_after_event s x.event p)

pub lead_by_vote : (s t : GroupState) → s.stored.vote ≡ t.stored.vote → (xs : List LeadEvent) (p : PeerState) → peer_after_lead s xs p ≡ peer_after_lead t xs p
lead_by_vote s t v [] p = refl
lead_by_vote s t v (x ∷ xs) p =
    lead_by_vote s t v xs (one_more s x p) ∙ ap (λ q. peer_after_lead t xs (peer_after_sending x.sent q)) (event_by_vote s t v x.event p)

pub answered_by_vote : (s t : GroupState) → s.stored.vote ≡ t.stored.vote → (xs : List LeadEvent) (p : PeerState) → answered_in s xs p ≡ answered_in t xs p
answered_by_vote s t v [] p = refl
answered_by_vote s t v (x ∷ xs) p =
    ap₂ (λ xs ys. xs ++ ys) (accepted_by_vote s t v x.event p)
    (answered_by_vote s t v xs (one_more s x p) ∙ ap (λ q. answered_in t xs (peer_after_sending x.sent q)) (event_by_vote s t v x.event p))

-- ---- one event more

pub lead_more : (s : GroupState) (xs : List LeadEvent) (x : LeadEvent) (p : PeerState) → peer_after_lead s (xs ++ x ∷ []) p ≡ one_more s x (peer_after_lead s xs p)
lead_more s [] x p = refl
lead_more s (y ∷ ys) x p = lead_more s ys x (one_more s y p)

pub answered_more : (s : GroupState) (xs : List LeadEvent) (x : LeadEvent) (p : PeerState) → answered_in s (xs ++ x ∷ []) p ≡ answered_in s xs p ++ accepted_by_event s x.event (peer_after_lead s xs p)
answered_more s [] x p = append-nil (accepted_by_event s x.event p)
answered_more s (y ∷ ys) x p =
    ap (λ bs. accepted_by_event s y.event p ++ bs) (answered_more s ys x (one_more s y p))
    ∙ sym (append_assoc (accepted_by_event s y.event p) (answered_in s ys (one_more s y p)) (accepted_by_event s x.event (peer_after_lead s ys (one_more s y p))))

-- ---- nothing comes of a peer of which nothing is known

reply_unmoved : (v : Vote ℕ) (reply : ReplyFields) (b n : ℕ) → peer_after_reply v reply (new_peer b n) ≡ new_peer b n
reply_unmoved v reply b n =
    ap (λ t. cond t (after_answer (new_peer b n) reply reply.outcome) (new_peer b n)) (and_right (vote_eq reply.vote v) false refl)

message_unmoved : (v : Vote ℕ) (m : MessageBody) (b n : ℕ) → peer_after_message v m (new_peer b n) ≡ new_peer b n
message_unmoved v (VoteRequest w last) b n = refl
message_unmoved v (VoteReply w granted last) b n = refl
message_unmoved v (AppendRequest m) b n = refl
message_unmoved v (AppendReply m) b n = reply_unmoved v m b n
message_unmoved v (SnapshotRequest w id x) b n = refl
message_unmoved v (SnapshotReply m) b n = reply_unmoved v m b n

pub new_unmoved : (s : GroupState) (e : GroupEvent) (b n : ℕ) → peer_after_event s e (new_peer b n) ≡ new_peer b n
new_unmoved s AddGroup b n = refl
new_unmoved s (Call call now) b n = cond_same (loses call n) (new_peer b n)
new_unmoved s (Receive peer m now) b n =
    cond_both (peer == n) (peer_after_message s.stored.vote m.body (new_peer b n)) (new_peer b n) (λ q. q ≡ new_peer b n)
    (λ t. message_unmoved s.stored.vote m.body b n) (λ t. refl)
new_unmoved s Open b n = refl

reply_accepts_none : (v : Vote ℕ) (reply : ReplyFields) (b n : ℕ) → accepted_by_reply v reply (new_peer b n) ≡ []
reply_accepts_none v reply b n =
    ap (λ t. cond t (accepted_in (new_peer b n) reply reply.outcome) []) (and_right (vote_eq reply.vote v) false refl)

message_accepts_none : (v : Vote ℕ) (m : MessageBody) (b n : ℕ) → accepted_by_message v m (new_peer b n) ≡ []
message_accepts_none v (VoteRequest w last) b n = refl
message_accepts_none v (VoteReply w granted last) b n = refl
message_accepts_none v (AppendRequest m) b n = refl
message_accepts_none v (AppendReply m) b n = reply_accepts_none v m b n
message_accepts_none v (SnapshotRequest w id x) b n = refl
message_accepts_none v (SnapshotReply m) b n = reply_accepts_none v m b n

pub new_accepts_none : (s : GroupState) (e : GroupEvent) (b n : ℕ) → accepted_by_event s e (new_peer b n) ≡ []
new_accepts_none s AddGroup b n = refl
new_accepts_none s (Call call now) b n = refl
new_accepts_none s (Receive peer m now) b n =
    cond_both (peer == n) (accepted_by_message s.stored.vote m.body (new_peer b n)) [] (λ ids. ids ≡ [])
    (λ t. message_accepts_none s.stored.vote m.body b n) (λ t. refl)
new_accepts_none s Open b n = refl

-- ---- what is accepted reaches a place just where an answer does

or_none : (b : Bool) → b ≡ (b || false)
or_none true = refl
or_none false = refl

pub reaches_both : (place : ℕ) (xs ys : List (LogId ℕ)) → one_reaches place (xs ++ ys) ≡ (one_reaches place xs || one_reaches place ys)
reaches_both place [] ys = refl
reaches_both place (x ∷ xs) ys = go (nat_le place x.index) (reaches_both place xs ys)
  where
    go : (b : Bool) → one_reaches place (xs ++ ys) ≡ (one_reaches place xs || one_reaches place ys) → (b || one_reaches place (xs ++ ys)) ≡ ((b || one_reaches place xs) || one_reaches place ys)
    go true e = refl
    go false e = e

-- the later log id reaches all that the earlier one does
later_reaches : (place : ℕ) (old : Option (LogId ℕ)) (new : LogId ℕ) → next_place old ≤ next_place (Some new) → nat_le place new.index ≡ (reaches old place || (nat_le place new.index || false))
later_reaches place None new l = or_none (nat_le place new.index)
later_reaches place (Some old) new l = go (nat_le place old.index) refl
  where
    go : (b : Bool) → nat_le place old.index ≡ b → nat_le place new.index ≡ (b || (nat_le place new.index || false))
    go true t = let k = leb-true place old.index t in le-leb place new.index (omega arith)
    go false t = or_none (nat_le place new.index)

-- no request that is outstanding ends below what is accepted
abbrev pub Follows : PeerState → Type 0
Follows p = (o : Outstanding) → p.outstanding ≡ Some o → next_place p.matched ≤ next_place o.last

module _ (place : ℕ) (p : PeerState) (h : Follows p) where
  none_reaches : (q : PeerState) → q.matched ≡ p.matched → reaches q.matched place ≡ (reaches p.matched place || one_reaches place [])
  none_reaches q e = ap (λ o. reaches o place) e ∙ or_none (reaches p.matched place)

  success_reaches : (last : Option (LogId ℕ)) → next_place p.matched ≤ next_place last → reaches last place ≡ (reaches p.matched place || one_reaches place (in_list last))
  success_reaches None l = go p.matched l
    where
      go : (o : Option (LogId ℕ)) → next_place o ≤ 0 → false ≡ (reaches o place || false)
      go None k = refl
      go (Some id) k = absurd (omega arith)
  success_reaches (Some id) l = later_reaches place p.matched id l

  outcome_reaches : (reply : ReplyFields) → next_place p.matched ≤ next_place reply.last → (o : ReplyResult) → reaches (after_answer p reply o).matched place ≡ (reaches p.matched place || one_reaches place (accepted_in p reply o))
  outcome_reaches reply l Success = success_reaches reply.last l
  outcome_reaches reply l (PartialSuccess last) = go (is_part_of p reply last) refl
    where
      go : (b : Bool) → is_part_of p reply last ≡ b → reaches (cond b (accepted_up_to last p) (ended p)).matched place ≡ (reaches p.matched place || one_reaches place (cond b (in_list last) []))
      go true t =
          let low = leb-true (next_place p.matched) (next_place last) (and_parts (nat_le (next_place p.matched) (next_place last)) (nat_le (next_place last) (next_place reply.last)) t).0 in
          success_reaches last low
      go false t = or_none (reaches p.matched place)
  outcome_reaches reply l Conflict = or_none (reaches p.matched place)
  outcome_reaches reply l (HigherVote v) = or_none (reaches p.matched place)

  reply_reaches : (v : Vote ℕ) (reply : ReplyFields) → reaches (peer_after_reply v reply p).matched place ≡ (reaches p.matched place || one_reaches place (accepted_by_reply v reply p))
  reply_reaches v reply = go (vote_eq reply.vote v && is_answer_to reply p.outstanding) refl
    where
      go : (b : Bool) → (vote_eq reply.vote v && is_answer_to reply p.outstanding) ≡ b → reaches (cond b (after_answer p reply reply.outcome) p).matched place ≡ (reaches p.matched place || one_reaches place (cond b (accepted_in p reply reply.outcome) []))
      go true t =
          let a : IsAnswered reply p = is_answered reply p (and_parts (vote_eq reply.vote v) (is_answer_to reply p.outstanding) t).1 in
          let low = h a.request a.outstanding in
          let same = a.last in
          outcome_reaches reply (omega arith) reply.outcome
      go false t = or_none (reaches p.matched place)

  message_reaches : (v : Vote ℕ) (m : MessageBody) → reaches (peer_after_message v m p).matched place ≡ (reaches p.matched place || one_reaches place (accepted_by_message v m p))
  message_reaches v (VoteRequest w last) = or_none (reaches p.matched place)
  message_reaches v (VoteReply w granted last) = or_none (reaches p.matched place)
  message_reaches v (AppendRequest m) = or_none (reaches p.matched place)
  message_reaches v (AppendReply m) = reply_reaches v m
  message_reaches v (SnapshotRequest w id x) = or_none (reaches p.matched place)
  message_reaches v (SnapshotReply m) = reply_reaches v m

  pub event_reaches : (s : GroupState) (e : GroupEvent) → reaches (peer_after_event s e p).matched place ≡ (reaches p.matched place || one_reaches place (accepted_by_event s e p))
  event_reaches s AddGroup = or_none (reaches p.matched place)
  event_reaches s (Call call now) =
      cond_both (loses call p.peer) (ended p) p (λ q. reaches q.matched place ≡ (reaches p.matched place || one_reaches place []))
      (λ t. or_none (reaches p.matched place)) (λ t. or_none (reaches p.matched place))
  event_reaches s (Receive peer m now) = go (peer == p.peer)
    where
      go : (b : Bool) → reaches (cond b (peer_after_message s.stored.vote m.body p) p).matched place ≡ (reaches p.matched place || one_reaches place (cond b (accepted_by_message s.stored.vote m.body p) []))
      go true = message_reaches s.stored.vote m.body
      go false = or_none (reaches p.matched place)
  event_reaches s Open = or_none (reaches p.matched place)
