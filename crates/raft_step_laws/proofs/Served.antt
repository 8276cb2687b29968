-- A leader serves its peers.
use Rattle.std.specs.Prelude.{◌≡◌, ◌⊎◌, ℕ, ◌==◌, ◌&&◌, Bool, true, false, Some, None, refl}
use Rattle.std.proofs.Common.{inl, inr, sym, ap, ◌∙◌, subst, ⊎_elim}
use Rattle.std.proofs.lemmas.Bool.{cond_both}
use Rattle.raft_values.specs.declared.vote.Vote.{Vote}
use Rattle.raft_group_step.specs.Values.{has_id, vote_eq}
use Rattle.raft_group_step.specs.Message.{MessageBody, VoteRequest, VoteReply, AppendRequest, AppendReply, SnapshotRequest, SnapshotReply, ReplyFields, ReplyResult, Success, PartialSuccess, Conflict, HigherVote}
use Rattle.raft_group_step.specs.Peer.{Outstanding, PeerState, is_answer_to, new_peer}
use Rattle.raft_group_step.specs.GroupState.{GroupState, Lead, Leader, is_leader}
use Rattle.raft_group_step.specs.GroupEvent.{GroupEvent, AddGroup, Call, Receive, Open}
use Rattle.raft_group_step.specs.StepResult.{StepResult}
use Rattle.raft_group_step.specs.Lead.{other_ids, peer_of}
use Rattle.raft_group_step.specs.Frames.{lacks_entries}
use Rattle.raft_group_step.specs.Reply.{accepted_up_to, after_answer, ended, is_part_of}
use Rattle.raft_group_step.specs.Refusal.{refusal_of}
use Rattle.raft_group_step.specs.GroupStep.{event_step, finished, group_step, step_unless}
use Rattle.raft_group_step.proofs.Words.{leads_if}
use Rattle.raft_laws.proofs.TrackReplies.{peer_of_is}
use Rattle.raft_laws.proofs.VoteOrders.{differ_flags as never}
use Rattle.raft_step_laws.specs.PeerStates.{keeps_its_lead, loses, peer_after_event, peer_after_message, peer_after_reply}
use Rattle.raft_step_laws.specs.Serving.{IsSent, PeersAreServed, waited_for}
use Rattle.raft_step_laws.specs.Tokens.{HasItsOwnVote}
use Rattle.raft_step_laws.proofs.LeaderSends.{HasRequest, finished_sends, finished_serves, settled}
use Rattle.raft_step_laws.proofs.PeerEvents.{keeps_none, leads_begin_anew, peers_replay}
use Rattle.raft_step_laws.proofs.PeerLists.{outstanding_since}
use Rattle.raft_step_laws.proofs.Sending.{finished_adds}

-- ---- what comes leaves an outstanding request or ends it

abbrev WasOutstanding : PeerState → PeerState → Type 0
WasOutstanding p q = (o : Outstanding) → q.outstanding ≡ Some o → p.outstanding ≡ Some o

abbrev FromPeer : PeerState → PeerState → Type 0
FromPeer p q = WasOutstanding p q × (q.peer ≡ p.peer)

unchanged_from : (p : PeerState) → FromPeer p p
unchanged_from p = (λ o e. e, refl)

answer_from : (p : PeerState) (m : ReplyFields) (o : ReplyResult) → FromPeer p (after_answer p m o)
answer_from p m Success = (λ o e. absurd (let f : None ≡ Some o = e in cc), refl)
answer_from p m (PartialSuccess last) =
    cond_both (is_part_of p m last) (accepted_up_to last p) (ended p) (FromPeer p)
    (λ t. (λ o e. absurd (let f : None ≡ Some o = e in cc), refl))
    (λ t. (λ o e. absurd (let f : None ≡ Some o = e in cc), refl))
answer_from p m Conflict = (λ o e. absurd (let f : None ≡ Some o = e in cc), refl)
answer_from p m (HigherVote v) = (λ o e. absurd (let f : None ≡ Some o = e in cc), refl)

reply_from : (v : Vote ℕ) (m : ReplyFields) (p : PeerState) → FromPeer p (peer_after_reply v m p)
reply_from v m p =
    cond_both (vote_eq m.vote v && is_answer_to m p.outstanding) (after_answer p m m.outcome) p (FromPeer p)
    (λ t. answer_from p m m.outcome) (λ t. unchanged_from p)

body_from : (v : Vote ℕ) (b : MessageBody) (p : PeerState) → FromPeer p (peer_after_message v b p)
body_from v (VoteRequest w last) p = unchanged_from p
body_from v (VoteReply w granted last) p = unchanged_from p
body_from v (AppendRequest m) p = unchanged_from p
body_from v (AppendReply m) p = reply_from v m p
body_from v (SnapshotRequest w id x) p = unchanged_from p
body_from v (SnapshotReply m) p = reply_from v m p

event_from : (s : GroupState) (e : GroupEvent) (p : PeerState) → FromPeer p (peer_after_event s e p)
event_from s AddGroup p = unchanged_from p
event_from s (Call call now) p =
    cond_both (loses call p.peer) (ended p) p (FromPeer p)
    (λ t. (λ o e. absurd (let f : None ≡ Some o = e in cc), refl)) (λ t. unchanged_from p)
event_from s (Receive peer m now) p =
    cond_both (peer == p.peer) (peer_after_message s.stored.vote m.body p) p (FromPeer p)
    (λ t. body_from s.stored.vote m.body p) (λ t. unchanged_from p)
event_from s Open p = unchanged_from p

-- ---- since when a request is outstanding

module _ (own : ℕ) (s : GroupState) (e : GroupEvent) (mine : HasItsOwnVote own s) (passed : refusal_of own s e ≡ None) (lead : Lead) (is : (group_step own s e).state.role ≡ Leader lead) (n : ℕ) where
  abbrev r : StepResult
  r = group_step own s e

  abbrev Since : Outstanding → Type 0
  Since o = (waited_for s.role n ≡ Some o) ⊎ IsSent r.messages n o.id

  since_before : (o : Outstanding) → (peer_of lead n).outstanding ≡ Some o → keeps_its_lead s e r.state ≡ true → (b : Bool) → is_leader s.role ≡ b → Since o
  since_before o f keeps false idle = never (keeps_its_lead s e r.state) keeps (keeps_none s e r.state idle)
  since_before o f keeps true leads =
      let was = leads_if s.role leads in
      let p = peer_of was.0 n in
      let came = peer_after_event s e p in
      let from = event_from s e p in
      let replays = (peers_replay own s e mine passed was.0 lead was.1 is keeps).1 n in
      ⊎_elim
      (λ g. inl (ap (λ role. waited_for role n) was.1 ∙ from.0 o g))
      (λ h. inr (subst (λ k. IsSent r.messages k o.id) (from.1 ∙ peer_of_is was.0 n) h))
      (outstanding_since r.messages came o (ap (λ (q : PeerState). q.outstanding) (sym replays) ∙ f))

  since_then : (o : Outstanding) → (peer_of lead n).outstanding ≡ Some o → (b : Bool) → keeps_its_lead s e r.state ≡ b → Since o
  since_then o f true keeps = since_before o f keeps (is_leader s.role) refl
  since_then o f false none =
      let fresh = new_peer lead.began n in
      let anew = leads_begin_anew own s e mine passed lead is none n in
      ⊎_elim
      (λ g. absurd (let no : None ≡ Some o = g in cc))
      (λ h. inr h)
      (outstanding_since r.messages fresh o (ap (λ (q : PeerState). q.outstanding) (sym anew) ∙ f))

-- ---- each peer that lacks entries has a request

module _ (own : ℕ) (s : GroupState) (e : GroupEvent) where
  abbrev q : StepResult
  q = event_step own s e

  abbrev end : StepResult
  end = finished own s.committed q

  abbrev Requested : StepResult → Type 0
  Requested x =
      (lead : Lead) → x.state.role ≡ Leader lead → (n : ℕ) → has_id (other_ids own x.state.stored) n ≡ true
      → lacks_entries x.state.stored (peer_of lead n) ≡ true → HasRequest (peer_of lead n)

  requested : Requested end
  requested lead is n among lacks =
      let a = leads_if q.state.role (sym (finished_adds own s.committed q).leads ∙ ap is_leader is) in
      let same : end.state.stored ≡ (settled own q).state.stored = (finished_sends own s.committed a.0 q a.1).stored in
      finished_serves own s.committed a.0 q a.1 n
      (ap (λ st. has_id (other_ids own st) n) (sym same) ∙ among)
      lead is
      (ap (λ st. lacks_entries st (peer_of lead n)) (sym same) ∙ lacks)

pub peers_served : PeersAreServed
peers_served own s e mine passed lead is n among lacks =
    let has = subst (λ o. Requested own s e (step_unless o own s e)) (sym passed) (requested own s e) lead is n among lacks in
    record {
      request = has.0;
      outstanding = ap (λ role. waited_for role n) is ∙ has.1;
      since = since_then own s e mine passed lead is n has.0 has.1 (keeps_its_lead s e (group_step own s e).state) refl;
    }
