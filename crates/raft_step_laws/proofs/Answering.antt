-- Each request that isn't refused is answered in its event.
use Rattle.std.specs.Prelude.{◌≡◌, ℕ, Bool, true, false, List, [], ◌∷◌, ◌++◌, ◌||◌, Option, Some, None, cond, is_some, refl}
use Rattle.std.proofs.Common.{sym, ap, ◌∙◌, subst}
use Rattle.raft_values.specs.declared.vote.Vote.{Vote}
use Rattle.raft_values.specs.declared.log_id.LogId.{LogId}
use Rattle.raft_group_step.specs.Values.{Entry, last_id_lt, vote_lt}
use Rattle.raft_group_step.specs.StoredGroup.{Snapshot, entry_at, has_id_in_log, last_id}
use Rattle.raft_group_step.specs.Message.{Message, MessageBody, VoteRequest, VoteReply, AppendRequest, AppendReply, SnapshotRequest, SnapshotReply, AppendFields}
use Rattle.raft_group_step.specs.GroupState.{GroupState}
use Rattle.raft_group_step.specs.GroupEvent.{Receive}
use Rattle.raft_group_step.specs.StepResult.{StepResult, is_within, renew, step_down, store_vote, take_over}
use Rattle.raft_group_step.specs.VoteRequest.{is_under_lease, judged, may_grant}
use Rattle.raft_group_step.specs.AppendRequest.{cut_at, cut_from, heard, is_held, joined, put_entries}
use Rattle.raft_group_step.specs.SnapshotRequest.{cut_other, install_unless, offered, place_above}
use Rattle.raft_group_step.specs.GroupStep.{begun, event_step, finished, message_step, step_unless}
use Rattle.raft_group_step.proofs.Words.{either, either_by}
use Rattle.raft_laws.proofs.VoteRanks.{same_vote}
use Rattle.raft_step_laws.specs.Replies.{IsAnswered, RepliesTo, RequestsAreAnswered, is_request}
use Rattle.raft_step_laws.proofs.Sending.{finished_adds}

-- ---- nothing is sent before the reply

abbrev SentBy : StepResult → StepResult → Type 0
SentBy r q = q.messages ≡ r.messages

took_silent : (v : Vote ℕ) (r : StepResult) → SentBy r (take_over v r)
took_silent v r = either (SentBy r) (vote_lt r.state.stored.vote v) (store_vote v (step_down r)) (renew r) refl refl

cut_silent : (i : ℕ) (r : StepResult) → SentBy r (cut_from i r)
cut_silent i r = either (SentBy r) (is_some (entry_at r.state.stored i)) _ r refl refl

cut_at_silent : (id : Option (LogId ℕ)) (r : StepResult) → SentBy r (cut_at id r)
cut_at_silent None r = refl
cut_at_silent (Some id) r = cut_silent id.index r

put_silent : (es : List Entry) (r : StepResult) → SentBy r (put_entries es r)
put_silent [] r = refl
put_silent (e ∷ es) r = cut_silent e.log_id.index r

other_silent : (last : LogId ℕ) (r : StepResult) → SentBy r (cut_other last r)
other_silent last r =
    either (SentBy r) (has_id_in_log r.state.stored last) r _ refl
    (either (SentBy r) (is_some (entry_at r.state.stored last.index)) _ r (cut_silent (place_above r.state.committed) r) refl)

unless_silent : (b : Bool) (x : Snapshot) (r : StepResult) → SentBy r (install_unless b x r)
unless_silent true x r = refl
unless_silent false x r = other_silent x.last r

-- ---- the event's own part sends the reply and nothing else

record Replied (own peer : ℕ) (request : MessageBody) (before : GroupState) (r : StepResult) : Type 0 where
  reply : MessageBody
  only : r.messages ≡ record { sender = own; addressee = peer; body = reply } ∷ []
  replies : RepliesTo before.stored r.state.stored.vote request reply

-- behind no message there is this one alone
alone : (r : StepResult) (x : Message) → r.messages ≡ [] → r.messages ++ x ∷ [] ≡ x ∷ []
alone r x e = ap (λ ms. ms ++ x ∷ []) e

-- the vote that a node has after it took over one that isn't below its own
took_vote : (v : Vote ℕ) (r : StepResult) → vote_lt v r.state.stored.vote ≡ false → (take_over v r).state.stored.vote ≡ v
took_vote v r low =
    either_by (λ q. q.state.stored.vote ≡ v) (vote_lt r.state.stored.vote v) (store_vote v (step_down r)) (renew r)
    (λ t. refl)
    (λ t. same_vote r.state.stored.vote v t low)

took_last : (v : Vote ℕ) (r : StepResult) → last_id (take_over v r).state.stored ≡ last_id r.state.stored
took_last v r =
    either (λ q. last_id q.state.stored ≡ last_id r.state.stored) (vote_lt r.state.stored.vote v) (store_vote v (step_down r)) (renew r)
    refl refl

-- a vote that may be granted isn't below the own one
granted_low : (s : GroupState) (v : Vote ℕ) (last : Option (LogId ℕ)) → may_grant s v last ≡ true → vote_lt v s.stored.vote ≡ false
granted_low s v last h = go (is_under_lease s || last_id_lt last (last_id s.stored)) (vote_lt v s.stored.vote) refl h
  where
    go : (a b : Bool) → vote_lt v s.stored.vote ≡ b → cond (a || b) false true ≡ true → vote_lt v s.stored.vote ≡ false
    go a false e t = e
    go true true e t = absurd (let f : false ≡ true = t in cc)
    go false true e t = absurd (let f : false ≡ true = t in cc)

module _ (own peer : ℕ) (s : GroupState) (now : ℕ) where
  abbrev r : StepResult
  r = begun now s

  judged_replies : (v : Vote ℕ) (last : Option (LogId ℕ)) (b : Bool) → may_grant r.state v last ≡ b → Replied own peer (VoteRequest v last) s (judged own peer v b r)
  judged_replies v last true t =
      let taken = take_over v r in
      let vote = took_vote v r (granted_low r.state v last t) in
      record {
        reply = VoteReply taken.state.stored.vote true (last_id taken.state.stored);
        only = alone taken _ (took_silent v r);
        replies = record { own_vote = refl; grants_the_asked = λ g. vote; own_last = took_last v r };
      }
  judged_replies v last false t =
      record {
        reply = VoteReply s.stored.vote false (last_id s.stored);
        only = refl;
        replies = record { own_vote = refl; grants_the_asked = λ g. absurd (let f : false ≡ true = g in cc); own_last = refl };
      }

  joined_replies : (m : AppendFields) (b : Bool) (q : StepResult) → SentBy r q → Replied own peer (AppendRequest m) s (joined own peer m b q)
  joined_replies m true q e =
      record {
        reply = _;
        only = alone (put_entries _ q) _ (put_silent _ q ∙ e);
        replies = record { same_vote = refl; same_id = refl; same_previous = refl; same_last = refl };
      }
  joined_replies m false q e =
      record {
        reply = _;
        only = alone (cut_at m.previous q) _ (cut_at_silent m.previous q ∙ e);
        replies = record { same_vote = refl; same_id = refl; same_previous = refl; same_last = refl };
      }

  heard_replies : (m : AppendFields) (b : Bool) → Replied own peer (AppendRequest m) s (heard own peer m b r)
  heard_replies m true =
      record {
        reply = _;
        only = refl;
        replies = record { same_vote = refl; same_id = refl; same_previous = refl; same_last = refl };
      }
  heard_replies m false =
      let taken = take_over m.vote r in
      joined_replies m (is_held taken.state.stored taken.state.committed m.previous) taken (took_silent m.vote r)

  offered_replies : (v : Vote ℕ) (id : ℕ) (x : Snapshot) (b : Bool) → Replied own peer (SnapshotRequest v id x) s (offered own peer v id x b r)
  offered_replies v id x true =
      record {
        reply = _;
        only = refl;
        replies = record { same_vote = refl; same_id = refl; same_previous = refl; same_last = refl };
      }
  offered_replies v id x false =
      let taken = take_over v r in
      let installed = install_unless (is_within x.last.index taken.state.committed) x taken in
      record {
        reply = _;
        only = alone installed _ (unless_silent (is_within x.last.index taken.state.committed) x taken ∙ took_silent v r);
        replies = record { same_vote = refl; same_id = refl; same_previous = refl; same_last = refl };
      }

  body_replies : (b : MessageBody) → is_request b ≡ true → Replied own peer b s (message_step own peer b r)
  body_replies (VoteRequest v last) t = judged_replies v last (may_grant r.state v last) refl
  body_replies (VoteReply v granted last) t = absurd (let f : false ≡ true = t in cc)
  body_replies (AppendRequest m) t = heard_replies m (vote_lt m.vote s.stored.vote)
  body_replies (AppendReply m) t = absurd (let f : false ≡ true = t in cc)
  body_replies (SnapshotRequest v id x) t = offered_replies v id x (vote_lt v s.stored.vote)
  body_replies (SnapshotReply m) t = absurd (let f : false ≡ true = t in cc)

-- ---- then requests follow

ended_answers : (own peer : ℕ) (b : MessageBody) (s : GroupState) (r : StepResult) → Replied own peer b s r → IsAnswered own peer b s (finished own s.committed r)
ended_answers own peer b s r h =
    let on = finished_adds own s.committed r in
    record {
      reply = h.reply;
      rest = on.more;
      first = on.added ∙ ap (λ ms. ms ++ on.more) h.only;
      replies = subst (λ v. RepliesTo s.stored v b h.reply) (sym on.vote) h.replies;
      one_reply = on.requests;
    }

pub requests_answered : RequestsAreAnswered
requests_answered own s peer m now passed asks =
    subst (λ o. IsAnswered own peer m.body s (step_unless o own s (Receive peer m now))) (sym passed)
    (ended_answers own peer m.body s (event_step own s (Receive peer m now)) (body_replies own peer s now m.body asks))
