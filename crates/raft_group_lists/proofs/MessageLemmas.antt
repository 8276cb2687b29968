-- What a message accepts.
use Rattle.std.specs.Prelude.{◌≡◌, ℕ, ◌==◌, ◌&&◌, Bool, false, Option, Some, None, MatchOption, refl}
use Rattle.std.proofs.Common.{ap, ◌∙◌}
use Rattle.std.proofs.Math.Bool.{and-false}
use Rattle.raft_values.specs.declared.vote.Vote.{Vote}
use Rattle.raft_values.specs.declared.log_id.LogId.{LogId}
use Rattle.raft_group_step.specs.Values.{vote_eq}
use Rattle.raft_group_step.specs.Message.{Message, MessageBody, ReplyFields, VoteRequest, VoteReply, AppendRequest, AppendReply, SnapshotRequest, SnapshotReply}
use Rattle.raft_laws.specs.Settled.{accepted_last, accepts, body_accepts, is_at_or_after, is_last}
use Rattle.raft_list_facts.specs.Accepting.{accepted_in, accepted_with}
use Rattle.raft_list_laws.specs.Changes.{IsSilent}
use Rattle.raft_group_lists.specs.Facts.{AcceptsUpTo, MessagesAccept}

silent : (m : Message) → ((vote : Vote ℕ) (p : LogId ℕ → Bool) → body_accepts vote p m.body ≡ false) → IsSilent m
silent m none vote place node =
    ap (λ b. m.sender == node && b) (none vote (is_at_or_after vote.leader_id place)) ∙ and-false (m.sender == node)

reply_accepts : (m : Message) (f : ReplyFields) (o : Option (LogId ℕ)) → accepted_last f.outcome f.last ≡ o → ((vote : Vote ℕ) (p : LogId ℕ → Bool) → body_accepts vote p m.body ≡ accepts vote p f) → MatchOption (accepted_with f.vote o) (IsSilent m) (λ a. AcceptsUpTo m.sender a.vote a.last m)
reply_accepts m f None is same =
    silent m (λ vote p. same vote p ∙ ap (λ o. vote_eq f.vote vote && is_last p o) is ∙ and-false (vote_eq f.vote vote))
reply_accepts m f (Some id) is same =
    record { of_node = refl; accepts = λ other p. same other p ∙ ap (λ o. vote_eq f.vote other && is_last p o) is }

body_accepted : (m : Message) (b : MessageBody) → m.body ≡ b → MatchOption (accepted_in b) (IsSilent m) (λ a. AcceptsUpTo m.sender a.vote a.last m)
body_accepted m (VoteRequest v last) e = silent m (λ vote p. ap (body_accepts vote p) e)
body_accepted m (VoteReply v granted last) e = silent m (λ vote p. ap (body_accepts vote p) e)
body_accepted m (AppendRequest f) e = silent m (λ vote p. ap (body_accepts vote p) e)
body_accepted m (AppendReply f) e =
    reply_accepts m f (accepted_last f.outcome f.last) refl (λ vote p. ap (body_accepts vote p) e)
body_accepted m (SnapshotRequest v id snapshot) e = silent m (λ vote p. ap (body_accepts vote p) e)
body_accepted m (SnapshotReply f) e =
    reply_accepts m f (accepted_last f.outcome f.last) refl (λ vote p. ap (body_accepts vote p) e)

pub messages_accept : MessagesAccept
messages_accept m = body_accepted m m.body refl
