-- What a message that isn't refused says.
use Rattle.std.specs.Prelude.{◌≡◌, ℕ, ◌<◌, ◌^◌, true, None, ◌∷◌, ◌++◌}
use Rattle.std.proofs.Common.{sym, ap, ◌∙◌}
use Rattle.raft_values.specs.declared.vote.Vote.{Vote}
use Rattle.raft_group_step.specs.StoredGroup.{Snapshot}
use Rattle.raft_group_step.specs.GroupState.{GroupState}
use Rattle.raft_group_step.specs.Message.{Message, MessageBody, SnapshotRequest}
use Rattle.raft_group_step.specs.Refusal.{are_in_range, next_blank, numbers_of, numbers_of_membership, refusal_of}
use Rattle.raft_engine.specs.Events.{received}
use Rattle.raft_engine.proofs.RoomLemmas.{first_low, front_low, low_numbers, message_accepted, others_low}
use Rattle.raft_messages.specs.Messages.{body_as, message_as}
use Rattle.raft_messages.specs.declared.message.MessageBody.{MessageBody as Body}
use Rattle.raft_messages.specs.declared.message.MessageBody.TheVariants.{VoteRequest as AsksForVote, VoteReply as AnswersVote, AppendRequest as SendsEntries}
use Rattle.raft_messages.specs.declared.message.MessageBody.TheVariants.{AppendReply as AnswersEntries, SnapshotRequest as SendsSnapshot, SnapshotReply as AnswersSnapshot}
use Rattle.raft_messages.specs.declared.message.Message.{Message as Sent}
use Rattle.raft_executor.specs.Said.{Says, SaysBody}
use Rattle.raft_member.specs.Running.{Brings}
use Rattle.raft_member.proofs.RunLemmas.{one_snapshot}

-- a snapshot's last place is low
pub snapshot_is_low : (own peer at : ℕ) (s : GroupState) (vote : Vote ℕ) (id : ℕ) (x : Snapshot) → refusal_of own s (received own peer (SnapshotRequest vote id x) at) ≡ None → x.last.index < 2 ^ 62
snapshot_is_low own peer at s vote id x accepted =
    let numbers = numbers_of (SnapshotRequest vote id x) in
    let all = low_numbers s (at ∷ numbers ++ next_blank s) (message_accepted own peer at s (SnapshotRequest vote id x) accepted).0 in
    let said : are_in_range numbers ≡ true = front_low numbers (next_blank s) (others_low at (numbers ++ next_blank s) all) in
    let rest = numbers_of_membership x.membership in
    first_low x.last.index rest
    (others_low x.last.leader_id.term (x.last.index ∷ rest)
    (others_low id (x.last.leader_id.term ∷ x.last.index ∷ rest)
    (others_low vote.leader_id.term (id ∷ x.last.leader_id.term ∷ x.last.index ∷ rest) said)))

-- ---- what a message says, where its snapshot stands for one

module _ {X : Type 0} (stands : X → Snapshot → Type 0) where
  said_body : (body : Body X) (said : MessageBody) → SaysBody stands body said → (y : Snapshot) × Brings stands body y × (body_as (λ x. y) body ≡ said)
  said_body (AsksForVote asked) said says = (one_snapshot 0, tt, sym says)
  said_body (AnswersVote answer) said says = (one_snapshot 0, tt, sym says)
  said_body (SendsEntries m) said says = (one_snapshot 0, tt, sym says)
  said_body (AnswersEntries m) said says = (one_snapshot 0, tt, sym says)
  said_body (SendsSnapshot vote id x) said says = (says.0, says.1, sym says.2)
  said_body (AnswersSnapshot m) said says = (one_snapshot 0, tt, sym says)

  abbrev message_from : ℕ → ℕ → MessageBody → Message
  message_from sender addressee body = record { sender = sender; addressee = addressee; body = body }

  -- the snapshot that the message brings stands for this one, or for any where it brings none
  pub said_as : (m : Sent X) (said : Message) → Says stands m said → (y : Snapshot) × Brings stands m.body y × (message_as (λ x. y) m ≡ said)
  said_as m said says =
      let body = said_body m.body said.body says.2 in (
        body.0,
        body.1,
        ap (λ n. message_from n m.addressee (body_as (λ x. body.0) m.body)) (sym says.0)
            ∙ (ap (λ n. message_from said.sender n (body_as (λ x. body.0) m.body)) (sym says.1)
            ∙ ap (λ b. message_from said.sender said.addressee b) body.2),
      )
