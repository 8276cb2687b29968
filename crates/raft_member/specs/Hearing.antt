-- What the leader at a member hears by a message.
use Rattle.std.specs.Prelude.{◌≡◌, ℕ, Option}
use Rattle.raft_leaders.specs.Leader.{LeaderValue}
use Rattle.raft_engine.specs.Clock.{HearsAfter, KeepsHeard, KeepsHeardOrBegins, moment_shown}
use Rattle.raft_engine.specs.Standing.{EffectiveMembership}
use Rattle.raft_messages.specs.Messages.{reply_fields_of}
use Rattle.raft_messages.specs.declared.message.Message.{Message}
use Rattle.raft_messages.specs.declared.message.MessageBody.{MessageBody as Body}
use Rattle.raft_messages.specs.declared.message.MessageBody.TheVariants.{VoteRequest, VoteReply, AppendRequest, AppendReply, SnapshotRequest, SnapshotReply}
use Rattle.raft_member.specs.declared.member.Ended.{Ended}
use Rattle.raft_member.specs.declared.member.Ended.TheVariants as ended

module _ {X : Type 0} where
  -- an answer to a request that left at this moment, if that is known, is heard of so; by another message nobody is heard of, and a
  -- lead that a vote begins has heard of nobody
  abbrev pub HearsIn : Body X → ℕ → Option ℕ → Option (LeaderValue ℕ EffectiveMembership) → Option (LeaderValue ℕ EffectiveMembership) → Type 0
  HearsIn (VoteRequest asked) peer sent old new = KeepsHeard old new
  HearsIn (VoteReply answer) peer sent old new = KeepsHeardOrBegins old new
  HearsIn (AppendRequest m) peer sent old new = KeepsHeard old new
  HearsIn (AppendReply reply) peer sent old new = HearsAfter peer (moment_shown peer (reply_fields_of reply) sent old) old new
  HearsIn (SnapshotRequest vote id x) peer sent old new = KeepsHeard old new
  HearsIn (SnapshotReply reply) peer sent old new = HearsAfter peer (moment_shown peer (reply_fields_of reply) sent old) old new

  -- so is what the message says
  abbrev pub HearsBy : Message X → Option ℕ → Option (LeaderValue ℕ EffectiveMembership) → Option (LeaderValue ℕ EffectiveMembership) → Type 0
  HearsBy m sent old new = HearsIn m.body m.sender sent old new

  -- the event wasn't refused, nor passed over
  abbrev pub IsOver : Ended X → Type 0
  IsOver (ended.Done messages) = Unit {0}
  IsOver (ended.Refused why) = ⊥
  IsOver ended.Stopped = Unit {0}
  IsOver ended.Skipped = ⊥

  -- what the message says is heard of where its event ran to its end, and a message that was refused says nothing
  abbrev pub HasHeard : Message X → Option ℕ → Option (LeaderValue ℕ EffectiveMembership) → Option (LeaderValue ℕ EffectiveMembership) → Ended X → Type 0
  HasHeard m sent old new (ended.Done messages) = HearsBy m sent old new
  HasHeard m sent old new (ended.Refused why) = new ≡ old
  HasHeard m sent old new ended.Stopped = Unit {0}
  HasHeard m sent old new ended.Skipped = Unit {0}
