-- Messages from node 1 to node 2, for worked rows.
use Rattle.std.specs.Prelude.{ℕ, true, None}
use Rattle.raft_values.specs.declared.vote.Vote.{Vote}
use Rattle.raft_values.specs.Vote.{vote_of}
use Rattle.raft_messages.specs.declared.memberships.SnapshotBytes.{SnapshotBytes}
use Rattle.raft_messages.specs.declared.message.Message.{Message as Sent}
use Rattle.raft_messages.specs.declared.message.MessageBody.{MessageBody as Body}
use Rattle.raft_messages.specs.declared.message.MessageBody.TheVariants as body
use Rattle.raft_messages.specs.declared.message.ReplyFields.{ReplyFields}
use Rattle.raft_group_step.specs.declared.append_entries.AppendEntriesResponse.{AppendEntriesResponse}
use Rattle.raft_messages.specs.declared.message.RequestId.{RequestId}

abbrev pub from_one : Body SnapshotBytes → Sent SnapshotBytes
from_one b = record { sender = 1; addressee = 2; body = b }

abbrev pub reply : RequestId → AppendEntriesResponse ℕ → ReplyFields
reply id outcome = record { vote = vote_of 1 1 true; id = id; previous = None; last = None; outcome = outcome }

abbrev pub asks_for_vote : Vote ℕ → Sent SnapshotBytes
asks_for_vote vote = from_one (body.VoteRequest (record { vote = vote; last_log_id = None }))

abbrev pub accepts_entries : RequestId → AppendEntriesResponse ℕ → Sent SnapshotBytes
accepts_entries id outcome = from_one (body.AppendReply (reply id outcome))

abbrev pub accepts_snapshot : RequestId → AppendEntriesResponse ℕ → Sent SnapshotBytes
accepts_snapshot id outcome = from_one (body.SnapshotReply (reply id outcome))
