-- Frames: their one spelling, and how they are read.
use Rattle.std.specs.Prelude.{ℕ, zero, suc, ◌<◌, ◌^◌, nat_le, ◌&&◌, not, Bool, true, List, [], ◌∷◌, ◌++◌}
use Rattle.std.specs.Prelude.{length, Option, Some, None, Ok, Err, if◌then◌else◌}
use Rattle.std.specs.List.{list_all}
use Rattle.std.specs.Int.{w32, w64, to_be_bytes}
use Rattle.raft_group_step.specs.declared.vote_message.VoteRequest.{VoteRequest}
use Rattle.raft_group_step.specs.declared.vote_message.VoteResponse.{VoteResponse}
use Rattle.raft_group_step.specs.Limits.{entries_in_request, snapshot_limit}
use Rattle.raft_group_step.specs.Values.{Entry, LoggedMembership, is_within_limits}
use Rattle.raft_messages.specs.declared.memberships.SnapshotBytes.{SnapshotBytes}
use Rattle.raft_messages.specs.declared.message.AppendFields.{AppendFields}
use Rattle.raft_messages.specs.declared.message.ReplyFields.{ReplyFields}
use Rattle.raft_messages.specs.declared.message.MessageBody.{MessageBody}
use Rattle.raft_messages.specs.declared.message.MessageBody.TheVariants as body
use Rattle.raft_wire.specs.declared.error.FrameFault.{FrameFault}
use Rattle.raft_wire.specs.declared.error.FrameFault.TheVariants as fault
use Rattle.raft_wire.specs.declared.frame.Frame.{Frame}
use Rattle.raft_wire.specs.declared.frame.FrameKind.{FrameKind}
use Rattle.raft_wire.specs.declared.frame.FrameKind.TheVariants as kind
use Rattle.raft_group_step.specs.Refusal.{is_payload_short}
use Rattle.raft_wire.specs.Reader.{Reader, ◌>>=◌, made, number_at}
use Rattle.raft_wire.specs.Entries.{follows}
use Rattle.raft_wire.specs.Bodies.{spelled_vote_request, FitsVoteRequest, vote_request_at, spelled_vote_reply}
use Rattle.raft_wire.specs.Bodies.{FitsVoteReply, vote_reply_at, spelled_append, FitsAppend, append_at}
use Rattle.raft_wire.specs.Bodies.{spelled_reply, FitsReply, reply_at, SentSnapshot, sent, spelled_sent, FitsSent, sent_at}
use Rattle.raft_wire.specs.Bodies.{is_of_snapshot, is_spelled, FitsSnapshotReply, snapshot_reply_at}

-- ---- kinds

-- the byte that names a kind
abbrev pub byte_of_kind : FrameKind → ℕ
byte_of_kind kind.VoteRequest = 1
byte_of_kind kind.VoteReply = 2
byte_of_kind kind.Append = 3
byte_of_kind kind.AppendReply = 4
byte_of_kind kind.Snapshot = 5
byte_of_kind kind.SnapshotReply = 6

unfoldable pub kind_at : Reader FrameKind
kind_at [] = Err fault.CutShort
kind_at (zero ∷ rest) = Err fault.BadKind
kind_at (suc zero ∷ rest) = Ok (kind.VoteRequest, rest)
kind_at (suc (suc zero) ∷ rest) = Ok (kind.VoteReply, rest)
kind_at (suc (suc (suc zero)) ∷ rest) = Ok (kind.Append, rest)
kind_at (suc (suc (suc (suc zero))) ∷ rest) = Ok (kind.AppendReply, rest)
kind_at (suc (suc (suc (suc (suc zero)))) ∷ rest) = Ok (kind.Snapshot, rest)
kind_at (suc (suc (suc (suc (suc (suc zero))))) ∷ rest) = Ok (kind.SnapshotReply, rest)
kind_at (suc (suc (suc (suc (suc (suc (suc n)))))) ∷ rest) = Err fault.BadKind

-- ---- what a frame says: what a message says whose snapshot is bytes

abbrev pub Body : Type 0
Body = MessageBody SnapshotBytes

abbrev pub kind_of : Body → FrameKind
kind_of (body.VoteRequest r) = kind.VoteRequest
kind_of (body.VoteReply r) = kind.VoteReply
kind_of (body.AppendRequest m) = kind.Append
kind_of (body.AppendReply m) = kind.AppendReply
kind_of (body.SnapshotRequest vote id s) = kind.Snapshot
kind_of (body.SnapshotReply m) = kind.SnapshotReply

abbrev pub spelled_body : Body → List ℕ
spelled_body (body.VoteRequest r) = spelled_vote_request r
spelled_body (body.VoteReply r) = spelled_vote_reply r
spelled_body (body.AppendRequest m) = spelled_append m
spelled_body (body.AppendReply m) = spelled_reply m
spelled_body (body.SnapshotRequest vote id s) = spelled_sent (sent vote id s)
spelled_body (body.SnapshotReply m) = spelled_reply m

abbrev pub FitsBody : Body → Type 0
FitsBody (body.VoteRequest r) = FitsVoteRequest r
FitsBody (body.VoteReply r) = FitsVoteReply r
FitsBody (body.AppendRequest m) = FitsAppend m
FitsBody (body.AppendReply m) = FitsReply m
FitsBody (body.SnapshotRequest vote id s) = FitsSent (sent vote id s)
FitsBody (body.SnapshotReply m) = FitsSnapshotReply m

abbrev pub asks : VoteRequest ℕ → Body
asks r = body.VoteRequest r

abbrev pub answers_vote : VoteResponse ℕ → Body
answers_vote r = body.VoteReply r

abbrev pub appends : AppendFields → Body
appends m = body.AppendRequest m

abbrev pub answers_append : ReplyFields → Body
answers_append m = body.AppendReply m

abbrev pub sends_snapshot : SentSnapshot → Body
sends_snapshot s = body.SnapshotRequest s.vote s.number s.snapshot

abbrev pub answers_snapshot : ReplyFields → Body
answers_snapshot m = body.SnapshotReply m

-- the body of a frame of this kind
unfoldable pub body_at : FrameKind → Reader Body
body_at kind.VoteRequest bytes = made asks vote_request_at bytes
body_at kind.VoteReply bytes = made answers_vote vote_reply_at bytes
body_at kind.Append bytes = made appends append_at bytes
body_at kind.AppendReply bytes = made answers_append reply_at bytes
body_at kind.Snapshot bytes = made sends_snapshot sent_at bytes
body_at kind.SnapshotReply bytes = made answers_snapshot snapshot_reply_at bytes

-- ---- frames without their length: kind, group, sender, addressee, body

abbrev pub spelled_parties : Frame → List ℕ
spelled_parties f =
    to_be_bytes w64 f.group ++ (to_be_bytes w64 f.message.sender ++ to_be_bytes w64 f.message.addressee)

abbrev pub spelled_rest : Frame → List ℕ
spelled_rest f = byte_of_kind (kind_of f.message.body) ∷ (spelled_parties f ++ spelled_body f.message.body)

abbrev pub frame_of : ℕ → ℕ → ℕ → Body → Frame
frame_of group sender addressee said =
    record { group = group; message = record { sender = sender; addressee = addressee; body = said } }

unfoldable pub rest_at : Reader Frame
rest_at bytes = do
  kind ← kind_at bytes
  group ← number_at w64 kind.1
  sender ← number_at w64 group.1
  addressee ← number_at w64 sender.1
  said ← body_at kind.0 addressee.1
  Ok (frame_of group.0 sender.0 addressee.0 said.0, said.1)

-- ---- frames

abbrev pub spelled_frame : Frame → List ℕ
spelled_frame f = to_be_bytes w32 (length (spelled_rest f)) ++ spelled_rest f

pub record FitsFrame (f : Frame) : Type 0 where
  pub group : f.group < 2 ^ 64
  pub sender : f.message.sender < 2 ^ 64
  pub addressee : f.message.addressee < 2 ^ 64
  pub body : FitsBody f.message.body

-- ---- why a frame isn't written

-- each place follows the one before
abbrev pub are_consecutive : Option ℕ → List Entry → Bool
are_consecutive last [] = true
are_consecutive last (e ∷ es) = follows last e.log_id.index && are_consecutive (Some e.log_id.index) es

abbrev pub are_entries_short : List Entry → Bool
are_entries_short es = nat_le (length es) entries_in_request && list_all (λ e. is_payload_short e.payload) es

abbrev pub is_logged_short : Option LoggedMembership → Bool
is_logged_short None = true
is_logged_short (Some m) = is_within_limits m.membership

-- past a limit; then entries whose places don't follow one another
abbrev pub fault_of_entries : List Entry → Option FrameFault
fault_of_entries es =
    if not (are_entries_short es) then Some fault.TooLong
    else if not (are_consecutive None es) then Some fault.NotRising
    else None

abbrev pub is_snapshot_short : Option LoggedMembership → List ℕ → Bool
is_snapshot_short m bytes = is_logged_short m && nat_le (length bytes) snapshot_limit

abbrev pub fault_of_snapshot : Option LoggedMembership → List ℕ → Option FrameFault
fault_of_snapshot m bytes = if is_snapshot_short m bytes then None else Some fault.TooLong

-- a tag of the reply would have a value that it can't have: a partial success has none
abbrev pub fault_of_reply : ReplyFields → Option FrameFault
fault_of_reply m = if is_spelled m.outcome then None else Some fault.BadTag

-- the same of a reply that a snapshot can't have
abbrev pub fault_of_snapshot_reply : ReplyFields → Option FrameFault
fault_of_snapshot_reply m = if is_of_snapshot m then fault_of_reply m else Some fault.BadTag

abbrev pub fault_of_frame : Body → Option FrameFault
fault_of_frame (body.VoteRequest r) = None
fault_of_frame (body.VoteReply r) = None
fault_of_frame (body.AppendRequest m) = fault_of_entries m.entries
fault_of_frame (body.AppendReply m) = fault_of_reply m
fault_of_frame (body.SnapshotRequest vote id s) = fault_of_snapshot s.meta.last_membership s.bytes
fault_of_frame (body.SnapshotReply m) = fault_of_snapshot_reply m
