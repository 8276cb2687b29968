-- The parts of a message's body: the one spelling of each, and how it is read.
use Rattle.std.specs.Prelude.{◌≡◌, ℕ, zero, suc, ◌<◌, ◌≤◌, ◌^◌, ◌==◌, ◌&&◌, not, Bool, true, false, List, [], ◌∷◌, ◌++◌, length}
use Rattle.std.specs.Prelude.{Option, Some, None, is_none, Ok, Err, IfSome, if◌then◌else◌}
use Rattle.std.specs.Int.{w64, to_be_bytes}
use Rattle.raft_values.specs.declared.vote.Vote.{Vote}
use Rattle.raft_values.specs.declared.log_id.LogId.{LogId}
use Rattle.raft_group_step.specs.declared.vote_message.VoteRequest.{VoteRequest}
use Rattle.raft_group_step.specs.declared.vote_message.VoteResponse.{VoteResponse}
use Rattle.raft_group_step.specs.declared.snapshot_message.SnapshotMeta.{SnapshotMeta as SnapshotMetaOf}
use Rattle.raft_group_step.specs.Limits.{entries_in_request, snapshot_limit}
use Rattle.raft_group_step.specs.Values.{Membership, Entry, LoggedMembership}
use Rattle.raft_messages.specs.declared.memberships.SnapshotBytes.{SnapshotBytes}
use Rattle.raft_messages.specs.declared.message.RequestId.{RequestId}
use Rattle.raft_messages.specs.declared.message.RequestId.TheVariants.{HeartBeat, Numbered}
use Rattle.raft_group_step.specs.declared.append_entries.AppendEntriesResponse.{AppendEntriesResponse}
use Rattle.raft_group_step.specs.declared.append_entries.AppendEntriesResponse.TheVariants.{Success, PartialSuccess, Conflict, HigherVote}
use Rattle.raft_messages.specs.declared.message.AppendFields.{AppendFields}
use Rattle.raft_messages.specs.declared.message.ReplyFields.{ReplyFields}
use Rattle.raft_wire.specs.declared.error.FrameFault.TheVariants as fault
use Rattle.raft_wire.specs.Reader.{Reader, both, made, tested, number_at, counted_at, text_at}
use Rattle.raft_wire.specs.Fields.{spelled_flag, flag_at, spelled_vote, FitsVote, vote_at, spelled_option, option_at}
use Rattle.raft_wire.specs.Fields.{spelled_log_id, FitsLogId, log_id_at, spelled_last, FitsLast, last_at}
use Rattle.raft_wire.specs.Memberships.{Chained, spelled_list, spelled_membership, FitsMembership, membership_at}
use Rattle.raft_wire.specs.Entries.{spelled_text, spelled_entry, FitsEntry, follows, entry_behind, that_place}

-- a byte that must be this one, and what belongs to it
unfoldable pub marked_at : {A : Type 0} → ℕ → Reader A → Reader A
marked_at mark reader [] = Err fault.CutShort
marked_at mark reader (b ∷ rest) = if b == mark then reader rest else Err fault.BadTag

-- ---- votes asked for and answered

abbrev pub spelled_vote_request : VoteRequest ℕ → List ℕ
spelled_vote_request r = spelled_vote r.vote ++ spelled_last r.last_log_id

pub record FitsVoteRequest (r : VoteRequest ℕ) : Type 0 where
  pub vote : FitsVote r.vote
  pub last : FitsLast r.last_log_id

abbrev pub vote_request_of : Vote ℕ × Option (LogId ℕ) → VoteRequest ℕ
vote_request_of x = record { vote = x.0; last_log_id = x.1 }

unfoldable pub vote_request_at : Reader (VoteRequest ℕ)
vote_request_at = made vote_request_of (both vote_at last_at)

abbrev pub spelled_vote_reply : VoteResponse ℕ → List ℕ
spelled_vote_reply r = spelled_vote r.vote ++ spelled_flag r.vote_granted ++ spelled_last r.last_log_id

pub record FitsVoteReply (r : VoteResponse ℕ) : Type 0 where
  pub vote : FitsVote r.vote
  pub last : FitsLast r.last_log_id

abbrev pub vote_reply_of : Vote ℕ × (Bool × Option (LogId ℕ)) → VoteResponse ℕ
vote_reply_of x = record { vote = x.0; vote_granted = x.1.0; last_log_id = x.1.1 }

unfoldable pub vote_reply_at : Reader (VoteResponse ℕ)
vote_reply_at = made vote_reply_of (both vote_at (both flag_at last_at))

-- ---- ids of requests: tag 0 for a notice, or tag 1 and the number

abbrev pub number_of_id : RequestId → Option ℕ
number_of_id HeartBeat = None
number_of_id (Numbered id) = Some id

abbrev pub id_of_number : Option ℕ → RequestId
id_of_number None = HeartBeat
id_of_number (Some id) = Numbered id

abbrev pub spelled_id : RequestId → List ℕ
spelled_id id = spelled_option (to_be_bytes w64) (number_of_id id)

abbrev pub FitsId : RequestId → Type 0
FitsId id = IfSome (number_of_id id) (λ n. n < 2 ^ 64)

unfoldable pub id_at : Reader RequestId
id_at = made id_of_number (option_at (number_at w64))

-- a request that has a number
abbrev pub spelled_number : ℕ → List ℕ
spelled_number id = 1 ∷ to_be_bytes w64 id

unfoldable pub number_of_request_at : Reader ℕ
number_of_request_at = marked_at 1 (number_at w64)

-- ---- append requests

abbrev pub spelled_append : AppendFields → List ℕ
spelled_append m =
    spelled_vote m.vote ++ spelled_id m.id ++ spelled_last m.previous ++ spelled_last m.committed
    ++ spelled_list spelled_entry m.entries

-- an entry that stands behind one with this place, or first
abbrev pub FitsBehind : Option ℕ → Entry → Type 0
FitsBehind last e = FitsEntry e × (follows last e.log_id.index ≡ true)

pub record FitsAppend (m : AppendFields) : Type 0 where
  pub vote : FitsVote m.vote
  pub id : FitsId m.id
  pub previous : FitsLast m.previous
  pub committed : FitsLast m.committed
  pub count : length m.entries ≤ entries_in_request
  pub entries : Chained FitsBehind that_place None m.entries

abbrev pub append_of : Vote ℕ × (RequestId × (Option (LogId ℕ) × (Option (LogId ℕ) × List Entry))) → AppendFields
append_of x = record { vote = x.0; id = x.1.0; previous = x.1.1.0; committed = x.1.1.1.0; entries = x.1.1.1.1 }

abbrev pub entries_at : Reader (List Entry)
entries_at = counted_at entry_behind that_place entries_in_request

unfoldable pub append_at : Reader AppendFields
append_at = made append_of (both vote_at (both id_at (both last_at (both last_at entries_at))))

-- ---- replies

-- a partial success has no spelling
abbrev pub is_spelled : AppendEntriesResponse ℕ → Bool
is_spelled Success = true
is_spelled (PartialSuccess last) = false
is_spelled Conflict = true
is_spelled (HigherVote vote) = true

abbrev pub spelled_result : AppendEntriesResponse ℕ → List ℕ
spelled_result Success = 0 ∷ []
spelled_result (PartialSuccess last) = []
spelled_result Conflict = 1 ∷ []
spelled_result (HigherVote vote) = 2 ∷ spelled_vote vote

abbrev pub FitsResult : AppendEntriesResponse ℕ → Type 0
FitsResult Success = Unit {0}
FitsResult (PartialSuccess last) = ⊥
FitsResult Conflict = Unit {0}
FitsResult (HigherVote vote) = FitsVote vote

abbrev pub higher_vote : Vote ℕ → AppendEntriesResponse ℕ
higher_vote vote = HigherVote vote

unfoldable pub result_at : Reader (AppendEntriesResponse ℕ)
result_at [] = Err fault.CutShort
result_at (zero ∷ rest) = Ok (Success, rest)
result_at (suc zero ∷ rest) = Ok (Conflict, rest)
result_at (suc (suc zero) ∷ rest) = made higher_vote vote_at rest
result_at (suc (suc (suc b)) ∷ rest) = Err fault.BadTag

abbrev pub spelled_reply : ReplyFields → List ℕ
spelled_reply m =
    spelled_vote m.vote ++ spelled_id m.id ++ spelled_last m.previous ++ spelled_last m.last
    ++ spelled_result m.outcome

pub record FitsReply (m : ReplyFields) : Type 0 where
  pub vote : FitsVote m.vote
  pub id : FitsId m.id
  pub previous : FitsLast m.previous
  pub last : FitsLast m.last
  pub outcome : FitsResult m.outcome

abbrev pub reply_of : Vote ℕ × (RequestId × (Option (LogId ℕ) × (Option (LogId ℕ) × AppendEntriesResponse ℕ))) → ReplyFields
reply_of x = record { vote = x.0; id = x.1.0; previous = x.1.1.0; last = x.1.1.1.0; outcome = x.1.1.1.1 }

unfoldable pub reply_at : Reader ReplyFields
reply_at = made reply_of (both vote_at (both id_at (both last_at (both last_at result_at))))

-- ---- replies to snapshots: spelled as all replies, with a number, no previous log id and no conflict

abbrev pub has_number : RequestId → Bool
has_number HeartBeat = false
has_number (Numbered id) = true

abbrev pub is_conflict : AppendEntriesResponse ℕ → Bool
is_conflict Success = false
is_conflict (PartialSuccess last) = false
is_conflict Conflict = true
is_conflict (HigherVote vote) = false

-- the reply says nothing that only an append's reply can say
abbrev pub is_of_snapshot : ReplyFields → Bool
is_of_snapshot m = has_number m.id && is_none m.previous && not (is_conflict m.outcome)

pub record FitsSnapshotReply (m : ReplyFields) : Type 0 where
  pub reply : FitsReply m
  pub of_snapshot : is_of_snapshot m ≡ true

-- no log id: a tag that must be 0
unfoldable pub none_at : Reader (Option (LogId ℕ))
none_at [] = Err fault.CutShort
none_at (zero ∷ rest) = Ok (None, rest)
none_at (suc b ∷ rest) = Err fault.BadTag

unfoldable pub numbered_at : Reader RequestId
numbered_at = tested fault.BadTag has_number id_at

unfoldable pub snapshot_result_at : Reader (AppendEntriesResponse ℕ)
snapshot_result_at = tested fault.BadTag (λ outcome. not (is_conflict outcome)) result_at

unfoldable pub snapshot_reply_at : Reader ReplyFields
snapshot_reply_at = made reply_of (both vote_at (both numbered_at (both none_at (both last_at snapshot_result_at))))

-- ---- snapshots: what is covered, the last membership with its log id, and the machine's bytes

abbrev pub SnapshotMeta : Type 0
SnapshotMeta = SnapshotMetaOf ℕ (List ℕ)

abbrev pub spelled_logged : LoggedMembership → List ℕ
spelled_logged m = spelled_log_id m.log_id ++ spelled_membership m.membership

pub record FitsLogged (m : LoggedMembership) : Type 0 where
  pub log_id : FitsLogId m.log_id
  pub membership : FitsMembership m.membership

abbrev pub logged_of : LogId ℕ × Membership → LoggedMembership
logged_of x = record { log_id = x.0; membership = x.1 }

unfoldable pub logged_at : Reader LoggedMembership
logged_at = made logged_of (both log_id_at membership_at)

-- the snapshot that covers this and has these bytes of the machine
abbrev pub snapshot_with : SnapshotMeta → List ℕ → SnapshotBytes
snapshot_with meta bytes = record { meta = meta; bytes = bytes }

-- a further part stands behind the machine's bytes
abbrev pub spelled_snapshot : SnapshotBytes → List ℕ
spelled_snapshot s =
    spelled_log_id s.meta.last_log_id ++ spelled_option spelled_logged s.meta.last_membership ++ spelled_text s.bytes

pub record FitsSnapshot (s : SnapshotBytes) : Type 0 where
  pub last : FitsLogId s.meta.last_log_id
  pub membership : IfSome s.meta.last_membership FitsLogged
  pub bytes : length s.bytes ≤ snapshot_limit

abbrev pub snapshot_of : LogId ℕ × (Option LoggedMembership × List ℕ) → SnapshotBytes
snapshot_of x = snapshot_with (record { last_log_id = x.0; last_membership = x.1.0 }) x.1.1

unfoldable pub snapshot_at : Reader SnapshotBytes
snapshot_at = made snapshot_of (both log_id_at (both (option_at logged_at) (text_at snapshot_limit)))

-- a snapshot that is sent, with the leader's vote and the number of the request
pub record SentSnapshot : Type 0 where
  pub vote : Vote ℕ
  pub number : ℕ
  pub snapshot : SnapshotBytes

abbrev pub sent : Vote ℕ → ℕ → SnapshotBytes → SentSnapshot
sent vote number snapshot = record { vote = vote; number = number; snapshot = snapshot }

abbrev pub spelled_sent : SentSnapshot → List ℕ
spelled_sent s = spelled_vote s.vote ++ spelled_number s.number ++ spelled_snapshot s.snapshot

pub record FitsSent (s : SentSnapshot) : Type 0 where
  pub vote : FitsVote s.vote
  pub number : s.number < 2 ^ 64
  pub snapshot : FitsSnapshot s.snapshot

abbrev pub sent_of : Vote ℕ × (ℕ × SnapshotBytes) → SentSnapshot
sent_of x = sent x.0 x.1.0 x.1.1

unfoldable pub sent_at : Reader SentSnapshot
sent_at = made sent_of (both vote_at (both number_of_request_at snapshot_at))
