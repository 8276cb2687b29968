-- What is wrong with what is in flight, and with what a leader knows of a peer.
use Rattle.std.specs.Prelude.{ℕ, nat_lt, not, Option, Some, None}
use Rattle.std.specs.Option.{option_map, option_or}
use Rattle.std.specs.declared.cmp.Ordering.{Ordering}
use Rattle.raft_values.specs.declared.log_id.LogId.{LogId}
use Rattle.raft_values.specs.declared.validate.Invalid.{Invalid}
use Rattle.raft_values.specs.LogId.{is_past, next_place}
use Rattle.raft_values.specs.Range.{range_fault}
use Rattle.raft_log_ids.specs.Faults.{or_fault}
use Rattle.raft_progress.specs.declared.inflight.Inflight.{Inflight}
use Rattle.raft_progress.specs.declared.inflight.Inflight.TheVariants.{None as Nothing, Logs, Snapshot}
use Rattle.raft_progress.specs.declared.invalid_progress.InvalidProgress.{InvalidProgress}
use Rattle.raft_progress.specs.declared.invalid_progress.InvalidProgress.TheVariants.{MatchingPastSearch, Inflight as InflightFault, MatchingPastRequest, RequestPastSearch, SnapshotNotPastMatching}
use Rattle.raft_progress.specs.declared.progress_entry.ProgressEntry.{ProgressEntry}

module _ {K : Type 0} (cmp : K → K → Ordering) where
  -- the range of the log ids that are on their way ends before it begins
  abbrev pub inflight_fault : Inflight K → Option Invalid
  inflight_fault Nothing = None
  inflight_fault (Logs id range) = range_fault cmp range
  inflight_fault (Snapshot id last) = None

  -- log ids go on from what matches and begin within the search; a snapshot ends past what matches
  abbrev pub request_fault : Option (LogId K) → ℕ → Inflight K → Option InvalidProgress
  request_fault matching end Nothing = None
  request_fault matching end (Logs id range) =
      or_fault (is_past cmp matching range.prev) MatchingPastRequest
      (or_fault (nat_lt end (next_place range.prev)) RequestPastSearch None)
  request_fault matching end (Snapshot id last) = or_fault (not (is_past cmp last matching)) SnapshotNotPastMatching None

  -- what matches is within the search, what is in flight is right by itself, and it goes on from there
  abbrev pub progress_fault : ProgressEntry K → Option InvalidProgress
  progress_fault entry =
      or_fault (nat_lt entry.searching_end (next_place entry.matching)) MatchingPastSearch
      (option_or (option_map InflightFault (inflight_fault entry.inflight)) (request_fault entry.matching entry.searching_end entry.inflight))
