-- What is on its way to a peer.
use Rattle.std.specs.Prelude.{ℕ, Bool, true, false, ◌==◌, cond, if◌then◌else◌, Option, Some, None}
use Rattle.std.specs.declared.cmp.Ordering.{Ordering}
use Rattle.std.specs.Ordering.{is_lt}
use Rattle.std.specs.Option.{option_cmp}
use Rattle.raft_values.specs.declared.log_id.LogId.{LogId}
use Rattle.raft_progress.specs.declared.inflight.Inflight.{Inflight}
use Rattle.raft_progress.specs.declared.inflight.Inflight.TheVariants.{None as Nothing, Logs, Snapshot}

module _ {K : Type 0} where
  -- the id of the request that is on its way
  abbrev pub request_id : Inflight K → Option ℕ
  request_id Nothing = None
  request_id (Logs id range) = Some id
  request_id (Snapshot id last) = Some id

  -- a request with this id is on its way
  abbrev pub has_request_id : Inflight K → ℕ → Bool
  has_request_id Nothing n = false
  has_request_id (Logs id range) n = id == n
  has_request_id (Snapshot id last) n = id == n

  -- the same under this id
  abbrev pub under_id : Inflight K → ℕ → Inflight K
  under_id Nothing n = Nothing
  under_id (Logs id range) n = Logs n range
  under_id (Snapshot id last) n = Snapshot n last

  abbrev pub is_logs : Inflight K → Bool
  is_logs Nothing = false
  is_logs (Logs id range) = true
  is_logs (Snapshot id last) = false

  abbrev pub is_snapshot : Inflight K → Bool
  is_snapshot Nothing = false
  is_snapshot (Logs id range) = false
  is_snapshot (Snapshot id last) = true

module _ {K : Type 0} (cmp : LogId K → LogId K → Ordering) where
  -- the first log id is below the second, and none is below each
  abbrev pub is_below : Option (LogId K) → Option (LogId K) → Bool
  is_below a b = is_lt (option_cmp cmp a b)

  -- what is still on its way once the log ids up to this one have come
  abbrev pub rest_behind : Inflight K → Option (LogId K) → Inflight K
  rest_behind Nothing upto = Nothing
  rest_behind (Logs id range) upto =
      if is_below upto range.last then Logs id (record { prev = upto; last = range.last }) else Nothing
  rest_behind (Snapshot id last) upto = Nothing

  -- this log id is among those on their way, or behind them
  abbrev pub is_past_start : Inflight K → LogId K → Bool
  is_past_start Nothing upto = false
  is_past_start (Logs id range) upto = is_below range.prev (Some upto)
  is_past_start (Snapshot id last) upto = false
