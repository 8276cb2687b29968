-- What a leader sends to a peer next.
use Rattle.std.specs.Prelude.{ℕ, zero, suc, ◌+◌, ◌-◌, ◌*◌, ◌/◌, max, min, nat_le, nat_lt, if◌then◌else◌, List, Option, Some, None}
use Rattle.std.specs.declared.cmp.Ordering.{Ordering}
use Rattle.raft_values.specs.declared.log_id.LogId.{LogId}
use Rattle.raft_values.specs.LogId.{next_place}
use Rattle.raft_log_ids.specs.LogIdList.{last_id}
use Rattle.raft_log_ids.specs.LogIdList.{id_before}
use Rattle.raft_progress.specs.declared.inflight.Inflight.{Inflight}
use Rattle.raft_progress.specs.declared.inflight.Inflight.TheVariants.{None as Nothing, Logs, Snapshot}
use Rattle.raft_progress.specs.Inflight.{is_below}

-- where the search goes on after a conflict: at its place, if the log isn't known to be the same there
abbrev pub search_behind : ℕ → ℕ → ℕ → ℕ
search_behind next conflict search = if nat_le next conflict then conflict else search

-- where a request begins: halfway to where the search stands, by eights, and above what is purged
abbrev pub request_start : ℕ → ℕ → ℕ → ℕ
request_start first next search = max first (next + (search - next) / 16 * 8)

module _ {K : Type 0} (cmp : LogId K → LogId K → Ordering) where
  -- the log ids behind one up to another, if there are any
  abbrev pub logs_between : Option (LogId K) → Option (LogId K) → Inflight K
  logs_between prev last = if is_below cmp prev last then Logs 0 (record { prev = prev; last = last }) else Nothing

  -- the snapshot where the search stands below the log, else at most so many log ids from the start on
  abbrev pub next_request : List (LogId K) → Option (LogId K) → Option (LogId K) → ℕ → ℕ → ℕ → Inflight K
  next_request ids purged snapshot max_entries next search =
      if nat_lt search (next_place purged) then Snapshot 0 snapshot
      else let start = request_start (next_place purged) next search
      in let stop = min (start + max_entries) (next_place (last_id ids))
      in if nat_lt start stop then logs_between (id_before ids start) (id_before ids stop) else Nothing
