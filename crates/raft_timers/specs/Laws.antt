-- What the laws of a clock say.
use Rattle.std.specs.Prelude.{◌≡◌, ◌+◌, ◌≤◌, ℕ, true, List, Some, Contains}
use Rattle.raft_timers.specs.declared.request.RequestTimer.{RequestTimer}
use Rattle.raft_timers.specs.Clock.{Clock}
use Rattle.raft_timers.specs.Request.{is_among}
use Rattle.raft_timers.specs.Timers.{moment}

-- a request to the peer waits, and has been seen to wait since then, for the first timeout at least
pub record HasWaited (c : Clock) (waiting : List ℕ) (now peer : ℕ) : Type 0 where
  pub timer : RequestTimer
  pub noted : Contains c.requests timer
  pub of_peer : timer.peer ≡ peer
  pub waits : is_among waiting peer ≡ true
  pub since : ℕ
  pub seen : timer.waits_from ≡ Some since
  pub timeout : since + timer.timeout ≤ moment c now
  pub least : c.config.settings.request_timeout ≤ timer.timeout
