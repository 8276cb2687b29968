-- The clock of one group.
use Rattle.std.specs.Prelude.{ℕ, List, Option}
use Rattle.raft_timers.specs.declared.config.TimerConfig.{TimerConfig}
use Rattle.raft_timers.specs.declared.election.ElectionTimer.{ElectionTimer}
use Rattle.raft_timers.specs.declared.lead.Lead.{Lead}
use Rattle.raft_timers.specs.declared.request.RequestTimer.{RequestTimer}

pub record Clock : Type 0 where
  pub config : TimerConfig
  pub now : ℕ
  pub election : ElectionTimer
  pub lead : Option Lead
  pub requests : List RequestTimer
