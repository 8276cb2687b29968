-- Why a node stops where no call of a group did it.
use Rattle.std.specs.Prelude.{[], None}
use Rattle.raft_cluster_events.specs.declared.outcome.Stop.{Stop}
use Rattle.raft_cluster_events.specs.declared.outcome.StopCause.{StopCause}

-- a stop without a token that waited
abbrev pub quiet_stop : StopCause → Stop
quiet_stop why = record { cause = why; unsaid = None; unknown = [] }
