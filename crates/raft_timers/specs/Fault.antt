-- Why settings are refused: the first reason that holds.
use Rattle.std.specs.Prelude.{Bool, true, false, ◌==◌, nat_le, nat_lt, List, [], ◌∷◌, Option, Some, None}
use Rattle.raft_timers.specs.declared.config.TimerSettings.{TimerSettings}
use Rattle.raft_timers.specs.declared.config.TimerFault.{TimerFault}
use Rattle.raft_timers.specs.declared.config.TimerFault.TheVariants.{NoHeartbeatInterval, ElectionWithinHeartbeat, NoElectionRange}
use Rattle.raft_timers.specs.declared.config.TimerFault.TheVariants.{NoRequestTimeout, RequestLimitTooLow, NoSnapshotEntries, NoCleanInterval}

-- the first reason whose test holds
abbrev pub first_of : List (Bool × TimerFault) → Option TimerFault
first_of [] = None
first_of ((true, why) ∷ others) = Some why
first_of ((false, why) ∷ others) = first_of others

abbrev pub fault_of : TimerSettings → Option TimerFault
fault_of s =
    first_of
    ((s.heartbeat_interval == 0, NoHeartbeatInterval)
    ∷ (nat_le s.election_min s.heartbeat_interval, ElectionWithinHeartbeat)
    ∷ (nat_le s.election_max s.election_min, NoElectionRange)
    ∷ (s.request_timeout == 0, NoRequestTimeout)
    ∷ (nat_lt s.request_timeout_max s.request_timeout, RequestLimitTooLow)
    ∷ (s.snapshot_entries == 0, NoSnapshotEntries)
    ∷ (s.clean_interval == 0, NoCleanInterval)
    ∷ [])
