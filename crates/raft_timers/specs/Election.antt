-- When a voter stands for election.
use Rattle.std.specs.Prelude.{ℕ, ◌≤◌, max, Bool, true, false, ◌&&◌, if◌then◌else◌, unwrap_or}
use Rattle.rand_xoshiro.specs.SplitMix64.{mix_u64, next_state}
use Rattle.raft_values.specs.declared.server_state.ServerState.{ServerState}
use Rattle.raft_values.specs.declared.server_state.ServerState.TheVariants.{Learner, Follower, Candidate, Leader, Shutdown}
use Rattle.raft_timers.specs.declared.config.TimerSettings.{TimerSettings}
use Rattle.raft_timers.specs.declared.election.ElectionTimer.{ElectionTimer}
use Rattle.raft_timers.specs.declared.view.GroupView.{GroupView}
use Rattle.raft_timers.specs.Draw.{timeout_of}
use Rattle.raft_timers.specs.Interval.{have_passed}

-- voters that don't lead may stand
abbrev pub may_stand : ServerState → Bool
may_stand Learner = false
may_stand Follower = true
may_stand Candidate = true
may_stand Leader = false
may_stand Shutdown = false

abbrev pub leads : ServerState → Bool
leads Learner = false
leads Follower = false
leads Candidate = false
leads Leader = true
leads Shutdown = false

-- since when the node has heard nothing: of no leader, of no candidate that it voted for; nor stood
abbrev pub quiet_since : ElectionTimer → GroupView → ℕ
quiet_since e view = max e.from (unwrap_or view.renewed 0)

abbrev pub is_election_due : ElectionTimer → GroupView → ℕ → Bool
is_election_due e view now = may_stand view.role && have_passed e.timeout (quiet_since e view) now

-- a timeout drawn by this state of the generator, counted from now
abbrev pub first_wait : TimerSettings → ℕ → ℕ → ElectionTimer
first_wait s now random =
    record { random = next_state random; timeout = timeout_of s (mix_u64 random).0; from = now }

abbrev pub election_after : TimerSettings → GroupView → ℕ → ElectionTimer → ElectionTimer
election_after s view now e =
    if is_election_due e view now
    then first_wait s now e.random
    else if leads view.role then record e { from = now } else e

-- the timeout lies within its bounds
pub record IsDrawn (s : TimerSettings) (e : ElectionTimer) : Type 0 where
  pub least : s.election_min ≤ e.timeout
  pub most : e.timeout ≤ s.election_max
