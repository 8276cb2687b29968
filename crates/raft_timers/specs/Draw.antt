-- Times by chance.
use Rattle.std.specs.Prelude.{ℕ, ◌+◌, ◌-◌, ◌%◌}
use Rattle.raft_timers.specs.declared.config.TimerSettings.{TimerSettings}

-- the election timeout that a word picks, both bounds among them
abbrev pub timeout_of : TimerSettings → ℕ → ℕ
timeout_of s word = s.election_min + word % (s.election_max - s.election_min + 1)
