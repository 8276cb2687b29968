-- What is due every so many ticks.
use Rattle.std.specs.Prelude.{ℕ, ◌-◌, Bool, nat_le, if◌then◌else◌}
use Rattle.raft_timers.specs.declared.interval.Interval.{Interval}

-- so many ticks have passed since then; a clock that went back counts as one that stands
abbrev pub have_passed : ℕ → ℕ → ℕ → Bool
have_passed ticks since now = nat_le ticks (now - since)

abbrev pub is_interval_over : Interval → ℕ → Bool
is_interval_over i now = have_passed i.length i.from now

-- where it is over, the next one begins
abbrev pub interval_after : Interval → ℕ → Interval
interval_after i now = if is_interval_over i now then record i { from = now } else i
