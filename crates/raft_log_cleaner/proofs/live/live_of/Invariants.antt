-- The groups so far are counted.
use Rattle.std.proofs.Common.{◌≡◌, ◌-◌, ◌^◌, ℕ, take}
use Rattle.std.specs.Prelude.{min}
use Rattle.raft_log_cleaner.specs.Live.{AreLiveIn}
use Rattle.raft_log_cleaner.proofs.live.live_of.Given as goal

abbrev pub invariant-loop-group : goal.invariant-loop-group
invariant-loop-group l = (all : ℕ) × AreLiveIn l.log (take l.group-index l.group-items) all × (l.sets ≡ min all (2 ^ 64 - 1))
