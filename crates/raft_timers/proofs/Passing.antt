-- What it means that so many ticks have passed.
use Rattle.std.proofs.Common.{◌≡◌, ℕ, ◌+◌, ◌-◌, ◌<◌, ◌≤◌, true, arith}
use Rattle.std.proofs.lemmas.Bool.{leb-true, le-leb}
use Rattle.raft_timers.specs.Interval.{have_passed}

pub passed : (ticks since now : ℕ) → 0 < ticks → have_passed ticks since now ≡ true → since + ticks ≤ now
passed ticks since now positive h = let t : ticks ≤ now - since = leb-true ticks (now - since) h in omega arith

pub passed_from : (ticks since now : ℕ) → since + ticks ≤ now → have_passed ticks since now ≡ true
passed_from ticks since now h = le-leb ticks (now - since) (omega arith)
