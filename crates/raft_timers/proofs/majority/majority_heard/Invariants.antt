-- The latest one so far has a majority, and covers those that were told so far.
use Rattle.std.proofs.Common.{◌≡◌, ℕ, ◌<◌, get_or, true, None}
use Rattle.std.specs.Prelude.{IfSome}
use Rattle.raft_timers.specs.Majority.{hears_majority}
use Rattle.raft_timers.proofs.Majorities.{Covers}
use Rattle.raft_timers.proofs.majority.majority_heard.Given as goal

abbrev pub invariant-loop-at : goal.invariant-loop-at
invariant-loop-at l =
    record {
      majority : IfSome l.latest (λ m. hears_majority l.heard m ≡ true);
      covers : (k : ℕ) → k < l.at-index → Covers l.heard l.latest (get_or l.heard k None);
    }
