-- All were told.
use Rattle.std.proofs.Common.{ℕ, ◌<◌, length, arith}
use Rattle.raft_timers.proofs.Majorities.{latest_of}
use Rattle.raft_timers.proofs.majority.majority_heard.Goals as goal

pub returns-clause-latest : goal.returns-clause-latest
returns-clause-latest c =
    λ m is.
    latest_of c.args.heard.now c.loop-at.latest m
    (λ (k : ℕ) (below : k < length c.args.heard.now). c.loop-at.invariant.covers k (omega arith)) is
