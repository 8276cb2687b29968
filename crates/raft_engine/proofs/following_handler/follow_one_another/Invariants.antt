-- The entries so far follow, so the others tell.
use Rattle.std.proofs.Common.{◌≡◌, drop}
use Rattle.raft_engine.specs.Following.{follow_one_another}
use Rattle.raft_engine.proofs.following_handler.follow_one_another.Given as goal

abbrev pub invariant-loop-entry : goal.invariant-loop-entry
invariant-loop-entry l = follow_one_another l.initial.previous l.entries ≡ follow_one_another l.previous (drop l.entry-index l.entries)
