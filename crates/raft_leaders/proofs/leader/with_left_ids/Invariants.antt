-- The ids so far, and those that the rest adds, are all.
use Rattle.std.proofs.Common.{◌≡◌, ◌++◌}
use Rattle.raft_leaders.specs.Leader.{left_among}
use Rattle.raft_leaders.proofs.leader.with_left_ids.Given as goal

abbrev pub invariant-loop-entry : goal.invariant-loop-entry
invariant-loop-entry g l =
    l.ids.items ++ left_among g.NID.PartialEq.eq l.members l.learner_ids l.entry-iterator
    ≡ l.learner_ids ++ left_among g.NID.PartialEq.eq l.members l.learner_ids l.initial.entry-iterator
