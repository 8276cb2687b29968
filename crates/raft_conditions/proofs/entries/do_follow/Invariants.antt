use Rattle.std.proofs.Common.{◌≡◌, drop}
use Rattle.raft_group_step.specs.Refusal.{do_follow}
use Rattle.raft_conditions.proofs.entries.do_follow.Given as goal

abbrev pub invariant-loop-entry : goal.invariant-loop-entry
invariant-loop-entry l =
    do_follow l.vote l.fn.previous l.entries
    ≡ do_follow l.vote l.last (drop l.entry-index l.entries)
