-- The last membership so far goes on to the last of all.
use Rattle.std.proofs.Common.{◌≡◌, drop}
use Rattle.raft_group_step.specs.Values.{last_membership}
use Rattle.raft_messages.specs.Memberships.{logged_or_none}
use Rattle.raft_messages.proofs.memberships.last_membership.Given as goal

abbrev pub invariant-loop-entry : goal.invariant-loop-entry
invariant-loop-entry l =
    last_membership (logged_or_none l.fn.before) l.entries
    ≡ last_membership (logged_or_none l.last) (drop l.entry-index l.entries)
