use Rattle.std.proofs.Common.{◌≡◌, drop}
use Rattle.raft_group_step.specs.Refusal.{keep_voters}
use Rattle.raft_messages.specs.Memberships.{logged_or_none}
use Rattle.raft_conditions.proofs.entries.keep_voters.Given as goal

abbrev pub invariant-loop-entry : goal.invariant-loop-entry
invariant-loop-entry l =
    keep_voters (logged_or_none l.fn.known) l.entries
    ≡ keep_voters (logged_or_none l.last) (drop l.entry-index l.entries)
