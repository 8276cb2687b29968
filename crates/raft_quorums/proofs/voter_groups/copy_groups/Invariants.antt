use Rattle.std.proofs.Common.{◌≡◌, take}
use Rattle.raft_quorums.proofs.voter_groups.copy_groups.Given as goal

abbrev pub invariant-loop-group : goal.invariant-loop-group
invariant-loop-group g l = l.copies.items ≡ take l.group-index l.groups
