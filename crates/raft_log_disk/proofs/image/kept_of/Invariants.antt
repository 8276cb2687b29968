use Rattle.std.proofs.Common.{◌≡◌, ◌≤◌, length, take}
use Rattle.raft_log_disk.specs.Changes.{undone}
use Rattle.raft_log_disk.proofs.image.kept_of.Given as goal

abbrev pub invariant-loop-left : goal.invariant-loop-left
invariant-loop-left l = record {
  within : l.left ≤ length l.file.changes.items;
  back : undone (take l.left l.file.changes.items) l.bytes.items ≡ undone l.file.changes.items l.file.bytes.items;
}

abbrev pub decreases-loop-left : goal.decreases-loop-left
decreases-loop-left l = l.left
