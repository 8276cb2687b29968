use Rattle.std.proofs.Common.{◌≡◌, ◌++◌, map, take}
use Rattle.raft_log_covers.specs.Marks.{of_group, deletes}
use Rattle.raft_log_marks.proofs.marks.add_deletes.Given as goal

abbrev pub invariant-loop-name : goal.invariant-loop-name
invariant-loop-name l = l.batch.items ≡ l.fn.batch.items ++ of_group l.raft_group_id (deletes (map (λ n. n.now) (take l.name-index l.names)))
