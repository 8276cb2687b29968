use Rattle.std.proofs.Common.{◌≤◌, ◌-◌, length, arith}
use Rattle.raft_log_disk.proofs.MemoryLemmas.{undone_less}
use Rattle.raft_log_disk.proofs.image.kept_of.Goals as goal

pub loop-left-preserved : goal.loop-left-preserved
loop-left-preserved c = record {
  within = omega (arith, c.loop-left.invariant.within);
  back = undone_less _ _ _ _ _ _ c.loop-left-test.true c.loop-left.invariant.within c.index.ensures c.in_ok-undo_change.ensures c.loop-left.invariant.back;
}
