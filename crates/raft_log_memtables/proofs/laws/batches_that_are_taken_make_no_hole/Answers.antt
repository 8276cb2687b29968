use Rattle.raft_log_memtables.proofs.Unbroken.{makes_no_hole}
use Rattle.raft_log_memtables.proofs.laws.batches_that_are_taken_make_no_hole.Goals as goal

pub returns : goal.returns
returns c = makes_no_hole
