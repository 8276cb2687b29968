use Rattle.std.specs.Prelude.{◌+◌}
use Rattle.std.proofs.Common.{arith}
use Rattle.raft_cluster_lists.proofs.kept.KeptGroup.make_room.Goals as goal

pub returns-in_err-make_room-clause-keeps : goal.returns-in_err-make_room-clause-keeps
returns-in_err-make_room-clause-keeps c = λ n ready. record { list = c.make_room.ensures.keeps (n + n) (n + n) ready.list; stopped = ready.stopped }

pub returns-clause-keeps : goal.returns-clause-keeps
returns-clause-keeps c = λ n ready.
    let space = ready.stopped in
    let len = c.reserve.ensures.len in
    let grown = c.reserve.ensures.capacity in
    record { list = c.make_room.ensures.keeps (n + n) (n + n) ready.list; stopped = omega arith }
