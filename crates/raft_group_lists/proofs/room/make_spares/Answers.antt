use Rattle.std.proofs.Common.{arith}
use Rattle.raft_group_lists.proofs.room.make_spares.Goals as goal

pub returns-in_err-widen_spares-clause-holds : goal.returns-in_err-widen_spares-clause-holds
returns-in_err-widen_spares-clause-holds c = λ n low holds. c.widen_spares.ensures.holds n holds

pub returns-clause-holds : goal.returns-clause-holds
returns-clause-holds c = λ n low holds.
    let size = c.widen_spares.ensures.size in
    c.add_spares.ensures.holds n (omega (arith, size, low)) (c.widen_spares.ensures.holds n holds)
