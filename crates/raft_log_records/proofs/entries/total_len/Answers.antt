use Rattle.std.proofs.Common.{ℕ, length, ap, arith}
use Rattle.std.specs.Prelude.{Vec}
use Rattle.std.specs.declared.alloc.Global.{Global}
use Rattle.raft_log_records.proofs.Joined.{part_within}
use Rattle.raft_log_records.proofs.entries.total_len.Goals as goal

pub returns-then-len-total-clause-long : goal.returns-then-len-total-clause-long
returns-then-len-total-clause-long c =
    let within = part_within c.args.entries.now c.loop-entry.entry-index c.entry-item.result c.loop-entry-test.true in
    let same = ap (λ (v : Vec ℕ Global). length v.items) c.entry-item.is in
    omega (arith, c.loop-entry.invariant.sum, c.loop-entry.invariant.short, c.len.ensures, c.if-len-total.true)
