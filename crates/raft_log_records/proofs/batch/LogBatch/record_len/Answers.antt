use Rattle.std.proofs.Common.{arith}
use Rattle.raft_log_records.proofs.Sound.{sound_len_held, sound_len_plain}
use Rattle.raft_log_records.proofs.batch.LogBatch.record_len.Goals as goal

pub returns-then-self-clause-len : goal.returns-then-self-clause-len
returns-then-self-clause-len c =
    let a = c.self.inside in
    let e = sound_len_held a.items.items a.entries.items a.holds_entries a.items_len c.self.invariant.sound c.if-self.true in
    rw (← c.self.view_is) (omega (arith, c.len.ensures))

pub returns-else-self-clause-len : goal.returns-else-self-clause-len
returns-else-self-clause-len c =
    let a = c.self.inside in
    let e = sound_len_plain a.items.items a.entries.items a.holds_entries a.items_len c.self.invariant.sound c.if-self.false in
    rw (← c.self.view_is) (omega arith)
