use Rattle.std.proofs.Common.{List, ℕ, ap}
use Rattle.raft_log_records.specs.Item.{items_of, with_bytes}
use Rattle.raft_log_records.proofs.Laid.{block_is}
use Rattle.raft_log_records.proofs.batch.LogBatch.drain.Goals as goal

pub returns-clause-items : goal.returns-clause-items
returns-clause-items c =
    let a = c.self.inside in
    rw (c.replace-items.ensures.value, ← c.self.view_is) (ap (λ (l : List ℕ). with_bytes l (items_of a.items.items)) (block_is a.entries.items (items_of a.items.items) c.self.invariant.sound.laid))

pub returns-clause-places : goal.returns-clause-places
returns-clause-places c =
    let a = c.self.inside in
    rw (c.replace-items.ensures.value, ← c.self.view_is) c.self.invariant.sound.places
