use Rattle.std.proofs.Common.{◌∙◌, subst, sym}
use Rattle.raft_log_records.specs.Spelling.{AreItems}
use Rattle.raft_log_records.specs.Batch.{Batch}
use Rattle.raft_log_records.proofs.Sound.{sound_items}
use Rattle.raft_log_records.proofs.batch.LogBatch.finish_populate.Goals as goal

pub returns-then-is_empty-clause-items : goal.returns-then-is_empty-clause-items
returns-then-is_empty-clause-items c = let a = c.self.inside in sound_items a.items.items a.entries.items a.holds_entries a.items_len c.self.invariant.sound

pub returns-in_err-populate-in-Open-clause-items : goal.returns-in_err-populate-in-Open-clause-items
returns-in_err-populate-in-Open-clause-items c =
    let a = c.self.inside in
    subst (λ (b : Batch). AreItems b.items) (c.self.view_is ∙ sym c.in_err-populate-in-Open.ensures.err.1)
    (sound_items a.items.items a.entries.items a.holds_entries a.items_len c.self.invariant.sound)

pub returns-clause-items : goal.returns-clause-items
returns-clause-items c =
    let a = c.self-2.inside in
    subst (λ (b : Batch). AreItems b.items) c.self-2.view_is (sound_items a.items.items a.entries.items a.holds_entries a.items_len c.self-2.invariant.sound)
