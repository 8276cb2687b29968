use Rattle.std.proofs.Common.{◌≡◌, ◌∙◌, ap, sym, None}
use Rattle.std.specs.List.{list_any}
use Rattle.raft_log_records.specs.Batch.{Batch}
use Rattle.raft_log_records.specs.Spelling.{holds_entries}
use Rattle.raft_log_records.proofs.Placed.{none_block}
use Rattle.raft_content_log.proofs.Blocks.{populated_items}
use Rattle.raft_content_log.proofs.plain_log.block_of.Goals as goal

pub returns-in-None-clause-block : goal.returns-in-None-clause-block
returns-in-None-clause-block c =
    let same : c.finish_populate.new.self.items ≡ c.args.batch.now.items = ap (λ (b : Batch). b.items) c.in-Ok.ensures.ok ∙ populated_items c.args.batch.now.items in
    c.new.ensures.items ∙ sym (none_block c.args.batch.now.items (ap (list_any holds_entries) (sym same) ∙ c.in-None.ensures None))
