-- One item more.
use Rattle.std.proofs.Common.{◌≡◌, ◌+◌, ◌++◌, ◌∷◌, [], ℕ, List, take, sym, ap, ◌∙◌}
use Rattle.std.proofs.lemmas.List.{take_more}
use Rattle.raft_log_records.specs.declared.item.LogItem.{LogItem}
use Rattle.raft_log_records.specs.Item.{change_of, items_of}
use Rattle.raft_log_purge.specs.declared.due.RewriteCounts.{RewriteCounts}
use Rattle.raft_log_traced.specs.Written.{counted, marks_by, sets_by}
use Rattle.raft_log_traced.proofs.WrittenLemmas.{counted_item}
use Rattle.raft_log_traced.proofs.written.with_written.Goals as goal

pub loop-item-preserved : goal.loop-item-preserved
loop-item-preserved c =
    let items = c.args.items.now in
    let index = c.loop-item.item-index in
    let item = c.item-item.result in
    let more : take (index + 1) items ≡ take index items ++ item ∷ [] = take_more items index item c.loop-item-test.true ∙ ap (λ (x : LogItem). take index items ++ x ∷ []) (sym c.item-item.is) in
    let sets = counted_item sets_by (take index items) (take (index + 1) items) item c.args.before.sets c.loop-item.counts.sets _ more (ap (λ (r : RewriteCounts). r.sets) c.loop-item.invariant)
    (c.saturating_add.ensures ∙ ap (λ (n : ℕ). counted (c.loop-item.counts.sets + n)) c.sets_of.ensures) in
    let marks = counted_item marks_by (take index items) (take (index + 1) items) item c.args.before.marks c.loop-item.counts.marks _ more (ap (λ (r : RewriteCounts). r.marks) c.loop-item.invariant)
    (c.saturating_add-in-loop-item.ensures ∙ ap (λ (n : ℕ). counted (c.loop-item.counts.marks + n)) c.marks_of.ensures) in
    λ i. record { sets = sets i; marks = marks i }
