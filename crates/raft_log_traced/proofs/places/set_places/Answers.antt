use Rattle.std.proofs.Common.{◌≡◌, ◌+◌, ◌++◌, ◌∷◌, [], List, take, sym, ap, ◌∙◌}
use Rattle.std.proofs.lemmas.List.{take_more}
use Rattle.raft_log_records.specs.declared.item.EntryIndex.{EntryIndex}
use Rattle.raft_log_records.specs.declared.item.LogItem.{LogItem}
use Rattle.raft_log_memtables.specs.Content.{Content}
use Rattle.raft_log_memtables.specs.MemTables.{content_in}
use Rattle.raft_log_traced.specs.Places.{items_moved, moved_by}
use Rattle.raft_log_traced.proofs.PlaceLemmas.{moved_last}
use Rattle.raft_log_traced.proofs.places.set_places.Goals as goal

pub loop-item-preserved : goal.loop-item-preserved
loop-item-preserved c =
    let items = c.args.items.now in
    let index = c.loop-item.item-index in
    let item = c.item-item.result in
    let old = content_in c.args.tables.now in
    let more : take (index + 1) items ≡ take index items ++ item ∷ [] = take_more items index item c.loop-item-test.true ∙ ap (λ (x : LogItem). take index items ++ x ∷ []) (sym c.item-item.is) in
    record {
      content = c.set_places_of.ensures.content
          ∙ ap (λ (x : Content EntryIndex). moved_by c.args.place item.raft_group_id item.content x) c.loop-item.invariant.content
          ∙ sym (moved_last c.args.place (take index items) item old)
          ∙ sym (ap (λ (l : List LogItem). items_moved c.args.place l old) more);
      reach = c.set_places_of.ensures.reach ∙ c.loop-item.invariant.reach;
    }
