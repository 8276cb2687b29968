use Rattle.std.proofs.Common.{◌≡◌, take}
use Rattle.raft_log_memtables.specs.MemTables.{content_in, reach_in}
use Rattle.raft_log_traced.specs.Places.{items_moved}
use Rattle.raft_log_traced.proofs.places.set_places.Given as goal

abbrev pub invariant-loop-item : goal.invariant-loop-item
invariant-loop-item l = record {
  content : content_in l.tables ≡ items_moved l.place (take l.item-index l.items) (content_in l.initial.tables);
  reach : reach_in l.tables ≡ reach_in l.initial.tables;
}
