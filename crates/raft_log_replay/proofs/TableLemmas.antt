-- Batches that are replayed one after the other.
use Rattle.std.proofs.Common.{◌≡◌, List, [], ◌∷◌, ◌++◌, refl}
use Rattle.raft_log_records.specs.declared.item.EntryIndex.{EntryIndex}
use Rattle.raft_log_records.specs.Item.{Item}
use Rattle.raft_log_memtables.specs.MemTable.{items_in}
use Rattle.raft_log_memtables.specs.Replay.{Replay, after_record, after_records}
use Rattle.raft_log_recovery.specs.Replay.{Placed}
use Rattle.raft_log_replay.specs.Batches.{records_in}

-- one batch more is one step more
pub one_more : {S : Type 0} (step : List (Item EntryIndex) → S → S) (placed : List Placed) (p : Placed) (r : Replay EntryIndex S)
    → after_records step (records_in (placed ++ p ∷ [])) r ≡ after_record step (items_in p.handle p.items) (after_records step (records_in placed) r)
one_more step [] p r = refl
one_more step (q ∷ placed) p r = one_more step placed p (after_record step (items_in q.handle q.items) r)
