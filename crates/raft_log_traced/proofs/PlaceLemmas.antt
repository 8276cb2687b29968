-- Items whose entries lie elsewhere now, one after the other.
use Rattle.std.proofs.Common.{◌≡◌, List, [], ◌∷◌, ◌++◌, refl}
use Rattle.raft_log_records.specs.declared.file_id.FileBlockHandle.{FileBlockHandle}
use Rattle.raft_log_records.specs.declared.item.EntryIndex.{EntryIndex}
use Rattle.raft_log_records.specs.declared.item.LogItem.{LogItem}
use Rattle.raft_log_memtables.specs.Content.{Content}
use Rattle.raft_log_traced.specs.Places.{items_moved, moved_by}

pub moved_last : (place : FileBlockHandle) (items : List LogItem) (item : LogItem) (c : Content EntryIndex)
    → items_moved place (items ++ item ∷ []) c ≡ moved_by place item.raft_group_id item.content (items_moved place items c)
moved_last place [] item c = refl
moved_last place (x ∷ items) item c = moved_last place items item (moved_by place x.raft_group_id x.content c)
