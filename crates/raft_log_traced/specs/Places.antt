-- Where entries lie that were written anew.
use Rattle.std.specs.Prelude.{ℕ, List, [], ◌∷◌}
use Rattle.raft_log_records.specs.declared.file_id.FileBlockHandle.{FileBlockHandle}
use Rattle.raft_log_records.specs.declared.item.EntryIndex.{EntryIndex}
use Rattle.raft_log_records.specs.declared.item.LogItem.{LogItem}
use Rattle.raft_log_records.specs.declared.item.LogItemContent.{LogItemContent}
use Rattle.raft_log_records.specs.declared.item.LogItemContent.TheVariants as content
use Rattle.raft_log_memtables.specs.Content.{Content}
use Rattle.raft_log_memtables.specs.Moved.{content_moved}

-- by an item of a group, whose entries lie in this block
abbrev pub moved_by : FileBlockHandle → ℕ → LogItemContent → Content EntryIndex → Content EntryIndex
moved_by place group (content.EntryIndexes es) c = content_moved group place es.items c
moved_by place group (content.Command command) c = c
moved_by place group (content.Put key value) c = c
moved_by place group (content.Delete key) c = c
moved_by place group (content.AtomicGroup id status) c = c

abbrev pub items_moved : FileBlockHandle → List LogItem → Content EntryIndex → Content EntryIndex
items_moved place [] c = c
items_moved place (item ∷ items) c = items_moved place items (moved_by place item.raft_group_id item.content c)
