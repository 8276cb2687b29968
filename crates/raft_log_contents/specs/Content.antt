-- What a log file has: the items of its whole batches, and where and why its reading ended.
use Rattle.std.specs.Prelude.{◌≡◌, ◌==◌, ℕ, Bool, List, length, drop, Option, Some, None, string_bytes, if◌then◌else◌}
use Rattle.std.specs.List.{flat_map, list_all}
use Rattle.raft_log_records.specs.Item.{items_of}
use Rattle.raft_log_disk.specs.Disk.{Disk, fd_of}
use Rattle.raft_log_files.specs.declared.error.CorruptionFault.{CorruptionFault}
use Rattle.raft_log_recovery.specs.Repair.{batches_in, end_in, fault_in}
use Rattle.raft_log_recovery.specs.Replay.{Placed}
use Rattle.raft_log_items.specs.Found.{Found}
use Rattle.raft_log_items.specs.Items.{items_in}
use Rattle.raft_log_contents.specs.declared.content.Ending.{Ending}
use Rattle.raft_log_contents.specs.declared.content.Ending.TheVariants.{Fault, Room, Whole}
use Rattle.raft_log_contents.specs.declared.content.ItemList.{ItemList}
use Rattle.raft_log_contents.specs.declared.content.LogContent.{LogContent}
use Rattle.raft_log_contents.specs.declared.log_files.LogFile.{LogFile}

abbrev pub found_of : LogFile → Found
found_of file = (file.id, string_bytes file.path)

-- the list has the items of just these batches
abbrev pub HasItems : ItemList → List Placed → Type 0
HasItems list placed = items_of list.items.items ≡ flat_map (λ p. p.items) placed

-- how reading ended at this fault: where only zeros follow, at room that was made ahead
abbrev pub ending_in : Option CorruptionFault → Bool → Ending
ending_in None is_room = Whole
ending_in (Some fault) is_room = if is_room then Room else Fault fault

-- the file of a path has this
pub record IsContentOf (d : Disk) (found : Found) (content : LogContent) : Type 0 where
  pub fd : ℕ
  pub there : fd_of d.names found.1 ≡ Some fd
  pub items : items_of content.items.items ≡ items_in (batches_in found.0 (d.file fd).bytes)
  pub to : content.to ≡ end_in found.0 (d.file fd).bytes
  pub size : content.size ≡ length (d.file fd).bytes
  pub ending : content.ending ≡ ending_in (fault_in found.0 (d.file fd).bytes) (list_all (λ b. b == 0) (drop content.to (d.file fd).bytes))
