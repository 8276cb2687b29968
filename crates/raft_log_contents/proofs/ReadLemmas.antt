-- What a file gives, as items.
use Rattle.std.proofs.Common.{◌≡◌, ℕ, List, [], ◌∷◌, ◌++◌, ap, ◌∙◌}
use Rattle.std.specs.List.{flat_map}
use Rattle.raft_log_records.specs.declared.file_id.FileId.{FileId}
use Rattle.raft_log_records.specs.declared.item.EntryIndex.{EntryIndex}
use Rattle.raft_log_records.specs.Item.{Item}
use Rattle.raft_log_file.specs.Reading.{FileBatch}
use Rattle.raft_log_recovery.specs.Replay.{ArePlaced, Placed}
use Rattle.raft_log_items.specs.Items.{items_in}

-- the items of batches as a machine gets them
items_given : List Placed → List (Item EntryIndex)
items_given placed = flat_map (λ (p : Placed). p.items) placed

pub placed_items : (id : FileId) (bytes : List ℕ) (batches : List FileBatch) (placed : List Placed) → ArePlaced id bytes batches placed → flat_map (λ (p : Placed). p.items) placed ≡ items_in batches
unfolding items_given
placed_items id bytes [] placed none = ap items_given none
placed_items id bytes (batch ∷ batches) placed (first, rest, is, here, others) =
    ap items_given is ∙ (λ i. here.items i ++ placed_items id bytes batches rest others i)
