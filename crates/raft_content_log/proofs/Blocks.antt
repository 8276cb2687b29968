-- Writing a batch keeps its items.
use Rattle.std.proofs.Common.{◌≡◌, ℕ, List, [], ◌∷◌, refl}
use Rattle.raft_log_records.specs.Item.{Item}
use Rattle.raft_log_records.specs.Batch.{populated}

pub populated_items : (items : List (Item (List ℕ))) → (populated items).items ≡ items
populated_items [] = refl
populated_items (item ∷ items) = refl
