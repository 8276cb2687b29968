-- Entries seen in another way, as their bytes in place of where they lie: what memtables take and what can be cleaned doesn't rest
-- on it.
use Rattle.std.specs.Prelude.{ℕ, List, map}
use Rattle.raft_log_records.specs.Item.{Item, item_map}
use Rattle.raft_log_memtables.specs.Content.{Content}
use Rattle.raft_log_memtables.specs.ContentLaws.{content_map}
use Rattle.raft_log_memtables.specs.Taken.{TakesEach}
use Rattle.raft_log_covers.specs.Kept.{Traces}
use Rattle.raft_log_covers.specs.Queues.{Filed}
use Rattle.raft_log_marks.specs.Standing.{CanBeCleaned}

abbrev pub items_map : {E F : Type 0} → (E → F) → List (Item E) → List (Item F)
items_map f items = map (item_map f) items

abbrev pub filed_map : {E F : Type 0} → (E → F) → Filed E → Filed F
filed_map f b = record { file = b.file; items = items_map f b.items }

-- a batch is taken by bytes just where it is by places
pub record TakesAlike {E F : Type 0} (f : E → F) (items : List (Item E)) (content : Content E) : Type 0 where
  pub seen : TakesEach items content → TakesEach (items_map f items) (content_map f content)
  pub unseen : TakesEach (items_map f items) (content_map f content) → TakesEach items content

abbrev pub MapsTaken : Type 0 → Type 0 → Type 0
MapsTaken E F = (f : E → F) (items : List (Item E)) (content : Content E) → TakesAlike f items content

-- and queues that can be cleaned are so still
abbrev pub MapsCleanable : Type 0 → Type 0 → Type 0
MapsCleanable E F = (f : E → F) (first : ℕ) (traces : Traces) (records : List (List (Item E))) (content : Content E) (bs : List (Filed E))
    → CanBeCleaned first traces records content bs → CanBeCleaned first traces (map (items_map f) records) (content_map f content) (map (filed_map f) bs)
