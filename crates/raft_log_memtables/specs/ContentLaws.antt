-- Laws of the content, over any items.
use Rattle.std.specs.Prelude.{◌≡◌, ◌≤◌, ℕ, List, [], ◌∷◌, map, Option, IsSome}
use Rattle.std.specs.Option.{option_map}
use Rattle.raft_log_records.specs.Item.{Change, Item, item_map}
use Rattle.raft_log_records.specs.Item.Change.{entries, clean, compact, put, delete, mark}
use Rattle.raft_log_records.specs.Spelling.{first_index}
use Rattle.raft_log_records.specs.Batch.{FollowOn}
use Rattle.raft_log_memtables.specs.Content.{GroupContent, Content, after_batch}
use Rattle.raft_log_memtables.specs.Replay.{content_of}
use Rattle.raft_log_memtables.specs.Taken.{TakesEach}

-- ---- entries seen in another way, as their bytes in place of where they lie

abbrev pub group_map : {E F : Type 0} → (E → F) → GroupContent E → GroupContent F
group_map f g = record { there = g.there; entry = λ index. option_map f (g.entry index); value = g.value }

abbrev pub content_map : {E F : Type 0} → (E → F) → Content E → Content F
content_map f content group = group_map f (content group)

-- items seen so make the content seen so
abbrev pub MapsContent : Type 0 → Type 0 → Type 0
MapsContent E F =
    (f : E → F) (items : List (Item E)) (content : Content E)
    → after_batch (map (item_map f) items) (content_map f content) ≡ content_map f (after_batch items content)

-- so do records, with their atomic groups
abbrev pub MapsReplay : Type 0 → Type 0 → Type 0
MapsReplay E F =
    (f : E → F) (records : List (List (Item E)))
    → content_of (map (λ items. map (item_map f) items) records) ≡ content_map f (content_of records)

-- ---- holes

-- between two entries there is one at each index
abbrev pub HasNoHole : {E : Type 0} → (ℕ → Option E) → Type 0
HasNoHole entry = (low index high : ℕ) → low ≤ index → index ≤ high → IsSome (entry low) → IsSome (entry high) → IsSome (entry index)

abbrev pub HasNoHoles : {E : Type 0} → Content E → Type 0
HasNoHoles content = (group : ℕ) → HasNoHole (content group).entry

-- the entries of an item follow one another
abbrev pub IsRun : {E : Type 0} → Change E → Type 0
IsRun (entries es) = FollowOn (λ e. e.0) (first_index es) es
IsRun clean = Unit {0}
IsRun (compact limit) = Unit {0}
IsRun (put key value) = Unit {0}
IsRun (delete key) = Unit {0}
IsRun (mark id status) = Unit {0}

abbrev pub AreRuns : {E : Type 0} → List (Item E) → Type 0
AreRuns [] = Unit {0}
AreRuns (item ∷ items) = IsRun item.change × AreRuns items

-- a batch that is taken makes no hole
abbrev pub MakesNoHole : Type 0 → Type 0
MakesNoHole E =
    (items : List (Item E)) (content : Content E) → AreRuns items → TakesEach items content → HasNoHoles content
    → HasNoHoles (after_batch items content)
