-- Which entries the memtables take: a batch begins them inside a group's list or at its end, or where there is none.
use Rattle.std.specs.Prelude.{◌≡◌, ◌⊎◌, ◌-◌, ◌&&◌, ℕ, Bool, true, nat_le, List, [], ◌∷◌, Option, Some, None, IsSome}
use Rattle.raft_log_records.specs.Item.{Change, Item}
use Rattle.raft_log_records.specs.Item.Change.{entries, clean, compact, put, delete, mark}
use Rattle.raft_log_records.specs.Spelling.{first_index}
use Rattle.raft_log_memtables.specs.Content.{GroupContent, Content, after_item}

-- ---- entries between two indexes

-- an index from the first one on, up to the last one if there is a last one
abbrev pub within : ℕ → Option ℕ → ℕ → Bool
within first None index = nat_le first index
within first (Some last) index = nat_le first index && nat_le index last

-- an entry stands from the first place on, up to the last one if there is one
abbrev pub HasWithin : {E : Type 0} → (ℕ → Option E) → ℕ → Option ℕ → Type 0
HasWithin entry first last = (i : ℕ) × (within first last i ≡ true) × IsSome (entry i)

-- no entry stands there
abbrev pub NoneWithin : {E : Type 0} → (ℕ → Option E) → ℕ → Option ℕ → Type 0
NoneWithin entry first last = (i : ℕ) → within first last i ≡ true → entry i ≡ None

-- ---- which batches are taken

-- No entry is there, or one is there up to this index, and one from the index before it on.
abbrev pub TakesFrom : {E : Type 0} → (ℕ → Option E) → ℕ → Type 0
TakesFrom entry index = NoneWithin entry 0 None ⊎ (HasWithin entry 0 (Some index) × HasWithin entry (index - 1) None)

-- the group takes the change
abbrev pub Takes : {E : Type 0} → Change E → GroupContent E → Type 0
Takes (entries es) g = TakesFrom g.entry (first_index es)
Takes clean g = Unit {0}
Takes (compact limit) g = Unit {0}
Takes (put key value) g = Unit {0}
Takes (delete key) g = Unit {0}
Takes (mark id status) g = Unit {0}

-- each item, after the items before it
abbrev pub TakesEach : {E : Type 0} → List (Item E) → Content E → Type 0
TakesEach [] content = Unit {0}
TakesEach (item ∷ items) content = Takes item.change (content item.group) × TakesEach items (after_item item content)
