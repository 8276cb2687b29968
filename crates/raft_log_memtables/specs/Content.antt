-- What the log engine keeps, and what a batch does to it. E stands for an entry: its bytes, or its place.
-- The content is made of cells: of each group whether it is there, the entry at each index, and the value of each key. An
-- item sets some of its group's cells to what it says, whatever was there, and leaves the others. So each cell has what
-- the last item gave it that sets it, and replaying items over a content is composition.
use Rattle.std.specs.Prelude.{ℕ, Bool, true, false, ◌+◌, ◌&&◌, if◌then◌else◌, nat_le, nat_lt}
use Rattle.std.specs.Prelude.{nat_eq, List, [], ◌∷◌}
use Rattle.std.specs.Prelude.{Option, Some, None, bytes_eq}
use Rattle.raft_log_records.specs.Item.{Change, Item}
use Rattle.raft_log_records.specs.Item.Change.{entries, clean, compact, put, delete, mark}
use Rattle.raft_log_records.specs.Spelling.{first_index}

-- the cells of a group
pub record GroupContent (E : Type 0) : Type 0 where
  pub there : Bool
  pub entry : ℕ → Option E
  pub value : List ℕ → Option (List ℕ)

abbrev pub Content : Type 0 → Type 0
Content E = ℕ → GroupContent E

abbrev pub no_group : {E : Type 0} → GroupContent E
no_group = record { there = false; entry = λ _. None; value = λ _. None }

abbrev pub nothing : {E : Type 0} → Content E
nothing group = no_group

-- the entry with this index
abbrev pub entry_at : {E : Type 0} → List (ℕ × E) → ℕ → Option E
entry_at [] index = None
entry_at (e ∷ es) index = if nat_eq e.0 index then Some e.1 else entry_at es index

-- ---- what a change does to its group

-- Entries take the place of all from their first index on, and leave what lies below, even behind a hole.
abbrev pub after_change : {E : Type 0} → Change E → GroupContent E → GroupContent E
after_change (entries es) g = record {
  there = true;
  entry = λ index. if nat_le (first_index es) index then entry_at es index else g.entry index;
  value = g.value;
}
after_change clean g = no_group
after_change (compact limit) g = record {
  there = true;
  entry = λ index. if nat_lt index limit then None else g.entry index;
  value = g.value;
}
after_change (put key value) g = record {
  there = true;
  entry = g.entry;
  value = λ other. if bytes_eq key other then Some value else g.value other;
}
after_change (delete key) g = record {
  there = true;
  entry = g.entry;
  value = λ other. if bytes_eq key other then None else g.value other;
}
after_change (mark id status) g = g

abbrev pub after_item : {E : Type 0} → Item E → Content E → Content E
after_item item content group = if nat_eq item.group group then after_change item.change (content group) else content group

abbrev pub after_batch : {E : Type 0} → List (Item E) → Content E → Content E
after_batch [] content = content
after_batch (item ∷ items) content = after_batch items (after_item item content)

-- ---- how far the entries of a group ever reached since it was last cleaned, also where none is left

abbrev pub greater_of : Option ℕ → ℕ → ℕ
greater_of None index = index
greater_of (Some most) index = if nat_le index most then most else index

abbrev pub reach_of : {E : Type 0} → List (ℕ × E) → Option ℕ → Option ℕ
reach_of [] reach = reach
reach_of (e ∷ es) reach = reach_of es (Some (greater_of reach e.0))

abbrev pub reach_after : {E : Type 0} → Change E → Option ℕ → Option ℕ
reach_after (entries es) reach = reach_of es reach
reach_after clean reach = None
reach_after (compact limit) reach = reach
reach_after (put key value) reach = reach
reach_after (delete key) reach = reach
reach_after (mark id status) reach = reach

abbrev pub reach_after_item : {E : Type 0} → Item E → (ℕ → Option ℕ) → ℕ → Option ℕ
reach_after_item item reach group = if nat_eq item.group group then reach_after item.change (reach group) else reach group

abbrev pub reach_after_batch : {E : Type 0} → List (Item E) → (ℕ → Option ℕ) → ℕ → Option ℕ
reach_after_batch [] reach = reach
reach_after_batch (item ∷ items) reach = reach_after_batch items (reach_after_item item reach)

-- ---- which entries a batch may add

-- they begin inside the list or at its end, and any of them may come where there is no entry
abbrev pub takes_from : Option ℕ → Option ℕ → ℕ → Bool
takes_from (Some low) (Some high) first = nat_le low first && nat_le first (high + 1)
takes_from _ _ first = true
