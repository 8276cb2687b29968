-- Which entries the items of a batch have.
use Rattle.std.specs.Prelude.{ℕ, if◌then◌else◌, nat_eq, List, [], ◌∷◌, Option, None}
use Rattle.raft_log_records.specs.Item.{Change, Item}
use Rattle.raft_log_records.specs.Item.Change.{entries, clean, compact, put, delete, mark}
use Rattle.raft_log_memtables.specs.Content.{entry_at}
use Rattle.raft_log_memtables.specs.Entries.{or_else}

-- the entry that a change has with an index
abbrev pub entry_in : {E : Type 0} → Change E → ℕ → Option E
entry_in (entries es) i = entry_at es i
entry_in clean i = None
entry_in (compact limit) i = None
entry_in (put name value) i = None
entry_in (delete name) i = None
entry_in (mark id status) i = None

-- the entry of a group with an index that the last of these items has
abbrev pub written_at : {E : Type 0} → List (Item E) → ℕ → ℕ → Option E
written_at [] group i = None
written_at (item ∷ items) group i = or_else (written_at items group i) (if nat_eq item.group group then entry_in item.change i else None)
