-- Where the entries of a batch lie in its block: one after the other.
use Rattle.std.specs.Prelude.{ℕ, ◌+◌, List, [], ◌∷◌, length, map}
use Rattle.raft_log_records.specs.declared.item.EntryIndex.{EntryIndex}
use Rattle.raft_log_records.specs.Item.{Change, Item, place}
use Rattle.raft_log_records.specs.Item.Change.{entries, clean, compact, put, delete, mark}

-- entries with their indexes
abbrev pub indexed : List EntryIndex → List (ℕ × EntryIndex)
indexed es = map (λ e. (e.index, e)) es

-- where entries lie, of which the first begins at this byte of the block
abbrev pub runs : ℕ → List (ℕ × List ℕ) → List EntryIndex
runs at [] = []
runs at (e ∷ es) = place e.0 at (length e.1) ∷ runs (at + length e.1) es

-- the byte behind them
abbrev pub run_end : ℕ → List (ℕ × List ℕ) → ℕ
run_end at [] = at
run_end at (e ∷ es) = run_end (at + length e.1) es

-- an item whose entries begin at this byte
abbrev pub placed_change : ℕ → Change (List ℕ) → Change EntryIndex
placed_change at (entries es) = entries (indexed (runs at es))
placed_change at clean = clean
placed_change at (compact index) = compact index
placed_change at (put key value) = put key value
placed_change at (delete key) = delete key
placed_change at (mark id status) = mark id status

-- the byte behind its entries
abbrev pub change_end : ℕ → Change (List ℕ) → ℕ
change_end at (entries es) = run_end at es
change_end at _ = at

-- all items, of which the first begins at this byte
abbrev pub placed : ℕ → List (Item (List ℕ)) → List (Item EntryIndex)
placed at [] = []
placed at (item ∷ items) = record { group = item.group; change = placed_change at item.change } ∷ placed (change_end at item.change) items
