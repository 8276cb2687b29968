-- Entries that are read have the lengths of the entries that were written.
use Rattle.std.proofs.Common.{◌≡◌, ℕ, ◌+◌, List, [], ◌∷◌, length, map, refl, ap}
use Rattle.raft_log_records.specs.declared.item.EntryIndex.{EntryIndex}
use Rattle.raft_log_records.specs.Item.{Change, Item, change_map, with_lengths}
use Rattle.raft_log_records.specs.Item.Change.{entries, clean, compact, put, delete, mark}
use Rattle.raft_log_records.specs.Places.{change_end, indexed, placed, placed_change, runs}
use Rattle.raft_log_records.specs.Spelling.{lengths}

run_lengths : (at : ℕ) (es : List (ℕ × List ℕ)) → map {A = ℕ × EntryIndex} {B = ℕ × ℕ} (λ e. (e.0, e.1.entry_len)) (indexed (runs at es)) ≡ map {A = ℕ × List ℕ} {B = ℕ × ℕ} (λ e. (e.0, length e.1)) es
run_lengths at [] = refl
run_lengths at (e ∷ es) = λ i. (e.0, length e.1) ∷ run_lengths (at + length e.1) es i

change_lengths : (at : ℕ) (c : Change (List ℕ)) → change_map (λ e. e.entry_len) (placed_change at c) ≡ change_map length c
change_lengths at (entries es) = ap entries (run_lengths at es)
change_lengths at clean = refl
change_lengths at (compact index) = refl
change_lengths at (put key value) = refl
change_lengths at (delete key) = refl
change_lengths at (mark id status) = refl

pub placed_lengths : (at : ℕ) (items : List (Item (List ℕ))) → with_lengths (placed at items) ≡ lengths items
placed_lengths at [] = refl
placed_lengths at (item ∷ items) = λ i. record { group = item.group; change = change_lengths at item.change i } ∷ placed_lengths (change_end at item.change) items i
