-- How the program's items are spelled.
use Rattle.std.proofs.Common.{◌≡◌, ℕ, suc, List, [], ◌∷◌, ◌++◌, length, map, refl, ap, ◌∙◌}
use Rattle.std.specs.List.{flat_map}
use Rattle.std.specs.Int.{w32, to_be_bytes}
use Rattle.raft_log_records.specs.declared.item.EntryIndex.{EntryIndex}
use Rattle.raft_log_records.specs.Item.{change_map}
use Rattle.raft_log_records.specs.Item.Change.{entries}
use Rattle.raft_log_records.specs.Places.{indexed}
use Rattle.raft_log_records.specs.Spelling.{spell_entry, spell_run, spell_change}

-- the indexes and lengths of entries
abbrev pub heads_of : List EntryIndex → List (ℕ × ℕ)
heads_of es = map (λ e. (e.index, e.entry_len)) es

pub heads : (es : List EntryIndex) → map {A = ℕ × EntryIndex} {B = ℕ × ℕ} (λ e. (e.0, e.1.entry_len)) (indexed es) ≡ heads_of es
heads [] = refl
heads (e ∷ es) = ap (λ (hs : List (ℕ × ℕ)). (e.index, e.entry_len) ∷ hs) (heads es)

pub count : (es : List EntryIndex) → length (map {A = EntryIndex} {B = ℕ × ℕ} (λ e. (e.index, e.entry_len)) es) ≡ length es
count [] = refl
count (e ∷ es) = ap suc (count es)

pub run_spelled : (es : List EntryIndex) → spell_change (change_map (λ e. e.entry_len) (entries (indexed es))) ≡ spell_run es
run_spelled es =
    ap (λ (hs : List (ℕ × ℕ)). 1 ∷ (to_be_bytes w32 (length hs) ++ flat_map spell_entry hs)) (heads es)
    ∙ ap (λ (n : ℕ). 1 ∷ (to_be_bytes w32 n ++ flat_map spell_entry (map (λ e. (e.index, e.entry_len)) es))) (count es)
