-- What is spelled is read again, whatever follows it.
use Rattle.std.proofs.Common.{◌≡◌, ℕ, suc, ◌+◌, ◌-◌, ◌^◌, ◌<◌, ◌≤◌, true, false, not, cond, ltb, eqb, List, [], ◌∷◌, ◌++◌, length, map, Result, Ok, Err, refl, sym, ap, ◌∙◌, append_assoc, arith}
use Rattle.std.specs.List.{flat_map, AllByRecursion}
use Rattle.std.specs.Int.{w32, w64, to_be_bytes}
use Rattle.std.proofs.lemmas.Bool.{le-ltb, ne_eqb, eq-eqb}
use Rattle.std.proofs.lemmas.List.{append-nil}
use Rattle.std.proofs.lemmas.List.Concat.{flat_map-cons}
use Rattle.raft_log_records.specs.declared.error.RecordFault.{RecordFault}
use Rattle.raft_log_records.specs.declared.error.RecordFault.TheVariants as fault
use Rattle.raft_log_records.specs.declared.item.AtomicGroupStatus.{AtomicGroupStatus}
use Rattle.raft_log_records.specs.declared.item.AtomicGroupStatus.TheVariants.{Begin, Middle, End}
use Rattle.raft_log_records.specs.Item.{Change, Item, place, change_map, item_map}
use Rattle.raft_log_records.specs.Item.Change.{entries, clean, compact, put, delete, mark}
use Rattle.raft_log_records.specs.Spelling.{spell_string, spell_entry, spell_change, spell_item, spell_items, status_byte, IsConsecutive, IsChange, IsItem, first_index, lengths}
use Rattle.raft_log_records.specs.Reading.{◌>>=◌, number_at, status_at, entry_at, entries_at, run_at, change_behind, change_at, item_at, items_at, body_at}
use Rattle.raft_log_records.specs.Places.{runs, run_end, placed_change, change_end, placed}
use Rattle.raft_bytes.proofs.Numbers.{number_again, wide32, wide64}
use Rattle.raft_log_records.proofs.Fields.{string_again, key_again}

abbrev Bytes : Type 0
Bytes = List ℕ

-- ---- where the entries lie

abbrev pub placed_end : ℕ → List (Item (List ℕ)) → ℕ
placed_end at [] = at
placed_end at (item ∷ items) = placed_end (change_end at item.change) items

pub run_end_rises : (at : ℕ) (es : List (ℕ × List ℕ)) → at ≤ run_end at es
run_end_rises at [] = omega arith
run_end_rises at (e ∷ es) = omega (arith, run_end_rises (at + length e.1) es)

pub change_end_rises : (at : ℕ) (c : Change (List ℕ)) → at ≤ change_end at c
change_end_rises at (entries es) = run_end_rises at es
change_end_rises at clean = omega arith
change_end_rises at (compact index) = omega arith
change_end_rises at (put key value) = omega arith
change_end_rises at (delete key) = omega arith
change_end_rises at (mark id status) = omega arith

pub placed_end_rises : (at : ℕ) (items : List (Item (List ℕ))) → at ≤ placed_end at items
placed_end_rises at [] = omega arith
placed_end_rises at (item ∷ items) = omega (arith, change_end_rises at item.change, placed_end_rises (change_end at item.change) items)

-- ---- entries

abbrev pub heads_in : List (ℕ × List ℕ) → List (ℕ × ℕ)
heads_in es = map {A = ℕ × List ℕ} {B = ℕ × ℕ} (λ e. (e.0, length e.1)) es

entry_again : (next limit at len : ℕ) (rest : List ℕ) → next < 2 ^ 64 → len < 2 ^ 32 → at + len ≤ limit → entry_at next limit at (spell_entry (next, len) ++ rest) ≡ Ok (place next at len, rest)
unfolding entry_at
entry_again next limit at len rest a b c =
    let same : eqb next next ≡ true = eq-eqb next next refl in
    let fits : ltb (limit - at) len ≡ false = le-ltb _ _ (omega arith) in
    let regrouped = append_assoc (to_be_bytes w64 next) (to_be_bytes w32 len) rest in
    ap (λ l. number_at w64 l >>= λ index. number_at w32 index.1 >>= λ len. cond (not (eqb index.0 next)) (Err fault.NotConsecutive) (cond (ltb (limit - at) len.0) (Err fault.EntriesLength) (Ok (place index.0 at len.0, len.1)))) regrouped
    ∙ rw (number_again fault.ItemsCutShort w64 (2 ^ 64) wide64 next (to_be_bytes w32 len ++ rest) a, number_again fault.ItemsCutShort w32 (2 ^ 32) wide32 len rest b, same, fits) refl

entries_again : (es : List (ℕ × List ℕ)) (next limit at : ℕ) (rest : List ℕ) → IsConsecutive next (heads_in es) → run_end at es ≤ limit
    → entries_at (length es) next limit at (flat_map spell_entry (heads_in es) ++ rest) ≡ Ok (runs at es, run_end at es, rest)
unfolding entries_at
entries_again [] next limit at rest h k = refl
entries_again (e ∷ es) next limit at rest h k =
    let up = run_end_rises (at + length e.1) es in
    let behind = flat_map spell_entry (heads_in es) ++ rest in
    let regrouped : flat_map spell_entry (heads_in (e ∷ es)) ++ rest ≡ spell_entry (next, length e.1) ++ behind =
    ap (λ (l : List ℕ). l ++ rest) (flat_map-cons spell_entry (e.0, length e.1) (heads_in es)) ∙ append_assoc (spell_entry (e.0, length e.1)) (flat_map spell_entry (heads_in es)) rest
    ∙ ap (λ (n : ℕ). spell_entry (n, length e.1) ++ behind) h.0 in
    let first = entry_again next limit at (length e.1) behind (omega (arith, h.0, h.1)) h.2 (omega arith) in
    let others = entries_again es (next + 1) limit (at + length e.1) rest h.3 k in
    let one : place next at (length e.1) ≡ place e.0 at (length e.1) = ap (λ (n : ℕ). place n at (length e.1)) (sym h.0) in
    ap (entries_at (suc (length es)) next limit at) regrouped ∙ rw (first, others, one) refl

number_twice : (first : ℕ) (es : List (ℕ × ℕ)) (rest : List ℕ) → 0 < length es → IsConsecutive first es → (r : List ℕ) × (number_at w64 (flat_map spell_entry es ++ rest) ≡ Ok (first, r))
number_twice first [] rest some h = absurd (omega arith)
number_twice first (e ∷ es) rest some h =
    let behind = to_be_bytes w32 e.1 ++ (flat_map spell_entry es ++ rest) in
    let regrouped : flat_map spell_entry (e ∷ es) ++ rest ≡ to_be_bytes w64 e.0 ++ behind =
    ap (λ (l : List ℕ). l ++ rest) (flat_map-cons spell_entry e es) ∙ append_assoc (spell_entry e) (flat_map spell_entry es) rest ∙ append_assoc (to_be_bytes w64 e.0) (to_be_bytes w32 e.1) (flat_map spell_entry es ++ rest) in
    (behind, ap (λ (l : List ℕ). number_at w64 l) regrouped ∙ number_again fault.ItemsCutShort w64 (2 ^ 64) wide64 e.0 behind h.1 ∙ ap (λ (n : ℕ). first_read n behind) h.0)
  where
    first_read : ℕ → List ℕ → Result (ℕ × List ℕ) RecordFault
    first_read n r = Ok (n, r)

run_again : (es : List (ℕ × List ℕ)) (limit at : ℕ) (rest : List ℕ) → IsChange (entries (heads_in es)) → run_end at es ≤ limit
    → run_at limit at ((to_be_bytes w32 (length (heads_in es)) ++ flat_map spell_entry (heads_in es)) ++ rest) ≡ Ok (runs at es, run_end at es, rest)
unfolding run_at
run_again es limit at rest h k =
    let behind = flat_map spell_entry (heads_in es) ++ rest in
    let len = heads_len es in
    let some : eqb (length (heads_in es)) 0 ≡ false = ne_eqb _ _ (λ e. omega (arith, h.0)) in
    let twice = number_twice (first_index (heads_in es)) (heads_in es) rest h.0 h.2 in
    let again = entries_again es (first_index (heads_in es)) limit at rest h.2 k in
    let counted : entries_at (length (heads_in es)) (first_index (heads_in es)) limit at behind ≡ Ok (runs at es, run_end at es, rest) = ap (λ (n : ℕ). entries_at n (first_index (heads_in es)) limit at behind) len ∙ again in
    ap (run_at limit at) (append_assoc (to_be_bytes w32 (length (heads_in es))) (flat_map spell_entry (heads_in es)) rest)
    ∙ rw (number_again fault.ItemsCutShort w32 (2 ^ 32) wide32 (length (heads_in es)) behind h.1, some, twice.1, counted) refl
  where
    heads_len : (es : List (ℕ × List ℕ)) → length (heads_in es) ≡ length es
    heads_len [] = refl
    heads_len (e ∷ es) = ap suc (heads_len es)

status_again : (status : AtomicGroupStatus) (rest : List ℕ) → status_at (status_byte status ∷ rest) ≡ Ok (status, rest)
unfolding status_at
status_again Begin rest = refl
status_again Middle rest = refl
status_again End rest = refl

-- ---- items

lens_change : Change (List ℕ) → Change ℕ
lens_change c = change_map length c

change_again : (c : Change (List ℕ)) (limit at : ℕ) (rest : List ℕ) → IsChange (change_map length c) → change_end at c ≤ limit
    → change_at limit at (spell_change (change_map length c) ++ rest) ≡ Ok (placed_change at c, change_end at c, rest)
unfolding change_at change_behind
change_again (entries es) limit at rest h k = rw (run_again es limit at rest h k) refl
change_again clean limit at rest h k = refl
change_again (compact index) limit at rest h k = rw (number_again fault.ItemsCutShort w64 (2 ^ 64) wide64 index rest h) refl
change_again (put key value) limit at rest h k =
    let regrouped = append_assoc (spell_string key) (spell_string value) rest in
    rw (regrouped, key_again key (spell_string value ++ rest) h.0, string_again value rest h.1) refl
change_again (delete key) limit at rest h k = rw (key_again key rest h) refl
change_again (mark id status) limit at rest h k =
    let regrouped = append_assoc (to_be_bytes w64 id) (status_byte status ∷ []) rest in
    ap (λ (l : List ℕ). change_behind 6 limit at l) regrouped ∙ rw (number_again fault.ItemsCutShort w64 (2 ^ 64) wide64 id (status_byte status ∷ rest) h, status_again status rest) refl

item_again : (item : Item (List ℕ)) (limit at : ℕ) (rest : List ℕ) → IsItem (item_map length item) → change_end at item.change ≤ limit
    → item_at limit at (spell_item (item_map length item) ++ rest) ≡ Ok (record { group = item.group; change = placed_change at item.change }, change_end at item.change, rest)
unfolding item_at
item_again item limit at rest h k =
    let behind = spell_change (change_map length item.change) ++ rest in
    ap (item_at limit at) (append_assoc (to_be_bytes w64 item.group) (spell_change (change_map length item.change)) rest)
    ∙ rw (number_again fault.ItemsCutShort w64 (2 ^ 64) wide64 item.group behind h.group, change_again item.change limit at rest h.change k) refl

items_again : (items : List (Item (List ℕ))) (limit at : ℕ) (rest : List ℕ) → AllByRecursion IsItem (lengths items) → placed_end at items ≤ limit
    → items_at (length (lengths items)) limit at (flat_map spell_item (lengths items) ++ rest) ≡ Ok (placed at items, placed_end at items, rest)
unfolding items_at
items_again [] limit at rest h k = refl
items_again (item ∷ items) limit at rest h k =
    let mid = change_end at item.change in
    let behind = flat_map spell_item (lengths items) ++ rest in
    let regrouped : flat_map spell_item (lengths (item ∷ items)) ++ rest ≡ spell_item (item_map length item) ++ behind =
    ap (λ (l : List ℕ). l ++ rest) (flat_map-cons spell_item (item_map length item) (lengths items)) ∙ append_assoc (spell_item (item_map length item)) (flat_map spell_item (lengths items)) rest in
    let first = item_again item limit at behind h.0 (omega (arith, placed_end_rises mid items)) in
    let others = items_again items limit mid rest h.1 k in
    ap (items_at (suc (length (lengths items))) limit at) regrouped ∙ rw (first, others) refl

pub body_again : (items : List (Item (List ℕ))) (limit : ℕ) → AllByRecursion IsItem (lengths items) → length (lengths items) < 2 ^ 32 → placed_end 0 items ≡ limit → body_at limit (spell_items (lengths items)) ≡ Ok (placed 0 items)
unfolding body_at
body_again items limit h fits end =
    let all = items_again items limit 0 [] h (omega arith) in
    let whole : items_at (length (lengths items)) limit 0 (flat_map spell_item (lengths items)) ≡ Ok (placed 0 items, placed_end 0 items, []) =
    ap (items_at (length (lengths items)) limit 0) (sym (append-nil (flat_map spell_item (lengths items)))) ∙ all in
    let same : eqb (placed_end 0 items) limit ≡ true = eq-eqb _ _ end in
    rw (number_again fault.ItemsCutShort w32 (2 ^ 32) wide32 (length (lengths items)) (flat_map spell_item (lengths items)) fits, whole, same) refl
