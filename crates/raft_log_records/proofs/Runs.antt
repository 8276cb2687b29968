-- A run of entries that a batch takes.
use Rattle.std.proofs.Common.{◌≡◌, ℕ, suc, ◌+◌, ◌*◌, ◌-◌, ◌^◌, ◌<◌, ◌≤◌, Bool, true, false, List, [], ◌∷◌, ◌++◌, length, Err, refl, sym, ap, subst, ◌∙◌, arith, zero-add, length-append}
use Rattle.std.specs.Prelude.{◌||◌}
use Rattle.std.specs.List.{flat_map, list_any, AllByRecursion}
use Rattle.std.specs.Int.{w32, w64, to_be_bytes}
use Rattle.std.proofs.lemmas.List.{map_push, append-nil, length-map}
use Rattle.std.proofs.lemmas.List.Folds.{list_any-append}
use Rattle.std.proofs.lemmas.List.Concat.{flat_map-cons}
use Rattle.std.proofs.lemmas.Grind.{flat_map-append}
use Rattle.std.proofs.lemmas.Bool.{or_right}
use Rattle.raft_log_records.specs.Checksum.{crc32_of}
use Rattle.raft_log_records.specs.declared.item.EntryIndex.{EntryIndex}
use Rattle.raft_log_records.specs.declared.item.LogItem.{LogItem}
use Rattle.raft_log_records.specs.declared.error.RecordError.TheVariants as error
use Rattle.raft_log_records.specs.Item.{Change, Item, item_of, items_of, change_map, item_map, entry_bytes, with_bytes, with_lengths}
use Rattle.raft_log_records.specs.Item.Change.{entries}
use Rattle.raft_log_records.specs.Places.{indexed, runs, run_end, placed}
use Rattle.raft_log_records.proofs.Again.{heads_in, placed_end}
use Rattle.raft_log_records.specs.Spelling.{IsItem, IsChange, IsConsecutive, FitsBytes, first_index, holds_entries, entries_of, lengths, block_of, block_part, spell_block, spell_entry, spell_item, spell_items, record_len}
use Rattle.raft_log_records.specs.Batch.{Batch, LogsEntries, IsRunLaid, IsLaid, IsSound, joined, numbered, run_of}
use Rattle.raft_log_records.proofs.Spelled.{heads, heads_of}
use Rattle.raft_log_records.proofs.Taken.{unindexed}
use Rattle.raft_log_records.proofs.Placed.{bytes_in, run_end_is, placed_end_is, none_block, change_placed, placed_push}
use Rattle.raft_log_records.proofs.Laid.{laid_push, laid_stays, block_is, laid_lengths}
use Rattle.raft_log_records.proofs.Sound.{lengths_push, each_push, spelled_push, length-spell_items}

pub numbered_bytes : (first : ℕ) (parts : List (List ℕ)) → bytes_in (numbered first parts) ≡ parts
numbered_bytes first [] = refl
numbered_bytes first (b ∷ parts) = ap (λ (l : List (List ℕ)). b ∷ l) (numbered_bytes (first + 1) parts)

numbered_len : (first : ℕ) (parts : List (List ℕ)) → length (numbered first parts) ≡ length parts
numbered_len first [] = refl
numbered_len first (b ∷ parts) = ap suc (numbered_len (first + 1) parts)

run_heads : (at : ℕ) (es : List (ℕ × List ℕ)) → heads_of (runs at es) ≡ heads_in es
run_heads at [] = refl
run_heads at (e ∷ es) = ap (λ (l : List (ℕ × ℕ)). (e.0, length e.1) ∷ l) (run_heads (at + length e.1) es)

run_laid : (at : ℕ) (es : List (ℕ × List ℕ)) → IsRunLaid at (runs at es) (run_end at es)
run_laid at [] = refl
run_laid at (e ∷ es) = (refl, run_laid (at + length e.1) es)

consecutive : (first : ℕ) (parts : List (List ℕ)) → first + length parts < 2 ^ 64 → length (joined parts) < 2 ^ 32 → IsConsecutive first (heads_in (numbered first parts))
consecutive first [] h k = tt
consecutive first (b ∷ parts) h k =
    let whole = ap length (flat_map-cons (λ (bytes : List ℕ). bytes) b parts) in
    let sum = length-append b (joined parts) in
    (refl, omega arith, omega arith, consecutive (first + 1) parts (omega arith) (omega arith))

first_of_numbered : (first : ℕ) (parts : List (List ℕ)) → 0 < length parts → first_index (heads_in (numbered first parts)) ≡ first
first_of_numbered first [] h = absurd (omega arith)
first_of_numbered first (b ∷ parts) h = refl

heads_len : (es : List (ℕ × ℕ)) → length (flat_map spell_entry es) ≡ 12 * length es
heads_len [] = refl
heads_len (e ∷ es) = omega (arith, heads_len es, ap length (flat_map-cons spell_entry e es), length-append (spell_entry e) (flat_map spell_entry es))

-- ---- how long the item is

abbrev run_lens : ℕ → ℕ → List (List ℕ) → Item ℕ
run_lens group first parts = record { group = group; change = entries (heads_in (numbered first parts)) }

run_spelled : (group first : ℕ) (parts : List (List ℕ)) → length (spell_item (run_lens group first parts)) ≡ 13 + 12 * length parts
run_spelled group first parts =
    let hs = heads_in (numbered first parts) in
    let count : length hs ≡ length parts = length-map (numbered first parts) (λ e. (e.0, length e.1)) ∙ numbered_len first parts in
    omega (arith, heads_len hs, length-append (to_be_bytes w64 group) (1 ∷ (to_be_bytes w32 (length hs) ++ flat_map spell_entry hs)), length-append (to_be_bytes w32 (length hs)) (flat_map spell_entry hs))

held_last : {E : Type 0} (items : List (Item E)) (item : Item E) → holds_entries item ≡ true → list_any holds_entries (items ++ item ∷ []) ≡ true
held_last items item h = list_any-append holds_entries items (item ∷ []) ∙ ap (λ (b : Bool). list_any holds_entries items || (b || false)) h ∙ or_right (list_any holds_entries items) true refl

-- the record with a run of entries, whose block has a checksum
pub record_len_run : (items : List (Item (List ℕ))) (group first : ℕ) (parts : List (List ℕ))
    → record_len (items ++ run_of group first parts ∷ []) ≡ 12 + (length (block_of items) + length (joined parts) + 4) + (4 + length (flat_map spell_item (lengths items)) + (13 + 12 * length parts))
unfolding record_len
record_len_run items group first parts =
    let run = run_of group first parts in
    let held = held_last items run refl in
    let last : flat_map (λ bytes. bytes) (entries_of run.change) ≡ joined parts = ap (λ (l : List (List ℕ)). flat_map (λ bytes. bytes) l) (numbered_bytes first parts) in
    let block : block_of (items ++ run ∷ []) ≡ block_of items ++ joined parts =
    flat_map-append (λ (i : Item (List ℕ)). flat_map (λ bytes. bytes) (entries_of i.change)) items (run ∷ []) ∙ ap (λ (l : List ℕ). block_of items ++ (l ++ [])) last ∙ ap (λ (l : List ℕ). block_of items ++ l) (append-nil (joined parts)) in
    let part : spell_block (items ++ run ∷ []) ≡ block_part true (block_of items ++ joined parts) = ap (λ (b : Bool). block_part b (block_of (items ++ run ∷ []))) held ∙ ap (λ (l : List ℕ). block_part true l) block in
    let all = block_of items ++ joined parts in
    let part_len : length (block_part true all) ≡ length all + 4 = length-append all (to_be_bytes w32 (crc32_of all)) in
    let lens : lengths (items ++ run ∷ []) ≡ lengths items ++ run_lens group first parts ∷ [] = map_push (item_map length) items run in
    let a = ap length part in
    let b = ap (λ (l : List (Item ℕ)). length (spell_items l)) lens in
    let c = length-spell_items (lengths items ++ run_lens group first parts ∷ []) in
    let e = spelled_push (lengths items) (run_lens group first parts) in
    omega (arith, run_spelled group first parts, length-append (block_of items) (joined parts))

plain_or_held : (items : List (Item (List ℕ))) (b : Bool) → list_any holds_entries items ≡ b → length (block_part b (block_of items)) + (length (block_part true []) - length (block_part b [])) ≡ length (block_of items) + 4
plain_or_held items true h = omega (arith, length-append (block_of items) (to_be_bytes w32 (crc32_of (block_of items))))
plain_or_held items false h = omega (arith, ap length (none_block items h))

-- how much longer the record gets: by the block's checksum too, where no entries were there
pub run_longer : (items : List (Item (List ℕ))) (group first : ℕ) (parts : List (List ℕ)) (holds : Bool) → list_any holds_entries items ≡ holds
    → record_len (items ++ run_of group first parts ∷ []) ≡ record_len items + (length (block_part true []) - length (block_part holds [])) + (13 + 12 * length parts + length (joined parts))
unfolding record_len
run_longer items group first parts holds h =
    let a = record_len_run items group first parts in
    let b = plain_or_held items holds h in
    let c = ap (λ (x : Bool). length (block_part x (block_of items))) h in
    let d = length-spell_items (lengths items) in
    long a b c d
  where
    long : record_len (items ++ run_of group first parts ∷ []) ≡ 12 + (length (block_of items) + length (joined parts) + 4) + (4 + length (flat_map spell_item (lengths items)) + (13 + 12 * length parts))
        → length (block_part holds (block_of items)) + (length (block_part true []) - length (block_part holds [])) ≡ length (block_of items) + 4
        → length (spell_block items) ≡ length (block_part holds (block_of items)) → length (spell_items (lengths items)) ≡ 4 + length (flat_map spell_item (lengths items))
        → record_len (items ++ run_of group first parts ∷ []) ≡ 12 + length (spell_block items) + length (spell_items (lengths items)) + (length (block_part true []) - length (block_part holds [])) + (13 + 12 * length parts + length (joined parts))
    long a b c d = omega (arith, a, b, c, d)

-- ---- the program's parts with a run of entries

-- the item as the program has it
abbrev pub laid_run : ℕ → ℕ → List ℕ → List (List ℕ) → Item EntryIndex
laid_run group first block parts = record { group = group; change = entries (indexed (runs (length block) (numbered first parts))) }

run_lens_is : (group first : ℕ) (block : List ℕ) (parts : List (List ℕ)) → item_map (λ e. e.entry_len) (laid_run group first block parts) ≡ run_lens group first parts
run_lens_is group first block parts =
    let rs = runs (length block) (numbered first parts) in
    ap (λ (hs : List (ℕ × ℕ)). record { group = group; change = entries hs }) (heads rs ∙ run_heads (length block) (numbered first parts))

pub view_run : (items : List LogItem) (block : List ℕ) (item : LogItem) (group first : ℕ) (parts : List (List ℕ)) → IsLaid 0 (items_of items) (length block) → item_of item ≡ laid_run group first block parts
    → with_bytes (block ++ joined parts) (items_of (items ++ item ∷ [])) ≡ with_bytes block (items_of items) ++ run_of group first parts ∷ []
view_run items block item group first parts laid is =
    let es = numbered first parts in
    let whole : block ++ joined parts ≡ block ++ (joined (bytes_in es) ++ []) = ap (λ (l : List ℕ). block ++ l) (sym (append-nil (joined parts)) ∙ ap (λ (l : List (List ℕ)). joined l ++ []) (sym (numbered_bytes first parts))) in
    let one : change_map (entry_bytes (block ++ joined parts)) (entries (indexed (runs (length block) es))) ≡ entries es =
    ap (λ (b : List ℕ). change_map (entry_bytes b) (entries (indexed (runs (length block) es)))) whole ∙ change_placed block (entries es) [] in
    ap (λ (l : List (Item EntryIndex)). with_bytes (block ++ joined parts) l) (map_push item_of items item)
    ∙ map_push (item_map (entry_bytes (block ++ joined parts))) (items_of items) (item_of item)
    ∙ ap (λ (l : List (Item (List ℕ))). l ++ item_map (entry_bytes (block ++ joined parts)) (item_of item) ∷ []) (laid_stays block (joined parts) 0 (items_of items) (length block) laid (omega arith))
    ∙ ap (λ (i : Item EntryIndex). with_bytes block (items_of items) ++ item_map (entry_bytes (block ++ joined parts)) i ∷ []) is
    ∙ ap (λ (c : Change (List ℕ)). with_bytes block (items_of items) ++ record { group = group; change = c } ∷ []) one

pub record RunRoom (items : List LogItem) (block : List ℕ) (holds : Bool) (m group first : ℕ) (parts : List (List ℕ)) : Type 0 where
  pub sound : IsSound items block holds m
  pub some : 0 < length parts
  pub group_fits : group < 2 ^ 64
  pub indexes : first + length parts < 2 ^ 64
  pub room : record_len (with_bytes block (items_of items) ++ run_of group first parts ∷ []) ≤ 33554432

pub room_is : (items : List LogItem) (block : List ℕ) (holds : Bool) (m group first : ℕ) (parts : List (List ℕ)) → RunRoom items block holds m group first parts
    → 16 + (length block + length (joined parts) + 4) + (m + (13 + 12 * length parts)) ≤ 33554432
room_is items block holds m group first parts r =
    let s = r.sound in
    let view = with_bytes block (items_of items) in
    let a = record_len_run view group first parts in
    let b = ap length (block_is block (items_of items) s.laid) in
    let c = ap (λ (l : List (Item ℕ)). length (flat_map spell_item l)) (laid_lengths block 0 (items_of items) (length block) s.laid (omega arith)) in
    omega (arith, r.room, s.sum)

pub sound_run : (items : List LogItem) (block : List ℕ) (holds : Bool) (m : ℕ) (item : LogItem) (group first : ℕ) (parts : List (List ℕ)) → RunRoom items block holds m group first parts
    → item_of item ≡ laid_run group first block parts → IsSound (items ++ item ∷ []) (block ++ joined parts) true (m + (13 + 12 * length parts))
sound_run items block holds m item group first parts r is =
    let s = r.sound in
    let fits = room_is items block holds m group first parts r in
    let es = numbered first parts in
    let whole = length-append block (joined parts) in
    let part = length-append (block ++ joined parts) (to_be_bytes w32 (crc32_of (block ++ joined parts))) in
    let end : run_end (length block) es ≡ length (block ++ joined parts) = run_end_is (length block) es ∙ ap (λ (l : List (List ℕ)). length block + length (joined l)) (numbered_bytes first parts) ∙ sym whole in
    let run : IsRunLaid (length block) (entries_of (laid_run group first block parts).change) (length (block ++ joined parts)) =
    subst (λ (l : List EntryIndex). IsRunLaid (length block) l (length (block ++ joined parts))) (sym (unindexed (runs (length block) es))) (subst (λ (n : ℕ). IsRunLaid (length block) (runs (length block) es) n) end (run_laid (length block) es)) in
    let laid : IsLaid 0 (items_of items ++ laid_run group first block parts ∷ []) (length (block ++ joined parts)) = laid_push 0 (items_of items) (length block) (laid_run group first block parts) (length (block ++ joined parts)) s.laid run in
    let all : items_of (items ++ item ∷ []) ≡ items_of items ++ laid_run group first block parts ∷ [] = map_push item_of items item ∙ ap (λ (i : Item EntryIndex). items_of items ++ i ∷ []) is in
    let lens : with_lengths (items_of (items ++ item ∷ [])) ≡ with_lengths (items_of items) ++ run_lens group first parts ∷ [] =
    lengths_push items item ∙ ap (λ (i : Item EntryIndex). with_lengths (items_of items) ++ item_map (λ e. e.entry_len) i ∷ []) is ∙ ap (λ (i : Item ℕ). with_lengths (items_of items) ++ i ∷ []) (run_lens_is group first block parts) in
    let hs = heads_in es in
    let count : length hs ≡ length parts = length-map es (λ e. (e.0, length e.1)) ∙ numbered_len first parts in
    let in_turn : IsConsecutive (first_index hs) hs = subst (λ (n : ℕ). IsConsecutive n hs) (sym (first_of_numbered first parts r.some)) (consecutive first parts r.indexes (omega (arith, fits))) in
    let is_change : IsChange (entries hs) = (omega (arith, r.some), omega (arith, fits), in_turn) in
    let is_item : IsItem (run_lens group first parts) = record { group = r.group_fits; change = is_change } in
    let spelled = spelled_push (with_lengths (items_of items)) (run_lens group first parts) in
    let same = ap (λ (l : List (Item ℕ)). length (flat_map spell_item l)) lens in
    let counted : length (indexed (runs (length block) es)) ≡ length parts = length-map (runs (length block) es) (λ e. (e.index, e)) ∙ runs_len (length block) es ∙ numbered_len first parts in
    let view = with_bytes block (items_of items) in
    let end_is : placed_end 0 view ≡ length block = placed_end_is 0 view ∙ ap (λ (l : List ℕ). 0 + length l) (block_is block (items_of items) s.laid) ∙ zero-add (length block) in
    let short_run : FitsBytes (laid_run group first block parts).change = omega (arith, fits) in
    record {
      laid = subst (λ (l : List (Item EntryIndex)). IsLaid 0 l (length (block ++ joined parts))) (sym all) laid;
      places = all
          ∙ ap (λ (l : List (Item EntryIndex)). l ++ laid_run group first block parts ∷ []) s.places
          ∙ ap (λ (n : ℕ). placed 0 view ++ record { group = group; change = entries (indexed (runs n es)) } ∷ []) (sym end_is)
          ∙ sym (placed_push 0 view (run_of group first parts))
          ∙ ap (λ (l : List (Item (List ℕ))). placed 0 l) (sym (view_run items block item group first parts s.laid is));
      each = subst (λ (l : List (Item ℕ)). AllByRecursion IsItem l) (sym lens) (each_push IsItem (with_lengths (items_of items)) (run_lens group first parts) s.each is_item);
      fits = each_push (λ i. FitsBytes (item_of i).change) items item s.fits (subst (λ (i : Item EntryIndex). FitsBytes i.change) (sym is) short_run);
      sum = omega (arith, s.sum, run_spelled group first parts);
      count = omega (arith, s.count, length-append items (item ∷ []));
      bytes = omega (arith, fits);
      entries_held = sym (ap (λ (l : List (Item EntryIndex)). list_any holds_entries l) all ∙ held_last (items_of items) (laid_run group first block parts) refl);
      short = omega (arith, fits);
    }
  where
    runs_len : (at : ℕ) (es : List (ℕ × List ℕ)) → length (runs at es) ≡ length es
    runs_len at [] = refl
    runs_len at (e ∷ es) = ap suc (runs_len (at + length e.1) es)

pub run_pushed : (items after : List LogItem) (block bytes : List ℕ) (holds : Bool) (m : ℕ) (item : LogItem) (group first : ℕ) (parts : List (List ℕ)) (n : ℕ) → RunRoom items block holds m group first parts
    → item_of item ≡ laid_run group first block parts → after ≡ items ++ item ∷ [] → bytes ≡ block ++ joined parts → n ≡ length parts → IsSound after bytes true (m + (13 + 12 * n))
run_pushed items after block bytes holds m item group first parts n r is a b e =
    subst (λ (k : ℕ). IsSound after bytes true (m + (13 + 12 * k))) (sym e)
    (subst (λ (l : List ℕ). IsSound after l true (m + (13 + 12 * length parts))) (sym b) (subst (λ (l : List LogItem). IsSound l (block ++ joined parts) true (m + (13 + 12 * length parts))) (sym a) (sound_run items block holds m item group first parts r is)))

pub run_viewed : (items after : List LogItem) (block bytes : List ℕ) (item : LogItem) (group first : ℕ) (parts : List (List ℕ)) → IsLaid 0 (items_of items) (length block) → item_of item ≡ laid_run group first block parts
    → after ≡ items ++ item ∷ [] → bytes ≡ block ++ joined parts → with_bytes bytes (items_of after) ≡ with_bytes block (items_of items) ++ run_of group first parts ∷ []
run_viewed items after block bytes item group first parts laid is a b =
    ap (λ (l : List ℕ). with_bytes l (items_of after)) b ∙ ap (λ (l : List LogItem). with_bytes (block ++ joined parts) (items_of l)) a ∙ view_run items block item group first parts laid is

-- a group's entries as the program has them
abbrev pub laid_as : ℕ → List EntryIndex → Item EntryIndex
laid_as group rs = record { group = group; change = entries (indexed rs) }

pub indexes_are : (group first at : ℕ) (block : List ℕ) (parts : List (List ℕ)) (rs : List EntryIndex) → rs ≡ runs at (numbered first parts) → at ≡ length block
    → laid_as group rs ≡ laid_run group first block parts
indexes_are group first at block parts rs e k = ap (λ (l : List EntryIndex). laid_as group l) (e ∙ ap (λ (n : ℕ). runs n (numbered first parts)) k)

-- what a refused run leaves
pub refused_long : (batch : Batch) (group first : ℕ) (parts : List (List ℕ)) → 0 < length parts → 33554432 < record_len (batch.items ++ run_of group first parts ∷ []) → LogsEntries batch group first parts batch (Err error.TooLong)
refused_long batch group first [] some h = absurd (omega arith)
refused_long batch group first (b ∷ parts) some h = (refl, h)
