-- The length and the bytes of a batch's record, from the program's parts of it.
use Rattle.std.proofs.Common.{◌≡◌, ℕ, ◌+◌, ◌-◌, ◌≤◌, ◌<◌, Bool, true, false, List, [], ◌∷◌, ◌++◌, length, take, append_assoc, Option, refl, sym, ap, subst, ◌∙◌, arith, length-append}
use Rattle.std.specs.Prelude.{◌||◌}
use Rattle.std.specs.List.{flat_map, list_any, AllByRecursion}
use Rattle.std.specs.Int.{w32, w64, to_be_bytes}
use Rattle.std.proofs.lemmas.List.{map_push, append-nil, take_at}
use Rattle.std.proofs.lemmas.List.Folds.{list_any-append}
use Rattle.std.proofs.lemmas.Grind.{flat_map-append}
use Rattle.raft_log_records.specs.declared.item.EntryIndex.{EntryIndex}
use Rattle.raft_log_records.specs.declared.item.LogItem.{LogItem}
use Rattle.raft_log_records.specs.Checksum.{crc32_of}
use Rattle.raft_log_records.specs.Item.{Change, Item, item_of, items_of, change_map, item_map, entry_bytes, with_bytes, with_lengths}
use Rattle.raft_log_records.specs.Item.Change.{entries, clean, compact, put, delete, mark}
use Rattle.raft_log_records.specs.Spelling.{IsItem, FitsBytes, is_entries, holds_entries, entries_of, lengths, block_of, block_part, spell_block, spell_item, spell_items, spell_string, spell_change, spell_parts, spell_record, record_len, signed, AreItems}
use Rattle.raft_log_records.specs.Batch.{IsRunLaid, IsLaid, IsSound, record_of}
use Rattle.raft_log_records.specs.BatchView.{writing_of, KeepsChecksum}
use Rattle.raft_log_records.specs.declared.batch.BufState.{BufState}
use Rattle.raft_log_records.specs.declared.batch.BufState.TheVariants as buf
use Rattle.raft_log_records.specs.Places.{placed}
use Rattle.raft_log_records.proofs.Again.{placed_end}
use Rattle.raft_log_records.proofs.Placed.{placed_push, plain_placed}
use Rattle.raft_log_records.proofs.Laid.{block_is, laid_lengths, any_held, laid_push, holds_map as holds_kept}

pub sound_lengths : (items : List LogItem) (block : List ℕ) (holds : Bool) (n : ℕ) → IsSound items block holds n → lengths (with_bytes block (items_of items)) ≡ with_lengths (items_of items)
sound_lengths items block holds n s = laid_lengths block 0 (items_of items) (length block) s.laid (omega arith)

pub sound_block : (items : List LogItem) (block : List ℕ) (holds : Bool) (n : ℕ) → IsSound items block holds n → spell_block (with_bytes block (items_of items)) ≡ block_part holds block
sound_block items block holds n s =
    ap (λ (b : Bool). block_part b (block_of (with_bytes block (items_of items)))) (any_held (entry_bytes block) (items_of items) ∙ sym s.entries_held)
    ∙ ap (λ (l : List ℕ). block_part holds l) (block_is block (items_of items) s.laid)

-- the record is made of the program's parts
pub sound_spelled : (signature : Option ℕ) (items : List LogItem) (block : List ℕ) (holds : Bool) (n : ℕ) → IsSound items block holds n
    → spell_record signature (with_bytes block (items_of items)) ≡ spell_parts signature (block_part holds block) (spell_items (with_lengths (items_of items)))
unfolding spell_record
sound_spelled signature items block holds n s =
    ap (λ (b : List ℕ). spell_parts signature b (spell_items (lengths (with_bytes block (items_of items))))) (sound_block items block holds n s)
    ∙ ap (λ (l : List (Item ℕ)). spell_parts signature (block_part holds block) (spell_items l)) (sound_lengths items block holds n s)

pub length-spell_items : (items : List (Item ℕ)) → length (spell_items items) ≡ 4 + length (flat_map spell_item items)
length-spell_items items = length-append (to_be_bytes w32 (length items)) (flat_map spell_item items)

pub sound_len : (items : List LogItem) (block : List ℕ) (holds : Bool) (n : ℕ) → IsSound items block holds n → record_len (with_bytes block (items_of items)) ≡ 16 + n + length (block_part holds block)
unfolding record_len
sound_len items block holds n s =
    let a = ap length (sound_block items block holds n s) in
    let b = ap (λ (l : List (Item ℕ)). length (spell_items l)) (sound_lengths items block holds n s) in
    let c = length-spell_items (with_lengths (items_of items)) in
    omega (arith, s.sum)

-- what a batch holds has a record
pub sound_items : (items : List LogItem) (block : List ℕ) (holds : Bool) (n : ℕ) → IsSound items block holds n → AreItems (with_bytes block (items_of items))
sound_items items block holds n s = record {
  each = subst (AllByRecursion IsItem) (sym (sound_lengths items block holds n s)) s.each;
  short = omega (arith, s.short, sound_len items block holds n s);
}

pub sound_len_held : (items : List LogItem) (block : List ℕ) (holds : Bool) (n : ℕ) → IsSound items block holds n → holds ≡ true → record_len (with_bytes block (items_of items)) ≡ 20 + n + length block
sound_len_held items block holds n s h =
    let a = sound_len items block holds n s in
    let b : length (block_part holds block) ≡ length block + 4 = ap (λ (x : Bool). length (block_part x block)) h ∙ length-sealed block in
    omega arith
  where
    length-sealed : (block : List ℕ) → length (block_part true block) ≡ length block + 4
    length-sealed block = length-append block (to_be_bytes w32 (crc32_of block))

pub sound_len_plain : (items : List LogItem) (block : List ℕ) (holds : Bool) (n : ℕ) → IsSound items block holds n → holds ≡ false → record_len (with_bytes block (items_of items)) ≡ 16 + n
sound_len_plain items block holds n s h =
    let a = sound_len items block holds n s in
    let b : length (block_part holds block) ≡ 0 = ap (λ (x : Bool). length (block_part x block)) h in
    omega arith

-- ---- one more item without entries

plain_entries : {E : Type 0} (c : Change E) → is_entries c ≡ false → entries_of c ≡ []
plain_entries (entries es) h = absurd cc
plain_entries clean h = refl
plain_entries (compact index) h = refl
plain_entries (put key value) h = refl
plain_entries (delete key) h = refl
plain_entries (mark id status) h = refl

pub plain_map : {E F : Type 0} (f g : E → F) (c : Change E) → is_entries c ≡ false → change_map f c ≡ change_map g c
plain_map f g (entries es) h = absurd cc
plain_map f g clean h = refl
plain_map f g (compact index) h = refl
plain_map f g (put key value) h = refl
plain_map f g (delete key) h = refl
plain_map f g (mark id status) h = refl

plain_lengths : (c : Change EntryIndex) → is_entries c ≡ false → change_map length (change_map (entry_bytes []) c) ≡ change_map (λ e. e.entry_len) c
plain_lengths (entries es) h = absurd cc
plain_lengths clean h = refl
plain_lengths (compact index) h = refl
plain_lengths (put key value) h = refl
plain_lengths (delete key) h = refl
plain_lengths (mark id status) h = refl

pub plain_item : (f : EntryIndex → List ℕ) (item : Item EntryIndex) → holds_entries item ≡ false → item_map f item ≡ item_map (entry_bytes []) item
plain_item f item h = ap (λ (c : Change (List ℕ)). record { group = item.group; change = c }) (plain_map f (entry_bytes []) item.change h)

-- the program's parts with the item
pub view_push : (items : List LogItem) (block : List ℕ) (item : LogItem) → holds_entries (item_of item) ≡ false → with_bytes block (items_of (items ++ item ∷ [])) ≡ with_bytes block (items_of items) ++ item_map (entry_bytes []) (item_of item) ∷ []
view_push items block item h =
    ap (λ (l : List (Item EntryIndex)). with_bytes block l) (map_push item_of items item)
    ∙ map_push (item_map (entry_bytes block)) (items_of items) (item_of item)
    ∙ ap (λ (i : Item (List ℕ)). with_bytes block (items_of items) ++ i ∷ []) (plain_item (entry_bytes block) (item_of item) h)

pub lengths_push : (items : List LogItem) (item : LogItem) → with_lengths (items_of (items ++ item ∷ [])) ≡ with_lengths (items_of items) ++ item_map (λ e. e.entry_len) (item_of item) ∷ []
lengths_push items item =
    ap (λ (l : List (Item EntryIndex)). with_lengths l) (map_push item_of items item)
    ∙ map_push (item_map (λ e. e.entry_len)) (items_of items) (item_of item)

pub each_push : {X : Type 0} (P : X → Type 0) (xs : List X) (x : X) → AllByRecursion P xs → P x → AllByRecursion P (xs ++ x ∷ [])
each_push P [] x h k = (k, tt)
each_push P (y ∷ xs) x h k = (h.0, each_push P xs x h.1 k)

pub spelled_push : (items : List (Item ℕ)) (item : Item ℕ) → length (flat_map spell_item (items ++ item ∷ [])) ≡ length (flat_map spell_item items) + length (spell_item item)
spelled_push items item =
    let a = ap length (flat_map-append spell_item items (item ∷ [])) in
    let b = length-append (flat_map spell_item items) (flat_map spell_item (item ∷ [])) in
    let d : flat_map spell_item (item ∷ []) ≡ spell_item item = append-nil (spell_item item) in
    let e = ap length d in
    omega arith

held_push : {E : Type 0} (items : List (Item E)) (item : Item E) → holds_entries item ≡ false → list_any holds_entries (items ++ item ∷ []) ≡ list_any holds_entries items
held_push items item h = list_any-append holds_entries items (item ∷ []) ∙ ap (λ (b : Bool). list_any holds_entries items || (b || false)) h ∙ or_false (list_any holds_entries items)
  where
    or_false : (b : Bool) → (b || false) ≡ b
    or_false true = refl
    or_false false = refl

pub sound_push : (items : List LogItem) (block : List ℕ) (holds : Bool) (n : ℕ) (item : LogItem) (m : ℕ) → IsSound items block holds n → holds_entries (item_of item) ≡ false
    → IsItem (item_map (λ e. e.entry_len) (item_of item)) → FitsBytes (item_of item).change → m ≡ length (spell_item (item_map (λ e. e.entry_len) (item_of item)))
    → record_len (with_bytes block (items_of items)) + m ≤ 33554432 → IsSound (items ++ item ∷ []) block holds (n + m)
sound_push items block holds n item m s plain is_item fits len room =
    let spelled = spelled_push (with_lengths (items_of items)) (item_map (λ e. e.entry_len) (item_of item)) in
    let same = ap (λ (l : List (Item ℕ)). length (flat_map spell_item l)) (lengths_push items item) in
    let head = length-append (to_be_bytes w64 item.raft_group_id) (spell_change (item_map (λ e. e.entry_len) (item_of item)).change) in
    let eight : length (to_be_bytes w64 item.raft_group_id) ≡ 8 = refl in
    let whole = sound_len items block holds n s in
    let run : IsRunLaid (length block) (entries_of (item_of item).change) (length block) = subst (λ (es : List EntryIndex). IsRunLaid (length block) es (length block)) (sym (plain_entries (item_of item).change plain)) refl in
    record {
      places = map_push item_of items item
          ∙ ap (λ (l : List (Item EntryIndex)). l ++ item_of item ∷ []) s.places
          ∙ ap (λ (c : Change EntryIndex). placed 0 (with_bytes block (items_of items)) ++ record { group = item.raft_group_id; change = c } ∷ []) (sym (plain_placed (placed_end 0 (with_bytes block (items_of items))) (entry_bytes []) (item_of item).change plain))
          ∙ sym (placed_push 0 (with_bytes block (items_of items)) (item_map (entry_bytes []) (item_of item)))
          ∙ ap (λ (l : List (Item (List ℕ))). placed 0 l) (sym (view_push items block item plain));
      laid = subst (λ (l : List (Item EntryIndex)). IsLaid 0 l (length block)) (sym (map_push item_of items item)) (laid_push 0 (items_of items) (length block) (item_of item) (length block) s.laid run);
      each = subst (λ (l : List (Item ℕ)). AllByRecursion IsItem l) (sym (lengths_push items item)) (each_push IsItem (with_lengths (items_of items)) (item_map (λ e. e.entry_len) (item_of item)) s.each is_item);
      fits = each_push (λ i. FitsBytes (item_of i).change) items item s.fits fits;
      sum = omega (arith, s.sum);
      count = omega (arith, s.count, length-append items (item ∷ []));
      bytes = s.bytes;
      entries_held = s.entries_held ∙ sym (ap (λ (l : List (Item EntryIndex)). list_any holds_entries l) (map_push item_of items item) ∙ held_push (items_of items) (item_of item) plain);
      short = omega (arith, s.short);
    }

-- how much longer the record gets
pub record_len_push : (items : List (Item (List ℕ))) (item : Item EntryIndex) → holds_entries item ≡ false
    → record_len (items ++ item_map (entry_bytes []) item ∷ []) ≡ record_len items + length (spell_item (item_map (λ e. e.entry_len) item))
unfolding record_len
record_len_push items item plain =
    let added = item_map (entry_bytes []) item in
    let held : holds_entries added ≡ false = holds_kept (entry_bytes []) item.change ∙ plain in
    let nothing : flat_map (λ bytes. bytes) (entries_of added.change) ≡ [] = ap (λ (l : List (List ℕ)). flat_map (λ bytes. bytes) l) (plain_entries added.change held) in
    let block : block_of (items ++ added ∷ []) ≡ block_of items =
    flat_map-append (λ (i : Item (List ℕ)). flat_map (λ bytes. bytes) (entries_of i.change)) items (added ∷ []) ∙ ap (λ (l : List ℕ). block_of items ++ (l ++ [])) nothing ∙ append-nil (block_of items) in
    let part : spell_block (items ++ added ∷ []) ≡ spell_block items =
    ap (λ (b : Bool). block_part b (block_of (items ++ added ∷ []))) (held_push items added held) ∙ ap (λ (l : List ℕ). block_part (list_any holds_entries items) l) block in
    let lens : lengths (items ++ added ∷ []) ≡ lengths items ++ item_map (λ e. e.entry_len) item ∷ [] =
    map_push (item_map length) items added ∙ ap (λ (c : Change ℕ). lengths items ++ record { group = item.group; change = c } ∷ []) (plain_lengths item.change plain) in
    let a = ap length part in
    let b = ap (λ (l : List (Item ℕ)). length (spell_items l)) lens in
    let c = length-spell_items (lengths items ++ item_map (λ e. e.entry_len) item ∷ []) in
    let d = length-spell_items (lengths items) in
    let e = spelled_push (lengths items) (item_map (λ e. e.entry_len) item) in
    omega arith

-- strings make the record at least as long as they are
pub put_longer : (items : List (Item (List ℕ))) (group : ℕ) (key value : List ℕ) → 33554432 < length key + length value → 33554432 < record_len (items ++ record { group = group; change = put key value } ∷ [])
put_longer items group key value h =
    let added : Item EntryIndex = record { group = group; change = put key value } in
    let a = record_len_push items added refl in
    let b = length-append (to_be_bytes w64 group) (4 ∷ (spell_string key ++ spell_string value)) in
    let c = length-append (spell_string key) (spell_string value) in
    let d = length-append (to_be_bytes w32 (length key)) key in
    let e = length-append (to_be_bytes w32 (length value)) value in
    omega arith

pub delete_longer : (items : List (Item (List ℕ))) (group : ℕ) (key : List ℕ) → 33554432 < length key + 0 → 33554432 < record_len (items ++ record { group = group; change = delete key } ∷ [])
delete_longer items group key h =
    let added : Item EntryIndex = record { group = group; change = delete key } in
    let a = record_len_push items added refl in
    let b = length-append (to_be_bytes w64 group) (5 ∷ spell_string key) in
    let d = length-append (to_be_bytes w32 (length key)) key in
    omega arith

-- ---- a record that is signed again

last_four : (front : List ℕ) (sum new : ℕ) → take (length (front ++ to_be_bytes w32 sum) - 4) (front ++ to_be_bytes w32 sum) ++ to_be_bytes w32 new ≡ front ++ to_be_bytes w32 new
last_four front sum new = with_tail front (to_be_bytes w32 sum) refl
  where
    with_tail : (front tail : List ℕ) → length tail ≡ 4 → take (length (front ++ tail) - 4) (front ++ tail) ++ to_be_bytes w32 new ≡ front ++ to_be_bytes w32 new
    with_tail front tail four =
        let k : length (front ++ tail) - 4 ≡ length front = omega (arith, length-append front tail) in
        ap (λ (n : ℕ). take n (front ++ tail) ++ to_be_bytes w32 new) k ∙ ap (λ (l : List ℕ). l ++ to_be_bytes w32 new) (take_at front tail (length front) refl)

front_of : List ℕ → List ℕ → List ℕ
front_of block body = to_be_bytes w32 (12 + length block + length body) ++ (to_be_bytes w32 (8 + length block) ++ (block ++ body))

four_parts : (a b c d e : List ℕ) → a ++ (b ++ (c ++ (d ++ e))) ≡ (a ++ (b ++ (c ++ d))) ++ e
four_parts a b c d e = simp append_assoc

parts_grouped : (signature : Option ℕ) (block body : List ℕ) → spell_parts signature block body ≡ front_of block body ++ to_be_bytes w32 (signed signature (crc32_of body))
unfolding front_of
parts_grouped signature block body = four_parts (to_be_bytes w32 (12 + length block + length body)) (to_be_bytes w32 (8 + length block)) block body (to_be_bytes w32 (signed signature (crc32_of body)))

pub parts_signed_again : (old new : Option ℕ) (block body whole : List ℕ) (sum : ℕ) → whole ≡ spell_parts old block body → sum ≡ signed new (crc32_of body) → take (length whole - 4) whole ++ to_be_bytes w32 sum ≡ spell_parts new block body
parts_signed_again old new block body bytes sum is sums =
    let whole = is ∙ parts_grouped old block body in
    ap (λ (l : List ℕ). take (length l - 4) l ++ to_be_bytes w32 sum) whole
    ∙ last_four (front_of block body) (signed old (crc32_of body)) sum
    ∙ ap (λ (n : ℕ). front_of block body ++ to_be_bytes w32 n) sums
    ∙ sym (parts_grouped new block body)

pub parts_long : (signature : Option ℕ) (block body whole : List ℕ) → whole ≡ spell_parts signature block body → 4 ≤ length whole
parts_long signature block body bytes is =
    let a = ap length (is ∙ parts_grouped signature block body) in
    omega (arith, length-append (front_of block body) (to_be_bytes w32 (signed signature (crc32_of body))))

pub encoded_is : (items : List (Item (List ℕ))) (encoded : List ℕ) (state : BufState) (checksum : ℕ) (signature : Option ℕ) → encoded ≡ record_of items (writing_of state) → state ≡ buf.Encoded checksum signature → encoded ≡ spell_record signature items
encoded_is items encoded state checksum signature e is = e ∙ ap (λ (st : BufState). record_of items (writing_of st)) is

pub checksum_is : (body : List ℕ) (state : BufState) (checksum : ℕ) (signature : Option ℕ) → KeepsChecksum state body → state ≡ buf.Encoded checksum signature → checksum ≡ crc32_of body
checksum_is body state checksum signature k is = subst (λ (st : BufState). KeepsChecksum st body) is k
