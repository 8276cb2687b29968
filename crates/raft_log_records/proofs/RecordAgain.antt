-- A record that is spelled is read again, whatever follows it.
use Rattle.std.proofs.Common.{◌≡◌, ◌⊎◌, inl, inr, ℕ, suc, ◌+◌, ◌-◌, ◌^◌, ◌<◌, ◌≤◌, Bool, true, false, not, cond, ltb, eqb, List, [], ◌∷◌, ◌++◌, length, take, drop, Option, Some, None, Result, Ok, Err, refl, sym, ap, subst, ◌∙◌, append_assoc, arith, length-append}
use Rattle.std.specs.Prelude.{◌||◌, IfSome, fold}
use Rattle.std.specs.List.{list_any, flat_map}
use Rattle.std.specs.Int.{w32, w64, from_be_bytes, to_be_bytes}
use Rattle.std.proofs.lemmas.Bool.{eq-eqb, ne_eqb, le-ltb, or_right}
use Rattle.std.proofs.lemmas.Nat.{from_be_bytes-to_be_bytes_4, xor_of_32}
use Rattle.std.proofs.lemmas.List.{take_at, drop_at}
use Rattle.std.proofs.lemmas.List.Concat.{flat_map-cons}
use Rattle.raft_log_records.specs.declared.error.RecordFault.{RecordFault}
use Rattle.raft_log_records.specs.declared.error.RecordFault.TheVariants as fault
use Rattle.raft_log_records.specs.declared.error.RecordError.{RecordError}
use Rattle.raft_log_records.specs.declared.error.RecordError.TheVariants as error
use Rattle.raft_log_records.specs.declared.record.Record.{Record}
use Rattle.raft_log_records.specs.declared.item.EntryIndex.{EntryIndex}
use Rattle.raft_log_records.specs.Checksum.{after_byte, crc32_of}
use Rattle.raft_log_records.specs.Item.{Item, items_of, with_bytes}
use Rattle.raft_log_records.specs.Spelling.{holds_entries, block_of, block_part, signed, sealed, lengths, spell_block, spell_item, spell_items, spell_change, spell_record, record_len, AreItems}
use Rattle.raft_log_records.specs.Reading.{Gives, Finds, number_or, unsealed, head_at, header_at, block_at, agrees, record_at}
use Rattle.raft_bytes.specs.Bytes.{AreBytes}
use Rattle.raft_bytes.proofs.Bytes.{AreBytes-take, AreBytes-drop}
use Rattle.raft_bytes.proofs.Numbers.{number_again, wide32}
use Rattle.raft_log_records.proofs.Again.{placed_end, body_again}
use Rattle.raft_log_records.specs.Places.{placed}
use Rattle.raft_log_records.proofs.Placed.{placed_end_is, placed_held, none_block, placed_bytes}
use Rattle.raft_log_records.proofs.Fields.{eight}
use Rattle.raft_log_records.proofs.ChangeLemmas.{shifted_fits}

-- ---- a checksum fits four bytes

byte_fits : (c b : ℕ) → c < 2 ^ 32 → b < 2 ^ 32 → after_byte c b < 2 ^ 32
unfolding after_byte
byte_fits c b h k = shifted_fits _ (shifted_fits _ (shifted_fits _ (shifted_fits _ (shifted_fits _ (shifted_fits _ (shifted_fits _ (shifted_fits _ (xor_of_32 c b h k))))))))

folds_fit : (bytes : List ℕ) (c : ℕ) → AreBytes bytes → c < 2 ^ 32 → fold after_byte c bytes < 2 ^ 32
folds_fit [] c h k = k
folds_fit (b ∷ bytes) c h k = folds_fit bytes (after_byte c b) (λ i. h (suc i)) (byte_fits c b k (omega (arith, h 0)))

pub crc_fits : (bytes : List ℕ) → AreBytes bytes → crc32_of bytes < 2 ^ 32
unfolding crc32_of
crc_fits bytes h = xor_of_32 _ _ (folds_fit bytes 4294967295 h (omega arith)) (omega arith)

pub signed_fits : (signature : Option ℕ) (sum : ℕ) → IfSome signature (λ s. s < 2 ^ 32) → sum < 2 ^ 32 → signed signature sum < 2 ^ 32
signed_fits None sum h k = k
signed_fits (Some s) sum h k = xor_of_32 sum s k h

pub unsealed_again : (wrong : RecordFault) (signature : Option ℕ) (body : List ℕ) → IfSome signature (λ s. s < 2 ^ 32) → AreBytes body → unsealed wrong signature (sealed signature body) ≡ Ok body
unfolding unsealed
unsealed_again wrong signature body h fits = with_sum (to_be_bytes w32 sum) refl (from_be_bytes-to_be_bytes_4 sum (signed_fits signature (crc32_of body) h (crc_fits body fits)))
  where
    sum : ℕ
    sum = signed signature (crc32_of body)

    with_sum : (tail : List ℕ) → length tail ≡ 4 → from_be_bytes w32 tail ≡ signed signature (crc32_of body)
        → cond (eqb (from_be_bytes w32 (drop (length (body ++ tail) - 4) (body ++ tail))) (signed signature (crc32_of (take (length (body ++ tail) - 4) (body ++ tail))))) (Ok (take (length (body ++ tail) - 4) (body ++ tail))) (Err wrong) ≡ Ok body
    with_sum tail four back =
        let n : length (body ++ tail) - 4 ≡ length body = omega (arith, length-append body tail) in
        let front : take (length body) (body ++ tail) ≡ body = take_at body tail (length body) refl in
        let behind : drop (length body) (body ++ tail) ≡ tail = drop_at body tail (length body) refl in
        let same : eqb (from_be_bytes w32 tail) (signed signature (crc32_of body)) ≡ true = eq-eqb _ _ back in
        rw (n, front, behind, same) refl

-- ---- the parts of a record and what follows it

abbrev pub head_of : ℕ → ℕ → List ℕ
head_of len offset = to_be_bytes w32 len ++ to_be_bytes w32 offset

pub five : (a b c d rest : List ℕ) → (a ++ (b ++ (c ++ d))) ++ rest ≡ (a ++ b) ++ (c ++ (d ++ rest))
five a b c d rest = simp append_assoc

pub record Parts (len offset : ℕ) (block body rest bytes : List ℕ) : Type 0 where
  pub whole : bytes ≡ head_of len offset ++ (block ++ (body ++ rest))
  pub offset_is : offset ≡ 8 + length block
  pub len_is : len ≡ offset + length body
  pub short : len ≤ 33554432
  pub four : 8 ≤ length body
  pub place : (length block ≡ 0) ⊎ (4 ≤ length block)

pub header_again : (len offset : ℕ) (block body rest bytes : List ℕ) → Parts len offset block body rest bytes → header_at bytes ≡ Ok (len, offset)
unfolding head_at header_at
header_again len offset block body rest bytes p =
    let more = block ++ (body ++ rest) in
    let regrouped : bytes ≡ to_be_bytes w32 len ++ (to_be_bytes w32 offset ++ more) = p.whole ∙ append_assoc (to_be_bytes w32 len) (to_be_bytes w32 offset) more in
    let fits_len : len < 2 ^ 32 = omega (arith, p.short) in
    let fits_offset : offset < 2 ^ 32 = omega (arith, p.short, p.len_is) in
    let long : length bytes ≡ 8 + (length block + (length body + length rest)) =
    ap length regrouped ∙ omega (arith, length-append (to_be_bytes w32 len) (to_be_bytes w32 offset ++ more), length-append (to_be_bytes w32 offset) more, length-append block (body ++ rest), length-append body rest) in
    let t0 : eqb len 0 ≡ false = ne_eqb _ _ (λ z. omega (arith, p.len_is, p.offset_is)) in
    let t1 : ltb len 16 ≡ false = le-ltb _ _ (omega (arith, p.len_is, p.offset_is, p.four)) in
    let t2 : ltb 33554432 len ≡ false = le-ltb _ _ p.short in
    let t3 : ltb (length bytes) len ≡ false = le-ltb _ _ (omega (arith, p.len_is, p.offset_is)) in
    let t4 : ltb len (offset + 8) ≡ false = le-ltb _ _ (omega (arith, p.len_is, p.four)) in
    let t5 : (eqb offset 8 || not (ltb offset 12)) ≡ true = elim p.place [
      | inl z ↦ let s : eqb offset 8 ≡ true = eq-eqb offset 8 (omega (arith, p.offset_is, z)) in ap (λ (b : Bool). b || not (ltb offset 12)) s
      | inr z ↦ let s : ltb offset 12 ≡ false = le-ltb _ _ (omega (arith, p.offset_is, z)) in ap (λ (b : Bool). eqb offset 8 || not b) s ∙ or_right (eqb offset 8) true refl
    ] in
    let first : number_or fault.CutShort w32 bytes ≡ Ok (len, to_be_bytes w32 offset ++ more) = ap (λ (l : List ℕ). number_or fault.CutShort w32 l) regrouped ∙ number_again fault.CutShort w32 (2 ^ 32) wide32 len (to_be_bytes w32 offset ++ more) fits_len in
    let second = number_again fault.CutShort w32 (2 ^ 32) wide32 offset more fits_offset in
    rw (first, t0, second, t1, t2, t4, t5, t3) refl

-- the parts lie where the header says
pub block_lies : (len offset : ℕ) (block body rest bytes : List ℕ) → Parts len offset block body rest bytes → take (offset - 8) (drop 8 bytes) ≡ block
block_lies len offset block body rest bytes p =
    let n : offset - 8 ≡ length block = omega (arith, p.offset_is) in
    let behind : drop 8 bytes ≡ block ++ (body ++ rest) = ap (λ (l : List ℕ). drop 8 l) p.whole ∙ drop_at (head_of len offset) (block ++ (body ++ rest)) 8 refl in
    ap (λ (l : List ℕ). take (offset - 8) l) behind ∙ ap (λ (k : ℕ). take k (block ++ (body ++ rest))) n ∙ take_at block (body ++ rest) (length block) refl

pub body_lies : (len offset : ℕ) (block body rest bytes : List ℕ) → Parts len offset block body rest bytes → take (len - offset) (drop offset bytes) ≡ body
body_lies len offset block body rest bytes p =
    let n : len - offset ≡ length body = omega (arith, p.len_is) in
    let front : length (head_of len offset ++ block) ≡ offset = omega (arith, length-append (head_of len offset) block, p.offset_is, eight (to_be_bytes w32 len) (to_be_bytes w32 offset) refl refl) in
    let regrouped : bytes ≡ (head_of len offset ++ block) ++ (body ++ rest) = p.whole ∙ sym (append_assoc (head_of len offset) block (body ++ rest)) in
    let behind : drop offset bytes ≡ body ++ rest = ap (λ (l : List ℕ). drop offset l) regrouped ∙ drop_at (head_of len offset ++ block) (body ++ rest) offset front in
    ap (λ (l : List ℕ). take (len - offset) l) behind ∙ ap (λ (k : ℕ). take k (body ++ rest)) n ∙ take_at body rest (length body) refl

-- ---- what stands in them

block_again : (offset : ℕ) (items : List (Item (List ℕ))) (bytes : List ℕ) → AreBytes (block_of items) → offset ≡ 8 + length (spell_block items) → take (offset - 8) (drop 8 bytes) ≡ spell_block items → block_at offset bytes ≡ Ok (block_of items)
unfolding block_at
block_again offset items bytes fits is lies = by_test (list_any holds_entries items) refl
  where
    by_test : (b : Bool) → list_any holds_entries items ≡ b → cond (eqb offset 8) (Ok []) (unsealed fault.EntriesChecksum None (take (offset - 8) (drop 8 bytes))) ≡ Ok (block_of items)
    by_test true h =
        let part : spell_block items ≡ sealed None (block_of items) = ap (λ (b : Bool). block_part b (block_of items)) h in
        let len = ap length part in
        let far : eqb offset 8 ≡ false = ne_eqb _ _ (λ e. omega (arith, length-append (block_of items) (to_be_bytes w32 (crc32_of (block_of items))))) in
        rw (far, lies, part, unsealed_again fault.EntriesChecksum None (block_of items) tt fits) refl
    by_test false h =
        let part : spell_block items ≡ [] = ap (λ (b : Bool). block_part b (block_of items)) h in
        let len = ap length part in
        let near : eqb offset 8 ≡ true = eq-eqb _ _ (omega arith) in
        rw (near, none_block items h) refl

pub agreed_again : (offset : ℕ) (items : List (Item (List ℕ))) → offset ≡ 8 + length (spell_block items) → not (agrees offset (placed 0 items)) ≡ false
unfolding agrees
agreed_again offset items is = by_test (list_any holds_entries items) refl
  where
    by_test : (b : Bool) → list_any holds_entries items ≡ b → not (cond (eqb offset 8) (not (list_any holds_entries (placed 0 items))) (list_any holds_entries (placed 0 items))) ≡ false
    by_test true h =
        let len = ap (λ (b : Bool). length (block_part b (block_of items))) h in
        let far : eqb offset 8 ≡ false = ne_eqb _ _ (λ e. omega (arith, length-append (block_of items) (to_be_bytes w32 (crc32_of (block_of items))))) in
        let held = placed_held 0 items ∙ h in
        rw (far, held) refl
    by_test false h =
        let len = ap (λ (b : Bool). length (block_part b (block_of items))) h in
        let near : eqb offset 8 ≡ true = eq-eqb _ _ (omega arith) in
        let held = placed_held 0 items ∙ h in
        rw (near, held) refl

pub limit_is : (items : List (Item (List ℕ))) → placed_end 0 items ≡ (8 + length (spell_block items)) - 12
limit_is items = placed_end_is 0 items ∙ by_test (list_any holds_entries items) refl
  where
    by_test : (b : Bool) → list_any holds_entries items ≡ b → 0 + length (block_of items) ≡ (8 + length (spell_block items)) - 12
    by_test true h =
        let len = ap (λ (b : Bool). length (block_part b (block_of items))) h in
        omega (arith, length-append (block_of items) (to_be_bytes w32 (crc32_of (block_of items))))
    by_test false h =
        let len = ap (λ (b : Bool). length (block_part b (block_of items))) h in
        let none = ap length (none_block items h) in
        omega arith

-- ---- bytes of parts

pub front_bytes : (a b : List ℕ) → AreBytes (a ++ b) → AreBytes a
front_bytes a b h = subst AreBytes (take_at a b (length a) refl) (AreBytes-take (length a) (a ++ b) h)

pub back_bytes : (a b : List ℕ) → AreBytes (a ++ b) → AreBytes b
back_bytes a b h = subst AreBytes (drop_at a b (length a) refl) (AreBytes-drop (length a) (a ++ b) h)

pub block_bytes : (items : List (Item (List ℕ))) → AreBytes (spell_block items) → AreBytes (block_of items)
block_bytes items h = by_test (list_any holds_entries items) refl
  where
    by_test : (b : Bool) → list_any holds_entries items ≡ b → AreBytes (block_of items)
    by_test true k = front_bytes (block_of items) (to_be_bytes w32 (crc32_of (block_of items))) (subst AreBytes (ap (λ (b : Bool). block_part b (block_of items)) k) h)
    by_test false k = subst AreBytes (sym (none_block items k)) (λ i. omega arith)

item_long : (item : Item ℕ) → 8 ≤ length (spell_item item)
item_long item = omega (arith, length-append (to_be_bytes w64 item.group) (spell_change item.change))

pub count_small : (items : List (Item ℕ)) → length items ≤ length (flat_map spell_item items)
count_small [] = omega arith
count_small (item ∷ items) = omega (arith, count_small items, item_long item, ap length (flat_map-cons spell_item item items), length-append (spell_item item) (flat_map spell_item items))

pub block_place : (items : List (Item (List ℕ))) → (length (spell_block items) ≡ 0) ⊎ (4 ≤ length (spell_block items))
block_place items = by_test (list_any holds_entries items) refl
  where
    by_test : (b : Bool) → list_any holds_entries items ≡ b → (length (spell_block items) ≡ 0) ⊎ (4 ≤ length (spell_block items))
    by_test true k = inr (omega (arith, ap (λ (b : Bool). length (block_part b (block_of items))) k, length-append (block_of items) (to_be_bytes w32 (crc32_of (block_of items)))))
    by_test false k = inl (ap (λ (b : Bool). length (block_part b (block_of items))) k)

-- ---- records

abbrev Read : Type 0
Read = List (Item EntryIndex) × List ℕ × ℕ

pub record_again : (signature : Option ℕ) (items : List (Item (List ℕ))) (rest bytes : List ℕ) → IfSome signature (λ s. s < 2 ^ 32) → AreBytes bytes → AreItems items → bytes ≡ spell_record signature items ++ rest
    → record_at signature bytes ≡ Ok (placed 0 items, block_of items, record_len items)
unfolding record_at record_len spell_record
record_again signature items rest bytes h fits are e =
    let block = spell_block items in
    let body = spell_items (lengths items) in
    let sealed_body = sealed signature body in
    let len = 12 + length block + length body in
    let offset = 8 + length block in
    let p : Parts len offset block sealed_body rest bytes = record {
      whole = e ∙ five (to_be_bytes w32 len) (to_be_bytes w32 offset) block sealed_body rest;
      offset_is = refl;
      len_is = omega (arith, length-append body (to_be_bytes w32 (signed signature (crc32_of body))));
      short = are.short;
      four = omega (arith, length-append body (to_be_bytes w32 (signed signature (crc32_of body))), length-append (to_be_bytes w32 (length (lengths items))) (flat_map spell_item (lengths items)));
      place = block_place items;
    } in
    let behind = back_bytes (head_of len offset) (block ++ (sealed_body ++ rest)) (subst AreBytes p.whole fits) in
    let block_fits = block_bytes items (front_bytes block (sealed_body ++ rest) behind) in
    let body_fits = front_bytes body (to_be_bytes w32 (signed signature (crc32_of body))) (front_bytes sealed_body rest (back_bytes block (sealed_body ++ rest) behind)) in
    let counted : length (lengths items) < 2 ^ 32 = omega (arith, count_small (lengths items), are.short, length-append (to_be_bytes w32 (length (lengths items))) (flat_map spell_item (lengths items))) in
    let r1 = header_again len offset block sealed_body rest bytes p in
    let r2 = unsealed_again fault.ItemsChecksum signature body h body_fits in
    let r3 = body_again items (offset - 12) are.each counted (limit_is items) in
    let r4 = agreed_again offset items refl in
    let r5 = block_again offset items bytes block_fits refl (block_lies len offset block sealed_body rest bytes p) in
    let lies = body_lies len offset block sealed_body rest bytes p in
    rw (r1, lies, r2, r3, r4, r5) refl

pub is_only : (signature : Option ℕ) (bytes : List ℕ) (r : Result Record RecordError) (items : List (Item (List ℕ))) (rest : List ℕ) → IfSome signature (λ s. s < 2 ^ 32) → AreBytes bytes
    → Gives (λ r. (items_of r.batch.items.items, r.entries.now, r.len)) r (record_at signature bytes) → AreItems items → bytes ≡ spell_record signature items ++ rest
    → Finds r items (record_len items)
is_only signature bytes (Ok r) items rest h fits given are e =
    let same : read (placed 0 items, block_of items, record_len items) ≡ read (items_of r.batch.items.items, r.entries.now, r.len) = sym (record_again signature items rest bytes h fits are e) ∙ given in
    let is = read_is _ _ same in
    (ap (λ (x : Read). with_bytes x.1 x.0) (sym is) ∙ placed_bytes items, ap (λ (x : Read). x.2) (sym is), ap (λ (x : Read). x.0) (sym is), ap (λ (x : Read). x.1) (sym is))
  where
    read : Read → Result Read RecordFault
    read x = Ok x

    read_is : (x y : Read) → read x ≡ read y → x ≡ y
    read_is x y e = cc
is_only signature bytes (Err error.Memory) items rest h fits given are e = tt
is_only signature bytes (Err error.TooLong) items rest h fits given are e = given
is_only signature bytes (Err (error.Corruption f)) items rest h fits given are e = absurd (never (sym (record_again signature items rest bytes h fits are e) ∙ given))
  where
    answered : Read → Result Read RecordFault
    answered x = Ok x

    failed : Result Read RecordFault
    failed = Err f

    never : answered (placed 0 items, block_of items, record_len items) ≡ failed → ⊥
    never q = cc
