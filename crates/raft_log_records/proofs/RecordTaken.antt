-- A record that is read was spelled so.
use Rattle.std.proofs.Common.{◌≡◌, ◌⊎◌, inl, inr, ⊎_elim, ℕ, ◌+◌, ◌-◌, ◌^◌, ◌≤◌, Bool, true, false, not, cond, ltb, eqb, List, [], ◌++◌, length, take, drop, Option, None, Result, Ok, Err, refl, sym, ap, subst, ◌∙◌, append_assoc, arith, length-append, length-take, length-drop}
use Rattle.std.specs.Prelude.{◌||◌, IfOk}
use Rattle.std.proofs.Common.{Bor}
use Rattle.std.specs.List.{list_any, AllByRecursion}
use Rattle.std.specs.Int.{w32, from_be_bytes, to_be_bytes}
use Rattle.std.proofs.lemmas.Bool.{ltb-false, eqb-true, eq-eqb, ne_eqb, or_parts, not-false}
use Rattle.std.proofs.lemmas.List.{take-append-drop, drop-drop, take_at}
use Rattle.raft_log_records.specs.declared.error.RecordFault.{RecordFault}
use Rattle.raft_log_records.specs.declared.error.RecordFault.TheVariants as fault
use Rattle.raft_log_records.specs.declared.item.EntryIndex.{EntryIndex}
use Rattle.raft_log_records.specs.Checksum.{crc32_of}
use Rattle.raft_log_records.specs.declared.record.Record.{Record}
use Rattle.raft_log_records.specs.declared.error.RecordError.{RecordError}
use Rattle.raft_log_records.specs.Item.{Item, items_of, entry_bytes, with_bytes, with_lengths}
use Rattle.raft_log_records.specs.Spelling.{holds_entries, block_part, signed, sealed, lengths, spell_block, spell_items, spell_parts, spell_record, record_len, IsItem}
use Rattle.raft_log_records.specs.Batch.{IsLaid, IsRecordAt}
use Rattle.raft_log_records.specs.Reading.{◌>>=◌, Gives, Tells, number_or, unsealed, head_at, header_at, block_at, body_at, agrees, record_at, entries_block_at}
use Rattle.raft_bytes.specs.Bytes.{AreBytes}
use Rattle.raft_bytes.proofs.Bytes.{AreBytes-take, AreBytes-drop, bind_ok, guard_ok, guard_then, Takes-then}
use Rattle.raft_bytes.proofs.Numbers.{number_takes, wide32}
use Rattle.raft_log_records.proofs.Laid.{fronts, block_is, laid_lengths, any_held}
use Rattle.raft_log_records.proofs.Taken.{body_takes}

-- ---- a record of items that lie in a block

laid_block : (block : List ℕ) (items : List (Item EntryIndex)) → IsLaid 0 items (length block) → spell_block (with_bytes block items) ≡ block_part (list_any holds_entries items) block
laid_block block items laid =
    ap (λ (l : List ℕ). block_part (list_any holds_entries (with_bytes block items)) l) (block_is block items laid)
    ∙ ap (λ (b : Bool). block_part b block) (any_held (entry_bytes block) items)

laid_spelled : (signature : Option ℕ) (block : List ℕ) (items : List (Item EntryIndex)) → IsLaid 0 items (length block)
    → spell_record signature (with_bytes block items) ≡ spell_parts signature (block_part (list_any holds_entries items) block) (spell_items (with_lengths items))
unfolding spell_record
laid_spelled signature block items laid =
    ap (λ (b : List ℕ). spell_parts signature b (spell_items (lengths (with_bytes block items)))) (laid_block block items laid)
    ∙ ap (λ (l : List (Item ℕ)). spell_parts signature (block_part (list_any holds_entries items) block) (spell_items l)) (laid_lengths block 0 items (length block) laid (omega arith))

laid_len : (block : List ℕ) (items : List (Item EntryIndex)) → IsLaid 0 items (length block) → record_len (with_bytes block items) ≡ 12 + length (block_part (list_any holds_entries items) block) + length (spell_items (with_lengths items))
unfolding record_len
laid_len block items laid =
    let a = ap length (laid_block block items laid) in
    let b = ap (λ (l : List (Item ℕ)). length (spell_items l)) (laid_lengths block 0 items (length block) laid (omega arith)) in
    omega arith

-- ---- checksums

or_else : {A : Type 0} (b : Bool) (d : RecordFault) (x y : A) → cond b (Ok x) (Err d) ≡ Ok y → (b ≡ true) × (x ≡ y)
or_else true d x y e = (refl, cc)
or_else false d x y e = absurd cc

pub unsealed_takes : (wrong : RecordFault) (signature : Option ℕ) (bytes body : List ℕ) → AreBytes bytes → 4 ≤ length bytes → unsealed wrong signature bytes ≡ Ok body → (bytes ≡ sealed signature body) × AreBytes body
unfolding unsealed
unsealed_takes wrong signature bytes body fits long e =
    let n = length bytes - 4 in
    let g = or_else (eqb (from_be_bytes w32 (drop n bytes)) (signed signature (crc32_of (take n bytes)))) wrong (take n bytes) body e in
    let tail : length (drop n bytes) ≡ 4 = omega (arith, length-drop n bytes) in
    let back : to_be_bytes w32 (from_be_bytes w32 (drop n bytes)) ≡ drop n bytes = wide32.back (drop n bytes) tail (AreBytes-drop n bytes fits) in
    let sum : from_be_bytes w32 (drop n bytes) ≡ signed signature (crc32_of (take n bytes)) = eqb-true _ _ g.0 in
    let whole : bytes ≡ sealed signature (take n bytes) = sym (take-append-drop n bytes) ∙ ap (λ (l : List ℕ). take n bytes ++ l) (sym back ∙ ap (λ (s : ℕ). to_be_bytes w32 s) sum) in
    subst (λ (b : List ℕ). (bytes ≡ sealed signature b) × AreBytes b) g.1 (whole, AreBytes-take n bytes fits)

-- ---- the header

pub record HeaderTaken (bytes : List ℕ) (len offset : ℕ) : Type 0 where
  pub front : take 8 bytes ≡ to_be_bytes w32 len ++ to_be_bytes w32 offset
  pub short : len ≤ 33554432
  pub within : len ≤ length bytes
  pub room : offset + 8 ≤ len
  pub block : (offset ≡ 8) ⊎ (12 ≤ offset)

or_true : (a b : Bool) → (a || not b) ≡ true → (a ≡ true) ⊎ (b ≡ false)
or_true true b h = inl refl
or_true false true h = absurd cc
or_true false false h = inr refl

abbrev pub tests : ℕ → ℕ → Result (ℕ × ℕ) RecordFault
tests len offset =
    cond (ltb len 16 || ltb 33554432 len) (Err fault.BadLength)
    (cond (ltb len (offset + 8) || not (eqb offset 8 || not (ltb offset 12))) (Err fault.BadOffset) (Ok (len, offset)))

-- a header whose bytes may hold less than the record
pub record HeadTaken (bytes : List ℕ) (len offset : ℕ) : Type 0 where
  pub front : take 8 bytes ≡ to_be_bytes w32 len ++ to_be_bytes w32 offset
  pub short : len ≤ 33554432
  pub room : offset + 8 ≤ len
  pub block : (offset ≡ 8) ⊎ (12 ≤ offset)

-- what the tests of a length and an offset let pass
pub record TestsOk (len offset : ℕ) (x : ℕ × ℕ) : Type 0 where
  pub told : (len, offset) ≡ x
  pub short : x.0 ≤ 33554432
  pub room : x.1 + 8 ≤ x.0
  pub block : (x.1 ≡ 8) ⊎ (12 ≤ x.1)
  pub least : 8 ≤ x.1

pub tests_ok : (len offset : ℕ) (x : ℕ × ℕ) → tests len offset ≡ Ok x → TestsOk len offset x
tests_ok len offset x e =
    let g = guard_then (ltb len 16 || ltb 33554432 len) fault.BadLength (cond (ltb len (offset + 8) || not (eqb offset 8 || not (ltb offset 12))) (Err fault.BadOffset) (Ok (len, offset))) x e in
    let k = guard_ok (ltb len (offset + 8) || not (eqb offset 8 || not (ltb offset 12))) fault.BadOffset (len, offset) x g.1 in
    let lens = or_parts (ltb len 16) (ltb 33554432 len) g.0 in
    let places = or_parts (ltb len (offset + 8)) (not (eqb offset 8 || not (ltb offset 12))) k.0 in
    let place : (offset ≡ 8) ⊎ (12 ≤ offset) = ⊎_elim (λ is. inl (eqb-true _ _ is)) (λ far. inr (ltb-false _ _ far)) (or_true (eqb offset 8) (ltb offset 12) (not-false _ places.1)) in
    let made : TestsOk len offset (len, offset) = record { told = refl; short = ltb-false _ _ lens.1; room = ltb-false _ _ places.0; block = place; least = at_least place } in
    subst (λ (y : ℕ × ℕ). TestsOk len offset y) k.1 made
  where
    at_least : (offset ≡ 8) ⊎ (12 ≤ offset) → 8 ≤ offset
    at_least (inl is) = omega arith
    at_least (inr far) = omega arith

head_takes : (bytes : List ℕ) (x : ℕ × ℕ) → AreBytes bytes → head_at bytes ≡ Ok x → HeadTaken bytes x.0 x.1
unfolding head_at
head_takes bytes x fits e =
    let a = bind_ok (number_or fault.CutShort w32 bytes) (λ len. cond (eqb len.0 0) (Err fault.BadLength) (number_or fault.CutShort w32 len.1 >>= λ offset. tests len.0 offset.0)) x e in
    let z = guard_then (eqb a.0.0 0) fault.BadLength (number_or fault.CutShort w32 a.0.1 >>= λ offset. tests a.0.0 offset.0) x a.2 in
    let b = bind_ok (number_or fault.CutShort w32 a.0.1) (λ offset. tests a.0.0 offset.0) x z.1 in
    let len = a.0.0 in
    let offset = b.0.0 in
    let t = number_takes fault.CutShort w32 (2 ^ 32) wide32 bytes len a.0.1 fits a.1 in
    let u = number_takes fault.CutShort w32 (2 ^ 32) wide32 a.0.1 offset b.0.1 t.0.rest_fits b.1 in
    let k = tests_ok len offset x b.2 in
    let both = (Takes-then bytes (to_be_bytes w32 len) a.0.1 (to_be_bytes w32 offset) b.0.1 t.0 u.0).parts in
    let front = ap (λ (l : List ℕ). take 8 l) both ∙ front_eight (to_be_bytes w32 len) (to_be_bytes w32 offset) b.0.1 refl refl in
    record {
      front = subst (λ (y : ℕ × ℕ). take 8 bytes ≡ to_be_bytes w32 y.0 ++ to_be_bytes w32 y.1) k.told front;
      short = k.short;
      room = k.room;
      block = k.block;
    }
  where
    front_eight : (a b rest : List ℕ) → length a ≡ 4 → length b ≡ 4 → take 8 ((a ++ b) ++ rest) ≡ a ++ b
    front_eight a b rest p q = take_at (a ++ b) rest 8 (omega (arith, length-append a b))

pub header_takes : (bytes : List ℕ) (x : ℕ × ℕ) → AreBytes bytes → header_at bytes ≡ Ok x → HeaderTaken bytes x.0 x.1
unfolding header_at
header_takes bytes x fits e =
    let a = bind_ok (head_at bytes) (λ head. cond (ltb (length bytes) head.0) (Err fault.CutShort) (Ok head)) x e in
    let g = guard_ok (ltb (length bytes) a.0.0) fault.CutShort a.0 x a.2 in
    let t = head_takes bytes a.0 fits a.1 in
    subst (λ (y : ℕ × ℕ). HeaderTaken bytes y.0 y.1) g.1 (record {
      front = t.front;
      short = t.short;
      within = ltb-false _ _ g.0;
      room = t.room;
      block = t.block;
    })

-- ---- the block of entries

pub record BlockTaken (bytes block : List ℕ) (offset : ℕ) (holds : Bool) : Type 0 where
  pub part : block_part holds block ≡ take (offset - 8) (drop 8 bytes)
  pub len : length block ≡ offset - 12

-- an answer of the test for the block
plain_part : (bytes block : List ℕ) (offset : ℕ) (holds : Bool) → offset ≡ 8 → holds ≡ false → [] ≡ block → BlockTaken bytes block offset holds
plain_part bytes block offset holds is none e =
    let k : offset - 8 ≡ 0 = omega arith in
    record {
      part = ap (λ (b : Bool). block_part b block) none ∙ sym (ap (λ (n : ℕ). take n (drop 8 bytes)) k);
      len = omega (arith, ap length e);
    }

held_part : (bytes block : List ℕ) (offset : ℕ) (holds : Bool) → AreBytes bytes → offset ≤ length bytes → 12 ≤ offset → holds ≡ true → unsealed fault.EntriesChecksum None (take (offset - 8) (drop 8 bytes)) ≡ Ok block → BlockTaken bytes block offset holds
held_part bytes block offset holds fits within far some e =
    let part = take (offset - 8) (drop 8 bytes) in
    let long : length part ≡ offset - 8 = omega (arith, length-take (offset - 8) (drop 8 bytes), length-drop 8 bytes) in
    let t = unsealed_takes fault.EntriesChecksum None part block (AreBytes-take (offset - 8) (drop 8 bytes) (AreBytes-drop 8 bytes fits)) (omega arith) e in
    let more = length-append block (to_be_bytes w32 (crc32_of block)) in
    record {
      part = ap (λ (b : Bool). block_part b block) some ∙ sym t.0;
      len = omega (arith, ap length t.0);
    }

agrees_at : (b h : Bool) → not (cond b (not h) h) ≡ false → ((b ≡ true) → h ≡ false) × ((b ≡ false) → h ≡ true)
agrees_at true true e = absurd cc
agrees_at true false e = (λ _. refl, λ f. absurd cc)
agrees_at false true e = (λ t. absurd cc, λ _. refl)
agrees_at false false e = absurd cc

pub block_takes : (bytes block : List ℕ) (offset : ℕ) (items : List (Item EntryIndex)) → AreBytes bytes → offset ≤ length bytes → (offset ≡ 8) ⊎ (12 ≤ offset) → not (agrees offset items) ≡ false → block_at offset bytes ≡ Ok block
    → BlockTaken bytes block offset (list_any holds_entries items)
unfolding block_at agrees
block_takes bytes block offset items fits within place agreed e =
    let h = agrees_at (eqb offset 8) (list_any holds_entries items) agreed in
    elim place [
      | inl is ↦
          let t : eqb offset 8 ≡ true = eq-eqb offset 8 is in
          plain_part bytes block offset (list_any holds_entries items) is (h.0 t) (at_eight (eqb offset 8) block (unsealed fault.EntriesChecksum None (take (offset - 8) (drop 8 bytes))) t e)
      | inr far ↦
          let t : eqb offset 8 ≡ false = ne_eqb offset 8 (λ q. omega arith) in
          held_part bytes block offset (list_any holds_entries items) fits within far (h.1 t) (at_twelve (eqb offset 8) block (unsealed fault.EntriesChecksum None (take (offset - 8) (drop 8 bytes))) t e)
    ]
  where
    at_eight : (b : Bool) (block : List ℕ) (r : Result (List ℕ) RecordFault) → b ≡ true → cond b (Ok []) r ≡ Ok block → [] ≡ block
    at_eight true block r t e = cc
    at_eight false block r t e = absurd cc

    at_twelve : (b : Bool) (block : List ℕ) (r : Result (List ℕ) RecordFault) → b ≡ false → cond b (Ok []) r ≡ Ok block → r ≡ Ok block
    at_twelve true block r t e = absurd cc
    at_twelve false block r t e = e

abbrev Read : Type 0
Read = List (Item EntryIndex) × List ℕ × ℕ

abbrev answered : Read → Result Read RecordFault
answered x = Ok x

-- ---- records

-- the parts of a record, as they lie in the bytes
parts_of : (bytes : List ℕ) (len offset : ℕ) → 8 ≤ offset → offset ≤ len → take len bytes ≡ take 8 bytes ++ (take (offset - 8) (drop 8 bytes) ++ take (len - offset) (drop offset bytes))
parts_of bytes len offset a b =
    let j : 8 + (len - 8) ≡ len = omega arith in
    let k : (offset - 8) + (len - offset) ≡ len - 8 = omega arith in
    let m : 8 + (offset - 8) ≡ offset = omega arith in
    let first = fronts 8 (len - 8) bytes in
    let second = fronts (offset - 8) (len - offset) (drop 8 bytes) in
    ap (λ (n : ℕ). take n bytes) (sym j) ∙ sym first
    ∙ ap (λ (n : ℕ). take 8 bytes ++ take n (drop 8 bytes)) (sym k)
    ∙ ap (λ (l : List ℕ). take 8 bytes ++ l) (sym second)
    ∙ ap (λ (l : List ℕ). take 8 bytes ++ (take (offset - 8) (drop 8 bytes) ++ take (len - offset) l)) (drop-drop (offset - 8) 8 bytes ∙ ap (λ (n : ℕ). drop n bytes) m)

pub record_takes : (signature : Option ℕ) (bytes : List ℕ) (x : Read) → AreBytes bytes → record_at signature bytes ≡ Ok x → IsRecordAt signature bytes (with_bytes x.1 x.0) x.2
unfolding record_at record_len
record_takes signature bytes x fits e =
    let h = bind_ok (header_at bytes) (λ header. unsealed fault.ItemsChecksum signature (take (header.0 - header.1) (drop header.1 bytes)) >>= λ body. body_at (header.1 - 12) body >>= λ items.
    cond (not (agrees header.1 items)) (Err fault.EntriesLength) (block_at header.1 bytes >>= λ block. Ok (items, block, header.0))) x e in
    let len = h.0.0 in
    let offset = h.0.1 in
    let b = bind_ok (unsealed fault.ItemsChecksum signature (take (len - offset) (drop offset bytes))) (λ body. body_at (offset - 12) body >>= λ items.
    cond (not (agrees offset items)) (Err fault.EntriesLength) (block_at offset bytes >>= λ block. Ok (items, block, len))) x h.2 in
    let i = bind_ok (body_at (offset - 12) b.0) (λ items. cond (not (agrees offset items)) (Err fault.EntriesLength) (block_at offset bytes >>= λ block. Ok (items, block, len))) x b.2 in
    let g = guard_then (not (agrees offset i.0)) fault.EntriesLength (block_at offset bytes >>= λ block. Ok (i.0, block, len)) x i.2 in
    let k = bind_ok (block_at offset bytes) (λ block. Ok (i.0, block, len)) x g.1 in
    let header = header_takes bytes h.0 fits h.1 in
    let eight : 8 ≤ offset = least offset header.block in
    let sealed_part = take (len - offset) (drop offset bytes) in
    let sealed_len : length sealed_part ≡ len - offset = omega (arith, length-take (len - offset) (drop offset bytes), length-drop offset bytes, header.within, header.room) in
    let body = unsealed_takes fault.ItemsChecksum signature sealed_part b.0 (AreBytes-take (len - offset) (drop offset bytes) (AreBytes-drop offset bytes fits)) (omega (arith, header.room)) b.1 in
    let taken = body_takes (offset - 12) b.0 i.0 body.1 i.1 in
    let block = block_takes bytes k.0 offset i.0 fits (omega (arith, header.within, header.room)) header.block g.0 k.1 in
    let laid : IsLaid 0 i.0 (length k.0) = subst (λ (n : ℕ). IsLaid 0 i.0 n) (sym block.len) taken.laid in
    let holds = list_any holds_entries i.0 in
    let spelled_body = spell_items (with_lengths i.0) in
    let part_len : length (block_part holds k.0) ≡ offset - 8 = omega (arith, ap length block.part, length-take (offset - 8) (drop 8 bytes), length-drop 8 bytes, header.within, header.room) in
    let body_len : length b.0 + 4 ≡ len - offset = omega (arith, ap length body.0, length-append b.0 (to_be_bytes w32 (signed signature (crc32_of b.0))), sealed_len) in
    let same_len : length b.0 ≡ length spelled_body = ap length taken.spelled in
    let len_is : len ≡ 12 + length (block_part holds k.0) + length spelled_body = omega (arith, header.room) in
    let offset_is : offset ≡ 8 + length (block_part holds k.0) = omega arith in
    let whole : take len bytes ≡ spell_parts signature (block_part holds k.0) spelled_body =
    parts_of bytes len offset eight (omega (arith, header.room))
    ∙ ap (λ (l : List ℕ). l ++ (take (offset - 8) (drop 8 bytes) ++ sealed_part)) header.front
    ∙ ap (λ (l : List ℕ). (to_be_bytes w32 len ++ to_be_bytes w32 offset) ++ (l ++ sealed_part)) (sym block.part)
    ∙ ap (λ (l : List ℕ). (to_be_bytes w32 len ++ to_be_bytes w32 offset) ++ (block_part holds k.0 ++ l)) (body.0 ∙ ap (sealed signature) taken.spelled)
    ∙ append_assoc (to_be_bytes w32 len) (to_be_bytes w32 offset) (block_part holds k.0 ++ sealed signature spelled_body)
    ∙ ap (λ (n : ℕ). to_be_bytes w32 n ++ (to_be_bytes w32 offset ++ (block_part holds k.0 ++ sealed signature spelled_body))) len_is
    ∙ ap (λ (n : ℕ). to_be_bytes w32 (12 + length (block_part holds k.0) + length spelled_body) ++ (to_be_bytes w32 n ++ (block_part holds k.0 ++ sealed signature spelled_body))) offset_is in
    let whole_len : len ≡ record_len (with_bytes k.0 i.0) = len_is ∙ sym (laid_len k.0 i.0 laid) in
    let each : AllByRecursion IsItem (lengths (with_bytes k.0 i.0)) = subst (λ (l : List (Item ℕ)). AllByRecursion IsItem l) (sym (laid_lengths k.0 0 i.0 (length k.0) laid (omega arith))) taken.each in
    subst (λ (y : Read). IsRecordAt signature bytes (with_bytes y.1 y.0) y.2) (done_is (i.0, k.0, len) x k.2) (record {
      each = record { each = each; short = omega (arith, header.short) };
      spelled = whole ∙ sym (laid_spelled signature k.0 i.0 laid);
      whole = whole_len;
      within = header.within;
    })
  where
    least : (offset : ℕ) → (offset ≡ 8) ⊎ (12 ≤ offset) → 8 ≤ offset
    least offset (inl is) = omega arith
    least offset (inr far) = omega arith

    done_is : (x y : Read) → answered x ≡ answered y → x ≡ y
    done_is x y e = cc

pub is_found : (signature : Option ℕ) (bytes : List ℕ) (r : Result Record RecordError) → AreBytes bytes → Gives (λ r. (items_of r.batch.items.items, r.entries.now, r.len)) r (record_at signature bytes)
    → IfOk r (λ r. IsRecordAt signature bytes (with_bytes r.entries.now (items_of r.batch.items.items)) r.len)
is_found signature bytes (Ok r) fits given = record_takes signature bytes (items_of r.batch.items.items, r.entries.now, r.len) fits given
is_found signature bytes (Err e) fits given = tt

pub block_found : (bytes : List ℕ) (r : Result (Bor (List ℕ)) RecordFault) → AreBytes bytes → Tells (λ x. x.now) r (entries_block_at bytes) → IfOk r (λ entries. bytes ≡ sealed None entries.now)
unfolding entries_block_at
block_found bytes (Ok x) fits given =
    let g = guard_then (ltb (length bytes) 4) fault.CutShort (unsealed fault.EntriesChecksum None bytes) x.now given in
    (unsealed_takes fault.EntriesChecksum None bytes x.now fits (ltb-false _ _ g.0) g.1).0
block_found bytes (Err e) fits given = tt
