-- The block of entries stands behind the first eight bytes.
use Rattle.std.proofs.Common.{◌≡◌, ℕ, ◌+◌, ◌-◌, Bool, true, false, not, cond, ltb, List, ◌++◌, length, take, drop, Option, Some, None, Result, Ok, Err, refl, sym, ap, subst, ◌∙◌, append_assoc, arith, length-append, length-take, length-drop}
use Rattle.std.proofs.Common.{Bor}
use Rattle.std.specs.Prelude.{MatchResult}
use Rattle.std.specs.List.{list_any}
use Rattle.std.specs.Int.{w32, to_be_bytes}
use Rattle.std.proofs.lemmas.Bool.{le-ltb}
use Rattle.std.proofs.lemmas.List.{take_at, drop_at}
use Rattle.raft_log_records.specs.declared.block.EntriesBlock.{EntriesBlock}
use Rattle.raft_log_records.specs.declared.error.RecordFault.{RecordFault}
use Rattle.raft_log_records.specs.declared.error.RecordFault.TheVariants as fault
use Rattle.raft_log_records.specs.declared.item.EntryIndex.{EntryIndex}
use Rattle.raft_log_records.specs.Checksum.{crc32_of}
use Rattle.raft_log_records.specs.Item.{Item}
use Rattle.raft_log_records.specs.Spelling.{holds_entries, block_of, block_part, sealed, lengths, spell_block, spell_items, spell_record}
use Rattle.raft_log_records.specs.Block.{bytes_at, StandsIn}
use Rattle.raft_log_records.specs.Reading.{◌>>=◌, Tells, unsealed, header_at, block_at, body_at, agrees, record_at, entries_block_at}
use Rattle.raft_bytes.specs.Bytes.{AreBytes}
use Rattle.raft_bytes.proofs.Bytes.{bind_ok, guard_then, ok_is}
use Rattle.raft_log_records.proofs.RecordTaken.{header_takes, block_takes}
use Rattle.raft_log_records.proofs.RecordAgain.{front_bytes, unsealed_again}
use Rattle.raft_log_records.proofs.Fields.{eight}

length-sealed : (block : List ℕ) → length (sealed None block) ≡ length block + 4
length-sealed block = length-append block (to_be_bytes w32 (crc32_of block))

-- ---- in a batch's record

batch_block : (signature : Option ℕ) (items : List (Item (List ℕ))) (len : ℕ) → list_any holds_entries items ≡ true → len ≡ length (block_of items) + 4 → bytes_at 8 len (spell_record signature items) ≡ sealed None (block_of items)
unfolding spell_record
batch_block signature items len h is =
    let part : spell_block items ≡ sealed None (block_of items) = ap (λ (b : Bool). block_part b (block_of items)) h in
    let body = spell_items (lengths items) in
    let one = to_be_bytes w32 (12 + length (spell_block items) + length body) in
    let two = to_be_bytes w32 (8 + length (spell_block items)) in
    let rest = spell_block items ++ sealed signature body in
    let long : length (spell_block items) ≡ len = ap length part ∙ length-sealed (block_of items) ∙ sym is in
    ap (λ (l : List ℕ). take len (drop 8 l)) (sym (append_assoc one two rest))
    ∙ ap (λ (l : List ℕ). take len l) (drop_at (one ++ two) rest 8 (eight one two refl refl))
    ∙ take_at (spell_block items) (sealed signature body) len long ∙ part

pub stands_in_batch : (signature : Option ℕ) (items : List (Item (List ℕ))) (b : EntriesBlock) → list_any holds_entries items ≡ true → b.offset ≡ 8 → b.len ≡ length (block_of items) + 4
    → StandsIn (spell_record signature items) items (block_of items) (Some b)
stands_in_batch signature items b h o l = (h, o, ap (λ (n : ℕ). bytes_at n b.len (spell_record signature items)) o ∙ batch_block signature items b.len h l)

-- ---- in the bytes that a record was read from

abbrev Read : Type 0
Read = List (Item EntryIndex) × List ℕ × ℕ

held_part : (holds : Bool) (block part : List ℕ) → holds ≡ true → block_part holds block ≡ part → sealed None block ≡ part
held_part true block part h e = e
held_part false block part h e = absurd cc

read_block : (signature : Option ℕ) (bytes : List ℕ) (x : Read) → AreBytes bytes → record_at signature bytes ≡ Ok x → list_any holds_entries x.0 ≡ true → bytes_at 8 (length x.1 + 4) bytes ≡ sealed None x.1
unfolding record_at
read_block signature bytes x fits e held =
    let h = bind_ok (header_at bytes) (λ header. unsealed fault.ItemsChecksum signature (take (header.0 - header.1) (drop header.1 bytes)) >>= λ body. body_at (header.1 - 12) body >>= λ items.
    cond (not (agrees header.1 items)) (Err fault.EntriesLength) (block_at header.1 bytes >>= λ block. Ok (items, block, header.0))) x e in
    let offset = h.0.1 in
    let b = bind_ok (unsealed fault.ItemsChecksum signature (take (h.0.0 - offset) (drop offset bytes))) (λ body. body_at (offset - 12) body >>= λ items. cond (not (agrees offset items)) (Err fault.EntriesLength) (block_at offset bytes >>= λ block. Ok (items, block, h.0.0))) x h.2 in
    let i = bind_ok (body_at (offset - 12) b.0) (λ items. cond (not (agrees offset items)) (Err fault.EntriesLength) (block_at offset bytes >>= λ block. Ok (items, block, h.0.0))) x b.2 in
    let j = guard_then (not (agrees offset i.0)) fault.EntriesLength (block_at offset bytes >>= λ block. Ok (i.0, block, h.0.0)) x i.2 in
    let k = bind_ok (block_at offset bytes) (λ block. Ok (i.0, block, h.0.0)) x j.1 in
    let made : Read = (i.0, k.0, h.0.0) in
    let is : made ≡ x = ok_is made x k.2 in
    let header = header_takes bytes h.0 fits h.1 in
    let block = block_takes bytes k.0 offset i.0 fits (omega (arith, header.within, header.room)) header.block j.0 k.1 in
    let some : list_any holds_entries i.0 ≡ true = ap (λ (y : Read). list_any holds_entries y.0) is ∙ held in
    let part = held_part (list_any holds_entries i.0) k.0 (take (offset - 8) (drop 8 bytes)) some block.part in
    let long : offset - 8 ≡ length k.0 + 4 = omega (arith, ap length part, length-sealed k.0, length-take (offset - 8) (drop 8 bytes), length-drop 8 bytes, header.within, header.room) in
    let stands : bytes_at 8 (length k.0 + 4) bytes ≡ sealed None k.0 = ap (λ (n : ℕ). take n (drop 8 bytes)) (sym long) ∙ sym part in
    subst (λ (y : Read). bytes_at 8 (length y.1 + 4) bytes ≡ sealed None y.1) is stands

pub stands_in_bytes : (signature : Option ℕ) (bytes : List ℕ) (items : List (Item EntryIndex)) (entries : List ℕ) (len : ℕ) (b : EntriesBlock) → AreBytes bytes → record_at signature bytes ≡ Ok (items, entries, len)
    → list_any holds_entries items ≡ true → b.offset ≡ 8 → b.len ≡ length entries + 4 → StandsIn bytes items entries (Some b)
stands_in_bytes signature bytes items entries len b fits e held o l =
    (held, o, ap (λ (n : ℕ). bytes_at n b.len bytes) o ∙ ap (λ (n : ℕ). bytes_at 8 n bytes) l ∙ read_block signature bytes (items, entries, len) fits e held)

-- ---- a block that is read alone

pub block_only : (bytes : List ℕ) (r : Result (Bor (List ℕ)) RecordFault) (entries : List ℕ) → AreBytes bytes → Tells (λ x. x.now) r (entries_block_at bytes) → bytes ≡ sealed None entries → MatchResult r (λ x. x.now ≡ entries) (λ _. ⊥)
unfolding entries_block_at
block_only bytes r entries fits given e = by_result r given
  where
    answered : List ℕ → Result (List ℕ) RecordFault
    answered x = Ok x

    failed : RecordFault → Result (List ℕ) RecordFault
    failed f = Err f

    found : cond (ltb (length bytes) 4) (Err fault.CutShort) (unsealed fault.EntriesChecksum None bytes) ≡ answered entries
    found =
        let long : ltb (length bytes) 4 ≡ false = le-ltb _ _ (omega (arith, ap length e, length-sealed entries)) in
        let fit : AreBytes entries = front_bytes entries (to_be_bytes w32 (crc32_of entries)) (subst AreBytes e fits) in
        rw (long, e, unsealed_again fault.EntriesChecksum None entries tt fit) refl

    same : (x y : List ℕ) → answered x ≡ answered y → x ≡ y
    same x y q = cc

    never : (f : RecordFault) → answered entries ≡ failed f → ⊥
    never f q = cc

    by_result : (r : Result (Bor (List ℕ)) RecordFault) → Tells (λ x. x.now) r (entries_block_at bytes) → MatchResult r (λ x. x.now ≡ entries) (λ _. ⊥)
    by_result (Ok x) given = same x.now entries (sym given ∙ found)
    by_result (Err f) given = never f (sym found ∙ given)
