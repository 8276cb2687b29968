-- The record at a place of a file, by the bytes that the buffer holds.
use Rattle.std.proofs.Common.{◌≡◌, inl, inr, ℕ, zero, suc, ◌+◌, ◌-◌, ◌<◌, ◌≤◌, ◌^◌, Bool, true, false, List, ◌++◌, length, take, drop, Option, Some, None, Result, Ok, Err, sym, ap, ◌∙◌, arith, length-append, length-drop, length-take}
use Rattle.std.specs.Prelude.{replicate}
use Rattle.std.proofs.lemmas.List.{length-replicate}
use Rattle.raft_bytes.proofs.Bytes.{AreBytes-joined, AreBytes-take}
use Rattle.raft_log_records.specs.declared.error.RecordFault.TheVariants as fault
use Rattle.raft_log_records.proofs.Locality.{answers_stay, records_have_their_length}
use Rattle.std.specs.List.{list_any}
use Rattle.raft_log_records.specs.declared.item.EntryIndex.{EntryIndex}
use Rattle.raft_log_records.specs.declared.block.EntriesBlock.{EntriesBlock}
use Rattle.raft_log_records.specs.declared.error.RecordFault.{RecordFault}
use Rattle.raft_log_records.specs.Item.{Item}
use Rattle.raft_log_records.specs.Block.{StandsIn, bytes_at}
use Rattle.raft_log_records.specs.Spelling.{sealed, holds_entries}
use Rattle.raft_log_records.specs.Reading.{AreBytes, len_at, record_at}
use Rattle.raft_log_file.specs.Reader.{HoldsBytes, Front, block_len}
use Rattle.raft_log_file.proofs.WalkLemmas.{Read, fault_told, len_front, record_front, record_sized}

-- what eight bytes tell of the length is told of all that follow
pub here_told : (bytes front buffer : List ℕ) (b v u : ℕ) (r : Result ℕ RecordFault) → v ≡ u → Front 8 bytes buffer b v → front ≡ take 8 (drop (v - b) buffer) → r ≡ len_at front → len_at (drop u bytes) ≡ r
here_told bytes front buffer b v u r same held is told =
    sym (len_front (drop u bytes)) ∙ ap (λ (l : List ℕ). len_at l) (sym (is ∙ held ∙ ap (λ n. take 8 (drop n bytes)) same)) ∙ sym told

pub here_len : (bytes front buffer : List ℕ) (b v u len n : ℕ) → v ≡ u → Front 8 bytes buffer b v → front ≡ take 8 (drop (v - b) buffer) → (let r : Result ℕ RecordFault = Ok len in r ≡ len_at front) → n ≡ len → len_at (drop u bytes) ≡ Ok n
here_len bytes front buffer b v u len n same held is told cast = here_told bytes front buffer b v u (Ok len) same held is told ∙ ap (λ m. Ok m) (sym cast)

pub here_fault : (signature : Option ℕ) (bytes front buffer : List ℕ) (b v u : ℕ) (f : RecordFault) → v ≡ u → Front 8 bytes buffer b v → front ≡ take 8 (drop (v - b) buffer)
    → (let r : Result ℕ RecordFault = Err f in r ≡ len_at front) → record_at signature (drop u bytes) ≡ Err f
here_fault signature bytes front buffer b v u f same held is told = fault_told signature (drop u bytes) f (here_told bytes front buffer b v u (Err f) same held is told)

-- as many bytes as the length says tell the record
pub here_record : (signature : Option ℕ) (bytes front buffer : List ℕ) (b v u n : ℕ) (r : Result Read RecordFault) → v ≡ u → Front n bytes buffer b v → front ≡ take n (drop (v - b) buffer)
    → len_at (drop u bytes) ≡ Ok n → 8 ≤ n → record_at signature front ≡ r → record_at signature (drop u bytes) ≡ r
here_record signature bytes front buffer b v u n r same held is told long read =
    sym (record_front signature (drop u bytes) n told long)
    ∙ ap (record_at signature) (sym (is ∙ held ∙ ap (λ m. take n (drop m bytes)) same)) ∙ read

-- the bytes that are held lie in the file
pub here_fits : (bytes front buffer : List ℕ) (b v n size : ℕ) → HoldsBytes bytes buffer b v size → size < 2 ^ 64 → Front n bytes buffer b v → front ≡ take n (drop (v - b) buffer) → v + length front < 2 ^ 64
here_fits bytes front buffer b v n size h room held is =
    omega (arith, ap length (is ∙ held), length-take n (drop v bytes), length-drop v bytes, h.valid, h.size_is, room)

-- ---- the block of entries

abbrev Told : List (Item EntryIndex) → List ℕ → ℕ → Option EntriesBlock → Type 0
Told items entries len o = (signature : Option ℕ) (bytes : List ℕ) → AreBytes bytes → record_at signature bytes ≡ Ok (items, entries, len) → StandsIn bytes items entries o

block_stands : (items : List (Item EntryIndex)) (entries : List ℕ) (len n : ℕ) (o : Option EntriesBlock) → n ≡ block_len o → Told items entries len o
    → (signature : Option ℕ) (bytes : List ℕ) → AreBytes bytes → record_at signature bytes ≡ Ok (items, entries, len) → list_any holds_entries items ≡ true → bytes_at 8 n bytes ≡ sealed None entries
block_stands items entries len n (Some block) is told signature bytes fits read any =
    let t = told signature bytes fits read in
    ap (λ m. bytes_at 8 m bytes) is ∙ ap (λ m. bytes_at m block.len bytes) (sym t.1) ∙ t.2
block_stands items entries len n None is told signature bytes fits read any =
    let none = told signature bytes fits read in
    absurd (clash (list_any holds_entries items) any none)
  where
    clash : (b : Bool) → b ≡ true → b ≡ false → ⊥
    clash b is not_so = let e : true ≡ false = sym is ∙ not_so in cc

block_none : (items : List (Item EntryIndex)) (entries : List ℕ) (len n : ℕ) (o : Option EntriesBlock) → n ≡ block_len o → Told items entries len o
    → (signature : Option ℕ) (bytes : List ℕ) → AreBytes bytes → record_at signature bytes ≡ Ok (items, entries, len) → list_any holds_entries items ≡ false → n ≡ 0
block_none items entries len n (Some block) is told signature bytes fits read none =
    let t = told signature bytes fits read in
    absurd (clash (list_any holds_entries items) t.0 none)
  where
    clash : (b : Bool) → b ≡ true → b ≡ false → ⊥
    clash b is not_so = let e : true ≡ false = sym is ∙ not_so in cc
block_none items entries len n None is told signature bytes fits read none = is

zeros_fit : (n : ℕ) → AreBytes (replicate n 0)
zeros_fit zero i = omega arith
zeros_fit (suc n) zero = omega arith
zeros_fit (suc n) (suc i) = zeros_fit n i

-- a block that stands there whatever follows the record lies within the record
block_within : (items : List (Item EntryIndex)) (entries : List ℕ) (len n : ℕ) (o : Option EntriesBlock) (signature : Option ℕ) (bytes : List ℕ) → n ≡ block_len o → Told items entries len o
    → AreBytes bytes → record_at signature bytes ≡ Ok (items, entries, len) → n + 8 ≤ len
block_within items entries len n None signature bytes is told fits read = omega (arith, is, (record_sized signature bytes (items, entries, len) read).least)
block_within items entries len n (Some block) signature bytes is told fits read =
    let sized = record_sized signature bytes (items, entries, len) read in
    let front : List ℕ = take len bytes in
    let again : record_at signature front ≡ Ok (items, entries, len) = record_front signature bytes len (records_have_their_length signature bytes (items, entries, len) read) sized.least ∙ read in
    let zeros : List ℕ = replicate block.len 0 in
    let few : AreBytes front = AreBytes-take len bytes fits in
    let t = told signature front few again in
    let w = told signature (front ++ zeros) (AreBytes-joined front zeros few (zeros_fit block.len)) (stays front zeros again) in
    omega (
      arith,
      is,
      ap length (t.2 ∙ sym w.2),
      t.1,
      sized.least,
      sized.within,
      length-take len bytes,
      length-take block.len (drop block.offset front),
      length-drop block.offset front,
      length-take block.len (drop block.offset (front ++ zeros)),
      length-drop block.offset (front ++ zeros),
      length-append front zeros,
      length-replicate {A = ℕ} block.len 0,
    )
  where
    never : (read : Read) → (let r : Result Read RecordFault = Ok read in r ≡ Err fault.CutShort) → ⊥
    never read e = cc

    stays : (front more : List ℕ) → record_at signature front ≡ Ok (items, entries, len) → record_at signature (front ++ more) ≡ Ok (items, entries, len)
    stays front more again = elim (answers_stay signature front more) [
      | inl cut ↦ absurd (never (items, entries, len) (sym again ∙ cut))
      | inr same ↦ same ∙ again
    ]

pub record IsTold (items : List (Item EntryIndex)) (entries : List ℕ) (len n : ℕ) : Type 0 where
  pub within : n + 8 ≤ len
  pub stands : (signature : Option ℕ) (bytes : List ℕ) → AreBytes bytes → record_at signature bytes ≡ Ok (items, entries, len) → list_any holds_entries items ≡ true → bytes_at 8 n bytes ≡ sealed None entries
  pub none : list_any holds_entries items ≡ false → n ≡ 0

pub block_told : (items : List (Item EntryIndex)) (entries : List ℕ) (len n : ℕ) (o : Option EntriesBlock) (signature : Option ℕ) (bytes : List ℕ) → n ≡ block_len o → Told items entries len o
    → AreBytes bytes → record_at signature bytes ≡ Ok (items, entries, len) → IsTold items entries len n
block_told items entries len n o signature bytes is told fits read = record {
  within = block_within items entries len n o signature bytes is told fits read;
  stands = block_stands items entries len n o is told;
  none = block_none items entries len n o is told signature bytes fits read;
}
