-- What a file reads as, step by step, and by how many of its bytes each step is told.
use Rattle.std.proofs.Common.{◌≡◌, ◌≢◌, ◌⊎◌, inl, inr, ℕ, zero, suc, ◌+◌, ◌-◌, ◌<◌, ◌≤◌, Bool, true, false, cond, ltb, eqb, List, [], ◌∷◌, length, take, drop, Option, Some, None, Result, Ok, Err, refl, sym, ap, ◌∙◌, arith, length-drop, length-take, take-append-drop}
use Rattle.std.specs.Prelude.{◌==◌, if◌then◌else◌}
use Rattle.std.proofs.lemmas.Bool.{eq-eqb, ne_eqb, eqb-false, ltb-false}
use Rattle.std.proofs.lemmas.List.{take_all}
use Rattle.raft_log_records.specs.declared.item.EntryIndex.{EntryIndex}
use Rattle.raft_log_records.specs.declared.error.RecordFault.{RecordFault}
use Rattle.raft_log_records.specs.declared.error.RecordFault.TheVariants as fault
use Rattle.raft_log_records.specs.Item.{Item}
use Rattle.std.specs.Int.{w32}
use Rattle.std.specs.Prelude.{not}
use Rattle.raft_log_records.specs.Reading.{◌>>=◌, number_or, unsealed, body_at, agrees, block_at, head_at, len_at, header_at, record_at}
use Rattle.raft_bytes.proofs.Bytes.{bind_ok, guard_ok, guard_then}
use Rattle.raft_log_records.proofs.RecordTaken.{tests, tests_ok}
use Rattle.raft_log_records.proofs.Locality.{lengths_stay, lengths_need_eight, answers_stay, records_need_their_length, records_have_their_length}
use Rattle.raft_log_disk.specs.Chance.{padding}
use Rattle.raft_log_file.specs.Reading.{stopped, with_batch, batch_at, read_steps, read_from}

abbrev pub Read : Type 0
Read = List (Item EntryIndex) × List ℕ × ℕ

abbrev Head : Type 0
Head = Result (ℕ × ℕ) RecordFault

-- ---- how many bytes tell

head_fault : (r : Head) (f : RecordFault) → (r >>= λ head. Ok head.0) ≡ Err f → r ≡ Err f
head_fault (Ok x) f e = absurd cc
head_fault (Err g) f e = cc

-- a length that is refused refuses the record
pub fault_told : (signature : Option ℕ) (bytes : List ℕ) (f : RecordFault) → len_at bytes ≡ Err f → record_at signature bytes ≡ Err f
unfolding record_at header_at
fault_told signature bytes f e = let h : head_at bytes ≡ Err f = head_fault (head_at bytes) f e in rw h refl

-- eight bytes tell the length
pub len_front : (bytes : List ℕ) → len_at (take 8 bytes) ≡ len_at bytes
len_front bytes = elim (lengths_stay (take 8 bytes) (drop 8 bytes)) [
  | inl cut ↦ all (lengths_need_eight (take 8 bytes) cut)
  | inr same ↦ sym same ∙ ap (λ (l : List ℕ). len_at l) (take-append-drop 8 bytes)
]
  where
    all : length (take 8 bytes) < 8 → len_at (take 8 bytes) ≡ len_at bytes
    all short = ap (λ (l : List ℕ). len_at l) (take_all 8 bytes (omega (arith, length-take 8 bytes, short)))

whole : (signature : Option ℕ) (bytes : List ℕ) (n : ℕ) → length bytes ≤ n → record_at signature (take n bytes) ≡ record_at signature bytes
whole signature bytes n short = ap (record_at signature) (take_all n bytes short)

told_again : (bytes : List ℕ) (n len : ℕ) → len_at bytes ≡ Ok n → len_at (take n bytes) ≡ Ok len → len ≡ n
told_again bytes n len is told = elim (lengths_stay (take n bytes) (drop n bytes)) [
  | inl cut ↦ absurd (never len (sym told ∙ cut))
  | inr same ↦ both (sym told ∙ sym same ∙ ap (λ (l : List ℕ). len_at l) (take-append-drop n bytes) ∙ is)
]
  where
    never : (m : ℕ) → let r : Result ℕ RecordFault = Ok m in r ≡ Err fault.CutShort → ⊥
    never m e = cc

    both : (let r : Result ℕ RecordFault = Ok len in r ≡ Ok n) → len ≡ n
    both e = cc

-- as many bytes as the length says tell the record
pub record_front : (signature : Option ℕ) (bytes : List ℕ) (n : ℕ) → len_at bytes ≡ Ok n → 8 ≤ n → record_at signature (take n bytes) ≡ record_at signature bytes
record_front signature bytes n is long = elim (answers_stay signature (take n bytes) (drop n bytes)) [
  | inl cut ↦ few (records_need_their_length signature (take n bytes) cut)
  | inr same ↦ sym same ∙ ap (record_at signature) (take-append-drop n bytes)
]
  where
    few : (len_at (take n bytes) ≡ Err fault.CutShort) ⊎ ((len : ℕ) × (len_at (take n bytes) ≡ Ok len) × (length (take n bytes) < len)) → record_at signature (take n bytes) ≡ record_at signature bytes
    few (inl cut) = whole signature bytes n (omega (arith, length-take n bytes, lengths_need_eight (take n bytes) cut, long))
    few (inr (len, told, short)) = whole signature bytes n (omega (arith, length-take n bytes, told_again bytes n len is told, short))

-- ---- how long a record is

head_long : (bytes : List ℕ) (x : ℕ × ℕ) → head_at bytes ≡ Ok x → 8 ≤ x.0
unfolding head_at
head_long bytes x e =
    let a = bind_ok (number_or fault.CutShort w32 bytes) (λ len. cond (eqb len.0 0) (Err fault.BadLength) (number_or fault.CutShort w32 len.1 >>= λ offset. tests len.0 offset.0)) x e in
    let z = guard_then (eqb a.0.0 0) fault.BadLength (number_or fault.CutShort w32 a.0.1 >>= λ offset. tests a.0.0 offset.0) x a.2 in
    let b = bind_ok (number_or fault.CutShort w32 a.0.1) (λ offset. tests a.0.0 offset.0) x z.1 in
    let t = tests_ok a.0.0 b.0.0 x b.2 in
    omega (arith, t.room)

len_long : (bytes : List ℕ) (r : Head) (n : ℕ) → head_at bytes ≡ r → (r >>= λ head. Ok head.0) ≡ Ok n → 8 ≤ n
len_long bytes (Ok x) n is e = let same : x.0 ≡ n = cc in omega (arith, head_long bytes x is, same)
len_long bytes (Err f) n is e = absurd cc

-- a record has eight bytes at least, and they stand there
pub record IsSized (bytes : List ℕ) (len : ℕ) : Type 0 where
  pub least : 8 ≤ len
  pub within : len ≤ length bytes

same_len : (m n : ℕ) → (let r : Result ℕ RecordFault = Ok m in r ≡ Ok n) → m ≡ n
same_len m n e = cc

header_told : (bytes : List ℕ) (x : ℕ × ℕ) → header_at bytes ≡ Ok x → (n : ℕ) → len_at bytes ≡ Ok n → n ≤ length bytes
unfolding header_at
header_told bytes x is n told =
    let a = bind_ok (head_at bytes) (λ head. cond (ltb (length bytes) head.0) (Err fault.CutShort) (Ok head)) x is in
    let g = guard_ok (ltb (length bytes) a.0.0) fault.CutShort a.0 x a.2 in
    let same : a.0.0 ≡ n = same_len a.0.0 n (sym (ap (λ (r : Head). r >>= λ head. Ok head.0) a.1) ∙ told) in
    omega (arith, ltb-false _ _ g.0, same)

pub record_sized : (signature : Option ℕ) (bytes : List ℕ) (read : Read) → record_at signature bytes ≡ Ok read → IsSized bytes read.2
unfolding record_at
record_sized signature bytes read e =
    let told = records_have_their_length signature bytes read e in
    let h = bind_ok (header_at bytes) (λ head. unsealed fault.ItemsChecksum signature (take (head.0 - head.1) (drop head.1 bytes)) >>= λ body. body_at (head.1 - 12) body >>= λ items.
    cond (not (agrees head.1 items)) (Err fault.EntriesLength) (block_at head.1 bytes >>= λ block. Ok (items, block, head.0))) read e in
    record {
      least = len_long bytes (head_at bytes) read.2 refl told;
      within = by_header h.0 h.1;
    }
  where
    by_header : (x : ℕ × ℕ) → header_at bytes ≡ Ok x → read.2 ≤ length bytes
    by_header x is = header_told bytes x is read.2 (records_have_their_length signature bytes read e)

-- ---- steps

one_found : (alignment : ℕ) (signature : Option ℕ) (k at : ℕ) (bytes : List ℕ) (read : Read) → 0 < length bytes → record_at signature bytes ≡ Ok read
    → read_steps alignment signature (suc k) at bytes ≡ with_batch (batch_at at read) (read_steps alignment signature k (at + read.2) (drop read.2 bytes))
unfolding read_steps
one_found alignment signature k at bytes read some is =
    let there : (length bytes == 0) ≡ false = ne_eqb (length bytes) 0 (λ e. omega (arith, e, some)) in
    rw (there, is) refl

one_fault : (alignment : ℕ) (signature : Option ℕ) (k at : ℕ) (bytes : List ℕ) (f : RecordFault) → 0 < length bytes → record_at signature bytes ≡ Err f
    → read_steps alignment signature (suc k) at bytes
    ≡ (if padding alignment at bytes == 0 then stopped at (Some f) else read_steps alignment signature k (at + padding alignment at bytes) (drop (padding alignment at bytes) bytes))
unfolding read_steps
one_fault alignment signature k at bytes f some is =
    let there : (length bytes == 0) ≡ false = ne_eqb (length bytes) 0 (λ e. omega (arith, e, some)) in
    rw (there, is) refl

none_left : (alignment : ℕ) (signature : Option ℕ) (k at : ℕ) (bytes : List ℕ) → length bytes ≡ 0 → read_steps alignment signature k at bytes ≡ stopped at None
unfolding read_steps
none_left alignment signature zero at bytes none = refl
none_left alignment signature (suc k) at bytes none = let there : (length bytes == 0) ≡ true = eq-eqb (length bytes) 0 none in rw there refl

-- any number of steps that is enough reads the same
abbrev AreEnough : ℕ → Option ℕ → ℕ → ℕ → Type 0
AreEnough alignment signature k j = (at : ℕ) (bytes : List ℕ) → length bytes ≤ k → length bytes ≤ j → read_steps alignment signature k at bytes ≡ read_steps alignment signature j at bytes

padded_step : (alignment : ℕ) (signature : Option ℕ) (k j at p : ℕ) (bytes : List ℕ) (f : RecordFault) (b : Bool) → (p == 0) ≡ b → AreEnough alignment signature k j → length bytes ≤ suc k → length bytes ≤ suc j
    → cond b (stopped at (Some f)) (read_steps alignment signature k (at + p) (drop p bytes)) ≡ cond b (stopped at (Some f)) (read_steps alignment signature j (at + p) (drop p bytes))
padded_step alignment signature k j at p bytes f true is enough short few = refl
padded_step alignment signature k j at p bytes f false is enough short few =
    let some : p ≢ 0 = eqb-false p 0 is in
    enough (at + p) (drop p bytes) (omega (arith, length-drop p bytes, short, some)) (omega (arith, length-drop p bytes, few, some))

enough_step : (alignment : ℕ) (signature : Option ℕ) (k j at : ℕ) (bytes : List ℕ) (r : Result Read RecordFault) → record_at signature bytes ≡ r → AreEnough alignment signature k j → 0 < length bytes → length bytes ≤ suc k → length bytes ≤ suc j
    → read_steps alignment signature (suc k) at bytes ≡ read_steps alignment signature (suc j) at bytes
enough_step alignment signature k j at bytes (Ok read) is enough some short few =
    let sized = record_sized signature bytes read is in
    one_found alignment signature k at bytes read some is
    ∙ ap (with_batch (batch_at at read)) (enough (at + read.2) (drop read.2 bytes) (omega (arith, length-drop read.2 bytes, short, sized.least)) (omega (arith, length-drop read.2 bytes, few, sized.least)))
    ∙ sym (one_found alignment signature j at bytes read some is)
enough_step alignment signature k j at bytes (Err f) is enough some short few =
    one_fault alignment signature k at bytes f some is
    ∙ padded_step alignment signature k j at (padding alignment at bytes) bytes f (padding alignment at bytes == 0) refl enough short few
    ∙ sym (one_fault alignment signature j at bytes f some is)

pub enough_steps : (alignment : ℕ) (signature : Option ℕ) (k j : ℕ) → AreEnough alignment signature k j
enough_steps alignment signature zero j at bytes short few = none_left alignment signature zero at bytes (omega (arith, short)) ∙ sym (none_left alignment signature j at bytes (omega (arith, short)))
enough_steps alignment signature (suc k) zero at bytes short few = none_left alignment signature (suc k) at bytes (omega (arith, few)) ∙ sym (none_left alignment signature zero at bytes (omega (arith, few)))
enough_steps alignment signature (suc k) (suc j) at [] short few = none_left alignment signature (suc k) at [] refl ∙ sym (none_left alignment signature (suc j) at [] refl)
enough_steps alignment signature (suc k) (suc j) at (b ∷ bytes) short few =
    enough_step alignment signature k j at (b ∷ bytes) (record_at signature (b ∷ bytes)) refl (enough_steps alignment signature k j) (omega arith) short few

-- ---- what a place of a file reads as

pred : (n : ℕ) → 0 < n → n ≡ suc (n - 1)
pred n some = omega (arith, some)

from_suc : (alignment : ℕ) (signature : Option ℕ) (at : ℕ) (bytes : List ℕ) → 0 < length bytes → read_from alignment signature at bytes ≡ read_steps alignment signature (suc (length bytes - 1)) at bytes
from_suc alignment signature at bytes some = ap (λ n. read_steps alignment signature n at bytes) (pred (length bytes) some)

pub from_found : (alignment : ℕ) (signature : Option ℕ) (at : ℕ) (bytes : List ℕ) (read : Read) → record_at signature bytes ≡ Ok read
    → read_from alignment signature at bytes ≡ with_batch (batch_at at read) (read_from alignment signature (at + read.2) (drop read.2 bytes))
from_found alignment signature at bytes read is =
    let sized = record_sized signature bytes read is in
    let some : 0 < length bytes = omega (arith, sized.least, sized.within) in
    from_suc alignment signature at bytes some
    ∙ one_found alignment signature (length bytes - 1) at bytes read some is
    ∙ ap (with_batch (batch_at at read)) (enough_steps alignment signature (length bytes - 1) (length (drop read.2 bytes)) (at + read.2) (drop read.2 bytes) (omega (arith, length-drop read.2 bytes, sized.least)) (omega arith))

pub from_end : (alignment : ℕ) (signature : Option ℕ) (at : ℕ) (bytes : List ℕ) → length bytes ≡ 0 → read_from alignment signature at bytes ≡ stopped at None
from_end alignment signature at bytes none = none_left alignment signature (length bytes) at bytes none

pub from_fault : (alignment : ℕ) (signature : Option ℕ) (at : ℕ) (bytes : List ℕ) (f : RecordFault) → 0 < length bytes → record_at signature bytes ≡ Err f → padding alignment at bytes ≡ 0
    → read_from alignment signature at bytes ≡ stopped at (Some f)
from_fault alignment signature at bytes f some is none =
    let there : (padding alignment at bytes == 0) ≡ true = eq-eqb (padding alignment at bytes) 0 none in
    from_suc alignment signature at bytes some ∙ one_fault alignment signature (length bytes - 1) at bytes f some is
    ∙ ap (λ b. cond b (stopped at (Some f)) (read_steps alignment signature (length bytes - 1) (at + padding alignment at bytes) (drop (padding alignment at bytes) bytes))) there

pub from_padding : (alignment : ℕ) (signature : Option ℕ) (at : ℕ) (bytes : List ℕ) (f : RecordFault) → 0 < length bytes → record_at signature bytes ≡ Err f → (padding alignment at bytes ≡ 0 → ⊥)
    → read_from alignment signature at bytes ≡ read_from alignment signature (at + padding alignment at bytes) (drop (padding alignment at bytes) bytes)
from_padding alignment signature at bytes f some is any =
    let p : ℕ = padding alignment at bytes in
    let there : (p == 0) ≡ false = ne_eqb p 0 any in
    from_suc alignment signature at bytes some ∙ one_fault alignment signature (length bytes - 1) at bytes f some is
    ∙ ap (λ b. cond b (stopped at (Some f)) (read_steps alignment signature (length bytes - 1) (at + p) (drop p bytes))) there
    ∙ enough_steps alignment signature (length bytes - 1) (length (drop p bytes)) (at + p) (drop p bytes) (omega (arith, length-drop p bytes, any)) (omega arith)
