-- What stands at the front of some bytes is told by them alone.
use Rattle.std.proofs.Common.{◌≡◌, ◌⊎◌, inl, inr, ℕ, zero, suc, ◌+◌, ◌-◌, ◌<◌, ◌≤◌, Bool, true, false, not, cond, ltb, eqb, List, [], ◌∷◌, ◌++◌, length, take, drop, Option, None, Result, Ok, Err, refl, sym, ap, ◌∙◌, arith, length-append, length-drop}
use Rattle.std.specs.Prelude.{◌||◌}
use Rattle.std.specs.Int.{Width, w32, w64, byte_len, from_be_bytes}
use Rattle.std.proofs.lemmas.Bool.{cases_lt, lt-ltb, le-ltb}
use Rattle.std.proofs.lemmas.List.{take-append-le, drop-append-le}
use Rattle.raft_log_records.specs.declared.error.RecordFault.{RecordFault}
use Rattle.raft_log_records.specs.declared.error.RecordFault.TheVariants as fault
use Rattle.raft_log_records.specs.declared.item.EntryIndex.{EntryIndex}
use Rattle.raft_log_records.specs.Checksum.{crc32_of}
use Rattle.raft_log_records.specs.Item.{Item, place}
use Rattle.raft_log_records.specs.Item.Change.{entries, compact, put, delete, mark}
use Rattle.raft_log_records.specs.Spelling.{signed}
use Rattle.raft_log_records.specs.Laws.{LengthsStay, LengthsNeedEight, RecordsHaveTheirLength, AnswersStay, RecordsNeedTheirLength, ZerosAreNoRecord}
use Rattle.raft_log_records.specs.Reading.{◌>>=◌, number_or, number_at, string_at, key_at, status_at, entry_at, entries_at, run_at, change_behind, change_at, item_at, items_at, body_at, unsealed, head_at, len_at, header_at, block_at, agrees, record_at}
use Rattle.raft_log_records.specs.Places.{indexed}
use Rattle.raft_bytes.proofs.Bytes.{bind_ok, guard_ok, guard_then, ok_is}
use Rattle.raft_log_records.proofs.RecordTaken.{tests, tests_ok}

-- ---- an answer that isn't for want of bytes

Settled : {A : Type 0} → Result A RecordFault → Type 0
Settled r = r ≡ Err fault.CutShort → ⊥

ok_settled : {A : Type 0} (x : A) → Settled (Ok x)
unfolding Settled
ok_settled x e = cc

err_settled : (A : Type 0) (f : RecordFault) → (f ≡ fault.CutShort → ⊥) → Settled {A = A} (Err f)
unfolding Settled
err_settled A f h e = h cc

bind_settled : {A B : Type 0} (r : Result A RecordFault) (f : A → Result B RecordFault) → Settled r → ((x : A) → Settled (f x)) → Settled (r >>= f)
unfolding Settled
bind_settled (Ok x) f h k = k x
bind_settled (Err d) f h k = λ e. h cc

cond_settled : {A : Type 0} (b : Bool) (x y : Result A RecordFault) → Settled x → Settled y → Settled (cond b x y)
cond_settled true x y h k = h
cond_settled false x y h k = k

number_settled : (w : Width) (bytes : List ℕ) → Settled (number_at w bytes)
number_settled w bytes = cond_settled (ltb (length bytes) (byte_len w)) (Err fault.ItemsCutShort) (Ok (from_be_bytes w (take (byte_len w) bytes), drop (byte_len w) bytes)) (err_settled _ fault.ItemsCutShort (λ e. cc)) (ok_settled _)

string_settled : (bytes : List ℕ) → Settled (string_at bytes)
unfolding string_at
string_settled bytes =
    bind_settled (number_at w32 bytes) (λ n. cond (ltb (length n.1) n.0) (Err fault.ItemsCutShort) (Ok (take n.0 n.1, drop n.0 n.1))) (number_settled w32 bytes)
    (λ n. cond_settled (ltb (length n.1) n.0) (Err fault.ItemsCutShort) (Ok (take n.0 n.1, drop n.0 n.1)) (err_settled _ fault.ItemsCutShort (λ e. cc)) (ok_settled _))

key_settled : (bytes : List ℕ) → Settled (key_at bytes)
unfolding key_at
key_settled bytes =
    bind_settled (string_at bytes) (λ k. cond (eqb (length k.0) 0) (Err fault.EmptyKey) (Ok k)) (string_settled bytes)
    (λ k. cond_settled (eqb (length k.0) 0) (Err fault.EmptyKey) (Ok k) (err_settled _ fault.EmptyKey (λ e. cc)) (ok_settled k))

status_settled : (bytes : List ℕ) → Settled (status_at bytes)
unfolding status_at
status_settled [] = err_settled _ fault.ItemsCutShort (λ e. cc)
status_settled (zero ∷ bytes) = ok_settled _
status_settled (suc zero ∷ bytes) = ok_settled _
status_settled (suc (suc zero) ∷ bytes) = ok_settled _
status_settled (suc (suc (suc b)) ∷ bytes) = err_settled _ fault.BadTag (λ e. cc)

entry_settled : (next limit at : ℕ) (bytes : List ℕ) → Settled (entry_at next limit at bytes)
unfolding entry_at
entry_settled next limit at bytes =
    bind_settled (number_at w64 bytes) (λ index. number_at w32 index.1 >>= λ len. cond (not (eqb index.0 next)) (Err fault.NotConsecutive) (cond (ltb (limit - at) len.0) (Err fault.EntriesLength) (Ok (place index.0 at len.0, len.1)))) (number_settled w64 bytes)
    (λ index. bind_settled (number_at w32 index.1) (λ len. cond (not (eqb index.0 next)) (Err fault.NotConsecutive) (cond (ltb (limit - at) len.0) (Err fault.EntriesLength) (Ok (place index.0 at len.0, len.1)))) (number_settled w32 index.1)
    (λ len. cond_settled (not (eqb index.0 next)) (Err fault.NotConsecutive) (cond (ltb (limit - at) len.0) (Err fault.EntriesLength) (Ok (place index.0 at len.0, len.1))) (err_settled _ fault.NotConsecutive (λ e. cc))
    (cond_settled (ltb (limit - at) len.0) (Err fault.EntriesLength) (Ok (place index.0 at len.0, len.1)) (err_settled _ fault.EntriesLength (λ e. cc)) (ok_settled _))))

entries_settled : (n next limit at : ℕ) (bytes : List ℕ) → Settled (entries_at n next limit at bytes)
unfolding entries_at
entries_settled zero next limit at bytes = ok_settled _
entries_settled (suc n) next limit at bytes =
    bind_settled (entry_at next limit at bytes) (λ first. entries_at n (next + 1) limit (at + first.0.entry_len) first.1 >>= λ others. Ok (first.0 ∷ others.0, others.1, others.2)) (entry_settled next limit at bytes)
    (λ first. bind_settled (entries_at n (next + 1) limit (at + first.0.entry_len) first.1) (λ others. Ok (first.0 ∷ others.0, others.1, others.2)) (entries_settled n (next + 1) limit (at + first.0.entry_len) first.1) (λ others. ok_settled _))

run_settled : (limit at : ℕ) (bytes : List ℕ) → Settled (run_at limit at bytes)
unfolding run_at
run_settled limit at bytes =
    bind_settled (number_at w32 bytes) (λ count. cond (eqb count.0 0) (Err fault.NotConsecutive) (number_at w64 count.1 >>= λ first. entries_at count.0 first.0 limit at count.1)) (number_settled w32 bytes)
    (λ count. cond_settled (eqb count.0 0) (Err fault.NotConsecutive) (number_at w64 count.1 >>= λ first. entries_at count.0 first.0 limit at count.1) (err_settled _ fault.NotConsecutive (λ e. cc))
    (bind_settled (number_at w64 count.1) (λ first. entries_at count.0 first.0 limit at count.1) (number_settled w64 count.1) (λ first. entries_settled count.0 first.0 limit at count.1)))

behind_settled : (tag limit at : ℕ) (bytes : List ℕ) → Settled (change_behind tag limit at bytes)
unfolding change_behind
behind_settled tag limit at bytes =
    cond_settled (eqb tag 1) _ _ (bind_settled (run_at limit at bytes) (λ es. Ok (entries (indexed es.0), es.1, es.2)) (run_settled limit at bytes) (λ es. ok_settled _))
    (cond_settled (eqb tag 2) _ _ (ok_settled _)
    (cond_settled (eqb tag 3) _ _ (bind_settled (number_at w64 bytes) (λ index. Ok (compact index.0, at, index.1)) (number_settled w64 bytes) (λ index. ok_settled _))
    (cond_settled (eqb tag 4) _ _ (bind_settled (key_at bytes) (λ key. string_at key.1 >>= λ value. Ok (put key.0 value.0, at, value.1)) (key_settled bytes)
    (λ key. bind_settled (string_at key.1) (λ value. Ok (put key.0 value.0, at, value.1)) (string_settled key.1) (λ value. ok_settled _)))
    (cond_settled (eqb tag 5) _ _ (bind_settled (key_at bytes) (λ key. Ok (delete key.0, at, key.1)) (key_settled bytes) (λ key. ok_settled _))
    (cond_settled (eqb tag 6) _ _ (bind_settled (number_at w64 bytes) (λ id. status_at id.1 >>= λ status. Ok (mark id.0 status.0, at, status.1)) (number_settled w64 bytes)
    (λ id. bind_settled (status_at id.1) (λ status. Ok (mark id.0 status.0, at, status.1)) (status_settled id.1) (λ status. ok_settled _))) (err_settled _ fault.BadTag (λ e. cc)))))))

change_settled : (limit at : ℕ) (bytes : List ℕ) → Settled (change_at limit at bytes)
unfolding change_at
change_settled limit at [] = err_settled _ fault.ItemsCutShort (λ e. cc)
change_settled limit at (tag ∷ bytes) = behind_settled tag limit at bytes

item_settled : (limit at : ℕ) (bytes : List ℕ) → Settled (item_at limit at bytes)
unfolding item_at
item_settled limit at bytes =
    bind_settled (number_at w64 bytes) (λ group. change_at limit at group.1 >>= λ change. Ok (record { group = group.0; change = change.0 }, change.1, change.2)) (number_settled w64 bytes)
    (λ group. bind_settled (change_at limit at group.1) (λ change. Ok (record { group = group.0; change = change.0 }, change.1, change.2)) (change_settled limit at group.1) (λ change. ok_settled _))

items_settled : (n limit at : ℕ) (bytes : List ℕ) → Settled (items_at n limit at bytes)
unfolding items_at
items_settled zero limit at bytes = ok_settled _
items_settled (suc n) limit at bytes =
    bind_settled (item_at limit at bytes) (λ first. items_at n limit first.1 first.2 >>= λ others. Ok (first.0 ∷ others.0, others.1, others.2)) (item_settled limit at bytes)
    (λ first. bind_settled (items_at n limit first.1 first.2) (λ others. Ok (first.0 ∷ others.0, others.1, others.2)) (items_settled n limit first.1 first.2) (λ others. ok_settled _))

body_settled : (limit : ℕ) (bytes : List ℕ) → Settled (body_at limit bytes)
unfolding body_at
body_settled limit bytes =
    bind_settled (number_at w32 bytes) (λ count. items_at count.0 limit 0 count.1 >>= λ items. cond (not (eqb (length items.2) 0)) (Err fault.TrailingBytes) (cond (not (eqb items.1 limit)) (Err fault.EntriesLength) (Ok items.0))) (number_settled w32 bytes)
    (λ count. bind_settled (items_at count.0 limit 0 count.1) (λ items. cond (not (eqb (length items.2) 0)) (Err fault.TrailingBytes) (cond (not (eqb items.1 limit)) (Err fault.EntriesLength) (Ok items.0))) (items_settled count.0 limit 0 count.1)
    (λ items. cond_settled (not (eqb (length items.2) 0)) (Err fault.TrailingBytes) (cond (not (eqb items.1 limit)) (Err fault.EntriesLength) (Ok items.0)) (err_settled _ fault.TrailingBytes (λ e. cc))
    (cond_settled (not (eqb items.1 limit)) (Err fault.EntriesLength) (Ok items.0) (err_settled _ fault.EntriesLength (λ e. cc)) (ok_settled _))))

unsealed_settled : (wrong : RecordFault) (signature : Option ℕ) (bytes : List ℕ) → (wrong ≡ fault.CutShort → ⊥) → Settled (unsealed wrong signature bytes)
unfolding unsealed
unsealed_settled wrong signature bytes h =
    cond_settled (eqb (from_be_bytes w32 (drop (length bytes - 4) bytes)) (signed signature (crc32_of (take (length bytes - 4) bytes)))) (Ok (take (length bytes - 4) bytes)) (Err wrong) (ok_settled _) (err_settled _ wrong h)

block_settled : (offset : ℕ) (bytes : List ℕ) → Settled (block_at offset bytes)
unfolding block_at
block_settled offset bytes = cond_settled (eqb offset 8) (Ok []) (unsealed fault.EntriesChecksum None (take (offset - 8) (drop 8 bytes))) (ok_settled []) (unsealed_settled fault.EntriesChecksum None (take (offset - 8) (drop 8 bytes)) (λ e. cc))

-- ---- the head

abbrev Head : Type 0
Head = Result (ℕ × ℕ) RecordFault

-- the offset behind a length
abbrev behind_len : ℕ → List ℕ → Head
behind_len len rest = cond (eqb len 0) (Err fault.BadLength) (number_or fault.CutShort w32 rest >>= λ offset. tests len offset.0)

short_head : (bytes : List ℕ) → length bytes < 4 → head_at bytes ≡ Err fault.CutShort
unfolding head_at
short_head bytes h = let t : ltb (length bytes) 4 ≡ true = lt-ltb _ _ h in rw t refl

long_head : (bytes : List ℕ) → 4 ≤ length bytes → head_at bytes ≡ behind_len (from_be_bytes w32 (take 4 bytes)) (drop 4 bytes)
unfolding head_at
long_head bytes h = let t : ltb (length bytes) 4 ≡ false = le-ltb _ _ h in rw t refl

abbrev failed_head : RecordFault → Head
failed_head f = Err f

abbrev failed_len : RecordFault → Result ℕ RecordFault
failed_len f = Err f

abbrev cut_head : Head
cut_head = Err fault.CutShort

short_rest : (len : ℕ) (rest : List ℕ) → length rest < 4 → behind_len len rest ≡ cond (eqb len 0) (Err fault.BadLength) cut_head
short_rest len rest h = let t : ltb (length rest) 4 ≡ true = lt-ltb _ _ h in rw t refl

long_rest : (len : ℕ) (rest : List ℕ) → 4 ≤ length rest → behind_len len rest ≡ cond (eqb len 0) (Err fault.BadLength) (tests len (from_be_bytes w32 (take 4 rest)))
long_rest len rest h = let t : ltb (length rest) 4 ≡ false = le-ltb _ _ h in rw t refl

behind_stays : (len : ℕ) (rest more : List ℕ) → (behind_len len rest ≡ cut_head) ⊎ (behind_len len (rest ++ more) ≡ behind_len len rest)
behind_stays len rest more = elim (cases_lt (length rest) 4) [
  | inl short ↦ by_zero (eqb len 0) refl short
  | inr long ↦
      let a = long_rest len rest long in
      let b = long_rest len (rest ++ more) (omega (arith, length-append rest more)) in
      inr (b ∙ ap (λ (l : List ℕ). cond (eqb len 0) (Err fault.BadLength) (tests len (from_be_bytes w32 l))) (take-append-le 4 rest more long) ∙ sym a)
]
  where
    zero_is : (b : Bool) (x : Head) → eqb len 0 ≡ b → cond (eqb len 0) (Err fault.BadLength) x ≡ cond b (Err fault.BadLength) x
    zero_is b x e = ap (λ (c : Bool). cond c (Err fault.BadLength) x) e

    by_zero : (b : Bool) → eqb len 0 ≡ b → length rest < 4 → (behind_len len rest ≡ cut_head) ⊎ (behind_len len (rest ++ more) ≡ behind_len len rest)
    by_zero true e h = inr (zero_is true _ e ∙ sym (zero_is true _ e))
    by_zero false e h = inl (short_rest len rest h ∙ zero_is false cut_head e)

head_stays : (bytes more : List ℕ) → (head_at bytes ≡ cut_head) ⊎ (head_at (bytes ++ more) ≡ head_at bytes)
head_stays bytes more = elim (cases_lt (length bytes) 4) [
  | inl short ↦ inl (short_head bytes short)
  | inr long ↦
      let len = from_be_bytes w32 (take 4 bytes) in
      let a = long_head bytes long in
      let b : head_at (bytes ++ more) ≡ behind_len len (drop 4 bytes ++ more) = long_head (bytes ++ more) (omega (arith, length-append bytes more))
      ∙ ap (λ (l : List ℕ). behind_len (from_be_bytes w32 l) (drop 4 (bytes ++ more))) (take-append-le 4 bytes more long)
      ∙ ap (λ (l : List ℕ). behind_len len l) (drop-append-le 4 bytes more long) in
      elim (behind_stays len (drop 4 bytes) more) [
        | inl cut ↦ inl (a ∙ cut)
        | inr same ↦ inr (b ∙ same ∙ sym a)
      ]
]

tests_settled : (len offset : ℕ) → Settled (tests len offset)
tests_settled len offset =
    cond_settled (ltb len 16 || ltb 33554432 len) (Err fault.BadLength) (cond (ltb len (offset + 8) || not (eqb offset 8 || not (ltb offset 12))) (Err fault.BadOffset) (Ok (len, offset))) (err_settled _ fault.BadLength (λ e. cc))
    (cond_settled (ltb len (offset + 8) || not (eqb offset 8 || not (ltb offset 12))) (Err fault.BadOffset) (Ok (len, offset)) (err_settled _ fault.BadOffset (λ e. cc)) (ok_settled _))

eight_settled : (bytes : List ℕ) → 8 ≤ length bytes → head_at bytes ≡ cut_head → ⊥
unfolding Settled
eight_settled bytes long e =
    let len = from_be_bytes w32 (take 4 bytes) in
    let is = long_head bytes (omega arith) ∙ long_rest len (drop 4 bytes) (omega (arith, length-drop 4 bytes)) in
    cond_settled (eqb len 0) (Err fault.BadLength) (tests len (from_be_bytes w32 (take 4 (drop 4 bytes)))) (err_settled _ fault.BadLength (λ q. cc)) (tests_settled len (from_be_bytes w32 (take 4 (drop 4 bytes)))) (sym is ∙ e)

head_room : (bytes : List ℕ) (x : ℕ × ℕ) → head_at bytes ≡ Ok x → (x.1 + 8 ≤ x.0) × (8 ≤ x.1)
unfolding head_at
head_room bytes x e =
    let a = bind_ok (number_or fault.CutShort w32 bytes) (λ len. cond (eqb len.0 0) (Err fault.BadLength) (number_or fault.CutShort w32 len.1 >>= λ offset. tests len.0 offset.0)) x e in
    let z = guard_then (eqb a.0.0 0) fault.BadLength (number_or fault.CutShort w32 a.0.1 >>= λ offset. tests a.0.0 offset.0) x a.2 in
    let b = bind_ok (number_or fault.CutShort w32 a.0.1) (λ offset. tests a.0.0 offset.0) x z.1 in
    let t = tests_ok a.0.0 b.0.0 x b.2 in
    (t.room, t.least)

-- ---- lengths

len_is : (bytes : List ℕ) (r : Head) → head_at bytes ≡ r → len_at bytes ≡ (r >>= λ head. Ok head.0)
len_is bytes r e = ap (λ (r : Head). r >>= λ head. Ok head.0) e

pub lengths_stay : LengthsStay
lengths_stay bytes more = elim (head_stays bytes more) [
  | inl cut ↦ inl (len_is bytes cut_head cut)
  | inr same ↦ inr (ap (λ (r : Head). r >>= λ head. Ok head.0) same)
]

pub lengths_need_eight : LengthsNeedEight
lengths_need_eight bytes e = elim (cases_lt (length bytes) 8) [
  | inl short ↦ short
  | inr long ↦ absurd (by_head (head_at bytes) refl long e)
]
  where
    by_head : (r : Head) → head_at bytes ≡ r → 8 ≤ length bytes → len_at bytes ≡ Err fault.CutShort → ⊥
    by_head (Ok x) is long e = never x.0 (sym (len_is bytes (Ok x) is) ∙ e)
      where
        never : (n : ℕ) → Ok n ≡ failed_len fault.CutShort → ⊥
        never n q = cc
    by_head (Err f) is long e = eight_settled bytes long (is ∙ same (sym (len_is bytes (Err f) is) ∙ e))
      where
        same : failed_len f ≡ failed_len fault.CutShort → failed_head f ≡ failed_head fault.CutShort
        same q = cc

-- ---- records

abbrev Read : Type 0
Read = List (Item EntryIndex) × List ℕ × ℕ

abbrev failed : RecordFault → Result Read RecordFault
failed f = Err f

-- what is read behind the head
abbrev behind_head : Option ℕ → List ℕ → ℕ × ℕ → Result Read RecordFault
behind_head signature bytes head =
    unsealed fault.ItemsChecksum signature (take (head.0 - head.1) (drop head.1 bytes)) >>= λ body. body_at (head.1 - 12) body >>= λ items.
    cond (not (agrees head.1 items)) (Err fault.EntriesLength) (block_at head.1 bytes >>= λ block. Ok (items, block, head.0))

whole_or_cut : Option ℕ → List ℕ → ℕ × ℕ → Result Read RecordFault
whole_or_cut signature bytes head = cond (ltb (length bytes) head.0) (Err fault.CutShort) (behind_head signature bytes head)

record_is : (signature : Option ℕ) (bytes : List ℕ) (r : Head) → head_at bytes ≡ r → record_at signature bytes ≡ (r >>= whole_or_cut signature bytes)
unfolding record_at header_at whole_or_cut
record_is signature bytes (Ok x) e = rw e (by_test (ltb (length bytes) x.0))
  where
    by_test : (b : Bool) → (cond b (Err fault.CutShort) (Ok x) >>= behind_head signature bytes) ≡ cond b (Err fault.CutShort) (behind_head signature bytes x)
    by_test true = refl
    by_test false = refl
record_is signature bytes (Err f) e = rw e refl

cut_is : (signature : Option ℕ) (bytes : List ℕ) (x : ℕ × ℕ) → length bytes < x.0 → whole_or_cut signature bytes x ≡ Err fault.CutShort
unfolding whole_or_cut
cut_is signature bytes x h = let t : ltb (length bytes) x.0 ≡ true = lt-ltb _ _ h in rw t refl

whole_is : (signature : Option ℕ) (bytes : List ℕ) (x : ℕ × ℕ) → x.0 ≤ length bytes → whole_or_cut signature bytes x ≡ behind_head signature bytes x
unfolding whole_or_cut
whole_is signature bytes x h = let t : ltb (length bytes) x.0 ≡ false = le-ltb _ _ h in rw t refl

part_stays : (from n : ℕ) (bytes more : List ℕ) → from + n ≤ length bytes → take n (drop from (bytes ++ more)) ≡ take n (drop from bytes)
part_stays from n bytes more h =
    ap (λ (l : List ℕ). take n l) (drop-append-le from bytes more (omega arith)) ∙ take-append-le n (drop from bytes) more (omega (arith, length-drop from bytes))

block_stays : (offset : ℕ) (bytes more : List ℕ) → 8 ≤ offset → offset ≤ length bytes → block_at offset (bytes ++ more) ≡ block_at offset bytes
unfolding block_at
block_stays offset bytes more h k = ap (λ (l : List ℕ). cond (eqb offset 8) (Ok []) (unsealed fault.EntriesChecksum None l)) (part_stays 8 (offset - 8) bytes more (omega arith))

head_and_more : (signature : Option ℕ) (bytes more : List ℕ) (x : ℕ × ℕ) → (x.1 + 8 ≤ x.0) × (8 ≤ x.1) → x.0 ≤ length bytes → behind_head signature (bytes ++ more) x ≡ behind_head signature bytes x
head_and_more signature bytes more x room within =
    ap (λ (l : List ℕ). unsealed fault.ItemsChecksum signature l >>= λ body. body_at (x.1 - 12) body >>= λ items.
    cond (not (agrees x.1 items)) (Err fault.EntriesLength) (block_at x.1 (bytes ++ more) >>= λ block. Ok (items, block, x.0))) (part_stays x.1 (x.0 - x.1) bytes more (omega (arith, room.0)))
    ∙ ap (λ (r : Result (List ℕ) RecordFault). unsealed fault.ItemsChecksum signature (take (x.0 - x.1) (drop x.1 bytes)) >>= λ body. body_at (x.1 - 12) body >>= λ items.
    cond (not (agrees x.1 items)) (Err fault.EntriesLength) (r >>= λ block. Ok (items, block, x.0))) (block_stays x.1 bytes more room.1 (omega (arith, room.0)))

pub answers_stay : AnswersStay
answers_stay signature bytes more = elim (head_stays bytes more) [
  | inl cut ↦ inl (record_is signature bytes cut_head cut)
  | inr same ↦ by_head (head_at bytes) refl same
]
  where
    by_head : (r : Head) → head_at bytes ≡ r → head_at (bytes ++ more) ≡ head_at bytes → (record_at signature bytes ≡ Err fault.CutShort) ⊎ (record_at signature (bytes ++ more) ≡ record_at signature bytes)
    by_head (Err f) is same = inr (record_is signature (bytes ++ more) (Err f) (same ∙ is) ∙ sym (record_is signature bytes (Err f) is))
    by_head (Ok x) is same = elim (cases_lt (length bytes) x.0) [
      | inl short ↦ inl (record_is signature bytes (Ok x) is ∙ cut_is signature bytes x short)
      | inr long ↦ inr (record_is signature (bytes ++ more) (Ok x) (same ∙ is) ∙ whole_is signature (bytes ++ more) x (omega (arith, length-append bytes more))
          ∙ head_and_more signature bytes more x (head_room bytes x is) long ∙ sym (record_is signature bytes (Ok x) is ∙ whole_is signature bytes x long))
    ]

head_settled : (signature : Option ℕ) (bytes : List ℕ) (x : ℕ × ℕ) → Settled (behind_head signature bytes x)
head_settled signature bytes x =
    bind_settled (unsealed fault.ItemsChecksum signature (take (x.0 - x.1) (drop x.1 bytes))) (λ body. body_at (x.1 - 12) body >>= λ items. cond (not (agrees x.1 items)) (Err fault.EntriesLength) (block_at x.1 bytes >>= λ block. Ok (items, block, x.0)))
    (unsealed_settled fault.ItemsChecksum signature (take (x.0 - x.1) (drop x.1 bytes)) (λ e. cc))
    (λ body. bind_settled (body_at (x.1 - 12) body) (λ items. cond (not (agrees x.1 items)) (Err fault.EntriesLength) (block_at x.1 bytes >>= λ block. Ok (items, block, x.0))) (body_settled (x.1 - 12) body)
    (λ items. cond_settled (not (agrees x.1 items)) (Err fault.EntriesLength) (block_at x.1 bytes >>= λ block. Ok (items, block, x.0)) (err_settled _ fault.EntriesLength (λ e. cc))
    (bind_settled (block_at x.1 bytes) (λ block. Ok (items, block, x.0)) (block_settled x.1 bytes) (λ block. ok_settled _))))

pub records_need_their_length : RecordsNeedTheirLength
unfolding Settled
records_need_their_length signature bytes e = by_head (head_at bytes) refl
  where
    by_head : (r : Head) → head_at bytes ≡ r → (len_at bytes ≡ Err fault.CutShort) ⊎ ((len : ℕ) × (len_at bytes ≡ Ok len) × (length bytes < len))
    by_head (Err f) is = inl (len_is bytes (Err f) is ∙ same (sym (record_is signature bytes (Err f) is) ∙ e))
      where
        same : failed f ≡ failed fault.CutShort → failed_len f ≡ failed_len fault.CutShort
        same q = cc
    by_head (Ok x) is = elim (cases_lt (length bytes) x.0) [
      | inl short ↦ inr (x.0, len_is bytes (Ok x) is, short)
      | inr long ↦ absurd (head_settled signature bytes x (sym (record_is signature bytes (Ok x) is ∙ whole_is signature bytes x long) ∙ e))
    ]

pub records_have_their_length : RecordsHaveTheirLength
unfolding record_at header_at
records_have_their_length signature bytes x e =
    let h = bind_ok (header_at bytes) (behind_head signature bytes) x e in
    let a = bind_ok (head_at bytes) (λ head. cond (ltb (length bytes) head.0) (Err fault.CutShort) (Ok head)) h.0 h.1 in
    let g = guard_ok (ltb (length bytes) a.0.0) fault.CutShort a.0 h.0 a.2 in
    let b = bind_ok (unsealed fault.ItemsChecksum signature (take (h.0.0 - h.0.1) (drop h.0.1 bytes))) (λ body. body_at (h.0.1 - 12) body >>= λ items. cond (not (agrees h.0.1 items)) (Err fault.EntriesLength) (block_at h.0.1 bytes >>= λ block. Ok (items, block, h.0.0))) x h.2 in
    let i = bind_ok (body_at (h.0.1 - 12) b.0) (λ items. cond (not (agrees h.0.1 items)) (Err fault.EntriesLength) (block_at h.0.1 bytes >>= λ block. Ok (items, block, h.0.0))) x b.2 in
    let j = guard_then (not (agrees h.0.1 i.0)) fault.EntriesLength (block_at h.0.1 bytes >>= λ block. Ok (i.0, block, h.0.0)) x i.2 in
    let k = bind_ok (block_at h.0.1 bytes) (λ block. Ok (i.0, block, h.0.0)) x j.1 in
    let made : Read = (i.0, k.0, h.0.0) in
    len_is bytes (Ok a.0) a.1 ∙ ap (λ (y : ℕ × ℕ). Ok y.0) g.1 ∙ ap (λ (y : Read). Ok y.2) (ok_is made x k.2)

-- ---- zeros

zeros_head : (more : List ℕ) → head_at (0 ∷ 0 ∷ 0 ∷ 0 ∷ more) ≡ Err fault.BadLength
zeros_head more = long_head (0 ∷ 0 ∷ 0 ∷ 0 ∷ more) (omega arith)

pub zeros_are_no_record : ZerosAreNoRecord
zeros_are_no_record signature more = (len_is (0 ∷ 0 ∷ 0 ∷ 0 ∷ more) (Err fault.BadLength) (zeros_head more), record_is signature (0 ∷ 0 ∷ 0 ∷ 0 ∷ more) (Err fault.BadLength) (zeros_head more))
