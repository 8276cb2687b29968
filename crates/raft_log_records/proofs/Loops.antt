-- Reading parts one after the other, as a loop does.
use Rattle.std.proofs.Common.{◌≡◌, ℕ, suc, ◌-◌, ◌+◌, ◌≤◌, ◌<◌, List, [], ◌∷◌, ◌++◌, Result, Ok, Err, refl, sym, ap, ◌∙◌, append_assoc, arith}
use Rattle.std.proofs.lemmas.List.{append-nil}
use Rattle.raft_log_records.specs.declared.error.RecordFault.{RecordFault}
use Rattle.raft_log_records.specs.declared.error.RecordError.{RecordError}
use Rattle.raft_log_records.specs.declared.error.RecordError.TheVariants as errors
use Rattle.raft_log_records.specs.declared.item.EntryIndex.{EntryIndex}
use Rattle.raft_log_records.specs.Item.{Item}
use Rattle.raft_log_records.specs.Reading.{◌>>=◌, Fails, entry_at, entries_at, item_at, items_at}

-- what is read: parts, how many bytes of the block they take, and the rest
abbrev pub Read : Type 0 → Type 0
Read A = Result (List A × ℕ × List ℕ) RecordFault

-- what was read before, and what is still read
abbrev pub with_front : {A : Type 0} → List A → Read A → Read A
with_front front read = read >>= λ x. Ok (front ++ x.0, x.1, x.2)

pub regroup : {A : Type 0} (front : List A) (a : A) (read : Read A) → with_front front (read >>= λ x. Ok (a ∷ x.0, x.1, x.2)) ≡ with_front (front ++ a ∷ []) read
regroup {A} front a (Ok x) = ap (λ (parts : List A). Ok (parts, x.1, x.2)) (simp append_assoc)
regroup front a (Err f) = refl

-- ---- entries

pub entries_go_on : (front : List EntryIndex) (count i first limit at : ℕ) (bytes : List ℕ) (e : EntryIndex) (after : List ℕ) (total : Read EntryIndex) → i < count
    → entry_at (first + i) limit at bytes ≡ Ok (e, after)
    → with_front front (entries_at (count - i) (first + i) limit at bytes) ≡ total → with_front (front ++ e ∷ []) (entries_at (count - (i + 1)) (first + (i + 1)) limit (at + e.entry_len) after) ≡ total
unfolding entries_at
entries_go_on front count i first limit at bytes e after total lt h so_far =
    let k : count - i ≡ suc (count - (i + 1)) = omega arith in
    let next : first + i + 1 ≡ first + (i + 1) = omega arith in
    let one : with_front front (entries_at (count - i) (first + i) limit at bytes) ≡ with_front (front ++ e ∷ []) (entries_at (count - (i + 1)) (first + i + 1) limit (at + e.entry_len) after) =
    rw (k, h) (regroup front e (entries_at (count - (i + 1)) (first + i + 1) limit (at + e.entry_len) after)) in
    ap (λ (n : ℕ). with_front (front ++ e ∷ []) (entries_at (count - (i + 1)) n limit (at + e.entry_len) after)) (sym next) ∙ sym one ∙ so_far

pub entries_fail : (e : RecordError) (front : List EntryIndex) (count i first limit at : ℕ) (bytes : List ℕ) (total : Read EntryIndex) → i < count → Fails e (entry_at (first + i) limit at bytes)
    → with_front front (entries_at (count - i) (first + i) limit at bytes) ≡ total → Fails e total
unfolding entries_at
entries_fail errors.Memory front count i first limit at bytes total lt h so_far = tt
entries_fail errors.TooLong front count i first limit at bytes total lt h so_far = h
entries_fail (errors.Corruption f) front count i first limit at bytes total lt h so_far =
    let k : count - i ≡ suc (count - (i + 1)) = omega arith in
    let one : with_front front (entries_at (count - i) (first + i) limit at bytes) ≡ Err f = rw (k, h) refl in
    sym so_far ∙ one

pub entries_done : (front : List EntryIndex) (count i first limit at : ℕ) (bytes : List ℕ) (total : Read EntryIndex) → count ≤ i → with_front front (entries_at (count - i) (first + i) limit at bytes) ≡ total → total ≡ Ok (front, at, bytes)
unfolding entries_at
entries_done front count i first limit at bytes total le so_far =
    let k : count - i ≡ 0 = omega arith in
    let one : with_front front (entries_at (count - i) (first + i) limit at bytes) ≡ Ok (front, at, bytes) = rw k (ap (λ (es : List EntryIndex). Ok (es, at, bytes)) (append-nil front)) in
    sym so_far ∙ one

-- ---- items

abbrev LogRead : Type 0
LogRead = Read (Item EntryIndex)

pub items_go_on : (front : List (Item EntryIndex)) (count i limit at : ℕ) (bytes : List ℕ) (item : Item EntryIndex) (at' : ℕ) (after : List ℕ) (total : LogRead) → i < count
    → item_at limit at bytes ≡ Ok (item, at', after)
    → with_front front (items_at (count - i) limit at bytes) ≡ total → with_front (front ++ item ∷ []) (items_at (count - (i + 1)) limit at' after) ≡ total
unfolding items_at
items_go_on front count i limit at bytes item at' after total lt h so_far =
    let k : count - i ≡ suc (count - (i + 1)) = omega arith in
    let one : with_front front (items_at (count - i) limit at bytes) ≡ with_front (front ++ item ∷ []) (items_at (count - (i + 1)) limit at' after) =
    rw (k, h) (regroup front item (items_at (count - (i + 1)) limit at' after)) in
    sym one ∙ so_far

pub items_fail : (e : RecordError) (front : List (Item EntryIndex)) (count i limit at : ℕ) (bytes : List ℕ) (total : LogRead) → i < count → Fails e (item_at limit at bytes)
    → with_front front (items_at (count - i) limit at bytes) ≡ total → Fails e total
unfolding items_at
items_fail errors.Memory front count i limit at bytes total lt h so_far = tt
items_fail errors.TooLong front count i limit at bytes total lt h so_far = h
items_fail (errors.Corruption f) front count i limit at bytes total lt h so_far =
    let k : count - i ≡ suc (count - (i + 1)) = omega arith in
    let one : with_front front (items_at (count - i) limit at bytes) ≡ Err f = rw (k, h) refl in
    sym so_far ∙ one

pub items_done : (front : List (Item EntryIndex)) (count i limit at : ℕ) (bytes : List ℕ) (total : LogRead) → count ≤ i → with_front front (items_at (count - i) limit at bytes) ≡ total → total ≡ Ok (front, at, bytes)
unfolding items_at
items_done front count i limit at bytes total le so_far =
    let k : count - i ≡ 0 = omega arith in
    let one : with_front front (items_at (count - i) limit at bytes) ≡ Ok (front, at, bytes) = rw k (ap (λ (is : List (Item EntryIndex)). Ok (is, at, bytes)) (append-nil front)) in
    sym so_far ∙ one
