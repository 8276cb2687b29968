-- What is read again of bytes that are cut where reading ended.
use Rattle.std.proofs.Common.{◌≡◌, ◌⊎◌, inl, inr, ℕ, zero, suc, ◌+◌, ◌-◌, ◌<◌, ◌≤◌, Bool, true, false, cond, eqb, ltb, List, [], ◌∷◌, ◌++◌, length, take, drop, Option, Some, None, Result, Ok, Err, refl, sym, ap, subst, ◌∙◌, arith, append_assoc, length-take, length-drop, take-append-drop}
use Rattle.std.specs.List.{list_all}
use Rattle.std.proofs.lemmas.Bool.{ltb-false, le-ltb, eqb-true, eqb-false}
use Rattle.std.proofs.lemmas.List.{append-nil, drop-append-le, drop-drop, drop-take, take-take}
use Rattle.raft_log_records.specs.declared.error.RecordFault.{RecordFault}
use Rattle.raft_log_records.specs.declared.error.RecordFault.TheVariants as fault
use Rattle.raft_log_records.specs.Reading.{record_at}
use Rattle.raft_log_records.proofs.Locality.{answers_stay, records_have_their_length}
use Rattle.raft_log_disk.specs.Disk.{FileState}
use Rattle.raft_log_disk.specs.Chance.{AreWritten, IsWritten, gap, padding}
use Rattle.raft_log_file.specs.Reading.{FileBatch, Reading, batch_at, read_from, stopped, with_batch}
use Rattle.raft_log_file.proofs.UnsyncedLemmas.{no_padding, walked}
use Rattle.raft_log_file.proofs.WalkLemmas.{Read, from_end, from_fault, from_found, from_padding, record_front, record_sized}

abbrev Taken : Type 0
Taken = Result Read RecordFault

-- ---- one record

never : (read : Read) (f : RecordFault) → (let r : Taken = Ok read in r ≡ Err f) → ⊥
never read f e = cc

-- a record that is read is read so whatever follows its bytes
pub record_stays : (signature : Option ℕ) (bytes more : List ℕ) (read : Read) → record_at signature bytes ≡ Ok read → record_at signature (take read.2 bytes ++ more) ≡ Ok read
record_stays signature bytes more read is =
    let sized = record_sized signature bytes read is in
    let front : record_at signature (take read.2 bytes) ≡ Ok read = record_front signature bytes read.2 (records_have_their_length signature bytes read is) sized.least ∙ is in
    elim (answers_stay signature (take read.2 bytes) more) [
      | inl cut ↦ absurd (never read fault.CutShort (sym front ∙ cut))
      | inr same ↦ same ∙ front
    ]

-- so too of any front that holds it
pub record_in_front : (signature : Option ℕ) (bytes tail : List ℕ) (n : ℕ) (read : Read) → record_at signature bytes ≡ Ok read → read.2 ≤ n → record_at signature (take n bytes ++ tail) ≡ Ok read
record_in_front signature bytes tail n read is long =
    let parts : take n bytes ≡ take read.2 bytes ++ drop read.2 (take n bytes) = sym (take-append-drop read.2 (take n bytes)) ∙ ap (λ (l : List ℕ). l ++ drop read.2 (take n bytes)) (take-take read.2 n bytes long) in
    ap (record_at signature) (ap (λ (l : List ℕ). l ++ tail) parts ∙ append_assoc (take read.2 bytes) (drop read.2 (take n bytes)) tail) ∙ record_stays signature bytes (drop read.2 (take n bytes) ++ tail) read is

-- where no record is read none is read of fewer bytes
pub fault_in_front : (signature : Option ℕ) (bytes : List ℕ) (n : ℕ) (f : RecordFault) → record_at signature bytes ≡ Err f → (e : RecordFault) × (record_at signature (take n bytes) ≡ Err e)
fault_in_front signature bytes n f is = elim (answers_stay signature (take n bytes) (drop n bytes)) [
  | inl cut ↦ (fault.CutShort, cut)
  | inr same ↦ (f, sym same ∙ ap (record_at signature) (take-append-drop n bytes) ∙ is)
]

-- ---- padding

-- the length of padding, if there is any: zeros up to the next multiple
pub record IsPadding (alignment at : ℕ) (bytes : List ℕ) : Type 0 where
  pub is_gap : padding alignment at bytes ≡ gap alignment at
  pub within : gap alignment at ≤ length bytes
  pub zeros : list_all (λ b. eqb b 0) (take (gap alignment at) bytes) ≡ true

padding_by : (alignment at : ℕ) (bytes : List ℕ) (s z : Bool) → ltb (length bytes) (gap alignment at) ≡ s → list_all (λ b. eqb b 0) (take (gap alignment at) bytes) ≡ z
    → (padding alignment at bytes ≡ 0) ⊎ IsPadding alignment at bytes
padding_by alignment at bytes true z short all = inl (λ i. cond (short i) 0 (cond (list_all (λ b. eqb b 0) (take (gap alignment at) bytes)) (gap alignment at) 0))
padding_by alignment at bytes false false short all = inl ((λ i. cond (short i) 0 (cond (all i) (gap alignment at) 0)))
padding_by alignment at bytes false true short all = inr (record {
  is_gap = λ i. cond (short i) 0 (cond (all i) (gap alignment at) 0);
  within = ltb-false _ _ short;
  zeros = all;
})

pub padding_cases : (alignment at : ℕ) (bytes : List ℕ) → (padding alignment at bytes ≡ 0) ⊎ IsPadding alignment at bytes
padding_cases alignment at bytes = padding_by alignment at bytes (ltb (length bytes) (gap alignment at)) (list_all (λ b. eqb b 0) (take (gap alignment at) bytes)) refl refl

-- padding that lies in a front is padding there
padding_in_front : (alignment at n : ℕ) (bytes : List ℕ) → IsPadding alignment at bytes → gap alignment at ≤ n → padding alignment at (take n bytes) ≡ gap alignment at
padding_in_front alignment at n bytes p long =
    let g : ℕ = gap alignment at in
    let there : ltb (length (take n bytes)) g ≡ false = le-ltb (length (take n bytes)) g (omega (arith, length-take n bytes, p.within, long)) in
    let same : list_all (λ b. eqb b 0) (take g (take n bytes)) ≡ true = ap (list_all (λ b. eqb b 0)) (take-take g n bytes long) ∙ p.zeros in
    λ i. cond (there i) 0 (cond (same i) g 0)

-- ---- a cut where reading ended

-- bytes that read as r from a place on, cut where it ends: the same batches are read, and no fault. No record is read there
pub record IsCutWhole (alignment : ℕ) (signature : Option ℕ) (at : ℕ) (bytes : List ℕ) (r : Reading) : Type 0 where
  pub least : at ≤ r.to
  pub within : r.to ≤ at + length bytes
  pub again : read_from alignment signature at (take (r.to - at) bytes) ≡ record { batches = r.batches; to = r.to; fault = None }
  pub none : (read : Read) → record_at signature (drop (r.to - at) bytes) ≡ Ok read → ⊥
  pub ended : r.fault ≡ None → r.to ≡ at + length bytes

abbrev CutsWhole : ℕ → Option ℕ → ℕ → List ℕ → Type 0
CutsWhole alignment signature at bytes = IsCutWhole alignment signature at bytes (read_from alignment signature at bytes)

stopped_whole : (alignment : ℕ) (signature : Option ℕ) (at : ℕ) (bytes : List ℕ) (f : Option RecordFault) → ((read : Read) → record_at signature bytes ≡ Ok read → ⊥) → (f ≡ None → length bytes ≡ 0) → IsCutWhole alignment signature at bytes (stopped at f)
stopped_whole alignment signature at bytes f none all = record {
  least = omega arith;
  within = omega arith;
  again = from_end alignment signature at (take (at - at) bytes) (omega (arith, length-take (at - at) bytes));
  none = λ read is. none read (ap (record_at signature) (sym (no_drop (at - at) bytes (omega arith))) ∙ is);
  ended = λ is. omega (arith, all is);
}
  where
    no_drop : (n : ℕ) (l : List ℕ) → n ≡ 0 → drop n l ≡ l
    no_drop n l is = ap (λ m. drop m l) is

found_whole : (alignment : ℕ) (signature : Option ℕ) (at : ℕ) (bytes : List ℕ) (read : Read) → record_at signature bytes ≡ Ok read → CutsWhole alignment signature (at + read.2) (drop read.2 bytes) → CutsWhole alignment signature at bytes
found_whole alignment signature at bytes read is inner =
    let n : ℕ = read.2 in
    let r : Reading = read_from alignment signature (at + n) (drop n bytes) in
    let sized = record_sized signature bytes read is in
    let m : ℕ = r.to - at in
    let k : ℕ = r.to - (at + n) in
    let both : m ≡ n + k = omega (arith, inner.least) in
    let again : record_at signature (take m bytes) ≡ Ok read = ap (record_at signature) (sym (append_none (take m bytes))) ∙ record_in_front signature bytes [] m read is (omega (arith, both)) in
    let rest : drop n (take m bytes) ≡ take k (drop n bytes) = ap (λ j. drop n (take j bytes)) both ∙ drop-take n k bytes in
    subst (IsCutWhole alignment signature at bytes) (sym (from_found alignment signature at bytes read is)) (record {
      least = omega (arith, inner.least);
      within = omega (arith, inner.within, length-drop n bytes, sized.within);
      again = from_found alignment signature at (take m bytes) read again ∙ ap (λ (l : List ℕ). with_batch (batch_at at read) (read_from alignment signature (at + n) l)) rest ∙ ap (with_batch (batch_at at read)) inner.again;
      none = λ other found. inner.none other (ap (record_at signature) (drop-drop k n bytes ∙ ap (λ j. drop j bytes) (sym both)) ∙ found);
      ended = λ e. omega (arith, inner.ended e, length-drop n bytes, sized.within);
    })
  where
    append_none : (l : List ℕ) → l ++ [] ≡ l
    append_none [] = refl
    append_none (x ∷ l) = ap (λ (t : List ℕ). x ∷ t) (append_none l)

padded_whole : (alignment : ℕ) (signature : Option ℕ) (at : ℕ) (bytes : List ℕ) (f : RecordFault) → 0 < length bytes → record_at signature bytes ≡ Err f → IsPadding alignment at bytes → (gap alignment at ≡ 0 → ⊥)
    → CutsWhole alignment signature (at + gap alignment at) (drop (gap alignment at) bytes) → CutsWhole alignment signature at bytes
padded_whole alignment signature at bytes f some is p any inner =
    let n : ℕ = gap alignment at in
    let r : Reading = read_from alignment signature (at + n) (drop n bytes) in
    let m : ℕ = r.to - at in
    let k : ℕ = r.to - (at + n) in
    let both : m ≡ n + k = omega (arith, inner.least) in
    let padded : padding alignment at (take m bytes) ≡ n = padding_in_front alignment at m bytes p (omega (arith, both)) in
    let fails = fault_in_front signature bytes m f is in
    let rest : drop n (take m bytes) ≡ take k (drop n bytes) = ap (λ j. drop n (take j bytes)) both ∙ drop-take n k bytes in
    let same : read_from alignment signature at bytes ≡ r = from_padding alignment signature at bytes f some is (λ none. any (sym p.is_gap ∙ none)) ∙ ap (λ j. read_from alignment signature (at + j) (drop j bytes)) p.is_gap in
    let long : 0 < length (take m bytes) = omega (arith, length-take m bytes, both, p.within, any) in
    subst (IsCutWhole alignment signature at bytes) (sym same) (record {
      least = omega (arith, inner.least);
      within = omega (arith, inner.within, length-drop n bytes, p.within);
      again = from_padding alignment signature at (take m bytes) fails.0 long fails.1 (λ none. any (sym padded ∙ none))
          ∙ ap (λ j. read_from alignment signature (at + j) (drop j (take m bytes))) padded ∙ ap (λ (l : List ℕ). read_from alignment signature (at + n) l) rest ∙ inner.again;
      none = λ other found. inner.none other (ap (record_at signature) (drop-drop k n bytes ∙ ap (λ j. drop j bytes) (sym both)) ∙ found);
      ended = λ e. omega (arith, inner.ended e, length-drop n bytes, p.within);
    })

no_fault : (f : RecordFault) (n : ℕ) → (let o : Option RecordFault = Some f in o ≡ None) → n ≡ 0
no_fault f n e = absurd cc

no_read : (signature : Option ℕ) (bytes : List ℕ) (f : RecordFault) → record_at signature bytes ≡ Err f → (read : Read) → record_at signature bytes ≡ Ok read → ⊥
no_read signature bytes f is read found = never read f (sym found ∙ is)

cut_step : (alignment : ℕ) (signature : Option ℕ) (k at : ℕ) (bytes : List ℕ) (r : Taken) → ((to : ℕ) (l : List ℕ) → length l ≤ k → CutsWhole alignment signature to l) → 0 < length bytes → length bytes ≤ suc k → record_at signature bytes ≡ r
    → CutsWhole alignment signature at bytes
cut_step alignment signature k at bytes (Ok read) next some short is =
    let sized = record_sized signature bytes read is in
    found_whole alignment signature at bytes read is (next (at + read.2) (drop read.2 bytes) (omega (arith, length-drop read.2 bytes, sized.least)))
cut_step alignment signature k at bytes (Err f) next some short is = elim (padding_cases alignment at bytes) [
  | inl none ↦ subst (IsCutWhole alignment signature at bytes) (sym (from_fault alignment signature at bytes f some is none)) (stopped_whole alignment signature at bytes (Some f) (no_read signature bytes f is) (no_fault f (length bytes)))
  | inr p ↦ by_gap p (eqb (gap alignment at) 0) refl
]
  where
    by_gap : IsPadding alignment at bytes → (b : Bool) → eqb (gap alignment at) 0 ≡ b → CutsWhole alignment signature at bytes
    by_gap p true e =
        let none : padding alignment at bytes ≡ 0 = p.is_gap ∙ eqb-true (gap alignment at) 0 e in
        subst (IsCutWhole alignment signature at bytes) (sym (from_fault alignment signature at bytes f some is none)) (stopped_whole alignment signature at bytes (Some f) (no_read signature bytes f is) (no_fault f (length bytes)))
    by_gap p false e =
        let any : gap alignment at ≡ 0 → ⊥ = eqb-false (gap alignment at) 0 e in
        padded_whole alignment signature at bytes f some is p any (next (at + gap alignment at) (drop (gap alignment at) bytes) (omega (arith, length-drop (gap alignment at) bytes, any)))

pub cut_whole : (alignment : ℕ) (signature : Option ℕ) (k at : ℕ) (bytes : List ℕ) → length bytes ≤ k → CutsWhole alignment signature at bytes
cut_whole alignment signature k at [] short = subst (IsCutWhole alignment signature at []) (sym (from_end alignment signature at [] refl)) (stopped_whole alignment signature at [] None (λ read is. let sized = record_sized signature [] read is in omega (arith, sized.least, sized.within)) (λ e. refl))
cut_whole alignment signature zero at (b ∷ bytes) short = absurd (omega arith)
cut_whole alignment signature (suc k) at (b ∷ bytes) short =
    cut_step alignment signature k at (b ∷ bytes) (record_at signature (b ∷ bytes)) (λ to l few. cut_whole alignment signature k to l few) (omega arith) short refl

-- ---- a cut behind where reading ended

-- a front that reaches as far reads as the same batches
abbrev FrontReads : ℕ → Option ℕ → ℕ → List ℕ → Type 0
FrontReads alignment signature at bytes =
    (n : ℕ) → (read_from alignment signature at bytes).to ≤ at + n → (read_from alignment signature at (take n bytes)).batches ≡ (read_from alignment signature at bytes).batches

-- where neither a record nor padding stands none stands in a front
front_stops : (alignment : ℕ) (signature : Option ℕ) (at : ℕ) (bytes : List ℕ) (n : ℕ) (f : RecordFault) → record_at signature bytes ≡ Err f → padding alignment at bytes ≡ 0 → (read_from alignment signature at (take n bytes)).batches ≡ []
front_stops alignment signature at bytes n f is none = by_bytes (take n bytes) refl
  where
    no_gap : IsPadding alignment at (take n bytes) → gap alignment at ≡ 0
    no_gap p =
        let g : ℕ = gap alignment at in
        let there : ltb (length bytes) g ≡ false = le-ltb (length bytes) g (omega (arith, length-take n bytes, p.within)) in
        let same : list_all (λ b. eqb b 0) (take g bytes) ≡ true = ap (list_all (λ b. eqb b 0)) (sym (take-take g n bytes (omega (arith, length-take n bytes, p.within)))) ∙ p.zeros in
        sym (λ i. cond (there i) 0 (cond (same i) g 0)) ∙ none

    unpadded : padding alignment at (take n bytes) ≡ 0
    unpadded = elim (padding_cases alignment at (take n bytes)) [
      | inl bare ↦ bare
      | inr p ↦ p.is_gap ∙ no_gap p
    ]

    by_bytes : (l : List ℕ) → take n bytes ≡ l → (read_from alignment signature at (take n bytes)).batches ≡ []
    by_bytes [] same = ap (λ (r : Reading). r.batches) (from_end alignment signature at (take n bytes) (ap length same))
    by_bytes (b ∷ l) same =
        let fails = fault_in_front signature bytes n f is in
        ap (λ (r : Reading). r.batches) (from_fault alignment signature at (take n bytes) fails.0 (omega (arith, ap length same)) fails.1 unpadded)

front_found : (alignment : ℕ) (signature : Option ℕ) (at : ℕ) (bytes : List ℕ) (read : Read) → record_at signature bytes ≡ Ok read → FrontReads alignment signature (at + read.2) (drop read.2 bytes) → FrontReads alignment signature at bytes
front_found alignment signature at bytes read is next n reach =
    let m : ℕ = read.2 in
    let rest : List ℕ = drop m bytes in
    let cut = cut_whole alignment signature (length rest) (at + m) rest (omega arith) in
    let whole = from_found alignment signature at bytes read is in
    let to_is : (read_from alignment signature at bytes).to ≡ (read_from alignment signature (at + m) rest).to = ap (λ (r : Reading). r.to) whole in
    let k : ℕ = n - m in
    let both : n ≡ m + k = omega (arith, cut.least, to_is, reach) in
    let again : record_at signature (take n bytes) ≡ Ok read = ap (record_at signature) (sym (append-nil (take n bytes))) ∙ record_in_front signature bytes [] n read is (omega (arith, both)) in
    let left : drop m (take n bytes) ≡ take k rest = ap (λ j. drop m (take j bytes)) both ∙ drop-take m k bytes in
    ap (λ (r : Reading). r.batches) (from_found alignment signature at (take n bytes) read again)
    ∙ ap (λ (l : List ℕ). batch_at at read ∷ (read_from alignment signature (at + m) l).batches) left
    ∙ ap (λ (l : List FileBatch). batch_at at read ∷ l) (next k (omega (arith, reach, to_is, both)))
    ∙ sym (ap (λ (r : Reading). r.batches) whole)

front_padded : (alignment : ℕ) (signature : Option ℕ) (at : ℕ) (bytes : List ℕ) (f : RecordFault) → 0 < length bytes → record_at signature bytes ≡ Err f → IsPadding alignment at bytes → (gap alignment at ≡ 0 → ⊥)
    → FrontReads alignment signature (at + gap alignment at) (drop (gap alignment at) bytes) → FrontReads alignment signature at bytes
front_padded alignment signature at bytes f some is p any next n reach =
    let g : ℕ = gap alignment at in
    let rest : List ℕ = drop g bytes in
    let cut = cut_whole alignment signature (length rest) (at + g) rest (omega arith) in
    let same : read_from alignment signature at bytes ≡ read_from alignment signature (at + g) rest
    = from_padding alignment signature at bytes f some is (λ none. any (sym p.is_gap ∙ none)) ∙ ap (λ j. read_from alignment signature (at + j) (drop j bytes)) p.is_gap in
    let to_is : (read_from alignment signature at bytes).to ≡ (read_from alignment signature (at + g) rest).to = ap (λ (r : Reading). r.to) same in
    let k : ℕ = n - g in
    let both : n ≡ g + k = omega (arith, cut.least, to_is, reach) in
    let padded : padding alignment at (take n bytes) ≡ g = padding_in_front alignment at n bytes p (omega (arith, both)) in
    let fails = fault_in_front signature bytes n f is in
    let left : drop g (take n bytes) ≡ take k rest = ap (λ j. drop g (take j bytes)) both ∙ drop-take g k bytes in
    let long : 0 < length (take n bytes) = omega (arith, length-take n bytes, both, p.within, any) in
    ap (λ (r : Reading). r.batches)
    (from_padding alignment signature at (take n bytes) fails.0 long fails.1 (λ none. any (sym padded ∙ none))
    ∙ ap (λ j. read_from alignment signature (at + j) (drop j (take n bytes))) padded
    ∙ ap (λ (l : List ℕ). read_from alignment signature (at + g) l) left)
    ∙ next k (omega (arith, reach, to_is, both))
    ∙ sym (ap (λ (r : Reading). r.batches) same)

front_step : (alignment : ℕ) (signature : Option ℕ) (k at : ℕ) (bytes : List ℕ) (r : Taken) → ((to : ℕ) (l : List ℕ) → length l ≤ k → FrontReads alignment signature to l) → 0 < length bytes → length bytes ≤ suc k → record_at signature bytes ≡ r
    → FrontReads alignment signature at bytes
front_step alignment signature k at bytes (Ok read) next some short is =
    let sized = record_sized signature bytes read is in
    front_found alignment signature at bytes read is (next (at + read.2) (drop read.2 bytes) (omega (arith, length-drop read.2 bytes, sized.least)))
front_step alignment signature k at bytes (Err f) next some short is = elim (padding_cases alignment at bytes) [
  | inl none ↦ stops none
  | inr p ↦ by_gap p (eqb (gap alignment at) 0) refl
]
  where
    stops : padding alignment at bytes ≡ 0 → FrontReads alignment signature at bytes
    stops none n reach = front_stops alignment signature at bytes n f is none ∙ sym (ap (λ (r : Reading). r.batches) (from_fault alignment signature at bytes f some is none))

    by_gap : IsPadding alignment at bytes → (b : Bool) → eqb (gap alignment at) 0 ≡ b → FrontReads alignment signature at bytes
    by_gap p true e = stops (p.is_gap ∙ eqb-true (gap alignment at) 0 e)
    by_gap p false e =
        let any : gap alignment at ≡ 0 → ⊥ = eqb-false (gap alignment at) 0 e in
        front_padded alignment signature at bytes f some is p any (next (at + gap alignment at) (drop (gap alignment at) bytes) (omega (arith, length-drop (gap alignment at) bytes, any)))

pub front_reads : (alignment : ℕ) (signature : Option ℕ) (k at : ℕ) (bytes : List ℕ) → length bytes ≤ k → FrontReads alignment signature at bytes
front_reads alignment signature k at [] short n reach =
    ap (λ (r : Reading). r.batches) (from_end alignment signature at (take n []) (omega (arith, length-take {A = ℕ} n [])) ∙ sym (from_end alignment signature at [] refl))
front_reads alignment signature zero at (b ∷ bytes) short n reach = absurd (omega (arith, short))
front_reads alignment signature (suc k) at (b ∷ bytes) short n reach =
    front_step alignment signature k at (b ∷ bytes) (record_at signature (b ∷ bytes)) (λ to l few. front_reads alignment signature k to l few) (omega arith) short refl n reach

-- ---- bytes behind the end that no call wrote there

-- of bytes that begin as these did up to where reading ended, the same batches are read, if no record behind them was written
abbrev ReadsAlike : FileState → Option ℕ → ℕ → List ℕ → Type 0
ReadsAlike f signature at bytes =
    (j : ℕ) (tail : List ℕ) → let r : Reading = read_from 0 signature at bytes in let c : List ℕ = take (r.to - at) bytes ++ tail in AreWritten f 0 signature j at c → length c ≤ j
    → ((read : Read) → record_at signature tail ≡ Ok read → IsWritten f r.to (take read.2 tail) → ⊥) → (read_from 0 signature at c).batches ≡ r.batches

none_behind : (f : FileState) (signature : Option ℕ) (j at : ℕ) (tail : List ℕ) (t : Taken) → record_at signature tail ≡ t → AreWritten f 0 signature j at tail → length tail ≤ j
    → ((read : Read) → record_at signature tail ≡ Ok read → IsWritten f at (take read.2 tail) → ⊥) → (read_from 0 signature at tail).batches ≡ []
none_behind f signature j at tail (Ok read) is walk short none = absurd (none read is (walked f signature j at tail read is short walk).0)
none_behind f signature j at [] (Err e) is walk short none = ap (λ (r : Reading). r.batches) (from_end 0 signature at [] refl)
none_behind f signature j at (b ∷ tail) (Err e) is walk short none = ap (λ (r : Reading). r.batches) (from_fault 0 signature at (b ∷ tail) e (omega arith) is (no_padding at (b ∷ tail)))

stopped_alike : (f : FileState) (signature : Option ℕ) (at : ℕ) (bytes : List ℕ) (e : Option RecordFault) → read_from 0 signature at bytes ≡ stopped at e → ReadsAlike f signature at bytes
stopped_alike f signature at bytes e is j tail walk short none =
    let here : (read_from 0 signature at bytes).to ≡ at = ap (λ (r : Reading). r.to) is in
    let nothing : take ((read_from 0 signature at bytes).to - at) bytes ++ tail ≡ tail = ap (λ (l : List ℕ). l ++ tail) (no_front ((read_from 0 signature at bytes).to - at) bytes (omega (arith, here))) in
    ap (λ (l : List ℕ). (read_from 0 signature at l).batches) nothing
    ∙ none_behind f signature j at tail (record_at signature tail) refl (subst (λ (l : List ℕ). AreWritten f 0 signature j at l) nothing walk) (omega (arith, ap length nothing, short))
    (λ read found. subst (λ n. IsWritten f n (take read.2 tail) → ⊥) here (none read found))
    ∙ sym (ap (λ (r : Reading). r.batches) is)
  where
    no_front : (n : ℕ) (l : List ℕ) → n ≡ 0 → take n l ≡ []
    no_front n l is = ap (λ m. take m l) is

found_alike : (f : FileState) (signature : Option ℕ) (at : ℕ) (bytes : List ℕ) (read : Read) → record_at signature bytes ≡ Ok read → CutsWhole 0 signature (at + read.2) (drop read.2 bytes)
    → ReadsAlike f signature (at + read.2) (drop read.2 bytes) → ReadsAlike f signature at bytes
found_alike f signature at bytes read is cuts next j tail walk short none =
    let n : ℕ = read.2 in
    let r : Reading = read_from 0 signature (at + n) (drop n bytes) in
    let whole = from_found 0 signature at bytes read is in
    let to_is : (read_from 0 signature at bytes).to ≡ r.to = ap (λ (x : Reading). x.to) whole in
    let m : ℕ = (read_from 0 signature at bytes).to - at in
    let k : ℕ = r.to - (at + n) in
    let c : List ℕ = take m bytes ++ tail in
    let sized = record_sized signature bytes read is in
    let both : m ≡ n + k = omega (arith, cuts.least, to_is) in
    let again : record_at signature c ≡ Ok read = record_in_front signature bytes tail m read is (omega (arith, both)) in
    let rest : drop n c ≡ take k (drop n bytes) ++ tail =
    drop-append-le n (take m bytes) tail (omega (arith, length-take m bytes, both, sized.within)) ∙ ap (λ (l : List ℕ). l ++ tail) (ap (λ i. drop n (take i bytes)) both ∙ drop-take n k bytes) in
    let w = walked f signature j at c read again short walk in
    let inner : (read_from 0 signature (at + n) (drop n c)).batches ≡ r.batches =
    ap (λ (l : List ℕ). (read_from 0 signature (at + n) l).batches) rest
    ∙ next w.1.0 tail (subst (λ (l : List ℕ). AreWritten f 0 signature w.1.0 (at + n) l) rest w.1.2) (omega (arith, ap length rest, w.1.1))
    (λ other found. subst (λ t. IsWritten f t (take other.2 tail) → ⊥) to_is (none other found)) in
    ap (λ (x : Reading). x.batches) (from_found 0 signature at c read again) ∙ ap (λ (l : List FileBatch). batch_at at read ∷ l) inner ∙ sym (ap (λ (x : Reading). x.batches) whole)

alike_step : (f : FileState) (signature : Option ℕ) (k at : ℕ) (bytes : List ℕ) (t : Taken) → ((to : ℕ) (l : List ℕ) → length l ≤ k → ReadsAlike f signature to l) → 0 < length bytes → length bytes ≤ suc k → record_at signature bytes ≡ t
    → ReadsAlike f signature at bytes
alike_step f signature k at bytes (Ok read) next some short is =
    let sized = record_sized signature bytes read is in
    found_alike f signature at bytes read is (cut_whole 0 signature (length (drop read.2 bytes)) (at + read.2) (drop read.2 bytes) (omega arith)) (next (at + read.2) (drop read.2 bytes) (omega (arith, length-drop read.2 bytes, sized.least, short)))
alike_step f signature k at bytes (Err e) next some short is = stopped_alike f signature at bytes (Some e) (from_fault 0 signature at bytes e some is (no_padding at bytes))

pub reads_alike : (f : FileState) (signature : Option ℕ) (k at : ℕ) (bytes : List ℕ) → length bytes ≤ k → ReadsAlike f signature at bytes
reads_alike f signature k at [] short = stopped_alike f signature at [] None (from_end 0 signature at [] refl)
reads_alike f signature zero at (b ∷ bytes) short = absurd (omega arith)
reads_alike f signature (suc k) at (b ∷ bytes) short =
    alike_step f signature k at (b ∷ bytes) (record_at signature (b ∷ bytes)) (λ to l few. reads_alike f signature k to l few) (omega arith) short refl
