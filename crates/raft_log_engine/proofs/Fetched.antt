-- Entries of a range, from where they lie.
use Rattle.std.proofs.Common.{◌≡◌, ◌⊎◌, inl, inr, ℕ, suc, ◌+◌, ◌-◌, ◌<◌, ◌≤◌, Bool, true, false, List, [], ◌∷◌, ◌++◌, length, map, Option, Some, None, Vec, Global, refl, sym, ap, subst, ◌∙◌, arith}
use Rattle.std.proofs.lemmas.Bool.{cases_lt}
use Rattle.std.proofs.lemmas.List.{length-map}
use Rattle.std.proofs.lemmas.List.Sums.{sum_by-append, sum_by-cons}
use Rattle.std.proofs.lemmas.Option.{slice_get-map, slice_get_read, slice_get_within}
use Rattle.std.specs.Prelude.{Contains, Result, Ok, Err, IfOk, sum_by}
use Rattle.std.specs.List.{slice_get}
use Rattle.std.specs.Option.{option_map}
use Rattle.raft_log_records.specs.declared.item.EntryIndex.{EntryIndex}
use Rattle.raft_log_records.specs.Batch.{payloads}
use Rattle.raft_log_memtables.specs.Content.{GroupContent}
use Rattle.raft_log_memtables.specs.ContentLaws.{group_map}
use Rattle.raft_log_memtables.specs.Fetch.{AreFetched, Fits, IsInside}
use Rattle.raft_content_log.specs.Leaving.{AreEntries}
use Rattle.raft_log_engine.specs.declared.fault.EngineFault.{EngineFault}
use Rattle.raft_log_engine.specs.Reads.{AreRead, FitsIn, HasRead}

-- places that are read with the lengths that they say
abbrev AreLong : (EntryIndex → List ℕ) → List EntryIndex → Type 0
AreLong read es = (i : ℕ) (e : EntryIndex) → slice_get es i ≡ Some e → length (read e) ≡ e.entry_len

long_sum : (read : EntryIndex → List ℕ) (es : List EntryIndex) → AreLong read es → sum_by length (map read es) ≡ sum_by (λ e. e.entry_len) es
long_sum read [] long = refl
long_sum read (e ∷ es) long =
    sum_by-cons length (read e) (map read es)
    ∙ (λ i. long 0 e refl i + long_sum read es (λ k x is. long (suc k) x is) i)
    ∙ sym (sum_by-cons (λ (x : EntryIndex). x.entry_len) e es)

fits_in : (read : EntryIndex → List ℕ) (size : Option ℕ) (es : List EntryIndex) → AreLong read es → Fits size es → FitsIn size (map read es)
fits_in read None es long fits = tt
fits_in read (Some most) es long fits = subst (λ (n : ℕ). n ≤ most) (sym (long_sum read es long)) fits

passes : (read : EntryIndex → List ℕ) (size : Option ℕ) (es : List EntryIndex) (next : EntryIndex) → AreLong read es → length (read next) ≡ next.entry_len → FitsIn size (map read es ++ read next ∷ []) → Fits size (es ++ next ∷ [])
passes read None es next long last fits = tt
passes read (Some most) es next long last fits =
    omega (arith, fits, last, long_sum read es long, sum_by-append length (map read es) (read next ∷ []), sum_by-append (λ (e : EntryIndex). e.entry_len) es (next ∷ []))

are_read : (read : EntryIndex → List ℕ) (entry : ℕ → Option EntryIndex) (begin end : ℕ) (size : Option ℕ) (es : List EntryIndex) → ((i : ℕ) (e : EntryIndex) → entry i ≡ Some e → length (read e) ≡ e.entry_len)
    → AreFetched entry begin end size es → AreRead (λ i. option_map read (entry i)) begin end size (map read es)
are_read read entry begin end size es measured f =
    let len : length (map read es) ≡ length es = length-map es read in
    let long : AreLong read es = λ i e is. measured (begin + i) e (sym (f.each i (slice_get_within es i e is)) ∙ is) in
    record {
      each = λ i lt. slice_get-map read es i ∙ ap (option_map read) (f.each i (omega (arith, lt, len)));
      short = omega (arith, len, f.short);
      fit = λ lt. fits_in read size es long (f.fit (omega (arith, lt, len)));
      all = λ lt.
          let some = f.all (omega (arith, lt, len)) in
          let next = some.1 in (
            omega (arith, len, some.0),
            (
              read next.0,
              ap (λ (n : ℕ). option_map read (entry (begin + n))) len ∙ ap (option_map read) next.1,
              λ fits. next.2 (passes read size es next.0 long (measured (begin + length es) next.0 next.1) fits),
            ),
          );
    }

-- a range without an index
none_read : (entry : ℕ → Option (List ℕ)) (begin end : ℕ) (size : Option ℕ) → end ≤ begin → AreRead entry begin end size []
none_read entry begin end size none = record {
  each = λ i lt. absurd (omega (arith, lt));
  short = omega arith;
  fit = λ lt. absurd (omega (arith, lt));
  all = λ lt. absurd (omega (arith, lt, none));
}

pub has_read : (read : EntryIndex → List ℕ) (group : GroupContent EntryIndex) (begin end : ℕ) (size : Option ℕ) (es : List EntryIndex) → ((i : ℕ) (e : EntryIndex) → group.entry i ≡ Some e → length (read e) ≡ e.entry_len)
    → (group.there ≡ true → begin < end → IsInside group.entry begin end × AreFetched group.entry begin end size es) → (end ≤ begin → es ≡ []) → (group.there ≡ false → es ≡ [])
    → HasRead (group_map read group) begin end size (map read es)
has_read read group begin end size es measured some none unknown = record {
  there = λ there. by_test there (cases_lt begin end);
  unknown = λ unknown_group. ap (map read) (unknown unknown_group);
}
  where
    by_test : group.there ≡ true → (begin < end) ⊎ (end ≤ begin) → AreRead (λ i. option_map read (group.entry i)) begin end size (map read es)
    by_test there (inl lt) = are_read read group.entry begin end size es measured (some there lt).1
    by_test there (inr ge) = subst (λ (l : List EntryIndex). AreRead (λ i. option_map read (group.entry i)) begin end size (map read l)) (sym (none ge)) (none_read (λ i. option_map read (group.entry i)) begin end size ge)

-- copies of what lies there
pub copied : (r : Result (Vec (Vec ℕ Global) Global) EngineFault) (read : EntryIndex → List ℕ) (group : GroupContent EntryIndex) (begin end : ℕ) (size : Option ℕ) (es : List EntryIndex)
    → IfOk r (λ found. payloads found.items ≡ map read es) → HasRead (group_map read group) begin end size (map read es) → IfOk r (λ found. HasRead (group_map read group) begin end size (payloads found.items))
copied (Err e) read group begin end size es are has = tt
copied (Ok found) read group begin end size es are has = subst (λ (l : List (List ℕ)). HasRead (group_map read group) begin end size l) (sym are) has

-- ---- where the range's entries stand

no_place : (es : List EntryIndex) (e : EntryIndex) → es ≡ [] → Contains es e → ⊥
no_place es e none there =
    let within : length es ≡ 0 = ap length none in
    omega (arith, there.1, within)

pub fetched_there : (group : GroupContent EntryIndex) (begin end : ℕ) (size : Option ℕ) (es : List EntryIndex)
    → (group.there ≡ true → begin < end → IsInside group.entry begin end × AreFetched group.entry begin end size es) → (end ≤ begin → es ≡ []) → (group.there ≡ false → es ≡ [])
    → (e : EntryIndex) → Contains es e → (index : ℕ) × (begin ≤ index) × (index < end) × (group.entry index ≡ Some e)
fetched_there group begin end size es some none unknown e among = by_flag group.there refl
  where
    by_test : group.there ≡ true → (begin < end) ⊎ (end ≤ begin) → (index : ℕ) × (begin ≤ index) × (index < end) × (group.entry index ≡ Some e)
    by_test there (inl lt) =
        let f = (some there lt).1 in
        (begin + among.0, omega arith, omega (arith, f.short, among.1), sym (f.each among.0 among.1) ∙ slice_get_read es (length es) among.0 e refl among.1 (sym among.2))
    by_test there (inr ge) = absurd (no_place es e (none ge) among)

    by_flag : (t : Bool) → group.there ≡ t → (index : ℕ) × (begin ≤ index) × (index < end) × (group.entry index ≡ Some e)
    by_flag true there = by_test there (cases_lt begin end)
    by_flag false un = absurd (no_place es e (unknown un) among)

-- as many as were asked for
pub copied_count : (r : Result (Vec (Vec ℕ Global) Global) EngineFault) (read : EntryIndex → List ℕ) (es : List EntryIndex) (old new : ℕ) → IfOk r (λ found. payloads found.items ≡ map read es) → new ≤ old + length es
    → IfOk r (λ found. new ≤ old + length found.items)
copied_count (Err e) read es old new are few = tt
copied_count (Ok found) read es old new are few =
    omega (arith, few, length-map es read, ap length are, length-map found.items (λ (v : Vec ℕ Global). v.items))

-- where none is left out these are the entries of the range
pub all_read : (group : GroupContent (List ℕ)) (begin end : ℕ) (found : List (List ℕ)) → HasRead group begin end None found → length found ≡ end - begin → AreEntries group.entry begin end found
all_read group begin end found read len = record { len = len; each = λ i lt. by_there i (omega (arith, lt, len)) group.there refl }
  where
    by_there : (i : ℕ) → i < length found → (b : Bool) → group.there ≡ b → slice_get found i ≡ group.entry (begin + i)
    by_there i lt true is = (read.there is).each i lt
    by_there i lt false is = absurd (omega (arith, lt, ap length (read.unknown is)))
