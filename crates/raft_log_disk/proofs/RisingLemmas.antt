-- The files' numbers rise, through all changes of names, so one is found by halving.
use Rattle.std.proofs.Common.{◌≡◌, ◌≢◌, ℕ, zero, suc, ◌+◌, ◌-◌, ◌<◌, ◌≤◌, Bool, true, false, cond, inl, inr, List, [], ◌∷◌, ◌++◌, length, get_or, Some, None, Result, Ok, Err, refl, sym, ap, ◌∙◌, arith}
use Rattle.std.specs.Prelude.{nat_lt, ◌&&◌, slice_set, remove}
use Rattle.std.specs.List.{list_all}
use Rattle.std.specs.List.Sorted.{IsSearchInRange, IsBinarySearchResult, IsNonDecreasingBy}
use Rattle.std.specs.Ordering.{nat_cmp, ordering_index}
use Rattle.std.specs.declared.cmp.Ordering.TheVariants.{Equal}
use Rattle.std.specs.Result.{result_ok}
use Rattle.std.specs.String.{string_bytes}
use Rattle.std.proofs.lemmas.Bool.{eq-eqb, ne_eqb, ltb-true, and_parts, cases_lt}
use Rattle.std.proofs.lemmas.Bool.Decides.{nat_tests}
use Rattle.std.proofs.lemmas.Cmp.{ranked}
use Rattle.std.proofs.lemmas.List.Folds.{list_all-append}
use Rattle.raft_log_disk.specs.declared.memory_file.MemoryFile.{MemoryFile}
use Rattle.raft_log_disk.specs.declared.crash.CrashChoice.{CrashChoice}
use Rattle.raft_log_disk.specs.Text.{Text, same_text}
use Rattle.raft_log_disk.specs.Disk.{are_named, without, moved}
use Rattle.raft_log_disk.specs.Memory.{names_of, place_of, are_rising}
use Rattle.raft_log_disk.specs.Place.{IsPlace, IsPathPlace}
use Rattle.raft_log_disk.specs.Crashed.{AreCrashed}
use Rattle.raft_log_disk.proofs.NamedLemmas.{named_first}
use Rattle.raft_log_disk.proofs.FilesLemmas.{set_names, names_pushed}
use Rattle.raft_log_disk.proofs.CrashLemmas.{crashed_names}

abbrev Names : Type 0
Names = List (Text × ℕ)

-- the number is below those of all names
abbrev is_below : ℕ → Names → Bool
is_below n es = list_all (λ other. nat_lt n other.1) es

rising_parts : (e : Text × ℕ) (es : Names) → are_rising (e ∷ es) ≡ true → (is_below e.1 es ≡ true) × (are_rising es ≡ true)
rising_parts e es h = and_parts (is_below e.1 es) (are_rising es) h

rising_join : (e : Text × ℕ) (es : Names) → is_below e.1 es ≡ true → are_rising es ≡ true → are_rising (e ∷ es) ≡ true
rising_join e es below rising = λ i. below i && rising i

-- ---- names that come, go and move

rising_push : (es : Names) (path : Text) (next : ℕ) → are_named es next ≡ true → are_rising es ≡ true → are_rising (es ++ (path, next) ∷ []) ≡ true
rising_push [] path next named rising = refl
rising_push (e ∷ es) path next named rising =
    let p = named_first e es next named in
    let r = rising_parts e es rising in
    rising_join e (es ++ (path, next) ∷ [])
    (list_all-append (λ (other : Text × ℕ). nat_lt e.1 other.1) es ((path, next) ∷ []) ∙ (λ i. r.0 i && (p.below i && true)))
    (rising_push es path next p.others r.1)

below_step : (t : Bool) (n : ℕ) (e : Text × ℕ) (es rest : Names) → is_below n (e ∷ es) ≡ true → is_below n rest ≡ true → is_below n (cond t es (e ∷ rest)) ≡ true
below_step true n e es rest h next = (and_parts (nat_lt n e.1) (is_below n es) h).1
below_step false n e es rest h next = λ i. (and_parts (nat_lt n e.1) (is_below n es) h).0 i && next i

below_without : (n : ℕ) (es : Names) (path : Text) → is_below n es ≡ true → is_below n (without es path) ≡ true
below_without n [] path h = refl
below_without n (e ∷ es) path h = below_step (same_text e.0 path) n e es (without es path) h (below_without n es path (and_parts (nat_lt n e.1) (is_below n es) h).1)

without_step : (t : Bool) (e : Text × ℕ) (es rest : Names) → are_rising es ≡ true → are_rising (e ∷ rest) ≡ true → are_rising (cond t es (e ∷ rest)) ≡ true
without_step true e es rest h next = h
without_step false e es rest h next = next

rising_without : (es : Names) (path : Text) → are_rising es ≡ true → are_rising (without es path) ≡ true
rising_without [] path h = refl
rising_without (e ∷ es) path h =
    let r = rising_parts e es h in
    without_step (same_text e.0 path) e es (without es path) r.1 (rising_join e (without es path) (below_without e.1 es path r.0) (rising_without es path r.1))

moved_below : (t : Bool) (n : ℕ) (e : Text × ℕ) (es rest : Names) (to : Text) → is_below n rest ≡ is_below n es → is_below n (cond t ((to, e.1) ∷ es) (e ∷ rest)) ≡ is_below n (e ∷ es)
moved_below true n e es rest to next = refl
moved_below false n e es rest to next = ap (λ t. nat_lt n e.1 && t) next

below_moved : (n : ℕ) (es : Names) (from to : Text) → is_below n (moved es from to) ≡ is_below n es
below_moved n [] from to = refl
below_moved n (e ∷ es) from to = moved_below (same_text e.0 from) n e es (moved es from to) to (below_moved n es from to)

moved_step : (t : Bool) (e : Text × ℕ) (es rest : Names) (to : Text) → is_below e.1 rest ≡ is_below e.1 es → are_rising rest ≡ are_rising es → are_rising (cond t ((to, e.1) ∷ es) (e ∷ rest)) ≡ are_rising (e ∷ es)
moved_step true e es rest to below next = refl
moved_step false e es rest to below next = λ i. below i && next i

rising_moved : (es : Names) (from to : Text) → are_rising (moved es from to) ≡ are_rising es
rising_moved [] from to = refl
rising_moved (e ∷ es) from to = moved_step (same_text e.0 from) e es (moved es from to) to (below_moved e.1 es from to) (rising_moved es from to)

-- ---- and of the files

pub still_rising : (fs : List MemoryFile) (number i : ℕ) (old s : MemoryFile) → are_rising (names_of fs) ≡ true → IsPlace fs number i → old ≡ get_or fs i old → s.number ≡ old.number → s.path ≡ old.path → are_rising (names_of (slice_set fs i s)) ≡ true
still_rising fs number i old s h p is n q = ap are_rising (set_names fs number i old s p is n q) ∙ h

pub pushed_rising : (fs gs : List MemoryFile) (f : MemoryFile) (path : Text) (next : ℕ) → are_named (names_of fs) next ≡ true → are_rising (names_of fs) ≡ true → gs ≡ fs ++ f ∷ [] → f.number ≡ next → string_bytes f.path ≡ path → are_rising (names_of gs) ≡ true
pushed_rising fs gs f path next named h is n p = ap are_rising (names_pushed fs gs f path next is n p) ∙ rising_push (names_of fs) path next named h

pub without_rising : (fs gs : List MemoryFile) (path : Text) (i : ℕ) → are_rising (names_of fs) ≡ true → IsPathPlace fs path i → gs ≡ remove fs i → are_rising (names_of gs) ≡ true
without_rising fs gs path i h p is = ap (λ l. are_rising (names_of l)) is ∙ ap are_rising p.gone ∙ rising_without (names_of fs) path h

pub moved_rising : (fs : List MemoryFile) (from : Text) (i : ℕ) (old s : MemoryFile) → are_rising (names_of fs) ≡ true → IsPathPlace fs from i → old ≡ get_or fs i old → s.number ≡ old.number → are_rising (names_of (slice_set fs i s)) ≡ true
moved_rising fs from i old s h p is n =
    ap are_rising (p.moves s old (n ∙ ap (λ (f : MemoryFile). f.number) is)) ∙ rising_moved (names_of fs) from (string_bytes s.path) ∙ h

pub crashed_rising : (choice : CrashChoice) (fs gs : List MemoryFile) → are_rising (names_of fs) ≡ true → AreCrashed choice fs gs → are_rising (names_of gs) ≡ true
crashed_rising choice fs gs h c = ap are_rising (crashed_names choice fs gs c) ∙ h

-- ---- halving

abbrev number_at : List MemoryFile → ℕ → MemoryFile → ℕ
number_at fs k d = (get_or fs k d).number

below_each : (n : ℕ) (fs : List MemoryFile) (k : ℕ) (d : MemoryFile) → is_below n (names_of fs) ≡ true → k < length fs → n < number_at fs k d
below_each n [] k d h lt = absurd (omega arith)
below_each n (f ∷ fs) zero d h lt = ltb-true n f.number (and_parts (nat_lt n f.number) (is_below n (names_of fs)) h).0
below_each n (f ∷ fs) (suc k) d h lt = below_each n fs k d (and_parts (nat_lt n f.number) (is_below n (names_of fs)) h).1 (omega arith)

-- a later file has a greater number
pub numbers_rise : (fs : List MemoryFile) (d : MemoryFile) (i j : ℕ) → are_rising (names_of fs) ≡ true → i < j → j < length fs → number_at fs i d < number_at fs j d
numbers_rise [] d i j h less lt = absurd (omega arith)
numbers_rise (f ∷ fs) d i zero h less lt = absurd (omega arith)
numbers_rise (f ∷ fs) d zero (suc j) h less lt = below_each f.number fs j d (rising_parts (string_bytes f.path, f.number) (names_of fs) h).0 (omega arith)
numbers_rise (f ∷ fs) d (suc i) (suc j) h less lt = numbers_rise fs d i j (rising_parts (string_bytes f.path, f.number) (names_of fs) h).1 (omega arith) (omega arith)

comparisons_rise : (fs : List MemoryFile) (number : ℕ) → are_rising (names_of fs) ≡ true → IsNonDecreasingBy (λ f. ordering_index (nat_cmp f.number number)) fs
comparisons_rise fs number h = λ i j d le lt.
    let rise : number_at fs i d ≤ number_at fs j d = grind (arith, numbers_rise fs d i j h, λ (same : i ≡ j). ap (λ k. number_at fs k d) same) in
    grind (arith, nat_tests)

place_at : (fs : List MemoryFile) (number k from : ℕ) (d : MemoryFile) → are_rising (names_of fs) ≡ true → k < length fs → number_at fs k d ≡ number → place_of fs number from ≡ Some (from + k)
place_at [] number k from d h lt is = absurd (omega arith)
place_at (f ∷ fs) number zero from d h lt is =
    ap (λ b. cond b (Some from) (place_of fs number (from + 1))) (eq-eqb f.number number is) ∙ ap Some (omega arith)
place_at (f ∷ fs) number (suc k) from d h lt is =
    let r = rising_parts (string_bytes f.path, f.number) (names_of fs) h in
    let less = below_each f.number fs k d r.0 (omega arith) in
    ap (λ b. cond b (Some from) (place_of fs number (from + 1))) (ne_eqb f.number number (omega (arith, less, is)))
    ∙ place_at fs number k (from + 1) d r.1 (omega arith) is ∙ ap Some (omega arith)

no_place : (fs : List MemoryFile) (number from : ℕ) → ((k : ℕ) (d : MemoryFile) → k < length fs → number_at fs k d ≢ number) → place_of fs number from ≡ None
no_place [] number from none = refl
no_place (f ∷ fs) number from none =
    ap (λ b. cond b (Some from) (place_of fs number (from + 1))) (ne_eqb f.number number (none 0 f (omega arith)))
    ∙ no_place fs number (from + 1) (λ k d lt. none (suc k) d (omega arith))

place_there : (fs : List MemoryFile) (number k : ℕ) (d : MemoryFile) → are_rising (names_of fs) ≡ true → k < length fs → number_at fs k d ≡ number → Some k ≡ place_of fs number 0
place_there fs number k d h lt is = let from_front : k ≡ 0 + k = omega arith in ap Some from_front ∙ sym (place_at fs number k 0 d h lt is)

-- the newest file has the last place
pub newest : (fs : List MemoryFile) (number : ℕ) (f : MemoryFile) → are_rising (names_of fs) ≡ true → 1 ≤ length fs → f ≡ get_or fs (length fs - 1) f → f.number ≡ number → Some (length fs - 1) ≡ place_of fs number 0
newest fs number f h some is same = place_there fs number (length fs - 1) f h (omega arith) (ap (λ (g : MemoryFile). g.number) (sym is) ∙ same)

some_place : (fs : List MemoryFile) (number k : ℕ) → are_rising (names_of fs) ≡ true → k < length fs → ((d : MemoryFile) → nat_cmp (number_at fs k d) number ≡ Equal) → Some k ≡ place_of fs number 0
some_place [] number k h lt same = absurd (omega arith)
some_place (f ∷ fs) number k h lt same = place_there (f ∷ fs) number k f h lt (ranked _ number _ (sym (same f)))

-- a search by halving finds the place of the number
pub halved : (fs : List MemoryFile) (number : ℕ) (r : Result ℕ ℕ) → are_rising (names_of fs) ≡ true → IsSearchInRange r (length fs) → IsBinarySearchResult (λ f. nat_cmp f.number number) fs r → result_ok r ≡ place_of fs number 0
halved fs number (Ok k) h within same = some_place fs number k h within same
halved fs number (Err at) h within parted =
    let parts = parted (comparisons_rise fs number h) in
    sym (no_place fs number 0 (λ k d lt same. elim (cases_lt k at) [
      | inl below ↦ omega (arith, same, ranked _ number _ (sym (parts.0 k d (omega arith) below)))
      | inr above ↦ omega (arith, same, ranked _ number _ (sym (parts.1 k d above lt)))
    ]))
