-- Many files: where one is found, and what a change of it makes of all.
use Rattle.std.proofs.Common.{◌≡◌, ◌≢◌, ◌⊎◌, inl, inr, ℕ, zero, suc, ◌+◌, ◌-◌, ◌<◌, ◌≤◌, Bool, true, false, cond, eqb, List, [], ◌∷◌, ◌++◌, length, get_or, take, drop, Option, Some, None, refl, sym, ap, subst, ◌∙◌, arith, append_assoc}
use Rattle.std.specs.declared.alloc.Global.{Global}
use Rattle.std.specs.Prelude.{String, MatchOption, option_to_list, map, slice_set, ◌||◌, ◌==◌, remove, replicate}
use Rattle.std.specs.String.{string_bytes}
use Rattle.std.proofs.lemmas.Bool.{eq-eqb, ne_eqb, eqb-true, eqb-false, or_parts}
use Rattle.raft_log_disk.specs.declared.memory_file.MemoryFile.{MemoryFile}
use Rattle.raft_log_disk.specs.Text.{Text, same_text}
use Rattle.raft_log_disk.specs.Disk.{FileState, Disk, IsIn, IsNoFile, Deletes, after_create, listed, HasOneOf, are_named, fd_of, without, moved, no_bytes, with_file, after_write, after_allocate, after_truncate, Torn, PartlyFilled, PartlyTruncated, RefusedWrite, RefusedAllocate, RefusedTruncate}
use Rattle.raft_log_disk.specs.Memory.{state_of, names_of, texts_of, file_of, disk_of, place_of, place_of_path}
use Rattle.raft_log_disk.specs.Place.{IsPlace, IsPathPlace}
use Rattle.raft_log_disk.proofs.NamedLemmas.{IsNamedFirst, named_first, named_push, named_without, named_moved, next_free, has_number, number_in, one_path}
use Rattle.std.proofs.lemmas.List.{map-append, take_more, take_all, append-nil}
use Rattle.raft_log_disk.specs.Text.{name_in}

twice : (b : Bool) (g h f : FileState) → cond b h f ≡ cond b h (cond b g f)
twice true g h f = refl
twice false g h f = refl

swap_step : (b c : Bool) (g h f : FileState) → (b ≡ true → c ≡ true → ⊥) → cond b g (cond c h f) ≡ cond c h (cond b g f)
swap_step true true g h f clash = absurd (clash refl refl)
swap_step true false g h f clash = refl
swap_step false true g h f clash = refl
swap_step false false g h f clash = refl

swap : (n a b : ℕ) (g h f : FileState) → a ≢ b → cond (eqb n a) g (cond (eqb n b) h f) ≡ cond (eqb n b) h (cond (eqb n a) g f)
swap n a b g h f ne = swap_step (eqb n a) (eqb n b) g h f (λ x y. ne (sym (eqb-true n a x) ∙ eqb-true n b y))

some_is : (a i : ℕ) → Some a ≡ Some i → i ≡ a + 0
some_is a i e = let same : a ≡ i = cc in omega arith

-- ---- by number

place_here : (f : MemoryFile) (fs : List MemoryFile) (number : ℕ) → f.number ≡ number → IsPlace (f ∷ fs) number 0
place_here f fs number e = record {
  within = omega arith;
  numbered = λ d. e;
  among = λ d. inl (λ i. (string_bytes f.path, sym e i));
  first = λ d. ap (λ b. cond b (state_of f) (file_of fs number)) (eq-eqb number f.number (sym e));
  changes = λ t n k. ap (λ a. cond (eqb n a) (state_of t) (file_of fs n)) k ∙ twice (eqb n number) (state_of f) (state_of t) (file_of fs n) ∙ ap (λ a. cond (eqb n number) (state_of t) (cond (eqb n a) (state_of f) (file_of fs n))) (sym e);
  names = λ t d k p. (λ i. (string_bytes (p i), (k ∙ sym e) i) ∷ names_of fs);
}

place_next : (f : MemoryFile) (fs : List MemoryFile) (number k : ℕ) → f.number ≢ number → IsPlace fs number k → IsPlace (f ∷ fs) number (suc k)
place_next f fs number k ne p = record {
  within = omega (arith, p.within);
  numbered = p.numbered;
  among = λ d. inr (p.among d);
  first = λ d. ap (λ b. cond b (state_of f) (file_of fs number)) (ne_eqb number f.number (λ e. ne (sym e))) ∙ p.first d;
  changes = λ t n e. ap (λ g. cond (eqb n f.number) (state_of f) g) (p.changes t n e) ∙ swap n f.number number (state_of f) (state_of t) (file_of fs n) ne;
  names = λ t d e q. ap (λ (l : List (Text × ℕ)). (string_bytes f.path, f.number) ∷ l) (p.names t d e q);
}

placed_step : (f : MemoryFile) (fs : List MemoryFile) (number at i : ℕ) (b : Bool) → eqb f.number number ≡ b → (place_of fs number (at + 1) ≡ Some i → (k : ℕ) × (i ≡ at + 1 + k) × IsPlace fs number k) → cond b (Some at) (place_of fs number (at + 1)) ≡ Some i
    → (k : ℕ) × (i ≡ at + k) × IsPlace (f ∷ fs) number k
placed_step f fs number at i true is next found = (0, some_is at i found, place_here f fs number (eqb-true f.number number is))
placed_step f fs number at i false is next found = let n = next found in (suc n.0, omega (arith, n.1), place_next f fs number n.0 (eqb-false f.number number is) n.2)

placed_from : (fs : List MemoryFile) (number at i : ℕ) → place_of fs number at ≡ Some i → (k : ℕ) × (i ≡ at + k) × IsPlace fs number k
placed_from [] number at i e = absurd cc
placed_from (f ∷ fs) number at i e = placed_step f fs number at i (eqb f.number number) refl (placed_from fs number (at + 1) i) e

pub placed : (fs : List MemoryFile) (number i : ℕ) → place_of fs number 0 ≡ Some i → IsPlace fs number i
placed fs number i e = let p = placed_from fs number 0 i e in subst (IsPlace fs number) (omega (arith, p.1)) p.2

absent_step : (f : MemoryFile) (fs : List MemoryFile) (number at : ℕ) (b : Bool) → eqb f.number number ≡ b → (place_of fs number (at + 1) ≡ None → IsIn number (map (λ e. e.1) (names_of fs)) → ⊥) → cond b (Some at) (place_of fs number (at + 1)) ≡ None → (number ≡ f.number) ⊎ IsIn number (map (λ e. e.1) (names_of fs)) → ⊥
absent_step f fs number at true is next none there = cc
absent_step f fs number at false is next none (inl e) = eqb-false f.number number is (sym e)
absent_step f fs number at false is next none (inr there) = next none there

absent_from : (fs : List MemoryFile) (number at : ℕ) → place_of fs number at ≡ None → IsIn number (map (λ e. e.1) (names_of fs)) → ⊥
absent_from [] number at none there = there
absent_from (f ∷ fs) number at none there = absent_step f fs number at (eqb f.number number) refl (absent_from fs number (at + 1)) none there

pub absent : (fs : List MemoryFile) (number : ℕ) → place_of fs number 0 ≡ None → IsIn number (map (λ e. e.1) (names_of fs)) → ⊥
absent fs number none there = absent_from fs number 0 none there

-- ---- by path

no_file : (fs : List MemoryFile) (n : ℕ) → has_number (names_of fs) n ≡ false → file_of fs n ≡ no_bytes
no_file [] n none = refl
no_file (f ∷ fs) n none =
    let h = or_parts (f.number == n) (has_number (names_of fs) n) none in
    ap (λ b. cond b (state_of f) (file_of fs n)) (ne_eqb n f.number (λ e. eqb-false f.number n h.0 (sym e))) ∙ no_file fs n h.1

other_number : (fs : List MemoryFile) (a k : ℕ) (d : MemoryFile) → has_number (names_of fs) a ≡ false → k < length fs → (get_or fs k d).number ≢ a
other_number [] a k d none lt = absurd (omega arith)
other_number (f ∷ fs) a zero d none lt = eqb-false f.number a (or_parts (f.number == a) (has_number (names_of fs) a) none).0
other_number (f ∷ fs) a (suc k) d none lt = other_number fs a k d (or_parts (f.number == a) (has_number (names_of fs) a) none).1 (omega arith)

gone_step : (b : Bool) (n : ℕ) (f : MemoryFile) (fs : List MemoryFile) → eqb n f.number ≡ b → has_number (names_of fs) f.number ≡ false → file_of fs n ≡ cond b no_bytes (cond b (state_of f) (file_of fs n))
gone_step true n f fs e none = no_file fs n (ap (has_number (names_of fs)) (eqb-true n f.number e) ∙ none)
gone_step false n f fs e none = refl

path_here : (f : MemoryFile) (fs : List MemoryFile) (path : Text) (next : ℕ) → same_text (string_bytes f.path) path ≡ true → IsNamedFirst (string_bytes f.path, f.number) (names_of fs) next → IsPathPlace (f ∷ fs) path 0
path_here f fs path next e named = record {
  within = omega arith;
  found = λ d. ap (λ b. cond b (Some f.number) (fd_of (names_of fs) path)) e;
  gone = sym (ap (λ b. cond b (names_of fs) ((string_bytes f.path, f.number) ∷ without (names_of fs) path)) e);
  gone_file = λ d n. gone_step (eqb n f.number) n f fs refl named.number;
  moves = λ s d k. (λ i. (string_bytes s.path, k i) ∷ names_of fs) ∙ sym (ap (λ b. cond b ((string_bytes s.path, f.number) ∷ names_of fs) ((string_bytes f.path, f.number) ∷ moved (names_of fs) path (string_bytes s.path))) e);
  first = λ d. ap (λ b. cond b (state_of f) (file_of fs f.number)) (eq-eqb f.number f.number refl);
  changes = λ s d n k. ap (λ a. cond (eqb n a) (state_of s) (file_of fs n)) k ∙ twice (eqb n f.number) (state_of f) (state_of s) (file_of fs n);
}

path_next : (f : MemoryFile) (fs : List MemoryFile) (path : Text) (next k : ℕ) → same_text (string_bytes f.path) path ≡ false → IsNamedFirst (string_bytes f.path, f.number) (names_of fs) next → IsPathPlace fs path k → IsPathPlace (f ∷ fs) path (suc k)
path_next f fs path next k e named p = record {
  within = omega (arith, p.within);
  found = λ d. ap (λ b. cond b (Some f.number) (fd_of (names_of fs) path)) e ∙ p.found d;
  gone = ap (λ (l : List (Text × ℕ)). (string_bytes f.path, f.number) ∷ l) p.gone ∙ sym (ap (λ b. cond b (names_of fs) ((string_bytes f.path, f.number) ∷ without (names_of fs) path)) e);
  gone_file = λ d n. ap (λ g. cond (eqb n f.number) (state_of f) g) (p.gone_file d n)
      ∙ swap n f.number (get_or fs k d).number (state_of f) no_bytes (file_of fs n) (λ same. other_number fs f.number k d named.number p.within (sym same));
  moves = λ s d q. ap (λ (l : List (Text × ℕ)). (string_bytes f.path, f.number) ∷ l) (p.moves s d q)
      ∙ sym (ap (λ b. cond b ((string_bytes s.path, f.number) ∷ names_of fs) ((string_bytes f.path, f.number) ∷ moved (names_of fs) path (string_bytes s.path))) e);
  first = λ d. ap (λ b. cond b (state_of f) (file_of fs (get_or fs k d).number)) (ne_eqb (get_or fs k d).number f.number (other_number fs f.number k d named.number p.within)) ∙ p.first d;
  changes = λ s d n q. ap (λ g. cond (eqb n f.number) (state_of f) g) (p.changes s d n q)
      ∙ swap n f.number (get_or fs k d).number (state_of f) (state_of s) (file_of fs n) (λ same. other_number fs f.number k d named.number p.within (sym same));
}

path_step : (f : MemoryFile) (fs : List MemoryFile) (path : Text) (next at i : ℕ) (b : Bool) → same_text (string_bytes f.path) path ≡ b → IsNamedFirst (string_bytes f.path, f.number) (names_of fs) next
    → (place_of_path fs path (at + 1) ≡ Some i → (k : ℕ) × (i ≡ at + 1 + k) × IsPathPlace fs path k) → cond b (Some at) (place_of_path fs path (at + 1)) ≡ Some i → (k : ℕ) × (i ≡ at + k) × IsPathPlace (f ∷ fs) path k
path_step f fs path next at i true is named more found = (0, some_is at i found, path_here f fs path next is named)
path_step f fs path next at i false is named more found = let n = more found in (suc n.0, omega (arith, n.1), path_next f fs path next n.0 is named n.2)

path_placed_from : (fs : List MemoryFile) (path : Text) (next at i : ℕ) → are_named (names_of fs) next ≡ true → place_of_path fs path at ≡ Some i → (k : ℕ) × (i ≡ at + k) × IsPathPlace fs path k
path_placed_from [] path next at i h e = absurd cc
path_placed_from (f ∷ fs) path next at i h e =
    let named = named_first (string_bytes f.path, f.number) (names_of fs) next h in
    path_step f fs path next at i (same_text (string_bytes f.path) path) refl named (path_placed_from fs path next (at + 1) i named.others) e

pub path_placed : (fs : List MemoryFile) (path : Text) (next i : ℕ) → are_named (names_of fs) next ≡ true → place_of_path fs path 0 ≡ Some i → IsPathPlace fs path i
path_placed fs path next i h e = let p = path_placed_from fs path next 0 i h e in subst (IsPathPlace fs path) (omega (arith, p.1)) p.2

path_absent_step : (f : MemoryFile) (fs : List MemoryFile) (path : Text) (at : ℕ) (b : Bool) → (place_of_path fs path (at + 1) ≡ None → fd_of (names_of fs) path ≡ None) → cond b (Some at) (place_of_path fs path (at + 1)) ≡ None → cond b (Some f.number) (fd_of (names_of fs) path) ≡ None
path_absent_step f fs path at true next none = absurd cc
path_absent_step f fs path at false next none = next none

path_absent_from : (fs : List MemoryFile) (path : Text) (at : ℕ) → place_of_path fs path at ≡ None → fd_of (names_of fs) path ≡ None
path_absent_from [] path at none = refl
path_absent_from (f ∷ fs) path at none = path_absent_step f fs path at (same_text (string_bytes f.path) path) (path_absent_from fs path (at + 1)) none

pub path_absent : (fs : List MemoryFile) (path : Text) → place_of_path fs path 0 ≡ None → fd_of (names_of fs) path ≡ None
path_absent fs path none = path_absent_from fs path 0 none

-- ---- what a change of one file makes of the disk

same_at : (file : ℕ → FileState) (number n : ℕ) → cond (eqb n number) (file number) (file n) ≡ file n
same_at file number n = go (eqb n number) refl
  where
    go : (b : Bool) → eqb n number ≡ b → cond b (file number) (file n) ≡ file n
    go true e = ap file (sym (eqb-true n number e))
    go false e = refl

pub set_names : (fs : List MemoryFile) (number i : ℕ) (old s : MemoryFile) → IsPlace fs number i → old ≡ get_or fs i old → s.number ≡ old.number → s.path ≡ old.path → names_of (slice_set fs i s) ≡ names_of fs
set_names fs number i old s p is n q = p.names s old (n ∙ ap (λ (f : MemoryFile). f.number) is ∙ p.numbered old) (q ∙ ap (λ (f : MemoryFile). f.path) is)

pub still_named : (fs : List MemoryFile) (number i next : ℕ) (old s : MemoryFile) → are_named (names_of fs) next ≡ true → IsPlace fs number i → old ≡ get_or fs i old → s.number ≡ old.number → s.path ≡ old.path → are_named (names_of (slice_set fs i s)) next ≡ true
still_named fs number i next old s h p is n q = ap (λ (es : List (Text × ℕ)). are_named es next) (set_names fs number i old s p is n q) ∙ h

pub file_changed : (F : FileState → FileState) (directories : List (String Global)) (fs : List MemoryFile) (number i next : ℕ) (old s : MemoryFile) → IsPlace fs number i → old ≡ get_or fs i old → s.number ≡ old.number → s.path ≡ old.path
    → state_of s ≡ F (state_of old) → disk_of directories (slice_set fs i s) next ≡ with_file (disk_of directories fs next) number (F (file_of fs number))
file_changed F directories fs number i next old s p is n q made =
    let state : state_of s ≡ F (file_of fs number) = made ∙ ap (λ f. F (state_of f)) is ∙ ap F (sym (p.first old)) in
    let named : s.number ≡ number = n ∙ ap (λ (f : MemoryFile). f.number) is ∙ p.numbered old in
    λ j. record {
      directories = texts_of directories;
      names = set_names fs number i old s p is n q j;
      file = λ m. (p.changes s m named ∙ ap (λ f. cond (eqb m number) f (file_of fs m)) state) j;
      next = next;
    }

pub file_kept : (directories : List (String Global)) (fs : List MemoryFile) (number i next : ℕ) (old s : MemoryFile) → IsPlace fs number i → old ≡ get_or fs i old → s.number ≡ old.number → s.path ≡ old.path
    → state_of s ≡ state_of old → disk_of directories (slice_set fs i s) next ≡ disk_of directories fs next
file_kept directories fs number i next old s p is n q made =
    file_changed (λ f. f) directories fs number i next old s p is n q made
    ∙ (λ j. record { directories = texts_of directories; names = names_of fs; file = λ m. same_at (file_of fs) number m j; next = next })

pub state_there : (fs : List MemoryFile) (number i : ℕ) (old : MemoryFile) → IsPlace fs number i → old ≡ get_or fs i old → state_of old ≡ file_of fs number
state_there fs number i old p is = ap state_of is ∙ sym (p.first old)

-- ---- what a search answers

pub found : (fs ts : List MemoryFile) (number : ℕ) (r : Option ℕ) → ts ≡ fs → r ≡ place_of ts number 0 → MatchOption r (IsIn number (map (λ e. e.1) (names_of fs)) → ⊥) (IsPlace fs number)
found fs ts number None same e = absent fs number (ap (λ l. place_of l number 0) (sym same) ∙ sym e)
found fs ts number (Some i) same e = placed fs number i (ap (λ l. place_of l number 0) (sym same) ∙ sym e)

pub path_found : (fs ts : List MemoryFile) (path : Text) (next : ℕ) (r : Option ℕ) → are_named (names_of fs) next ≡ true → ts ≡ fs → r ≡ place_of_path ts path 0 → MatchOption r (fd_of (names_of fs) path ≡ None) (IsPathPlace fs path)
path_found fs ts path next None h same e = path_absent fs path (ap (λ l. place_of_path l path 0) (sym same) ∙ sym e)
path_found fs ts path next (Some i) h same e = path_placed fs path next i h (ap (λ l. place_of_path l path 0) (sym same) ∙ sym e)

-- ---- names that come, go and move

pub still_moved : (fs : List MemoryFile) (from to : Text) (i next : ℕ) (old s : MemoryFile) → are_named (names_of fs) next ≡ true → IsPathPlace fs from i → old ≡ get_or fs i old → s.number ≡ old.number → string_bytes s.path ≡ to → fd_of (names_of fs) to ≡ None
    → are_named (names_of (slice_set fs i s)) next ≡ true
still_moved fs from to i next old s h p is n q none =
    ap (λ (es : List (Text × ℕ)). are_named es next) (p.moves s old (n ∙ ap (λ (f : MemoryFile). f.number) is) ∙ ap (moved (names_of fs) from) q) ∙ named_moved (names_of fs) from to next h none

pub still_without : (fs gs : List MemoryFile) (path : Text) (i next : ℕ) → are_named (names_of fs) next ≡ true → IsPathPlace fs path i → gs ≡ remove fs i → are_named (names_of gs) next ≡ true
still_without fs gs path i next h p is = ap (λ l. are_named (names_of l) next) is ∙ ap (λ (es : List (Text × ℕ)). are_named es next) p.gone ∙ named_without (names_of fs) path next h

pub names_pushed : (fs gs : List MemoryFile) (f : MemoryFile) (path : Text) (number : ℕ) → gs ≡ fs ++ f ∷ [] → f.number ≡ number → string_bytes f.path ≡ path → names_of gs ≡ names_of fs ++ (path, number) ∷ []
names_pushed fs gs f path number is n p = ap names_of is ∙ map-append (λ (f : MemoryFile). (string_bytes f.path, f.number)) fs (f ∷ []) ∙ (λ i. names_of fs ++ (p i, n i) ∷ [])

pub still_pushed : (fs gs : List MemoryFile) (f : MemoryFile) (path : Text) (next : ℕ) → are_named (names_of fs) next ≡ true → gs ≡ fs ++ f ∷ [] → f.number ≡ next → string_bytes f.path ≡ path → fd_of (names_of fs) path ≡ None → are_named (names_of gs) (next + 1) ≡ true
still_pushed fs gs f path next h is n p none = ap (λ (es : List (Text × ℕ)). are_named es (next + 1)) (names_pushed fs gs f path next is n p) ∙ named_push (names_of fs) path next h none

file_pushed : (fs : List MemoryFile) (f : MemoryFile) (n : ℕ) → has_number (names_of fs) f.number ≡ false → state_of f ≡ no_bytes → file_of (fs ++ f ∷ []) n ≡ cond (eqb n f.number) no_bytes (file_of fs n)
file_pushed [] f n none is = ap (λ g. cond (eqb n f.number) g no_bytes) is
file_pushed (g ∷ fs) f n none is =
    let h = or_parts (g.number == f.number) (has_number (names_of fs) f.number) none in
    ap (λ x. cond (eqb n g.number) (state_of g) x) (file_pushed fs f n h.1 is) ∙ swap n g.number f.number (state_of g) no_bytes (file_of fs n) (eqb-false g.number f.number h.0)

pub created : (directories : List (String Global)) (fs gs : List MemoryFile) (f : MemoryFile) (path : Text) (next : ℕ) → are_named (names_of fs) next ≡ true → gs ≡ fs ++ f ∷ [] → f.number ≡ next → string_bytes f.path ≡ path → state_of f ≡ no_bytes
    → disk_of directories gs (next + 1) ≡ after_create (disk_of directories fs next) path
created directories fs gs f path next h is n p empty =
    let free : has_number (names_of fs) f.number ≡ false = ap (has_number (names_of fs)) n ∙ next_free (names_of fs) next h in
    λ j. record {
      directories = texts_of directories;
      names = names_pushed fs gs f path next is n p j;
      file = λ m. (ap (λ l. file_of l m) is ∙ file_pushed fs f m free empty ∙ ap (λ k. cond (eqb m k) no_bytes (file_of fs m)) n) j;
      next = next + 1;
    }

pub deleted : (directories : List (String Global)) (fs gs : List MemoryFile) (path : Text) (i next : ℕ) (old : MemoryFile) → IsPathPlace fs path i → gs ≡ remove fs i → Deletes (disk_of directories fs next) (disk_of directories gs next) path
deleted directories fs gs path i next old p is = (
  (get_or fs i old).number,
  p.found old,
  λ j. record {
    directories = texts_of directories;
    names = (ap names_of is ∙ p.gone) j;
    file = λ n. (ap (λ l. file_of l n) is ∙ p.gone_file old n) j;
    next = next;
  },
)

-- ---- lists of names

listed-push : (es : List (Text × ℕ)) (e : Text × ℕ) (directory : Text) → listed (es ++ e ∷ []) directory ≡ listed es directory ++ option_to_list (name_in directory e.0)
listed-push [] e directory = append-nil (option_to_list (name_in directory e.0))
listed-push (d ∷ es) e directory =
    ap (λ (l : List Text). option_to_list (name_in directory d.0) ++ l) (listed-push es e directory)
    ∙ sym (append_assoc (option_to_list (name_in directory d.0)) (listed es directory) (option_to_list (name_in directory e.0)))

pub listed_more : (fs : List MemoryFile) (at : ℕ) (f : MemoryFile) (directory path : Text) (before after : List Text) → before ≡ listed (names_of (take at fs)) directory → at < length fs → f ≡ get_or fs at f → path ≡ string_bytes f.path
    → after ≡ before ++ option_to_list (name_in directory path) → after ≡ listed (names_of (take (at + 1) fs)) directory
listed_more fs at f directory path before after was lt is named more =
    more ∙ (λ i. was i ++ option_to_list (name_in directory (named i)))
    ∙ ap (λ (g : MemoryFile). listed (names_of (take at fs)) directory ++ option_to_list (name_in directory (string_bytes g.path))) is
    ∙ sym (ap (λ l. listed (names_of l) directory) (take_more fs at f lt)
    ∙ ap (λ es. listed es directory) (map-append (λ (f : MemoryFile). (string_bytes f.path, f.number)) (take at fs) (get_or fs at f ∷ []))
    ∙ listed-push (names_of (take at fs)) (string_bytes (get_or fs at f).path, (get_or fs at f).number) directory)

pub all_listed : (fs : List MemoryFile) (at : ℕ) (directory : Text) (names : List Text) → names ≡ listed (names_of (take at fs)) directory → length fs ≤ at → listed (names_of fs) directory ≡ names
all_listed fs at directory names is le = ap (λ l. listed (names_of l) directory) (sym (take_all at fs le)) ∙ sym is

pub in_pushed : (before after : List (String Global)) (text : String Global) (path : Text) → after ≡ before ++ text ∷ [] → string_bytes text ≡ path → IsIn path (texts_of after)
in_pushed before after text path is p = subst (λ l. IsIn path (texts_of l)) (sym is) (last before)
  where
    last : (ts : List (String Global)) → IsIn path (texts_of (ts ++ text ∷ []))
    last [] = inl (sym p)
    last (t ∷ ts) = inr (last ts)

-- the file has one of these paths
pub one_of : (fs : List MemoryFile) (directories texts : List (String Global)) (next number i : ℕ) (old : MemoryFile) (path : Text) (unreadable : List (String Global)) → IsPlace fs number i → old ≡ get_or fs i old → path ≡ string_bytes old.path → texts ≡ unreadable
    → IsIn path (texts_of texts) → HasOneOf (disk_of directories fs next) number (texts_of unreadable)
one_of fs directories texts next number i old path unreadable p is named same there =
    (path, subst (λ t. IsIn (t, number) (names_of fs)) (sym named) (subst (λ (f : MemoryFile). IsIn (string_bytes f.path, number) (names_of fs)) (sym is) (p.among old)), subst (λ l. IsIn path (texts_of l)) same there)

pub length_there : (fs : List MemoryFile) (number i : ℕ) (old : MemoryFile) → IsPlace fs number i → old ≡ get_or fs i old → length old.bytes.items ≡ length (file_of fs number).bytes
length_there fs number i old p is = ap (λ (f : FileState). length f.bytes) (state_there fs number i old p is)

-- a number that is found is there
pub number_there : (directories : List (String Global)) (fs : List MemoryFile) (next number i : ℕ) (f : MemoryFile) → IsPlace fs number i → IsNoFile (disk_of directories fs next) number → ⊥
number_there directories fs next number i f p none = none (number_in (string_bytes (get_or fs i f).path) number (names_of fs) (p.among f))

-- the file has none of these paths
pub none_of : (directories texts : List (String Global)) (fs : List MemoryFile) (next number i : ℕ) (f : MemoryFile) (path : Text) (test : Bool) → are_named (names_of fs) next ≡ true → IsPlace fs number i → f ≡ get_or fs i f → path ≡ string_bytes f.path
    → (IsIn path (texts_of texts) → test ≡ true) → test ≡ false → HasOneOf (disk_of directories fs next) number (texts_of texts) → ⊥
none_of directories texts fs next number i f path test named p is same test_there false_test one =
    let here : IsIn (path, number) (names_of fs) = subst (λ t. IsIn (t, number) (names_of fs)) (sym same) (subst (λ (g : MemoryFile). IsIn (string_bytes g.path, number) (names_of fs)) (sym is) (p.among f)) in
    let only : one.0 ≡ path = one_path (names_of fs) next number one.0 path named one.1 here in
    let true_test = test_there (subst (λ t. IsIn t (texts_of texts)) only one.2) in
    absurd cc

-- a number that no file has has no path
pub no_path : (directories : List (String Global)) (fs : List MemoryFile) (next number : ℕ) (paths : List Text) → IsNoFile (disk_of directories fs next) number → HasOneOf (disk_of directories fs next) number paths → ⊥
no_path directories fs next number paths none one = none (number_in one.0 number (names_of fs) one.1)

-- ---- calls that were refused and noted, of which reads see nothing

unseen : (at end : ℕ) (bytes : List ℕ) → Torn at end bytes bytes
unseen at end bytes = record { before = refl; after = refl; no_shorter = omega arith; no_longer = omega arith; fits = λ h. h }

unfilled : (end : ℕ) (bytes : List ℕ) → PartlyFilled end bytes bytes
unfilled end bytes = record { no_shorter = omega arith; no_longer = omega arith; front = sym (ap (λ n. bytes ++ replicate n 0) none ∙ append-nil bytes) }
  where
    none : length bytes - length bytes ≡ 0
    none = omega arith

uncut : (len : ℕ) (bytes : List ℕ) → PartlyTruncated len bytes bytes
uncut len bytes = record {
  no_shorter = omega arith;
  no_longer = omega arith;
  front = sym ((λ i. take_all (length bytes) bytes (omega arith) i ++ replicate (none i) 0) ∙ append-nil bytes);
}
  where
    none : length bytes - length bytes ≡ 0
    none = omega arith

pub refused_write_noted : (directories : List (String Global)) (fs : List MemoryFile) (number i next at : ℕ) (bytes : List ℕ) (old s : MemoryFile) → IsPlace fs number i → old ≡ get_or fs i old → s.number ≡ old.number → s.path ≡ old.path
    → state_of s ≡ after_write (state_of old) at bytes old.bytes.items → RefusedWrite (disk_of directories fs next) (disk_of directories (slice_set fs i s) next) number at bytes
refused_write_noted directories fs number i next at bytes old s p is n q made = record {
  seen = (file_of fs number).bytes;
  torn = unseen at (at + length bytes) (file_of fs number).bytes;
  files = file_changed (λ f. after_write f at bytes f.bytes) directories fs number i next old s p is n q made;
}

pub refused_allocate_noted : (directories : List (String Global)) (fs : List MemoryFile) (number i next at len : ℕ) (old s : MemoryFile) → IsPlace fs number i → old ≡ get_or fs i old → s.number ≡ old.number → s.path ≡ old.path
    → state_of s ≡ after_allocate (state_of old) at len old.bytes.items → RefusedAllocate (disk_of directories fs next) (disk_of directories (slice_set fs i s) next) number at len
refused_allocate_noted directories fs number i next at len old s p is n q made = record {
  seen = (file_of fs number).bytes;
  part = unfilled (at + len) (file_of fs number).bytes;
  files = file_changed (λ f. after_allocate f at len f.bytes) directories fs number i next old s p is n q made;
}

pub refused_truncate_noted : (directories : List (String Global)) (fs : List MemoryFile) (number i next len : ℕ) (old s : MemoryFile) → IsPlace fs number i → old ≡ get_or fs i old → s.number ≡ old.number → s.path ≡ old.path
    → state_of s ≡ after_truncate (state_of old) len old.bytes.items → RefusedTruncate (disk_of directories fs next) (disk_of directories (slice_set fs i s) next) number len
refused_truncate_noted directories fs number i next len old s p is n q made = record {
  seen = (file_of fs number).bytes;
  part = uncut len (file_of fs number).bytes;
  files = file_changed (λ f. after_truncate f len f.bytes) directories fs number i next old s p is n q made;
}
