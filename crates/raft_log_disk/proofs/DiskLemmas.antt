-- What calls in a row make of a disk: its files, and its names.
use Rattle.std.proofs.Common.{◌≡◌, ◌≢◌, ◌⊎◌, inl, inr, ℕ, Bool, true, false, cond, List, [], ◌∷◌, ◌++◌, length, Option, Some, None, refl, sym, ap, ◌∙◌}
use Rattle.std.specs.Prelude.{map, ◌==◌, if◌then◌else◌}
use Rattle.std.proofs.lemmas.Bool.{eq-eqb, ne_eqb}
use lib.Pointwise.{bytes_decides}
use Rattle.raft_log_disk.specs.Text.{Text, same_text}
use Rattle.raft_log_disk.specs.Disk.{FileState, Disk, IsIn, are_named, fd_of, without, moved, with_file, after_sync}
use Rattle.raft_log_disk.specs.Image.{IsStill, IsFileImage}
use Rattle.raft_log_disk.proofs.LawLemmas.{still_image}
use Rattle.raft_log_disk.proofs.NamedLemmas.{named_first}
use Rattle.raft_log_disk.proofs.NameLemmas.{same_text-self}

abbrev Names : Type 0
Names = List (Text × ℕ)

-- ---- files

-- a changed file is as it was made
pub same_file : (n : ℕ) (f g : FileState) → (if n == n then f else g) ≡ f
same_file n f g = ap (λ b. cond b f g) (eq-eqb n n refl)

-- and the others stay
pub other_file : (n m : ℕ) (f g : FileState) → n ≢ m → (if n == m then f else g) ≡ g
other_file n m f g apart = ap (λ b. cond b f g) (ne_eqb n m apart)

again : (b : Bool) (f g h : FileState) → cond b g (cond b f h) ≡ cond b g h
again true f g h = refl
again false f g h = refl

-- of changes of one file in a row the last one counts
pub file_again : (d : Disk) (fd : ℕ) (f g : FileState) → with_file (with_file d fd f) fd g ≡ with_file d fd g
file_again d fd f g = λ i. record { directories = d.directories; names = d.names; file = λ n. again (n == fd) f g (d.file n) i; next = d.next }

-- a file that was synced has nothing unsynced
pub still_synced : (f : FileState) → IsStill (after_sync f)
still_synced f = record { kept = refl; changed = refl; least = refl; greatest = refl }

-- a file with nothing unsynced has one image: what a read gives
pub still_is_left : (f : FileState) (bytes : List ℕ) → IsStill f → IsFileImage f bytes → bytes ≡ f.bytes
still_is_left f bytes still image = still_image f bytes still.changed (still.least ∙ ap length (sym still.kept)) (still.greatest ∙ ap length (sym still.kept)) image ∙ still.kept

-- ---- names

number_step : (e : Text × ℕ) (es : Names) (path : Text) (fd : ℕ) (t : Bool) → (fd_of es path ≡ Some fd → IsIn fd (map (λ (x : Text × ℕ). x.1) es)) → cond t (Some e.1) (fd_of es path) ≡ Some fd → IsIn fd (map (λ (x : Text × ℕ). x.1) (e ∷ es))
number_step e es path fd true next h = inl cc
number_step e es path fd false next h = inr (next h)

-- a path's number is that of a file
pub number_in : (es : Names) (path : Text) (fd : ℕ) → fd_of es path ≡ Some fd → IsIn fd (map (λ (e : Text × ℕ). e.1) es)
number_in [] path fd there = absurd cc
number_in (e ∷ es) path fd there = number_step e es path fd (same_text e.0 path) (number_in es path fd) there

pushed_step : (e : Text × ℕ) (es : Names) (path : Text) (n : ℕ) (t : Bool) → (fd_of es path ≡ None → fd_of (es ++ (path, n) ∷ []) path ≡ Some n) → cond t (Some e.1) (fd_of es path) ≡ None → cond t (Some e.1) (fd_of (es ++ (path, n) ∷ []) path) ≡ Some n
pushed_step e es path n true next h = absurd cc
pushed_step e es path n false next h = next h

-- a new file is found under its path
pub pushed_there : (es : Names) (path : Text) (n : ℕ) → fd_of es path ≡ None → fd_of (es ++ (path, n) ∷ []) path ≡ Some n
pushed_there [] path n none = ap (λ t. cond t (Some n) None) (same_text-self path)
pushed_there (e ∷ es) path n none = pushed_step e es path n (same_text e.0 path) (pushed_there es path n) none

-- and what is found under another stays
pub pushed_other : (es : Names) (path other : Text) (n : ℕ) → same_text path other ≡ false → fd_of (es ++ (path, n) ∷ []) other ≡ fd_of es other
pushed_other [] path other n apart = ap (λ t. cond t (Some n) None) apart
pushed_other (e ∷ es) path other n apart = ap (λ o. cond (same_text e.0 other) (Some e.1) o) (pushed_other es path other n apart)

gone_step : (e : Text × ℕ) (es : Names) (path : Text) (b : Bool) → same_text e.0 path ≡ b → fd_of es e.0 ≡ None → fd_of (without es path) path ≡ None → fd_of (cond b es (e ∷ without es path)) path ≡ None
gone_step e es path true same none next = ap (fd_of es) (sym ((bytes_decides e.0 path).0 same)) ∙ none
gone_step e es path false same none next = ap (λ t. cond t (Some e.1) (fd_of (without es path) path)) same ∙ next

-- a deleted path is not found
pub without_gone : (es : Names) (path : Text) (next : ℕ) → are_named es next ≡ true → fd_of (without es path) path ≡ None
without_gone [] path next named = refl
without_gone (e ∷ es) path next named = let first = named_first e es next named in gone_step e es path (same_text e.0 path) refl first.path (without_gone es path next first.others)

kept_step : (e : Text × ℕ) (es : Names) (path other : Text) (b : Bool) → same_text e.0 path ≡ b → same_text path other ≡ false → fd_of (without es path) other ≡ fd_of es other
    → fd_of (cond b es (e ∷ without es path)) other ≡ cond (same_text e.0 other) (Some e.1) (fd_of es other)
kept_step e es path other true same apart next = sym (ap (λ t. cond t (Some e.1) (fd_of es other)) (ap (λ p. same_text p other) ((bytes_decides e.0 path).0 same) ∙ apart))
kept_step e es path other false same apart next = ap (λ o. cond (same_text e.0 other) (Some e.1) o) next

-- and the others stay
pub without_other : (es : Names) (path other : Text) → same_text path other ≡ false → fd_of (without es path) other ≡ fd_of es other
without_other [] path other apart = refl
without_other (e ∷ es) path other apart = kept_step e es path other (same_text e.0 path) refl apart (without_other es path other apart)

moved_step : (e : Text × ℕ) (es : Names) (from to other : Text) (b : Bool) → same_text e.0 from ≡ b → same_text from other ≡ false → same_text to other ≡ false → fd_of (moved es from to) other ≡ fd_of es other
    → fd_of (cond b ((to, e.1) ∷ es) (e ∷ moved es from to)) other ≡ cond (same_text e.0 other) (Some e.1) (fd_of es other)
moved_step e es from to other true same apart beside next =
    ap (λ t. cond t (Some e.1) (fd_of es other)) beside
    ∙ sym (ap (λ t. cond t (Some e.1) (fd_of es other)) (ap (λ p. same_text p other) ((bytes_decides e.0 from).0 same) ∙ apart))
moved_step e es from to other false same apart beside next = ap (λ o. cond (same_text e.0 other) (Some e.1) o) next

-- a rename leaves what is found under other paths
pub moved_other : (es : Names) (from to other : Text) → same_text from other ≡ false → same_text to other ≡ false → fd_of (moved es from to) other ≡ fd_of es other
moved_other [] from to other apart beside = refl
moved_other (e ∷ es) from to other apart beside = moved_step e es from to other (same_text e.0 from) refl apart beside (moved_other es from to other apart beside)

left_step : (e : Text × ℕ) (es : Names) (from to : Text) (b : Bool) → same_text e.0 from ≡ b → fd_of es e.0 ≡ None → same_text to from ≡ false → fd_of (moved es from to) from ≡ None → fd_of (cond b ((to, e.1) ∷ es) (e ∷ moved es from to)) from ≡ None
left_step e es from to true same none beside next = ap (λ t. cond t (Some e.1) (fd_of es from)) beside ∙ ap (fd_of es) (sym ((bytes_decides e.0 from).0 same)) ∙ none
left_step e es from to false same none beside next = ap (λ t. cond t (Some e.1) (fd_of (moved es from to) from)) same ∙ next

-- and nothing under the old one
pub moved_gone : (es : Names) (from to : Text) (next : ℕ) → are_named es next ≡ true → same_text to from ≡ false → fd_of (moved es from to) from ≡ None
moved_gone [] from to next named beside = refl
moved_gone (e ∷ es) from to next named beside = let first = named_first e es next named in left_step e es from to (same_text e.0 from) refl first.path beside (moved_gone es from to next first.others beside)
