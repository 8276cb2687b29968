-- Files that crash, one by one and by their numbers.
use Rattle.std.proofs.Common.{◌≡◌, ◌≢◌, ◌⊎◌, inl, inr, ℕ, ◌+◌, ◌<◌, Bool, true, false, cond, eqb, List, [], ◌∷◌, ◌++◌, length, get_or, take, Option, Some, None, refl, sym, ap, subst, ◌∙◌}
use Rattle.std.specs.Prelude.{Result, Ok, Err, OnOk, String, map, MatchOption, ◌||◌, ◌==◌}
use Rattle.std.specs.List.{AllByRecursion}
use Rattle.std.specs.String.{string_bytes}
use Rattle.std.specs.declared.alloc.Global.{Global}
use Rattle.std.proofs.lemmas.List.{take_more}
use Rattle.std.proofs.lemmas.Bool.{eq-eqb, ne_eqb, eqb-false, or_parts}
use Rattle.raft_log_disk.specs.declared.memory_file.MemoryFile.{MemoryFile}
use Rattle.raft_log_disk.specs.declared.crash.CrashChoice.{CrashChoice}
use Rattle.raft_log_disk.specs.Text.{Text}
use Rattle.raft_log_disk.specs.Name.{log_file_of}
use Rattle.raft_log_disk.specs.Disk.{FileState, Disk, IsIn, are_named, settled, no_bytes}
use Rattle.raft_log_disk.specs.Image.{Image, IsFileImage, IsImage, IsImageOf, NamesFiles, image_of, chosen_of, after_crash}
use Rattle.raft_log_disk.specs.Chance.{IsGenuine, IsGenuineImage}
use Rattle.raft_log_disk.specs.Memory.{state_of, names_of, texts_of, file_of, disk_of}
use Rattle.raft_log_disk.specs.Crashed.{AreImages, AreGenuine, AreCrashed, IsFileGenuine, chosen_in}
use Rattle.raft_log_disk.proofs.NamedLemmas.{IsNamedFirst, named_first, has_number}

crashed_push : (choice : CrashChoice) (fs gs : List MemoryFile) (f g : MemoryFile) → AreCrashed choice fs gs → string_bytes g.path ≡ string_bytes f.path → g.number ≡ f.number → state_of g ≡ settled (state_of f) (chosen_in choice f) → AreCrashed choice (fs ++ f ∷ []) (gs ++ g ∷ [])
crashed_push choice [] [] f g h p n s = (p, n, s, tt)
crashed_push choice [] (x ∷ gs) f g h p n s = absurd h
crashed_push choice (x ∷ fs) [] f g h p n s = absurd h
crashed_push choice (x ∷ fs) (y ∷ gs) f g h p n s = (h.0, h.1, h.2, crashed_push choice fs gs f g h.3 p n s)

pub crashed_more : (choice : CrashChoice) (files all after : List MemoryFile) (at : ℕ) (f g : MemoryFile) → AreCrashed choice (take at files) all → at < length files → f ≡ get_or files at f → string_bytes g.path ≡ string_bytes f.path → g.number ≡ f.number → state_of g ≡ settled (state_of f) (chosen_in choice f)
    → after ≡ all ++ g ∷ [] → AreCrashed choice (take (at + 1) files) after
crashed_more choice files all after at f g h lt is p n s pushed =
    subst (λ l. AreCrashed choice l after) (sym (take_more files at f lt ∙ ap (λ x. take at files ++ x ∷ []) (sym is))) (subst (λ l. AreCrashed choice (take at files ++ f ∷ []) l) (sym pushed) (crashed_push choice (take at files) all f g h p n s))

-- ---- by number

pub crashed_names : (choice : CrashChoice) (fs gs : List MemoryFile) → AreCrashed choice fs gs → names_of gs ≡ names_of fs
crashed_names choice [] [] h = refl
crashed_names choice [] (g ∷ gs) h = absurd h
crashed_names choice (f ∷ fs) [] h = absurd h
crashed_names choice (f ∷ fs) (g ∷ gs) h = λ i. (h.0 i, h.1 i) ∷ crashed_names choice fs gs h.3 i

-- a file among these
abbrev IsAmong : MemoryFile → List MemoryFile → Type 0
IsAmong f [] = ⊥
IsAmong f (g ∷ gs) = (f ≡ g) ⊎ IsAmong f gs

among_other : (f : MemoryFile) (fs : List MemoryFile) (n : ℕ) → has_number (names_of fs) n ≡ false → IsAmong f fs → f.number ≢ n
among_other f [] n none there same = there
among_other f (g ∷ gs) n none (inl is) same = eqb-false g.number n (or_parts (g.number == n) (has_number (names_of gs) n) none).0 (ap (λ (h : MemoryFile). h.number) (sym is) ∙ same)
among_other f (g ∷ gs) n none (inr there) same = among_other f gs n (or_parts (g.number == n) (has_number (names_of gs) n) none).1 there same

-- each file is that of its number
pub file_among : (f : MemoryFile) (fs : List MemoryFile) (next : ℕ) → are_named (names_of fs) next ≡ true → IsAmong f fs → file_of fs f.number ≡ state_of f
file_among f [] next h there = absurd there
file_among f (g ∷ gs) next h (inl is) = ap (λ b. cond b (state_of g) (file_of gs f.number)) (eq-eqb f.number g.number (ap (λ (h : MemoryFile). h.number) is)) ∙ ap state_of (sym is)
file_among f (g ∷ gs) next h (inr there) =
    let p = named_first (string_bytes g.path, g.number) (names_of gs) next h in
    ap (λ b. cond b (state_of g) (file_of gs f.number)) (ne_eqb f.number g.number (among_other f gs g.number p.number there)) ∙ file_among f gs next p.others there

-- and so is what is chosen of it
image_among : (choice : CrashChoice) (file : ℕ → FileState) (f : MemoryFile) (fs : List MemoryFile) (next : ℕ) → are_named (names_of fs) next ≡ true → IsAmong f fs → image_of choice (names_of fs) file f.number ≡ chosen_of choice (string_bytes f.path) (file f.number)
image_among choice file f [] next h there = absurd there
image_among choice file f (g ∷ gs) next h (inl is) =
    ap (λ b. cond b (chosen_of choice (string_bytes g.path) (file g.number)) (image_of choice (names_of gs) file f.number)) (eq-eqb f.number g.number (ap (λ (h : MemoryFile). h.number) is))
    ∙ ap (λ (h : MemoryFile). chosen_of choice (string_bytes h.path) (file h.number)) (sym is)
image_among choice file f (g ∷ gs) next h (inr there) =
    let p = named_first (string_bytes g.path, g.number) (names_of gs) next h in
    ap (λ b. cond b (chosen_of choice (string_bytes g.path) (file g.number)) (image_of choice (names_of gs) file f.number)) (ne_eqb f.number g.number (among_other f gs g.number p.number there)) ∙ image_among choice file f gs next p.others there

all_over : (P : Text × ℕ → Type 0) (Q : MemoryFile → Type 0) (fs : List MemoryFile) → ((f : MemoryFile) → IsAmong f fs → P (string_bytes f.path, f.number) → Q f) → AllByRecursion P (names_of fs) → AllByRecursion Q fs
all_over P Q [] h a = tt
all_over P Q (f ∷ fs) h a = (h f (inl refl) a.0, all_over P Q fs (λ g there. h g (inr there)) a.1)

all_back : (P : Text × ℕ → Type 0) (Q : MemoryFile → Type 0) (fs : List MemoryFile) → ((f : MemoryFile) → IsAmong f fs → Q f → P (string_bytes f.path, f.number)) → AllByRecursion Q fs → AllByRecursion P (names_of fs)
all_back P Q [] h a = tt
all_back P Q (f ∷ fs) h a = (h f (inl refl) a.0, all_back P Q fs (λ g there. h g (inr there)) a.1)

abbrev pub image_in : CrashChoice → List MemoryFile → Image
image_in choice fs = image_of choice (names_of fs) (file_of fs)

chosen_among : (choice : CrashChoice) (f : MemoryFile) (fs : List MemoryFile) (next : ℕ) → are_named (names_of fs) next ≡ true → IsAmong f fs → image_in choice fs f.number ≡ chosen_in choice f
chosen_among choice f fs next h there = image_among choice (file_of fs) f fs next h there ∙ ap (chosen_of choice (string_bytes f.path)) (file_among f fs next h there)

pub images_over : (choice : CrashChoice) (directories : List (String Global)) (fs : List MemoryFile) (next : ℕ) → are_named (names_of fs) next ≡ true → IsImage (disk_of directories fs next) (image_in choice fs) → AreImages choice fs
images_over choice directories fs next h = all_over (λ e. IsFileImage (file_of fs e.1) (image_in choice fs e.1)) (λ f. IsFileImage (state_of f) (chosen_in choice f)) fs
    (λ f there p. subst (IsFileImage (state_of f)) (chosen_among choice f fs next h there) (subst (λ s. IsFileImage s (image_in choice fs f.number)) (file_among f fs next h there) p))

pub images_back : (choice : CrashChoice) (directories : List (String Global)) (fs : List MemoryFile) (next : ℕ) → are_named (names_of fs) next ≡ true → AreImages choice fs → IsImage (disk_of directories fs next) (image_in choice fs)
images_back choice directories fs next h = all_back (λ e. IsFileImage (file_of fs e.1) (image_in choice fs e.1)) (λ f. IsFileImage (state_of f) (chosen_in choice f)) fs
    (λ f there p. subst (λ s. IsFileImage s (image_in choice fs f.number)) (sym (file_among f fs next h there)) (subst (IsFileImage (state_of f)) (sym (chosen_among choice f fs next h there)) p))

abbrev IsGenuineAt : Text → FileState → List ℕ → Type 0
IsGenuineAt path f bytes = MatchOption (log_file_of path) (Unit {0}) (λ id. IsGenuine id f bytes)

pub genuine_over : (choice : CrashChoice) (directories : List (String Global)) (fs : List MemoryFile) (next : ℕ) → are_named (names_of fs) next ≡ true → IsGenuineImage (disk_of directories fs next) (image_in choice fs) → AreGenuine choice fs
genuine_over choice directories fs next h = all_over (λ e. IsGenuineAt e.0 (file_of fs e.1) (image_in choice fs e.1)) (λ f. IsFileGenuine choice f) fs
    (λ f there p. subst (IsGenuineAt (string_bytes f.path) (state_of f)) (chosen_among choice f fs next h there) (subst (λ s. IsGenuineAt (string_bytes f.path) s (image_in choice fs f.number)) (file_among f fs next h there) p))

pub genuine_back : (choice : CrashChoice) (directories : List (String Global)) (fs : List MemoryFile) (next : ℕ) → are_named (names_of fs) next ≡ true → AreGenuine choice fs → IsGenuineImage (disk_of directories fs next) (image_in choice fs)
genuine_back choice directories fs next h = all_back (λ e. IsGenuineAt e.0 (file_of fs e.1) (image_in choice fs e.1)) (λ f. IsFileGenuine choice f) fs
    (λ f there p. subst (λ s. IsGenuineAt (string_bytes f.path) s (image_in choice fs f.number)) (sym (file_among f fs next h there)) (subst (IsGenuineAt (string_bytes f.path) (state_of f)) (sym (chosen_among choice f fs next h there)) p))

-- ---- the disk after a crash

one_file : (b : Bool) (f g : FileState) (c d : List ℕ) → cond b (settled f c) (settled g d) ≡ settled (cond b f g) (cond b c d)
one_file true f g c d = refl
one_file false f g c d = refl

crashed_file : (choice : CrashChoice) (file : ℕ → FileState) (fs gs : List MemoryFile) (n : ℕ) → ((f : MemoryFile) → IsAmong f fs → file f.number ≡ state_of f) → AreCrashed choice fs gs → file_of gs n ≡ settled (file_of fs n) (image_of choice (names_of fs) file n)
crashed_file choice file [] [] n at h = refl
crashed_file choice file [] (g ∷ gs) n at h = absurd h
crashed_file choice file (f ∷ fs) [] n at h = absurd h
crashed_file choice file (f ∷ fs) (g ∷ gs) n at h =
    let same : settled (state_of f) (chosen_in choice f) ≡ settled (state_of f) (chosen_of choice (string_bytes f.path) (file f.number)) = ap (λ s. settled (state_of f) (chosen_of choice (string_bytes f.path) s)) (sym (at f (inl refl))) in
    (λ i. cond (eqb n (h.1 i)) ((h.2 ∙ same) i) (crashed_file choice file fs gs n (λ g there. at g (inr there)) h.3 i))
    ∙ one_file (eqb n f.number) (state_of f) (file_of fs n) (chosen_of choice (string_bytes f.path) (file f.number)) (image_of choice (names_of fs) file n)

pub crashed_disk : (choice : CrashChoice) (directories : List (String Global)) (fs gs : List MemoryFile) (next : ℕ) → are_named (names_of fs) next ≡ true → AreCrashed choice fs gs → disk_of directories gs next ≡ after_crash (disk_of directories fs next) (image_in choice fs)
crashed_disk choice directories fs gs next h c = λ i. record {
  directories = texts_of directories;
  names = crashed_names choice fs gs c i;
  file = λ n. crashed_file choice (file_of fs) fs gs n (λ f there. file_among f fs next h there) c i;
  next = next;
}

pub crashed_named : (choice : CrashChoice) (fs gs : List MemoryFile) (next : ℕ) → are_named (names_of fs) next ≡ true → AreCrashed choice fs gs → are_named (names_of gs) next ≡ true
crashed_named choice fs gs next h c = ap (λ (es : List (Text × ℕ)). are_named es next) (crashed_names choice fs gs c) ∙ h

-- ---- the exits of a crash

pub not_images : (choice : CrashChoice) (directories : List (String Global)) (fs ts : List MemoryFile) (next : ℕ) → are_named (names_of fs) next ≡ true → ts ≡ fs → (AreImages choice ts → ⊥) → IsImageOf choice (disk_of directories fs next) → ⊥
not_images choice directories fs ts next h same none image = none (subst (AreImages choice) (sym same) (images_over choice directories fs next h image.1))

pub are_image : (choice : CrashChoice) (directories : List (String Global)) (fs ts us : List MemoryFile) (next : ℕ) → are_named (names_of fs) next ≡ true → us ≡ fs → ts ≡ fs → NamesFiles choice (names_of us) → AreImages choice ts → IsImageOf choice (disk_of directories fs next)
are_image choice directories fs ts us next h named same names images =
    (subst (λ l. NamesFiles choice (names_of l)) named names, images_back choice directories fs next h (subst (AreImages choice) same images))

pub are_genuine : (choice : CrashChoice) (directories : List (String Global)) (fs ts : List MemoryFile) (next : ℕ) → are_named (names_of fs) next ≡ true → ts ≡ fs → AreGenuine choice ts → IsGenuineImage (disk_of directories fs next) (image_in choice fs)
are_genuine choice directories fs ts next h same genuine = genuine_back choice directories fs next h (subst (AreGenuine choice) same genuine)

pub not_genuine : (choice : CrashChoice) (directories : List (String Global)) (fs ts : List MemoryFile) (next : ℕ) → are_named (names_of fs) next ≡ true → ts ≡ fs → (AreGenuine choice ts → ⊥) → IsGenuineImage (disk_of directories fs next) (image_in choice fs) → ⊥
not_genuine choice directories fs ts next h same none genuine = none (subst (AreGenuine choice) (sym same) (genuine_over choice directories fs next h genuine))
