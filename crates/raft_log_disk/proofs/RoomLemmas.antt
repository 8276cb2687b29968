-- A file in a directory without room.
use Rattle.std.proofs.Common.{◌≡◌, ℕ, ◌+◌, ◌-◌, ◌^◌, ◌<◌, Bool, true, false, cond, List, [], ◌∷◌, length, drop, get_or, Option, Some, None, refl, sym, ap, subst, ◌∙◌, arith}
use Rattle.std.specs.Prelude.{is_some, option_map, nat_lt, ◌&&◌, ◌||◌}
use Rattle.std.specs.List.{list_any}
use Rattle.std.proofs.lemmas.Bool.{lt-ltb}
use Rattle.std.proofs.Math.Bool.{or-true}
use Rattle.std.proofs.lemmas.List.{drop_more}
use lib.Pointwise.{bytes_decides}
use Rattle.raft_log_disk.specs.declared.space.Space.{Space}
use Rattle.std.specs.String.{string_bytes}
use Rattle.raft_log_disk.specs.declared.memory_file.MemoryFile.{MemoryFile}
use Rattle.raft_log_disk.specs.declared.memory.MemoryFileSystem.{MemoryFileSystem}
use Rattle.raft_log_disk.specs.Text.{Text, same_text, name_in}
use Rattle.raft_log_disk.specs.Disk.{IsIn, LacksRoom}
use Rattle.raft_log_disk.specs.Memory.{names_of, room_of, used_of}
use Rattle.raft_log_disk.specs.MemorySystem.{disk_in, room_in}
use Rattle.raft_log_disk.specs.Place.{IsPlace}
use Rattle.raft_log_disk.proofs.NamedLemmas.{one_path}

mapped : {X Y : Type 0} (f : X → Y) (r : Option X) → is_some (option_map f r) ≡ is_some r
mapped f None = refl
mapped f (Some x) = refl

pub inside_by : {X : Type 0} (f : X → Text) (r : Option X) (directory text path : Text) (t : Bool) → option_map f r ≡ name_in directory text → text ≡ path → t ≡ is_some r → t ≡ true → is_some (name_in directory path) ≡ true
inside_by f r directory text path t is same test passed = ap (λ p. is_some (name_in directory p)) (sym same) ∙ ap is_some (sym is) ∙ mapped f r ∙ sym test ∙ passed

pub cramped : (m : MemoryFileSystem) (i bytes number : ℕ) (f : MemoryFile) (directory : Text) → IsPlace m.files.items number i → f ≡ get_or m.files.items i f → is_some (name_in directory (string_bytes f.path)) ≡ true
    → room_in m directory < bytes → LacksRoom (room_in m) (disk_in m) number bytes
cramped m i bytes number f directory p is inside lacks = record {
  path = string_bytes (get_or m.files.items i f).path;
  directory = directory;
  named = p.among f;
  inside = ap (λ (g : MemoryFile). is_some (name_in directory (string_bytes g.path))) (sym is) ∙ inside;
  lacks = lacks;
}

-- a test: the bound is on a directory that holds the path and has less room than this
abbrev pub is_short : List Space → List MemoryFile → Text → ℕ → Space → Bool
is_short spaces files path bytes s = is_some (name_in (string_bytes s.directory) path) && nat_lt (room_of spaces files (string_bytes s.directory)) bytes

-- the test as the code makes it
pub short_by : {X : Type 0} (f : X → Text) (r : Option X) (spaces : List Space) (files : List MemoryFile) (path directory : Text) (bytes : ℕ) (s : Space) (t : Bool) → option_map f r ≡ name_in directory path → directory ≡ string_bytes s.directory → t ≡ is_some r
    → is_short spaces files path bytes s ≡ (t && nat_lt (room_of spaces files directory) bytes)
short_by f r spaces files path directory bytes s t found named test =
    ap (λ d. is_some (name_in d path) && nat_lt (room_of spaces files d) bytes) (sym named)
    ∙ ap (λ b. b && nat_lt (room_of spaces files directory) bytes) (ap is_some (sym found) ∙ mapped f r ∙ sym test)

-- a bound that was passed over
pub passed_over : (p : Space → Bool) (ss : List Space) (k : ℕ) (s : Space) → k < length ss → s ≡ get_or ss k s → p s ≡ false → list_any p (drop (k + 1) ss) ≡ list_any p (drop k ss)
passed_over p ss k s within is fails = sym (ap (list_any p) (drop_more ss k s within) ∙ ap (λ t. t || list_any p (drop (k + 1) ss)) (ap p (sym is) ∙ fails))

-- a directory that has less room than this has a bound
short_among : (all ss : List Space) (files : List MemoryFile) (path directory : Text) (bytes : ℕ) → bytes < 2 ^ 64 → is_some (name_in directory path) ≡ true
    → room_of all files directory < bytes → room_of ss files directory < bytes → list_any (is_short all files path bytes) ss ≡ true
short_among all [] files path directory bytes fits inside lacks here = absurd (omega (arith, fits, here))
short_among all (s ∷ ss) files path directory bytes fits inside lacks here = go (same_text (string_bytes s.directory) directory) (short_among all ss files path directory bytes fits inside lacks) refl here
  where
    go : (t : Bool) → (room_of ss files directory < bytes → list_any (is_short all files path bytes) ss ≡ true) → same_text (string_bytes s.directory) directory ≡ t → cond t (s.bytes - used_of files directory) (room_of ss files directory) < bytes → list_any (is_short all files path bytes) (s ∷ ss) ≡ true
    go true next same h =
        let is : string_bytes s.directory ≡ directory = (bytes_decides (string_bytes s.directory) directory).0 same in
        let holds : is_some (name_in (string_bytes s.directory) path) ≡ true = ap (λ d. is_some (name_in d path)) is ∙ inside in
        let less : nat_lt (room_of all files (string_bytes s.directory)) bytes ≡ true = ap (λ d. nat_lt (room_of all files d) bytes) is ∙ lt-ltb (room_of all files directory) bytes lacks in
        λ i. (holds i && less i) || list_any (is_short all files path bytes) ss
    go false next other h = ap (λ t. is_short all files path bytes s || t) (next h) ∙ or-true (is_short all files path bytes s)

-- no bound is short, so no directory that holds the file lacks room
pub roomy : (m : MemoryFileSystem) (i bytes number : ℕ) (f : MemoryFile) (path : Text) → bytes < 2 ^ 64 → f ≡ get_or m.files.items i f → path ≡ string_bytes f.path
    → list_any (is_short m.spaces.items m.files.items path bytes) m.spaces.items ≡ false → IsPlace m.files.items number i → LacksRoom (room_in m) (disk_in m) number bytes → ⊥
roomy m i bytes number f path fits is same none p short =
    let here : IsIn (path, number) (names_of m.files.items) = subst (λ t. IsIn (t, number) (names_of m.files.items)) (sym same) (subst (λ (g : MemoryFile). IsIn (string_bytes g.path, number) (names_of m.files.items)) (sym is) (p.among f)) in
    let only : short.path ≡ path = one_path (names_of m.files.items) m.next number short.path path m.named short.named here in
    let inside = ap (λ t. is_some (name_in short.directory t)) (sym only) ∙ short.inside in
    let there = short_among m.spaces.items m.spaces.items m.files.items path short.directory bytes fits inside short.lacks short.lacks in
    absurd cc
