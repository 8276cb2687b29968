-- The disk as a value: directories, names and files, and what each call makes of them.
use Rattle.std.specs.Prelude.{◌≡◌, ◌⊎◌, ℕ, ◌+◌, ◌-◌, ◌^◌, ◌<◌, ◌≤◌, min, max, true, List, [], ◌∷◌, ◌++◌, length, take, drop, map}
use Rattle.std.specs.Prelude.{sum_by, Option, Some, None, ◌==◌, if◌then◌else◌}
use Rattle.std.specs.Prelude.{is_some, option_to_list, replicate, Bool, not, nat_lt, ◌&&◌, IsTrue}
use Rattle.std.specs.List.{AllByRecursion, list_any}
use Rattle.raft_log_disk.specs.Text.{Text, same_text, name_in}

abbrev pub IsIn : {X : Type 0} → X → List X → Type 0
IsIn x [] = ⊥
IsIn x (y ∷ ys) = (x ≡ y) ⊎ IsIn x ys

abbrev pub AreBytes : List ℕ → Type 0
AreBytes bytes = AllByRecursion (λ b. b < 256) bytes

-- one file: what a read returns, and what a crash may make of it
pub record FileState : Type 0 where
  -- what a read returns
  pub bytes : List ℕ
  -- the bytes at the last sync or crash
  pub kept : List ℕ
  -- the ranges written, allocated or cut since, each from a place up to another
  pub changed : List (ℕ × ℕ)
  -- the least and the greatest length since
  pub least : ℕ
  pub greatest : ℕ
  -- places and bytes of the writes since the file got its name: up to the last sync or crash, and since
  pub earlier : List (ℕ × List ℕ)
  pub later : List (ℕ × List ℕ)
  -- the front that the file had when a rename gave it its name, as long as the longest header
  pub brought : List ℕ

pub record Disk : Type 0 where
  pub directories : List (List ℕ)
  -- each file's path and number, the oldest first
  pub names : List (List ℕ × ℕ)
  pub file : ℕ → FileState
  -- the number that the next new file gets
  pub next : ℕ

-- ---- names

-- the number of the file of a path
abbrev pub fd_of : List (List ℕ × ℕ) → Text → Option ℕ
fd_of [] path = None
fd_of (e ∷ es) path = if same_text e.0 path then Some e.1 else fd_of es path

-- the names without a path
abbrev pub without : List (List ℕ × ℕ) → Text → List (List ℕ × ℕ)
without [] path = []
without (e ∷ es) path = if same_text e.0 path then es else e ∷ without es path

-- the names where a file has another path
abbrev pub moved : List (List ℕ × ℕ) → Text → Text → List (List ℕ × ℕ)
moved [] from to = []
moved (e ∷ es) from to = if same_text e.0 from then (to, e.1) ∷ es else e ∷ moved es from to

-- a directory that was made holds this path
abbrev pub HasDirectory : List (List ℕ) → Text → Type 0
HasDirectory [] path = ⊥
HasDirectory (d ∷ ds) path = (is_some (name_in d path) ≡ true) ⊎ HasDirectory ds path

-- the names in a directory
abbrev pub listed : List (List ℕ × ℕ) → Text → List Text
listed [] directory = []
listed (e ∷ es) directory = option_to_list (name_in directory e.0) ++ listed es directory

-- ---- what a call makes of one file

-- a new file, and what a number without a file has
abbrev pub no_bytes : FileState
no_bytes = record { bytes = []; kept = []; changed = []; least = 0; greatest = 0; earlier = []; later = []; brought = [] }

-- the bytes with others written over them
abbrev pub put : List ℕ → ℕ → List ℕ → List ℕ
put file at bytes = take at file ++ bytes ++ drop (at + length bytes) file

-- the bytes cut to a length, or filled up to it with zeros
abbrev pub resized : List ℕ → ℕ → List ℕ
resized file len = take len file ++ replicate (len - length file) 0

-- the bytes filled up to a length with zeros
abbrev pub filled : List ℕ → ℕ → List ℕ
filled file len = file ++ replicate (len - length file) 0

-- after a write, whatever of it a read sees
abbrev pub after_write : FileState → ℕ → List ℕ → List ℕ → FileState
after_write f at bytes seen = record {
  bytes = seen;
  kept = f.kept;
  changed = f.changed ++ (at, at + length bytes) ∷ [];
  least = f.least;
  greatest = max f.greatest (at + length bytes);
  earlier = f.earlier;
  later = f.later ++ (at, bytes) ∷ [];
  brought = f.brought;
}

-- after a cut or a lengthening
abbrev pub after_truncate : FileState → ℕ → List ℕ → FileState
after_truncate f len seen = record {
  bytes = seen;
  kept = f.kept;
  changed = f.changed ++ (min len (length f.bytes), max len (length f.bytes)) ∷ [];
  least = min f.least len;
  greatest = max f.greatest len;
  earlier = f.earlier;
  later = f.later;
  brought = f.brought;
}

-- after room was made from a place on
abbrev pub after_allocate : FileState → ℕ → ℕ → List ℕ → FileState
after_allocate f at len seen = record {
  bytes = seen;
  kept = f.kept;
  changed = f.changed ++ (at, at + len) ∷ [];
  least = f.least;
  greatest = max f.greatest (at + len);
  earlier = f.earlier;
  later = f.later;
  brought = f.brought;
}

-- a file of these bytes, all of them on the disk
abbrev pub settled : FileState → List ℕ → FileState
settled f bytes = record {
  bytes = bytes;
  kept = bytes;
  changed = [];
  least = length bytes;
  greatest = length bytes;
  earlier = f.earlier ++ f.later;
  later = [];
  brought = f.brought;
}

abbrev pub after_sync : FileState → FileState
after_sync f = settled f f.bytes

-- a file under a new name: what was written before counts no more
abbrev pub renamed : FileState → FileState
renamed f = record {
  bytes = f.bytes;
  kept = f.kept;
  changed = f.changed;
  least = f.least;
  greatest = f.greatest;
  earlier = [];
  later = [];
  brought = take 69 f.bytes;
}

-- what a read sees after a refused write: anything in its range, and the bytes around it
pub record Torn (at end : ℕ) (old new : List ℕ) : Type 0 where
  pub before : take at new ≡ take at old
  pub after : drop end new ≡ drop end old
  pub no_shorter : length old ≤ length new
  pub no_longer : length new ≤ max (length old) end
  pub fits : AreBytes old → AreBytes new

-- after a refused allocation: zeros stand behind the bytes, some of the way
pub record PartlyFilled (end : ℕ) (old new : List ℕ) : Type 0 where
  pub no_shorter : length old ≤ length new
  pub no_longer : length new ≤ max (length old) end
  pub front : new ≡ filled old (length new)

-- and after a refused cut or lengthening: it came some of the way
pub record PartlyTruncated (len : ℕ) (old new : List ℕ) : Type 0 where
  pub no_shorter : min len (length old) ≤ length new
  pub no_longer : length new ≤ max len (length old)
  pub front : new ≡ resized old (length new)

-- ---- and of the disk

abbrev pub with_file : Disk → ℕ → FileState → Disk
with_file d fd f = record { directories = d.directories; names = d.names; file = λ n. if n == fd then f else d.file n; next = d.next }

abbrev pub after_create : Disk → Text → Disk
after_create d path = record {
  directories = d.directories;
  names = d.names ++ (path, d.next) ∷ [];
  file = λ n. if n == d.next then no_bytes else d.file n;
  next = d.next + 1;
}

abbrev pub after_make_dir : Disk → Text → Disk
after_make_dir d path = record { directories = d.directories ++ path ∷ []; names = d.names; file = d.file; next = d.next }

-- the path goes, and its file with it
abbrev pub after_delete : Disk → Text → ℕ → Disk
after_delete d path fd = record {
  directories = d.directories;
  names = without d.names path;
  file = λ n. if n == fd then no_bytes else d.file n;
  next = d.next;
}

abbrev pub after_rename : Disk → Text → Text → ℕ → Disk
after_rename d from to fd = record {
  directories = d.directories;
  names = moved d.names from to;
  file = λ n. if n == fd then renamed (d.file fd) else d.file n;
  next = d.next;
}

pub record RefusedWrite (old new : Disk) (fd at : ℕ) (bytes : List ℕ) : Type 0 where
  pub seen : List ℕ
  pub torn : Torn at (at + length bytes) (old.file fd).bytes seen
  pub files : new ≡ with_file old fd (after_write (old.file fd) at bytes seen)

pub record RefusedAllocate (old new : Disk) (fd at len : ℕ) : Type 0 where
  pub seen : List ℕ
  pub part : PartlyFilled (at + len) (old.file fd).bytes seen
  pub files : new ≡ with_file old fd (after_allocate (old.file fd) at len seen)

pub record RefusedTruncate (old new : Disk) (fd len : ℕ) : Type 0 where
  pub seen : List ℕ
  pub part : PartlyTruncated len (old.file fd).bytes seen
  pub files : new ≡ with_file old fd (after_truncate (old.file fd) len seen)

-- ---- room

-- the file is in a directory that has less room than this
pub record LacksRoom (room : Text → ℕ) (d : Disk) (fd bytes : ℕ) : Type 0 where
  pub path : List ℕ
  pub directory : List ℕ
  pub named : IsIn (path, fd) d.names
  pub inside : is_some (name_in directory path) ≡ true
  pub lacks : room directory < bytes

-- ---- what is there

-- no file has this number
abbrev pub IsNoFile : Disk → ℕ → Type 0
IsNoFile d fd = IsIn fd (map (λ e. e.1) d.names) → ⊥

-- a file has this path
abbrev pub IsFile : Disk → Text → Type 0
IsFile d path = IsTrue (is_some (fd_of d.names path))

-- no file has the first path, or the second one is in no directory that was made
abbrev pub IsNoMove : Disk → Text → Text → Type 0
IsNoMove d from to = (fd_of d.names from ≡ None) ⊎ (HasDirectory d.directories to → ⊥)

-- no number is left for a new file, or its path is a directory
abbrev pub IsNoNewFile : Disk → Text → Type 0
IsNoNewFile d path = (2 ^ 64 ≤ d.next + 1) ⊎ IsIn path d.directories

-- the file of this number has one of these paths
abbrev pub HasOneOf : Disk → ℕ → List Text → Type 0
HasOneOf d fd paths = (path : List ℕ) × IsIn (path, fd) d.names × IsIn path paths

-- the path names a file, and it goes or gets another path
abbrev pub Deletes : Disk → Disk → Text → Type 0
Deletes old new path = (fd : ℕ) × (fd_of old.names path ≡ Some fd) × (new ≡ after_delete old path fd)

abbrev pub Renames : Disk → Disk → Text → Text → Type 0
Renames old new from to = (fd : ℕ) × (fd_of old.names from ≡ Some fd) × (new ≡ after_rename old from to fd)

-- ---- a disk as calls make it

-- a test: each file has a path and a number of its own, and the numbers are below the next one
abbrev pub are_named : List (List ℕ × ℕ) → ℕ → Bool
are_named [] next = true
are_named (e ∷ es) next = nat_lt e.1 next && (not (list_any (λ other. other.1 == e.1) es) && (not (is_some (fd_of es e.0)) && are_named es next))

abbrev pub IsNamed : Disk → Type 0
IsNamed d = IsTrue (are_named d.names d.next)
