-- The calls that are made of the system, and their answers.
use Rattle.std.specs.Prelude.{◌≡◌, ◌⊎◌, ℕ, Bool, true, false, List, [], ◌∷◌, Result, Ok, Err, is_ok}

-- A call with its answer, as the record has it: numbers (which call, a file's number, a place, a length, and 1 for success) and
-- two texts.
abbrev pub Note : Type 0
Note = List ℕ × (List ℕ × List ℕ)

pub data HostCall : Type 0 where
  -- a new file of this path and number
  Create : List ℕ → ℕ → HostCall
  -- a file that is there gets this number
  Take : List ℕ → ℕ → HostCall
  Delete : List ℕ → HostCall
  Rename : List ℕ → List ℕ → HostCall
  MakeDir : List ℕ → HostCall
  -- of a file's number, from this place on
  Write : ℕ → ℕ → List ℕ → HostCall
  -- these bytes were read
  Read : ℕ → ℕ → List ℕ → HostCall
  -- to this length
  Truncate : ℕ → ℕ → HostCall
  -- zeros from the end on, up to that many bytes behind a place
  Fill : ℕ → ℕ → ℕ → HostCall
  Sync : ℕ → HostCall
  -- the folder of this path is synced, so that its names are on the disk
  SyncFolder : List ℕ → HostCall
  -- the file is synced with its length, before it is read
  Settle : ℕ → HostCall

-- 1 for success
abbrev pub flag : Bool → ℕ
flag true = 1
flag false = 0

-- how a call is noted
abbrev pub noted : HostCall → Bool → Note
noted (Create path number) done = (0 ∷ number ∷ 0 ∷ 0 ∷ flag done ∷ [], (path, []))
noted (Take path number) done = (1 ∷ number ∷ 0 ∷ 0 ∷ flag done ∷ [], (path, []))
noted (Delete path) done = (2 ∷ 0 ∷ 0 ∷ 0 ∷ flag done ∷ [], (path, []))
noted (Rename from to) done = (3 ∷ 0 ∷ 0 ∷ 0 ∷ flag done ∷ [], (from, to))
noted (MakeDir path) done = (4 ∷ 0 ∷ 0 ∷ 0 ∷ flag done ∷ [], (path, []))
noted (Write number at bytes) done = (5 ∷ number ∷ at ∷ 0 ∷ flag done ∷ [], (bytes, []))
noted (Read number at bytes) done = (6 ∷ number ∷ at ∷ 0 ∷ flag done ∷ [], (bytes, []))
noted (Truncate number len) done = (7 ∷ number ∷ 0 ∷ len ∷ flag done ∷ [], ([], []))
noted (Fill number at len) done = (8 ∷ number ∷ at ∷ len ∷ flag done ∷ [], ([], []))
noted (Sync number) done = (9 ∷ number ∷ 0 ∷ 0 ∷ flag done ∷ [], ([], []))
noted (SyncFolder path) done = (10 ∷ 0 ∷ 0 ∷ 0 ∷ flag done ∷ [], (path, []))
noted (Settle number) done = (11 ∷ number ∷ 0 ∷ 0 ∷ flag done ∷ [], ([], []))

-- this one call was made, and answered so
abbrev pub IsNoted : {T E : Type 0} → HostCall → Result T E → List Note → List Note → Type 0
IsNoted call result old new = new ≡ noted call (is_ok result) ∷ old

-- what a change takes: a change of names is followed by a sync of their folders, and a file that is there is settled
abbrev pub calls_of : HostCall → List HostCall
calls_of (Create path number) = Create path number ∷ SyncFolder path ∷ []
calls_of (Take path number) = Take path number ∷ Settle number ∷ []
calls_of (Delete path) = Delete path ∷ SyncFolder path ∷ []
calls_of (Rename from to) = Rename from to ∷ SyncFolder to ∷ SyncFolder from ∷ []
calls_of (MakeDir path) = MakeDir path ∷ SyncFolder path ∷ []
calls_of (Write number at bytes) = Write number at bytes ∷ []
calls_of (Read number at bytes) = Read number at bytes ∷ []
calls_of (Truncate number len) = Truncate number len ∷ []
calls_of (Fill number at len) = Fill number at len ∷ []
calls_of (Sync number) = Sync number ∷ []
calls_of (SyncFolder path) = SyncFolder path ∷ []
calls_of (Settle number) = Settle number ∷ []

-- the record once these calls were made in turn and done, the last one first
abbrev pub all_done : List HostCall → List Note → List Note
all_done [] notes = notes
all_done (c ∷ cs) notes = all_done cs (noted c true ∷ notes)

-- one of them was refused, and none behind it was made
abbrev pub IsStopped : List HostCall → List Note → List Note → Type 0
IsStopped [] notes new = ⊥
IsStopped (c ∷ cs) notes new = (new ≡ noted c false ∷ notes) ⊎ IsStopped cs (noted c true ∷ notes) new

-- this change was made, or stopped
abbrev pub IsTold : {T E : Type 0} → HostCall → Result T E → List Note → List Note → Type 0
IsTold call (Ok x) old new = new ≡ all_done (calls_of call) old
IsTold call (Err e) old new = IsStopped (calls_of call) old new
