-- Files in memory that crash.
use Rattle.std.specs.Prelude.{◌≡◌, ℕ, List, [], ◌∷◌, map, MatchOption}
use Rattle.std.specs.List.{AllByRecursion}
use Rattle.std.specs.String.{string_bytes}
use Rattle.raft_log_disk.specs.declared.memory_file.MemoryFile.{MemoryFile}
use Rattle.raft_log_disk.specs.declared.crash.CrashChoice.{CrashChoice}
use Rattle.raft_log_disk.specs.Disk.{settled}
use Rattle.raft_log_disk.specs.Name.{log_file_of}
use Rattle.raft_log_disk.specs.Image.{IsFileImage, chosen_of}
use Rattle.raft_log_disk.specs.Chance.{IsGenuine}
use Rattle.raft_log_disk.specs.Memory.{state_of, names_of}
use Rattle.raft_log_disk.specs.declared.crash.FileBytes.{FileBytes}

-- what is chosen of a file
abbrev pub chosen_in : CrashChoice → MemoryFile → List ℕ
chosen_in choice f = chosen_of choice (string_bytes f.path) (state_of f)

-- a crash may leave of each file what is chosen
abbrev pub AreImages : CrashChoice → List MemoryFile → Type 0
AreImages choice fs = AllByRecursion (λ f. IsFileImage (state_of f) (chosen_in choice f)) fs

abbrev pub IsFileGenuine : CrashChoice → MemoryFile → Type 0
IsFileGenuine choice f = MatchOption (log_file_of (string_bytes f.path)) (Unit {0}) (λ id. IsGenuine id (state_of f) (chosen_in choice f))

-- and nothing passes by chance in it
abbrev pub AreGenuine : CrashChoice → List MemoryFile → Type 0
AreGenuine choice fs = AllByRecursion (λ f. IsFileGenuine choice f) fs

-- each file as the choice leaves it
abbrev pub AreCrashed : CrashChoice → List MemoryFile → List MemoryFile → Type 0
AreCrashed choice [] [] = Unit {0}
AreCrashed choice (f ∷ fs) (g ∷ gs) = (string_bytes g.path ≡ string_bytes f.path) × (g.number ≡ f.number)
    × (state_of g ≡ settled (state_of f) (chosen_in choice f)) × AreCrashed choice fs gs
AreCrashed choice [] (g ∷ gs) = ⊥
AreCrashed choice (f ∷ fs) [] = ⊥

abbrev pub paths_of : List MemoryFile → List (List ℕ)
paths_of fs = map (λ e. e.0) (names_of fs)

abbrev pub said_paths : List FileBytes → List (List ℕ)
said_paths bs = map (λ b. string_bytes b.path) bs
