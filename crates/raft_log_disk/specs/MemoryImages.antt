-- A file system in memory as it reads is one of its images, and so is what was synced of it.
use Rattle.std.specs.Prelude.{◌≡◌, ℕ, Bool, true, false, cond, List, [], ◌∷◌, ◌==◌, refl}
use Rattle.std.specs.List.{AllByRecursion}
use Rattle.std.proofs.Common.{le_refl}
use Rattle.raft_log_disk.specs.declared.memory_file.MemoryFile.{MemoryFile}
use Rattle.raft_log_disk.specs.declared.memory.MemoryFileSystem.{MemoryFileSystem}
use Rattle.raft_log_disk.specs.Text.{Text}
use Rattle.raft_log_disk.specs.Disk.{FileState, Disk, no_bytes}
use Rattle.raft_log_disk.specs.Image.{IsFileImage, IsRecoverable, HasImages, seen_image, synced_image}
use Rattle.raft_log_disk.specs.Memory.{state_of, file_of}
use Rattle.raft_log_disk.specs.MemorySystem.{disk_in}

-- of a number without a file
nothing_left : IsFileImage no_bytes []
nothing_left = record { no_shorter = le_refl 0; no_longer = le_refl 0; fits = tt; same = λ i within outside. refl }

either_recoverable : (b : Bool) (f g : FileState) → IsRecoverable f → IsRecoverable g → IsRecoverable (cond b f g)
either_recoverable true f g r s = r
either_recoverable false f g r s = s

each_recoverable : (files : List MemoryFile) (n : ℕ) → IsRecoverable (file_of files n)
each_recoverable [] n = record { seen = nothing_left; synced = nothing_left }
each_recoverable (f ∷ fs) n = either_recoverable (n == f.number) (state_of f) (file_of fs n) f.recoverable (each_recoverable fs n)

of_each_number : (P : ℕ → Type 0) (names : List (Text × ℕ)) → ((n : ℕ) → P n) → AllByRecursion (λ e. P e.1) names
of_each_number P [] each = tt
of_each_number P (e ∷ es) each = (each e.1, of_each_number P es each)

pub memory_images : (m : MemoryFileSystem) → HasImages (disk_in m)
memory_images m = record {
  seen = of_each_number (λ n. IsFileImage (file_of m.files.items n) (seen_image (disk_in m) n)) (disk_in m).names (λ n. (each_recoverable m.files.items n).seen);
  synced = of_each_number (λ n. IsFileImage (file_of m.files.items n) (synced_image (disk_in m) n)) (disk_in m).names (λ n. (each_recoverable m.files.items n).synced);
}
