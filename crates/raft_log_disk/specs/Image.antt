-- What a crash may leave.
use Rattle.std.specs.Prelude.{◌≡◌, ◌⊎◌, ℕ, ◌<◌, ◌≤◌, min, List, [], ◌∷◌, length, map, take, Vec, String, slice_index, ◌==◌, if◌then◌else◌}
use Rattle.std.specs.List.{AllByRecursion}
use Rattle.std.specs.String.{string_bytes}
use Rattle.std.specs.declared.alloc.Global.{Global}
use Rattle.raft_log_disk.specs.declared.crash.CrashChoice.{CrashChoice}
use Rattle.raft_log_disk.specs.declared.crash.CrashChoice.TheVariants.{Least, Most, Bytes}
use Rattle.raft_log_disk.specs.declared.crash.FileBytes.{FileBytes}
use Rattle.raft_log_disk.specs.Text.{Text, same_text}
use Rattle.raft_log_disk.specs.Disk.{FileState, Disk, AreBytes, IsIn, settled}

-- no change reached this place
abbrev pub IsOutside : ℕ → List (ℕ × ℕ) → Type 0
IsOutside i ranges = AllByRecursion (λ r. (i < r.0) ⊎ (r.1 ≤ i)) ranges

-- a crash may leave these bytes of the file
pub record IsFileImage (f : FileState) (bytes : List ℕ) : Type 0 where
  pub no_shorter : f.least ≤ length bytes
  pub no_longer : length bytes ≤ f.greatest
  pub fits : AreBytes bytes
  pub same : (i : ℕ) → i < length bytes → IsOutside i f.changed → slice_index bytes i ≡ slice_index f.kept i

-- what a read gives and what was synced, as far as the least length since, may both be left
pub record IsRecoverable (f : FileState) : Type 0 where
  pub seen : IsFileImage f f.bytes
  pub synced : IsFileImage f (take f.least f.kept)

-- all of the file is on the disk
pub record IsStill (f : FileState) : Type 0 where
  pub kept : f.kept ≡ f.bytes
  pub changed : f.changed ≡ []
  pub least : f.least ≡ length f.bytes
  pub greatest : f.greatest ≡ length f.bytes

-- an image: for each file's number its bytes
abbrev pub Image : Type 0
Image = ℕ → List ℕ

-- a crash may leave these bytes of each file. Names change at once, so they are as they are
abbrev pub IsImage : Disk → Image → Type 0
IsImage d image = AllByRecursion (λ e. IsFileImage (d.file e.1) (image e.1)) d.names

-- what reads see of each file
abbrev pub seen_image : Disk → Image
seen_image d n = (d.file n).bytes

-- what was synced of each file, as far as the least length since
abbrev pub synced_image : Disk → Image
synced_image d n = take (d.file n).least (d.file n).kept

-- a disk as it reads is one of its images, and so is what was synced of it
pub record HasImages (d : Disk) : Type 0 where
  pub seen : IsImage d (seen_image d)
  pub synced : IsImage d (synced_image d)

-- the disk after a crash that left these bytes
abbrev pub after_crash : Disk → Image → Disk
after_crash d image = record { directories = d.directories; names = d.names; file = λ n. settled (d.file n) (image n); next = d.next }

-- ---- choices

-- the bytes that stand beside a path
abbrev pub bytes_of : List FileBytes → Text → List ℕ
bytes_of [] path = []
bytes_of (b ∷ bs) path = if same_text (string_bytes b.path) path then b.bytes.items else bytes_of bs path

-- what a choice leaves of the file of a path: the least length of the synced bytes, what reads see, or what is said
abbrev pub chosen_of : CrashChoice → Text → FileState → List ℕ
chosen_of Least path f = take f.least f.kept
chosen_of Most path f = f.bytes
chosen_of (Bytes bs) path f = bytes_of bs.items path

-- the image of a choice
abbrev pub image_of : CrashChoice → List (List ℕ × ℕ) → (ℕ → FileState) → Image
image_of choice [] file n = []
image_of choice (e ∷ es) file n = if n == e.1 then chosen_of choice e.0 (file e.1) else image_of choice es file n

abbrev pub AreAmong : List Text → List Text → Type 0
AreAmong ps qs = AllByRecursion (λ p. IsIn p qs) ps

-- an image that is said names each file once, and no other
abbrev pub NamesFiles : CrashChoice → List (List ℕ × ℕ) → Type 0
NamesFiles Least names = Unit {0}
NamesFiles Most names = Unit {0}
NamesFiles (Bytes bs) names = (length bs.items ≡ length names)
    × AreAmong (map (λ b. string_bytes b.path) bs.items) (map (λ e. e.0) names)
    × AreAmong (map (λ e. e.0) names) (map (λ b. string_bytes b.path) bs.items)

-- the choice is an image
abbrev pub IsImageOf : CrashChoice → Disk → Type 0
IsImageOf choice d = NamesFiles choice d.names × IsImage d (image_of choice d.names d.file)
