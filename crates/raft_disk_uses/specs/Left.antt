-- What each image of a disk has under a path or a number.
use Rattle.std.specs.Prelude.{◌≡◌, ◌⊎◌, ℕ, List, [], length, take, Option, option_map}
use Rattle.raft_log_disk.specs.Text.{Text}
use Rattle.raft_log_disk.specs.Disk.{Disk, IsNoFile, fd_of}
use Rattle.raft_log_disk.specs.Image.{Image, IsImage}

-- the bytes under a path, where each file has these
abbrev pub found_at : Disk → Image → Text → Option (List ℕ)
found_at d image path = option_map image (fd_of d.names path)

-- whatever a crash leaves, this stands under the path
abbrev pub Leaves : Disk → Text → Option (List ℕ) → Type 0
Leaves d path found = (image : Image) → IsImage d image → found_at d image path ≡ found

-- or one of two
abbrev pub LeavesOneOf : Disk → Text → Option (List ℕ) → Option (List ℕ) → Type 0
LeavesOneOf d path one other = (image : Image) → IsImage d image → (found_at d image path ≡ one) ⊎ (found_at d image path ≡ other)

-- whatever a crash leaves, the file has these bytes
abbrev pub LeavesBytes : Disk → ℕ → List ℕ → Type 0
LeavesBytes d fd bytes = (image : Image) → IsImage d image → image fd ≡ bytes

-- whatever a crash leaves, the file begins with these bytes
abbrev pub LeavesFront : Disk → ℕ → List ℕ → Type 0
LeavesFront d fd bytes = (image : Image) → IsImage d image → take (length bytes) (image fd) ≡ bytes
