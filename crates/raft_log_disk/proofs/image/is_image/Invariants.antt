use Rattle.std.proofs.Common.{◌≡◌, ℕ, ◌<◌, get_or}
use Rattle.raft_log_disk.specs.Image.{IsOutside}
use Rattle.raft_log_disk.specs.Changes.{ranges_of}
use Rattle.raft_log_disk.proofs.image.is_image.Given as goal

abbrev pub invariant-loop-i : goal.invariant-loop-i
invariant-loop-i l = (k : ℕ) → k < l.i → IsOutside k (ranges_of l.file.changes.items) → get_or l.bytes k 0 ≡ get_or l.kept k 0
