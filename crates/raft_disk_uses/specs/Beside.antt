-- What files show beside which something is kept: what files in memory do.
use Rattle.std.specs.Prelude.{ℕ, List}
use Rattle.raft_log_disk.specs.Cause.{Meter}
use Rattle.raft_log_disk.specs.Disk.{Disk}
use Rattle.raft_log_disk.specs.MemorySystem as memory
use Rattle.raft_disk_uses.specs.declared.beside.BesideFiles.{BesideFiles}

abbrev pub disk_in : BesideFiles → Disk
disk_in f = memory.disk_in f.files

abbrev pub meter_in : BesideFiles → Meter
meter_in f = memory.meter_in f.files

abbrev pub room_in : BesideFiles → List ℕ → ℕ
room_in f directory = memory.room_in f.files directory

abbrev pub is_bounded_in : BesideFiles → Type 0
is_bounded_in f = memory.is_bounded_in f.files
