-- What files behind a gate show: the disk, the refusals and the room of the files, and whom they met.
use Rattle.std.specs.Prelude.{ℕ, List, Option, Bool}
use Rattle.raft_log_disk.specs.Cause.{Meter}
use Rattle.raft_log_disk.specs.Disk.{Disk}
use Rattle.raft_log_disk.specs.MemorySystem as memory
use Rattle.raft_gate_files.specs.declared.files.GateFiles.{GateFiles}

abbrev pub disk_in : GateFiles → Disk
disk_in f = memory.disk_in f.files

abbrev pub meter_in : GateFiles → Meter
meter_in f = memory.meter_in f.files

abbrev pub room_in : GateFiles → List ℕ → ℕ
room_in f directory = memory.room_in f.files directory

abbrev pub is_bounded_in : GateFiles → Type 0
is_bounded_in f = memory.is_bounded_in f.files

-- whether the first write, once the gate was shut, met that of other files
abbrev pub met_in : GateFiles → Option Bool
met_in f = f.met
