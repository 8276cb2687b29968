-- Files of a directory may go to another thread, and be read by several. A `search` that goes down through all their fields runs out
-- of steps, so each part has its own.
use base.Fml.{Share}
use base.Shift.{Keyless}
use denote.Memory.{cell_raw}
use mir.Raw.{raw}
use mir.Syntax.{Width, ty_int, w8, w32, w64}
use mir.Val.{Val}
use Rattle.std.proofs.Common.{ℕ, ◌+◌, List, [], ◌∷◌}
use denote.Param.Send.{IsSend, IsSync, cell_keyless, sendable, whole-keyless}
use Rattle.std.proofs.Crossing as values
use Rattle.std.proofs.MapsCrossing as texts
use Rattle.raft_log_disk.specs.contracts.memory.MemoryFileSystem as Memory
use Rattle.raft_log_disk.specs.contracts.memory_file.Change as Change
use Rattle.raft_log_disk.specs.contracts.memory_file.MemoryFile as MemoryFile
use Rattle.raft_log_disk.specs.contracts.memory_file.Written as Written
use Rattle.raft_log_disk.specs.contracts.space.Space as Space
use Rattle.raft_log_host.specs.contracts.host.Host as Host
use Rattle.raft_log_host.specs.contracts.host.HostFile as HostFile
use Rattle.raft_log_host.specs.contracts.record.Record as Record
use Rattle.std.specs.contracts.io.Error as Error
use Rattle.std.specs.contracts.option.Option as Option
use Rattle.raft_log_host.specs.contracts.files.HostFileSystem.{the_row}
use Rattle.raft_log_host.specs.contracts.files.HostFileSystem.TheInside as inside

ruleset ways = (sendable, values.crosses, texts.crosses)

-- ---- files in memory

change_sent : IsSend Change.the_row
change_sent = search ways depth 20

change_shared : IsSync Change.the_row
change_shared = search ways depth 20

written_sent : IsSend Written.the_row
written_sent = search ways depth 20

written_shared : IsSync Written.the_row
written_shared = search ways depth 20

file_sent : IsSend MemoryFile.the_row
file_sent = search (ways, change_sent, written_sent) depth 20

file_shared : IsSync MemoryFile.the_row
file_shared = search (ways, change_shared, written_shared) depth 20

space_sent : IsSend Space.the_row
space_sent = search ways depth 20

space_shared : IsSync Space.the_row
space_shared = search ways depth 20

memory_sent : IsSend Memory.the_row
memory_sent = search (ways, file_sent, space_sent) depth 20

memory_shared : IsSync Memory.the_row
memory_shared = search (ways, file_shared, space_shared) depth 20

-- ---- files on the disk

record_sent : IsSend Record.the_row
record_sent = search ways depth 20

record_shared : IsSync Record.the_row
record_shared = record { shared = λ d b o κ q. whole-keyless _ _ (λ z vs. record_sent.owned z vs) q d b o }

open_sent : IsSend HostFile.the_row
open_sent = search ways depth 20

open_shared : IsSync HostFile.the_row
open_shared = search ways depth 20

host_sent : IsSend Host.the_row
host_sent = search (ways, open_sent, record_sent) depth 20

host_shared : IsSync Host.the_row
host_shared = search (ways, open_shared, record_shared) depth 20

error_sent : IsSend Error.the_row
error_sent = record { owned = λ x vs. λ xs. (tt, ((tt, tt), ((tt, tt), ((tt, tt), ((tt, tt), ((λ ys. (tt, ((tt, tt), ((tt, tt), ((tt, tt), ((tt, tt), ((tt, tt), ((tt, tt), ((tt, tt), ((tt, tt), ((tt, tt), ((tt, tt), tt)))))))))))), tt)))))); leaving = λ k x w. tt }

-- a number in memory
pure : (w : Width) (vs : List Val) (b at : ℕ) → (Unit {0} × Unit {0}) × ((q : Share) → Keyless (cell_raw q (raw (ty_int w) ∷ []) vs b at))
pure w vs b at = ((tt, tt), λ q. cell_keyless q (raw (ty_int w) ∷ []) vs b at)

error_shared : IsSync Error.the_row
error_shared = record { shared = λ x b o κ. (((λ vs. pure w8 vs b (o + 0)), ((λ vs. pure w8 vs b (o + 1)), ((λ vs. pure w8 vs b (o + 2)), ((λ vs. pure w32 vs b (o + 4)), ((((λ vs. pure w64 vs b (o + 8 + 0)), ((λ vs. pure w64 vs b (o + 8 + 8)), ((λ vs. pure w64 vs b (o + 8 + 16)), ((λ vs. pure w64 vs b (o + 8 + 24)), ((λ vs. pure w64 vs b (o + 8 + 32)), ((λ vs. pure w64 vs b (o + 8 + 40)), ((λ vs. pure w64 vs b (o + 8 + 48)), ((λ vs. pure w64 vs b (o + 8 + 56)), ((λ vs. pure w64 vs b (o + 8 + 64)), ((λ vs. pure w64 vs b (o + 8 + 72)), tt)))))))))), λ q. tt), tt))))), λ q. tt) }

option_sent : IsSend (Option.the_row Error.the_row)
option_sent = search (sendable, error_sent) depth 20

option_shared : IsSync (Option.the_row Error.the_row)
option_shared = search (sendable, error_shared) depth 20

inside_sent : IsSend inside.the_row
inside_sent = record {
  owned = λ x vs ws. (tt, (memory_sent.owned x.memory ws.0, (host_sent.owned x.host ws.1.0, ((tt, tt), (option_sent.owned x.cause ws.1.1.1.0, tt)))));
  leaving = λ k x w. ((tt, (tt, (tt, (tt, (tt, ((tt, (tt, (tt, (tt, tt)))), tt)))))), ((tt, (tt, (tt, (tt, tt)))), tt));
}

inside_shared : IsSync inside.the_row
inside_shared = record { shared = λ x b o κ. ((memory_shared.shared x.memory b (o + 0) κ, (host_shared.shared x.host b (o + 136) κ, (λ vs. pure w64 vs b (o + 168), (option_shared.shared x.cause b (o + 176) κ, tt)))), λ q. tt) }

pub files_sent : IsSend the_row
files_sent = search (sendable, inside_sent) depth 20

pub files_shared : IsSync the_row
files_shared = search (sendable, inside_shared) depth 20
