-- The names so far have their files.
use Rattle.std.proofs.Common.{◌≡◌, ℕ, [], Some, length, map, string_bytes}
use Rattle.std.specs.Prelude.{slice_get}
use Rattle.raft_log_disk.specs.Cause.{RefusesNoMore}
use Rattle.raft_log_recovery.specs.Queue.{IsFileOf}
use Rattle.raft_log_workers.proofs.share.open_each.Given as goal

abbrev pub invariant-loop-name : goal.invariant-loop-name
invariant-loop-name g l = record {
  count : length l.shares.items ≡ l.name-index;
  named : (place : ℕ) (share : _) → slice_get l.shares.items place ≡ Some share → slice_get l.names place ≡ Some share.name;
  opened : (place : ℕ) (share : _) → slice_get l.shares.items place ≡ Some share → IsFileOf (g.F.FileSystem.disk l.initial.files) (map string_bytes l.directories) l.queue share.name share.fd.0;
  begun : (place : ℕ) (share : _) → slice_get l.shares.items place ≡ Some share → g.M.ReplayMachine.has_replayed share.machine [];
  kept : g.F.FileSystem.disk l.files ≡ g.F.FileSystem.disk l.initial.files;
  later : RefusesNoMore (g.F.FileSystem.is_bounded l.initial.files) (g.F.FileSystem.is_bounded l.files) (g.F.FileSystem.meter l.initial.files) (g.F.FileSystem.meter l.files);
}
