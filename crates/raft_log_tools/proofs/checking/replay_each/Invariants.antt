use Rattle.std.proofs.Common.{◌≡◌, map, string_bytes, take}
use Rattle.raft_log_disk.specs.Cause.{RefusesNoMore}
use Rattle.raft_log_tools.specs.Checking.{items_of_files}
use Rattle.raft_log_tools.proofs.ReadLemmas.{GivesItems}
use Rattle.raft_log_tools.proofs.checking.replay_each.Given as goal

abbrev pub invariant-loop-name : goal.invariant-loop-name
invariant-loop-name g l = record {
  kept : g.F.FileSystem.disk l.files ≡ g.F.FileSystem.disk l.initial.files;
  later : RefusesNoMore (g.F.FileSystem.is_bounded l.initial.files) (g.F.FileSystem.is_bounded l.files) (g.F.FileSystem.meter l.initial.files) (g.F.FileSystem.meter l.files);
  given : GivesItems (g.M.ReplayMachine.has_replayed l.initial.machine) (g.M.ReplayMachine.has_replayed l.machine)
      (items_of_files (g.F.FileSystem.disk l.initial.files) (map string_bytes l.directories) l.queue (take l.name-index l.names));
}
