-- An empty file system has no names.
use Rattle.std.proofs.Common.{ap}
use Rattle.raft_log_disk.specs.Disk.{Disk}
use Rattle.raft_log_disk.specs.MemorySystem.{disk_in}
use Rattle.raft_log_engine.specs.Log.{main_directory}
use Rattle.raft_log_engine.proofs.Fresh.{found_nothing}
use Rattle.raft_log_files.specs.declared.recovery.RecoveryMode.TheVariants.{TolerateTailCorruption}
use Rattle.raft_log_engine.proofs.memory.LogFiles.new.Goals as goal

pub returns-clause-none : goal.returns-clause-none
returns-clause-none c = λ content found.
    found_nothing (main_directory c.args.settings) TolerateTailCorruption (disk_in c.new.result) content (ap (λ (d : Disk). d.names) c.new.ensures.disk) found
