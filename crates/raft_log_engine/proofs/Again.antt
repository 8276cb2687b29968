-- What an opening finds of the files that a refused one left.
use Rattle.std.proofs.Common.{List}
use Rattle.raft_log_records.specs.declared.file_id.LogQueue.{LogQueue}
use Rattle.raft_log_records.specs.declared.file_id.LogQueue.TheVariants.{Append, Rewrite}
use Rattle.raft_log_disk.specs.Disk.{Disk}
use Rattle.raft_log_disk.specs.Text.{Text}
use Rattle.raft_log_files.specs.declared.recovery.RecoveryMode.{RecoveryMode}
use Rattle.raft_log_pipe.specs.Pipe.{Numbered}
use Rattle.raft_log_recovery.specs.Again.{FindsSound}
use Rattle.raft_log_recovery.specs.Scan.{OnlyMakes}
use Rattle.raft_log_recovery.proofs.DirectoryLemmas.{makes_more}
use Rattle.raft_log_engine.specs.Opening.{IsFoundAgain}

-- of a queue, where directories alone were made
pub made_sound : (mode : RecoveryMode) (directories : List Text) (queue : LogQueue) (d made : Disk) (bs : Numbered) → OnlyMakes directories d made → FindsSound mode directories queue made bs → FindsSound mode directories queue d bs
made_sound mode directories queue d made bs makes s = record {
  made = s.made;
  names = s.names;
  files = s.files;
  finds = record { makes = makes_more directories d made s.made makes s.finds.makes; found = s.finds.found; opened = s.finds.opened };
  passed = s.passed;
  reads = s.reads;
}

-- of both
pub made_again : (mode : RecoveryMode) (directories : List Text) (d new : Disk) → OnlyMakes directories d new → IsFoundAgain mode directories d new
made_again mode directories d new makes content is = record {
  rewrites = is.rewrites;
  appends = is.appends;
  rewrite = made_sound mode directories Rewrite d new is.rewrites makes is.rewrite;
  append = made_sound mode directories Append d new is.appends makes is.append;
  is = is.is;
}
