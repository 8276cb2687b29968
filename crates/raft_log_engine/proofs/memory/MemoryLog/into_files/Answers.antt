-- The files as they read are one of their images.
use Rattle.std.proofs.Common.{inr, subst, sym}
use Rattle.raft_log_disk.specs.declared.memory.MemoryFileSystem.{MemoryFileSystem}
use Rattle.raft_log_disk.specs.MemorySystem.{disk_in}
use Rattle.raft_log_engine.specs.Log.{MayBeFound, main_directory}
use Rattle.raft_log_engine.specs.Reopened.{OpensInTail}
use Rattle.raft_log_engine.proofs.Logs.{found_as_read}
use Rattle.raft_log_engine.proofs.memory.MemoryLog.into_files.Goals as goal

pub returns-clause-as_read : goal.returns-clause-as_read
returns-clause-as_read c =
    rw (← c.self.view_is) (λ content genuine found. inr (subst (λ (m : MemoryFileSystem). MayBeFound c.self.inside.settings (disk_in m) content) c.abandon.ensures.files (found_as_read c.self.inside.settings c.abandon.result content genuine found)))

pub returns-clause-opens_in_tail : goal.returns-clause-opens_in_tail
returns-clause-opens_in_tail c =
    let m = c.self.inside in
    rw (← c.self.view_is) (subst (λ (f : MemoryFileSystem). OpensInTail (main_directory m.settings) (disk_in f) m.engine.pipes) (sym c.abandon.ensures.files) c.self.invariant.in_tail)
