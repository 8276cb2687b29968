-- The files of a log refuse from some call on, and have what they had.
use Rattle.std.proofs.Common.{ap, refl}
use Rattle.raft_log_disk.specs.declared.memory.MemoryFileSystem.{MemoryFileSystem}
use Rattle.raft_log_disk.specs.MemorySystem.{disk_in}
use Rattle.raft_log_engine.specs.Parts.{Parts}
use Rattle.raft_log_engine.proofs.Crashes.{log_on}
use Rattle.raft_log_engine.proofs.memory.MemoryLog.fuse_files.Goals as goal

pub invariant_of-self : goal.invariant_of-self
invariant_of-self c =
    let same = c.set_fuse.ensures.same in
    log_on disk_in c.self.inside.settings c.self.inside.has_failed c.self.inside.engine c.set_fuse.new.self c.self.invariant (ap (λ (e : Parts MemoryFileSystem). e.pipes) same) (ap (λ (e : Parts MemoryFileSystem). e.is_stopped) same)
    (ap (λ (e : Parts MemoryFileSystem). e.wrote_unsynced) same) c.set_fuse.ensures.fused.same

pub returns-clause-fused : goal.returns-clause-fused
returns-clause-fused c = rw (← c.self.view_is) (record { settings = refl; files = c.set_fuse.ensures.fused })
