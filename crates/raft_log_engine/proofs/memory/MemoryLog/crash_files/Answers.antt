-- What is found after a crash was left by the log before.
use Rattle.std.proofs.Common.{ap, refl}
use Rattle.raft_log_disk.specs.Disk.{Disk}
use Rattle.raft_log_disk.specs.declared.memory.MemoryFileSystem.{MemoryFileSystem}
use Rattle.raft_log_disk.specs.Image.{Image}
use Rattle.raft_log_disk.specs.MemorySystem.{disk_in}
use Rattle.raft_log_engine.specs.Log.{left_by}
use Rattle.raft_log_engine.specs.Parts.{Parts}
use Rattle.raft_log_engine.proofs.Crashes.{found_crashed, leaves_crashed, log_crashed, log_on}
use Rattle.raft_log_engine.proofs.memory.MemoryLog.crash_files.Goals as goal

pub returns-clause-crashed : goal.returns-clause-crashed
returns-clause-crashed c =
    let image : Image = left_by c.args.choice.now (disk_in c.self.inside.engine.files) in
    rw (← c.self.view_is) (record {
      settings = refl;
      files = c.in_ok-crash.ensures.chosen;
      found = found_crashed disk_in c.self.inside.settings c.self.inside.engine c.crash.new.self c.self.inside.has_failed image c.in_ok-crash.ensures.crashed;
    })

pub returns-clause-leaves : goal.returns-clause-leaves
returns-clause-leaves c =
    let image : Image = left_by c.args.choice.now (disk_in c.self.inside.engine.files) in
    rw (← c.self.view_is) (leaves_crashed disk_in c.self.inside.settings c.self.inside.engine c.crash.new.self c.self.inside.has_failed image c.in_ok-crash.ensures.crashed c.in_ok-crash.ensures.chosen.left)

pub invariant_of-self : goal.invariant_of-self
invariant_of-self c =
    let same = c.in_err-crash.ensures.err in
    log_on disk_in c.self.inside.settings c.self.inside.has_failed c.self.inside.engine c.crash.new.self c.self.invariant (ap (λ (e : Parts MemoryFileSystem). e.pipes) same) (ap (λ (e : Parts MemoryFileSystem). e.is_stopped) same)
    (ap (λ (e : Parts MemoryFileSystem). e.wrote_unsynced) same) (ap (λ (e : Parts MemoryFileSystem). disk_in e.files) same)

pub invariant_of-self-2 : goal.invariant_of-self-2
invariant_of-self-2 c =
    let image : Image = left_by c.args.choice.now (disk_in c.self.inside.engine.files) in
    log_crashed disk_in c.self.inside.settings c.self.inside.has_failed c.self.inside.engine c.crash.new.self c.self.invariant (ap (λ (e : Parts MemoryFileSystem). e.pipes) c.in_ok-crash.ensures.stops)
    image c.in_ok-crash.ensures.crashed c.in_ok-crash.ensures.chosen.left
