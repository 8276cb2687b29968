use Rattle.std.proofs.Common.{sym, subst}
use Rattle.raft_log_disk.specs.Crashed.{AreCrashed}
use Rattle.raft_log_disk.proofs.CrashLemmas.{crashed_disk, crashed_named}
use Rattle.raft_log_disk.proofs.RisingLemmas.{crashed_rising}
use Rattle.raft_log_disk.proofs.memory_crash.MemoryFileSystemCrashFiles.crash.Goals as goal

pub invariant_of-self : goal.invariant_of-self
invariant_of-self c = record {
  named = crashed_named c.args.choice.now c.args.self.now.files.items c.in-Ok.files.items c.args.self.now.next c.args.self.now.named (subst (λ l. AreCrashed c.args.choice.now l c.in-Ok.files.items) c.deref.ensures.value c.in-Ok.ensures);
  rising = crashed_rising c.args.choice.now c.args.self.now.files.items c.in-Ok.files.items c.args.self.now.rising (subst (λ l. AreCrashed c.args.choice.now l c.in-Ok.files.items) c.deref.ensures.value c.in-Ok.ensures);
}

pub returns-clause-crashed : goal.returns-clause-crashed
returns-clause-crashed c = crashed_disk c.args.choice.now c.args.self.now.directories.items c.args.self.now.files.items c.in-Ok.files.items c.args.self.now.next c.args.self.now.named (subst (λ l. AreCrashed c.args.choice.now l c.in-Ok.files.items) c.deref.ensures.value c.in-Ok.ensures)
