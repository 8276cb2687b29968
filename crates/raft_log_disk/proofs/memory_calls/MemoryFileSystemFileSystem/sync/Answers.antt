use Rattle.std.proofs.Common.{false, ap}
use Rattle.std.specs.Prelude.{Vec, String}
use Rattle.std.specs.declared.alloc.Global.{Global}
use Rattle.raft_log_disk.specs.Memory.{texts_of}
use Rattle.raft_log_disk.proofs.CauseLemmas.{taken_cause}
use Rattle.raft_log_disk.proofs.FilesLemmas.{number_there}
use Rattle.raft_log_disk.proofs.memory_calls.MemoryFileSystemFileSystem.sync.Goals as goal

pub returns-clause-cause : goal.returns-clause-cause
returns-clause-cause c = taken_cause false _ _ _ _ _ c.spend-is_refused.ensures.refusals c.spend-is_refused.ensures.lacks (ap (λ (v : Vec (String Global) Global). texts_of v.items) c.spend-is_refused.ensures.reads)
    (number_there c.args.self.now.directories.items _ c.args.self.now.next _ _ c.index_mut.result.now c.in-Some.ensures) (λ short. short)
