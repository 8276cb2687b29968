use Rattle.raft_log_disk.proofs.FilesLemmas.{found}
use Rattle.raft_log_disk.proofs.memory.MemoryFileSystem.find.Goals as goal

pub returns : goal.returns
returns c = found _ _ _ _ c.deref.ensures.value c.find_number.ensures
