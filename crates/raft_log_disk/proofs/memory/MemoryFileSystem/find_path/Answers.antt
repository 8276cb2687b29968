use Rattle.raft_log_disk.proofs.FilesLemmas.{path_found}
use Rattle.raft_log_disk.proofs.memory.MemoryFileSystem.find_path.Goals as goal

pub returns : goal.returns
returns c = path_found _ _ _ _ _ c.args.self.now.named c.deref.ensures.value c.find_path.ensures
