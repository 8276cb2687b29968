use Rattle.raft_log_disk.proofs.MemoryLemmas.{renamed_state}
use Rattle.raft_log_disk.proofs.memory_file.MemoryFile.rename.Goals as goal

pub returns-clause-state : goal.returns-clause-state
returns-clause-state c = renamed_state c.args.self.now _ _ _ c.clear.ensures.items c.clear-2.ensures.items c.requires
