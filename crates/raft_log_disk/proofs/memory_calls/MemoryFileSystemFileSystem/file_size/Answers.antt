use Rattle.raft_log_disk.proofs.CauseLemmas.{read_cause}
use Rattle.raft_log_disk.proofs.FilesLemmas.{number_there}
use Rattle.raft_log_disk.proofs.memory_calls.MemoryFileSystemFileSystem.file_size.Goals as goal

pub returns-in-Some-clause-cause : goal.returns-in-Some-clause-cause
returns-in-Some-clause-cause c = read_cause _ _ _ (number_there c.args.self.now.directories.items _ c.args.self.now.next _ _ c.index.result.now c.in-Some.ensures) (λ e. e)
