use Rattle.raft_log_disk.proofs.ListedLemmas.{listed_there}
use Rattle.raft_log_disk.proofs.laws.listed_files_are_there.Goals as goal

pub returns : goal.returns
returns c = λ d directory name h. listed_there d.names directory name h
