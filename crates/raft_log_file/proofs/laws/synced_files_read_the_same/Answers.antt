use Rattle.raft_log_file.proofs.LawLemmas.{still_files_read_the_same, synced_files_read_the_same}
use Rattle.raft_log_file.proofs.laws.synced_files_read_the_same.Goals as goal

pub returns-clause-still : goal.returns-clause-still
returns-clause-still c = still_files_read_the_same

pub returns-clause-synced : goal.returns-clause-synced
returns-clause-synced c = synced_files_read_the_same
