use Rattle.raft_log_disk.proofs.LawLemmas.{synced_image_is_read}
use Rattle.raft_log_disk.proofs.laws.synced_file_is_left_as_read.Goals as goal

pub returns : goal.returns
returns c = λ d fd image there is. synced_image_is_read d fd image there is
