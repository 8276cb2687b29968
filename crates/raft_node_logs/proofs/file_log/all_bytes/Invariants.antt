use Rattle.std.proofs.Common.{◌≡◌, map, take}
use Rattle.raft_node_logs.specs.Files.{said_bytes, told_image}
use Rattle.raft_node_logs.proofs.file_log.all_bytes.Given as goal

abbrev pub invariant-loop-image : goal.invariant-loop-image
invariant-loop-image l = map said_bytes l.all.items ≡ map told_image (take l.image-index l.images)
