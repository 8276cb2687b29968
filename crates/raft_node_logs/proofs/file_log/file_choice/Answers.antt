-- The bytes are those of the files that the choice names.
use Rattle.std.proofs.Common.{ap, map, refl, ◌∙◌}
use Rattle.raft_node_logs.specs.Files.{told_image}
use Rattle.raft_node_logs.proofs.file_log.file_choice.Goals as goal

pub returns-in_ok-all-in-Bytes : goal.returns-in_ok-all-in-Bytes
returns-in_ok-all-in-Bytes c = rw c.in-Bytes.is (c.in_ok-all-in-Bytes.all, refl, c.in_ok-all-in-Bytes.ensures ∙ ap (map told_image) c.as_slice.ensures)
