use Rattle.std.proofs.Common.{arith, ◌∙◌, ap}
use Rattle.std.proofs.lemmas.List.Sums.{prefix_len-le-length}
use Rattle.std.specs.List.{list_all}
use Rattle.raft_log_disk.specs.Name.{is_digit}
use Rattle.raft_log_files.proofs.NumberLemmas.{front_passes}
use Rattle.raft_log_files.proofs.size_text.parse_size.Goals as goal

pub split_at-requires : goal.split_at-requires
split_at-requires c = omega (arith, c.digits_len.ensures, prefix_len-le-length is_digit c.args.text.now)

pub digits_value-requires : goal.digits_value-requires
digits_value-requires c =
    ap (list_all is_digit) c.split_at.ensures.front ∙ rw c.digits_len.ensures (front_passes is_digit c.args.text.now)
