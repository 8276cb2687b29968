use Rattle.std.proofs.Common.{◌≡◌, ◌*◌, rules, length, get_or}
use Rattle.raft_log_records.proofs.BlockLemmas.{after_four, spelled_out}
use Rattle.raft_log_records.proofs.checksum.register.after_group.Goals as goal

pub returns : goal.returns
returns c =
    let bytes = c.args.bytes in
    let four : length bytes ≡ 4 = search rules in
    let places = after_four (c.args.later * 4) (get_or bytes 0 0) (get_or bytes 1 0) (get_or bytes 2 0) (get_or bytes 3 0) in
    let spelled = spelled_out 4 bytes four in
    cc
