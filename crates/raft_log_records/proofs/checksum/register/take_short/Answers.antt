use Rattle.std.proofs.Common.{◌/◌, length}
use Rattle.raft_log_records.proofs.BlockLemmas.{fold_chunks}
use Rattle.raft_log_records.proofs.checksum.register.take_short.Goals as goal

pub returns : goal.returns
returns c =
    let bytes = c.args.bytes.now in
    let all = fold_chunks 4 (length bytes / 4) c.args.register bytes in
    let groups = c.as_chunks.ensures.front in
    let rest = c.as_chunks.ensures.back in
    cc
