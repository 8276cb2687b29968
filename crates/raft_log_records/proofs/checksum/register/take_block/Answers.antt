use Rattle.raft_log_records.proofs.BlockLemmas.{by_fours}
use Rattle.raft_log_records.proofs.checksum.register.take_block.Goals as goal

pub returns : goal.returns
returns c =
    by_fours c.args.register c.args.block.now c.told-block c.enter-first.result c.enter-first.ensures
    c.after_group.result c.after_group-2.result c.after_group-3.result c.after_group-4.result
    c.after_group.ensures c.after_group-2.ensures c.after_group-3.ensures c.after_group-4.ensures
