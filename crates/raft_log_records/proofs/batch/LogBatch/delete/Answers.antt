use Rattle.std.proofs.Common.{refl, arith}
use Rattle.raft_log_records.proofs.Sound.{delete_longer}
use Rattle.raft_log_records.proofs.batch.LogBatch.delete.Goals as goal

pub returns-in_default : goal.returns-in_default
returns-in_default c = (refl, delete_longer c.args.self.now.items c.args.raft_group_id c.args.key.items (omega (arith, c.in_default.ensures.long, c.len.ensures)))
