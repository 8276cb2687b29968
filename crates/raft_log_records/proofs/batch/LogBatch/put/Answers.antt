use Rattle.std.proofs.Common.{refl, arith}
use Rattle.raft_log_records.proofs.Sound.{put_longer}
use Rattle.raft_log_records.proofs.batch.LogBatch.put.Goals as goal

pub returns-in_default : goal.returns-in_default
returns-in_default c = (refl, put_longer c.args.self.now.items c.args.raft_group_id c.args.key.items c.args.value.items (omega (arith, c.in_default.ensures.long, c.len.ensures, c.len-2.ensures)))
