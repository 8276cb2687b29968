use Rattle.std.proofs.Common.{arith}
use Rattle.raft_log_file.proofs.BufferLemmas.{held_front}
use Rattle.raft_log_file.proofs.batches.LogItemBatchFileReader.fill.Goals as goal

pub returns-then-end-self-clause-ok : goal.returns-then-end-self-clause-ok
returns-then-end-self-clause-ok g c = held_front c.args.need _ _ _ _ c.args.self.now.size c.requires (omega arith)
