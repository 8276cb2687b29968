use Rattle.std.proofs.Common.{ap, ◌∙◌, length}
use Rattle.raft_log_records.specs.Batch as batch
use Rattle.raft_log_engine.proofs.Taken.{populated_long}
use Rattle.raft_log_engine.proofs.writing.prepare.Goals as goal

pub returns-in-Ok-clause-len : goal.returns-in-Ok-clause-len
returns-in-Ok-clause-len c = c.in-Ok.ensures.len ∙ ap (λ (b : batch.Batch). length (batch.encoded_of b)) c.in-Ok.ensures.ok ∙ populated_long c.args.batch.now.items c.requires
