use Rattle.std.proofs.Common.{ap}
use Rattle.raft_log_records.specs.Batch as batch
use Rattle.raft_log_engine.proofs.Taken.{compaction_memory}
use Rattle.raft_log_engine.proofs.compaction.compaction_of.Goals as goal

pub returns-in-Err-clause-err : goal.returns-in-Err-clause-err
returns-in-Err-clause-err c =
    c.of_record.ensures.memory (compaction_memory c.new-batch.result c.add_command.new.self c.args.group c.args.index c.in-Err.error (ap (λ (b : batch.Batch). b.items) c.new-batch.ensures) c.in-Err.ensures)
