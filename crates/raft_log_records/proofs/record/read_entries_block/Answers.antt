use Rattle.std.proofs.Common.{arith}
use Rattle.raft_log_records.proofs.RecordTaken.{block_found}
use Rattle.raft_log_records.proofs.Blocks.{block_only}
use Rattle.raft_log_records.proofs.record.read_entries_block.Goals as goal

pub returns-clause-found : goal.returns-clause-found
returns-clause-found c = block_found c.args.block.now c.block_entries.result (λ i. omega (arith, c.type_inv.block i)) c.block_entries.ensures

pub returns-clause-only : goal.returns-clause-only
returns-clause-only c = λ entries e. block_only c.args.block.now c.block_entries.result entries (λ i. omega (arith, c.type_inv.block i)) c.block_entries.ensures e
