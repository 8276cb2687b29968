use Rattle.std.proofs.Common.{arith}
use Rattle.raft_wire.specs.Fields.{spelled_log_id, FitsLogId, log_id_at}
use Rattle.raft_wire.proofs.Values.{log_id_reads}
use Rattle.raft_wire.proofs.Whole.{is_found, is_only}
use Rattle.raft_wire.proofs.stored.read_log_id.Goals as goal

pub returns-clause-found : goal.returns-clause-found
returns-clause-found c = is_found log_id_at spelled_log_id FitsLogId log_id_reads c.args.bytes.now c.whole_log_id.result (λ i. omega (arith, c.type_inv.bytes i)) c.whole_log_id.ensures

pub returns-clause-only : goal.returns-clause-only
returns-clause-only c = λ e fits is. is_only log_id_at spelled_log_id FitsLogId log_id_reads c.args.bytes.now c.whole_log_id.result e c.whole_log_id.ensures fits is
