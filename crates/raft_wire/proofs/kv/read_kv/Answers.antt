use Rattle.std.proofs.Common.{arith}
use Rattle.raft_wire.specs.Kv.{FitsCommand, command_at, spelled_command}
use Rattle.raft_wire.proofs.KvReading.{command_reads}
use Rattle.raft_wire.proofs.Whole.{is_found, is_only}
use Rattle.raft_wire.proofs.kv.read_kv.Goals as goal

pub returns-clause-found : goal.returns-clause-found
returns-clause-found c = is_found command_at spelled_command FitsCommand command_reads c.args.bytes.now c.whole_command.result (λ i. omega (arith, c.type_inv.bytes i)) c.whole_command.ensures

pub returns-clause-only : goal.returns-clause-only
returns-clause-only c = λ command fits is. is_only command_at spelled_command FitsCommand command_reads c.args.bytes.now c.whole_command.result command c.whole_command.ensures fits is
