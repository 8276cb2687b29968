use Rattle.std.proofs.Common.{arith}
use Rattle.raft_log_records.proofs.RecordTaken.{is_found}
use Rattle.raft_log_records.proofs.RecordAgain.{is_only}
use Rattle.raft_log_records.proofs.RecordChanged.{is_noticed}
use Rattle.raft_log_records.proofs.record.read_record.Goals as goal

pub returns-clause-found : goal.returns-clause-found
returns-clause-found c = is_found c.args.signature c.args.bytes.now c.record_of.result (λ i. omega (arith, c.type_inv.bytes i)) c.record_of.ensures

pub returns-clause-only : goal.returns-clause-only
returns-clause-only c = λ items rest fits are e. is_only c.args.signature c.args.bytes.now c.record_of.result items rest fits (λ i. omega (arith, c.type_inv.bytes i)) c.record_of.ensures are e

pub returns-clause-changed : goal.returns-clause-changed
returns-clause-changed c = λ items fits are changed. is_noticed c.args.signature c.args.bytes.now c.record_of.result items fits (λ i. omega (arith, c.type_inv.bytes i)) c.record_of.ensures are changed
