use Rattle.raft_kv_reading.proofs.Telling.{is_change, only_changes}
use Rattle.raft_kv_reading.proofs.laws.changes_are_puts_and_drops.Goals as goal

pub returns-clause-only : goal.returns-clause-only
returns-clause-only c = λ list key place change e. only_changes list key place change e

pub returns-clause-each : goal.returns-clause-each
returns-clause-each c = λ list key place change h. is_change list key place change h
