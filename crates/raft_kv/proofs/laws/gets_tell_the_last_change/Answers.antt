use Rattle.std.proofs.Common.{ap}
use Rattle.raft_kv.specs.Machine.{answer_of}
use Rattle.raft_kv.proofs.KeyLaws.{got_drop, got_put}
use Rattle.raft_kv.proofs.laws.gets_tell_the_last_change.Goals as goal

pub returns-clause-put : goal.returns-clause-put
returns-clause-put c = λ m key value full. ap answer_of (got_put m key value full)

pub returns-clause-drop : goal.returns-clause-drop
returns-clause-drop c = λ m key. ap answer_of (got_drop m key)
