-- The groups so far are judged.
use Rattle.std.proofs.Common.{take}
use Rattle.raft_log_cleaning.specs.Told.{is_named}
use Rattle.raft_log_cleaning.proofs.Named.{AreJudged}
use Rattle.raft_log_cleaning.proofs.told.many_rewritten.Given as goal

abbrev pub invariant-loop-group : goal.invariant-loop-group
invariant-loop-group l = AreJudged l.log (take l.group-index l.group-items) (is_named l.many)
