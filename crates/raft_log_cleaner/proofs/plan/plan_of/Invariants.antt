-- The groups so far are judged.
use Rattle.std.proofs.Common.{take}
use Rattle.raft_log_cleaner.proofs.Judged.{HasJudged}
use Rattle.raft_log_cleaner.proofs.plan.plan_of.Given as goal

abbrev pub invariant-loop-group : goal.invariant-loop-group
invariant-loop-group l = HasJudged l.log l.marks l.reports (take l.group-index l.group-items) l.plan.told.items l.plan.reports
