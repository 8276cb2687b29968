-- The list is that of whatever world the reports so far lead to.
use Rattle.raft_list_steps.proofs.RunLemmas.{IsBehindAll}
use Rattle.raft_list_steps.proofs.events.list_behind.Given as goal

abbrev pub invariant-loop-report : goal.invariant-loop-report
invariant-loop-report l = IsBehindAll l.list.notes l.yielded
