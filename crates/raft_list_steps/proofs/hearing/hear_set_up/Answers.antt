use Rattle.std.specs.Prelude.{Option}
use Rattle.std.proofs.Common.{sym, subst}
use Rattle.raft_list_steps.specs.declared.report.SetUp.{SetUp}
use Rattle.raft_list_steps.specs.Steps.{SetsUp}
use Rattle.raft_list_steps.proofs.hearing.hear_set_up.Goals as goal

pub returns-in-Some-clause-truth : goal.returns-in-Some-clause-truth
returns-in-Some-clause-truth c =
    subst (λ (o : Option SetUp). SetsUp c.args.list.now.notes o c.hear_first.new.list.notes) (sym c.in-Some.is) c.hear_first.ensures.truth
