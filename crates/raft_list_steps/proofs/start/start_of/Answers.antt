use Rattle.raft_list_steps.proofs.StartLemmas.{found_within, starts_at_base, starts_at_last, starts_at_nothing, starts_at_unknown}
use Rattle.raft_list_steps.proofs.start.start_of.Goals as goal

pub returns-in-Some-clause-start : goal.returns-in-Some-clause-start
returns-in-Some-clause-start c =
    starts_at_last c.args.list.now.notes c.args.leading.now c.in-Some.at c.in-Some.ensures.list c.in-Some.ensures.ends

pub returns-in-UpTo-clause-within : goal.returns-in-UpTo-clause-within
returns-in-UpTo-clause-within c = found_within c.args.list.now.notes c.in-UpTo.id c.find.result c.find.ensures.noted

pub returns-in-UpTo-clause-start : goal.returns-in-UpTo-clause-start
returns-in-UpTo-clause-start c =
    starts_at_base c.args.list.now.notes c.args.leading.now c.in-None.ensures.ends c.in-UpTo.id c.in-UpTo.is c.find.result c.find.ensures.noted c.find.ensures.ends

pub returns-in-Nothing-clause-start : goal.returns-in-Nothing-clause-start
returns-in-Nothing-clause-start c =
    starts_at_nothing c.args.list.now.notes c.args.leading.now c.in-None.ensures.ends c.in-Nothing.is

pub returns-in-Unknown-clause-start : goal.returns-in-Unknown-clause-start
returns-in-Unknown-clause-start c =
    starts_at_unknown c.args.list.now.notes c.args.leading.now c.in-None.ensures.ends c.in-Unknown.is
