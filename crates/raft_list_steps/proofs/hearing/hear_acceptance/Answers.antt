use Rattle.raft_list_steps.proofs.MessageLemmas.{AcceptsWith, accepts, accepts_nothing}
use Rattle.raft_list_steps.proofs.hearing.hear_acceptance.Goals as goal

pub returns-in-Ok-clause-truth : goal.returns-in-Ok-clause-truth
returns-in-Ok-clause-truth c =
    let s = c.args.list.now.notes in
    let next = c.accept.new.self.notes in
    let x = c.in-Some.accepted in
    let with_it : AcceptsWith s c.args.node x.vote x.last next = record { truth = c.in-Ok.ensures.truth; noted = c.accept.ensures.noted } in
    accepts s next c.args.node c.args.accepted x c.in-Some.is with_it

pub returns-in-None-clause-truth : goal.returns-in-None-clause-truth
returns-in-None-clause-truth c = accepts_nothing c.args.list.now.notes c.args.node c.args.accepted c.in-None.is

pub returns-in-Ok-clause-room : goal.returns-in-Ok-clause-room
returns-in-Ok-clause-room c = λ writes learns h. (c.accept.ensures.room writes learns h).1
