use Rattle.std.specs.Prelude.{Some, None, refl}
use Rattle.raft_list_steps.specs.Lists.{setup_entry}
use Rattle.raft_list_steps.proofs.EndLemmas.{IsWritten}
use Rattle.raft_list_steps.proofs.SetUpLemmas.{SetsUpWith, sets_up}
use Rattle.raft_list_steps.proofs.hearing.hear_first.Goals as goal

pub returns-clause-truth : goal.returns-clause-truth
returns-clause-truth c =
    let s = c.args.list.now.notes in
    let more = c.write.new.self.notes in
    let next = c.set_up.new.self.notes in
    let x = c.args.set_up in
    let at = c.in-Ok._at in
    let whole : IsWritten s (setup_entry x.membership) None at more =
    record { truth = c.write.ensures.truth; list = c.in-Ok.ensures.list; others = c.write.ensures.others; noted = c.in-Ok.ensures.noted }
    in
    let up : SetsUpWith more x.voters next = record { truth = c.set_up.ensures.truth; noted = c.set_up.ensures.noted } in
    sets_up s more next x at whole up (Some x) refl

pub returns-clause-room : goal.returns-clause-room
returns-clause-room c = λ writes learns h. c.set_up.ensures.room writes learns (c.write.ensures.room writes learns h).1
