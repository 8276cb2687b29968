use Rattle.std.proofs.Common.{subst}
use Rattle.raft_group_step.specs.Values.{EntryPayload, entry_of}
use Rattle.raft_list_steps.proofs.EndLemmas.{IsWritten, ends_at_start, ends_behind}
use Rattle.raft_list_steps.proofs.start.end_of.Goals as goal

pub returns-in-Some-clause-ends : goal.returns-in-Some-clause-ends
returns-in-Some-clause-ends c =
    ends_at_start c.args.leading.now c.args.last c.requires.last c.args.written c.args.list.now.notes c.start_of-start.result c.in-Some.at c.in-Some.ensures c.start_of-start.ensures.start

pub returns-clause-ends : goal.returns-clause-ends
returns-clause-ends c =
    let s = c.args.list.now.notes in
    let leading = c.args.leading.now in
    let start = c.start_of-start.result in
    let next = c.write.new.self.notes in
    let whole : IsWritten s (entry_of c.args.last c.payload_of.result) start c.in-Ok.at next =
    record { truth = c.write.ensures.truth; list = c.in-Ok.ensures.list; others = c.write.ensures.others; noted = c.in-Ok.ensures.noted }
    in
    ends_behind leading c.args.last c.requires.last c.args.written s start c.in-Ok.at next
    (subst (λ (p : EntryPayload). IsWritten s (entry_of c.args.last p) start c.in-Ok.at next) c.payload_of.ensures whole)
    c.in_default.ensures c.start_of-start.ensures.start

pub returns-clause-room : goal.returns-clause-room
returns-clause-room c = λ writes learns h. (c.write.ensures.room writes learns h).1
