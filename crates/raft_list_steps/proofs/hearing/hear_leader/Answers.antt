use Rattle.std.specs.Prelude.{suc}
use Rattle.raft_list_steps.proofs.LeadLemmas.{NotesWith, leads}
use Rattle.raft_list_steps.proofs.hearing.hear_leader.Goals as goal

pub returns-clause-truth : goal.returns-clause-truth
returns-clause-truth c =
    let more = c.end_of-at.new.list.notes in
    let next = c.note.new.self.notes in
    let with_it : NotesWith more c.args.node c.args.leading.vote c.end_of-at.result next = record { truth = c.in-Ok.ensures.truth; noted = c.note.ensures.noted } in
    leads c.args.list.now.notes more next c.args.node c.args.leading c.in-Some.last c.in-Some.is c.args.written c.end_of-at.result c.end_of-at.ensures.ends with_it

pub unreachable-requires : goal.unreachable-requires
unreachable-requires c = let no = (c.in-Err.ensures.room 0 1 (c.end_of-at.ensures.room 0 2 c.requires)).0 in cc

pub returns-clause-room : goal.returns-clause-room
returns-clause-room c = λ writes learns h. (c.note.ensures.room writes learns (c.end_of-at.ensures.room writes (suc learns) h)).1
