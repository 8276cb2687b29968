-- What one batch of a group's changes leaves.
use Rattle.raft_store.proofs.Storing.{only_one, others_shown, shown_after, shown_either, taken, unmarked}
use Rattle.raft_store.proofs.store.Store.store.Goals as goal

pub returns-in-Ok-clause-ok : goal.returns-in-Ok-clause-ok
returns-in-Ok-clause-ok g c = λ rules group changes s t are carries sound shown.
    let held = only_one rules (g.L.ContentLog.answers c.args.self.now.log group) s (shown.answered sound) in
    shown_after rules c.args.batch.now.items group changes are (g.L.ContentLog.answers c.args.self.now.log) s t carries held (g.L.ContentLog.is_sound c.write.new.self) (g.L.ContentLog.answers c.write.new.self) (g.L.ContentLog.leaves c.write.new.self)
    (c.in-Ok.ensures.ok sound (taken rules c.args.batch.now.items group changes are (g.L.ContentLog.answers c.args.self.now.log) s t carries held))

pub returns-in-Ok-clause-others : goal.returns-in-Ok-clause-others
returns-in-Ok-clause-others g c = λ rules group changes are.
    others_shown rules c.args.batch.now.items group changes (g.L.ContentLog.is_sound c.args.self.now.log) (g.L.ContentLog.is_sound c.write.new.self) (g.L.ContentLog.answers c.args.self.now.log) (g.L.ContentLog.answers c.write.new.self) (g.L.ContentLog.leaves c.args.self.now.log) (g.L.ContentLog.leaves c.write.new.self) c.args.self.now.recent
    are c.in-Ok.ensures.others_answered c.in-Ok.ensures.others

pub returns-in-Err-clause-err : goal.returns-in-Err-clause-err
returns-in-Err-clause-err g c = λ rules group changes s t are carries sound shown.
    let held = only_one rules (g.L.ContentLog.answers c.args.self.now.log group) s (shown.answered sound) in
    shown_either rules c.args.batch.now.items group changes are (g.L.ContentLog.answers c.args.self.now.log) s t carries held (g.L.ContentLog.is_sound c.write.new.self) (g.L.ContentLog.answers c.write.new.self) (g.L.ContentLog.leaves c.write.new.self)
    (c.in-Err.ensures.err sound (taken rules c.args.batch.now.items group changes are (g.L.ContentLog.answers c.args.self.now.log) s t carries held))

pub returns-in-Err-clause-others : goal.returns-in-Err-clause-others
returns-in-Err-clause-others g c = λ rules group changes are.
    others_shown rules c.args.batch.now.items group changes (g.L.ContentLog.is_sound c.args.self.now.log) (g.L.ContentLog.is_sound c.write.new.self) (g.L.ContentLog.answers c.args.self.now.log) (g.L.ContentLog.answers c.write.new.self) (g.L.ContentLog.leaves c.args.self.now.log) (g.L.ContentLog.leaves c.write.new.self) c.args.self.now.recent
    are c.in-Err.ensures.others_answered c.in-Err.ensures.others

pub returns-in-Err-clause-fits : goal.returns-in-Err-clause-fits
returns-in-Err-clause-fits g c = λ rules group changes s t are carries sound shown.
    let held = only_one rules (g.L.ContentLog.answers c.args.self.now.log group) s (shown.answered sound) in
    c.in-Err.ensures.fits sound (unmarked rules c.args.batch.now.items group changes are (g.L.ContentLog.answers c.args.self.now.log) s t carries held)
    (taken rules c.args.batch.now.items group changes are (g.L.ContentLog.answers c.args.self.now.log) s t carries held)

pub returns-in-Err-clause-takes : goal.returns-in-Err-clause-takes
returns-in-Err-clause-takes g c = λ rules group changes s t are carries sound shown.
    let held = only_one rules (g.L.ContentLog.answers c.args.self.now.log group) s (shown.answered sound) in
    c.in-Err.ensures.fits sound (unmarked rules c.args.batch.now.items group changes are (g.L.ContentLog.answers c.args.self.now.log) s t carries held)
    (taken rules c.args.batch.now.items group changes are (g.L.ContentLog.answers c.args.self.now.log) s t carries held)
