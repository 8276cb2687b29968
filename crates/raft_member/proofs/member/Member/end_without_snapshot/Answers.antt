-- No snapshot is lent.
use Rattle.std.proofs.Common.{sym, subst}
use Rattle.raft_member.specs.Running.{IsRun}
use Rattle.raft_member.proofs.member.Member.end_without_snapshot.Goals as goal

pub returns-clause-ok : goal.returns-clause-ok
returns-clause-ok g c = λ old r down run.
    c.end_taken.ensures.ok old r down
    (subst (λ lent. IsRun g.S.GroupStorage.stands c.args.self.now.id c.args.engine.now old r lent c.args.moment) (sym c.as_ref.ensures.value) run)

pub returns-clause-err : goal.returns-clause-err
returns-clause-err g c = λ old r down run.
    c.end_taken.ensures.err old r down
    (subst (λ lent. IsRun g.S.GroupStorage.stands c.args.self.now.id c.args.engine.now old r lent c.args.moment) (sym c.as_ref.ensures.value) run)
