use Rattle.std.proofs.Common.{◌≡◌, ◌∙◌, sym, ap, rules, of_calls}
use Rattle.std.specs.Prelude.{Ok, Err, if◌then◌else◌, Some}
use Rattle.std.specs.Option.{option_copied}
use Rattle.std.specs.Fn.{FnOnceReturnsAtMut}
use Rattle.raft_progress.specs.Values.{value_at}
use Rattle.raft_progress.specs.Parts.{value_of}
use Rattle.raft_progress.proofs.PartsLemmas.{nobody_has, no_less, on_ok}
use Rattle.raft_progress.proofs.vec_progress.VecProgress.update_with.Goals as goal

pub returns-in_default-clause-answer : goal.returns-in_default-clause-answer
returns-in_default-clause-answer g c =
    ap (λ p. Err p.granted) c.self.view_is
    ∙ sym (ap (λ b. if b then Ok c.args.self.now.granted else Err c.args.self.now.granted)
    (nobody_has g.ID.PartialEq.eq c.args.self.now c.args.id.now (sym c.try_get.ensures ∙ ap (λ o. option_copied o) c.in_default.is)))

pub update-requires : goal.update-requires
update-requires g c =
    let ran : FnOnceReturnsAtMut g.F.FnOnce c.args.f c.in-Some.before.now tt c.f.new.arg2 = search rules in
    record {
      rises =
          no_less g.P.Ord.cmp g.V.Borrow.borrowed (value_at g.ID.PartialEq.eq c.args.self.now.voters c.args.id.now) (value_at g.ID.PartialEq.eq c.args.self.now.learners c.args.id.now) c.in-Some.before.now c.f.new.arg2
          (sym c.try_get.ensures ∙ ap (λ o. option_copied o) c.in-Some.is) (λ e. c.requires.rises c.in-Some.before.now c.f.new.arg2 e ran);
    }

pub returns-clause-sets : goal.returns-clause-sets
returns-clause-sets g c =
    let ran : FnOnceReturnsAtMut g.F.FnOnce c.args.f c.in-Some.before.now tt c.f.new.arg2 = search rules in
    on_ok c.update.result (c.in-Some.before.now, c.f.new.arg2, sym c.try_get.ensures ∙ ap (λ o. option_copied o) c.in-Some.is, ran, c.update.ensures.sets)
