use Rattle.std.specs.Prelude.{◌≡◌, ◌++◌, length, map, take}
use Rattle.std.proofs.Common.{refl, sym, subst, arith}
use Rattle.std.proofs.lemmas.Option.{slice_get_read}
use Rattle.raft_laws.specs.GroupRun.{group_run, history_of}
use Rattle.raft_world.specs.World.{HasMarked, IsWorldOf, planned_of}
use Rattle.raft_world.proofs.GroupLemmas.{history_after, marked_more, none_marked, run_all, run_broke, run_more}
use Rattle.raft_world.proofs.world.World.run_marked.Goals as goal

pub loop-i-init : goal.loop-i-init
loop-i-init c = λ ids rs g history h. (h, none_marked _ g)

pub loop-i-preserved : goal.loop-i-preserved
loop-i-preserved c = λ ids rs g history h.
    let events = c.args.events.now in
    let i = c.loop-i.i in
    let es = map planned_of (take i events) in
    let before = c.loop-i.invariant ids rs g history h in
    let on = history_after ids rs g es history in (
      subst (IsWorldOf c.happen.new.self) (sym (run_more events i c.index-events-i.result g (omega arith) c.index-events-i.is))
          (c.in-Ok.ensures.ok ids (rs ++ history_of es g) (group_run es g) on before.0),
      marked_more _ _ _ g events i c.index-events-i.result (omega arith) c.index-events-i.is before.1
          (c.in-Ok.ensures.marked ids (rs ++ history_of es g) (group_run es g) on before.0),
    )

pub returns-in_default-clause-run : goal.returns-in_default-clause-run
returns-in_default-clause-run c = λ ids rs g history h.
    let events = c.args.events.now in
    let i = c.loop-i.i in
    let es = map planned_of (take i events) in
    run_broke ids rs g events i c.happen.new.self c.index-events-i.result history (slice_get_read events _ i c.index-events-i.result refl (omega arith) c.index-events-i.is)
    (c.in_default.ensures.err ids (rs ++ history_of es g) (group_run es g) (history_after ids rs g es history) (c.loop-i.invariant ids rs g history h).0)

pub returns-in_default-clause-marks : goal.returns-in_default-clause-marks
returns-in_default-clause-marks c = λ ids rs g history h.
    subst (HasMarked c.args.marks.now.items g (map planned_of (take c.loop-i.i c.args.events.now))) (sym c.in_default.ensures.unmarked) (c.loop-i.invariant ids rs g history h).1

pub returns-clause-run : goal.returns-clause-run
returns-clause-run c = λ ids rs g history h.
    let count = length c.args.events.now in
    let same : c.loop-i.i ≡ count = omega arith in
    run_all ids rs g c.args.events.now count c.loop-i.self history refl
    (subst (λ k. IsWorldOf c.loop-i.self (group_run (map planned_of (take k c.args.events.now)) g)) same (c.loop-i.invariant ids rs g history h).0)

pub returns-clause-marks : goal.returns-clause-marks
returns-clause-marks c = λ ids rs g history h.
    let count = length c.args.events.now in
    let same : c.loop-i.i ≡ count = omega arith in
    subst (λ k. HasMarked c.args.marks.now.items g (map planned_of (take k c.args.events.now)) c.loop-i.marks.items) same (c.loop-i.invariant ids rs g history h).1
