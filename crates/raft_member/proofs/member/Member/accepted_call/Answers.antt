-- The engine does what is asked, and its queue is stored and sent.
use Rattle.std.proofs.lemmas.Bool.{both_ways}
use Rattle.raft_group_step.specs.GroupEvent.{Call}
use Rattle.raft_group_step.specs.GroupStep.{group_step}
use Rattle.raft_log_ids.proofs.GrowthLemmas.{on_err}
use Rattle.raft_member.proofs.EventLemmas.{halted_at_once, run_of_call}
use Rattle.raft_member.proofs.member.Member.accepted_call.Goals as goal
use Rattle.raft_member.proofs.member.Member.accepted_call.Goals.{in-TriggerSnapshot, in_default}

pub returns-clause-ok : goal.returns-clause-ok
returns-clause-ok g c = λ at s built down idle moment may.
    c.end_without_snapshot.ensures.ok s.stored (group_step c.args.self.now.id s (Call c.args.call.now at)) down
    (run_of_call g.S.GroupStorage.stands c.args.engine.now c.args.self.now.id at c.args.moment c.take_call.new.engine s c.args.call.now moment may.accepted
    (λ x. c.in_ok-take_call.ensures x c.args.self.now.id at s moment
    (elim c.match-matches.branch [
      | in-TriggerSnapshot w ↦ absurd (both_ways c.match-matches.matches c.if-matches.false w.matches-is)
      | in_default w ↦ w.in_default.not-TriggerSnapshot
    ])
    may))

pub returns-clause-err : goal.returns-clause-err
returns-clause-err g c = λ at s built down idle moment may.
    c.end_without_snapshot.ensures.err s.stored (group_step c.args.self.now.id s (Call c.args.call.now at)) down
    (run_of_call g.S.GroupStorage.stands c.args.engine.now c.args.self.now.id at c.args.moment c.take_call.new.engine s c.args.call.now moment may.accepted
    (λ x. c.in_ok-take_call.ensures x c.args.self.now.id at s moment
    (elim c.match-matches.branch [
      | in-TriggerSnapshot w ↦ absurd (both_ways c.match-matches.matches c.if-matches.false w.matches-is)
      | in_default w ↦ w.in_default.not-TriggerSnapshot
    ])
    may))

pub returns-in_err-take_call-clause-err : goal.returns-in_err-take_call-clause-err
returns-in_err-take_call-clause-err g c = λ at s built down idle moment may.
    let here = c.args.storage.now in
    on_err _
    (halted_at_once (g.S.GroupStorage.is_well here) (g.S.GroupStorage.shows here c.args.group) (g.S.GroupStorage.fails here) s.stored (group_step c.args.self.now.id s (Call c.args.call.now at))
    (g.met.S.GroupStorage.shows_more here c.args.group) (g.met.S.GroupStorage.well_fails here down.well) c.args.self.now down.no_engine down.stored)
