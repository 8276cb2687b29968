-- The engine is handed the message, and its queue is stored and sent.
use Rattle.std.proofs.Common.{sym, subst}
use Rattle.raft_group_step.specs.GroupStep.{group_step}
use Rattle.raft_engine.specs.Clock.{KeepsHeard}
use Rattle.raft_engine.specs.Events.{HasTaken, MayTake, received}
use Rattle.raft_messages.specs.Messages.{body_as}
use Rattle.raft_member.specs.Running.{Brings}
use Rattle.raft_log_ids.proofs.GrowthLemmas.{on_err}
use Rattle.raft_member.proofs.EventLemmas.{halted_at_once, run_of_message, run_of_message_with}
use Rattle.raft_executor.specs.SendingTimes.{sent_at}
use Rattle.raft_member.specs.Hearing.{HearsBy, HearsIn}
use Rattle.raft_member.proofs.HearingLemmas.{all_heard}
use Rattle.raft_member.proofs.member.Member.accepted_message.Goals as goal

pub returns-in-SnapshotRequest-clause-ok : goal.returns-in-SnapshotRequest-clause-ok
returns-in-SnapshotRequest-clause-ok g c = λ y at s brings down moment may.
    let own = c.args.self.now.id in
    let peer = c.args.message.now.sender in
    let stands = g.S.GroupStorage.stands in
    let said = subst (λ body. Brings stands body y) c.in-SnapshotRequest.is brings in
    c.end_taken.ensures.ok s.stored (group_step own s (received own peer (body_as (λ x. y) c.args.message.now.body) at)) down
    (run_of_message_with stands c.args.engine.now own peer at c.args.moment c.take_snapshot.new.engine s (body_as (λ x. y) c.args.message.now.body)
    c.in-SnapshotRequest.snapshot y said moment may.accepted
    (subst (λ body. HasTaken y own c.args.engine.now c.take_snapshot.new.engine s (received own peer (body_as (λ x. y) body) at)) (sym c.in-SnapshotRequest.is)
    (c.in_ok-take_snapshot.ensures.taken y own at s said moment
    (subst (λ body. MayTake own c.args.engine.now s (received own peer (body_as (λ x. y) body) at)) c.in-SnapshotRequest.is may))))

pub returns-in-SnapshotRequest-clause-err : goal.returns-in-SnapshotRequest-clause-err
returns-in-SnapshotRequest-clause-err g c = λ y at s brings down moment may.
    let own = c.args.self.now.id in
    let peer = c.args.message.now.sender in
    let stands = g.S.GroupStorage.stands in
    let said = subst (λ body. Brings stands body y) c.in-SnapshotRequest.is brings in
    c.end_taken.ensures.err s.stored (group_step own s (received own peer (body_as (λ x. y) c.args.message.now.body) at)) down
    (run_of_message_with stands c.args.engine.now own peer at c.args.moment c.take_snapshot.new.engine s (body_as (λ x. y) c.args.message.now.body)
    c.in-SnapshotRequest.snapshot y said moment may.accepted
    (subst (λ body. HasTaken y own c.args.engine.now c.take_snapshot.new.engine s (received own peer (body_as (λ x. y) body) at)) (sym c.in-SnapshotRequest.is)
    (c.in_ok-take_snapshot.ensures.taken y own at s said moment
    (subst (λ body. MayTake own c.args.engine.now s (received own peer (body_as (λ x. y) body) at)) c.in-SnapshotRequest.is may))))

pub returns-clause-ok : goal.returns-clause-ok
returns-clause-ok g c = λ y at s brings down moment may.
    let own = c.args.self.now.id in
    let peer = c.args.message.now.sender in
    c.end_without_snapshot.ensures.ok s.stored (group_step own s (received own peer (body_as (λ x. y) c.args.message.now.body) at)) down
    (run_of_message g.S.GroupStorage.stands c.args.engine.now own peer at c.args.moment c.take_message.new.engine s (body_as (λ x. y) c.args.message.now.body) moment may.accepted
    (λ x. c.in_ok-take_message.ensures.taken (λ z. y) x own at s moment (λ vote id z e. c.in_default.not-SnapshotRequest vote id z e) may))

pub returns-clause-err : goal.returns-clause-err
returns-clause-err g c = λ y at s brings down moment may.
    let own = c.args.self.now.id in
    let peer = c.args.message.now.sender in
    c.end_without_snapshot.ensures.err s.stored (group_step own s (received own peer (body_as (λ x. y) c.args.message.now.body) at)) down
    (run_of_message g.S.GroupStorage.stands c.args.engine.now own peer at c.args.moment c.take_message.new.engine s (body_as (λ x. y) c.args.message.now.body) moment may.accepted
    (λ x. c.in_ok-take_message.ensures.taken (λ z. y) x own at s moment (λ vote id z e. c.in_default.not-SnapshotRequest vote id z e) may))

pub returns-in_err-take_snapshot-clause-err : goal.returns-in_err-take_snapshot-clause-err
returns-in_err-take_snapshot-clause-err g c = λ y at s brings down moment may.
    let own = c.args.self.now.id in
    on_err _
    (halted_at_once (g.S.GroupStorage.is_well c.args.storage.now) (g.S.GroupStorage.shows c.args.storage.now c.args.group) (g.S.GroupStorage.fails c.args.storage.now) s.stored
    (group_step own s (received own c.args.message.now.sender (body_as (λ x. y) c.args.message.now.body) at))
    (g.met.S.GroupStorage.shows_more c.args.storage.now c.args.group) (g.met.S.GroupStorage.well_fails c.args.storage.now down.well)
    c.args.self.now down.no_engine down.stored)

pub returns-in_err-take_message-clause-err : goal.returns-in_err-take_message-clause-err
returns-in_err-take_message-clause-err g c = λ y at s brings down moment may.
    let own = c.args.self.now.id in
    on_err _
    (halted_at_once (g.S.GroupStorage.is_well c.args.storage.now) (g.S.GroupStorage.shows c.args.storage.now c.args.group) (g.S.GroupStorage.fails c.args.storage.now) s.stored
    (group_step own s (received own c.args.message.now.sender (body_as (λ x. y) c.args.message.now.body) at))
    (g.met.S.GroupStorage.shows_more c.args.storage.now c.args.group) (g.met.S.GroupStorage.well_fails c.args.storage.now down.well)
    c.args.self.now down.no_engine down.stored)

pub returns-in-SnapshotRequest-clause-heard : goal.returns-in-SnapshotRequest-clause-heard
returns-in-SnapshotRequest-clause-heard g c =
    let m = c.args.message.now in
    let sent = sent_at c.args.self.now.sendings m.sender in
    let old = c.args.engine.now.leader in
    let new = c.end_taken.new.engine.leader in
    all_heard m sent old new c.end_taken.result c.end_taken.ensures.over
    (subst (λ body. HearsIn body m.sender sent old new) (sym c.in-SnapshotRequest.is)
    (subst (KeepsHeard old) (sym c.end_taken.ensures.leader) c.in_ok-take_snapshot.ensures.heard))

pub returns-clause-heard : goal.returns-clause-heard
returns-clause-heard g c =
    let m = c.args.message.now in
    let sent = sent_at c.args.self.now.sendings m.sender in
    let old = c.args.engine.now.leader in
    let taken = c.take_message.new.engine.leader in
    let new = c.end_without_snapshot.new.engine.leader in
    all_heard m sent old new c.end_without_snapshot.result c.end_without_snapshot.ensures.over
    (subst (λ l. HearsBy m sent old l) (sym c.end_without_snapshot.ensures.leader)
    (subst (λ t. HearsBy m t old taken) c.sent_at-sending_time.ensures c.in_ok-take_message.ensures.heard))
