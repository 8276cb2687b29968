-- What the message says is what it says with the snapshot that its own stands for.
use Rattle.std.proofs.Common.{◌≡◌, Some, refl, sym, ap, ◌∙◌, subst}
use Rattle.std.specs.Prelude.{IfOk, OnErr}
use Rattle.raft_messages.specs.Messages.{message_as}
use Rattle.raft_group_step.specs.GroupEvent.{Receive}
use Rattle.raft_group_step.specs.Message.{Message as Said}
use Rattle.raft_member.specs.Member.{Engine, HasEnded, HasStopped, IsIdle}
use Rattle.raft_member.specs.declared.member.Member.{Member}
use Rattle.raft_member.proofs.MessageLemmas.{said_as}
use Rattle.raft_executor.specs.SendingTimes.{sent_at}
use Rattle.raft_executor.specs.declared.sending_times.SendingTimes.{SendingTimes}
use Rattle.raft_member.specs.Hearing.{HasHeard}
use Rattle.raft_member.proofs.TellingLemmas.{told_end, told_fault, told_heard, told_id}
use Rattle.raft_member.proofs.member.Member.receive.Goals as goal

pub returns-clause-err : goal.returns-clause-err
returns-clause-err g c = λ m s says up lawful.
    let own = c.args.self.now.id in
    let peer = c.args.message.now.sender in
    let engine = c.message-told.new.engine in
    let shown = g.S.GroupStorage.shows c.message-told.new.storage c.args.group in
    let fails = g.S.GroupStorage.fails c.message-told.new.storage in
    let said = said_as g.S.GroupStorage.stands c.args.message.now m says in
    let both : Some up.engine ≡ Some c.in-Some.engine = sym up.has_engine ∙ c.in-Some.is in
    let same : up.engine ≡ c.in-Some.engine = cc in
    let idle = subst (λ (e : Engine). IsIdle own e s) same up.idle in
    let event = Receive peer (message_as (λ x. said.0) c.args.message.now) c.args.now in
    subst (λ (x : Said). OnErr c.message-told.result (HasStopped shown fails own s (Receive peer x c.args.now) c.join.new.self)) said.2
    (told_fault engine c.message-told.new.self c.join.new.self (λ left met. HasStopped shown fails own s event left) c.message-told.result
    (c.join.ensures engine refl c.message-told.ensures.id)
    (c.message-told.ensures.err said.0 s said.1
    (record {
      no_engine = refl;
      well = up.well;
      stored = up.stored;
      present = up.present;
    })
    up.moment idle lawful))

pub returns-clause-ok : goal.returns-clause-ok
returns-clause-ok g c = λ m s says up lawful.
    let own = c.args.self.now.id in
    let peer = c.args.message.now.sender in
    let engine = c.message-told.new.engine in
    let stands = g.S.GroupStorage.stands in
    let is_well = g.S.GroupStorage.is_well c.message-told.new.storage in
    let shown = g.S.GroupStorage.shows c.message-told.new.storage c.args.group in
    let said = said_as stands c.args.message.now m says in
    let both : Some up.engine ≡ Some c.in-Some.engine = sym up.has_engine ∙ c.in-Some.is in
    let same : up.engine ≡ c.in-Some.engine = cc in
    let idle = subst (λ (e : Engine). IsIdle own e s) same up.idle in
    let event = Receive peer (message_as (λ x. said.0) c.args.message.now) c.args.now in
    subst (λ (x : Said). IfOk c.message-told.result (HasEnded stands is_well shown own s (Receive peer x c.args.now) c.args.stop c.join.new.self)) said.2
    (told_end engine c.message-told.new.self c.join.new.self stands is_well shown own s event c.args.stop c.message-told.result
    (c.join.ensures engine refl c.message-told.ensures.id)
    (c.message-told.ensures.ok said.0 s said.1
    (record {
      no_engine = refl;
      well = up.well;
      stored = up.stored;
      present = up.present;
    })
    up.moment idle lawful))

pub returns-clause-heard : goal.returns-clause-heard
returns-clause-heard g c = λ e e' was is.
    let m = c.args.message.now in
    let sent = sent_at c.args.self.now.sendings m.sender in
    let engine = c.message-told.new.engine in
    let left = c.join.ensures engine refl c.message-told.ensures.id in
    let heard =
    subst (λ (t : SendingTimes). IfOk c.message-told.result (HasHeard m (sent_at t m.sender) c.in-Some.engine.leader engine.leader)) c.replace.ensures.value c.message-told.ensures.heard in
    let both : Some e ≡ Some c.in-Some.engine = sym was ∙ c.in-Some.is in
    let same : e ≡ c.in-Some.engine = cc in
    subst (λ (y : Engine). IfOk c.message-told.result (HasHeard m sent y.leader e'.leader)) (sym same)
    (told_heard engine c.message-told.new.self c.join.new.self m sent c.in-Some.engine.leader e' c.message-told.result left is heard)

pub returns-clause-id : goal.returns-clause-id
returns-clause-id g c =
    let engine = c.message-told.new.engine in
    ap (λ (m : Member). m.id) (c.join.ensures engine refl c.message-told.ensures.id)
    ∙ told_id engine c.message-told.new.self c.join.new.self c.message-told.result ∙ c.message-told.ensures.id
