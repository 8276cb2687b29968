-- A refused message ends so, and another as its step.
use Rattle.std.proofs.Common.{◌≡◌, ℕ, true, Some, None, max, option_map, sym, ap, ◌∙◌, subst}
use Rattle.std.specs.Result.{OnErr}
use Rattle.std.proofs.lemmas.Result.{on_err_weaker}
use Rattle.raft_messages.specs.Messages.{body_as, message_as}
use Rattle.raft_group_step.specs.StoredGroup.{Snapshot}
use Rattle.raft_group_step.specs.GroupState.{GroupState}
use Rattle.raft_group_step.specs.GroupEvent.{GroupEvent, Receive}
use Rattle.raft_group_step.specs.Refusal.{refusal_of}
use Rattle.raft_conditions.specs.Reason.{reason_of}
use Rattle.raft_engine.specs.Events.{MayTake, received}
use Rattle.raft_member.specs.Member.{HasStopped, IsIdle, IsLawful}
use Rattle.raft_member.specs.Running.{Brings, EndsTo}
use Rattle.raft_member.proofs.EventLemmas.{ends_as_runs, has_room_behind, is_received, may_take, stopped_as_halted, up_again}
use Rattle.raft_member.proofs.member.Member.message.Given.{Over}
use Rattle.raft_member.proofs.member.Member.message.Goals as goal
use Rattle.raft_member.proofs.member.Member.message.Goals.{After-accepted_message}

pub returns-in-Some-clause-ok : goal.returns-in-Some-clause-ok
returns-in-Some-clause-ok g c = λ y s brings down moment idle lawful.
    let own = c.args.self.now.id in
    let facts = c.facts_of.ensures s idle.stands down.present (has_room_behind own s lawful) in
    let refused : refusal_of own s (Receive c.args.message.now.sender (message_as (λ x. y) c.args.message.now) c.args.now) ≡ Some (reason_of c.in-Some.refusal) =
    sym (c.message_refusal.ensures y brings own s facts) ∙ ap (option_map reason_of) c.in-Some.is in
    (refused, up_again (g.S.GroupStorage.is_well c.args.storage.now) (g.S.GroupStorage.shows c.args.storage.now c.args.group) c.args.self.now c.args.engine.now s down moment idle)

-- a message that isn't refused is to this node
module _ (g : Over) (c : After-accepted_message g) (y : Snapshot) (s : GroupState) (brings : Brings g.S.GroupStorage.stands c.args.message.now.body y)
    (present : s.stored.present ≡ true) (idle : IsIdle c.args.self.now.id c.args.engine.now s) (lawful : IsLawful c.args.self.now.id s) where
  abbrev own : ℕ
  own = c.args.self.now.id

  abbrev event : GroupEvent
  event = received own c.args.message.now.sender (body_as (λ x. y) c.args.message.now.body) c.args.now

  abbrev said : GroupEvent
  said = Receive c.args.message.now.sender (message_as (λ x. y) c.args.message.now) c.args.now

  taken : refusal_of own s said ≡ None
  taken =
      sym (c.message_refusal.ensures y brings own s (c.facts_of.ensures s idle.stands present (has_room_behind own s lawful)))
      ∙ ap (option_map reason_of) c.in-None.is

  same : said ≡ event
  same = is_received own c.args.message.now.sender c.args.now s (message_as (λ x. y) c.args.message.now) taken

  accepted : refusal_of own s event ≡ None
  accepted = ap (refusal_of own s) (sym same) ∙ taken

  may : MayTake own c.args.engine.now s event
  may = may_take own c.args.engine.now s event idle lawful accepted

pub returns-in-None-clause-ok : goal.returns-in-None-clause-ok
returns-in-None-clause-ok g c = λ y s brings down moment idle lawful.
    let at : c.max-moment.result ≡ max s.now c.args.now = c.max-moment.ensures ∙ ap (λ n. max n c.args.now) moment in
    let stands = g.S.GroupStorage.stands in
    let is_well = g.S.GroupStorage.is_well c.accepted_message.new.storage in
    let shown = g.S.GroupStorage.shows c.accepted_message.new.storage c.args.group in
    let m = c.accepted_message.new.self in
    let engine = c.accepted_message.new.engine in
    let result = c.accepted_message.result in
    subst (λ (e : GroupEvent). EndsTo stands is_well shown c.args.self.now.id s e c.args.stop engine m result) (sym (same g c y s brings down.present idle lawful))
    (ends_as_runs stands is_well shown c.args.self.now.id s (event g c y s brings down.present idle lawful) c.args.stop engine m result (accepted g c y s brings down.present idle lawful)
    (c.accepted_message.ensures.ok y c.args.now s brings down at (may g c y s brings down.present idle lawful)))

pub returns-in-None-clause-err : goal.returns-in-None-clause-err
returns-in-None-clause-err g c = λ y s brings down moment idle lawful.
    let at : c.max-moment.result ≡ max s.now c.args.now = c.max-moment.ensures ∙ ap (λ n. max n c.args.now) moment in
    let shown = g.S.GroupStorage.shows c.accepted_message.new.storage c.args.group in
    let fails = g.S.GroupStorage.fails c.accepted_message.new.storage in
    let m = c.accepted_message.new.self in
    let result = c.accepted_message.result in
    subst (λ (e : GroupEvent). OnErr result (HasStopped shown fails c.args.self.now.id s e m)) (sym (same g c y s brings down.present idle lawful))
    (on_err_weaker result
    (stopped_as_halted shown fails c.args.self.now.id s (event g c y s brings down.present idle lawful) m (accepted g c y s brings down.present idle lawful))
    (c.accepted_message.ensures.err y c.args.now s brings down at (may g c y s brings down.present idle lawful)))

pub returns-in-None-clause-heard : goal.returns-in-None-clause-heard
returns-in-None-clause-heard g c = c.accepted_message.ensures.heard
