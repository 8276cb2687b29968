-- The call ends so at the member whose engine stayed in its place.
use Rattle.std.proofs.Common.{◌≡◌, Some, refl, sym, ap, ◌∙◌, subst}
use Rattle.raft_group_step.specs.GroupEvent.{Call}
use Rattle.raft_member.specs.Member.{Engine, HasBrokenOff, IsIdle}
use Rattle.raft_member.specs.declared.member.Member.{Member}
use Rattle.raft_member.proofs.TellingLemmas.{told_end, told_fault, told_id}
use Rattle.raft_member.proofs.member.Member.ask.Goals as goal

pub returns-clause-ok : goal.returns-clause-ok
returns-clause-ok g c = λ s built up lawful.
    let own = c.args.self.now.id in
    let engine = c.call-told.new.engine in
    let both : Some up.engine ≡ Some c.in-Some.engine = sym up.has_engine ∙ c.in-Some.is in
    let same : up.engine ≡ c.in-Some.engine = cc in
    let idle = subst (λ (e : Engine). IsIdle own e s) same up.idle in
    told_end engine c.call-told.new.self c.join.new.self g.S.GroupStorage.stands (g.S.GroupStorage.is_well c.call-told.new.storage) (g.S.GroupStorage.shows c.call-told.new.storage c.args.group)
    own s (Call c.args.call.now c.args.now) c.args.stop c.call-told.result (c.join.ensures engine refl c.call-told.ensures.id)
    (c.call-told.ensures.ok s built
    (record {
      no_engine = refl;
      well = up.well;
      stored = up.stored;
      present = up.present;
    })
    up.moment idle lawful)

pub returns-clause-id : goal.returns-clause-id
returns-clause-id g c =
    let engine = c.call-told.new.engine in
    ap (λ (m : Member). m.id) (c.join.ensures engine refl c.call-told.ensures.id)
    ∙ told_id engine c.call-told.new.self c.join.new.self c.call-told.result ∙ c.call-told.ensures.id

pub returns-clause-err : goal.returns-clause-err
returns-clause-err g c = λ s built up lawful.
    let own = c.args.self.now.id in
    let engine = c.call-told.new.engine in
    let both : Some up.engine ≡ Some c.in-Some.engine = sym up.has_engine ∙ c.in-Some.is in
    let same : up.engine ≡ c.in-Some.engine = cc in
    let idle = subst (λ (e : Engine). IsIdle own e s) same up.idle in
    told_fault engine c.call-told.new.self c.join.new.self
    (HasBrokenOff (g.S.GroupStorage.is_well c.call-told.new.storage) (g.S.GroupStorage.shows c.call-told.new.storage c.args.group)
    (g.S.GroupStorage.fails c.call-told.new.storage) own s (Call c.args.call.now c.args.now))
    c.call-told.result (c.join.ensures engine refl c.call-told.ensures.id)
    (c.call-told.ensures.err s built
    (record {
      no_engine = refl;
      well = up.well;
      stored = up.stored;
      present = up.present;
    })
    up.moment idle lawful)
