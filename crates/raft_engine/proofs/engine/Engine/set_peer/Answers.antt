-- The leader's entry is the peer's in the lead.
use Rattle.std.proofs.Common.{◌∙◌, ap, refl, subst, sym, None, Some}
use Rattle.raft_leaders.specs.Leader.{LeaderValue}
use Rattle.raft_engine.specs.Clock.{KeepsHeard}
use Rattle.raft_engine.specs.Sending.{HasPeer}
use Rattle.raft_engine.specs.Standing.{EffectiveMembership, PlaysRole}
use Rattle.raft_engine.proofs.ReplicationLemmas.{known_set}
use Rattle.raft_engine.proofs.ClockLemmas.{keeps_noting}
use Rattle.raft_engine.proofs.engine.Engine.set_peer.Goals as goal

pub returns-in_default-clause-there : goal.returns-in_default-clause-there
returns-in_default-clause-there g c = λ own s lead old is_lead has.
    let self = c.args.self.now in
    absurd (subst (PlaysRole own None self.candidate s.stored) is_lead (subst (λ l. PlaysRole own l self.candidate s.stored s.role) c.in_default.is old.role))

pub returns-in_default-clause-known : goal.returns-in_default-clause-known
returns-in_default-clause-known g c = λ own s lead old is_lead has.
    let self = c.args.self.now in
    absurd (subst (PlaysRole own None self.candidate s.stored) is_lead (subst (λ l. PlaysRole own l self.candidate s.stored s.role) c.in_default.is old.role))

pub returns-clause-there : goal.returns-clause-there
returns-clause-there g c = λ own s lead old is_lead has.
    c.set_peer.ensures.there ∙ subst (HasPeer c.args.n) c.in-Some.is has

pub returns-clause-known : goal.returns-clause-known
returns-clause-known g c = λ own s lead old is_lead has.
    known_set own c.args.self.now _ s lead c.in-Some.leader c.set_peer.new.self c.args.n c.args.entry old is_lead c.in-Some.is
    (subst (HasPeer c.args.n) c.in-Some.is has) c.set_peer.ensures.sets c.set_peer.ensures.rest refl refl refl refl

pub returns-clause-heard : goal.returns-clause-heard
returns-clause-heard g c =
    subst (λ o. KeepsHeard o (Some c.set_peer.new.self)) (sym c.in-Some.is)
    (keeps_noting c.in-Some.leader c.set_peer.new.self (ap (λ (l : LeaderValue _ EffectiveMembership). l.clock_progress) c.set_peer.ensures.rest))
