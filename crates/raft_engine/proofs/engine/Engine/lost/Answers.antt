-- A request that is waited for counts as failed.
use Rattle.std.proofs.Common.{◌≡◌, ◌∙◌, ap, sym, subst, true, false}
use Rattle.std.specs.Prelude.{is_none}
use Rattle.raft_progress.specs.declared.inflight.Inflight.TheVariants.{None as Nothing}
use Rattle.raft_progress.specs.Inflight.{request_id}
use Rattle.raft_group_step.specs.Lead.{peer_of}
use Rattle.raft_engine.specs.Standing.{PlaysRole, peer_state}
use Rattle.raft_engine.proofs.ReplicationLemmas.{known-busy, known_step, leads, lost-is}
use Rattle.raft_engine.proofs.ClockLemmas.{keeps_same}
use Rattle.raft_engine.proofs.engine.Engine.lost.Goals as goal

pub returns-then-is_none-clause-step : goal.returns-then-is_none-clause-step
returns-then-is_none-clause-step g c = λ x own r step.
    let self = c.args.self.now in
    let entry = c.peer-entry.result in
    let led = leads own c.in-Some.leader self.candidate r.state.stored r.state.role
    (subst (λ l. PlaysRole own l self.candidate r.state.stored r.state.role) c.in-Some.is step.state.role) in
    let known : peer_of led.0 c.args.peer ≡ peer_state c.args.peer entry = led.2.peers c.args.peer ∙ ap (peer_state c.args.peer) (sym c.peer-entry.ensures) in
    rw (lost-is c.args.peer led.0 r.state.role entry r led.1 known false (sym c.is_none.ensures ∙ c.if-is_none.true)) step

pub returns-clause-step : goal.returns-clause-step
returns-clause-step g c = λ x own r step.
    let self = c.args.self.now in
    let entry = c.peer-entry.result in
    let led = leads own c.in-Some.leader self.candidate r.state.stored r.state.role
    (subst (λ l. PlaysRole own l self.candidate r.state.stored r.state.role) c.in-Some.is step.state.role) in
    let known : peer_of led.0 c.args.peer ≡ peer_state c.args.peer entry = led.2.peers c.args.peer ∙ ap (peer_state c.args.peer) (sym c.peer-entry.ensures) in
    let busy : is_none (request_id entry.inflight) ≡ false = sym c.is_none.ensures ∙ c.if-is_none.false in
    rw (lost-is c.args.peer led.0 r.state.role entry r led.1 known true busy)
    (known_step x own self c.set_peer.new.self r step (peer_state c.args.peer (record entry { inflight = Nothing })) led.0 led.1
    (c.set_peer.ensures.known own r.state led.0 step.state led.1 (known-busy c.in-Some.leader self.leader c.args.peer entry c.in-Some.is c.peer-entry.ensures busy)) c.set_peer.ensures.rest.0 c.set_peer.ensures.rest.1)

pub returns-in_default-clause-heard : goal.returns-in_default-clause-heard
returns-in_default-clause-heard g c = keeps_same c.args.self.now.leader

pub returns-then-is_none-clause-heard : goal.returns-then-is_none-clause-heard
returns-then-is_none-clause-heard g c = keeps_same c.args.self.now.leader

pub returns-clause-heard : goal.returns-clause-heard
returns-clause-heard g c = c.set_peer.ensures.heard
