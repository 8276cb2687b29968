-- An answer counts by its vote and by what it repeats.
use Rattle.std.proofs.Common.{◌≡◌, ◌∙◌, ap, sym, subst, true, false}
use Rattle.std.specs.Prelude.{◌&&◌}
use Rattle.raft_group_step.specs.Values.{vote_eq}
use Rattle.raft_group_step.specs.Peer.{is_answer_to}
use Rattle.raft_group_step.specs.Lead.{peer_of}
use Rattle.raft_group_step.specs.Frames.{with_peer_state}
use Rattle.raft_engine.specs.Standing.{PlaysRole, outstanding_of, peer_state}
use Rattle.raft_engine.specs.Sending.{reply_of}
use Rattle.raft_engine.proofs.ReplicationLemmas.{answer-is, answered_busy, known-busy, known_step, leads}
use Rattle.raft_engine.proofs.ClockLemmas.{keeps_same}
use Rattle.raft_engine.proofs.engine.Engine.take_answer.Goals as goal
use Rattle.raft_engine.proofs.engine.Engine.take_answer.Goals.{else-eq-via-then-eq+else-is_answer_to, else-eq-via-else-eq}

pub returns-then-is_answer_to-clause-step : goal.returns-then-is_answer_to-clause-step
returns-then-is_answer_to-clause-step g c = λ x own r step fits.
    let self = c.args.self.now in
    let entry = c.peer-entry.result in
    let reply = reply_of c.args.reply.now c.args.outcome.now in
    let led = leads own c.in-Some.leader self.candidate r.state.stored r.state.role
    (subst (λ l. PlaysRole own l self.candidate r.state.stored r.state.role) c.in-Some.is step.state.role) in
    let known : peer_of led.0 c.args.peer ≡ peer_state c.args.peer entry = led.2.peers c.args.peer ∙ ap (peer_state c.args.peer) (sym c.peer-entry.ensures) in
    let repeats : is_answer_to reply (outstanding_of entry.inflight) ≡ true = sym (c.is_answer_to.ensures c.args.outcome.now) ∙ c.if-is_answer_to.true in
    let votes : vote_eq c.args.reply.now.vote r.state.stored.vote ≡ true =
    ap (vote_eq c.args.reply.now.vote) (sym (c.vote_ref.ensures ∙ step.state.knows.vote)) ∙ sym c.eq.ensures ∙ c.if-eq.true in
    let test : (vote_eq reply.vote r.state.stored.vote && is_answer_to reply (outstanding_of entry.inflight)) ≡ true =
    ap (λ b. b && is_answer_to reply (outstanding_of entry.inflight)) votes ∙ repeats in
    rw (answer-is c.args.peer led.0 r.state.role entry r led.1 known reply true test
    ∙ ap (λ p. with_peer_state p led.0 r) (sym (c.after_answer.ensures c.args.peer fits)))
    (known_step x own self c.set_peer.new.self r step (peer_state c.args.peer c.after_answer.result) led.0 led.1
    (c.set_peer.ensures.known own r.state led.0 step.state led.1
    (known-busy c.in-Some.leader self.leader c.args.peer entry c.in-Some.is c.peer-entry.ensures (answered_busy reply entry.inflight repeats))) c.set_peer.ensures.rest.0 c.set_peer.ensures.rest.1)

pub returns-else-eq-clause-step : goal.returns-else-eq-clause-step
returns-else-eq-clause-step g c = λ x own r step fits.
    let self = c.args.self.now in
    let entry = c.peer-entry.result in
    let reply = reply_of c.args.reply.now c.args.outcome.now in
    let led = leads own c.in-Some.leader self.candidate r.state.stored r.state.role
    (subst (λ l. PlaysRole own l self.candidate r.state.stored r.state.role) c.in-Some.is step.state.role) in
    let known : peer_of led.0 c.args.peer ≡ peer_state c.args.peer entry = led.2.peers c.args.peer ∙ ap (peer_state c.args.peer) (sym c.peer-entry.ensures) in
    let repeats = is_answer_to reply (outstanding_of entry.inflight) in
    let votes : vote_eq c.args.reply.now.vote r.state.stored.vote ≡ c.eq.result =
    ap (vote_eq c.args.reply.now.vote) (sym (c.vote_ref.ensures ∙ step.state.knows.vote)) ∙ sym c.eq.ensures in
    let test : (vote_eq reply.vote r.state.stored.vote && repeats) ≡ false =
    elim c.else-eq.branch [
      | else-eq-via-then-eq+else-is_answer_to w ↦
          ap (λ b. b && repeats) (votes ∙ w.if-eq.true) ∙ sym (w.is_answer_to.ensures c.args.outcome.now) ∙ w.if-is_answer_to.false
      | else-eq-via-else-eq w ↦ ap (λ b. b && repeats) (votes ∙ w.if-eq.false)
    ] in
    rw (answer-is c.args.peer led.0 r.state.role entry r led.1 known reply false test) step

pub returns-then-is_answer_to-clause-heard : goal.returns-then-is_answer_to-clause-heard
returns-then-is_answer_to-clause-heard g c = c.set_peer.ensures.heard

pub returns-else-eq-clause-heard : goal.returns-else-eq-clause-heard
returns-else-eq-clause-heard g c = keeps_same c.args.self.now.leader

pub returns-in_default-clause-heard : goal.returns-in_default-clause-heard
returns-in_default-clause-heard g c = keeps_same c.args.self.now.leader
