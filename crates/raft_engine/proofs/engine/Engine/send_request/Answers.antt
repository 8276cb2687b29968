-- The request leaves, and the peer's entry waits for its answer.
use Rattle.std.proofs.Common.{◌+◌, ◌≤◌, ◌^◌, ◌∙◌, refl, subst, sym, arith}
use Rattle.std.proofs.Math.Bool.{true≢false}
use Rattle.std.proofs.lemmas.Result.{on_ok_weaker}
use Rattle.raft_group_step.specs.Peer.{PeerState}
use Rattle.raft_group_step.specs.Lead.{peer_of}
use Rattle.raft_engine.specs.Sending.{NumbersLeft}
use Rattle.raft_engine.specs.Standing.{peer_state}
use Rattle.raft_engine.specs.Ordering.{IsStoredRequest}
use Rattle.raft_engine.proofs.SendingLemmas.{stored-request}
use Rattle.raft_engine.proofs.ReplicationLemmas.{requested}
use Rattle.raft_progress.proofs.PartsLemmas.{on_ok}
use Rattle.raft_engine.proofs.engine.Engine.send_request.Goals as goal

pub returns-then-not-set_peer-clause-step : goal.returns-then-not-set_peer-clause-step
returns-then-not-set_peer-clause-step g c = λ x own r lead step is_lead has e room m.
    absurd (true≢false (sym (c.set_peer.ensures.there own r.state lead step.state is_lead has) ∙ c.if-not-set_peer.true))

pub returns-clause-step : goal.returns-clause-step
returns-clause-step g c = λ x own r lead step is_lead has e room m.
    let entry = c.args.entry.now in
    let left : (peer_of lead c.args.n).next_id + 1 ≤ 2 ^ 64 = subst (NumbersLeft 1) is_lead room.numbers c.args.n in
    let fits : entry.curr_inflight_id + 1 + 1 ≤ 2 ^ 64 = subst (λ (p : PeerState). p.next_id + 1 ≤ 2 ^ 64) e left in
    on_ok_weaker c.push_command.result
    (λ h. requested x own c.args.self.now c.set_peer.new.self (record c.set_peer.new.self { output = c.push_command.new.self }) r c.args.n lead entry c.saturating_add.result c.next_request-req.result step is_lead c.set_peer.ensures.same
    (subst (IsStoredRequest r.state.stored) (sym (c.next_request-req.ensures own c.args.n r.state step.state room.places m (omega arith))) (stored-request r.state.stored (peer_state c.args.n entry) r.state.stored.snapshot step.state.order.placed refl)) e
    (omega (arith, c.saturating_add.ensures)) (c.next_request-req.ensures own c.args.n r.state step.state room.places m (omega arith))
    (c.set_peer.ensures.known own r.state lead step.state is_lead has) c.set_peer.ensures.rest.0 c.set_peer.ensures.rest.1 refl refl refl refl h)
    c.push_command.ensures.ok

pub returns-clause-heard : goal.returns-clause-heard
returns-clause-heard g c = on_ok c.push_command.result c.set_peer.ensures.heard
