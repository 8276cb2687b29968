-- A leader serves its peer by what it knows of it.
use Rattle.std.proofs.Common.{◌≡◌, ◌∙◌, ◌<◌, ap, sym, subst, arith, true, false}
use Rattle.std.specs.Prelude.{◌&&◌, if◌then◌else◌, is_none}
use Rattle.std.proofs.lemmas.Bool.{ltb-true}
use Rattle.raft_values.specs.LogId.{next_place}
use Rattle.raft_progress.specs.Inflight.{request_id}
use Rattle.raft_group_step.specs.StoredGroup.{end_place}
use Rattle.raft_group_step.specs.StepResult.{send}
use Rattle.raft_group_step.specs.Lead.{peer_of}
use Rattle.raft_group_step.specs.Frames.{lacks_entries, notice}
use Rattle.raft_engine.specs.Standing.{PlaysRole, peer_state}
use Rattle.raft_engine.specs.Sending.{HasPeer}
use Rattle.raft_engine.proofs.ReplicationLemmas.{leads, served, unserved}
use Rattle.raft_progress.proofs.PartsLemmas.{on_ok}
use Rattle.raft_engine.proofs.ClockLemmas.{keeps_same, keeps_untouched}
use Rattle.raft_engine.proofs.engine.Engine.serve.Goals as goal
use Rattle.raft_engine.proofs.engine.Engine.serve.Goals.{else-is_none-via-then-is_none+else-lacks_entries, else-is_none-via-else-is_none}

pub returns-in_default-clause-step : goal.returns-in_default-clause-step
returns-in_default-clause-step g c = λ x own r step is_member room.
    let self = c.args.self.now in
    rw (unserved own c.args.n c.args.has_news self.candidate r.state.stored r.state.role r
    (subst (λ l. PlaysRole own l self.candidate r.state.stored r.state.role) c.in_default.is step.state.role)) step

pub returns-then-lacks_entries-clause-step : goal.returns-then-lacks_entries-clause-step
returns-then-lacks_entries-clause-step g c = λ x own r step is_member room.
    let self = c.args.self.now in
    let entry = c.peer-entry.result in
    let led = leads own c.in-Some.leader self.candidate r.state.stored r.state.role
    (subst (λ l. PlaysRole own l self.candidate r.state.stored r.state.role) c.in-Some.is step.state.role) in
    let known : peer_of led.0 c.args.n ≡ peer_state c.args.n entry = led.2.peers c.args.n ∙ ap (peer_state c.args.n) (sym c.peer-entry.ensures) in
    let lacks : lacks_entries r.state.stored (peer_state c.args.n entry) ≡ true =
    sym (c.lacks_entries.ensures r.state.stored c.args.n step.state.knows step.state.order.placed room.places) ∙ c.if-lacks_entries.true in
    let test : (is_none (request_id entry.inflight) && lacks_entries r.state.stored (peer_state c.args.n entry)) ≡ true =
    ap (λ b. b && lacks_entries r.state.stored (peer_state c.args.n entry)) (sym c.is_none.ensures ∙ c.if-is_none.true) ∙ lacks in
    let below : next_place entry.matching < end_place r.state.stored = ltb-true (next_place entry.matching) (end_place r.state.stored) lacks in
    rw (served own c.args.n c.args.has_news true led.0 r.state.role entry r led.1 known test)
    (c.send_request.ensures.step x own r led.0 step led.1 (subst (HasPeer c.args.n) (sym c.in-Some.is) (led.2.members c.args.n is_member)) known room (omega (arith, room.places, below)))

pub returns-then-has_news-clause-step : goal.returns-then-has_news-clause-step
returns-then-has_news-clause-step g c = λ x own r step is_member room.
    let self = c.args.self.now in
    let entry = c.peer-entry.result in
    let led = leads own c.in-Some.leader self.candidate r.state.stored r.state.role
    (subst (λ l. PlaysRole own l self.candidate r.state.stored r.state.role) c.in-Some.is step.state.role) in
    let known : peer_of led.0 c.args.n ≡ peer_state c.args.n entry = led.2.peers c.args.n ∙ ap (peer_state c.args.n) (sym c.peer-entry.ensures) in
    let lacks = lacks_entries r.state.stored (peer_state c.args.n entry) in
    let test : (is_none (request_id entry.inflight) && lacks) ≡ false =
    elim c.else-is_none.branch [
      | else-is_none-via-then-is_none+else-lacks_entries w ↦
          ap (λ b. b && lacks) (sym c.is_none.ensures ∙ w.if-is_none.true)
          ∙ sym (w.lacks_entries.ensures r.state.stored c.args.n step.state.knows step.state.order.placed room.places) ∙ w.if-lacks_entries.false
      | else-is_none-via-else-is_none w ↦ ap (λ b. b && lacks) (sym c.is_none.ensures ∙ w.if-is_none.false)
    ] in
    rw (served own c.args.n c.args.has_news false led.0 r.state.role entry r led.1 known test
    ∙ ap (λ b. if b then send own c.args.n (notice r.state (peer_of led.0 c.args.n)) r else r) c.if-has_news.true)
    (c.send_notice.ensures.whole x own r led.0 step known)

pub returns-clause-step : goal.returns-clause-step
returns-clause-step g c = λ x own r step is_member room.
    let self = c.args.self.now in
    let entry = c.peer-entry.result in
    let led = leads own c.in-Some.leader self.candidate r.state.stored r.state.role
    (subst (λ l. PlaysRole own l self.candidate r.state.stored r.state.role) c.in-Some.is step.state.role) in
    let known : peer_of led.0 c.args.n ≡ peer_state c.args.n entry = led.2.peers c.args.n ∙ ap (peer_state c.args.n) (sym c.peer-entry.ensures) in
    let lacks = lacks_entries r.state.stored (peer_state c.args.n entry) in
    let test : (is_none (request_id entry.inflight) && lacks) ≡ false =
    elim c.else-is_none.branch [
      | else-is_none-via-then-is_none+else-lacks_entries w ↦
          ap (λ b. b && lacks) (sym c.is_none.ensures ∙ w.if-is_none.true)
          ∙ sym (w.lacks_entries.ensures r.state.stored c.args.n step.state.knows step.state.order.placed room.places) ∙ w.if-lacks_entries.false
      | else-is_none-via-else-is_none w ↦ ap (λ b. b && lacks) (sym c.is_none.ensures ∙ w.if-is_none.false)
    ] in
    rw (served own c.args.n c.args.has_news false led.0 r.state.role entry r led.1 known test
    ∙ ap (λ b. if b then send own c.args.n (notice r.state (peer_of led.0 c.args.n)) r else r) c.if-has_news.false)
    step

pub returns-in_default-clause-heard : goal.returns-in_default-clause-heard
returns-in_default-clause-heard g c = keeps_same c.args.self.now.leader

pub returns-then-lacks_entries-clause-heard : goal.returns-then-lacks_entries-clause-heard
returns-then-lacks_entries-clause-heard g c = c.send_request.ensures.heard

pub returns-then-has_news-clause-heard : goal.returns-then-has_news-clause-heard
returns-then-has_news-clause-heard g c =
    on_ok c.send_notice.result (keeps_untouched c.args.self.now.leader c.send_notice.new.self.leader c.send_notice.ensures.leader)

pub returns-clause-heard : goal.returns-clause-heard
returns-clause-heard g c = keeps_same c.args.self.now.leader
