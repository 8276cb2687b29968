-- The nodes that are told are the others.
use Rattle.std.proofs.Common.{◌≡◌, ◌∙◌, ap, sym, subst}
use Rattle.std.specs.Prelude.{not}
use Rattle.raft_commands.specs.declared.engine_config.EngineConfig.{EngineConfig}
use Rattle.raft_group_step.specs.Lead.{other_ids}
use Rattle.raft_group_step.specs.Heartbeat.{beat_as, send_notices}
use Rattle.raft_leaders.proofs.OwnLemmas.{none_if}
use Rattle.raft_engine.specs.Standing.{PlaysRole}
use Rattle.raft_engine.proofs.ReplicationLemmas.{leads, some_is, untold}
use Rattle.raft_engine.proofs.engine.Engine.notices.Goals as goal

pub returns-then-is_none-clause-step : goal.returns-then-is_none-clause-step
returns-then-is_none-clause-step g c = λ x own r step.
    let self = c.args.self.now in
    rw (untold own self.candidate r.state.stored r.state.role r
    (subst (λ l. PlaysRole own l self.candidate r.state.stored r.state.role) (none_if self.leader (c.is_none.ensures ∙ ap not c.if-is_none.true)) step.state.role)) step

pub returns-clause-step : goal.returns-clause-step
returns-clause-step g c = λ x own r step.
    let self = c.args.self.now in
    let some = some_is self.leader (c.is_none.ensures ∙ ap not c.if-is_none.false) in
    let led = leads own some.0 self.candidate r.state.stored r.state.role (subst (λ l. PlaysRole own l self.candidate r.state.stored r.state.role) some.1 step.state.role) in
    let others : c.as_slice.result.now ≡ other_ids own r.state.stored =
    c.as_slice.ensures.value ∙ c.in_ok-ids.ensures r.state.stored step.state.knows ∙ ap (λ (k : EngineConfig _). other_ids k.id r.state.stored) step.state.config in
    rw (ap (λ k. beat_as own k r) led.1 ∙ ap (λ ns. send_notices own led.0 ns r) (sym others)) (c.send_notices.ensures.step x own r led.0 step led.1)
