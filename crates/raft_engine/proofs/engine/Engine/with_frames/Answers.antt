-- The members that are served are the others.
use Rattle.std.proofs.Common.{◌≡◌, ◌∙◌, ap, sym, subst, true}
use Rattle.std.specs.List.{list_all}
use Rattle.std.specs.Prelude.{not}
use Rattle.raft_commands.specs.declared.engine_config.EngineConfig.{EngineConfig}
use Rattle.raft_values.specs.LogId.{place_of}
use Rattle.raft_group_step.specs.Values.{has_id}
use Rattle.raft_group_step.specs.StoredGroup.{membership_in_force}
use Rattle.raft_group_step.specs.Lead.{ids_of, other_ids}
use Rattle.raft_group_step.specs.Frames.{has_grown, serve_all}
use Rattle.raft_leaders.proofs.OwnLemmas.{none_if}
use Rattle.raft_engine.specs.Standing.{PlaysRole}
use Rattle.raft_engine.proofs.ReplicationLemmas.{all_unserved, others-members}
use Rattle.raft_engine.proofs.ClockLemmas.{keeps_same}
use Rattle.raft_engine.proofs.engine.Engine.with_frames.Goals as goal

pub returns-then-is_none-clause-step : goal.returns-then-is_none-clause-step
returns-then-is_none-clause-step g c = λ x own r step room.
    let self = c.args.self.now in
    rw (all_unserved own (has_grown c.args.before r.state.committed) (other_ids own r.state.stored) self.candidate r.state.stored r
    (subst (λ l. PlaysRole own l self.candidate r.state.stored r.state.role) (none_if self.leader (c.is_none.ensures ∙ ap not c.if-is_none.true)) step.state.role)) step

pub returns-clause-step : goal.returns-clause-step
returns-clause-step g c = λ x own r step room.
    let others : c.as_slice.result.now ≡ other_ids own r.state.stored =
    c.as_slice.ensures.value ∙ c.in_ok-ids.ensures r.state.stored step.state.knows ∙ ap (λ (k : EngineConfig _). other_ids k.id r.state.stored) step.state.config in
    let news : c.has_grown.result ≡ has_grown c.args.before r.state.committed =
    c.has_grown.ensures ∙ ap (has_grown c.args.before) (c.index-committed.ensures ∙ ap place_of step.state.committed ∙ step.state.order.committed) in
    rw (ap (λ b. serve_all own b (other_ids own r.state.stored) r) (sym news) ∙ ap (λ ns. serve_all own c.has_grown.result ns r) (sym others))
    (c.serve_all.ensures.step x own r step
    (subst (λ ns. list_all (has_id (ids_of (membership_in_force r.state.stored))) ns ≡ true) (sym others) (others-members own r.state.stored)) room)

pub returns-then-is_none-clause-heard : goal.returns-then-is_none-clause-heard
returns-then-is_none-clause-heard g c = keeps_same c.args.self.now.leader

pub returns-clause-heard : goal.returns-clause-heard
returns-clause-heard g c = c.serve_all.ensures.heard
