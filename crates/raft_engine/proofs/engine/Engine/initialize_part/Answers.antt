-- The first entry is put into a log that has none, and then the node stands for election.
use Rattle.std.proofs.Common.{◌∙◌, ap, sym, subst, refl, ◌∷◌, [], arith}
use Rattle.std.proofs.lemmas.Result.{on_ok_weaker}
use Rattle.raft_group_step.specs.StoredGroup.{PutEntries}
use Rattle.raft_group_step.specs.StepResult.{step_down, store}
use Rattle.raft_group_step.specs.AppendRequest.{put_entries}
use Rattle.raft_known_state.specs.KnownState.{ArePlaced}
use Rattle.raft_engine.specs.Standing.{IsStepOf}
use Rattle.raft_engine.proofs.InitializeLemmas.{none_committed, put_first, elect_once, first_entry, first_is, room_after, first_term}
use Rattle.raft_engine.proofs.engine.Engine.initialize_part.Goals as goal

pub returns-clause-step : goal.returns-clause-step
returns-clause-step g c = λ x own r step now new.
    let m = c.args.membership in
    let down = c.in_ok-step_down.ensures.step x own r step in
    let first = first_is c.new-log_id.result c.new.result m c.new-entries.result c.push.new.self c.new-log_id.ensures c.new.ensures.term c.new.ensures.node c.new-entries.ensures c.in_ok-push.ensures.ok in
    let put = store (PutEntries 0 (first_entry m ∷ [])) (step_down r) in
    let stored =
    subst (IsStepOf x own c.put_entries.new.self) (ap (λ es. put_entries es (step_down r)) first ∙ put_first m (step_down r) new)
    (c.in_ok-put_entries.ensures.step x own (step_down r) 0 down refl (subst (ArePlaced 0) (sym first) (refl, tt)) (none_committed (step_down r).state down.state.order new) (omega arith)) in
    on_ok_weaker c.elect_part.result
    (λ h. subst (IsStepOf x own c.elect_part.new.self) (elect_once own (PutEntries 0 (first_entry m ∷ [])) r) h)
    (c.elect_part.ensures.step x own put stored now (let term = first_term r.state.stored new in omega (arith, term))
    (room_after r.state.stored new (first_entry m)))
