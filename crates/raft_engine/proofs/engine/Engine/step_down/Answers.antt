-- The runtime is told of a lead that ends.
use Rattle.std.proofs.Common.{◌∙◌, sym, refl}
use Rattle.raft_engine.proofs.StandingLemmas.{lead_ended, stepped_down}
use Rattle.raft_engine.proofs.engine.Engine.step_down.Goals as goal
use Rattle.raft_engine.proofs.engine.Engine.step_down.Goals.{then-is_some+in_ok-push_command, else-is_some}

pub returns-clause-step : goal.returns-clause-step
returns-clause-step g c = λ x own r step.
    let upto = c.set_wish.new.self.state.purge_upto in
    let knows = c.set_wish.ensures.known r.state.stored step.state.knows in
    let wish = c.set_wish.ensures.rest in
    elim c.if-is_some.branch [
      | then-is_some+in_ok-push_command w ↦ rw w.self-is (lead_ended x own c.args.self.now _ r step refl refl refl refl upto knows wish (sym c.is_some.ensures ∙ w.if-is_some.true) w.in_ok-push_command.ensures.ok)
      | else-is_some w ↦ rw w.self-is (stepped_down x own c.args.self.now _ r step refl refl refl refl upto knows wish (sym c.is_some.ensures ∙ w.if-is_some.false) refl)
    ]
