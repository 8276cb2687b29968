-- The new machine is there, and the others stay.
use Rattle.std.proofs.Common.{ap, sym, subst, ◌∙◌}
use Rattle.std.specs.Prelude.{option_map}
use Rattle.raft_group_step.specs.GroupState.{state_of}
use Rattle.raft_node.specs.Running.{RunsAt, running_of}
use Rattle.raft_node.proofs.Follows.{on_err_map, on_ok_map, running_in-applier}
use Rattle.raft_node.proofs.node.Node.seat_new.Goals as goal

pub returns-clause-ok : goal.returns-clause-ok
returns-clause-ok g c = λ st.
    on_ok_map c.seat.result
    (λ is. subst (λ o. RunsAt g.M.StateMachine.rules o (state_of st))
    (sym (running_in-applier g.M.StateMachine.state c.seat.new.self.machines c.args.group ∙ ap (λ o. option_map (running_of g.M.StateMachine.state) o) is)) (c.in_ok-applier.ensures st))
    c.seat.ensures.ok

pub returns-clause-others : goal.returns-clause-others
returns-clause-others g c = λ other apart.
    running_in-applier g.M.StateMachine.state c.seat.new.self.machines other
    ∙ ap (λ o. option_map (running_of g.M.StateMachine.state) o) (c.seat.ensures.others other apart)
    ∙ sym (running_in-applier g.M.StateMachine.state c.args.self.now.machines other)

pub returns-clause-err : goal.returns-clause-err
returns-clause-err g c = λ other.
    on_err_map c.seat.result
    (λ is. running_in-applier g.M.StateMachine.state c.seat.new.self.machines other
    ∙ ap (λ o. option_map (running_of g.M.StateMachine.state) o) is
    ∙ sym (running_in-applier g.M.StateMachine.state c.args.self.now.machines other))
    (c.seat.ensures.err other)
