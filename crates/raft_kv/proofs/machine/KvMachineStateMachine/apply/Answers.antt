use Rattle.std.proofs.Common.{◌≡◌, ◌∙◌, Ok, ap, sym}
use Rattle.raft_wire.specs.Reader.{all_of}
use Rattle.raft_wire.specs.Kv.{command_at}
use Rattle.raft_kv.specs.Machine.{after_command, answer_in, answer_to, state_after, state_of}
use Rattle.raft_kv.specs.Map.{Map, map_in, spelled_map}
use Rattle.raft_kv.proofs.Maps.{state_map, tree_state}
use Rattle.raft_kv.proofs.machine.KvMachineStateMachine.apply.Goals as goal

pub returns-in_ok-answer-in-Ok-clause-answer : goal.returns-in_ok-answer-in-Ok-clause-answer
returns-in_ok-answer-in-Ok-clause-answer c =
    let m = c.args.self.now in
    let read : all_of command_at c.args.command.now ≡ Ok c.in-Ok.command = ap (all_of command_at) (sym c.as_slice.ensures) ∙ c.in-Ok.ensures.exact in
    let here : map_in (state_of m) ≡ m = ap (λ (n : Map). map_in (state_of n)) (sym c.self.view_is) ∙ state_map c.self.inside.pairs c.self.invariant ∙ c.self.view_is in
    c.in_ok-answer-in-Ok.ensures.answer ∙ sym (ap (answer_in (state_of m)) read ∙ ap (λ (n : Map). answer_to n c.in-Ok.command) here)

pub returns-in_ok-answer-in-Ok-clause-ok : goal.returns-in_ok-answer-in-Ok-clause-ok
returns-in_ok-answer-in-Ok-clause-ok c =
    let m = c.args.self.now in
    let read : all_of command_at c.args.command.now ≡ Ok c.in-Ok.command = ap (all_of command_at) (sym c.as_slice.ensures) ∙ c.in-Ok.ensures.exact in
    let here : map_in (state_of m) ≡ m = ap (λ (n : Map). map_in (state_of n)) (sym c.self.view_is) ∙ state_map c.self.inside.pairs c.self.invariant ∙ c.self.view_is in
    ap state_of (sym c.self-in-Ok.view_is) ∙ tree_state c.self-in-Ok.inside.pairs c.self-in-Ok.invariant
    ∙ ap spelled_map (c.self-in-Ok.view_is ∙ c.in_ok-answer-in-Ok.ensures.ok ∙ sym (ap (λ (n : Map). after_command n c.in-Ok.command) here))
    ∙ sym (ap (state_after (state_of m)) read)
