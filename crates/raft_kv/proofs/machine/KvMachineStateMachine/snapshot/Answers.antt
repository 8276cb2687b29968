use Rattle.std.proofs.Common.{◌≡◌, ◌∙◌, IfOk, List, ℕ, ap, sym, subst}
use Rattle.raft_kv.specs.Machine.{state_of}
use Rattle.raft_kv.proofs.Maps.{tree_state}
use Rattle.raft_kv.proofs.machine.KvMachineStateMachine.snapshot.Goals as goal

pub returns : goal.returns
returns c =
    let is : c.as_slice.result.now ≡ state_of c.args.self.now =
    c.as_slice.ensures.value ∙ c.in_ok-bytes.ensures ∙ sym (tree_state c.self.inside.pairs c.self.invariant) ∙ ap state_of c.self.view_is in
    subst (λ (bytes : List ℕ). IfOk c.from_slice.result (λ b. b ≡ bytes)) is c.from_slice.ensures
