-- The head is known first, and then the log behind it.
use Rattle.std.proofs.Common.{ap, subst, sym, refl, []}
use Rattle.raft_group_step.specs.StoredGroup.{StoredGroup}
use Rattle.raft_known_state.specs.KnownState.{Knows}
use Rattle.raft_known_state.proofs.KnownStateLemmas.{placed_behind}
use Rattle.raft_known_state.proofs.known_state.KnownState+u64+BasicNode.load.Goals as goal

pub returns-clause-known : goal.returns-clause-known
returns-clause-known c = λ s vote gone snapshot log p.
    let head : StoredGroup = record s { log = [] } in
    let known = c.in_ok-known.ensures.known head vote gone snapshot refl in
    subst (Knows c.append.new.self) (ap (λ es. record s { log = es }) (sym log))
    (c.in_ok-append.ensures.grown head known tt (placed_behind s c.args.entries.now log p))
