use Rattle.std.proofs.Common.{◌≡◌, ◌++◌, take}
use Rattle.raft_known_state.specs.KnownState.{memberships_in}
use Rattle.raft_known_state.proofs.known_state.push_memberships.Given as goal

abbrev pub invariant-loop-entry : goal.invariant-loop-entry
invariant-loop-entry l = l.memberships ≡ l.initial.memberships ++ memberships_in (take l.entry-index l.entries)
