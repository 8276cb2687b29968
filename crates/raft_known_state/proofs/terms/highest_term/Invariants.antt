use Rattle.std.proofs.Common.{◌≤◌, take}
use Rattle.raft_known_state.specs.KnownState.{AreUpToTerm, entry_ids}
use Rattle.raft_known_state.proofs.terms.highest_term.Given as goal

abbrev pub invariant-loop-entry : goal.invariant-loop-entry
invariant-loop-entry l = (l.term ≤ l.highest) × AreUpToTerm l.highest (entry_ids (take l.entry-index l.entries))
