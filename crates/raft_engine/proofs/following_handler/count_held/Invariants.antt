use Rattle.std.proofs.Common.{◌≡◌, drop}
use Rattle.raft_values.specs.LogId.{place_of}
use Rattle.raft_group_step.specs.StoredGroup.{StoredGroup}
use Rattle.raft_known_state.specs.KnownState.{IsPlaced, Knows}
use Rattle.raft_engine.specs.Following.{unheld_entries}
use Rattle.raft_engine.proofs.following_handler.count_held.Given as goal

abbrev pub invariant-loop-at : goal.invariant-loop-at
invariant-loop-at l =
    (s : StoredGroup) → Knows l.known s → IsPlaced s
    → unheld_entries s (place_of l.known.state.committed) l.entries ≡ unheld_entries s (place_of l.known.state.committed) (drop l.at l.entries)
