use Rattle.std.proofs.Common.{◌≡◌, drop}
use Rattle.std.specs.List.{list_any}
use Rattle.raft_log_ids.specs.LogIdList.{ids_of}
use Rattle.raft_known_state.specs.KnownState.{is_of_leader_from}
use Rattle.raft_known_state.proofs.key_leaders.has_leader_from.Given as goal

abbrev pub invariant-loop-at : goal.invariant-loop-at
invariant-loop-at l =
    list_any (is_of_leader_from l.leader l.place) (ids_of l.keys) ≡ list_any (is_of_leader_from l.leader l.place) (ids_of (drop l.at l.keys))
