use Rattle.std.proofs.Common.{drop}
use Rattle.raft_log_ids.specs.LogIdList.{AreKeys}
use Rattle.raft_log_ids.proofs.log_id_list.are_keys.Given as goal

abbrev pub invariant-loop-at : goal.invariant-loop-at
invariant-loop-at g l =
    (AreKeys g.NID.Ord.cmp l.keys → AreKeys g.NID.Ord.cmp (drop l.at l.keys))
    × (AreKeys g.NID.Ord.cmp (drop l.at l.keys) → AreKeys g.NID.Ord.cmp l.keys)
