use Rattle.std.proofs.Common.{◌≡◌, ◌+◌, ◌≤◌, drop, length}
use Rattle.std.specs.List.{count_by}
use Rattle.raft_quorums.specs.Quorum.{each_once}
use Rattle.raft_quorums.proofs.quorum_set.is_majority_of_ids.Given as goal

abbrev pub invariant-loop-at : goal.invariant-loop-at
invariant-loop-at g l = record {
  few : l.total ≤ l.at;
  within : l.count ≤ l.total;
  all : l.total + length (each_once g.ID.PartialEq.eq (drop l.at l.ids)) ≡ length (each_once g.ID.PartialEq.eq l.ids);
  counted : l.count + count_by (g.S.HasId.has l.nodes) (each_once g.ID.PartialEq.eq (drop l.at l.ids))
      ≡ count_by (g.S.HasId.has l.nodes) (each_once g.ID.PartialEq.eq l.ids);
}
