-- None of the log ids so far is the leader's.
use Rattle.std.proofs.Common.{◌≡◌, drop}
use Rattle.std.specs.List.{find}
use Rattle.raft_leaders.specs.Leader.{is_of_leader}
use Rattle.raft_leaders.proofs.leader.first_log_id.Given as goal

abbrev pub invariant-loop-id : goal.invariant-loop-id
invariant-loop-id g l = find (is_of_leader g.NID.PartialEq.eq l.leader_id) l.ids ≡ find (is_of_leader g.NID.PartialEq.eq l.leader_id) (drop l.id-index l.ids)
