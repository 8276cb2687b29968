-- The keys so far, from the last one on, tell none of the leader's own between the places.
use Rattle.std.proofs.Common.{◌≡◌, ◌-◌, [], length, drop}
use Rattle.std.specs.Prelude.{filter}
use Rattle.raft_log_ids.specs.LogIdList.{ids_of}
use Rattle.raft_leaders.proofs.OwnLemmas.{is_own_within}
use Rattle.raft_leaders.proofs.accepted.last_own_within.Given as goal

abbrev pub invariant-loop-back : goal.invariant-loop-back
invariant-loop-back l = filter (is_own_within l.leader_id l.from l.below) (ids_of (drop (length l.keys - l.back) l.keys)) ≡ []
