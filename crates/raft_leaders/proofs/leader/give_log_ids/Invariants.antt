-- The first so many have been given log ids.
use Rattle.std.proofs.Common.{◌≡◌}
use Rattle.raft_leaders.proofs.GivenLemmas.{given}
use Rattle.raft_leaders.proofs.leader.give_log_ids.Given as goal

abbrev pub invariant-loop-at : goal.invariant-loop-at
invariant-loop-at g l = l.entries ≡ given g.LID.RaftLogId.with_id l.leader_id l.at l.first l.initial.entries
