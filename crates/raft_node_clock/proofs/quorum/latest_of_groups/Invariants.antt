-- It is the latest moment of the groups so far.
use Rattle.std.proofs.Common.{◌∷◌, take}
use Rattle.raft_node_clock.specs.Heard.{heard_at}
use Rattle.raft_node_clock.specs.Quorum.{IsLatestQuorum}
use Rattle.raft_node_clock.proofs.quorum.latest_of_groups.Given as goal

abbrev pub invariant-loop-group : goal.invariant-loop-group
invariant-loop-group l = IsLatestQuorum (l.fn.first ∷ take l.group-index l.others) (heard_at l.own l.now l.heards) l.latest
