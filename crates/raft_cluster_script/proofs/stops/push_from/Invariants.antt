-- Those so far stand behind the others.
use Rattle.std.proofs.Common.{◌≡◌, ◌++◌, take}
use Rattle.raft_cluster_script.specs.Answers.{tokens_from}
use Rattle.raft_cluster_script.proofs.stops.push_from.Given as goal

abbrev pub invariant-loop-one : goal.invariant-loop-one
invariant-loop-one l = l.all.items ≡ l.initial.all.items ++ tokens_from l.group (take l.one-index l.unknown)
