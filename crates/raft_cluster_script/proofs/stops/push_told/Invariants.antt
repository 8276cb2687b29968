-- Those so far stand behind the others.
use Rattle.std.proofs.Common.{◌≡◌, ◌++◌, take, map}
use Rattle.raft_machines.specs.declared.telling.Told.{Told}
use Rattle.raft_cluster_script.proofs.stops.push_told.Given as goal

abbrev pub invariant-loop-one : goal.invariant-loop-one
invariant-loop-one l = l.all.items ≡ l.initial.all.items ++ map (λ (one : Told). one.token) (take l.one-index l.told)
