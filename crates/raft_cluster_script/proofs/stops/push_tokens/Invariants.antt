-- Those so far stand behind the others.
use Rattle.std.proofs.Common.{◌≡◌, ◌++◌, take, map}
use Rattle.raft_machines.specs.declared.telling.Untold.{Untold}
use Rattle.raft_cluster_script.proofs.stops.push_tokens.Given as goal

abbrev pub invariant-loop-one : goal.invariant-loop-one
invariant-loop-one l = l.all.items ≡ l.initial.all.items ++ map (λ (one : Untold). one.token) (take l.one-index l.tokens)
