-- Those so far stand behind the others.
use Rattle.std.proofs.Common.{◌≡◌, ◌++◌, take, map}
use Rattle.raft_cluster_script.specs.Answers.{shown_number}
use Rattle.raft_cluster_script.proofs.answers.push_numbers.Given as goal

abbrev pub invariant-loop-one : goal.invariant-loop-one
invariant-loop-one l = l.all.items ≡ l.initial.all.items ++ map shown_number (take l.one-index l.numbers)
