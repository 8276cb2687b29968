use Rattle.std.proofs.Common.{◌≡◌, drop}
use Rattle.raft_script_lines.specs.Words.{has_twice}
use Rattle.raft_script_lines.proofs.id_list.has_twice.Given as goal

abbrev pub invariant-loop-place : goal.invariant-loop-place
invariant-loop-place l = has_twice l.ids ≡ has_twice (drop l.place l.ids)
