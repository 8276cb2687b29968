-- Those so far stand behind the text.
use Rattle.std.proofs.Common.{◌≡◌, ◌++◌, take}
use Rattle.std.specs.List.{flat_map}
use Rattle.std.specs.Prelude.{string_bytes}
use Rattle.raft_cluster_script.proofs.answers.push_told.Given as goal

abbrev pub invariant-loop-one : goal.invariant-loop-one
invariant-loop-one g l = string_bytes l.text ≡ string_bytes l.initial.text ++ flat_map g.M.ScriptMachine.speech.shows (take l.one-index l.told)
