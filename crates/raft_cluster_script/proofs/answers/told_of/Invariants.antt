-- Those so far stand one behind the other.
use Rattle.std.proofs.Common.{◌≡◌, take}
use Rattle.std.specs.Prelude.{string_bytes}
use Rattle.raft_cluster_script.specs.Answers.{told_of}
use Rattle.raft_cluster_script.proofs.answers.told_of.Given as goal

abbrev pub invariant-loop-part : goal.invariant-loop-part
invariant-loop-part g l = string_bytes l.text ≡ told_of g.M.ScriptMachine.speech.shows (take l.part-index l.parts)
