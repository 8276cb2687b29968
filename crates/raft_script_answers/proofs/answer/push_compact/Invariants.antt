use Rattle.std.proofs.Common.{◌≡◌, ◌++◌, string_bytes, take}
use Rattle.std.specs.List.{flat_map}
use Rattle.raft_script_answers.specs.Answer.{compact_text}
use Rattle.raft_script_answers.proofs.answer.push_compact.Given as goal

abbrev pub invariant-loop-group : goal.invariant-loop-group
invariant-loop-group l = string_bytes l.text ≡ string_bytes l.initial.text ++ flat_map compact_text (take l.group-index l.groups)
