use Rattle.std.proofs.Common.{◌≡◌, ◌++◌, string_bytes, take}
use Rattle.std.specs.List.{flat_map}
use Rattle.raft_script_answers.specs.Answer.{unknown_text}
use Rattle.raft_script_answers.proofs.answer.push_unknown.Given as goal

abbrev pub invariant-loop-token : goal.invariant-loop-token
invariant-loop-token l = string_bytes l.text ≡ string_bytes l.initial.text ++ flat_map unknown_text (take l.token-index l.unknown)
