-- Those so far stand behind the text.
use Rattle.std.proofs.Common.{◌≡◌, ◌++◌, take}
use Rattle.std.specs.Prelude.{string_bytes}
use Rattle.raft_node_script.specs.Answers.{sent_text}
use Rattle.raft_node_script.proofs.answers.push_sent.Given as goal

abbrev pub invariant-loop-outcome : goal.invariant-loop-outcome
invariant-loop-outcome l = string_bytes l.text ≡ string_bytes l.initial.text ++ sent_text (take l.outcome-index l.outcomes)
