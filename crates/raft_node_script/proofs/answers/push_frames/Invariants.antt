-- Those so far stand behind the text.
use Rattle.std.proofs.Common.{◌≡◌, ◌++◌, take}
use Rattle.std.specs.Prelude.{string_bytes}
use Rattle.raft_node_script.specs.Answers.{frames_text}
use Rattle.raft_node_script.proofs.answers.push_frames.Given as goal

abbrev pub invariant-loop-frame : goal.invariant-loop-frame
invariant-loop-frame l = string_bytes l.text ≡ string_bytes l.initial.text ++ frames_text (take l.frame-index l.frames)
