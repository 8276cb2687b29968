use Rattle.std.proofs.Common.{◌≡◌, ◌++◌, string_bytes, take}
use Rattle.std.specs.List.{flat_map}
use Rattle.raft_log_tool.specs.Lines.{hole_text}
use Rattle.raft_log_tool.proofs.holes.push_holes.Given as goal

abbrev pub invariant-loop-hole : goal.invariant-loop-hole
invariant-loop-hole l = string_bytes l.text ≡ string_bytes l.initial.text ++ flat_map hole_text (take l.hole-index l.holes)
