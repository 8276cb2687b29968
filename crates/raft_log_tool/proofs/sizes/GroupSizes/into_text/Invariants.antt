use Rattle.std.proofs.Common.{◌≡◌, ◌++◌, string_bytes}
use Rattle.std.specs.List.{flat_map}
use Rattle.raft_log_tool.specs.Sizes.{group_text}
use Rattle.raft_log_tool.proofs.sizes.GroupSizes.into_text.Given as goal

abbrev pub invariant-loop-group : goal.invariant-loop-group
invariant-loop-group l = string_bytes l.text ++ flat_map group_text l.group-iterator ≡ flat_map group_text l.fn.self.groups.entries
