use Rattle.std.proofs.Common.{◌≡◌, map, take}
use Rattle.raft_log_tool.specs.declared.span.FileSize.{FileSize}
use Rattle.raft_log_tool.specs.Lines.{sum_of}
use Rattle.raft_log_tool.proofs.span.all_bytes.Given as goal

abbrev pub invariant-loop-size : goal.invariant-loop-size
invariant-loop-size l = l.total ≡ sum_of (map (λ (s : FileSize). s.bytes) (take l.size-index l.sizes))
