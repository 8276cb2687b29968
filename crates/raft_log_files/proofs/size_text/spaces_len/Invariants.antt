use Rattle.std.proofs.Common.{◌≡◌, ◌+◌, drop}
use Rattle.std.specs.List.{prefix_len}
use Rattle.raft_log_files.specs.Size.{is_space}
use Rattle.raft_log_files.proofs.size_text.spaces_len.Given as goal

abbrev pub invariant-loop-byte : goal.invariant-loop-byte
invariant-loop-byte l = record {
  len : l.len ≡ l.byte-index;
  rest : prefix_len is_space l.text ≡ l.byte-index + prefix_len is_space (drop l.byte-index l.text);
}
