use Rattle.std.proofs.Common.{◌≡◌, ◌+◌, drop}
use Rattle.std.specs.List.{prefix_len}
use Rattle.raft_log_disk.specs.Name.{is_digit}
use Rattle.raft_log_files.proofs.number.digits_len.Given as goal

abbrev pub invariant-loop-byte : goal.invariant-loop-byte
invariant-loop-byte l = record {
  len : l.len ≡ l.byte-index;
  rest : prefix_len is_digit l.text ≡ l.byte-index + prefix_len is_digit (drop l.byte-index l.text);
}
