use Rattle.std.proofs.Common.{ℕ, List, ◌++◌, string_bytes, ap, ◌∙◌}
use Rattle.raft_log_disk.specs.Name.{digits}
use Rattle.raft_log_files.proofs.DigitLemmas.{suffixed_from}
use Rattle.raft_log_files.proofs.file_name.with_suffix.Goals as goal

pub returns : goal.returns
returns c =
    suffixed_from c.args.seq (string_bytes c.push_digits.new.text) c.args.suffix.now (string_bytes c.push_str.new.self) c.in_ok-push_str.ensures.bytes
    (c.in_ok-push_digits.ensures ∙ ap (λ (b : List ℕ). b ++ digits 16 c.args.seq) c.new-name.ensures.bytes)
