use Rattle.std.proofs.Common.{◌≡◌, min, length, take, arith, ap, sym, ◌∙◌}
use Rattle.raft_log_disk.proofs.ByteLemmas.{take_least}
use Rattle.raft_log_disk.proofs.memory_file.MemoryFile.front.Goals as goal

pub returns : goal.returns
returns c =
    let short : c.min-len.result ≡ min 69 (length c.args.self.now.bytes.items) = omega (arith, c.min-len.ensures, c.len.ensures) in
    c.in_ok-front.ensures.items ∙ ap (take c.min-len.result) c.deref.ensures.value ∙ ap (λ n. take n c.args.self.now.bytes.items) short ∙ sym (take_least 69 c.args.self.now.bytes.items)
