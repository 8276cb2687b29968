use Rattle.std.proofs.Common.{inl, inr, ap, ◌∙◌, length, arith}
use Rattle.raft_log_file.specs.Writer.{Begins}
use Rattle.raft_log_file.proofs.HeaderLemmas.{length-header}
use Rattle.raft_log_file.proofs.WriterLemmas.{appended_as}
use Rattle.raft_log_file.proofs.writer.build_file_writer.Goals as goal
use Rattle.raft_log_file.proofs.writer.build_file_writer.Goals.{then-size-encoded_len-via-then-size-encoded_len, then-size-encoded_len-via-else-size-encoded_len+then-force_reset}

pub returns-in-Err-clause-opens : goal.returns-in-Err-clause-opens
returns-in-Err-clause-opens g c =
    let begins : Begins (g.F.FileSystem.disk c.args.files.now) c.args.fd.0 c.args.format c.args.force_reset =
    elim c.then-size-encoded_len.branch [
      | then-size-encoded_len-via-then-size-encoded_len w ↦ inl (omega (arith, w.if-size-encoded_len.true, c.in_ok-size.ensures.bytes, c.encoded_len.ensures))
      | then-size-encoded_len-via-else-size-encoded_len+then-force_reset w ↦ inr w.if-force_reset.true
    ] in
    inr (begins, appended_as _ _ _ _ _ _ _ _ _ c.in_ok-size.ensures.bytes c.deref.ensures.value c.in_ok-header.ensures c.in-Err.ensures.writes)

pub returns-in_default-clause-opens : goal.returns-in_default-clause-opens
returns-in_default-clause-opens g c =
    let begins : Begins (g.F.FileSystem.disk c.args.files.now) c.args.fd.0 c.args.format c.args.force_reset =
    elim c.then-size-encoded_len.branch [
      | then-size-encoded_len-via-then-size-encoded_len w ↦ inl (omega (arith, w.if-size-encoded_len.true, c.in_ok-size.ensures.bytes, c.encoded_len.ensures))
      | then-size-encoded_len-via-else-size-encoded_len+then-force_reset w ↦ inr w.if-force_reset.true
    ] in
    inr (
      begins,
      appended_as _ _ _ _ _ _ _ _ _ c.in_ok-size.ensures.bytes c.deref.ensures.value c.in_ok-header.ensures c.in_default.ensures.writes,
      omega (arith, c.in_default.ensures.ok, ap length (c.deref.ensures.value ∙ c.in_ok-header.ensures), length-header c.args.format),
    )
