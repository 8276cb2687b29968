use Rattle.std.proofs.Common.{◌≡◌, ℕ, inr, ap, subst}
use Rattle.std.proofs.lemmas.Result.{err_from_is_err_and}
use Rattle.raft_log_disk.specs.declared.fault.Fd.{Fd}
use Rattle.raft_log_file.specs.Errors.{IsReadFault}
use Rattle.raft_log_items.proofs.ItemLemmas.{only_unread}
use Rattle.raft_log_items.proofs.reader.LogItemReader.begin.Goals as goal

pub returns-in_err-open-clause-err : goal.returns-in_err-open-clause-err
returns-in_err-open-clause-err g c =
    let d = g.F.FileSystem.disk c.args.files.now in
    let m = g.F.FileSystem.meter c.args.files.now in
    let e = c.in_err-open.field-0.0 in
    let fd : c.build_file_reader-reader.result.fd.0 ≡ c.args.fd.0 = ap (λ (x : Fd). x.0) c.build_file_reader-reader.ensures in
    let p = err_from_is_err_and c.from_residual-in_err-open.result c.from_residual-in_err-open.ensures.1 in
    rw (p.1, p.2) (inr (subst (λ (n : ℕ). IsReadFault d m n e) fd (only_unread d m c.build_file_reader-reader.result.fd.0 c.in_ok-format.format e c.in_ok-format.ensures c.in_err-open.ensures.err)))
