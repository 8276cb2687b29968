use Rattle.std.proofs.Common.{◌≡◌, Some, ap, sym, subst, ◌∙◌, string_bytes}
use Rattle.std.proofs.lemmas.Result.{err_from_is_err_and}
use Rattle.raft_log_disk.specs.Disk.{fd_of}
use Rattle.raft_log_disk.specs.Text.{Text}
use Rattle.raft_log_items.specs.Items.{IsUnopened, items_at}
use Rattle.raft_log_items.proofs.ItemLemmas.{fails_open, fails_unopened}
use Rattle.raft_log_items.proofs.reader.LogItemReader.open.Goals as goal

pub returns-in_err-fd-clause-err : goal.returns-in_err-fd-clause-err
returns-in_err-fd-clause-err g c =
    let d = g.F.FileSystem.disk c.open_file.new.files in
    let old = g.F.FileSystem.meter c.args.files.now in
    let new = g.F.FileSystem.meter c.open_file.new.files in
    let e = c.in_err-fd.field-0.0 in
    let p = err_from_is_err_and c.from_residual.result c.from_residual.ensures.1 in
    rw (p.1, p.2) (fails_unopened d old new c.args.file.id (string_bytes c.args.file.path) e (subst (λ (t : Text). IsUnopened d t old new e) c.as_str.ensures.value c.in_err-fd.ensures.err))

pub returns-in_err-begin-clause-err : goal.returns-in_err-begin-clause-err
returns-in_err-begin-clause-err g c =
    let d = g.F.FileSystem.disk c.open_file.new.files in
    let e = c.in_err-begin.field-0.0 in
    let named : fd_of d.names (string_bytes c.args.file.path) ≡ Some c.in_ok-fd.fd.0 = ap (λ (t : Text). fd_of d.names t) (sym c.as_str.ensures.value) ∙ c.in_ok-fd.ensures.ok in
    let p = err_from_is_err_and c.from_residual-in_err-begin.result c.from_residual-in_err-begin.ensures.1 in
    rw (p.1, p.2) (fails_open d (g.F.FileSystem.meter c.args.files.now) (g.F.FileSystem.meter c.open_file.new.files) c.args.file.id (string_bytes c.args.file.path) c.in_ok-fd.fd.0 e named c.in_err-begin.ensures.err)

pub returns-clause-ok : goal.returns-clause-ok
returns-clause-ok g c =
    let d = g.F.FileSystem.disk c.open_file.new.files in
    let named : fd_of d.names (string_bytes c.args.file.path) ≡ Some c.in_ok-fd.fd.0 = ap (λ (t : Text). fd_of d.names t) (sym c.as_str.ensures.value) ∙ c.in_ok-fd.ensures.ok in
    c.in_ok-begin.ensures.ok ∙ ap (items_at d c.args.file.id) (sym named)
