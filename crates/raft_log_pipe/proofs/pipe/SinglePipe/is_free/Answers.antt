use Rattle.std.proofs.Common.{◌≡◌, true, false, sym, ap, subst, ◌∙◌}
use Rattle.std.specs.Prelude.{not}
use Rattle.raft_log_disk.specs.Text.{Text}
use Rattle.raft_log_disk.specs.Disk.{IsIn}
use Rattle.raft_log_pipe.specs.Alone.{directories_of_pipe}
use Rattle.raft_log_pipe.proofs.AloneLemmas.{mapped_at}
use Rattle.raft_log_pipe.proofs.PrefillLemmas.{found_free, free_file}
use Rattle.raft_log_pipe.proofs.pipe.SinglePipe.is_free.Goals as goal

pub returns-clause-yes : goal.returns-clause-yes
returns-clause-yes g c =
    let p = c.args.self.now in
    let d = g.F.FileSystem.disk c.args.files.now in
    let at = c.as_str-directory.ensures.value ∙ sym (mapped_at p.paths.items c.args.file.path_id c.index.result.now c.requires c.index.ensures) in
    let same : c.as_str-2.result.now ≡ c.as_str.result.now = c.as_str-2.ensures.value ∙ sym c.as_str.ensures.value in
    let no : c.is_dir-2.result ≡ false = c.if-is_dir.false in
    λ yes.
    found_free (directories_of_pipe p) d c.args.file c.as_str-2.result.now c.as_str-directory.result.now (c.as_str-2.ensures.value ∙ c.in_ok-path.ensures) at
    (c.is_file_seq.ensures.0 c.if-not-is_file_seq.false) (c.is_dir.ensures.yes c.if-not-is_dir.false)
    (λ x. let is : c.is_dir-2.result ≡ true = c.is_dir-2.ensures.no (subst (λ (t : Text). IsIn t d.directories) same x) in absurd cc)
    (ap not (sym c.is_file.ensures) ∙ yes)

pub returns-clause-no : goal.returns-clause-no
returns-clause-no g c =
    let p = c.args.self.now in
    let d = g.F.FileSystem.disk c.args.files.now in
    let at = c.as_str-directory.ensures.value ∙ sym (mapped_at p.paths.items c.args.file.path_id c.index.result.now c.requires c.index.ensures) in
    λ free. ap not c.is_file.ensures ∙ free_file (directories_of_pipe p) d c.args.file c.as_str-2.result.now c.as_str-directory.result.now (c.as_str-2.ensures.value ∙ c.in_ok-path.ensures) at free
