use Rattle.std.proofs.Common.{◌≡◌, ◌++◌, ◌-◌, length, Some, codes, refl, sym, ap, ◌∙◌, append_assoc}
use Rattle.std.specs.Prelude.{slice_get, string_bytes}
use Rattle.std.specs.Option.{option_copied}
use Rattle.raft_log_disk.specs.Text.{Text}
use Rattle.raft_log_contents.specs.Endings.{named}
use Rattle.raft_log_tool.proofs.LineLemmas.{are_files, files_said, three}
use Rattle.raft_log_tool.proofs.span.push_span.Goals as goal

pub returns-in_ok-push_named-in-Some-Some-4 : goal.returns-in_ok-push_named-in-Some-Some-4
returns-in_ok-push_named-in-Some-Some-4 c =
    let sizes = c.args.sizes.now in
    let first = c.in-Some-Some.first.now in
    let last = c.in-Some-Some.last.now in
    let t0 : Text = string_bytes c.args.text.now in
    let begins : slice_get sizes 0 ≡ Some first = sym c.first.ensures.value ∙ ap option_copied c.in-Some-Some.is-0 in
    let ends : slice_get sizes (length sizes - 1) ≡ Some last = sym c.last.ensures.value ∙ ap option_copied c.in-Some-Some.is-1 in
    c.in_ok-push_named-in-Some-Some-4.ensures
    ∙ ap (λ (t : Text). t ++ named (codes " bytes ") c.all_bytes.result) (three t0 _ _ _ _ _ _ c.in_ok-push_named-in-Some-Some.ensures c.in_ok-push_named-in-Some-Some-2.ensures c.in_ok-push_named-in-Some-Some-3.ensures)
    ∙ append_assoc t0 ((named (codes " from ") first.seq ++ named (codes " to ") last.seq) ++ named (codes " files ") (length sizes)) (named (codes " bytes ") c.all_bytes.result)
    ∙ ap (λ (t : Text). t0 ++ t) (files_said sizes first last (length sizes) c.all_bytes.result (are_files sizes first last begins ends) refl c.all_bytes.ensures)
