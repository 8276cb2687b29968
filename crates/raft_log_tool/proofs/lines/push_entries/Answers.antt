use Rattle.std.proofs.Common.{◌≡◌, ◌++◌, ◌-◌, length, Some, sym, ap, ◌∙◌}
use Rattle.std.specs.Prelude.{slice_get, string_bytes}
use Rattle.std.specs.Option.{option_copied}
use Rattle.raft_log_tool.proofs.LineLemmas.{are_entries, entries_said, three}
use Rattle.raft_log_tool.proofs.lines.push_entries.Goals as goal

pub returns-in_ok-push_named-in-Some-Some-3 : goal.returns-in_ok-push_named-in-Some-Some-3
returns-in_ok-push_named-in-Some-Some-3 c =
    let es = c.args.entries.now in
    let first = c.in-Some-Some.first.now in
    let last = c.in-Some-Some.last.now in
    let begins : slice_get es 0 ≡ Some first = sym c.first.ensures.value ∙ ap option_copied c.in-Some-Some.is-0 in
    let ends : slice_get es (length es - 1) ≡ Some last = sym c.last.ensures.value ∙ ap option_copied c.in-Some-Some.is-1 in
    three (string_bytes c.args.text.now) _ _ _ _ _ _ c.in_ok-push_named-in-Some-Some.ensures c.in_ok-push_named-in-Some-Some-2.ensures c.in_ok-push_named-in-Some-Some-3.ensures
    ∙ ap (λ t. string_bytes c.args.text.now ++ t) (entries_said es first last c.entries_len.result (are_entries es first last begins ends) c.entries_len.ensures)
