use Rattle.std.proofs.Common.{◌≡◌, ◌-◌, List, length, Some, sym, ap, ◌∙◌}
use Rattle.std.specs.Prelude.{option_to_list, slice_get}
use Rattle.std.specs.Option.{option_copied}
use Rattle.raft_log_records.specs.declared.item.EntryIndex.{EntryIndex}
use Rattle.raft_log_records.specs.declared.item.LogItemContent.{LogItemContent}
use Rattle.raft_log_records.specs.Item.{change_of}
use Rattle.raft_log_items.specs.Holes.{bounds_in, span_in}
use Rattle.raft_log_items.proofs.HoleLemmas.{entries_told}
use Rattle.raft_log_items.proofs.checker.span_of.Goals as goal

pub returns-in-Some-Some : goal.returns-in-Some-Some
returns-in-Some-Some c =
    let es = c.in-EntryIndexes.entries.items in
    let begins : slice_get es 0 ≡ Some c.in-Some-Some.first.now =
    ap (λ (l : List EntryIndex). slice_get l 0) (sym c.deref.ensures.value) ∙ sym c.first.ensures.value ∙ ap option_copied c.in-Some-Some.is-0 in
    let ends : slice_get es (length es - 1) ≡ Some c.in-Some-Some.last.now =
    ap (λ (l : List EntryIndex). slice_get l (length l - 1)) (sym c.deref-in-EntryIndexes.ensures.value) ∙ sym c.last.ensures.value ∙ ap option_copied c.in-Some-Some.is-1 in
    entries_told es c.in-Some-Some.first.now c.in-Some-Some.last.now begins ends
    ∙ ap (λ (content : LogItemContent). span_in (option_to_list (bounds_in (change_of content)))) (sym c.in-EntryIndexes.is)
