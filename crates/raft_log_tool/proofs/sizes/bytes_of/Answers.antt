use Rattle.std.proofs.Common.{◌≡◌, List, sym, ap, ◌∙◌, map, ℕ, Some}
use Rattle.raft_log_records.specs.declared.item.EntryIndex.{EntryIndex}
use Rattle.raft_log_records.specs.declared.item.LogItemContent.{LogItemContent}
use Rattle.raft_log_records.specs.Item.{change_of}
use Rattle.raft_log_tool.specs.Lines.{sum_of}
use Rattle.raft_log_tool.specs.Sizes.{bytes_in}
use Rattle.raft_log_tool.proofs.LineLemmas.{lengths_told}
use Rattle.raft_log_tool.proofs.sizes.bytes_of.Goals as goal

pub returns-in-EntryIndexes : goal.returns-in-EntryIndexes
returns-in-EntryIndexes c =
    let es = c.in-EntryIndexes.entries.items in
    let all : c.entries_len.result ≡ sum_of (map (λ (x : ℕ × EntryIndex). x.1.entry_len) (map (λ e. (e.index, e)) es)) =
    c.entries_len.ensures ∙ ap (λ (l : List EntryIndex). sum_of (map (λ (e : EntryIndex). e.entry_len) l)) c.deref.ensures.value ∙ ap sum_of (sym (lengths_told es)) in
    (λ i. Some (record { entries = all i; keys = 0 })) ∙ ap (λ (content : LogItemContent). bytes_in (change_of content)) (sym c.in-EntryIndexes.is)
