use Rattle.std.proofs.Common.{◌≡◌, ◌<◌, ◌≤◌, length, get_or, arith, subst, ap, sym, ◌∙◌}
use Rattle.std.proofs.lemmas.List.Sorted.{IsPermutation-map}
use Rattle.std.specs.Prelude.{IsPermutation, map}
use Rattle.std.specs.String.{string_bytes}
use Rattle.raft_log_disk.proofs.FilesLemmas.{listed_more, all_listed}
use Rattle.raft_log_disk.proofs.memory_calls.MemoryFileSystemFileSystem.list.Goals as goal

pub loop-file-preserved : goal.loop-file-preserved
loop-file-preserved c =
    let files = c.args.self.now.files.items in
    let whole = c.deref-file-items.ensures.value in
    let lt : c.loop-file.file-index < length c.args.self.now.files.items = omega (arith, ap length whole, c.loop-file-test.true) in
    listed_more files c.loop-file.file-index c.file-item.result _ _ _ _ c.loop-file.invariant lt (c.file-item.is ∙ ap (λ l. get_or l c.loop-file.file-index c.file-item.result) whole) c.as_str.ensures.value c.in_ok-push_name.ensures

pub returns-clause-names : goal.returns-clause-names
returns-clause-names c =
    let end : length c.args.self.now.files.items ≤ c.loop-file.file-index = omega (arith, ap length c.deref-file-items.ensures.value, c.loop-file-test.false) in
    subst (λ l. IsPermutation l (map string_bytes c.sort.new.self.items)) (sym (all_listed c.args.self.now.files.items c.loop-file.file-index c.args.directory.now _ c.loop-file.invariant end)) (IsPermutation-map string_bytes _ _ c.in_ok-sort.ensures.permutation)
