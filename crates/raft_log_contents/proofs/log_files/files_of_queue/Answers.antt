use Rattle.std.proofs.Common.{◌≡◌, List, map, string_bytes, rules, ap, subst, ◌∙◌}
use Rattle.std.specs.Prelude.{IsPermutation}
use Rattle.std.proofs.lemmas.List.Sorted.{IsNonDecreasingBy-from_sort_by_key, IsPermutation-map}
use Rattle.raft_log_contents.specs.declared.log_files.LogFile.{LogFile}
use Rattle.raft_log_items.specs.Found.{Found, log_files}
use Rattle.raft_log_contents.specs.Content.{found_of}
use Rattle.raft_log_contents.proofs.FoundLemmas.{rising_found}
use Rattle.raft_log_contents.proofs.log_files.files_of_queue.Goals as goal

pub returns-clause-ok : goal.returns-clause-ok
returns-clause-ok g c =
    let sorted = c.sort_by_key.new.self.items in
    let named : map found_of c.in_ok-found.found.items ≡ log_files c.args.queue c.args.directory.now (map string_bytes c.in_ok-names.names.items)
    = c.in_ok-found.ensures ∙ ap (λ (l : List _). log_files c.args.queue c.args.directory.now (map string_bytes l)) c.deref.ensures.value in
    record {
      names = map string_bytes c.in_ok-names.names.items;
      listed_are = c.in_ok-names.ensures.names;
      all = subst (λ (l : List Found). IsPermutation l (map found_of sorted)) named (IsPermutation-map found_of c.in_ok-found.found.items sorted c.in_ok-sort_by_key.ensures.permutation);
      rising = rising_found sorted (IsNonDecreasingBy-from_sort_by_key (λ (f : LogFile). f.id.seq) sorted c.in_ok-sort_by_key.ensures.sorted (λ a r q k. search rules));
    }
