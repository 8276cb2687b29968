use Rattle.std.proofs.Common.{◌≡◌, ◌++◌, List, rules, ap, subst, ◌∙◌, drop}
use Rattle.std.specs.Prelude.{IsPermutation}
use Rattle.std.proofs.lemmas.List.Sorted.{IsNonDecreasingBy-from_sort_by_key}
use Rattle.raft_log_recovery.specs.declared.scan.FileName.{FileName}
use Rattle.raft_log_recovery.specs.Scan.{IsLastRun}
use Rattle.raft_log_recovery.proofs.ScanLemmas.{rest_of}
use Rattle.raft_log_tools.proofs.found.found_files.Goals as goal

pub returns-clause-ok : goal.returns-clause-ok
returns-clause-ok g c =
    let found = c.in_ok-add_directories.ensures.ok in
    let sorted = c.sort_by_key.new.self.items in
    let all_are : c.add_directories.new.found.items ≡ found.0 = found.1 ∙ ap (λ (l : List FileName). l ++ found.0) c.new-found.ensures.items in
    record {
      all = found.0;
      sorted = sorted;
      start = c.last_run-start.result;
      in_directories = found.2;
      same = subst (λ (l : List FileName). IsPermutation l sorted) all_are c.in_ok-sort_by_key.ensures.permutation;
      rising = IsNonDecreasingBy-from_sort_by_key (λ (f : FileName). f.seq) sorted c.in_ok-sort_by_key.ensures.sorted (λ a r q k. search rules);
      last = subst (λ (l : List FileName). IsLastRun l c.last_run-start.result) c.deref.ensures.value c.last_run-start.ensures.run;
      rest = c.in_ok-run.ensures.items ∙ rest_of c.deref-2.result.now c.last_run-start.result ∙ ap (λ (l : List FileName). drop c.last_run-start.result l) c.deref-2.ensures.value;
    }
