use Rattle.std.proofs.Common.{rules}
use Rattle.std.specs.BTreeMap.{get}
use Rattle.std.specs.Ordering.{nat_cmp}
use Rattle.raft_log_tools.proofs.ToldLemmas.{told_of_both}
use Rattle.raft_log_tools.proofs.telling.told_by_both.Goals as goal

pub returns : goal.returns
returns c = told_of_both c.all_told.result (get nat_cmp c.new-told.result) (get nat_cmp c.put_all.new.told) (get nat_cmp c.put_all-2.new.told) c.args.first.now c.args.second.now
    (λ n. search rules) c.in_ok-put_all.ensures c.in_ok-put_all-2.ensures c.all_told.ensures
