use Rattle.std.proofs.Common.{◌≡◌, rules, length, ◌∙◌}
use Rattle.std.specs.Ordering.{nat_cmp}
use Rattle.std.specs.BTreeMap.Range.{entries_between}
use Rattle.std.specs.declared.ops.Bound.TheVariants.{Excluded, Unbounded}
use Rattle.raft_log_memtables.proofs.Counting.{counted_before}
use Rattle.raft_log_memtables.proofs.entries.count_before.Goals as goal

pub returns : goal.returns
returns c =
    let e : c.count.result ≡ length (entries_between nat_cmp Unbounded (Excluded c.args.limit) c.args.entries.now.entries) = search rules in
    e ∙ counted_before c.args.entries.now c.args.limit c.range.ensures.ordered
