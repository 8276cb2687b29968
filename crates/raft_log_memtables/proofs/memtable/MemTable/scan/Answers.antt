use Rattle.std.proofs.Common.{ap, ◌∙◌}
use Rattle.std.specs.Option.{option_copied}
use Rattle.std.specs.Map.Iter.{deref_pair}
use Rattle.raft_log_memtables.specs.MemTable.{group_in, value_of}
use Rattle.raft_log_memtables.proofs.Scanning.{rising_scan, falling_scan}
use Rattle.raft_log_memtables.proofs.memtable.MemTable.scan.Goals as goal
use Rattle.raft_log_memtables.proofs.memtable.MemTable.scan.Goals.{then-reverse, else-reverse}

pub returns : goal.returns
unfolding group_in
returns c =
    elim c.if-reverse.branch [
      | then-reverse w ↦ falling_scan (value_of c.args.self.now.keys) (option_copied c.args.start) (option_copied c.args.end) deref_pair c.args.reverse c.in_ok-found.found.items c.if-reverse.found.items w.if-reverse.true (ap (λ v. v.items) w.found-is ∙ w.reverse.ensures.items) c.in_ok-found.ensures
      | else-reverse w ↦ rising_scan (value_of c.args.self.now.keys) (option_copied c.args.start) (option_copied c.args.end) deref_pair c.args.reverse c.in_ok-found.found.items c.if-reverse.found.items w.if-reverse.false (ap (λ v. v.items) w.found-is) c.in_ok-found.ensures
    ]
