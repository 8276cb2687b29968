use Rattle.std.proofs.Common.{ap}
use Rattle.std.specs.Option.{option_copied}
use Rattle.raft_log_records.specs.declared.item.EntryIndex.{EntryIndex}
use Rattle.raft_log_memtables.specs.Content.{GroupContent}
use Rattle.raft_log_memtables.proofs.Scanning.{no_keys}
use Rattle.raft_log_memtables.proofs.memtables.MemTables.scan.Goals as goal

pub returns-in-None : goal.returns-in-None
returns-in-None c = rw c.new.ensures.items (no_keys _ (option_copied c.args.start) (option_copied c.args.end) c.args.reverse (ap (λ (g : GroupContent EntryIndex). g.value) c.in-None.ensures))
