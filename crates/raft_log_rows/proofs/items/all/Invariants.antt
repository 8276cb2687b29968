use Rattle.raft_log_items.specs.Items.{IsReading}
use Rattle.raft_log_rows.proofs.items.all.Given as goal

abbrev pub invariant-loop : goal.invariant-loop
invariant-loop g l = IsReading l.reader (g.F.FileSystem.disk l.files)
