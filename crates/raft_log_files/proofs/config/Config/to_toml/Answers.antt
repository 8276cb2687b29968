use Rattle.std.proofs.Common.{◌≤◌, arith}
use Rattle.toml.specs.Data.{members_depth}
use Rattle.toml.specs.View.{table_view}
use Rattle.raft_log_files.proofs.config.Config.to_toml.Goals as goal

pub returns-in-Ok-clause-ok : goal.returns-in-Ok-clause-ok
returns-in-Ok-clause-ok c =
    let ms = table_view c.in_ok-table.table in
    let flat : members_depth ms ≤ 80 = omega (arith, c.in_ok-table.ensures.flat) in
    (ms, c.in-Ok.ensures.reads_back flat, c.in_ok-table.ensures.given)
