-- How many times in a row groups were told to compact and left alone.
use Rattle.std.specs.Prelude.{ℕ, unwrap_or}
use Rattle.std.specs.BTreeMap.{get}
use Rattle.std.specs.Ordering.{nat_cmp}
use Rattle.raft_log_purge.specs.declared.reports.Reports.{Reports}

-- of a group
unfoldable pub count_in : Reports → ℕ → ℕ
count_in reports group = unwrap_or (get nat_cmp reports.counts group) 0
