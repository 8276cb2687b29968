-- When a group's log is to be made shorter.
use Rattle.std.specs.Prelude.{ℕ, ◌+◌, ◌-◌, Bool, ◌&&◌, nat_le, nat_lt, if◌then◌else◌, Option, Some, None}
use Rattle.raft_timers.specs.declared.config.TimerSettings.{TimerSettings}
use Rattle.raft_timers.specs.declared.view.GroupView.{GroupView}

-- how many entries there are up to the place
abbrev pub entries_up_to : Option ℕ → ℕ
entries_up_to None = 0
entries_up_to (Some place) = place + 1

-- so many entries are applied behind the snapshot
abbrev pub is_snapshot_due : TimerSettings → GroupView → Bool
is_snapshot_due s view = nat_le s.snapshot_entries (entries_up_to view.applied - entries_up_to view.snapshot)

-- the place leaves so many entries that the snapshot covers, and is past what is purged
abbrev pub place_to_purge : ℕ → Option ℕ → Option ℕ → Option ℕ
place_to_purge keep purged None = None
place_to_purge keep purged (Some last) =
    if nat_le keep last && nat_lt (entries_up_to purged) (last - keep + 1) then Some (last - keep) else None

abbrev pub purge_place : TimerSettings → GroupView → Option ℕ
purge_place s view = place_to_purge s.keep_entries view.purged view.snapshot
