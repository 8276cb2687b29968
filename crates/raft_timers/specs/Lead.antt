-- What a leader owes: heartbeats, and a quorum.
use Rattle.std.specs.Prelude.{ℕ, max, Bool, false, ◌&&◌, if◌then◌else◌, Option, Some, None, unwrap_or}
use Rattle.raft_timers.specs.declared.config.TimerSettings.{TimerSettings}
use Rattle.raft_timers.specs.declared.lead.Lead.{Lead}
use Rattle.raft_timers.specs.declared.view.GroupView.{GroupView}
use Rattle.raft_timers.specs.Election.{leads}
use Rattle.raft_timers.specs.Interval.{have_passed, interval_after, is_interval_over}

-- a lead that was seen before, and goes on
abbrev pub is_heartbeat_due : Option Lead → GroupView → ℕ → Bool
is_heartbeat_due None view now = false
is_heartbeat_due (Some l) view now = leads view.role && is_interval_over l.heartbeat now

-- a lead that is seen first: its heartbeats are counted from now
abbrev pub new_lead : TimerSettings → ℕ → Lead
new_lead s now = record { from = now; heartbeat = record { length = s.heartbeat_interval; from = now } }

abbrev pub kept_lead : TimerSettings → ℕ → Option Lead → Lead
kept_lead s now None = new_lead s now
kept_lead s now (Some l) = record l { heartbeat = interval_after l.heartbeat now }

abbrev pub lead_after : TimerSettings → GroupView → ℕ → Option Lead → Option Lead
lead_after s view now lead = if leads view.role then Some (kept_lead s now lead) else None

-- since when the leader has heard of no quorum: at most since its lead began
abbrev pub unheard_since : Lead → GroupView → ℕ
unheard_since l view = max l.from (unwrap_or view.quorum_heard 0)

-- so long that others may elect a leader
abbrev pub lacks_quorum : TimerSettings → Option Lead → GroupView → ℕ → Bool
lacks_quorum s None view now = false
lacks_quorum s (Some l) view now = leads view.role && have_passed s.election_min (unheard_since l view) now
