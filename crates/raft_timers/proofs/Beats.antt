-- When heartbeats are asked for.
use Rattle.std.proofs.Common.{◌≡◌, ℕ, ◌+◌, ◌≤◌, Bool, true, false, Option, Some, None, refl, arith}
use Rattle.std.specs.Prelude.{if◌then◌else◌}
use Rattle.std.proofs.lemmas.Bool.{and_parts}
use Rattle.raft_timers.specs.declared.config.TimerConfig.{TimerConfig}
use Rattle.raft_timers.specs.declared.config.TimerSettings.{TimerSettings}
use Rattle.raft_timers.specs.declared.interval.Interval.{Interval}
use Rattle.raft_timers.specs.declared.lead.Lead.{Lead}
use Rattle.raft_timers.specs.declared.view.GroupView.{GroupView}
use Rattle.raft_timers.specs.Clock.{Clock}
use Rattle.raft_timers.specs.Election.{leads}
use Rattle.raft_timers.specs.Interval.{is_interval_over}
use Rattle.raft_timers.specs.Lead.{is_heartbeat_due, kept_lead, lead_after}
use Rattle.raft_timers.specs.History.{AsksHeartbeat, Call, Ticks, Answers, Peers, History, after_call, clock_of}
use Rattle.raft_timers.specs.Timers.{moment, new_clock, ticked}
use Rattle.raft_timers.proofs.Histories.{kept_by_calls}
use Rattle.raft_timers.proofs.Passing.{passed}

-- the interval, counted from this moment or later
pub record BeatsFrom (m ticks : ℕ) (i : Interval) : Type 0 where
  pub length : i.length ≡ ticks
  pub from : m ≤ i.from

abbrev pub LeadsFrom : ℕ → ℕ → Option Lead → Type 0
LeadsFrom m length None = Unit {0}
LeadsFrom m length (Some l) = BeatsFrom m length l.heartbeat

pub record BeatsOn (m : ℕ) (c : Clock) : Type 0 where
  pub now : m ≤ c.now
  pub lead : LeadsFrom m c.config.settings.heartbeat_interval c.lead

beats_after : (m length now : ℕ) (i : Interval) (over : Bool) → m ≤ now → BeatsFrom m length i
    → BeatsFrom m length (if over then record i { from = now } else i)
beats_after m length now i true within h = record { length = h.length; from = within }
beats_after m length now i false within h = h

kept_beats : (m : ℕ) (s : TimerSettings) (now : ℕ) (lead : Option Lead) → m ≤ now → LeadsFrom m s.heartbeat_interval lead
    → BeatsFrom m s.heartbeat_interval (kept_lead s now lead).heartbeat
kept_beats m s now None within h = record { length = refl; from = within }
kept_beats m s now (Some l) within h =
    beats_after m s.heartbeat_interval now l.heartbeat (is_interval_over l.heartbeat now) within h

leads_after : (m : ℕ) (s : TimerSettings) (now : ℕ) (lead : Option Lead) (leading : Bool) → m ≤ now
    → LeadsFrom m s.heartbeat_interval lead
    → LeadsFrom m s.heartbeat_interval (if leading then Some (kept_lead s now lead) else None)
leads_after m s now lead true within h = kept_beats m s now lead within h
leads_after m s now lead false within h = tt

pub beats_on : (m : ℕ) (call : Call) (c : Clock) → BeatsOn m c → BeatsOn m (after_call call c)
beats_on m (Ticks now view waiting) c h =
    let before = h.now in
    let within : m ≤ moment c now = omega arith in
    record { now = within; lead = leads_after m c.config.settings (moment c now) c.lead (leads view.role) within h.lead }
beats_on m (Answers peer) c h = record { now = h.now; lead = h.lead }
beats_on m (Peers peers) c h = record { now = h.now; lead = h.lead }

pub beats_of : (h : History) → BeatsOn 0 (clock_of h)
beats_of h =
    kept_by_calls (BeatsOn 0) (beats_on 0) h.calls (new_clock h.config h.seed h.peers h.start) (record { now = omega arith; lead = tt })

-- ---- from a heartbeat on

beaten_anew : (length now : ℕ) (i : Interval) (over : Bool) → over ≡ true → BeatsFrom 0 length i
    → BeatsFrom now length (if over then record i { from = now } else i)
beaten_anew length now i true is h = record { length = h.length; from = omega arith }
beaten_anew length now i false is h = absurd (cc)

led_anew : (s : TimerSettings) (now : ℕ) (l : Lead) (leading : Bool) → leading ≡ true → is_interval_over l.heartbeat now ≡ true
    → BeatsFrom 0 s.heartbeat_interval l.heartbeat
    → LeadsFrom now s.heartbeat_interval (if leading then Some (kept_lead s now (Some l)) else None)
led_anew s now l true is over h = beaten_anew s.heartbeat_interval now l.heartbeat (is_interval_over l.heartbeat now) over h
led_anew s now l false is over h = absurd (cc)

beaten : (s : TimerSettings) (view : GroupView) (now : ℕ) (lead : Option Lead) → LeadsFrom 0 s.heartbeat_interval lead
    → is_heartbeat_due lead view now ≡ true → LeadsFrom now s.heartbeat_interval (lead_after s view now lead)
beaten s view now None h due = absurd (cc)
beaten s view now (Some l) h due =
    let parts : (leads view.role ≡ true) × (is_interval_over l.heartbeat now ≡ true) =
    and_parts (leads view.role) (is_interval_over l.heartbeat now) due in
    led_anew s now l (leads view.role) parts.0 parts.1 h

pub beats_anew : (c : Clock) (view : GroupView) (waiting : _) (now : ℕ) → BeatsOn 0 c → AsksHeartbeat c view now
    → BeatsOn (moment c now) (ticked view waiting now c)
beats_anew c view waiting now h asks =
    record { now = omega arith; lead = beaten c.config.settings view (moment c now) c.lead h.lead asks }

beat_is_late : (config : TimerConfig) (m : ℕ) (view : GroupView) (now : ℕ) (lead : Option Lead)
    → LeadsFrom m config.settings.heartbeat_interval lead → is_heartbeat_due lead view now ≡ true
    → m + config.settings.heartbeat_interval ≤ now
beat_is_late config m view now None h due = absurd (cc)
beat_is_late config m view now (Some l) h due =
    let from = h.from in
    let length = h.length in
    let positive = config.heartbeat in
    let over =
    passed l.heartbeat.length l.heartbeat.from now (omega arith)
    (and_parts (leads view.role) (is_interval_over l.heartbeat now) due).1 in
    omega arith

pub beats_late : (m : ℕ) (c : Clock) (view : GroupView) (now : ℕ) → BeatsOn m c → AsksHeartbeat c view now
    → m + c.config.settings.heartbeat_interval ≤ moment c now
beats_late m c view now h asks = beat_is_late c.config m view (moment c now) c.lead h.lead asks
