-- When elections are asked for.
use Rattle.std.proofs.Common.{◌≡◌, ℕ, ◌+◌, ◌≤◌, Bool, true, false, arith}
use Rattle.std.specs.Prelude.{if◌then◌else◌}
use Rattle.std.proofs.lemmas.Bool.{and_parts, and_from}
use Rattle.raft_timers.specs.declared.config.TimerSettings.{TimerSettings}
use Rattle.raft_timers.specs.declared.election.ElectionTimer.{ElectionTimer}
use Rattle.raft_timers.specs.declared.view.GroupView.{GroupView}
use Rattle.raft_timers.specs.Clock.{Clock}
use Rattle.raft_timers.specs.Election.{first_wait, is_election_due, leads, may_stand, quiet_since}
use Rattle.raft_timers.specs.Interval.{have_passed}
use Rattle.raft_timers.specs.History.{AsksElection, Call, Ticks, Answers, Peers, after_call}
use Rattle.raft_timers.specs.Timers.{moment, ticked}
use Rattle.raft_timers.proofs.Drawn.{IsDrawnClock}
use Rattle.raft_timers.proofs.Passing.{passed, passed_from}

-- not before the least silence is over
pub stands_late : (c : Clock) (view : GroupView) (now : ℕ) → IsDrawnClock c → AsksElection c view now
    → quiet_since c.election view + c.config.settings.election_min ≤ moment c now
stands_late c view now drawn asks =
    let least = drawn.least in
    let silence = c.config.silence in
    let over =
    passed c.election.timeout (quiet_since c.election view) (moment c now) (omega arith)
    (and_parts (may_stand view.role) (have_passed c.election.timeout (quiet_since c.election view) (moment c now)) asks).1 in
    omega arith

-- once the greatest one is over
pub stands_then : (c : Clock) (view : GroupView) (now : ℕ) → IsDrawnClock c → may_stand view.role ≡ true
    → quiet_since c.election view + c.config.settings.election_max ≤ moment c now → AsksElection c view now
stands_then c view now drawn may over =
    let most = drawn.most in
    and_from (may_stand view.role) (have_passed c.election.timeout (quiet_since c.election view) (moment c now)) may
    (passed_from c.election.timeout (quiet_since c.election view) (moment c now) (omega arith))

-- ---- from an election on

-- the wait was begun at this moment, or later
pub record WaitsFrom (m : ℕ) (c : Clock) : Type 0 where
  pub now : m ≤ c.now
  pub from : m ≤ c.election.from

from_ticked : (m : ℕ) (s : TimerSettings) (now : ℕ) (e : ElectionTimer) (due leading : Bool) → m ≤ now → m ≤ e.from
    → m ≤ (if due then first_wait s now e.random else if leading then record e { from = now } else e).from
from_ticked m s now e true leading within from = within
from_ticked m s now e false true within from = within
from_ticked m s now e false false within from = from

pub waits_on : (m : ℕ) (call : Call) (c : Clock) → WaitsFrom m c → WaitsFrom m (after_call call c)
waits_on m (Ticks now view waiting) c h =
    let before = h.now in
    let within : m ≤ moment c now = omega arith in
    record {
      now = within;
      from =
          from_ticked m c.config.settings (moment c now) c.election (is_election_due c.election view (moment c now)) (leads view.role)
          within h.from;
    }
waits_on m (Answers peer) c h = record { now = h.now; from = h.from }
waits_on m (Peers peers) c h = record { now = h.now; from = h.from }

from_due : (s : TimerSettings) (now : ℕ) (e : ElectionTimer) (due leading : Bool) → due ≡ true
    → now ≤ (if due then first_wait s now e.random else if leading then record e { from = now } else e).from
from_due s now e true leading is = omega arith
from_due s now e false leading is = absurd (cc)

pub waits_anew : (c : Clock) (view : GroupView) (waiting : _) (now : ℕ) → AsksElection c view now
    → WaitsFrom (moment c now) (ticked view waiting now c)
waits_anew c view waiting now asks =
    record {
      now = omega arith;
      from =
          from_due c.config.settings (moment c now) c.election (is_election_due c.election view (moment c now)) (leads view.role) asks;
    }
