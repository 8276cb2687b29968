-- A clock behind the calls of a history.
use Rattle.std.specs.Prelude.{◌≡◌, ℕ, true, List, [], ◌∷◌, Contains}
use Rattle.raft_timers.specs.declared.config.TimerConfig.{TimerConfig}
use Rattle.raft_timers.specs.declared.view.GroupView.{GroupView}
use Rattle.raft_timers.specs.Clock.{Clock}
use Rattle.raft_timers.specs.Election.{is_election_due}
use Rattle.raft_timers.specs.Lead.{is_heartbeat_due, lacks_quorum}
use Rattle.raft_timers.specs.Request.{lost_peers}
use Rattle.raft_timers.specs.Timers.{answered, moment, new_clock, ticked, with_peers}

pub data Call : Type 0 where
  Ticks : ℕ → GroupView → List ℕ → Call
  Answers : ℕ → Call
  Peers : List ℕ → Call

abbrev pub after_call : Call → Clock → Clock
after_call (Ticks now view waiting) c = ticked view waiting now c
after_call (Answers peer) c = answered peer c
after_call (Peers peers) c = with_peers peers c

abbrev pub after_calls : List Call → Clock → Clock
after_calls [] c = c
after_calls (call ∷ calls) c = after_calls calls (after_call call c)

-- how a clock began, and what it was called with since
pub record History : Type 0 where
  pub config : TimerConfig
  pub seed : ℕ
  pub peers : List ℕ
  pub start : ℕ
  pub calls : List Call

abbrev pub clock_of : History → Clock
clock_of h = after_calls h.calls (new_clock h.config h.seed h.peers h.start)

-- ---- what a tick asks for

abbrev pub AsksElection : Clock → GroupView → ℕ → Type 0
AsksElection c view now = is_election_due c.election view (moment c now) ≡ true

abbrev pub AsksHeartbeat : Clock → GroupView → ℕ → Type 0
AsksHeartbeat c view now = is_heartbeat_due c.lead view (moment c now) ≡ true

abbrev pub TellsLost : Clock → List ℕ → ℕ → ℕ → Type 0
TellsLost c waiting now peer = Contains (lost_peers waiting (moment c now) c.requests) peer

abbrev pub TellsNoQuorum : Clock → GroupView → ℕ → Type 0
TellsNoQuorum c view now = lacks_quorum c.config.settings c.lead view (moment c now) ≡ true
