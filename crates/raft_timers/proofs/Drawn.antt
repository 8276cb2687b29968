-- Timeouts are within their bounds behind each history.
use Rattle.std.proofs.Common.{ℕ, ◌≤◌, Bool, true, false, arith}
use Rattle.std.specs.Prelude.{if◌then◌else◌}
use Rattle.rand_xoshiro.specs.SplitMix64.{mix_u64}
use Rattle.raft_timers.specs.declared.config.TimerConfig.{TimerConfig}
use Rattle.raft_timers.specs.declared.election.ElectionTimer.{ElectionTimer}
use Rattle.raft_timers.specs.Clock.{Clock}
use Rattle.raft_timers.specs.Draw.{timeout_of}
use Rattle.raft_timers.specs.Election.{IsDrawn, first_wait, is_election_due, leads}
use Rattle.raft_timers.specs.History.{Call, Ticks, Answers, Peers, History, after_call, clock_of}
use Rattle.raft_timers.specs.Timers.{moment, new_clock}
use Rattle.raft_timers.proofs.Histories.{kept_by_calls}

abbrev pub IsDrawnClock : Clock → Type 0
IsDrawnClock c = IsDrawn c.config.settings c.election

least : (config : TimerConfig) (word : ℕ) → config.settings.election_min ≤ timeout_of config.settings word
least config word = grind arith

most : (config : TimerConfig) (word : ℕ) → timeout_of config.settings word ≤ config.settings.election_max
most config word = grind arith

drawn_anew : (config : TimerConfig) (now random : ℕ) → IsDrawn config.settings (first_wait config.settings now random)
drawn_anew config now random =
    record { least = least config (mix_u64 random).0; most = most config (mix_u64 random).0 }

drawn_ticked : (config : TimerConfig) (now : ℕ) (e : ElectionTimer) (due leading : Bool) → IsDrawn config.settings e
    → IsDrawn config.settings
    (if due then first_wait config.settings now e.random else if leading then record e { from = now } else e)
drawn_ticked config now e true leading h = drawn_anew config now e.random
drawn_ticked config now e false true h = record { least = h.least; most = h.most }
drawn_ticked config now e false false h = h

pub drawn_after : (call : Call) (c : Clock) → IsDrawnClock c → IsDrawnClock (after_call call c)
drawn_after (Ticks now view waiting) c h =
    drawn_ticked c.config (moment c now) c.election (is_election_due c.election view (moment c now)) (leads view.role) h
drawn_after (Answers peer) c h = h
drawn_after (Peers peers) c h = h

pub drawn_of : (h : History) → IsDrawnClock (clock_of h)
drawn_of h =
    kept_by_calls IsDrawnClock drawn_after h.calls (new_clock h.config h.seed h.peers h.start) (drawn_anew h.config h.start h.seed)
