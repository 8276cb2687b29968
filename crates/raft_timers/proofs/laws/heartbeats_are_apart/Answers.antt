-- The interval is counted from the first one.
use Rattle.std.proofs.Common.{ℕ, ap, ◌∙◌, arith}
use Rattle.raft_timers.specs.declared.config.TimerConfig.{TimerConfig}
use Rattle.raft_timers.specs.Clock.{Clock}
use Rattle.raft_timers.specs.History.{after_calls, clock_of}
use Rattle.raft_timers.specs.Timers.{moment, ticked}
use Rattle.raft_timers.proofs.Beats.{BeatsOn, beats_anew, beats_late, beats_of, beats_on}
use Rattle.raft_timers.proofs.Histories.{config_of, kept_by_calls, same_config}
use Rattle.raft_timers.proofs.laws.heartbeats_are_apart.Goals as goal

pub returns-clause-apart : goal.returns-clause-apart
returns-clause-apart c = λ h view later waiting now then calls asks again.
    let first : Clock = ticked view waiting now (clock_of h) in
    let m : ℕ = moment (clock_of h) now in
    let beats = kept_by_calls (BeatsOn m) (beats_on m) calls first (beats_anew (clock_of h) view waiting now (beats_of h) asks) in
    let late = beats_late m (after_calls calls first) later then beats again in
    let same = ap (λ (k : TimerConfig). k.settings.heartbeat_interval) (same_config calls first ∙ config_of h) in
    omega arith
