-- The wait was begun anew at the first one.
use Rattle.std.proofs.Common.{ℕ, ap, ◌∙◌, arith}
use Rattle.raft_timers.specs.declared.config.TimerConfig.{TimerConfig}
use Rattle.raft_timers.specs.Clock.{Clock}
use Rattle.raft_timers.specs.History.{after_calls, clock_of}
use Rattle.raft_timers.specs.Timers.{moment, ticked}
use Rattle.raft_timers.specs.History.{Ticks}
use Rattle.raft_timers.proofs.Drawn.{IsDrawnClock, drawn_after, drawn_of}
use Rattle.raft_timers.proofs.Histories.{config_of, kept_by_calls, same_config}
use Rattle.raft_timers.proofs.Standing.{WaitsFrom, stands_late, waits_anew, waits_on}
use Rattle.raft_timers.proofs.laws.elections_are_apart.Goals as goal

pub returns : goal.returns
returns c = λ h view later waiting now then calls asks again.
    let first : Clock = ticked view waiting now (clock_of h) in
    let m : ℕ = moment (clock_of h) now in
    let drawn = kept_by_calls IsDrawnClock drawn_after calls first (drawn_after (Ticks now view waiting) (clock_of h) (drawn_of h)) in
    let waits = kept_by_calls (WaitsFrom m) (waits_on m) calls first (waits_anew (clock_of h) view waiting now asks) in
    let from = waits.from in
    let late = stands_late (after_calls calls first) later then drawn again in
    let same = ap (λ (k : TimerConfig). k.settings.election_min) (same_config calls first ∙ config_of h) in
    omega arith
