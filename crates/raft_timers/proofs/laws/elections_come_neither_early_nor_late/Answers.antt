-- By what holds of one clock; the settings stay.
use Rattle.raft_timers.specs.History.{clock_of}
use Rattle.raft_timers.proofs.Drawn.{drawn_of}
use Rattle.raft_timers.proofs.Histories.{config_of}
use Rattle.raft_timers.proofs.Standing.{stands_late, stands_then}
use Rattle.raft_timers.proofs.laws.elections_come_neither_early_nor_late.Goals as goal

pub returns-clause-drawn : goal.returns-clause-drawn
returns-clause-drawn c = λ h. rw (config_of h) at (drawn_of h)

pub returns-clause-early : goal.returns-clause-early
returns-clause-early c = λ h view now asks. rw (config_of h) at (stands_late (clock_of h) view now (drawn_of h) asks)

pub returns-clause-late : goal.returns-clause-late
returns-clause-late c = λ h view now may over. stands_then (clock_of h) view now (drawn_of h) may (rw (config_of h) over)
