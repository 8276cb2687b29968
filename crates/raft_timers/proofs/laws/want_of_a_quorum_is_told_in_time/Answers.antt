-- By what holds of one clock; the settings stay.
use Rattle.raft_timers.specs.History.{clock_of}
use Rattle.raft_timers.specs.Timers.{moment}
use Rattle.raft_timers.proofs.Histories.{config_of}
use Rattle.raft_timers.proofs.Quorum.{lacks_late, lacks_then}
use Rattle.raft_timers.proofs.laws.want_of_a_quorum_is_told_in_time.Goals as goal

pub returns-clause-early : goal.returns-clause-early
returns-clause-early c =
    λ h view now heard is tells.
    rw (config_of h) at (lacks_late (clock_of h).config (clock_of h).lead view (moment (clock_of h) now) heard is tells)

pub returns-clause-late : goal.returns-clause-late
returns-clause-late c =
    λ h view lead now leading is over.
    rw is (lacks_then (clock_of h).config lead view (moment (clock_of h) now) leading (rw (config_of h) over))
