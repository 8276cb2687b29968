-- What an event told for a group.
use Rattle.std.specs.Prelude.{ℕ, ◌==◌, List, [], Option, Some, None, slice_get}
use Rattle.std.specs.List.{find}
use Rattle.raft_machines.specs.declared.telling.Told.{Told}
use Rattle.raft_cluster_events.specs.declared.outcome.EventOutcome.{EventOutcome}
use Rattle.raft_cluster_events.specs.declared.outcome.EventOutcome.TheVariants.{Cleaned, Done, Refused, Stopped, TurnedAway}
use Rattle.raft_cluster_events.specs.declared.outcome.GroupOutcome.{GroupOutcome}
use Rattle.raft_cluster_events.specs.declared.outcome.Recorded.{Recorded}

abbrev pub told_in : Option GroupOutcome → List Told
told_in None = []
told_in (Some outcome) = outcome.told

-- what it told where it was done: that of the group's outcome
abbrev pub told_by : ℕ → List GroupOutcome → List Told
told_by group outcomes = told_in (find (λ (outcome : GroupOutcome). outcome.group == group) outcomes)

abbrev pub told_of : ℕ → EventOutcome → List Told
told_of group (Done outcomes) = told_by group outcomes
told_of group (Cleaned groups) = []
told_of group (Refused why) = []
told_of group (Stopped stop) = []
told_of group (TurnedAway why) = []

abbrev pub told_where : ℕ → Option Recorded → List Told
told_where group None = []
told_where group (Some recorded) = told_of group recorded.outcome

-- what the event of this number told for the group
abbrev pub told_at : List Recorded → ℕ → ℕ → List Told
told_at history number group = told_where group (slice_get history number)
