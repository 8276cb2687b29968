-- A leader of worked rows, and snapshots that it builds or is sent.
use Rattle.std.specs.Prelude.{ℕ, true, [], ◌∷◌, Option, None}
use Rattle.raft_values.specs.Vote.{vote_of}
use Rattle.raft_values.specs.LogId.{log_id_of}
use Rattle.raft_group_step.specs.StoredGroup.{Snapshot}
use Rattle.raft_group_step.specs.Message.{SnapshotRequest}
use Rattle.raft_group_step.specs.GroupState.{GroupState}
use Rattle.raft_group_step.specs.declared.group_call.GroupCall.TheVariants.{TriggerSnapshot}
use Rattle.raft_group_step.specs.GroupEvent.{Call, GroupEvent, Receive}
use Rattle.raft_group_step.specs.SnapshotTrigger.{snapshot_at}
use Rattle.raft_group_step.specs.GroupStep.{group_step}
use Rattle.raft_group_step.specs.StepExample.{blank_at, leads_three}

-- node 2 leads three nodes under the vote (2, 2, true). Its entries stand at the places 0 to 3, and
-- it has applied so far
abbrev pub applied_to : Option ℕ → GroupState
applied_to place = record (leads_three None) { committed = place; applied = place }

-- the snapshot of its list up to a place, whose entry it wrote itself
abbrev pub snapshot_to : ℕ → Snapshot
snapshot_to place = snapshot_at (leads_three None).stored (log_id_of 2 2 place)

-- another list with that last log id
abbrev pub installed_at : Snapshot
installed_at = record { last = log_id_of 2 2 3; membership = None; «prefix» = blank_at 0 ∷ blank_at 1 ∷ blank_at 2 ∷ blank_at 3 ∷ [] }

abbrev pub built_by : GroupEvent
built_by = Call TriggerSnapshot 0

-- node 3 sends it as its snapshot, under its vote of this term
abbrev pub offers : ℕ → GroupEvent
offers term =
    Receive 3
    (record { sender = 3; addressee = 2; body = SnapshotRequest (vote_of term 3 true) 1 installed_at })
    0

abbrev pub stored_after : GroupState → GroupEvent → Option Snapshot
stored_after s e = (group_step 2 s e).state.stored.snapshot
