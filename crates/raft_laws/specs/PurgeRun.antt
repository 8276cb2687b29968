-- A leader that purges as it wishes, and a node that stops between its snapshot and its purge.
use Rattle.std.specs.Prelude.{ℕ, List, [], ◌∷◌, ◌++◌, Option, Some, None}
use Rattle.raft_values.specs.declared.log_id.LogId.{LogId}
use Rattle.raft_group_step.specs.StoredGroup.{StoredGroup}
use Rattle.raft_group_step.specs.declared.group_call.GroupCall.TheVariants.{Lost, TriggerSnapshot, TriggerPurge}
use Rattle.raft_laws.specs.declared.world_event.WorldEvent.{WorldEvent}
use Rattle.raft_laws.specs.declared.world_event.WorldEvent.TheVariants.{Ask, Deliver, Restart}
use Rattle.raft_laws.specs.GroupWorld.{GroupWorld, new_world}
use Rattle.raft_laws.specs.GroupRun.{group_run}
use Rattle.raft_laws.specs.Example.{Brief, Halted, three, ok, to_their_end, stored_at}
use Rattle.raft_laws.specs.ThreeNodes.{until_told}

-- node 3 still waits for entries from the front on
abbrev pub wished : List WorldEvent
wished = until_told ++ Ask 1 TriggerSnapshot 0 ∷ Ask 1 (TriggerPurge 9) 0 ∷ []

-- it waits no more, so the log goes, and the snapshot is sent in its place
abbrev pub fulfilled : List WorldEvent
fulfilled = wished ++ Ask 1 (Lost 3) 0 ∷ []

abbrev pub outcomes_of_wish : List Brief
outcomes_of_wish = ok [] ∷ ok [] ∷ ok (3 ∷ []) ∷ []

-- node 3 stores its vote and the snapshot, and stops before it has purged its log. Its next opening
-- stops before it has dropped the log, the one after that behind it
abbrev pub snapshot_comes_first : List (WorldEvent × Option ℕ)
snapshot_comes_first =
    to_their_end fulfilled
    ++ (Deliver 12 0, Some 2) ∷ (Restart 3, Some 0) ∷ (Restart 3, Some 1) ∷ (Restart 3, None)
    ∷ []

abbrev pub after_stops : GroupWorld
after_stops = group_run snapshot_comes_first (new_world three)

abbrev pub outcomes_of_stops : List Brief
outcomes_of_stops = Halted [] ∷ Halted [] ∷ Halted [] ∷ ok [] ∷ []

abbrev pub purged_in : Option StoredGroup → Option (LogId ℕ)
purged_in None = None
purged_in (Some s) = s.purged

abbrev pub purged_at : GroupWorld → ℕ → Option (LogId ℕ)
purged_at w n = purged_in (stored_at w n)
