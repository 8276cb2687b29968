-- Snapshots that a node builds of what is applied.
use Rattle.std.specs.Prelude.{◌≡◌, ◌≤◌, ℕ, ◌++◌, ◌∷◌, [], Bool, true, Option, Some}
use Rattle.raft_values.specs.declared.log_id.LogId.{LogId}
use Rattle.raft_values.specs.LogId.{next_place}
use Rattle.raft_group_step.specs.StoredGroup.{Snapshot, entry_at, id_of, snapshot_last}
use Rattle.raft_group_step.specs.GroupState.{GroupState}
use Rattle.raft_group_step.specs.SnapshotTrigger.{snapshot_at}
use Rattle.raft_commands.specs.declared.command.Command.TheVariants.{StateMachine}
use Rattle.raft_commands.specs.declared.sm.CommandPayload.TheVariants.{BuildSnapshot}
use Rattle.raft_commands.specs.Output.{following_seq}
use Rattle.raft_engine.specs.Commands.{Command}
use Rattle.raft_engine.specs.Standing.{Engine}

-- the snapshot of all that is applied, which goes past the last one
pub record IsSnapshotOfApplied (s : GroupState) (x : Snapshot) : Type 0 where
  pub applied : s.applied ≡ Some x.last.index
  pub entry : id_of (entry_at s.stored x.last.index) ≡ Some x.last
  pub later : next_place (snapshot_last s.stored) ≤ x.last.index
  pub covers : x ≡ snapshot_at s.stored x.last

module _ {C R : Type 0} where
  -- the order to build a snapshot, under this number
  abbrev pub build_command : ℕ → Command C R
  build_command seq = StateMachine (record { seq = seq; payload = BuildSnapshot })

  -- whether a snapshot is being built
  abbrev pub is_building : Engine C R → Bool
  is_building e = e.state.state.io_state.building_snapshot

  -- the last log id that the last snapshot has
  abbrev pub covered_id : Engine C R → Option (LogId ℕ)
  covered_id e = e.state.state.snapshot_meta.last_log_id

  -- the engine with this noted of whether a snapshot is being built
  abbrev pub with_building : Bool → Engine C R → Engine C R
  with_building building e =
      record e {
        state =
            record e.state {
              state = record e.state.state { io_state = record e.state.state.io_state { building_snapshot = building } };
            };
      }

  -- the engine that has asked for a snapshot
  abbrev pub asking : Engine C R → Engine C R
  asking e =
      let seq = following_seq e.output.last_sm_seq
      in record (with_building true e) {
        output = record { queue = e.output.queue ++ build_command seq ∷ []; last_sm_seq = seq };
      }
