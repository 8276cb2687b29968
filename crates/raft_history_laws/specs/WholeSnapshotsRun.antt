-- Snapshots of worked runs, and some that aren't whole.
use Rattle.std.specs.Prelude.{ℕ, List, [], ◌∷◌, Option, Some, option_map, option_and_then}
use Rattle.raft_values.specs.declared.log_id.LogId.{LogId}
use Rattle.raft_values.specs.LogId.{log_id_of}
use Rattle.raft_state.specs.declared.entry.EntryPayload.TheVariants.{Membership as Members}
use Rattle.raft_group_step.specs.Values.{Entry, entry_of, LoggedMembership}
use Rattle.raft_group_step.specs.StoredGroup.{StoredGroup, Snapshot}
use Rattle.raft_laws.specs.GroupWorld.{GroupWorld}
use Rattle.raft_laws.specs.Example.{add, membership_of, stored_at, three}
use Rattle.raft_laws.specs.LawRuns.{blank_at}
use Rattle.raft_laws.specs.OriginRun.{command_at}

abbrev pub snapshot_of : GroupWorld → ℕ → Option Snapshot
snapshot_of w n = option_and_then (λ (st : StoredGroup). st.snapshot) (stored_at w n)

-- the log id of the membership that a node's snapshot has
abbrev pub membership_id : GroupWorld → ℕ → Option (LogId ℕ)
membership_id w n =
    option_map (λ (x : LoggedMembership). x.log_id) (option_and_then (λ (x : Snapshot). x.membership) (snapshot_of w n))

-- the group's list after a command, as the runs of three nodes have it
abbrev pub set_up_entry : Entry
set_up_entry = entry_of (log_id_of 0 0 0) (Members (membership_of three []))

abbrev pub first_entries : List Entry
first_entries = set_up_entry ∷ blank_at 1 ∷ command_at 2 (add 5) ∷ []

abbrev pub set_up_membership : Option LoggedMembership
set_up_membership = Some (record { log_id = log_id_of 0 0 0; membership = membership_of three [] })

-- a snapshot with this log id, membership and list
abbrev pub snapshot_with : LogId ℕ → Option LoggedMembership → List Entry → Snapshot
snapshot_with last membership entries = record { last = last; membership = membership; «prefix» = entries }
