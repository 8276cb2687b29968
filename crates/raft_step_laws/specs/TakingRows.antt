-- Commands of worked rows.
use Rattle.std.specs.Prelude.{ℕ, ◌-◌, ◌^◌, List, [], ◌∷◌, Option, Some, None}
use Rattle.raft_values.specs.LogId.{log_id_of}
use Rattle.raft_state.specs.declared.entry.EntryPayload.TheVariants.{Normal}
use Rattle.raft_group_step.specs.Values.{Entry}
use Rattle.raft_group_step.specs.StoredGroup.{StoringCommand}
use Rattle.raft_group_step.specs.Peer.{new_peer}
use Rattle.raft_group_step.specs.GroupState.{GroupState, Lead, Leader}
use Rattle.raft_group_step.specs.declared.group_call.GroupCall.TheVariants.{Propose}
use Rattle.raft_group_step.specs.GroupEvent.{Call, GroupEvent}
use Rattle.raft_group_step.specs.StepResult.{RefusalReason, StepResult, unchanged}
use Rattle.raft_group_step.specs.Refusal.{refusal_of}
use Rattle.raft_group_step.specs.GroupStep.{group_step}
use Rattle.raft_group_step.specs.StepExample.{leads_three}
use Rattle.raft_laws.specs.Origins.{next_entry}

abbrev pub proposed_at : ℕ → GroupEvent
proposed_at now = Call (Propose (5 ∷ []) 7) now

-- node 2 leads three nodes, and its log ends at place 4; the number of its next request to node 1 is this one
abbrev pub lead_with : ℕ → Lead
lead_with next_id = record { began = 2; peers = record (new_peer 2 1) { next_id = next_id } ∷ [] }

abbrev pub leader : ℕ → GroupState
leader next_id = record (leads_three None) { role = Leader (lead_with next_id) }

-- the same with a log that ends at the end of all places
abbrev pub leader_at_the_end : GroupState
leader_at_the_end =
    let s = leader 1
    in record s {
      stored = record s.stored { purged = Some (log_id_of 2 2 (2 ^ 62 - 1)); log = [] };
    }

-- why its command is refused
abbrev pub answer_of : GroupState → ℕ → Option RefusalReason
answer_of s now = refusal_of 2 s (proposed_at now)

abbrev pub next_command : Entry
next_command = next_entry (leader 1).stored (Normal (5 ∷ []))

-- a result that stores this
abbrev pub storing : List StoringCommand → StepResult
storing cs = record (unchanged (leader 1)) { commands = cs }

abbrev pub stored_at_proposal : List StoringCommand
stored_at_proposal = (group_step 2 (leader 1) (proposed_at 0)).commands
