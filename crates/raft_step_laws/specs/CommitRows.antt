-- Leaders of worked rows, and what a quorum accepted.
use Rattle.std.specs.Prelude.{ℕ, Bool, true, List, [], ◌∷◌, Option, Some, None}
use Rattle.raft_values.specs.declared.log_id.LogId.{LogId}
use Rattle.raft_values.specs.LogId.{log_id_of}
use Rattle.raft_values.specs.Vote.{vote_of}
use Rattle.raft_group_step.specs.Message.{Numbered, Success}
use Rattle.raft_group_step.specs.Peer.{new_peer}
use Rattle.raft_group_step.specs.GroupState.{GroupState, Lead, Untold}
use Rattle.raft_group_step.specs.declared.group_call.GroupCall.TheVariants.{TriggerPurge}
use Rattle.raft_group_step.specs.GroupEvent.{Call, GroupEvent}
use Rattle.raft_group_step.specs.GroupStep.{group_step}
use Rattle.raft_group_step.specs.StepExample.{blank_at, leads_three}
use Rattle.raft_step_laws.specs.Commits.{has_quorum_at}
use Rattle.raft_step_laws.specs.PeerRows.{before, last, replies}
use Rattle.raft_step_laws.specs.TokenRows.{leader}

-- the lead in which node 1 has accepted all up to this log id
abbrev pub lead_to : Option (LogId ℕ) → Lead
lead_to matched = record { began = 2; peers = record (new_peer 2 1) { matched = matched } ∷ [] }

-- whether node 2, which leads three nodes, has a quorum at a place then
abbrev pub quorum_at : Option (LogId ℕ) → ℕ → Bool
quorum_at matched place = has_quorum_at 2 (leads_three matched).stored (lead_to matched) place

-- the same leader, with this committed and these tokens waiting
abbrev pub leading : Option ℕ → List Untold → GroupState
leading committed untold =
    record (leads_three last) { committed = committed; untold = untold }

-- what the leader has committed once node 1 has accepted all
abbrev pub committed_then : Option ℕ
committed_then =
    (group_step 2 leader (replies 1 (vote_of 2 2 true) (Numbered 1) before last Success)).state.committed

-- a snapshot that lacks the membership of its own list, which no run has
abbrev pub without_membership : GroupState → GroupState
without_membership s =
    record s {
      stored = record s.stored {
        snapshot =
            Some
            (record { last = log_id_of 1 1 1; membership = None; «prefix» = blank_at 0 ∷ blank_at 1 ∷ [] });
      };
      committed = Some 1;
    }

abbrev pub purges : GroupEvent
purges = Call (TriggerPurge 1) 0

-- what is left of such a node once its log is purged as far as that snapshot goes
abbrev pub purged : GroupState → GroupState
purged s = (group_step 2 (without_membership s) purges).state
