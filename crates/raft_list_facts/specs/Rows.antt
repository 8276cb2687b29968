-- Small replies and states of worked rows: nodes 1 and 2.
use Rattle.std.specs.Prelude.{ℕ, true, List, [], map, Option, Some, None, option_map}
use Rattle.raft_values.specs.LogId.{log_id_of}
use Rattle.raft_values.specs.Vote.{vote_of}
use Rattle.raft_values.specs.declared.log_id.LogId.{LogId}
use Rattle.raft_group_step.specs.Message.{HeartBeat, ReplyFields, ReplyResult}
use Rattle.raft_group_step.specs.GroupState.{GroupState, Leader, Role, no_group, state_of}
use Rattle.raft_group_step.specs.Values.{Entry}
use Rattle.raft_state.specs.declared.entry.EntryPayload.TheVariants.{Blank}
use Rattle.raft_list_facts.specs.Leads.{leading_of}
use Rattle.raft_list_facts.specs.declared.acceptance.Acceptance.{Acceptance}
use Rattle.raft_list_facts.specs.declared.leading.Base.{Base}
use Rattle.raft_list_facts.specs.declared.leading.Leading.{Leading}

-- a reply under the vote for node 2 in term 4, to a request that ended at place 3
abbrev pub reply : ReplyResult → ReplyFields
reply outcome = record { vote = vote_of 4 2 true; id = HeartBeat; previous = None; last = Some (log_id_of 4 2 3); outcome = outcome }

abbrev pub up_to : ℕ → Option Acceptance
up_to place = Some (record { vote = vote_of 4 2 true; last = log_id_of 4 2 place })

abbrev pub blank : LogId ℕ → Entry
blank id = record { log_id = id; payload = Blank }

-- node 2 in term 4, with entries of these log ids behind what is purged
abbrev pub node_two : Role → Option (LogId ℕ) → List (LogId ℕ) → GroupState
node_two role purged ids =
    record (state_of no_group) {
      role = role;
      stored = record no_group { present = true; vote = vote_of 4 2 true; purged = purged; log = map blank ids };
    }

-- what it tells that leads
abbrev pub told_by_two : Option (LogId ℕ) → List (LogId ℕ) → Option Leading
told_by_two purged ids = leading_of (node_two (Leader (record { began = 0; peers = [] })) purged ids)

abbrev pub base_of_two : Option (LogId ℕ) → List (LogId ℕ) → Option Base
base_of_two purged ids = option_map (λ (x : Leading). x.base) (told_by_two purged ids)
