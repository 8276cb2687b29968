-- The facts of a group by which its events are judged.
use Rattle.std.specs.Prelude.{◌≡◌, ℕ, Option, option_map}
use Rattle.raft_conditions.specs.declared.facts.GroupFacts.{GroupFacts}
use Rattle.raft_conditions.specs.declared.refusal.Refusal.{Refusal}
use Rattle.raft_messages.specs.Memberships.{logged_or_none}
use Rattle.raft_group_step.specs.StoredGroup.{end_place, membership_in_force}
use Rattle.raft_group_step.specs.GroupState.{GroupState, is_leader, is_candidate}
use Rattle.raft_group_step.specs.GroupEvent.{GroupEvent}
use Rattle.raft_group_step.specs.Initialize.{is_new}
use Rattle.raft_group_step.specs.Limits.{is_low}
use Rattle.raft_group_step.specs.Refusal.{are_in_range, next_ids, refusal_of}
use Rattle.raft_conditions.specs.Reason.{reason_of}

-- these are the facts of the group at the node
pub record IsFactsOf (own : ℕ) (facts : GroupFacts) (s : GroupState) : Type 0 where
  pub own_id : facts.own ≡ own
  pub presence : facts.present ≡ s.stored.present
  pub stored_vote : facts.vote ≡ s.stored.vote
  pub in_force : logged_or_none facts.membership ≡ membership_in_force s.stored
  pub newness : facts.is_new ≡ is_new s.stored
  pub leads : facts.is_leader ≡ is_leader s.role
  pub stands : facts.is_candidate ≡ is_candidate s.role
  pub log_end : facts.end ≡ end_place s.stored
  pub last_committed : facts.committed ≡ s.committed
  pub next_requests : are_in_range (next_ids s.role) ≡ is_low facts.greatest_next_id

-- in each group that has these facts the event is refused for this reason, or for none
abbrev pub IsRefusalOf : GroupFacts → GroupEvent → Option (Refusal ℕ) → Type 0
IsRefusalOf facts e refusal =
    (own : ℕ) (s : GroupState) → IsFactsOf own facts s
    → option_map reason_of refusal ≡ refusal_of own s e
