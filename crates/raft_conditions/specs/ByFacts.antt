-- The reasons of refusals, told by the facts of a group alone.
use Rattle.std.specs.Prelude.{◌≡◌, ℕ, Bool, true, false, ◌+◌, ◌<◌, ◌==◌, ◌&&◌, ◌||◌, not, List, [], ◌∷◌, Option, Some, None}
use Rattle.raft_values.specs.declared.vote.Vote.{Vote}
use Rattle.raft_values.specs.declared.log_id.LogId.{LogId}
use Rattle.raft_conditions.specs.declared.facts.GroupFacts.{GroupFacts}
use Rattle.raft_conditions.specs.declared.facts.Parties.{Parties}
use Rattle.raft_messages.specs.Memberships.{logged_or_none}
use Rattle.raft_group_step.specs.Values.{leader_lt, LoggedMembership, is_voter}
use Rattle.raft_group_step.specs.GroupEvent.{GroupCall}
use Rattle.raft_group_step.specs.declared.group_call.GroupCall.TheVariants.{Initialize, Elect, Propose, ChangeMembership, Heartbeat, Lost, TriggerSnapshot, TriggerPurge}
use Rattle.raft_group_step.specs.StepResult.{RefusalReason, NotLeader, UnknownGroup, NotAllowed, NotVoter, MembershipRefused}
use Rattle.raft_group_step.specs.StepResult.{InProgress, CommandTooLong, NumberAtEnd, WrongParty, BreaksCondition, is_within}
use Rattle.raft_group_step.specs.Limits.{is_low, is_short_command, number_limit}
use Rattle.raft_group_step.specs.Refusal.{are_in_range, first_of_reasons, is_first_membership, is_voter_in, known_leader, reasons_of_change, unless}

-- ---- numbers

abbrev pub is_low_id : LogId ℕ → Bool
is_low_id id = is_low id.leader_id.term && is_low id.index

-- each of the numbers is below the limit
abbrev pub AreLow : List ℕ → Type 0
AreLow [] = Unit {0}
AreLow (n ∷ ns) = (n < number_limit) × AreLow ns

-- ---- calls

-- these numbers are in range, and those of the leader's next requests
abbrev pub range_reason_by : GroupFacts → List ℕ → Option RefusalReason
range_reason_by f ns = unless (are_in_range ns && is_low f.greatest_next_id) NumberAtEnd

abbrev pub lead_reason_by : GroupFacts → Option RefusalReason
lead_reason_by f = unless f.is_leader (NotLeader (known_leader f.vote))

abbrev pub next_term_by : GroupFacts → ℕ
next_term_by f = f.vote.leader_id.term + 1

-- the numbers that a call adds to
abbrev pub call_numbers : GroupFacts → GroupCall → List ℕ
call_numbers f (Initialize m) = next_term_by f ∷ []
call_numbers f Elect = next_term_by f ∷ f.end ∷ []
call_numbers f (Propose command token) = f.end ∷ []
call_numbers f (ChangeMembership change token) = f.end ∷ []
call_numbers f Heartbeat = []
call_numbers f (Lost peer) = []
call_numbers f TriggerSnapshot = []
call_numbers f (TriggerPurge place) = []

-- the membership is committed
abbrev pub is_settled_by : Option LoggedMembership → Option ℕ → Bool
is_settled_by None committed = false
is_settled_by (Some m) committed = is_within m.log_id.index committed

-- the reasons of a change that need no new membership
abbrev pub early_reasons_by : GroupFacts → ℕ → List (Option RefusalReason)
early_reasons_by f now =
    range_reason_by f (now ∷ f.end ∷ []) ∷ lead_reason_by f
    ∷ unless (is_settled_by (logged_or_none f.membership) f.committed) InProgress ∷ []

-- the reasons of a call, in their order
abbrev pub call_reasons_by : GroupFacts → ℕ → GroupCall → List (Option RefusalReason)
call_reasons_by f now (Initialize m) =
    unless (is_first_membership m) MembershipRefused
    ∷ range_reason_by f (now ∷ next_term_by f ∷ []) ∷ unless (is_voter m f.own) NotVoter
    ∷ unless f.is_new NotAllowed ∷ []
call_reasons_by f now Elect =
    range_reason_by f (now ∷ next_term_by f ∷ f.end ∷ [])
    ∷ unless (is_voter_in (logged_or_none f.membership) f.own) NotVoter ∷ []
call_reasons_by f now (Propose command token) =
    unless (is_short_command command) CommandTooLong
    ∷ range_reason_by f (now ∷ f.end ∷ []) ∷ lead_reason_by f ∷ []
call_reasons_by f now (ChangeMembership change token) =
    range_reason_by f (now ∷ f.end ∷ []) ∷ lead_reason_by f
    ∷ unless (is_settled_by (logged_or_none f.membership) f.committed) InProgress
    ∷ reasons_of_change (logged_or_none f.membership) change
call_reasons_by f now Heartbeat = range_reason_by f (now ∷ []) ∷ lead_reason_by f ∷ []
call_reasons_by f now (Lost peer) = range_reason_by f (now ∷ []) ∷ lead_reason_by f ∷ []
call_reasons_by f now TriggerSnapshot = range_reason_by f (now ∷ []) ∷ []
call_reasons_by f now (TriggerPurge place) = range_reason_by f (now ∷ []) ∷ []

abbrev pub call_reason_by : GroupFacts → ℕ → GroupCall → Option RefusalReason
call_reason_by f now call = first_of_reasons (call_reasons_by f now call)

-- ---- messages

abbrev pub is_right_party_by : GroupFacts → Parties → Bool
is_right_party_by f p = p.sender == p.peer && not (p.sender == f.own) && p.addressee == f.own

-- there is room for a candidate's blank entry and for the leader's next requests
abbrev pub has_room : GroupFacts → Bool
has_room f = (not f.is_candidate || is_low f.end) && is_low f.greatest_next_id

-- the numbers that an event may be answered with are low
abbrev pub HasRoom : GroupFacts → Type 0
HasRoom f = (f.is_candidate ≡ true → f.end < number_limit) × (f.greatest_next_id < number_limit)

-- the entry's place follows, its leader is none lower, and none is above the vote's
abbrev pub follows : Vote ℕ → Option (LogId ℕ) → LogId ℕ → Bool
follows vote None id = id.index == 0 && not (leader_lt vote.leader_id id.leader_id)
follows vote (Some last) id =
    id.index == last.index + 1 && not (leader_lt id.leader_id last.leader_id)
    && not (leader_lt vote.leader_id id.leader_id)

-- the reasons of a message, in their order
abbrev pub message_reason_by : Bool → Bool → Bool → Bool → Option RefusalReason
message_reason_by party present in_range sound =
    first_of_reasons
    (unless party WrongParty ∷ unless present UnknownGroup ∷ unless in_range NumberAtEnd
    ∷ unless sound BreaksCondition ∷ [])
