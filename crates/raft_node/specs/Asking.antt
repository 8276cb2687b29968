-- What is known of a call before its group is asked, and behind it.
use Rattle.std.specs.Prelude.{◌≡◌, ℕ, Bool, true, false, Option, Some, None, Result, Ok, Err}
use Rattle.raft_conditions.specs.Reason.{reason_of}
use Rattle.raft_group_step.specs.GroupEvent.{GroupCall, GroupEvent}
use Rattle.raft_group_step.specs.GroupState.{GroupState}
use Rattle.raft_group_step.specs.declared.group_call.GroupCall.TheVariants.{Initialize}
use Rattle.raft_group_step.specs.Refusal.{refusal_of}
use Rattle.raft_group_step.specs.StoredGroup.{end_place}
use Rattle.raft_member.specs.declared.member.Broken.TheVariants as broken
use Rattle.raft_groups.specs.declared.fault.GroupsFault.{GroupsFault}
use Rattle.raft_groups.specs.declared.fault.GroupsFault.TheVariants as groups_fault
use Rattle.raft_framed_groups.specs.declared.answering.AnswerError.{AnswerError}
use Rattle.raft_framed_groups.specs.declared.answering.AnswerError.TheVariants as error
use Rattle.raft_framed_groups.specs.declared.answering.Outcome.{Outcome as Framed}
use Rattle.raft_framed_groups.specs.declared.answering.Outcome.TheVariants as framed
use Rattle.raft_machines.specs.MembershipFault.{membership_fault_of}
use Rattle.raft_machines.specs.declared.fault.MembershipFault.{MembershipFault}
use Rattle.raft_node_faults.specs.declared.fault.Fault.{Fault}
use Rattle.raft_node_faults.specs.declared.fault.Fault.TheVariants as fault
use Rattle.raft_node.specs.declared.asking.Judgement.{Judgement}
use Rattle.raft_node.specs.declared.asking.Judgement.TheVariants as judgement

-- so the group step judges the event
abbrev pub IsJudged : ℕ → GroupState → GroupEvent → Judgement → Type 0
IsJudged own s e (judgement.Refused why) = refusal_of own s e ≡ Some (reason_of why)
IsJudged own s e (judgement.Taken place) = (refusal_of own s e ≡ None) × (place ≡ end_place s.stored)
IsJudged own s e judgement.Unknown = Unit {0}

-- it wasn't known whether the event is refused
abbrev pub is_unjudged : {F : Type 0} → GroupsFault F → Bool
is_unjudged groups_fault.Failed = false
is_unjudged groups_fault.UnknownGroup = false
is_unjudged groups_fault.GroupExists = false
is_unjudged (groups_fault.Stopped (broken.Unjudged met)) = true
is_unjudged (groups_fault.Stopped (broken.Begun met)) = false

-- nothing of the call was begun at its group
abbrev pub is_not_begun : {F : Type 0} → Result Framed (AnswerError F) → Bool
is_not_begun (Ok (framed.Refused why)) = true
is_not_begun (Err (error.Groups met)) = is_unjudged met
is_not_begun answered = false

-- the answer, but for why a membership is refused
abbrev pub without_why : {T F : Type 0} → Result T (Fault F) → Result T (Fault F)
without_why (Ok x) = Ok x
without_why (Err (fault.Membership why)) = Err (fault.Membership None)
without_why (Err other) = Err other

-- where a membership is refused, it is for this
abbrev pub HasWhy : {F : Type 0} → Option MembershipFault → Fault F → Type 0
HasWhy known (fault.Membership why) = why ≡ known
HasWhy known other = Unit {0}

-- the answer to the call, but for why a set-up's membership is refused
abbrev pub without_its_why : {T F : Type 0} → GroupCall → Result T (Fault F) → Result T (Fault F)
without_its_why (Initialize membership) result = without_why result
without_its_why call result = result

-- a set-up's membership is refused for what is wrong with it
abbrev pub HasItsWhy : {F : Type 0} → GroupCall → Fault F → Type 0
HasItsWhy (Initialize membership) why = HasWhy (membership_fault_of membership) why
HasItsWhy call why = Unit {0}
