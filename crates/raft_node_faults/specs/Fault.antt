-- The numbers and names of a node's refusals, and which one a group's own becomes.
use Rattle.std.specs.Prelude.{ℕ, List, Option, Some, None, Result, Ok, Err, codes}
use Rattle.raft_conditions.specs.declared.refusal.Refusal.{Refusal}
use Rattle.raft_conditions.specs.declared.refusal.Refusal.TheVariants as refusal
use Rattle.raft_member.specs.declared.member.Broken.{Broken}
use Rattle.raft_member.specs.declared.member.Broken.TheVariants as broken
use Rattle.raft_node_faults.specs.declared.fault.Cause.{Cause}
use Rattle.raft_node_faults.specs.declared.fault.Cause.TheVariants as cause
use Rattle.raft_node_faults.specs.declared.fault.Fault.{Fault}
use Rattle.raft_node_faults.specs.declared.fault.Fault.TheVariants as fault

module _ {F : Type 0} where
  abbrev pub number_of : Fault F → ℕ
  number_of (fault.NotLeader leader) = 1
  number_of fault.UnknownGroup = 2
  number_of fault.GroupExists = 3
  number_of fault.NotAllowed = 4
  number_of fault.NotVoter = 5
  number_of (fault.Membership why) = 6
  number_of fault.VoterChange = 7
  number_of fault.InProgress = 8
  number_of fault.CommandTooLong = 9
  number_of fault.NumberAtEnd = 10
  number_of fault.Failed = 11
  number_of fault.WrongParty = 12
  number_of fault.TooMuchForBatch = 13
  number_of fault.BreaksCondition = 14
  number_of (fault.Frame why) = 15
  number_of (fault.Stopped why unknown) = 16

  abbrev pub name_of : Fault F → List ℕ
  name_of (fault.NotLeader leader) = codes "NotLeader"
  name_of fault.UnknownGroup = codes "UnknownGroup"
  name_of fault.GroupExists = codes "GroupExists"
  name_of fault.NotAllowed = codes "NotAllowed"
  name_of fault.NotVoter = codes "NotVoter"
  name_of (fault.Membership why) = codes "Membership"
  name_of fault.VoterChange = codes "VoterChange"
  name_of fault.InProgress = codes "InProgress"
  name_of fault.CommandTooLong = codes "CommandTooLong"
  name_of fault.NumberAtEnd = codes "NumberAtEnd"
  name_of fault.Failed = codes "Failed"
  name_of fault.WrongParty = codes "WrongParty"
  name_of fault.TooMuchForBatch = codes "TooMuchForBatch"
  name_of fault.BreaksCondition = codes "BreaksCondition"
  name_of (fault.Frame why) = codes "Frame"
  name_of (fault.Stopped why unknown) = codes "Stopped"

  -- what a node answers where a group refuses an event
  abbrev pub fault_of_refusal : Refusal ℕ → Fault F
  fault_of_refusal (refusal.NotLeader leader) = fault.NotLeader leader
  fault_of_refusal refusal.UnknownGroup = fault.UnknownGroup
  fault_of_refusal refusal.GroupExists = fault.GroupExists
  fault_of_refusal refusal.NotAllowed = fault.NotAllowed
  fault_of_refusal refusal.NotVoter = fault.NotVoter
  fault_of_refusal refusal.MembershipRefused = fault.Membership None
  fault_of_refusal refusal.VoterChange = fault.VoterChange
  fault_of_refusal refusal.InProgress = fault.InProgress
  fault_of_refusal refusal.CommandTooLong = fault.CommandTooLong
  fault_of_refusal refusal.NumberAtEnd = fault.NumberAtEnd
  fault_of_refusal refusal.WrongParty = fault.WrongParty
  fault_of_refusal refusal.BreaksCondition = fault.BreaksCondition

  -- why a group's event broke off
  abbrev pub cause_of : Broken F → Cause F
  cause_of (broken.Unjudged met) = cause.Unjudged
  cause_of (broken.Begun met) = cause.Storage met

  -- the storage's fault that is the cause, if one is
  abbrev pub storage_fault_in : Cause F → Option F
  storage_fault_in cause.Memory = None
  storage_fault_in cause.Unjudged = None
  storage_fault_in (cause.Storage why) = Some why
  storage_fault_in (cause.Frame why) = None

  -- of a stop
  abbrev pub storage_fault_of : Fault F → Option F
  storage_fault_of (fault.Stopped why unknown) = storage_fault_in why
  storage_fault_of other = None

  -- none where the call is done
  abbrev pub fault_met_by_node : {T : Type 0} → Result T (Fault F) → Option F
  fault_met_by_node (Ok x) = None
  fault_met_by_node (Err why) = storage_fault_of why
