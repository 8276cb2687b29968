-- What a node answers to an event of a group, in the plain values of a cluster's history.
use Rattle.std.specs.Prelude.{◌≡◌, ℕ, Bool, true, false, List, [], ◌∷◌, ◌++◌, map, Option, Some, None, Result, Ok, Err}
use Rattle.std.specs.List.{AllZip}
use Rattle.raft_group_step.specs.Message.{Message}
use Rattle.raft_group_step.specs.StepResult.{BreaksCondition, CommandTooLong, GroupExists, InProgress, MembershipRefused, NotAllowed}
use Rattle.raft_group_step.specs.StepResult.{NotLeader, NotVoter, NumberAtEnd, UnknownGroup, VoterChange, WrongParty}
use Rattle.raft_group_step.specs.StoredGroup.{Snapshot}
use Rattle.raft_messages.specs.declared.memberships.SnapshotBytes.{SnapshotBytes}
use Rattle.raft_messages.specs.declared.message.Message.{Message as Sent}
use Rattle.raft_executor.specs.Said.{Says}
use Rattle.raft_wire.specs.Frames.{FitsFrame, spelled_frame}
use Rattle.raft_framed_groups.specs.Frames.{frame_with}
use Rattle.raft_framed_groups.specs.declared.frames.GroupFrame.{GroupFrame}
use Rattle.raft_headline.specs.ClusterEvent.{ClusterOutcome, Done, PassedOver, Refused, Said, Stopped, Unknown}
use Rattle.raft_headline.specs.Naming.{names_in, unknown_in}
use Rattle.raft_list_facts.specs.Accepting.{accepted_in}
use Rattle.raft_machines.specs.declared.telling.Told.{Told}
use Rattle.raft_node_faults.specs.declared.fault.Cause.{Cause}
use Rattle.raft_node_faults.specs.declared.fault.Cause.TheVariants as cause
use Rattle.raft_node_faults.specs.declared.fault.Fault.{Fault}
use Rattle.raft_node_faults.specs.declared.fault.Fault.TheVariants as fault
use Rattle.raft_machines.specs.declared.telling.UnknownTokens.{UnknownTokens}
use Rattle.raft_node.specs.declared.outcome.Outcome.{Outcome}

-- ---- tokens that stay unknown

-- behind an event that was done, a stop names first those of the event, of which nobody is told
abbrev pub names_behind : Outcome → List UnknownTokens → List Unknown
names_behind o unknown = unknown_in o.group (map (λ (t : Told). t.token) o.told.items ++ o.unknown.items) ++ names_in unknown

-- ---- faults

-- A node that has failed passes events over. Nothing is too large for a batch, and no frame that was sent makes a stream that
-- says none
abbrev pub outcome_of_fault : {F : Type 0} → Fault F → Option ClusterOutcome
outcome_of_fault (fault.NotLeader leader) = Some (Refused (NotLeader leader))
outcome_of_fault fault.UnknownGroup = Some (Refused UnknownGroup)
outcome_of_fault fault.GroupExists = Some (Refused GroupExists)
outcome_of_fault fault.NotAllowed = Some (Refused NotAllowed)
outcome_of_fault fault.NotVoter = Some (Refused NotVoter)
outcome_of_fault (fault.Membership why) = Some (Refused MembershipRefused)
outcome_of_fault fault.VoterChange = Some (Refused VoterChange)
outcome_of_fault fault.InProgress = Some (Refused InProgress)
outcome_of_fault fault.CommandTooLong = Some (Refused CommandTooLong)
outcome_of_fault fault.NumberAtEnd = Some (Refused NumberAtEnd)
outcome_of_fault fault.Failed = Some PassedOver
outcome_of_fault fault.WrongParty = Some (Refused WrongParty)
outcome_of_fault fault.TooMuchForBatch = None
outcome_of_fault fault.BreaksCondition = Some (Refused BreaksCondition)
outcome_of_fault (fault.Frame why) = None
outcome_of_fault (fault.Stopped why unknown) = Some (Stopped (names_in unknown.items))

-- the node stopped before it was known whether the event is refused
abbrev pub is_unjudged : {F : Type 0} → Cause F → Bool
is_unjudged cause.Memory = false
is_unjudged cause.Unjudged = true
is_unjudged (cause.Storage met) = false
is_unjudged (cause.Frame why) = false

abbrev pub stops_unjudged : {T F : Type 0} → Result T (Fault F) → Bool
stops_unjudged (Ok o) = false
stops_unjudged (Err (fault.Stopped why unknown)) = is_unjudged why
stops_unjudged (Err why) = false

-- ---- frames

-- the bytes are the one spelling of a frame of the group, within its limits, and say the message
pub record Spells (stands : SnapshotBytes → Snapshot → Type 0) (group : ℕ) (m : Message) (bytes : List ℕ) : Type 0 where
  pub sent : Sent SnapshotBytes
  pub says : Says stands sent m
  pub fits : FitsFrame (frame_with group sent)
  pub spelled : bytes ≡ spelled_frame (frame_with group sent)

-- the frame is the group's, brings the message to its addressee, and tells what that accepts
pub record IsFrameOf (stands : SnapshotBytes → Snapshot → Type 0) (group : ℕ) (frame : GroupFrame) (m : Message) : Type 0 where
  pub of_group : frame.group ≡ group
  pub addressee : m.addressee ≡ frame.addressee
  pub spelled : Spells stands group m frame.bytes.items
  pub accepts : frame.accepts ≡ accepted_in m.body

-- ---- an event of a group

module _ (stands : SnapshotBytes → Snapshot → Type 0) (group : ℕ) where
  -- the outcome says this of its group
  pub record SaysOf (o : Outcome) (said : Said) : Type 0 where
    pub sent : AllZip (IsFrameOf stands group) o.frames.items said.sent
    pub told : said.told ≡ o.told.items
    pub unknown : said.unknown ≡ o.unknown.items

  abbrev pub SaysCall : {F : Type 0} → Result Outcome (Fault F) → ClusterOutcome → Type 0
  SaysCall (Ok o) happened = (o.group ≡ group) × (said : Said) × SaysOf o said × (happened ≡ Done said)
  SaysCall (Err why) happened = outcome_of_fault why ≡ Some happened
