-- What a node answers, in the plain values of a history.
use Rattle.std.specs.Prelude.{◌≡◌, ◌⊎◌, ◌==◌, ℕ, true, false, List, [], ◌∷◌, ◌++◌, map, Option, Some, None, Result, Ok, Err}
use Rattle.std.specs.List.{AllByRecursion, AllZip}
use Rattle.std.specs.List.Sorted.{IsStrictlySortedBy}
use Rattle.std.specs.Ordering.{nat_cmp}
use Rattle.raft_group_step.specs.Message.{Message}
use Rattle.raft_group_step.specs.StepResult.{BreaksCondition, CommandTooLong, GroupExists, InProgress, MembershipRefused, NotAllowed}
use Rattle.raft_group_step.specs.StepResult.{NotLeader, NotVoter, NumberAtEnd, UnknownGroup, VoterChange, WrongParty}
use Rattle.raft_list_facts.specs.Accepting.{accepted_in}
use Rattle.raft_machines.specs.declared.telling.Told.{Told}
use Rattle.raft_sent_frames.specs.declared.frame.NodeFrame.{NodeFrame}
use Rattle.raft_cluster_events.specs.declared.node.NodeOutcome.{NodeOutcome}
use Rattle.raft_cluster_events.specs.declared.outcome.NodeError.{NodeError}
use Rattle.raft_cluster_events.specs.declared.outcome.NodeError.TheVariants as error
use Rattle.raft_cluster_events.specs.declared.outcome.NodeRefusal.{NodeRefusal}
use Rattle.raft_cluster_events.specs.declared.outcome.NodeRefusal.TheVariants as refusal
use Rattle.raft_cluster_events.specs.declared.outcome.Stop.{Stop}
use Rattle.raft_cluster_events.specs.declared.outcome.Unsaid.{Unsaid}
use Rattle.raft_headline.specs.ClusterEvent.{ClusterEvent, ClusterOutcome, Done, Halt, Opened, PassedOver, Refused, Said, Stopped, Unknown, is_stopped, silent}
use Rattle.raft_headline.specs.Naming.{names_in, unknown_in}
use Rattle.raft_node_laws.specs.Answered.{Answered}

-- ---- tokens that stay unknown

abbrev pub names_of_unsaid : Option Unsaid → List Unknown
names_of_unsaid None = []
names_of_unsaid (Some u) = unknown_in u.group (map (λ (t : Told). t.token) u.told ++ u.unknown)

-- those of the event itself waited before the others
abbrev pub names_of : Stop → List Unknown
names_of stop = names_of_unsaid stop.unsaid ++ names_in stop.unknown

-- ---- events

-- an event is told as itself. Where it stopped before it was known whether it is refused, nothing of it was begun, and its token
-- isn't named: it is told as a halt of its node
abbrev pub IsToldAs : ClusterEvent → ℕ → ClusterOutcome → ClusterEvent → Type 0
IsToldAs happened n outcome told = (told ≡ happened) ⊎ ((told ≡ Halt n) × (is_stopped outcome ≡ true))

-- ---- refusals

-- a node that has stopped passes events over; the other reasons are those of the group's step, but for a batch that is too large,
-- which nothing is, and for a stream that says no frame: no frame that was sent makes one
abbrev pub outcome_of_refusal : NodeRefusal → Option ClusterOutcome
outcome_of_refusal (refusal.NotLeader leader) = Some (Refused (NotLeader leader))
outcome_of_refusal refusal.UnknownGroup = Some (Refused UnknownGroup)
outcome_of_refusal refusal.GroupExists = Some (Refused GroupExists)
outcome_of_refusal refusal.NotAllowed = Some (Refused NotAllowed)
outcome_of_refusal refusal.NotVoter = Some (Refused NotVoter)
outcome_of_refusal (refusal.Membership why) = Some (Refused MembershipRefused)
outcome_of_refusal refusal.VoterChange = Some (Refused VoterChange)
outcome_of_refusal refusal.InProgress = Some (Refused InProgress)
outcome_of_refusal refusal.CommandTooLong = Some (Refused CommandTooLong)
outcome_of_refusal refusal.NumberAtEnd = Some (Refused NumberAtEnd)
outcome_of_refusal refusal.Failed = Some PassedOver
outcome_of_refusal refusal.WrongParty = Some (Refused WrongParty)
outcome_of_refusal refusal.TooMuchForBatch = None
outcome_of_refusal refusal.BreaksCondition = Some (Refused BreaksCondition)
outcome_of_refusal refusal.Frame = None

-- the event isn't done
abbrev pub SaysError : NodeError → ClusterOutcome → Type 0
SaysError (error.Refused why) outcome = outcome_of_refusal why ≡ Some outcome
SaysError (error.Stopped stop) outcome = outcome ≡ Stopped (names_of stop)

-- a stream begins anew
abbrev pub SaysReset : Answered → ClusterOutcome → Type 0
SaysReset (Ok outcomes) o = o ≡ Done silent
SaysReset (Err error) o = SaysError error o

-- ---- cleanings

-- the groups that hold old files back, each once
abbrev pub AreRising : List ℕ → Type 0
AreRising groups = IsStrictlySortedBy nat_cmp groups

-- a node's files were cleaned: nothing is said of any group
abbrev pub SaysCleaning : Result (List ℕ) NodeError → ClusterOutcome → Type 0
SaysCleaning (Ok groups) o = AreRising groups × (o ≡ Done silent)
SaysCleaning (Err error) o = SaysError error o

-- ---- what is done

-- no group has two outcomes
abbrev pub IsOnceEach : List NodeOutcome → Type 0
IsOnceEach [] = Unit {0}
IsOnceEach (x ∷ xs) = AllByRecursion (λ (y : NodeOutcome). (x.group == y.group) ≡ false) xs × IsOnceEach xs

-- bytes of a frame of a group say a message, and a node has this id
module _ (spells : ℕ → Message → List ℕ → Type 0) (own : ℕ) where
  -- the frame is the node's own, brings the message to its addressee, and tells what that accepts
  pub record IsFrameOf (group : ℕ) (frame : NodeFrame) (m : Message) : Type 0 where
    pub sender : m.sender ≡ own
    pub addressee : m.addressee ≡ frame.peer
    pub spelled : spells group m frame.bytes
    pub accepts : frame.accepts ≡ accepted_in m.body

  -- an outcome says this of its group
  pub record SaysOf (outcome : NodeOutcome) (said : Said) : Type 0 where
    pub sent : AllZip (IsFrameOf outcome.group) outcome.frames said.sent
    pub told : said.told ≡ outcome.told
    pub unknown : said.unknown ≡ outcome.unknown

  -- an event of one group
  abbrev pub SaysCall : ℕ → Answered → ClusterOutcome → Type 0
  SaysCall group (Ok []) o = ⊥
  SaysCall group (Ok (outcome ∷ [])) o = (outcome.group ≡ group) × (said : Said) × SaysOf outcome said × (o ≡ Done said)
  SaysCall group (Ok (outcome ∷ another ∷ more)) o = ⊥
  SaysCall group (Err error) o = SaysError error o

  pub record IsPart (outcome : NodeOutcome) (part : ℕ × Said) : Type 0 where
    pub group : part.0 ≡ outcome.group
    pub says : SaysOf outcome part.1

  -- an opening
  abbrev pub SaysOpening : Answered → ClusterOutcome → Type 0
  SaysOpening (Ok outcomes) o = IsOnceEach outcomes × (parts : List (ℕ × Said)) × AllZip IsPart outcomes parts × (o ≡ Opened parts)
  SaysOpening (Err error) o = SaysError error o
