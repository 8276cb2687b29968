-- A cluster's records in the plain values of a history.
use Rattle.std.specs.Prelude.{◌≡◌, ◌+◌, ℕ, List, [], ◌∷◌, ◌++◌, length, map, slice_get, Option, Some, IfSome}
use Rattle.std.specs.List.{AllZip}
use Rattle.std.specs.Option.{option_map}
use Rattle.raft_group_step.specs.Message.{Message}
use Rattle.raft_list_facts.specs.Accepting.{accepted_in}
use Rattle.raft_sent_frames.specs.declared.frame.SentFrame.{SentFrame}
use Rattle.raft_sent_frames.specs.declared.frame.SentNumber.{SentNumber}
use Rattle.raft_cluster_events.specs.declared.event.ClusterEvent.{ClusterEvent}
use Rattle.raft_cluster_events.specs.declared.event.ClusterEvent.TheVariants as event
use Rattle.raft_cluster_events.specs.declared.outcome.EventOutcome.{EventOutcome}
use Rattle.raft_cluster_events.specs.declared.outcome.EventOutcome.TheVariants as outcome
use Rattle.raft_cluster_events.specs.declared.outcome.GroupOutcome.{GroupOutcome}
use Rattle.raft_cluster_events.specs.declared.outcome.Recorded.{Recorded}
use Rattle.raft_headline.specs.ClusterEvent.{AddGroup, Ask, Clean, Crash, Deliver, Fuse, Reopen, ResetPeer}
use Rattle.raft_headline.specs.ClusterEvent.{ClusterEvent as PlainEvent, ClusterOutcome as PlainOutcome, Recorded as PlainRecord}
use Rattle.raft_headline.specs.ClusterEvent.{Done, Opened, Said, Stopped, TurnedAway, silent}
use Rattle.raft_cluster_laws.specs.Along.{sent_by}
use Rattle.raft_node_laws.specs.Saying.{AreRising, IsToldAs, names_of, outcome_of_refusal}

-- ---- events

-- where a frame is cut, which call of the files is refused first, what a crash leaves and who opens isn't said
abbrev pub plain_event : ClusterEvent → PlainEvent
plain_event (event.AddGroup node group) = AddGroup node group
plain_event (event.Ask node group call now) = Ask node group call now
plain_event (event.Deliver group number cuts now) = Deliver group number now
plain_event (event.ResetPeer node peer) = ResetPeer node peer
plain_event (event.Clean node) = Clean node
plain_event (event.Fuse node first_refused) = Fuse node
plain_event (event.Crash node choice) = Crash node
plain_event (event.Reopen node workers) = Reopen node

-- the node that an event is for, behind this history; none where it delivers what wasn't sent
abbrev pub node_behind : List PlainRecord → ClusterEvent → Option ℕ
node_behind before (event.AddGroup node group) = Some node
node_behind before (event.Ask node group call now) = Some node
node_behind before (event.Deliver group number cuts now) = option_map (λ (m : Message). m.addressee) (slice_get (sent_by group before) number)
node_behind before (event.ResetPeer node peer) = Some node
node_behind before (event.Clean node) = Some node
node_behind before (event.Fuse node first_refused) = Some node
node_behind before (event.Crash node choice) = Some node
node_behind before (event.Reopen node workers) = Some node

-- ---- outcomes

-- the messages by their numbers, of which the first is this one
abbrev pub numbered_from : ℕ → List Message → List SentNumber
numbered_from number [] = []
numbered_from number (m ∷ ms) = record { peer = m.addressee; number = number } ∷ numbered_from (number + 1) ms

-- what was sent are the group's next messages, and what was told and stays unknown is the same
pub record IsPartAs (before : List PlainRecord) (part : GroupOutcome) (said : Said) : Type 0 where
  pub sent : part.sent ≡ numbered_from (length (sent_by part.group before)) said.sent
  pub told : said.told ≡ part.told
  pub unknown : said.unknown ≡ part.unknown

-- an event of one group was done there
pub record IsDoneAs (before : List PlainRecord) (group : ℕ) (parts : List GroupOutcome) (o : PlainOutcome) : Type 0 where
  pub part : GroupOutcome
  pub said : Said
  pub one : parts ≡ part ∷ []
  pub of_group : part.group ≡ group
  pub same : IsPartAs before part said
  pub done : o ≡ Done said

-- nothing was done that is said
pub record IsDoneSilently (parts : List GroupOutcome) (o : PlainOutcome) : Type 0 where
  pub none : parts ≡ []
  pub done : o ≡ Done silent

-- an opening has a part for each group
pub record IsOpenedAs (before : List PlainRecord) (parts : List GroupOutcome) (o : PlainOutcome) : Type 0 where
  pub all : List (ℕ × Said)
  pub same : AllZip (λ (part : GroupOutcome) (said : ℕ × Said). (said.0 ≡ part.group) × IsPartAs before part said.1) parts all
  pub opened : o ≡ Opened all

abbrev pub DoneAs : List PlainRecord → ClusterEvent → List GroupOutcome → PlainOutcome → Type 0
DoneAs before (event.AddGroup node group) parts o = IsDoneAs before group parts o
DoneAs before (event.Ask node group call now) parts o = IsDoneAs before group parts o
DoneAs before (event.Deliver group number cuts now) parts o = IsDoneAs before group parts o
DoneAs before (event.ResetPeer node peer) parts o = IsDoneSilently parts o
DoneAs before (event.Clean node) parts o = ⊥
DoneAs before (event.Fuse node first_refused) parts o = IsDoneSilently parts o
DoneAs before (event.Crash node choice) parts o = IsDoneSilently parts o
DoneAs before (event.Reopen node workers) parts o = IsOpenedAs before parts o

-- a node was cleaned: its groups are as before, and those that hold old files back rise
pub record IsCleanedAs (groups : List ℕ) (o : PlainOutcome) : Type 0 where
  pub rising : AreRising groups
  pub done : o ≡ Done silent

abbrev pub CleanedAs : ClusterEvent → List ℕ → PlainOutcome → Type 0
CleanedAs (event.AddGroup node group) groups o = ⊥
CleanedAs (event.Ask node group call now) groups o = ⊥
CleanedAs (event.Deliver group number cuts now) groups o = ⊥
CleanedAs (event.ResetPeer node peer) groups o = ⊥
CleanedAs (event.Clean node) groups o = IsCleanedAs groups o
CleanedAs (event.Fuse node first_refused) groups o = ⊥
CleanedAs (event.Crash node choice) groups o = ⊥
CleanedAs (event.Reopen node workers) groups o = ⊥

abbrev pub OutcomeAs : List PlainRecord → ClusterEvent → EventOutcome → PlainOutcome → Type 0
OutcomeAs before happened (outcome.Done parts) o = DoneAs before happened parts o
OutcomeAs before happened (outcome.Cleaned groups) o = CleanedAs happened groups o
OutcomeAs before happened (outcome.Refused why) o = outcome_of_refusal why ≡ Some o
OutcomeAs before happened (outcome.Stopped stop) o = o ≡ Stopped (names_of stop)
OutcomeAs before happened (outcome.TurnedAway why) o = o ≡ TurnedAway

-- ---- histories

pub record IsRecordedAs (before : List PlainRecord) (real : Recorded) (plain : PlainRecord) : Type 0 where
  pub event : IsToldAs (plain_event real.event) plain.node plain.outcome plain.event
  pub node : IfSome (node_behind before real.event) (λ n. plain.node ≡ n)
  pub outcome : OutcomeAs before real.event real.outcome plain.outcome

-- behind this history, one for one
abbrev pub AreRecordedAs : List PlainRecord → List Recorded → List PlainRecord → Type 0
AreRecordedAs before [] [] = Unit {0}
AreRecordedAs before [] (p ∷ ps) = ⊥
AreRecordedAs before (r ∷ rs) [] = ⊥
AreRecordedAs before (r ∷ rs) (p ∷ ps) = IsRecordedAs before r p × AreRecordedAs (before ++ p ∷ []) rs ps

-- a node that can't be opened at first is one that crashes before anything else
abbrev pub crashes_of : List ℕ → List PlainRecord
crashes_of ids = map (λ (n : ℕ). record { event = Crash n; node = n; outcome = Done silent }) ids

-- so a history is reported, where these nodes couldn't be opened at first
pub record IsReport (downs : List ℕ) (history : List Recorded) (plain : List PlainRecord) : Type 0 where
  pub rest : List PlainRecord
  pub begins : plain ≡ crashes_of downs ++ rest
  pub same : AreRecordedAs (crashes_of downs) history rest

-- a frame that was sent says its message, and tells what that accepts
pub record IsSentAs (spells : ℕ → Message → List ℕ → Type 0) (group : ℕ) (frame : SentFrame) (m : Message) : Type 0 where
  pub sender : frame.sender ≡ m.sender
  pub addressee : frame.peer ≡ m.addressee
  pub spelled : spells group m frame.bytes
  pub accepts : frame.accepts ≡ accepted_in m.body
