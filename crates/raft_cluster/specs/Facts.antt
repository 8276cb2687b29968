-- What of an event decides whether the cluster turns it away.
use Rattle.std.specs.Prelude.{ℕ, ◌==◌, Bool, true, false, not, List, [], ◌∷◌, length, Option, Some, None, position, slice_get}
use Rattle.std.specs.List.{find}
use Rattle.std.specs.Option.{option_map}
use Rattle.raft_group_step.specs.Values.{Membership, membership_eq}
use Rattle.raft_group_step.specs.GroupEvent.{GroupCall}
use Rattle.raft_group_step.specs.declared.group_call.GroupCall.TheVariants.{Initialize, Elect, Propose, ChangeMembership, Heartbeat, Lost, TriggerSnapshot, TriggerPurge}
use Rattle.raft_cluster_conditions.specs.declared.reasons.Asked.{Asked}
use Rattle.raft_cluster_conditions.specs.declared.reasons.Asked.TheVariants as asked
use Rattle.raft_cluster_conditions.specs.declared.reasons.NodeStanding.{NodeStanding}
use Rattle.raft_cluster_conditions.specs.declared.reasons.NodeStanding.TheVariants.{Missing, Down, Up}
use Rattle.raft_sent_frames.specs.declared.frame.SentFrame.{SentFrame}
use Rattle.raft_cluster_events.specs.declared.event.ClusterEvent.{ClusterEvent}
use Rattle.raft_cluster_events.specs.declared.event.ClusterEvent.TheVariants.{AddGroup, Ask, Deliver, ResetPeer, Clean, Fuse, Crash, Reopen}
use Rattle.raft_cluster_events.specs.declared.outcome.EventOutcome.{EventOutcome}
use Rattle.raft_cluster_events.specs.declared.outcome.EventOutcome.TheVariants.{Cleaned, Done, Refused, Stopped, TurnedAway}
use Rattle.raft_cluster_events.specs.declared.outcome.Recorded.{Recorded}
use Rattle.raft_cluster_events.specs.Node.{NodeActs}

-- what was sent in a group
abbrev pub Sent : Type 0
Sent = ℕ → List SentFrame

-- the frame that an event delivers, if it was sent
abbrev pub delivered : Sent → ClusterEvent → Option SentFrame
delivered sent (AddGroup node group) = None
delivered sent (Ask node group call now) = None
delivered sent (Deliver group number cuts now) = slice_get (sent group) number
delivered sent (ResetPeer node peer) = None
delivered sent (Clean node) = None
delivered sent (Fuse node first_refused) = None
delivered sent (Crash node choice) = None
delivered sent (Reopen node workers) = None

-- the node that an event is for; none where it delivers a frame that wasn't sent
abbrev pub node_of : Sent → ClusterEvent → Option ℕ
node_of sent (AddGroup node group) = Some node
node_of sent (Ask node group call now) = Some node
node_of sent (Deliver group number cuts now) = option_map (λ (frame : SentFrame). frame.peer) (slice_get (sent group) number)
node_of sent (ResetPeer node peer) = Some node
node_of sent (Clean node) = Some node
node_of sent (Fuse node first_refused) = Some node
node_of sent (Crash node choice) = Some node
node_of sent (Reopen node workers) = Some node

-- where an event's frame is cut
abbrev pub cuts_of : ClusterEvent → List ℕ
cuts_of (AddGroup node group) = []
cuts_of (Ask node group call now) = []
cuts_of (Deliver group number cuts now) = cuts
cuts_of (ResetPeer node peer) = []
cuts_of (Clean node) = []
cuts_of (Fuse node first_refused) = []
cuts_of (Crash node choice) = []
cuts_of (Reopen node workers) = []

-- ---- set-ups

-- it was neither refused nor turned away
abbrev pub is_taken : EventOutcome → Bool
is_taken (Done parts) = true
is_taken (Cleaned groups) = true
is_taken (Refused why) = false
is_taken (Stopped stop) = true
is_taken (TurnedAway why) = false

abbrev pub membership_in : GroupCall → Option Membership
membership_in (Initialize membership) = Some membership
membership_in Elect = None
membership_in (Propose command token) = None
membership_in (ChangeMembership change token) = None
membership_in Heartbeat = None
membership_in (Lost peer) = None
membership_in TriggerSnapshot = None
membership_in (TriggerPurge place) = None

abbrev pub set_up_if : Bool → Bool → Option Membership → Option Membership
set_up_if true true membership = membership
set_up_if true false membership = None
set_up_if false taken membership = None

abbrev pub set_up_by_event : ℕ → ClusterEvent → Bool → Option Membership
set_up_by_event group (Ask node g call now) taken = set_up_if (g == group) taken (membership_in call)
set_up_by_event group (AddGroup node g) taken = None
set_up_by_event group (Deliver g number cuts now) taken = None
set_up_by_event group (ResetPeer node peer) taken = None
set_up_by_event group (Clean node) taken = None
set_up_by_event group (Fuse node first_refused) taken = None
set_up_by_event group (Crash node choice) taken = None
set_up_by_event group (Reopen node workers) taken = None

-- the membership with which a record set up the group, if it did
abbrev pub set_up_by : ℕ → Recorded → Option Membership
set_up_by group recorded = set_up_by_event group recorded.event (is_taken recorded.outcome)

abbrev pub differs_from : Membership → Option Membership → Bool → Bool
differs_from membership (Some first) others = not (membership_eq first membership)
differs_from membership None others = others

-- the first set-up of the group that was taken names another membership
abbrev pub differs : List Recorded → ℕ → Membership → Bool
differs [] group membership = false
differs (recorded ∷ history) group membership =
    differs_from membership (set_up_by group recorded) (differs history group membership)

-- ---- what is asked, and of whom

abbrev pub set_up_asked : List Recorded → ℕ → Option Membership → Asked
set_up_asked history group (Some membership) = asked.SetUp (differs history group membership)
set_up_asked history group None = asked.Call

abbrev pub asked_of : List Recorded → Sent → ClusterEvent → Asked
asked_of history sent (AddGroup node group) = asked.Call
asked_of history sent (Ask node group call now) = set_up_asked history group (membership_in call)
asked_of history sent (Deliver group number cuts now) =
    asked.Delivery (option_map (λ (frame : SentFrame). length frame.bytes) (slice_get (sent group) number))
asked_of history sent (ResetPeer node peer) = asked.Call
asked_of history sent (Clean node) = asked.Call
asked_of history sent (Fuse node first_refused) = asked.Fuse
asked_of history sent (Crash node choice) = asked.Crash
asked_of history sent (Reopen node workers) = asked.Reopen

module _ {N : Type 0} (acts : NodeActs N) where
  abbrev pub standing_if : Bool → NodeStanding
  standing_if true = Up
  standing_if false = Down

  abbrev pub standing_of : Option N → NodeStanding
  standing_of None = Missing
  standing_of (Some node) = standing_if (acts.is_up node)

  -- the node of this id, if it is among these
  abbrev pub node_in : List N → ℕ → Option N
  node_in nodes id = find (λ (node : N). acts.id node == id) nodes

  abbrev pub node_at : List N → Option ℕ → Option N
  node_at nodes None = None
  node_at nodes (Some id) = node_in nodes id

-- the node at this place
abbrev pub node_there : {N : Type 0} → List N → Option ℕ → Option N
node_there nodes None = None
node_there nodes (Some place) = slice_get nodes place

-- the place of the first node of this id
abbrev pub place_in : {N : Type 0} → NodeActs N → List N → Option ℕ → Option ℕ
place_in acts nodes None = None
place_in acts nodes (Some id) = position (λ node. acts.id node == id) nodes
