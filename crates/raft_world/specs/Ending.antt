-- What an event left at its member, told of any state that the member was in, and in the world.
use Rattle.std.specs.Prelude.{◌≡◌, ℕ, true, List, ◌++◌, map, Option, Some, None, is_some, unwrap_or, Result, Ok, Err}
use Rattle.raft_conditions.specs.Reason.{reason_of}
use Rattle.raft_group_step.specs.GroupState.{Untold}
use Rattle.raft_group_step.specs.Values.{Membership}
use Rattle.raft_messages.specs.Messages.{message_of}
use Rattle.raft_group_step.specs.StoredGroup.{Snapshot}
use Rattle.raft_messages.specs.declared.message.Message.{Message as SentMessage}
use Rattle.raft_laws.specs.GroupWorld.{GroupWorld, NodeState, Absent, Up, Down, Outcome, Done, Refused, Stopped, Skipped, is_stop, with_node_state}
use Rattle.raft_laws.specs.GroupRun.{ended, led_by, stop_at, setup_in}
use Rattle.raft_laws.specs.NodeEvent.{NodeEvent, outcome_at, state_after}
use Rattle.raft_laws.specs.declared.world_event.WorldEvent.{WorldEvent}
use Rattle.raft_world.specs.Settled.{led_of}
use Rattle.raft_world.specs.Member.{IsAt}
use Rattle.raft_world.specs.World.{AreNodes, IsMarkOf, IsWorldOf}
use Rattle.raft_world.specs.declared.member.Member.{Member}
use Rattle.raft_world.specs.Member.{Ended}
use Rattle.raft_member.specs.declared.member.Ended.TheVariants as end_of
use Rattle.raft_world.specs.declared.world.Mark.{Mark}
use Rattle.raft_world.specs.declared.world.World.{World}

-- what the event's end says of an outcome
abbrev pub IsEndOf : Ended → Outcome → Type 0
IsEndOf (end_of.Done sent) o = (told : List Untold) × (unknown : List ℕ) × (o ≡ Done (map message_of sent.items) told unknown)
IsEndOf (end_of.Refused why) o = o ≡ Refused (reason_of why)
IsEndOf end_of.Stopped o = (unknown : List ℕ) × (o ≡ Stopped unknown)
IsEndOf end_of.Skipped o = o ≡ Skipped

-- the event came to the node, which was in this state
pub record EndsAt (n : ℕ) (e : NodeEvent) (stop : Option ℕ) (state : NodeState) (m : Member) (end : Ended) : Type 0 where
  pub outcome : IsEndOf end (outcome_at n e (is_some stop) state)
  pub after : IsAt m (state_after n e (stop_at (is_stop (outcome_at n e (is_some stop) state)) (unwrap_or stop 0)) state)

-- the event stopped after so many of its storing commands
pub record BreaksAt (n : ℕ) (e : NodeEvent) (state : NodeState) (m : Member) : Type 0 where
  pub number : ℕ
  pub unknown : List ℕ
  pub outcome : outcome_at n e true state ≡ Stopped unknown
  pub after : IsAt m (state_after n e (Some number) state)

-- the event ended at the member, or broke off there
abbrev pub ComesTo : {E : Type 0} → ℕ → NodeEvent → Option ℕ → NodeState → Member → Result Ended E → Type 0
ComesTo n e stop state m (Ok end) = EndsAt n e stop state m end
ComesTo n e stop state m (Err met) = BreaksAt n e state m

-- the world but for the node of the event, which is in this state
pub record IsWorldBut (w : World) (g : GroupWorld) (n : ℕ) (state : NodeState) : Type 0 where
  pub nodes : AreNodes w.members.items (with_node_state n state g.nodes)
  pub messages : map message_of w.messages.items ≡ g.messages
  pub setup : w.setup ≡ g.setup
  pub led : map led_of w.led.items ≡ g.led

-- the membership that the event sets the group up with, where it isn't set up yet
abbrev pub first_setup : Option Membership → WorldEvent → Option Membership
first_setup (Some known) e = None
first_setup None e = setup_in e

-- from now on this is the set-up, where it is one
abbrev pub set_up_with : Option Membership → Option Membership → Option Membership
set_up_with None known = known
set_up_with (Some first) known = Some first

-- a node that goes down in this state
abbrev pub down_of : NodeState → NodeState
down_of Absent = Absent
down_of (Up s) = Down s.stored
down_of (Down stored) = Down stored

-- the node went down before what the event left there was noted: a done event stopped, and a refused one is forgotten
abbrev pub IsCut : World → GroupWorld → WorldEvent → ℕ → NodeState → Outcome → Type 0
IsCut w g e n state (Done sent told unknown) = (lost : List ℕ) → IsWorldOf w (ended g e (Stopped lost) n (down_of state))
IsCut w g e n state (Refused why) = IsWorldBut w g n (down_of state)
IsCut w g e n state (Stopped unknown) = ⊥
IsCut w g e n state Skipped = ⊥

-- what the event leaves in the world, beside its node
abbrev pub HasConcluded : {E : Type 0} → GroupWorld → WorldEvent → ℕ → NodeState → Outcome → World → Result Mark E → Type 0
HasConcluded g e n state o w (Ok mark) = IsWorldOf w (ended g e o n state) × IsMarkOf mark o
HasConcluded g e n state o w (Err met) = IsCut w g e n state o

-- the messages and the note of an event stand behind the others
pub record IsSent (old new : World) (n : ℕ) (state : NodeState) (sent : List (SentMessage Snapshot)) : Type 0 where
  pub messages : new.messages.items ≡ old.messages.items ++ sent
  pub led : map led_of new.led.items ≡ map led_of old.led.items ++ led_by n state
