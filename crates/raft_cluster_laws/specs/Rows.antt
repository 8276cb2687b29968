-- Small histories and nodes of worked rows: node 1, groups 7 and 9.
use Rattle.std.specs.Prelude.{ℕ, true, List, [], ◌∷◌, None}
use Rattle.raft_values.specs.Vote.{vote_of}
use Rattle.raft_group_step.specs.Values.{Membership}
use Rattle.raft_group_step.specs.StoredGroup.{StoredGroup}
use Rattle.raft_group_step.specs.Message.{Message, VoteReply}
use Rattle.raft_group_step.specs.GroupState.{GroupState, no_group, state_of}
use Rattle.raft_group_step.specs.declared.group_call.GroupCall.TheVariants.{Initialize}
use Rattle.raft_group_step.specs.GroupEvent.{AddGroup as Added, Call}
use Rattle.raft_laws.specs.declared.world_event.WorldEvent.TheVariants as event
use Rattle.raft_laws.specs.Example.{membership_of}
use Rattle.raft_laws.specs.GroupRun.{Scene}
use Rattle.raft_laws.specs.GroupWorld.{NodeState, Up}
use Rattle.raft_laws.specs.NodeEvent.{Comes, NodeEvent}
use Rattle.raft_laws.specs.OneVoter.{one}
use Rattle.raft_machines.specs.Adding.{adding}
use Rattle.raft_headline.specs.ClusterEvent.{AddGroup, Ask, ClusterOutcome, Crash, Done, Recorded}
use Rattle.raft_headline.specs.ClusterEvent.{Said, Stopped, Unknown, silent}
use Rattle.raft_headline.specs.Rows.{at_one, waits}
use Rattle.raft_cluster_laws.specs.Acts.{ActsAt, CrashesAt, HaltsAt}
use Rattle.raft_cluster_laws.specs.Along.{scene_behind}

abbrev pub of_one : Membership
of_one = membership_of one []

abbrev pub of_two : Membership
of_two = membership_of (1 ∷ 2 ∷ []) []

-- the group is set up at node 1 with a membership
abbrev pub set_up : ℕ → Membership → ClusterOutcome → Recorded
set_up group m o = at_one (Ask 1 group (Initialize m) 0) o

-- node 2 is asked to set a group up
abbrev pub asks : Membership → NodeEvent
asks m = Comes (Call (Initialize m) 5)

-- where that happens once node 1 has set up group 7 with one voter
abbrev pub asked_behind : ℕ → Membership → Scene
asked_behind group m =
    scene_behind group (set_up 7 of_one (Done silent) ∷ []) (event.Ask 2 (Initialize m) 5)

abbrev pub a_message : Message
a_message = record { sender = 1; addressee = 2; body = VoteReply (vote_of 1 2 true) true None }

abbrev pub sends : Said
sends = record silent { sent = a_message ∷ [] }

-- the group at node 1, in which token 3 waits for place 2
abbrev pub waiting : GroupState
waiting = record (state_of no_group) { untold = waits 3 2 ∷ [] }

-- the node stopped in an event of group 9, and names these
abbrev pub stopped_in_nine : List Unknown → Recorded
stopped_in_nine names = at_one (AddGroup 1 9) (Stopped names)

-- a group that a node has, with nothing in it
abbrev pub made : StoredGroup
made = record no_group { present = true }

-- ---- what node 1 does in group 7, whose machine adds

abbrev pub IsAdded : ClusterOutcome → NodeState → NodeState → Type 0
IsAdded o s t = ActsAt adding 7 1 (at_one (AddGroup 1 7) o) (event.Add 1) (Comes Added) s t

abbrev pub IsHalted : Recorded → NodeState → NodeState → Type 0
IsHalted r s t = HaltsAt adding 7 1 r s t

abbrev pub IsCrashed : ClusterOutcome → NodeState → NodeState → Type 0
IsCrashed o s t = CrashesAt adding 7 1 (at_one (Crash 1) o) s t

abbrev pub nothing : NodeState
nothing = Up (state_of no_group)
