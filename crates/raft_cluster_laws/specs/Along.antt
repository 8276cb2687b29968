-- What a history of the cluster says of a group: what its nodes sent, and how it was set up.
use Rattle.std.specs.Prelude.{ℕ, ◌==◌, Bool, true, false, List, [], ◌∷◌, ◌++◌, Option, None}
use Rattle.std.specs.Option.{option_or}
use Rattle.raft_group_step.specs.Values.{Membership}
use Rattle.raft_group_step.specs.Message.{Message}
use Rattle.raft_group_step.specs.GroupEvent.{GroupCall}
use Rattle.raft_laws.specs.declared.world_event.WorldEvent.{WorldEvent}
use Rattle.raft_laws.specs.GroupWorld.{GroupWorld, new_world}
use Rattle.raft_laws.specs.GroupRun.{Scene, scene_of, setup_in_call}
use Rattle.raft_headline.specs.ClusterEvent.{ClusterEvent, AddGroup, Ask, Deliver, ResetPeer, Clean, Fuse, Crash, Reopen, Halt, ClusterOutcome, Recorded}
use Rattle.raft_headline.specs.Told.{is_taken, said_by}

-- the group's messages, numbered from 0 in the order of sending
abbrev pub sent_by : ℕ → List Recorded → List Message
sent_by h [] = []
sent_by h (r ∷ rs) = (said_by h r.event r.outcome).sent ++ sent_by h rs

-- the membership that a call sets a group up with, if it was taken
abbrev pub setup_if : Bool → Bool → GroupCall → Option Membership
setup_if true true call = setup_in_call call
setup_if true false call = None
setup_if false taken call = None

abbrev pub setup_asked : ℕ → ClusterEvent → ClusterOutcome → Option Membership
setup_asked h (AddGroup n g) o = None
setup_asked h (Ask n g call now) o = setup_if (g == h) (is_taken o) call
setup_asked h (Deliver g number now) o = None
setup_asked h (ResetPeer n peer) o = None
setup_asked h (Clean n) o = None
setup_asked h (Fuse n) o = None
setup_asked h (Crash n) o = None
setup_asked h (Reopen n) o = None
setup_asked h (Halt n) o = None

-- the first that was taken: one that stopped counts
abbrev pub setup_by : ℕ → List Recorded → Option Membership
setup_by h [] = None
setup_by h (r ∷ rs) = option_or (setup_asked h r.event r.outcome) (setup_by h rs)

-- what of a world says where its next event happens
abbrev pub world_seen : Option Membership → List Message → GroupWorld
world_seen setup messages = record (new_world []) { messages = messages; setup = setup }

-- where the group's next event happens after this history
abbrev pub scene_behind : ℕ → List Recorded → WorldEvent → Scene
scene_behind h history e = scene_of (world_seen (setup_by h history) (sent_by h history)) e
