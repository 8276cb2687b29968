-- What an event tells stands on the list, and each entry of the list comes from the last event that noted its log id.
use Rattle.std.specs.Prelude.{◌≡◌, ℕ, ◌<◌, ◌==◌, Bool, true, false, List, [], ◌∷◌, slice_get, Some, Contains}
use Rattle.raft_values.specs.declared.log_id.LogId.{LogId}
use Rattle.raft_state.specs.declared.entry.EntryPayload.TheVariants.{Blank, Normal, Membership as Members}
use Rattle.raft_group_step.specs.Values.{Entry, EntryPayload, Membership, after_change}
use Rattle.raft_group_step.specs.declared.group_call.GroupCall.TheVariants.{Initialize, Elect, Propose, ChangeMembership, Heartbeat, Lost, TriggerSnapshot, TriggerPurge}
use Rattle.raft_group_step.specs.GroupEvent.{GroupCall}
use Rattle.raft_group_step.specs.GroupState.{GroupState}
use Rattle.raft_laws.specs.GroupWorld.{GroupWorld, Up, new_world}
use Rattle.raft_laws.specs.Origins.{world_before}
use Rattle.raft_laws.specs.Settled.{group_list}
use Rattle.raft_laws.specs.Stop.{token_of_call}
use Rattle.raft_history_laws.specs.NotedIds.{is_noted, next_id}
use Rattle.raft_machines.specs.Machine.{MachineRules}
use Rattle.raft_headline.specs.ClusterEvent.{ClusterEvent, AddGroup, Ask, Deliver, ResetPeer, Clean, Fuse, Crash, Reopen, Halt, ClusterOutcome, Done}
use Rattle.raft_headline.specs.ClusterEvent.{Opened, Refused, Stopped, Fused, PassedOver, TurnedAway, Recorded, Said, said_of, silent}
use Rattle.raft_machines.specs.declared.telling.Told.{Told}
use Rattle.raft_machines.specs.Fold.{answer_at}
use Rattle.raft_headline.specs.Machines.{Replicas, new_replicas}
use Rattle.raft_headline.specs.OwnEvents.{own_events, own_number}
use Rattle.raft_headline.specs.Replaying.{ReplaysWith}

-- what an event says of the group
abbrev pub said_if : Bool → ClusterOutcome → Said
said_if true (Done said) = said
said_if true (Opened parts) = silent
said_if true (Refused why) = silent
said_if true (Stopped unknown) = silent
said_if true Fused = silent
said_if true PassedOver = silent
said_if true TurnedAway = silent
said_if false o = silent

abbrev pub said_at_opening : ℕ → ClusterOutcome → Said
said_at_opening h (Done said) = silent
said_at_opening h (Opened parts) = said_of h parts
said_at_opening h (Refused why) = silent
said_at_opening h (Stopped unknown) = silent
said_at_opening h Fused = silent
said_at_opening h PassedOver = silent
said_at_opening h TurnedAway = silent

abbrev pub said_by : ℕ → ClusterEvent → ClusterOutcome → Said
said_by h (AddGroup n g) o = said_if (g == h) o
said_by h (Ask n g call now) o = said_if (g == h) o
said_by h (Deliver g number now) o = said_if (g == h) o
said_by h (ResetPeer n peer) o = silent
said_by h (Clean n) o = silent
said_by h (Fuse n) o = silent
said_by h (Crash n) o = silent
said_by h (Reopen n) o = said_at_opening h o
said_by h (Halt n) o = silent

-- what an outcome says of the group that it is of
abbrev pub said_in : ℕ → ClusterOutcome → Said
said_in h (Done said) = said
said_in h (Opened parts) = said_of h parts
said_in h (Refused why) = silent
said_in h (Stopped unknown) = silent
said_in h Fused = silent
said_in h PassedOver = silent
said_in h TurnedAway = silent

-- the entry has what the call asked for
abbrev pub IsAskedFor : GroupCall → EntryPayload → Type 0
IsAskedFor (Initialize m) p = p ≡ Members m
IsAskedFor Elect p = ⊥
IsAskedFor (Propose command token) p = p ≡ Normal command
IsAskedFor (ChangeMembership change token) p = (old : Membership) × (p ≡ Members (after_change old change))
IsAskedFor Heartbeat p = ⊥
IsAskedFor (Lost peer) p = ⊥
IsAskedFor TriggerSnapshot p = ⊥
IsAskedFor (TriggerPurge place) p = ⊥

-- it was neither refused nor passed over. One that stopped was taken
abbrev pub is_taken : ClusterOutcome → Bool
is_taken (Done said) = true
is_taken (Opened parts) = false
is_taken (Refused why) = false
is_taken (Stopped unknown) = true
is_taken Fused = true
is_taken PassedOver = false
is_taken TurnedAway = false

-- ---- the event that a log id comes from

-- the group's world before the event with this number, where these are the numbers of the group's own stops
abbrev pub world_at : List ℕ → ℕ → List Recorded → List ℕ → ℕ → GroupWorld
world_at ids h history numbers number =
    world_before (own_events h history numbers) (own_number h history number) (new_world ids)

-- the event with this number asked a node for a command or a change of the membership, and was taken, where this was the node's
-- next log id. It may have stopped, also before it stored anything
pub record IsNotedBy (ids : List ℕ) (h : ℕ) (history : List Recorded) (numbers : List ℕ) (number : ℕ) (id : LogId ℕ) : Type 0 where
  pub call : GroupCall
  pub node : ℕ
  pub now : ℕ
  pub recorded : Recorded
  pub stands : slice_get history number ≡ Some recorded
  pub event : recorded.event ≡ Ask node h call now
  pub noted : is_noted call ≡ true
  pub taken : is_taken recorded.outcome ≡ true
  pub state : GroupState
  pub is_up : (world_at ids h history numbers number).nodes node ≡ Up state
  pub next : next_id state.stored ≡ id

-- no later event noted it
pub record IsLastNoted (ids : List ℕ) (h : ℕ) (history : List Recorded) (numbers : List ℕ) (number : ℕ) (id : LogId ℕ) : Type 0 where
  pub noted : IsNotedBy ids h history numbers number id
  pub last : (later : ℕ) → number < later → IsNotedBy ids h history numbers later id → ⊥

-- the event with this number asked for the entry in the group, and was taken; for a command or a change it is the last event
-- that noted the entry's log id
pub record IsOriginOf (ids : List ℕ) (h : ℕ) (history : List Recorded) (numbers : List ℕ) (number : ℕ) (e : Entry) : Type 0 where
  pub asked : GroupCall
  pub node : ℕ
  pub now : ℕ
  pub recorded : Recorded
  pub stands : slice_get history number ≡ Some recorded
  pub event : recorded.event ≡ Ask node h asked now
  pub taken : is_taken recorded.outcome ≡ true
  pub holds : IsAskedFor asked e.payload
  pub last : is_noted asked ≡ true → IsLastNoted ids h history numbers number e.log_id

-- ---- what is told, and what is on the list

-- the told place has an entry of the list whose event gave the token, and the told bytes are the fold's answer there
pub record IsToldRightly (rules : MachineRules) (ids : List ℕ) (h : ℕ) (history : List Recorded) (numbers : List ℕ) (list : List Entry) (t : Told) : Type 0 where
  pub entry : Entry
  pub number : ℕ
  pub stands : slice_get list t.place ≡ Some entry
  pub origin : IsOriginOf ids h history numbers number entry
  pub token : token_of_call origin.asked ≡ t.token ∷ []
  pub answer : t.answer ≡ answer_at rules list t.place

-- so it is with all that is told, for all numbers of stops with which the history replays
abbrev pub ToldStand : MachineRules → List ℕ → ℕ → List Recorded → Replicas → Type 0
ToldStand rules ids h history end =
    (numbers : List ℕ) → ReplaysWith rules h (new_replicas rules ids) history numbers end
    → (number : ℕ) (r : Recorded) (t : Told) → slice_get history number ≡ Some r
    → Contains (said_by h r.event r.outcome).told t
    → IsToldRightly rules ids h history numbers (group_list end.world) t

-- each entry of the list that isn't blank has an origin, and no two places have the same one
pub record HaveOrigins (ids : List ℕ) (h : ℕ) (history : List Recorded) (numbers : List ℕ) (list : List Entry) : Type 0 where
  pub number : (place : ℕ) (e : Entry) → slice_get list place ≡ Some e → (e.payload ≡ Blank → ⊥) → ℕ
  pub origin : (place : ℕ) (e : Entry) (is : slice_get list place ≡ Some e) (some : e.payload ≡ Blank → ⊥) → IsOriginOf ids h history numbers (number place e is some) e
  pub once : (i j : ℕ) (x y : Entry) (at_i : slice_get list i ≡ Some x) (at_j : slice_get list j ≡ Some y) (some_x : x.payload ≡ Blank → ⊥) (some_y : y.payload ≡ Blank → ⊥)
      → number i x at_i some_x ≡ number j y at_j some_y → i ≡ j

-- so it is for all numbers of stops with which the history replays
abbrev pub EntriesHaveOrigins : MachineRules → List ℕ → ℕ → List Recorded → Replicas → Type 0
EntriesHaveOrigins rules ids h history end =
    (numbers : List ℕ) → ReplaysWith rules h (new_replicas rules ids) history numbers end
    → HaveOrigins ids h history numbers (group_list end.world)
