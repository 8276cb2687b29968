-- Each token is told once, or unknown once, or waits while its node leads on.
use Rattle.std.specs.Prelude.{◌≡◌, ◌⊎◌, ℕ, Bool, true, false, List, [], ◌∷◌, slice_get, Some, Contains}
use Rattle.raft_group_step.specs.GroupState.{GroupState, Untold, is_leader}
use Rattle.raft_group_step.specs.GroupEvent.{GroupCall}
use Rattle.raft_laws.specs.GroupWorld.{Up, new_world}
use Rattle.raft_laws.specs.Origins.{Events}
use Rattle.raft_laws.specs.Stop.{token_of_call}
use Rattle.raft_history_laws.specs.TokenEnds.{EndsAt, IsBrought, Numbered}
use Rattle.raft_machines.specs.Machine.{MachineRules}
use Rattle.raft_headline.specs.ClusterEvent.{Ask, ClusterOutcome, Done, Opened, Refused, Stopped, Fused, PassedOver, TurnedAway, Recorded, said_of}
use Rattle.raft_machines.specs.declared.telling.Told.{Told}
use Rattle.raft_headline.specs.Seen.{Seen, Passed, Own, Halted, Crashed, own_tokens, seen_by}
use Rattle.raft_headline.specs.Machines.{Replicas, new_replicas}
use Rattle.raft_headline.specs.OwnEvents.{own_events, own_number}
use Rattle.raft_headline.specs.Replaying.{ReplaysWith}
use Rattle.raft_headline.specs.Told.{is_taken, said_in}

-- ---- how an event ends a token

-- the group's tokens that an outcome names as unknown
abbrev pub named_unknown : ℕ → ClusterOutcome → List ℕ
named_unknown h (Done said) = said.unknown
named_unknown h (Opened parts) = (said_of h parts).unknown
named_unknown h (Refused why) = []
named_unknown h (Stopped unknown) = own_tokens h unknown
named_unknown h Fused = []
named_unknown h PassedOver = []
named_unknown h TurnedAway = []

abbrev pub is_fused : ClusterOutcome → Bool
is_fused (Done said) = false
is_fused (Opened parts) = false
is_fused (Refused why) = false
is_fused (Stopped unknown) = false
is_fused Fused = true
is_fused PassedOver = false
is_fused TurnedAway = false

-- a crash, or a stop of the machine: it names no tokens
abbrev pub loses_silently : Seen → ClusterOutcome → Bool
loses_silently Passed o = false
loses_silently (Own e) o = is_fused o
loses_silently (Halted n) o = is_fused o
loses_silently (Crashed n) o = true

-- it is told at its place, or named as unknown, or lost without being named
pub data IsEndedBy (h : ℕ) (r : Recorded) (x : Untold) : Type 0 where
  IsToldThere : (t : Told) → Contains (said_in h r.outcome).told t → t.token ≡ x.token → t.place ≡ x.place → IsEndedBy h r x
  IsNamedUnknown : Contains (named_unknown h r.outcome) x.token → IsEndedBy h r x
  IsLost : loses_silently (seen_by h r) r.outcome ≡ true → IsEndedBy h r x

-- the token ends in the event with this number
pub record EndsIn (ids : List ℕ) (h : ℕ) (history : List Recorded) (es : Events) (n : ℕ) (x : Numbered) (number : ℕ) : Type 0 where
  pub recorded : Recorded
  pub stands : slice_get history number ≡ Some recorded
  pub ends : EndsAt es (new_world ids) n x (own_number h history number)
  pub ended : IsEndedBy h recorded x.untold

-- ---- what becomes of it

-- it waits at the end of the history, at a node that leads, and no event ended it
pub record WaitsOn (ids : List ℕ) (es : Events) (end : Replicas) (n : ℕ) (x : Numbered) : Type 0 where
  pub state : GroupState
  pub is_up : end.world.nodes n ≡ Up state
  pub leads : is_leader state.role ≡ true
  pub waits : Contains state.untold x.untold
  pub not_ended : (number : ℕ) → EndsAt es (new_world ids) n x number → ⊥

-- one event ended it, and no other
pub record EndedOnce (ids : List ℕ) (h : ℕ) (history : List Recorded) (es : Events) (n : ℕ) (x : Numbered) : Type 0 where
  pub number : ℕ
  pub ends : EndsIn ids h history es n x number
  pub once : (other : ℕ) → EndsAt es (new_world ids) n x other → other ≡ own_number h history number

-- the token waits for a place from its event on, and ends once or waits still
pub record IsAccountedFor (ids : List ℕ) (h : ℕ) (history : List Recorded) (es : Events) (end : Replicas) (n number token : ℕ) : Type 0 where
  pub place : ℕ
  pub brought : IsBrought es (new_world ids) (own_number h history number) n (record { token = token; place = place })
  pub fate : let x : Numbered = record { number = own_number h history number; untold = record { token = token; place = place } }
      in WaitsOn ids es end n x ⊎ EndedOnce ids h history es n x

-- so it is for each event that took a command or a change, whatever the numbers of stops are with which the history replays
abbrev pub TokensEnd : MachineRules → List ℕ → ℕ → List Recorded → Replicas → Type 0
TokensEnd rules ids h history end =
    (numbers : List ℕ) → ReplaysWith rules h (new_replicas rules ids) history numbers end
    → (number n token now : ℕ) (r : Recorded) (call : GroupCall) → slice_get history number ≡ Some r
    → r.event ≡ Ask n h call now → token_of_call call ≡ token ∷ [] → is_taken r.outcome ≡ true
    → IsAccountedFor ids h history (own_events h history numbers) end n number token
