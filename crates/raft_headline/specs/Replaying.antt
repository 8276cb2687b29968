-- A cluster's history as one of a group: what it leads to, for numbers of the group's own stops.
use Rattle.std.specs.Prelude.{◌≡◌, ◌↔◌, ℕ, Bool, true, false, List, [], ◌∷◌, Option, Some, None}
use Rattle.raft_group_step.specs.Message.{Message}
use Rattle.raft_group_step.specs.GroupState.{Untold}
use Rattle.raft_laws.specs.declared.world_event.WorldEvent.{WorldEvent}
use Rattle.raft_laws.specs.declared.world_event.WorldEvent.TheVariants as event
use Rattle.raft_laws.specs.GroupWorld.{Outcome, is_stop}
use Rattle.raft_laws.specs.GroupWorld.{Done as Ended, Refused as Declined, Stopped as Broken, Skipped}
use Rattle.raft_laws.specs.GroupRun.{Scene, Nowhere, At, happens, outcome_of, scene_of}
use Rattle.raft_machines.specs.Machine.{MachineRules}
use Rattle.raft_machines.specs.Telling.{AreToldAs}
use Rattle.raft_headline.specs.ClusterEvent.{ClusterOutcome, Done, Opened, Refused, Stopped, Fused, PassedOver, TurnedAway, Recorded, Said, is_stopped, said_of, silent}
use Rattle.raft_machines.specs.declared.telling.Told.{Told}
use Rattle.raft_headline.specs.Seen.{Seen, Passed, Own, Halted, Crashed, own_part, own_tokens, seen_by}
use Rattle.raft_headline.specs.Machines.{MachinesMoveIn, Replicas, StandsStill}

-- ---- what an outcome says of a group

pub record IsSaid (answers : ℕ → Option (List ℕ)) (said : Said) (messages : List Message) (tells : List Untold) (lost : List ℕ) : Type 0 where
  pub sent : said.sent ≡ messages
  pub told : AreToldAs answers said.told tells
  pub unknown : said.unknown ≡ lost

-- the outcome of an opening has a part for each group, and that of another event is its group's
abbrev pub SaysEnd : ℕ → Bool → (ℕ → Option (List ℕ)) → ClusterOutcome → List Message → List Untold → List ℕ → Type 0
SaysEnd h true answers (Opened parts) sent told unknown = IsSaid answers (said_of h parts) sent told unknown
SaysEnd h false answers (Done said) sent told unknown = IsSaid answers said sent told unknown
SaysEnd h true answers (Done said) sent told unknown = ⊥
SaysEnd h false answers (Opened parts) sent told unknown = ⊥
SaysEnd h opening answers (Refused why) sent told unknown = ⊥
SaysEnd h opening answers (Stopped lost) sent told unknown = ⊥
SaysEnd h opening answers Fused sent told unknown = ⊥
SaysEnd h opening answers PassedOver sent told unknown = ⊥
SaysEnd h opening answers TurnedAway sent told unknown = ⊥

-- a node that stopped by itself names the group's tokens, and one whose machine stopped names none
abbrev pub SaysStop : ℕ → ClusterOutcome → List ℕ → Type 0
SaysStop h (Done said) unknown = ⊥
SaysStop h (Opened parts) unknown = ⊥
SaysStop h (Refused why) unknown = ⊥
SaysStop h (Stopped lost) unknown = own_tokens h lost ≡ unknown
SaysStop h Fused unknown = Unit {0}
SaysStop h PassedOver unknown = ⊥
SaysStop h TurnedAway unknown = ⊥

-- what became of the group's event is what the outcome says
abbrev pub Says : ℕ → Bool → (ℕ → Option (List ℕ)) → ClusterOutcome → Outcome → Type 0
Says h opening answers o (Ended sent told unknown) = SaysEnd h opening answers o sent told unknown
Says h opening answers o (Declined why) = o ≡ Refused why
Says h opening answers o (Broken unknown) = SaysStop h o unknown
Says h opening answers o Skipped = o ≡ PassedOver

-- a crash says nothing, also where its node had stopped before; where it is passed over it changed nothing
abbrev pub SaysCrash : ClusterOutcome → Outcome → Type 0
SaysCrash (Done said) what = said ≡ silent
SaysCrash (Opened parts) what = ⊥
SaysCrash (Refused why) what = ⊥
SaysCrash (Stopped unknown) what = ⊥
SaysCrash Fused what = ⊥
SaysCrash PassedOver what = what ≡ Skipped
SaysCrash TurnedAway what = ⊥

-- ---- one event

abbrev pub is_opening : WorldEvent → Bool
is_opening (event.Add n) = false
is_opening (event.Ask n call now) = false
is_opening (event.Deliver number now) = false
is_opening (event.Crash n) = false
is_opening (event.Halt n) = false
is_opening (event.Restart n) = true

-- the event's node is where it happens
abbrev pub IsThere : Scene → ℕ → Type 0
IsThere Nowhere node = Unit {0}
IsThere (At n e) node = n ≡ node

-- each own event that stopped takes the next number
abbrev pub takes_number : Seen → ClusterOutcome → Bool
takes_number Passed o = false
takes_number (Own e) o = is_stopped o
takes_number (Halted n) o = false
takes_number (Crashed n) o = false

abbrev pub with_number : Bool → ℕ → List ℕ → List ℕ
with_number true k numbers = k ∷ numbers
with_number false k numbers = numbers

module _ (rules : MachineRules) (h : ℕ) where
  -- an event of the group, which stopped after its first k storing commands if it stopped
  pub record OwnStep (e : WorldEvent) (r : Recorded) (k : ℕ) (old new : Replicas) : Type 0 where
    pub answers : ℕ → Option (List ℕ)
    pub there : IsThere (scene_of old.world e) r.node
    pub world : new.world ≡ happens old.world e (outcome_of old.world e (is_stopped r.outcome)) k
    pub machines : MachinesMoveIn rules (scene_of old.world e) (is_stop (outcome_of old.world e (is_stopped r.outcome))) old new answers
    pub says : Says h (is_opening e) answers r.outcome (outcome_of old.world e (is_stopped r.outcome))

  -- another group's event stopped the node: none of its storing commands is this group's
  pub record HaltStep (n : ℕ) (o : ClusterOutcome) (old new : Replicas) : Type 0 where
    pub world : new.world ≡ happens old.world (event.Halt n) (outcome_of old.world (event.Halt n) true) 0
    pub machines : StandsStill old new
    pub says : Says h false (λ place. None) o (outcome_of old.world (event.Halt n) true)

  pub record CrashStep (n : ℕ) (o : ClusterOutcome) (old new : Replicas) : Type 0 where
    pub world : new.world ≡ happens old.world (event.Crash n) (outcome_of old.world (event.Crash n) false) 0
    pub machines : StandsStill old new
    pub says : SaysCrash o (outcome_of old.world (event.Crash n) false)

  abbrev pub StepsTo : Seen → Recorded → ℕ → Replicas → Replicas → Type 0
  StepsTo Passed r k old new = new ≡ old
  StepsTo (Own e) r k old new = OwnStep e r k old new
  StepsTo (Halted n) r k old new = HaltStep n r.outcome old new
  StepsTo (Crashed n) r k old new = CrashStep n r.outcome old new

  -- ---- a history

  pub record IsStep (r : Recorded) (numbers : List ℕ) (old : Replicas) : Type 0 where
    pub number : ℕ
    pub others : List ℕ
    pub numbered : numbers ≡ with_number (takes_number (seen_by h r) r.outcome) number others
    pub new : Replicas
    pub step : StepsTo (seen_by h r) r number old new

  -- the history leads from the one to the other, with these numbers of the group's own stops
  abbrev pub ReplaysWith : Replicas → List Recorded → List ℕ → Replicas → Type 0
  ReplaysWith old [] numbers end = (numbers ≡ []) × (end ≡ old)
  ReplaysWith old (r ∷ rs) numbers end =
      (one : IsStep r numbers old) × ReplaysWith one.new rs one.others end

  -- so with some numbers
  abbrev pub ReplaysFor : Replicas → List Recorded → Replicas → Type 0
  ReplaysFor old rs end = (numbers : List ℕ) × ReplaysWith old rs numbers end

-- a cluster's history replays for a group just if its filtered one does, with the same numbers of stops
abbrev pub FilteredHistoriesReplay : Type 0
FilteredHistoriesReplay =
    (rules : MachineRules) (h : ℕ) (rs : List Recorded) (numbers : List ℕ) (old end : Replicas)
    → ReplaysWith rules h old rs numbers end ↔ ReplaysWith rules h old (own_part h rs) numbers end
