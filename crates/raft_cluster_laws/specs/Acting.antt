-- How what a node does with an event, group by group, is what the cluster's type asks of it.
use Rattle.std.specs.Prelude.{◌≡◌, ◌⊎◌, ℕ, true, false, List, [], ◌∷◌, ◌++◌, Some, None}
use Rattle.raft_group_step.specs.StoredGroup.{StoredGroup}
use Rattle.raft_group_step.specs.GroupState.{GroupState, state_of}
use Rattle.raft_group_step.specs.GroupEvent.{GroupEvent, Open}
use Rattle.raft_group_step.specs.StepResult.{RefusalReason, StepResult, tokens_of}
use Rattle.raft_group_step.specs.Refusal.{refusal_of}
use Rattle.raft_group_step.specs.GroupStep.{group_step}
use Rattle.raft_laws.specs.declared.world_event.WorldEvent.{WorldEvent}
use Rattle.raft_laws.specs.GroupWorld.{NodeState, Up, Down}
use Rattle.raft_laws.specs.NodeEvent.{Comes, Restarts}
use Rattle.raft_laws.specs.Stop.{stopped_after, unknown_at_stop}
use Rattle.raft_step_laws.specs.Tokens.{brought}
use Rattle.raft_machines.specs.Machine.{MachineRules}
use Rattle.raft_headline.specs.ClusterEvent.{Done, Opened, PassedOver, Recorded, Refused, Said, said_of, silent}
use Rattle.raft_headline.specs.Replaying.{IsSaid, SaysStop, is_opening}
use Rattle.raft_headline.specs.Seen.{seen_by}
use Rattle.raft_cluster_laws.specs.Acts.{ActsAt, CrashesAt, EventLeads, HaltsAt, KeepsLawAt, MayBecome, answers_at}

-- what is said is what the step sends, tells with the fold's answers, and leaves unknown
abbrev pub SaysStepOf : MachineRules → Said → StepResult → Type 0
SaysStepOf rules said r = IsSaid (answers_at rules (Up r.state)) said r.messages r.told r.unknown

module _ (rules : MachineRules) (h n : ℕ) (r : Recorded) (e : WorldEvent) where
  -- ---- a call or a message at a node that is up

  -- it ran to its end
  abbrev pub DoneActs : Type 0
  DoneActs =
      (ge : GroupEvent) (s : GroupState) (said : Said) → is_opening e ≡ false → KeepsLawAt rules (Up s) → refusal_of n s ge ≡ None
      → r.outcome ≡ Done said → SaysStepOf rules said (group_step n s ge)
      → ActsAt rules h n r e (Comes ge) (Up s) (Up (group_step n s ge).state)

  -- it was refused, for the step's reason
  abbrev pub RefusedActs : Type 0
  RefusedActs =
      (ge : GroupEvent) (s : GroupState) (why : RefusalReason) → KeepsLawAt rules (Up s) → refusal_of n s ge ≡ Some why
      → r.outcome ≡ Refused why → ActsAt rules h n r e (Comes ge) (Up s) (Up s)

  -- it stopped after any number of its storing commands, and names the tokens that waited with its
  -- own, unless the machine stopped
  abbrev pub StoppedActs : Type 0
  StoppedActs =
      (ge : GroupEvent) (s : GroupState) → KeepsLawAt rules (Up s) → refusal_of n s ge ≡ None
      → SaysStop h r.outcome (unknown_at_stop s ge (group_step n s ge))
      → (k : ℕ) → ActsAt rules h n r e (Comes ge) (Up s) (Down (stopped_after k s.stored (group_step n s ge)))

  -- the node is down
  abbrev pub PassedActs : Type 0
  PassedActs =
      (ge : GroupEvent) (st : StoredGroup) → r.outcome ≡ PassedOver → ActsAt rules h n r e (Comes ge) (Down st) (Down st)

  -- ---- an opening

  abbrev pub OpenedActs : Type 0
  OpenedActs =
      (st : StoredGroup) (parts : List (ℕ × Said)) → is_opening e ≡ true → r.outcome ≡ Opened parts
      → SaysStepOf rules (said_of h parts) (group_step n (state_of st) Open)
      → ActsAt rules h n r e Restarts (Down st) (Up (group_step n (state_of st) Open).state)

  -- it stopped, before it came to this group, inside it or behind it: nobody waits at a node that
  -- is down
  abbrev pub OpeningStops : Type 0
  OpeningStops =
      (st : StoredGroup) → SaysStop h r.outcome []
      → (k : ℕ) → ActsAt rules h n r e Restarts (Down st) (Down (stopped_after k st (group_step n (state_of st) Open)))

  -- the node is up
  abbrev pub OpeningPasses : Type 0
  OpeningPasses =
      (s : GroupState) → KeepsLawAt rules (Up s) → r.outcome ≡ PassedOver → ActsAt rules h n r e Restarts (Up s) (Up s)

  pub record NodesAct : Type 0 where
    pub done : DoneActs
    pub refused : RefusedActs
    pub stopped : StoppedActs
    pub passed : PassedActs
    pub opened : OpenedActs
    pub opening_stops : OpeningStops
    pub opening_passes : OpeningPasses

-- ---- where the event isn't the group's own

module _ (rules : MachineRules) (h n : ℕ) (r : Recorded) where
  -- another group's event stopped the node, whose tokens of this group are named unless the machine
  -- stopped
  abbrev pub HaltStops : Type 0
  HaltStops =
      (s : GroupState) → SaysStop h r.outcome (tokens_of s.untold) → HaltsAt rules h n r (Up s) (Down s.stored)

  -- a crash between events says nothing; a node that is down stays down
  abbrev pub CrashStops : Type 0
  CrashStops = (s : GroupState) → r.outcome ≡ Done silent → CrashesAt rules h n r (Up s) (Down s.stored)

  abbrev pub CrashLeaves : Type 0
  CrashLeaves = (st : StoredGroup) → (r.outcome ≡ Done silent) ⊎ (r.outcome ≡ PassedOver) → CrashesAt rules h n r (Down st) (Down st)

  -- ---- candidates

  -- a node that was in one state is in one state
  abbrev pub OneLeadsToOne : Type 0
  OneLeadsToOne =
      (history : List Recorded) (s t : NodeState) → MayBecome rules h n r history (seen_by h r) s t
      → EventLeads rules h n r history (s ∷ []) (t ∷ [])

  -- or in one of two: whether a storing command that failed is stored isn't known
  abbrev pub OneLeadsToTwo : Type 0
  OneLeadsToTwo =
      (history : List Recorded) (s t u : NodeState) → MayBecome rules h n r history (seen_by h r) s t → MayBecome rules h n r history (seen_by h r) s u
      → EventLeads rules h n r history (s ∷ []) (t ∷ u ∷ [])

  pub record OthersAct : Type 0 where
    pub halts : HaltStops
    pub crashes : CrashStops
    pub stays_down : CrashLeaves
    pub to_one : OneLeadsToOne
    pub to_two : OneLeadsToTwo

-- the tokens that stay unknown where an event stops are those that wait for it, with its own
abbrev pub StopsNameWhoWaits : Type 0
StopsNameWhoWaits =
    (n : ℕ) (s : GroupState) (ge : GroupEvent) → refusal_of n s ge ≡ None
    → unknown_at_stop s ge (group_step n s ge) ≡ tokens_of (s.untold ++ brought s ge)

-- so it is for every group, node and event
abbrev pub NodesActAsAsked : Type 0
NodesActAsAsked = (rules : MachineRules) (h n : ℕ) (r : Recorded) (e : WorldEvent) → NodesAct rules h n r e

abbrev pub OthersActAsAsked : Type 0
OthersActAsAsked = (rules : MachineRules) (h n : ℕ) (r : Recorded) → OthersAct rules h n r
