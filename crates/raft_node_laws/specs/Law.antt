-- The law of a node: wherever it stands in a cluster's history, each call leads it on as the step of the group does, and what it
-- answers says so.
use Rattle.std.specs.Prelude.{◌≡◌, ℕ, Bool, true, false, List, [], ◌∷◌, length, slice_get, Some, None, Option, Result, Ok, Contains}
use Rattle.raft_group_step.specs.Message.{Message}
use Rattle.raft_group_step.specs.GroupEvent.{Call, GroupCall}
use Rattle.raft_group_step.specs.GroupState.{no_group, state_of}
use Rattle.raft_laws.specs.declared.world_event.WorldEvent.TheVariants as event
use Rattle.raft_laws.specs.GroupRun.{At}
use Rattle.raft_laws.specs.GroupWorld.{Absent, NodeState, Up, Down}
use Rattle.raft_laws.specs.NodeEvent.{Comes as ComesTo}
use Rattle.raft_laws.specs.OneList.{AreNodeIds, applied_list}
pub use Rattle.raft_list_facts.specs.Leads.{leading_in}
use Rattle.raft_list_facts.specs.declared.leading.Leading.{Leading}
use Rattle.raft_machines.specs.Fold.{fold_of}
use Rattle.raft_machines.specs.Machine.{MachineRules}
use Rattle.raft_headline.specs.ClusterEvent.{AddGroup, Ask, Clean, ClusterEvent, ClusterOutcome, Crash, Deliver, Done, Fuse, Recorded}
use Rattle.raft_headline.specs.ClusterEvent.{Reopen, ResetPeer, Stopped, silent}
use Rattle.raft_cluster_laws.specs.Acts.{EventLeads}
use Rattle.raft_cluster_laws.specs.Along.{scene_behind, sent_by}
use Rattle.raft_cluster_laws.specs.Keeping.{StandsInWorld}
use Rattle.raft_cluster_conditions.specs.Cuts.{are_cuts}
use Rattle.raft_cluster_events.specs.declared.event.CrashChoice.{CrashChoice}
use Rattle.raft_cluster_events.specs.declared.node.NodeOutcome.{NodeOutcome}
use Rattle.raft_cluster_events.specs.declared.outcome.NodeError.{NodeError}
use Rattle.raft_cluster_events.specs.declared.outcome.Stop.{Stop}
use Rattle.raft_cluster_events.specs.Node.{NodeActs}
use Rattle.raft_cluster_events.specs.States.{NodeStates}
use Rattle.raft_node_laws.specs.Answered.{Answered, none_of, one_of, opening_of, some_of, stop_behind}
use Rattle.raft_node_laws.specs.Delivery.{Comes, pieces_from}
use Rattle.raft_node_laws.specs.Saying.{IsToldAs, SaysCall, SaysCleaning, SaysOpening, SaysReset, names_of}

-- ---- histories

abbrev pub Anything : List Recorded → Type 0
Anything history = Unit {0}

-- a call comes to its group: it is no set-up with another membership than the first one
abbrev pub IsAskedAt : ℕ → ℕ → GroupCall → ℕ → List Recorded → Type 0
IsAskedAt n group call now history = scene_behind group history (event.Ask n call now) ≡ At n (ComesTo (Call call now))

-- the group's message of this number was sent
abbrev pub WasSent : ℕ → ℕ → Message → List Recorded → Type 0
WasSent group number m history = slice_get (sent_by group history) number ≡ Some m

-- a node that has nothing knows of no group
abbrev pub first_state : Bool → NodeState
first_state true = Up (state_of no_group)
first_state false = Down no_group

-- In this state of a group a node lends a machine that has run the whole list that it has applied, and tells its last place; it lends
-- none where the group isn't there, or nothing of it is up
abbrev pub Lends : MachineRules → NodeState → Option (List ℕ) → Option ℕ → Type 0
Lends rules (Up s) (Some machine) place = (machine ≡ fold_of rules (applied_list s)) × (place ≡ s.applied)
Lends rules (Up s) None place = (s ≡ state_of no_group) × (place ≡ None)
Lends rules (Down x) machine place = (machine ≡ None) × (place ≡ None)
Lends rules Absent machine place = (machine ≡ None) × (place ≡ None)

module _ {N : Type 0} (rules : MachineRules) (acts : NodeActs N) (states : NodeStates N) where
  -- ---- where a node stands, and how it is led on

  -- behind this history of nodes with these ids the node may be in these states of each group, and each of them stands in a world
  -- of the group to which the history leads
  pub record StandsBehind (ids : List ℕ) (history : List Recorded) (node : N) (olds : ℕ → List NodeState) : Type 0 where
    pub node_ids : AreNodeIds ids
    pub may_be : (h : ℕ) → states.may_be node h (olds h)
    pub stands : (h : ℕ) (s : NodeState) → Contains (olds h) s → StandsInWorld rules ids h history (acts.id node) s

  -- there is an outcome of the event that says what was answered, and in each group the event with that outcome leads from the
  -- states in which the node may have been to those in which it may be now
  pub record Leads (history : List Recorded) (happened : ClusterEvent) (olds : ℕ → List NodeState) (old new : N) (Says : ClusterOutcome → Type 0) : Type 0 where
    pub outcome : ClusterOutcome
    pub says : Says outcome
    pub told : ClusterEvent
    pub as_itself : IsToldAs happened (acts.id old) outcome told
    pub news : ℕ → List NodeState
    pub may_be : (h : ℕ) → states.may_be new h (news h)
    pub leads : (h : ℕ) → EventLeads rules h (acts.id old) (record { event = told; node = acts.id old; outcome = outcome }) history (olds h) (news h)

  -- so it is wherever the node stands, behind histories of this kind
  abbrev pub LeadsOn : (List Recorded → Type 0) → ClusterEvent → N → N → (ClusterOutcome → Type 0) → Type 0
  LeadsOn Kind happened old new Says =
      (ids : List ℕ) (history : List Recorded) (olds : ℕ → List NodeState) → Kind history → StandsBehind ids history old olds
      → Leads history happened olds old new Says

  -- an event of one group: what is answered is said. If memory is refused behind what was done, the node stops, and no frame left
  -- and nobody was told: the tokens of the event and all others are named
  pub record IsTaken (Kind : List Recorded → Type 0) (happened : ClusterEvent) (group : ℕ) (old : N) (answered : Answered) (mid : N) : Type 0 where
    pub ends : LeadsOn Kind happened old mid (SaysCall states.spells (acts.id old) group answered)
    pub stops : (outcome : NodeOutcome) (stop : Stop) (new : N) → answered ≡ Ok (outcome ∷ []) → acts.fails mid stop new
        → LeadsOn Kind happened old new (λ o. o ≡ Stopped (names_of (stop_behind outcome stop)))

  -- ---- the law

  pub record KeepsLaw : Type 0 where
    pub begins : (id : ℕ) (node : N) → acts.begins id node → (h : ℕ) → states.may_be node h (first_state (acts.is_up node) ∷ [])
    pub adds : (old mid : N) (group : ℕ) (answered : Result NodeOutcome NodeError) → acts.is_up old ≡ true → acts.adds old group answered mid
        → IsTaken Anything (AddGroup (acts.id old) group) group old (one_of answered) mid
    pub asks : (old mid : N) (group now : ℕ) (call : GroupCall) (answered : Result NodeOutcome NodeError) → acts.is_up old ≡ true
        → acts.asks old group call now answered mid
        → IsTaken (IsAskedAt (acts.id old) group call now) (Ask (acts.id old) group call now) group old (one_of answered) mid
    -- a frame that was sent to the node comes whole, cut into pieces
    pub delivers : (old mid : N) (group number now : ℕ) (m : Message) (bytes cuts : List ℕ) (answered : Result (Option NodeOutcome) NodeError)
        → acts.is_up old ≡ true → m.addressee ≡ acts.id old → states.spells group m bytes → are_cuts 0 (length bytes) cuts ≡ true
        → Comes acts m.sender now old (pieces_from bytes 0 cuts) answered mid
        → IsTaken (WasSent group number m) (Deliver group number now) group old (some_of answered) mid
    pub resets : (old new : N) (peer : ℕ) (answered : Result (Unit {0}) NodeError) → acts.is_up old ≡ true → acts.resets old peer answered new
        → LeadsOn Anything (ResetPeer (acts.id old) peer) old new (SaysReset (none_of answered))
    -- the node's files are cleaned
    pub cleans : (old new : N) (answered : Result (List ℕ) NodeError) → acts.is_up old ≡ true → acts.cleans old answered new
        → LeadsOn Anything (Clean (acts.id old)) old new (SaysCleaning answered)
    -- whether the node is up or down
    pub fuses : (old new : N) (first_refused : Option ℕ) → acts.fuses old first_refused new
        → LeadsOn Anything (Fuse (acts.id old)) old new (λ o. o ≡ Done silent)
    pub crashes : (old new : N) (choice : CrashChoice) → acts.is_up old ≡ true → acts.crashes old choice new
        → LeadsOn Anything (Crash (acts.id old)) old new (λ o. o ≡ Done silent)
    pub reopens : (old new : N) (workers : ℕ) (answered : Result (List NodeOutcome) Stop) → acts.is_up old ≡ false
        → acts.reopens old workers answered new
        → LeadsOn Anything (Reopen (acts.id old)) old new (SaysOpening states.spells (acts.id old) (opening_of answered))
    -- memory is refused behind an opening: the node goes down again, and nobody waited there
    pub closes : (old mid new : N) (workers : ℕ) (outcomes : List NodeOutcome) → acts.is_up old ≡ false
        → acts.reopens old workers (Ok outcomes) mid → acts.closes mid new
        → LeadsOn Anything (Reopen (acts.id old)) old new (λ o. o ≡ Stopped [])
    -- the machine that it lends is the group's, whichever of the states the node is in
    pub lends : (node : N) (h : ℕ) (olds : List NodeState) (s : NodeState) → states.may_be node h olds → Contains olds s
        → Lends rules s (acts.machine_of node h) (acts.applied_of node h)
    -- and so is what it tells that it leads the group with
    pub leads : (node : N) (h : ℕ) (told : Option Leading) (olds : List NodeState) (s : NodeState) → states.may_be node h olds → Contains olds s
        → acts.leads node h told → told ≡ leading_in s
