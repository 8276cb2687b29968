-- What a node promises of an event, for each group, so that the cluster's type is kept: each state
-- that it may be in behind the event came of one that it may have been in before.
use Rattle.std.specs.Prelude.{◌≡◌, ℕ, true, false, List, Option, None, Contains}
use Rattle.raft_laws.specs.declared.world_event.WorldEvent.{WorldEvent}
use Rattle.raft_laws.specs.GroupWorld.{NodeState, Absent, Up, Down, is_stop}
use Rattle.raft_laws.specs.NodeEvent.{NodeEvent, Crashes, Halts, outcome_at, state_after}
use Rattle.raft_laws.specs.GroupRun.{Scene, Nowhere, At, stop_at}
use Rattle.raft_laws.specs.OneList.{applied_list}
use Rattle.raft_machines.specs.Machine.{MachineRules}
use Rattle.raft_machines.specs.Fold.{fold_of}
use Rattle.raft_machines.specs.Telling.{answer_on}
use Rattle.raft_headline.specs.ClusterEvent.{PassedOver, Recorded, is_stopped}
use Rattle.raft_headline.specs.Machines.{KeepsItsLaw}
use Rattle.raft_headline.specs.Replaying.{Says, SaysCrash, is_opening}
use Rattle.raft_headline.specs.Seen.{Seen, Passed, Own, Halted, Crashed, seen_by}
use Rattle.raft_cluster_laws.specs.Along.{scene_behind}

-- the fold's answers along what a node has applied, none of one that isn't up
abbrev pub answers_at : MachineRules → NodeState → ℕ → Option (List ℕ)
answers_at rules Absent place = None
answers_at rules (Up t) place = answer_on rules (record { state = rules.first; count = 0 }) (applied_list t) place
answers_at rules (Down st) place = None

-- the machine of a node that is up has the fold's state, and what its snapshot restores is that
abbrev pub KeepsLawAt : MachineRules → NodeState → Type 0
KeepsLawAt rules Absent = Unit {0}
KeepsLawAt rules (Up s) = KeepsItsLaw rules (fold_of rules (applied_list s))
KeepsLawAt rules (Down st) = Unit {0}

module _ (rules : MachineRules) (h n : ℕ) (r : Recorded) where
  -- the event came to the node in the one state and left it in the other, which it stopped in after
  -- some number of storing commands if it stopped. What became of it there is what its outcome says
  pub record ActsAt (e : WorldEvent) (at : NodeEvent) (s t : NodeState) : Type 0 where
    pub number : ℕ
    pub left : t ≡ state_after n at (stop_at (is_stop (outcome_at n at (is_stopped r.outcome) s)) number) s
    pub says : Says h (is_opening e) (answers_at rules t) r.outcome (outcome_at n at (is_stopped r.outcome) s)
    pub lawful : KeepsLawAt rules s

  -- so it does where it happens, and elsewhere it is passed over
  abbrev pub ActsIn : WorldEvent → Scene → NodeState → NodeState → Type 0
  ActsIn e Nowhere s t = (t ≡ s) × (r.outcome ≡ PassedOver)
  ActsIn e (At m at) s t = (m ≡ n) × (r.node ≡ n) × ActsAt e at s t

  -- another group's event stopped the node
  pub record HaltsAt (s t : NodeState) : Type 0 where
    pub left : t ≡ state_after n Halts (stop_at (is_stop (outcome_at n Halts true s)) 0) s
    pub says : Says h false (λ place. None) r.outcome (outcome_at n Halts true s)

  pub record CrashesAt (s t : NodeState) : Type 0 where
    pub left : t ≡ state_after n Crashes None s
    pub says : SaysCrash r.outcome (outcome_at n Crashes false s)

  -- what the group sees of the event, behind this history, takes the node from the one state to the
  -- other
  abbrev pub MayBecome : List Recorded → Seen → NodeState → NodeState → Type 0
  MayBecome history Passed s t = t ≡ s
  MayBecome history (Own e) s t = ActsIn e (scene_behind h history e) s t
  MayBecome history (Halted m) s t = (m ≡ n) × HaltsAt s t
  MayBecome history (Crashed m) s t = (m ≡ n) × CrashesAt s t

  -- each state of the node behind the event, and there is one, came of one before it
  pub record EventLeads (history : List Recorded) (olds news : List NodeState) : Type 0 where
    pub one : NodeState
    pub some : Contains news one
    pub came : (t : NodeState) → Contains news t
        → (s : NodeState) × Contains olds s × MayBecome history (seen_by h r) s t
