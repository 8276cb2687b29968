-- What a cluster is promised of a node: what each call makes of it, and is answered.
use Rattle.std.specs.Prelude.{ℕ, Bool, List, Option, Result}
use Rattle.raft_group_step.specs.GroupEvent.{GroupCall}
use Rattle.raft_list_facts.specs.declared.leading.Leading.{Leading}
use Rattle.raft_cluster_events.specs.declared.event.CrashChoice.{CrashChoice}
use Rattle.raft_cluster_events.specs.declared.node.NodeOutcome.{NodeOutcome}
use Rattle.raft_cluster_events.specs.declared.outcome.CrashRefusal.{CrashRefusal}
use Rattle.raft_cluster_events.specs.declared.outcome.NodeError.{NodeError}
use Rattle.raft_cluster_events.specs.declared.outcome.Stop.{Stop}

-- each is a relation: the node before, what it is called with, what is answered, and the node after
pub record NodeActs (N : Type 0) : Type 1 where
  pub id : N → ℕ
  pub is_up : N → Bool
  -- it has this id, and nothing else yet
  pub begins : ℕ → N → Type 0
  -- it gets the group
  pub adds : N → ℕ → Result NodeOutcome NodeError → N → Type 0
  -- it is asked for something of the group at a moment
  pub asks : N → ℕ → GroupCall → ℕ → Result NodeOutcome NodeError → N → Type 0
  -- a piece of a peer's stream comes at a moment
  pub feeds : N → ℕ → List ℕ → ℕ → Result (Option NodeOutcome) NodeError → N → Type 0
  -- a peer's stream begins anew
  pub resets : N → ℕ → Result (Unit {0}) NodeError → N → Type 0
  -- its log is cleaned, and these groups hold old files of it back
  pub cleans : N → Result (List ℕ) NodeError → N → Type 0
  -- it stops for want of memory outside of it
  pub fails : N → Stop → N → Type 0
  -- its files refuse calls from this one on, or none any more
  pub fuses : N → Option ℕ → N → Type 0
  -- its machine stops
  pub crashes : N → CrashChoice → N → Type 0
  -- its files can't be left so by a crash, and why
  pub refuses : N → CrashChoice → CrashRefusal → Type 0
  -- it is opened by so many workers
  pub reopens : N → ℕ → Result (List NodeOutcome) Stop → N → Type 0
  -- it goes down, and its files stay as they are
  pub closes : N → N → Type 0
  -- the state of the machine that it lends of a group, and the last place that the machine has run; a node that is down or has stopped lends none
  pub machine_of : N → ℕ → Option (List ℕ)
  pub applied_of : N → ℕ → Option ℕ
  -- what it tells that it leads the group with
  pub leads : N → ℕ → Option Leading → Type 0
