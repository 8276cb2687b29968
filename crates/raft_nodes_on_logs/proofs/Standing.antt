-- Where a node on files stands, as the node in it.
use Rattle.std.specs.Prelude.{◌≡◌, ℕ, List, Option, Some, Contains}
use Rattle.std.proofs.Common.{inl, sym, subst}
use Rattle.raft_applier.specs.Following.{AreOfMachine}
use Rattle.raft_headline.specs.ClusterEvent.{Recorded}
use Rattle.raft_headline.specs.Machines.{KeepsItsLaw}
use Rattle.raft_laws.specs.GroupWorld.{NodeState}
use Rattle.raft_cluster_laws.specs.Keeping.{StandsInWorld}
use Rattle.raft_machines.specs.Machine.{MachineRules}
use Rattle.raft_node.specs.Standing.{NodeValue}
use Rattle.raft_node_joint.specs.Leading.{StandsBefore}
use Rattle.raft_node_joint.specs.Standing.{KeepMachinesLaw}
use Rattle.raft_node_joint.proofs.MachinesLaw.{runs_keep}
use Rattle.raft_node_laws.specs.Law.{StandsBehind}
use Rattle.raft_store.specs.Reading.{StandsFor}
use Rattle.raft_nodes_on_logs.specs.Acts.{log_node_acts, log_node_states}
use Rattle.raft_nodes_on_logs.specs.Kinds.{NodeKind}
use Rattle.raft_nodes_on_logs.specs.Standing.{MayBeIn, MayBeUp, NodeOf, UpNode, value}

-- a store's snapshots are its machine's
pub are_of_machine : (rules : MachineRules) → AreOfMachine rules (StandsFor rules)
are_of_machine rules = record {
  restores = λ x y s. s.state;
  stand = λ x y last membership state made. record { last = last; membership = membership; state = state; made = inl made };
}

module _ (k : NodeKind) (begins : KeepsItsLaw k.rules k.rules.first) (restores : (m : k.Machine) → KeepsItsLaw k.rules (k.state m)) where
  abbrev of : UpNode k → NodeValue
  of n = value k n

  pub machines_law : (n : UpNode k) → KeepMachinesLaw k.rules (of n)
  machines_law n = record { new = begins; running = λ h r is. runs_keep k.rules k.state restores n.machines h r is }

  -- ---- nodes

  pub is_up_in : (node : NodeOf k) (n : UpNode k) → node.up ≡ Some n → (h : ℕ) (states : List NodeState) → MayBeIn k node.id node.up node.files h states → MayBeUp k.rules node.id (of n) h states
  is_up_in node n is h states m = subst (λ up. MayBeIn k node.id up node.files h states) is m

  pub stands_before : (node : NodeOf k) (n : UpNode k) → node.up ≡ Some n → (ids : List ℕ) (history : List Recorded) (olds : ℕ → List NodeState)
      → StandsBehind k.rules (log_node_acts k) (log_node_states k) ids history node olds → StandsBefore k.rules (StandsFor k.rules) ids history (of n) olds
  stands_before node n is ids history olds behind = record {
    of_machine = are_of_machine k.rules;
    law = machines_law n;
    may_be = λ h. (is_up_in node n is h (olds h) (behind.may_be h)).may_be;
    in_world = λ h s among. subst (λ i. StandsInWorld k.rules ids h history i s) (sym (is_up_in node n is h (olds h) (behind.may_be h)).own) (behind.stands h s among);
  }
