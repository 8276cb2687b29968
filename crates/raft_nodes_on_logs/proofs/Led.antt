-- What leads the node in it on leads a node on files on.
use Rattle.std.specs.Prelude.{◌≡◌, ℕ, Bool, true, false, List, Some, refl}
use Rattle.std.proofs.Common.{inl, inr, sym, ap, ◌∙◌, subst}
use Rattle.raft_cluster_laws.specs.Acts.{EventLeads}
use Rattle.raft_headline.specs.ClusterEvent.{ClusterEvent, ClusterOutcome, Halt, Recorded, is_stopped}
use Rattle.raft_laws.specs.GroupWorld.{NodeState}
use Rattle.raft_machines.specs.Machine.{MachineRules}
use Rattle.raft_node.specs.Standing.{NodeValue}
use Rattle.raft_node_joint.specs.Leading.{LeadsIn, led_by, recorded}
use Rattle.raft_node_laws.specs.Law.{Leads}
use Rattle.raft_node_laws.specs.Saying.{IsToldAs}
use Rattle.raft_wire.specs.Stream.{fresh}
use Rattle.raft_nodes_on_logs.specs.Acts.{IsUpAs, log_node_acts, log_node_states}
use Rattle.raft_nodes_on_logs.specs.Kinds.{NodeKind}
use Rattle.raft_nodes_on_logs.specs.Standing.{MayBeIn, NodeOf, UpNode, value}

-- an event that stopped before it was known whether it is refused is told as a halt
pub told_so : (b : Bool) (id : ℕ) (happened : ClusterEvent) (o : ClusterOutcome) → (b ≡ true → is_stopped o ≡ true) → IsToldAs happened id o (led_by b id happened)
told_so true id happened o stopped = inr (refl, stopped refl)
told_so false id happened o stopped = inl refl

module _ (k : NodeKind) where
  abbrev of : UpNode k → NodeValue
  of n = value k n

  -- a node on files is up as this one, which leads on from another one of its id
  pub led : (old new : NodeOf k) (m : UpNode k) (n : NodeValue) (history : List Recorded) (happened : ℕ → ClusterEvent) (b : Bool) (o : ClusterOutcome)
      (olds : ℕ → List NodeState) (Says : ClusterOutcome → Type 0)
      → n.groups.own ≡ old.id → IsUpAs k old new m → (of m).groups.own ≡ n.groups.own → ((of m).groups.has_failed ≡ false → (peer : ℕ) → (of m).streams peer ≡ fresh)
      → (b ≡ true → is_stopped o ≡ true) → Says o
      → ((h : ℕ) → LeadsIn k.rules history (led_by b n.groups.own (happened n.groups.own)) o n (of m) h (olds h))
      → Leads k.rules (log_node_acts k) (log_node_states k) history (happened old.id) olds old new Says
  led old new m n history happened b o olds Says own up same streams stopped says leads = record {
    outcome = o;
    says = says;
    told = led_by b old.id (happened old.id);
    as_itself = told_so b old.id (happened old.id) o stopped;
    news = λ h. (leads h).news;
    may_be = λ h. subst (λ u. MayBeIn k new.id u new.files h ((leads h).news)) (sym up.1) (record {
      own = same ∙ own ∙ sym up.0;
      may_be = (leads h).may_be;
      streams = streams;
    });
    leads = λ h. subst (λ i. EventLeads k.rules h i (recorded i (led_by b i (happened i)) o) history (olds h) ((leads h).news)) own (leads h).leads;
  }
