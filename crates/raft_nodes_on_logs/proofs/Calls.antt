-- Calls and addings at the node in it are taken by a node on files.
use Rattle.std.specs.Prelude.{◌≡◌, ℕ, Bool, true, false, List, [], ◌∷◌, Option, Some, None, Result, Ok, Err, is_some, refl}
use Rattle.std.proofs.Common.{inl, inr, sym, ap, ◌∙◌, subst}
use Rattle.raft_cluster_events.specs.declared.node.NodeOutcome.{NodeOutcome}
use Rattle.raft_cluster_events.specs.declared.outcome.NodeError.{NodeError}
use Rattle.raft_group_step.specs.GroupEvent.{Call, GroupCall, GroupEvent}
use Rattle.raft_group_step.specs.GroupEvent.{AddGroup as Adds}
use Rattle.raft_group_step.specs.declared.group_call.GroupCall.TheVariants.{Initialize}
use Rattle.raft_headline.specs.ClusterEvent.{AddGroup, Ask, ClusterEvent, Recorded}
use Rattle.raft_headline.specs.Machines.{KeepsItsLaw}
use Rattle.raft_laws.specs.declared.world_event.WorldEvent.TheVariants as event
use Rattle.raft_laws.specs.GroupRun.{At}
use Rattle.raft_laws.specs.GroupWorld.{NodeState}
use Rattle.raft_laws.specs.NodeEvent.{Comes}
use Rattle.raft_cluster_laws.specs.Along.{scene_behind}
use Rattle.raft_machines.specs.Machine.{MachineRules}
use Rattle.raft_machines.specs.declared.fault.MembershipFault.{MembershipFault}
use Rattle.raft_node.specs.Asking.{without_its_why}
use Rattle.raft_node.specs.Ending.{IsEvent, StaysElse}
use Rattle.raft_node.specs.Standing.{NodeValue}
use Rattle.raft_node.specs.declared.outcome.Outcome.{Outcome}
use Rattle.raft_node_faults.specs.declared.fault.Fault.{Fault}
use Rattle.raft_node_faults.specs.declared.fault.Fault.TheVariants as fault
use Rattle.raft_node_joint.specs.Leading.{IsAdding, LeadsOn, WasDone, led_by}
use Rattle.raft_node_joint.specs.Saying.{stops_unjudged}
use Rattle.raft_node_joint.proofs.AddingsLeadOn.{addings_lead}
use Rattle.raft_node_joint.proofs.EventsCome.{addings_come, calls_come}
use Rattle.raft_node_joint.proofs.EventsLeadOn.{events_lead}
use Rattle.raft_node_joint.proofs.StatesStay.{same_stays}
use Rattle.raft_node_joint.proofs.WereDone.{addings_done, events_done}
use Rattle.raft_node_laws.specs.Answered.{one_of}
use Rattle.raft_node_laws.specs.Law.{Anything, IsAskedAt, IsTaken}
use Rattle.raft_store.specs.Reading.{StandsFor}
use Rattle.raft_wire.specs.Stream.{fresh}
use Rattle.raft_nodes_on_logs.specs.Acts.{AddsTo, AsksTo, log_node_acts, log_node_states}
use Rattle.raft_nodes_on_logs.specs.Kept.{KeepingFault}
use Rattle.raft_nodes_on_logs.specs.Kinds.{NodeKind}
use Rattle.raft_nodes_on_logs.specs.Standing.{NodeOf, UpNode, value}
use Rattle.raft_nodes_on_logs.proofs.Standing.{are_of_machine, is_up_in, stands_before}
use Rattle.raft_nodes_on_logs.proofs.Taken.{Answer, Behind, IsOneGroup, one_group_taken, unjudged_stops}

-- ---- what is the same with a reason for a membership that is refused

why_kept : {F : Type 0} (P : Answer F → Type 0) (call : GroupCall) (result : Answer F) → ((why : Option MembershipFault) → P (Err (fault.Membership None)) → P (Err (fault.Membership why)))
    → P (without_its_why call result) → P result
why_kept P (Initialize m) (Ok o) kept p = p
why_kept P (Initialize m) (Err (fault.Membership why)) kept p = kept why p
why_kept P (Initialize m) (Err other) kept p = p
why_kept P call result kept p = p

stays_with : (F : Type 0) (old new : NodeValue) (group : ℕ) (why : Option MembershipFault) → StaysElse {T = Outcome} {F = F} old new group (Err (fault.Membership None))
    → StaysElse {T = Outcome} {F = F} old new group (Err (fault.Membership why))
stays_with F old new group why s = record { own = s.own; members = s.members; running = s.running; kept = s.kept; named = tt; streams = s.streams; fails = s.fails }

done_alike : (F : Type 0) (call : GroupCall) (o : Outcome) → without_its_why {F = F} call (Ok o) ≡ Ok o
done_alike F (Initialize m) o = refl
done_alike F call o = refl

-- a node that goes on behind an event went on before
was_going : {F : Type 0} (old new : NodeValue) (group : ℕ) (result : Answer F) → StaysElse old new group result → new.groups.has_failed ≡ false → old.groups.has_failed ≡ false
was_going old new group (Ok o) s going = sym s.fails ∙ going
was_going old new group (Err (fault.Stopped why unknown)) s going = absurd (let no : true ≡ false = sym s.fails ∙ going in cc)
was_going old new group (Err other) s going = sym s.fails ∙ going

module _ (k : NodeKind) (begins : KeepsItsLaw k.rules k.rules.first) (restores : (m : k.Machine) → KeepsItsLaw k.rules (k.state m)) where
  abbrev of : UpNode k → NodeValue
  of n = value k n

  -- ---- one group's events, at the node itself

  streams_stay : (old : NodeOf k) (n mid : UpNode k) (group : ℕ) (result : Answer (KeepingFault k)) → old.up ≡ Some n → StaysElse (of n) (of mid) group result
      → (ids : List ℕ) (history : List Recorded) (olds : ℕ → List NodeState) → Behind k ids history old olds
      → (of mid).groups.has_failed ≡ false → (peer : ℕ) → (of mid).streams peer ≡ fresh
  streams_stay old n mid group result up stays ids history olds behind going peer =
      stays.streams peer ∙ (is_up_in k begins restores old n up group (olds group) (behind.may_be group)).streams (was_going (of n) (of mid) group result stays going) peer

  -- ---- calls

  pub asks_so : (old new : NodeOf k) (n : UpNode k) → old.up ≡ Some n → (group now : ℕ) (call : GroupCall) (answered : Result NodeOutcome NodeError) → AsksTo k n group call now old answered new
      → IsTaken k.rules (log_node_acts k) (log_node_states k) (IsAskedAt old.id group call now) (Ask old.id group call now) group old (one_of answered) new
  asks_so old new n up group now call answered a =
      one_group_taken k old new (of n) a.mid group (Call call now) (λ i. Ask i group call now) (IsAskedAt old.id group call now) a.result one answered a.passed
    where
      stays : StaysElse (of n) (of a.mid) group a.result
      stays = why_kept (StaysElse (of n) (of a.mid) group) call a.result (stays_with (KeepingFault k) (of n) (of a.mid) group) a.event.elsewhere

      one : IsOneGroup k old (of n) a.mid group (Call call now) (λ i. Ask i group call now) (IsAskedAt old.id group call now) a.result
      one = record {
        own = λ ids history olds behind. (is_up_in k begins restores old n up group (olds group) (behind.may_be group)).own;
        before = λ ids history olds behind. stands_before k begins restores old n up ids history olds behind;
        same = stays.own;
        streams = streams_stay old n a.mid group a.result up stays;
        comes = λ history own kind. calls_come (of n).groups.own group now call history
            (subst (λ i. scene_behind group history (event.Ask i call now) ≡ At i (Comes (Call call now))) (sym own) kind);
        halted = stops_unjudged a.result;
        stopped = unjudged_stops a.result;
        leads = λ ids history olds kind own before.
            why_kept (λ r. LeadsOn k.rules (StandsFor k.rules) history (led_by (stops_unjudged r) (of n).groups.own (Ask (of n).groups.own group call now)) (of n) (of a.mid) group olds r) call a.result
            (λ why l. record { outcome = l.outcome; says = l.says; leads = l.leads })
            (events_lead k.rules (StandsFor k.rules) (a.mid ≡ n) (of n) (of a.mid) group (Call call now) (without_its_why call a.result)
            ids history (Ask (of n).groups.own group call now) olds (calls_come (of n).groups.own group now call history
            (subst (λ i. scene_behind group history (event.Ask i call now) ≡ At i (Comes (Call call now))) (sym own) kind)) refl before (same_stays k.rules (value k) n a.mid) a.event);
        done = λ o is. events_done (KeepingFault k) k.rules (StandsFor k.rules) (a.mid ≡ n) (of n) (of a.mid) o group (Call call now) (are_of_machine k.rules)
            (subst (λ r. IsEvent k.rules (StandsFor k.rules) (a.mid ≡ n) (of n) (of a.mid) group (Call call now) r) (ap (without_its_why call) is ∙ done_alike (KeepingFault k) call o) a.event);
      }

  -- ---- addings

  pub adds_so : (old new : NodeOf k) (n : UpNode k) → old.up ≡ Some n → (group : ℕ) (answered : Result NodeOutcome NodeError) → AddsTo k n group old answered new
      → IsTaken k.rules (log_node_acts k) (log_node_states k) Anything (AddGroup old.id group) group old (one_of answered) new
  adds_so old new n up group answered a =
      one_group_taken k old new (of n) a.mid group Adds (λ i. AddGroup i group) Anything a.result one answered a.passed
    where
      one : IsOneGroup k old (of n) a.mid group Adds (λ i. AddGroup i group) Anything a.result
      one = record {
        own = λ ids history olds behind. (is_up_in k begins restores old n up group (olds group) (behind.may_be group)).own;
        before = λ ids history olds behind. stands_before k begins restores old n up ids history olds behind;
        same = a.adding.elsewhere.own;
        streams = streams_stay old n a.mid group a.result up a.adding.elsewhere;
        comes = λ history own kind. addings_come (of n).groups.own group history;
        halted = false;
        stopped = λ no. absurd (let never : false ≡ true = no in cc);
        leads = λ ids history olds kind own before.
            addings_lead k.rules (StandsFor k.rules) (a.mid ≡ n) (of n) (of a.mid) group a.result ids history olds before (same_stays k.rules (value k) n a.mid) a.adding;
        done = λ o is. addings_done (KeepingFault k) k.rules (StandsFor k.rules) (a.mid ≡ n) (of n) (of a.mid) o group
            (subst (λ r. IsAdding k.rules (StandsFor k.rules) (a.mid ≡ n) (of n) (of a.mid) group r) is a.adding);
      }
