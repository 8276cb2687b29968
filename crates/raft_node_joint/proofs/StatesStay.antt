-- A node that stays as it was may be in the same states.
use Rattle.std.specs.Prelude.{◌≡◌, ℕ, Bool, true, false, List, ◌∷◌}
use Rattle.std.proofs.Common.{inl, inr, sym, ◌∙◌, subst}
use Rattle.raft_group_step.specs.GroupState.{GroupState}
use Rattle.raft_laws.specs.GroupWorld.{Absent, NodeState, Up}
use Rattle.raft_machines.specs.Machine.{MachineRules}
use Rattle.raft_node.specs.Feeding.{StaysBut, fed_as}
use Rattle.raft_node.specs.Running.{RunsAt}
use Rattle.raft_node.specs.Standing.{NodeValue}
use Rattle.raft_node.proofs.Faults.{stands_on}
use Rattle.raft_node_joint.specs.Leading.{StaysInAll}
use Rattle.raft_node_joint.specs.Standing.{IsUpIn, MayBeWhen}

module _ (rules : MachineRules) (old new : NodeValue) (peer : ℕ) (same : StaysBut old new peer) where
  up_so : (h : ℕ) (s : GroupState) → IsUpIn rules old h s → IsUpIn rules new h s
  up_so h s (inl at) = inl (record {
    up = stands_on old.groups new.groups h (Up s) same.own (same.members h) same.well (same.kept h) at.up;
    runs = subst (λ r. RunsAt rules r s) (sym (same.running h)) at.runs;
  })
  up_so h s (inr (is, without)) = inr (
    is,
    record {
      absent = stands_on old.groups new.groups h Absent same.own (same.members h) same.well (same.kept h) without.absent;
      idle = same.running h ∙ without.idle;
    },
  )

  when_so : (h : ℕ) (b : Bool) (states : List NodeState) → MayBeWhen rules old h b states → MayBeWhen rules new h b states
  when_so h false states may = (may.0, may.1, up_so h may.0 may.2)
  when_so h true states may = (may.0, may.1, may.2, same.kept h (may.0 ∷ may.1) may.3)

  -- but for streams
  pub stays_so : StaysInAll rules old new
  stays_so h states may =
      subst (λ b. MayBeWhen rules new h b states) (sym same.has_failed) (when_so h old.groups.has_failed states may)

pub but_stays : (rules : MachineRules) (old new : NodeValue) (peer : ℕ) → StaysBut old new peer → StaysInAll rules (fed_as old new) new
but_stays rules old new peer same = stays_so rules (fed_as old new) new peer (record {
  own = same.own;
  has_failed = same.has_failed;
  members = same.members;
  well = same.well;
  running = same.running;
  kept = same.kept;
})

-- as the same value
pub same_stays : {A : Type 0} (rules : MachineRules) (value : A → NodeValue) (old new : A) → new ≡ old → StaysInAll rules (value old) (value new)
same_stays rules value old new is h states may = subst (λ x. MayBeWhen rules (value x) h (value x).groups.has_failed states) (sym is) may
