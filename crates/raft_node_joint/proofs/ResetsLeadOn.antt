-- A stream that begins anew leads each group of its node on, and so do a cleaning and a fuse of its files.
use Rattle.std.specs.Prelude.{◌≡◌, ℕ, Bool, true, false, List, refl}
use Rattle.std.proofs.Common.{inl, inr}
use Rattle.raft_group_step.specs.GroupState.{GroupState}
use Rattle.raft_laws.specs.GroupWorld.{NodeState}
use Rattle.raft_headline.specs.ClusterEvent.{Clean, Done, Fuse, Recorded, ResetPeer, silent}
use Rattle.raft_headline.specs.Seen.{Passed, seen_by}
use Rattle.raft_cluster_laws.specs.Acts.{EventLeads}
use Rattle.raft_machines.specs.Machine.{MachineRules}
use Rattle.raft_node.specs.Feeding.{StaysBut, fed_as}
use Rattle.raft_node.specs.Standing.{NodeValue}
use Rattle.raft_node_joint.specs.Leading.{StaysInAll, recorded}
use Rattle.raft_node_joint.specs.Reopening.{CleaningsLead, FusesLead, ResetsLead, reset_as}
use Rattle.raft_node_joint.specs.Standing.{IsUpIn, MayBe, MayBeWhen}
use Rattle.raft_node_joint.proofs.Others.{one_of, passed_leads}
use Rattle.raft_node_joint.proofs.StatesStay.{but_stays}

-- no group sees it, and whatever the node may be in it stays in
sees_none : (h n peer : ℕ) (failed : Bool) → seen_by h (recorded n (ResetPeer n peer) (reset_as failed)) ≡ Passed
sees_none h n peer true = refl
sees_none h n peer false = refl

pub reset_leads : (rules : MachineRules) (n : NodeValue) (history : List Recorded) (peer h : ℕ) (states : List NodeState) → MayBe rules n h states
    → EventLeads rules h n.groups.own (recorded n.groups.own (ResetPeer n.groups.own peer) (reset_as n.groups.has_failed)) history states states
reset_leads rules n history peer h states may =
    let one = one_of rules n h n.groups.has_failed states may in
    passed_leads rules h n.groups.own (recorded n.groups.own (ResetPeer n.groups.own peer) (reset_as n.groups.has_failed)) history
    (sees_none h n.groups.own peer n.groups.has_failed) states one.0 one.1

module _ (rules : MachineRules) (old new : NodeValue) where
  up_fed : (h : ℕ) (s : GroupState) → IsUpIn rules old h s → IsUpIn rules (fed_as old new) h s
  up_fed h s (inl at) = inl (record { up = at.up; runs = at.runs })
  up_fed h s (inr (is, without)) = inr (is, record { absent = without.absent; idle = without.idle })

  fed_so : (h : ℕ) (b : Bool) (states : List NodeState) → MayBeWhen rules old h b states → MayBeWhen rules (fed_as old new) h b states
  fed_so h false states may = (may.0, may.1, up_fed h may.0 may.2)
  fed_so h true states may = may

  -- what is held of streams tells nothing of a group
  pub streams_stay : (peer : ℕ) → StaysBut old new peer → StaysInAll rules old new
  streams_stay peer same h states may = but_stays rules old new peer same h states (fed_so h old.groups.has_failed states may)

pub resets_lead : (rules : MachineRules) (old new : NodeValue) → ResetsLead rules old new
resets_lead rules old new history peer olds same may_be h = record {
  news = olds h;
  may_be = streams_stay rules old new peer same h (olds h) (may_be h);
  leads = reset_leads rules old history peer h (olds h) (may_be h);
}

-- nor does a group see a cleaning
clean_sees_none : (h n : ℕ) (failed : Bool) → seen_by h (recorded n (Clean n) (reset_as failed)) ≡ Passed
clean_sees_none h n true = refl
clean_sees_none h n false = refl

pub cleanings_lead : (rules : MachineRules) (old new : NodeValue) → CleaningsLead rules old new
cleanings_lead rules old new history peer olds same may_be h = record {
  news = olds h;
  may_be = streams_stay rules old new peer same h (olds h) (may_be h);
  leads =
      let one = one_of rules old h old.groups.has_failed (olds h) (may_be h) in
      passed_leads rules h old.groups.own (recorded old.groups.own (Clean old.groups.own) (reset_as old.groups.has_failed)) history
      (clean_sees_none h old.groups.own old.groups.has_failed) (olds h) one.0 one.1;
}

-- nor a fuse of the node's files
pub fuses_lead : (rules : MachineRules) (old new : NodeValue) → FusesLead rules old new
fuses_lead rules old new history peer olds same may_be h = record {
  news = olds h;
  may_be = streams_stay rules old new peer same h (olds h) (may_be h);
  leads =
      let one = one_of rules old h old.groups.has_failed (olds h) (may_be h) in
      passed_leads rules h old.groups.own (recorded old.groups.own (Fuse old.groups.own) (Done silent)) history refl (olds h) one.0 one.1;
}
