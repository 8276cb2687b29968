-- What a node on files lends and tells of a group, in each of the states in which it may be.
use Rattle.std.specs.Prelude.{◌≡◌, ◌⊎◌, ℕ, Bool, true, false, List, [], ◌∷◌, Option, Some, None, map, Contains, option_map, refl}
use Rattle.std.proofs.Common.{inl, inr, sym, ap, ◌∙◌, subst, arith}
use Rattle.raft_values.specs.declared.log_id.LogId.{LogId}
use Rattle.raft_values.specs.LogId.{next_place}
use Rattle.raft_group_step.specs.GroupState.{GroupState}
use Rattle.raft_group_step.specs.SnapshotRequest.{place_above}
use Rattle.raft_group_step.specs.StoredGroup.{StoredGroup}
use Rattle.raft_laws.specs.GroupWorld.{Down, NodeState, Up}
use Rattle.raft_list_facts.specs.Leads.{leading_of}
use Rattle.raft_list_facts.specs.declared.leading.Leading.{Leading}
use Rattle.raft_cluster_laws.proofs.EventKept.{is_only}
use Rattle.raft_machines.specs.Machine.{MachineRules}
use Rattle.raft_node.specs.Reading.{TellsOf, machine_in, place_in}
use Rattle.raft_node.specs.Running.{Running, RunsAt}
use Rattle.raft_node.specs.Standing.{NodeValue}
use Rattle.raft_node_joint.specs.Standing.{IsUpIn, MayBeWhen}
use Rattle.raft_node_joint.proofs.LeadingDown.{is_stored}
use Rattle.raft_node_joint.proofs.Others.{is_down}
use Rattle.raft_node_laws.specs.Law.{Lends, leading_in}
use Rattle.raft_nodes_on_logs.specs.Acts.{LeadsAs, runs_of, unless_failed}
use Rattle.raft_nodes_on_logs.specs.Kinds.{NodeKind}
use Rattle.raft_nodes_on_logs.specs.Standing.{MayBeIn, UpNode, value}

-- a reader tells this of what runs at a node that goes on, and nothing of one that has failed
pub told_unless : {X : Type 0} (failed : Bool) (running : Option Running) (of : Option Running → Option X) (told : Option X) → of None ≡ None
    → (failed ≡ true → told ≡ None) → (failed ≡ false → told ≡ of running) → told ≡ of (unless_failed failed running)
told_unless true running of told none gone going = gone refl ∙ sym none
told_unless false running of told none gone going = going refl

same_place : (last : Option (LogId ℕ)) (applied : Option ℕ) → next_place last ≡ place_above applied → option_map (λ (id : LogId ℕ). id.index) last ≡ applied
same_place None None e = refl
same_place None (Some place) e = absurd (omega (arith, e))
same_place (Some id) None e = absurd (omega (arith, e))
same_place (Some id) (Some place) e = let at : id.index ≡ place = omega (arith, e) in ap (λ n. Some n) at

-- of a node that goes on there is one state
same_one : (states : List NodeState) (x s : NodeState) → states ≡ x ∷ [] → Contains states s → s ≡ x
same_one states x s alone has = is_only x s (subst (λ xs. Contains xs s) alone has)

-- of one that is down each is a stored part
stored_there : (parts : List StoredGroup) (states : List NodeState) (s : NodeState) → states ≡ map Down parts → Contains states s → (st : StoredGroup) × (s ≡ Down st)
stored_there parts states s are has = is_stored parts s (subst (λ xs. Contains xs s) are has)

module _ (rules : MachineRules) where
  lends_running : (r : Option Running) (s : GroupState) → RunsAt rules r s → Lends rules (Up s) (machine_in r) (place_in r)
  lends_running None s runs = absurd runs
  lends_running (Some r) s caught = (caught.folded, same_place r.applied.last s.applied caught.last)

  lends_up : (n : NodeValue) (h : ℕ) (s : GroupState) → IsUpIn rules n h s → Lends rules (Up s) (machine_in (n.running h)) (place_in (n.running h))
  lends_up n h s (inl at) = lends_running (n.running h) s at.runs
  lends_up n h s (inr (none, without)) = subst (λ r. Lends rules (Up s) (machine_in r) (place_in r)) (sym without.idle) (none, refl)

  lends_when : (failed : Bool) (n : NodeValue) (h : ℕ) (states : List NodeState) (s : NodeState) → MayBeWhen rules n h failed states → Contains states s
      → Lends rules s (machine_in (unless_failed failed (n.running h))) (place_in (unless_failed failed (n.running h)))
  lends_when false n h states s (t, is, up) has =
      subst (λ x. Lends rules x (machine_in (n.running h)) (place_in (n.running h))) (sym (same_one states (Up t) s is has)) (lends_up n h t up)
  lends_when true n h states s may has =
      let (st, down) = is_down rules n h states may s has in subst (λ x. Lends rules x None None) (sym down) (refl, refl)

  leads_up : (n : NodeValue) (h : ℕ) (told : Option Leading) (s : GroupState) → n.groups.has_failed ≡ false → IsUpIn rules n h s → TellsOf n h told leading_of
      → told ≡ leading_of s
  leads_up n h told s going (inl at) tells = tells.up s going at.up
  leads_up n h told s going (inr (none, without)) tells = tells.absent without.absent.0 ∙ sym (ap leading_of none)

  leads_when : (failed : Bool) (n : NodeValue) (h : ℕ) (told : Option Leading) (states : List NodeState) (s : NodeState) → n.groups.has_failed ≡ failed
      → MayBeWhen rules n h failed states → Contains states s → TellsOf n h told leading_of → told ≡ leading_in s
  leads_when false n h told states s going (t, is, up) has tells =
      leads_up n h told t going up tells ∙ sym (ap leading_in (same_one states (Up t) s is has))
  leads_when true n h told states s failed may has tells =
      let (st, down) = is_down rules n h states may s has in tells.failed failed ∙ sym (ap leading_in down)

module _ (k : NodeKind) where
  pub lends_in : (id : ℕ) (up : Option (UpNode k)) (files : k.Files) (h : ℕ) (states : List NodeState) (s : NodeState)
      → MayBeIn k id up files h states → Contains states s → Lends k.rules s (machine_in (runs_of k up h)) (place_in (runs_of k up h))
  lends_in id None files h states s m has =
      let (st, down) = stored_there (m.one ∷ m.more) states s m.parts has in subst (λ x. Lends k.rules x None None) (sym down) (refl, refl)
  lends_in id (Some n) files h states s m has = lends_when k.rules n.groups.has_failed (value k n) h states s m.may_be has

  pub leads_in : (id : ℕ) (up : Option (UpNode k)) (files : k.Files) (h : ℕ) (told : Option Leading) (states : List NodeState) (s : NodeState)
      → MayBeIn k id up files h states → Contains states s → LeadsAs k up h told → told ≡ leading_in s
  leads_in id None files h told states s m has tells =
      let (st, down) = stored_there (m.one ∷ m.more) states s m.parts has in tells ∙ sym (ap leading_in down)
  leads_in id (Some n) files h told states s m has tells =
      leads_when k.rules n.groups.has_failed (value k n) h told states s refl m.may_be has tells
