-- A node that has nothing knows of no group.
use Rattle.std.specs.Prelude.{◌≡◌, ℕ, Bool, true, false, List, [], ◌∷◌, Result, Ok, Err, is_some, refl}
use Rattle.raft_cluster_events.specs.declared.node.NodeOutcome.{NodeOutcome}
use Rattle.raft_node_laws.specs.Law.{first_state}
use Rattle.std.proofs.Common.{inl, inr, sym, subst}
use Rattle.raft_cluster_events.specs.declared.outcome.Stop.{Stop}
use Rattle.raft_group_step.specs.GroupState.{no_group, state_of}
use Rattle.raft_group_step.specs.StoredGroup.{StoredGroup}
use Rattle.raft_laws.specs.GroupWorld.{Down, NodeState, Up}
use Rattle.raft_log_memtables.specs.Content.{Content, nothing}
use Rattle.raft_machines.specs.Machine.{MachineRules}
use Rattle.raft_node.specs.declared.outcome.Outcome.{Outcome}
use Rattle.raft_node_joint.specs.Standing.{MayBeWhen}
use Rattle.raft_store.specs.Reading.{Holds}
use Rattle.raft_store.specs.Showing.{holds_nothing}
use Rattle.raft_nodes_on_logs.specs.Acts.{AreHeld, IsOpened, IsUnopened, ReopensTo}
use Rattle.raft_nodes_on_logs.specs.Kinds.{NodeKind}
use Rattle.raft_nodes_on_logs.specs.Standing.{MayBeDown, MayBeIn, MayBeUp, NodeOf, UpNode, log_node_may_be, value}

abbrev no_groups : ℕ → StoredGroup
no_groups group = no_group

holds_none : (rules : MachineRules) (content : Content (List ℕ)) → content ≡ nothing → (group : ℕ) → Holds rules (content group) no_group
holds_none rules content is group = subst (λ (c : Content (List ℕ)). Holds rules (c group) no_group) (sym is) (holds_nothing rules)

none_held : (rules : MachineRules) (own : ℕ) (content : Content (List ℕ)) → content ≡ nothing → AreHeld rules own content no_groups
none_held rules own content is = record {
  held = holds_none rules content is;
  reached = λ group there. absurd (let no : false ≡ true = there in cc);
}

module _ (k : NodeKind) where
  -- an opening of the files finds nothing
  abbrev pub FindsNothing : k.Files → Type 0
  FindsNothing files = (content : Content (List ℕ)) → k.found files content → content ≡ nothing

  pub begins_up : (n : UpNode k) (id : ℕ) (files : k.Files) (did : List Outcome) → IsOpened k files id n did → FindsNothing files
      → (group : ℕ) → MayBeUp k.rules id (value k n) group (Up (state_of no_group) ∷ [])
  begins_up n id files did opened none group =
      let all = opened.opened no_groups (none_held k.rules id opened.content (none opened.content opened.found)) in
      let there = all.none group refl in
      record {
        own = opened.own;
        may_be = subst (λ b. MayBeWhen k.rules (value k n) group b (Up (state_of no_group) ∷ [])) (sym opened.going)
            (state_of no_group, refl, inr (refl, record { absent = (there.no_member, all.well, there.stored); idle = there.idle }));
        streams = λ going peer. opened.streams peer;
      }

  pub begins_down : (old new : k.Files) (id : ℕ) (stop : Stop) → IsUnopened k old id stop new → FindsNothing old
      → (group : ℕ) → MayBeDown k new group (Down no_group ∷ [])
  begins_down old new id stop (inl refused) none group = record {
    one = no_group;
    more = [];
    parts = refl;
    shown = λ content found. inl (holds_none k.rules content (none content (refused.found content found)) group);
  }
  begins_down old new id stop (inr (inl l)) none group = record {
    one = no_group;
    more = [];
    parts = refl;
    shown = (l.left no_groups (none_held k.rules id l.content (none l.content l.found))).none group refl;
  }
  begins_down old new id stop (inr (inr c)) none group = record {
    one = no_group;
    more = [];
    parts = refl;
    shown =
        let all = c.opened.opened no_groups (none_held k.rules id c.opened.content (none c.opened.content c.opened.found)) in
        c.shown group (no_group ∷ []) (all.none group refl).stored;
  }

  pub begins_so : (old new : NodeOf k) (answered : Result (List NodeOutcome) Stop) → ReopensTo k old answered new → FindsNothing old.files
      → (group : ℕ) → log_node_may_be k new group (first_state (is_some new.up) ∷ [])
  begins_so old new (Ok outcomes) o none group =
      subst (λ up. MayBeIn k new.id up new.files group (first_state (is_some up) ∷ [])) (sym o.up.1)
      (subst (λ i. MayBeUp k.rules i (value k o.n) group (Up (state_of no_group) ∷ [])) (sym o.up.0) (begins_up o.n old.id old.files o.did o.opened none group))
  begins_so old new (Err stop) (stays, unopened) none group =
      subst (λ up. MayBeIn k new.id up new.files group (first_state (is_some up) ∷ [])) (sym stays.down) (begins_down old.files new.files old.id stop unopened none group)
