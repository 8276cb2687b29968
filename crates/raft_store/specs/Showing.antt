-- Where a log shows one of these parts, it shows one of more.
use Rattle.std.specs.Prelude.{ℕ, List, [], ◌∷◌, Option, None}
use Rattle.std.proofs.Common.{◌≡◌, inl, inr, refl, subst, sym, arith, le_refl}
use Rattle.raft_group_step.specs.GroupState.{no_group}
use Rattle.raft_group_step.specs.StoredGroup.{StoredGroup}
use Rattle.raft_log_memtables.specs.Content.{Content, GroupContent, nothing}
use Rattle.raft_log_memtables.specs.Content as content
use Rattle.raft_content_log.specs.Leaving.{Leaves, LeavesOnly}
use Rattle.raft_group_storage.specs.Keeping.{IsOneOf, ShowsMore}
use Rattle.raft_machines.specs.Machine.{MachineRules}
use Rattle.raft_store.specs.Reading.{Holds, HoldsOne}
use Rattle.raft_store.specs.Batches.{ShowsBy}
use Rattle.raft_store.specs.declared.recent.Recent.{Recent}

holds_among : (rules : MachineRules) (g : GroupContent (List ℕ)) (s : StoredGroup) (more : List StoredGroup) → IsOneOf more s → Holds rules g s → HoldsOne rules g more
holds_among rules g s [] none h = absurd none
holds_among rules g s (x ∷ xs) (inl same) h = inl (subst (Holds rules g) same h)
holds_among rules g s (x ∷ xs) (inr is) h = inr (holds_among rules g s xs is h)

-- each of these parts is one of more
abbrev AreAmong : List StoredGroup → List StoredGroup → Type 0
AreAmong parts more = (s : StoredGroup) → IsOneOf parts s → IsOneOf more s

one_of_more : (rules : MachineRules) (g : GroupContent (List ℕ)) (parts more : List StoredGroup) → AreAmong parts more → HoldsOne rules g parts → HoldsOne rules g more
one_of_more rules g [] more wider none = absurd none
one_of_more rules g (s ∷ ss) more wider (inl h) = holds_among rules g s more (wider s (inl refl)) h
one_of_more rules g (s ∷ ss) more wider (inr h) = one_of_more rules g ss more (λ x is. wider x (inr is)) h

-- a group that isn't there holds no stored part
pub holds_nothing : (rules : MachineRules) → Holds rules content.no_group no_group
holds_nothing rules = record {
  present = refl;
  vote = refl;
  end = refl;
  purged = refl;
  purged_fits = tt;
  snapshot = tt;
  log = tt;
  reach = record {
    top = 0;
    past_end = le_refl 0;
    there = λ i from to. absurd (omega (arith, to));
    none_before = λ i below. refl;
    none_behind = λ i behind. refl;
  };
}

module _ {X : Type 0} (rules : MachineRules) (sound : X → Type 0) (answers : X → Content (List ℕ)) where
  pub shows_more : (leaves : X → Leaves) (log : X) (recent : Option Recent) → ShowsMore (ShowsBy rules sound answers leaves log recent)
  shows_more leaves log recent group parts more wider shown = record {
    answered = λ is. one_of_more rules (answers log group) parts more wider (shown.answered is);
    left = λ content is. one_of_more rules (content group) parts more wider (shown.left content is);
    recalled = shown.recalled;
  }

  -- a log that leaves nothing but what it answers shows the parts that the answer holds
  pub shows_answered : (leaves : X → Leaves) (log : X) → LeavesOnly (leaves log) (answers log) → (group : ℕ) (parts : List StoredGroup) → HoldsOne rules (answers log group) parts
      → ShowsBy rules sound answers leaves log None group parts
  shows_answered leaves log only group parts holds = record {
    answered = λ is. holds;
    left = λ content may. subst (λ (c : Content (List ℕ)). HoldsOne rules (c group) parts) (sym (only content may)) holds;
    recalled = λ is. tt;
  }

  -- one that has nothing shows of each group that it isn't there
  pub shows_nothing : (leaves : X → Leaves) (log : X) → LeavesOnly (leaves log) (answers log) → answers log ≡ nothing
      → (group : ℕ) → ShowsBy rules sound answers leaves log None group (no_group ∷ [])
  shows_nothing leaves log only is group =
      shows_answered leaves log only group (no_group ∷ []) (subst (λ (c : Content (List ℕ)). HoldsOne rules (c group) (no_group ∷ [])) (sym is) (inl (holds_nothing rules)))
