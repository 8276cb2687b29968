-- Which groups a log names.
use Rattle.std.proofs.Common.{◌≡◌, ◌∙◌, ℕ, List, ap, refl}
use Rattle.std.specs.Prelude.{Bool, true, false, is_some}
use Rattle.raft_group_step.specs.StoredGroup.{StoredGroup}
use Rattle.raft_log_memtables.specs.Content.{Content, GroupContent, no_group}
use Rattle.raft_machines.specs.Machine.{MachineRules}
use Rattle.raft_store.specs.Keys.{group_key}
use Rattle.raft_store.specs.Reading.{Holds, presence}

is_some-presence : (there : Bool) → is_some (presence there) ≡ there
is_some-presence true = refl
is_some-presence false = refl

-- a group has the key just where the node has it
pub made_as_held : (rules : MachineRules) (old new : Content (List ℕ)) (group : ℕ) (s : StoredGroup) → new ≡ old → Holds rules (old group) s → is_some ((new group).value group_key) ≡ s.present
made_as_held rules old new group s same held =
    ap (λ (c : Content (List ℕ)). is_some ((c group).value group_key)) same ∙ ap (λ o. is_some o) held.present ∙ is_some-presence s.present

-- one that the log has nothing of hasn't the key
pub unmade : (old new : Content (List ℕ)) (group : ℕ) → new ≡ old → old group ≡ no_group → is_some ((new group).value group_key) ≡ false
unmade old new group same none =
    ap (λ (c : Content (List ℕ)). is_some ((c group).value group_key)) same ∙ ap (λ (g : GroupContent (List ℕ)). is_some (g.value group_key)) none
