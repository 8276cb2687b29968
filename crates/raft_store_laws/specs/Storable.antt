-- What a step stores in any history a store takes.
use Rattle.std.specs.Prelude.{◌≡◌, ◌≤◌, ℕ, List, [], ◌∷◌, length}
use Rattle.raft_group_step.specs.Limits.{snapshot_limit}
use Rattle.raft_group_step.specs.Values.{Entry}
use Rattle.raft_group_step.specs.StoredGroup.{StoredGroup, StoringCommand, after_storing}
use Rattle.raft_group_step.specs.GroupState.{GroupState, state_of}
use Rattle.raft_group_step.specs.GroupEvent.{GroupEvent, Open}
use Rattle.raft_group_step.specs.GroupStep.{group_step}
use Rattle.raft_laws.specs.GroupWorld.{GroupWorld, Recorded, Down, Up}
use Rattle.raft_laws.specs.OneList.{IsGroupHistory}
use Rattle.raft_history_laws.specs.Limits.{WasSent}
use Rattle.raft_machines.specs.Machine.{MachineRules}
use Rattle.raft_machines.specs.Fold.{fold_of}
use Rattle.raft_store.specs.Storable.{IsStorable}

-- the machine's snapshot has no more bytes than one may have, whichever entries it has run
abbrev pub HasShortSnapshots : MachineRules → Type 0
HasShortSnapshots rules = (es : List Entry) → length (rules.snapshot (fold_of rules es)) ≤ snapshot_limit

-- a store takes each of these commands, in their order
abbrev pub AllStorable : MachineRules → StoredGroup → List StoringCommand → Type 0
AllStorable rules s [] = Unit {0}
AllStorable rules s (c ∷ cs) = IsStorable rules s c × AllStorable rules (after_storing c s) cs

-- whatever comes to a node, in any history
abbrev pub CommandsAreStorable : MachineRules → Type 0
CommandsAreStorable rules =
    (ids : List ℕ) (rs : List Recorded) (end : GroupWorld) → IsGroupHistory ids rs end
    → (n : ℕ) (s : GroupState) (e : GroupEvent) → end.nodes n ≡ Up s → WasSent end.messages e
    → AllStorable rules s.stored (group_step n s e).commands

-- and where it opens
abbrev pub OpeningsAreStorable : MachineRules → Type 0
OpeningsAreStorable rules =
    (ids : List ℕ) (rs : List Recorded) (end : GroupWorld) → IsGroupHistory ids rs end
    → (n : ℕ) (stored : StoredGroup) → end.nodes n ≡ Down stored
    → AllStorable rules stored (group_step n (state_of stored) Open).commands
