-- What runs for a node's groups.
use Rattle.std.specs.Prelude.{ℕ, List, Option, Some, None, option_map}
use Rattle.std.specs.Ordering.{nat_cmp}
use Rattle.std.specs.BTreeMap.{BTreeMap, get}
use Rattle.raft_group_step.specs.GroupState.{GroupState}
use Rattle.raft_machines.specs.Machine.{MachineRules}
use Rattle.raft_applier.specs.Applied.{IsCaughtUp}
use Rattle.raft_applier.specs.declared.applied.Applied.{Applied}
use Rattle.raft_applier.specs.declared.applier.Applier.{Applier}

-- a machine's state, how far it has come, and who waits
pub record Running : Type 0 where
  pub machine : List ℕ
  pub applied : Applied

-- where a machine's state is this
abbrev pub running_of : {M : Type 0} → (M → List ℕ) → Applier M → Running
running_of state a = record { machine = state a.machine; applied = a.applied }

-- what runs for the group
abbrev pub running_at : {M : Type 0} → (M → List ℕ) → BTreeMap ℕ (Applier M) → ℕ → Option Running
running_at state appliers group = option_map (running_of state) (get nat_cmp appliers group)

-- a machine is there, and has run all that is applied in that state of the group; whoever waits there waits for it
abbrev pub RunsAt : MachineRules → Option Running → GroupState → Type 0
RunsAt rules None s = ⊥
RunsAt rules (Some r) s = IsCaughtUp rules r.machine r.applied s
