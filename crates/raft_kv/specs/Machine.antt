-- What a command does to a map, and its answer.
use Rattle.std.specs.Prelude.{ℕ, Bool, not, ◌&&◌, nat_le, List, [], ◌∷◌, Option, Some, None, Result, Ok, Err, if◌then◌else◌}
use Rattle.std.specs.FinMap as finite
use Rattle.raft_machines.specs.Machine.{MachineRules}
use Rattle.raft_wire.specs.declared.error.FrameFault.{FrameFault}
use Rattle.raft_wire.specs.Reader.{all_of}
use Rattle.raft_wire.specs.declared.kv.KvCommand.{KvCommand}
use Rattle.raft_wire.specs.declared.kv.KvCommand.TheVariants.{Put, Get, Drop}
use Rattle.raft_wire.specs.Kv.{command_at}
use Rattle.raft_kv.specs.Map.{Map, key_count_limit, spelled_map, map_in, restored}

-- there is no place for a new key, and this one is new
abbrev pub is_full_for : Map → List ℕ → Bool
is_full_for m key = nat_le key_count_limit (finite.len m) && not (finite.contains_key m key)

-- 0 where there is no value, or 1 and the value
abbrev pub answer_of : Option (List ℕ) → List ℕ
answer_of None = 0 ∷ []
answer_of (Some value) = 1 ∷ value

-- the map after a command
abbrev pub after_command : Map → KvCommand → Map
after_command m (Put key value) = if is_full_for m key then m else finite.insert m key value
after_command m (Get key) = m
after_command m (Drop key) = finite.remove m key

-- the answer is the value before; 2 where the map is full
abbrev pub answer_to : Map → KvCommand → List ℕ
answer_to m (Put key value) = if is_full_for m key then 2 ∷ [] else answer_of (finite.get m key)
answer_to m (Get key) = answer_of (finite.get m key)
answer_to m (Drop key) = answer_of (finite.get m key)

-- ---- on bytes: those that are no command change nothing, and are answered by no bytes

abbrev pub state_after : List ℕ → Result KvCommand FrameFault → List ℕ
state_after state (Ok command) = spelled_map (after_command (map_in state) command)
state_after state (Err f) = state

abbrev pub answer_in : List ℕ → Result KvCommand FrameFault → List ℕ
answer_in state (Ok command) = answer_to (map_in state) command
answer_in state (Err f) = []

-- The state is the spelling of the map. A machine's map is within its limits, so that its spelling restores it.
abbrev pub state_of : Map → List ℕ
state_of m = restored (spelled_map m)

abbrev pub kv : MachineRules
kv =
    record {
      first = spelled_map finite.empty;
      step = λ state place bytes. state_after state (all_of command_at bytes);
      answer = λ state place bytes. answer_in state (all_of command_at bytes);
      snapshot = λ state. state;
      restored = restored;
    }
