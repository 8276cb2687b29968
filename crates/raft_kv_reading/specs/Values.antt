-- The value of a key before a place of a group's list: what the last put or drop of the key before
-- it left.
use Rattle.std.specs.Prelude.{ℕ, Bool, List, [], ◌∷◌, bytes_eq, filter_map, slice_get}
use Rattle.std.specs.Prelude.{Option, Some, None, option_and_then, if◌then◌else◌}
use Rattle.std.specs.List.{last_or, range_with_len}
use Rattle.std.specs.Result.{result_ok}
use Rattle.raft_state.specs.declared.entry.EntryPayload.TheVariants.{Blank, Normal}
use Rattle.raft_state.specs.declared.entry.EntryPayload.TheVariants.{Membership as Members}
use Rattle.raft_group_step.specs.Values.{Entry, EntryPayload}
use Rattle.raft_machines.specs.Fold.{answer_at}
use Rattle.raft_wire.specs.Reader.{all_of}
use Rattle.raft_wire.specs.declared.kv.KvCommand.{KvCommand}
use Rattle.raft_wire.specs.declared.kv.KvCommand.TheVariants.{Put, Get, Drop}
use Rattle.raft_wire.specs.Kv.{command_at}
use Rattle.raft_kv.specs.Machine.{kv}

abbrev pub Key : Type 0
Key = List ℕ

abbrev pub Value : Type 0
Value = List ℕ

-- ---- commands of a list

-- the command that the entry's bytes spell; a blank, a membership and other bytes are none
abbrev pub command_in : EntryPayload → Option KvCommand
command_in Blank = None
command_in (Normal bytes) = result_ok (all_of command_at bytes)
command_in (Members membership) = None

-- the command at this place of the list, if one stands there
abbrev pub command_on : List Entry → ℕ → Option KvCommand
command_on list place = option_and_then (λ (e : Entry). command_in e.payload) (slice_get list place)

-- ---- changes of a key

-- a put gives the key a value, a drop takes its value away
pub data Change : Type 0 where
  Gives : (value : Value) → Change
  Takes : Change

-- what a command changes of this key
abbrev pub change_by : Key → KvCommand → Option Change
change_by key (Put other value) = if bytes_eq key other then Some (Gives value) else None
change_by key (Get other) = None
change_by key (Drop other) = if bytes_eq key other then Some Takes else None

-- the put at this place was refused, as its answer 2 tells: the map was full, and the key new
abbrev pub is_refused : List Entry → ℕ → Bool
is_refused list place = bytes_eq (answer_at kv list place) (2 ∷ [])

-- what the entry at this place changes of the key
abbrev pub change_on : List Entry → Key → ℕ → Option Change
change_on list key place =
    if is_refused list place then None
    else option_and_then (change_by key) (command_on list place)

-- the changes of the key before this place, in their order
abbrev pub changes_before : List Entry → ℕ → Key → List Change
changes_before list place key = filter_map (change_on list key) (range_with_len 0 place)

-- ---- values

abbrev pub value_left : Option Change → Option Value
value_left None = None
value_left (Some (Gives value)) = Some value
value_left (Some Takes) = None

-- the value that the last of these changes left; a key that nothing changed has none
abbrev pub value_before : List Entry → ℕ → Key → Option Value
value_before list place key = value_left (last_or None (changes_before list place key))
