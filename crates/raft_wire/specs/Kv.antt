-- Commands of a key-value machine: their limits, their one spelling, and how it is read. A further command is a
-- further tag.
use Rattle.std.specs.Prelude.{ℕ, zero, suc, ◌<◌, ◌≤◌, ◌==◌, List, [], ◌∷◌, ◌++◌, length, Option, Some, None, Err, nat_lt, if◌then◌else◌}
use Rattle.raft_wire.specs.declared.kv.KvCommand.{KvCommand}
use Rattle.raft_wire.specs.declared.kv.KvCommand.TheVariants.{Put, Get, Drop}
use Rattle.raft_wire.specs.declared.error.FrameFault.{FrameFault}
use Rattle.raft_wire.specs.declared.error.FrameFault.TheVariants as fault
use Rattle.raft_wire.specs.Reader.{Reader, both, made, filled_at}
use Rattle.raft_wire.specs.Entries.{spelled_text}

-- ---- keys and values

-- the most bytes of a key, and of a value
abbrev pub key_limit : ℕ
key_limit = 255

abbrev pub value_limit : ℕ
value_limit = 199

-- there are bytes, and no more than the limit
pub record IsFilled (limit : ℕ) (bytes : List ℕ) : Type 0 where
  pub some : 0 < length bytes
  pub few : length bytes ≤ limit

abbrev pub IsKey : List ℕ → Type 0
IsKey key = IsFilled key_limit key

abbrev pub IsValue : List ℕ → Type 0
IsValue value = IsFilled value_limit value

abbrev pub key_at : Reader (List ℕ)
key_at = filled_at key_limit

abbrev pub value_at : Reader (List ℕ)
value_at = filled_at value_limit

-- what is wrong with bytes that are to be a key or a value
abbrev pub fault_of : ℕ → List ℕ → Option FrameFault
fault_of limit bytes =
    if length bytes == 0 then Some fault.CutShort
    else if nat_lt limit (length bytes) then Some fault.TooLong
    else None

-- ---- commands

-- a tag, and the key and the value behind their lengths
abbrev pub spelled_command : KvCommand → List ℕ
spelled_command (Put key value) = 1 ∷ (spelled_text key ++ spelled_text value)
spelled_command (Get key) = 2 ∷ spelled_text key
spelled_command (Drop key) = 3 ∷ spelled_text key

abbrev pub FitsCommand : KvCommand → Type 0
FitsCommand (Put key value) = IsKey key × IsValue value
FitsCommand (Get key) = IsKey key
FitsCommand (Drop key) = IsKey key

-- what is wrong with the value, if the key is right
abbrev pub fault_or : Option FrameFault → Option FrameFault → Option FrameFault
fault_or (Some f) g = Some f
fault_or None g = g

-- the first that is wrong with a command, from left to right
abbrev pub fault_of_command : KvCommand → Option FrameFault
fault_of_command (Put key value) = fault_or (fault_of key_limit key) (fault_of value_limit value)
fault_of_command (Get key) = fault_of key_limit key
fault_of_command (Drop key) = fault_of key_limit key

abbrev pub put_of : List ℕ × List ℕ → KvCommand
put_of x = Put x.0 x.1

abbrev pub get_of : List ℕ → KvCommand
get_of key = Get key

abbrev pub drop_of : List ℕ → KvCommand
drop_of key = Drop key

unfoldable pub command_at : Reader KvCommand
command_at [] = Err fault.CutShort
command_at (zero ∷ rest) = Err fault.BadTag
command_at (suc zero ∷ rest) = made put_of (both key_at value_at) rest
command_at (suc (suc zero) ∷ rest) = made get_of key_at rest
command_at (suc (suc (suc zero)) ∷ rest) = made drop_of key_at rest
command_at (suc (suc (suc (suc b))) ∷ rest) = Err fault.BadTag
