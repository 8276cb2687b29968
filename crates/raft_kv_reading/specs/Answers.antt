-- What the answer at a place of a group's list tells of its command's key.
use Rattle.std.specs.Prelude.{◌≡◌, ◌≤◌, ◌<◌, ℕ, zero, suc, false, ◌&&◌, nat_le}
use Rattle.std.specs.Prelude.{List, [], ◌∷◌, length, bytes_eq, Option, Some, None, is_none, is_some}
use Rattle.std.specs.Prelude.{if◌then◌else◌}
use Rattle.std.specs.List.{IsDistinct, list_any}
use Rattle.raft_group_step.specs.Values.{Entry}
use Rattle.raft_wire.specs.declared.kv.KvCommand.TheVariants.{Put, Get, Drop}
use Rattle.raft_kv.specs.Machine.{answer_of}
use Rattle.raft_kv_reading.specs.Values.{Change, Gives, Takes, Key, Value, change_on, command_on}
use Rattle.raft_kv_reading.specs.Values.{is_refused, value_before}

-- a get is answered by the value before it, a drop and a put too, but by 2 where the put was
-- refused; what is no command is answered by no bytes
pub record TellsValue (list : List Entry) (place : ℕ) (answer : List ℕ) : Type 0 where
  pub of_get : (key : Key) → command_on list place ≡ Some (Get key)
      → answer ≡ answer_of (value_before list place key)
  pub of_drop : (key : Key) → command_on list place ≡ Some (Drop key)
      → answer ≡ answer_of (value_before list place key)
  pub of_put : (key : Key) (value : Value) → command_on list place ≡ Some (Put key value)
      → answer ≡ (if is_refused list place then 2 ∷ [] else answer_of (value_before list place key))
  pub of_others : command_on list place ≡ None → answer ≡ []

-- the value that an answer tells, behind the byte 1
abbrev pub value_in : List ℕ → Option Value
value_in [] = None
value_in (zero ∷ rest) = None
value_in (suc zero ∷ rest) = Some rest
value_in (suc (suc n) ∷ rest) = None

-- a put of the key that wasn't refused, or a drop of it, stands at the place
abbrev pub IsChange : List Entry → Key → ℕ → Change → Type 0
IsChange list key place (Gives value) =
    (command_on list place ≡ Some (Put key value)) × (is_refused list place ≡ false)
IsChange list key place Takes = command_on list place ≡ Some (Drop key)

-- nothing changes the key from the first of these places up to the second
abbrev pub StaysBetween : List Entry → Key → ℕ → ℕ → Type 0
StaysBetween list key first end =
    (place : ℕ) → first ≤ place → place < end → change_on list key place ≡ None

-- these are the keys that have a value before the place, each once
pub record AreKeysBefore (list : List Entry) (place : ℕ) (keys : List Key) : Type 0 where
  pub once : IsDistinct bytes_eq keys
  pub each : (key : Key) → list_any (bytes_eq key) keys ≡ is_some (value_before list place key)

-- a put is refused just where 4,096 keys have a value and its own has none
abbrev pub IsRefusedByFullMap : List Entry → ℕ → List Key → Type 0
IsRefusedByFullMap list place keys =
    (key : Key) (value : Value) → command_on list place ≡ Some (Put key value)
    → is_refused list place ≡ (nat_le 4096 (length keys) && is_none (value_before list place key))
