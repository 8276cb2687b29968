-- What reads of an engine answer, and why they are refused.
use Rattle.std.specs.Prelude.{◌≡◌, ◌⊎◌, ◌+◌, ◌-◌, ◌*◌, ◌^◌, ◌<◌, ◌≤◌, min, ℕ, Bool, true, false}
use Rattle.std.specs.Prelude.{List, [], ◌∷◌, ◌++◌, length, slice_get, sum_by, Option, Some, None}
use Rattle.raft_log_files.specs.declared.error.Error.TheVariants.{Memory}
use Rattle.raft_log_files.specs.Error as log_error
use Rattle.raft_log_memtables.specs.Content.{GroupContent}
use Rattle.raft_log_pipes.specs.declared.pipes.DualPipes.{DualPipes}
use Rattle.raft_log_pipes.specs.Pipes.{pipe_of}
use Rattle.raft_log_records.specs.declared.file_id.LogQueue.{LogQueue}
use Rattle.raft_log_records.specs.Item.{Item}
use Rattle.raft_log_records.specs.Item.Change.{compact}
use Rattle.raft_log_engine.specs.declared.fault.EngineFault.{EngineFault}
use Rattle.raft_log_engine.specs.declared.fault.EngineFault.TheVariants.{Log, NotTaken, Marked, NotAMessage, Stopped}
use Rattle.raft_log_engine.specs.Scanning.{IsNoMessage}

-- the number of each kind of refusal, as scripts and logs have it
abbrev pub number_of : EngineFault → ℕ
number_of (Log error) = log_error.number_of error
number_of NotTaken = 3
number_of Marked = 3
number_of NotAMessage = 2
number_of Stopped = 6

-- a write failed before
abbrev pub IsStopped : Bool → EngineFault → Type 0
IsStopped is_stopped e = (e ≡ Stopped) × (is_stopped ≡ true)

-- why a read of the tables is refused
abbrev pub IsTableFault : Bool → EngineFault → Type 0
IsTableFault is_stopped e = (e ≡ Log Memory) ⊎ IsStopped is_stopped e

-- the message that a value is, or none where there is no value
abbrev pub IsRead : {S : Type 0} → (S → Bool) → (S → List ℕ) → Option (List ℕ) → Option S → Type 0
IsRead fits bytes value None = value ≡ None
IsRead fits bytes value (Some m) = (fits m ≡ true) × (value ≡ Some (bytes m))

-- a value is there, and no message has its bytes
abbrev pub IsUnread : {S : Type 0} → (S → Bool) → (S → List ℕ) → Option (List ℕ) → Type 0
IsUnread fits bytes None = ⊥
IsUnread fits bytes (Some value) = IsNoMessage fits bytes value

-- why a message isn't read
abbrev pub IsMessageFault : {S : Type 0} → (S → Bool) → (S → List ℕ) → Option (List ℕ) → Bool → EngineFault → Type 0
IsMessageFault fits bytes value is_stopped e = IsTableFault is_stopped e ⊎ ((e ≡ NotAMessage) × IsUnread fits bytes value)

-- bytes that are no more than this, if there is a limit
abbrev pub FitsIn : Option ℕ → List (List ℕ) → Type 0
FitsIn None found = Unit {0}
FitsIn (Some most) found = sum_by length found ≤ most

-- These are the entries from `begin` on. They end before `end`, or before the first one that would pass the size, but not
-- before the second one
pub record AreRead (entry : ℕ → Option (List ℕ)) (begin end : ℕ) (size : Option ℕ) (found : List (List ℕ)) : Type 0 where
  pub each : (i : ℕ) → i < length found → slice_get found i ≡ entry (begin + i)
  pub short : length found ≤ end - begin
  pub fit : 1 < length found → FitsIn size found
  pub all : length found < end - begin → (0 < length found) × ((next : List ℕ) × (entry (begin + length found) ≡ Some next) × (FitsIn size (found ++ next ∷ []) → ⊥))

-- entries of a group; one that isn't there has none
pub record HasRead (group : GroupContent (List ℕ)) (begin end : ℕ) (size : Option ℕ) (found : List (List ℕ)) : Type 0 where
  pub there : group.there ≡ true → AreRead group.entry begin end size found
  pub unknown : group.there ≡ false → found ≡ []

-- the item that compacts a group
abbrev pub compaction : ℕ → ℕ → Item (List ℕ)
compaction group index = record { group = group; change = compact index }

-- the bytes of all files of a queue, each taken as long as the target size
abbrev pub used_by : DualPipes → LogQueue → ℕ
used_by p queue = min ((length (pipe_of p queue).older.items + 1) * (pipe_of p queue).target_file_size) (2 ^ 64 - 1)
