-- What is kept of groups, and what a call that stores leaves of it. A storage shows of a group one of some stored parts: whatever
-- a crash leaves of it stands for one of them. Where nothing failed it shows one alone.
use Rattle.std.specs.Prelude.{◌≡◌, ◌⊎◌, ◌-◌, ℕ, List, [], ◌∷◌, take, drop, Option, Some, None}
use Rattle.raft_values.specs.declared.log_id.LogId.{LogId}
use Rattle.raft_values.specs.LogId.{next_place}
use Rattle.raft_group_step.specs.Values.{Entry}
use Rattle.raft_group_step.specs.StoredGroup.{Snapshot, StoredGroup, StoringCommand, after_storing, first_place}

-- it is one of these
abbrev pub IsOneOf : {A : Type 0} → List A → A → Type 0
IsOneOf [] x = ⊥
IsOneOf (y ∷ ys) x = (x ≡ y) ⊎ IsOneOf ys x

-- which stored parts are shown of each group
abbrev pub Shows : Type 1
Shows = ℕ → List StoredGroup → Type 0

-- a call that succeeded stored the command in the group
abbrev pub Stores : Shows → Shows → ℕ → StoringCommand → Type 0
Stores old new group c = (s : StoredGroup) → old group (s ∷ []) → new group (after_storing c s ∷ [])

-- the commands at which a call may have failed, each where this was stored
abbrev pub Fails : Type 1
Fails = StoringCommand → StoredGroup → Type 0

-- any one, wherever: no command was refused for what it is
abbrev pub FailsAnyhow : Fails → Type 0
FailsAnyhow fails = (c : StoringCommand) (s : StoredGroup) → fails c s

-- it may still have failed at the same
abbrev pub KeepsFails : Fails → Fails → Type 0
KeepsFails old new = (c : StoringCommand) (s : StoredGroup) → old c s → new c s

-- one that failed stored it or not, and may have failed at it
abbrev pub MayStore : Shows → Shows → Fails → ℕ → StoringCommand → Type 0
MayStore old new fails group c = (s : StoredGroup) → old group (s ∷ []) → new group (s ∷ after_storing c s ∷ []) × fails c s

-- what is shown of the other groups is shown still
abbrev pub KeepsOthers : Shows → Shows → ℕ → Type 0
KeepsOthers old new group = (other : ℕ) (parts : List StoredGroup) → (other ≡ group → ⊥) → old other parts → new other parts

-- what is shown of each group is shown still
abbrev pub KeepsAll : Shows → Shows → Type 0
KeepsAll old new = (group : ℕ) (parts : List StoredGroup) → old group parts → new group parts

-- more parts are shown than these
abbrev pub ShowsMore : Shows → Type 0
ShowsMore shows = (group : ℕ) (parts more : List StoredGroup) → ((s : StoredGroup) → IsOneOf parts s → IsOneOf more s) → shows group parts → shows group more

-- there is no snapshot, or one that stands for this one
abbrev pub StandsOrNone : {X : Type 0} → (X → Snapshot → Type 0) → Option X → Option Snapshot → Type 0
StandsOrNone stands None None = Unit {0}
StandsOrNone stands None (Some y) = ⊥
StandsOrNone stands (Some x) None = ⊥
StandsOrNone stands (Some x) (Some y) = stands x y

-- the log's entries behind one log id up to another
abbrev pub entries_of : StoredGroup → Option (LogId ℕ) → Option (LogId ℕ) → List Entry
entries_of s prev last = take (next_place last - next_place prev) (drop (next_place prev - first_place s) s.log)
