-- What a crash may leave of a log, and what calls leave of it. A content has entries as their bytes.
use Rattle.std.specs.Prelude.{◌≡◌, ◌≢◌, ◌⊎◌, ◌+◌, ◌-◌, ◌<◌, ◌≤◌, ℕ, false, List, length, slice_get, IsSome, Option}
use Rattle.std.specs.List.{AllByRecursion, list_any}
use Rattle.raft_log_records.specs.Item.{Item}
use Rattle.raft_log_records.specs.Spelling.{holds_mark}
use Rattle.raft_log_memtables.specs.Content.{Content}

-- the contents that a crash may leave
abbrev pub Leaves : Type 1
Leaves = Content (List ℕ) → Type 0

-- it leaves this content alone
abbrev pub LeavesOnly : Leaves → Content (List ℕ) → Type 0
LeavesOnly leaves content = (left : Content (List ℕ)) → leaves left → left ≡ content

-- it is one of two
abbrev pub IsEither : Content (List ℕ) → Content (List ℕ) → Content (List ℕ) → Type 0
IsEither one other content = (content ≡ one) ⊎ (content ≡ other)

-- it leaves one of two
abbrev pub LeavesEither : Leaves → Content (List ℕ) → Content (List ℕ) → Type 0
LeavesEither leaves one other = (left : Content (List ℕ)) → leaves left → IsEither one other left

-- it leaves nothing that it didn't leave before
abbrev pub LeavesNoMore : Leaves → Leaves → Type 0
LeavesNoMore old new = (left : Content (List ℕ)) → new left → old left

-- no item is of the group
abbrev pub IsUnnamed : List (Item (List ℕ)) → ℕ → Type 0
IsUnnamed items group = AllByRecursion (λ item. item.group ≢ group) items

-- two contents have the same of each group that no item is of
abbrev pub AgreesElsewhere : List (Item (List ℕ)) → Content (List ℕ) → Content (List ℕ) → Type 0
AgreesElsewhere items one other = (group : ℕ) → IsUnnamed items group → one group ≡ other group

-- what it leaves agrees there with something that it left before
abbrev pub LeavesElsewhere : List (Item (List ℕ)) → Leaves → Leaves → Type 0
LeavesElsewhere items old new =
    (left : Content (List ℕ)) → new left → (before : Content (List ℕ)) × old before × AgreesElsewhere items left before

-- after a write the log answers this content, and leaves it alone
pub record IsWritten (answered : Content (List ℕ)) (leaves : Leaves) (content : Content (List ℕ)) : Type 0 where
  pub answers : answered ≡ content
  pub leaves_only : LeavesOnly leaves content

-- after one that failed it leaves the content before or this one, and answers one of them if it is sound
pub record MayBeWritten (sound : Type 0) (answered : Content (List ℕ)) (leaves : Leaves) (before content : Content (List ℕ)) : Type 0 where
  pub answers : sound → IsEither before content answered
  pub leaves_either : LeavesEither leaves before content

-- these are the entries from an index on up to another one, which is left out
pub record AreEntries (entry : ℕ → Option (List ℕ)) (begin end : ℕ) (found : List (List ℕ)) : Type 0 where
  pub len : length found ≡ end - begin
  pub each : (i : ℕ) → i < end - begin → slice_get found i ≡ entry (begin + i)

-- none of its items marks it as a part of an atomic group
abbrev pub AreUnmarked : List (Item (List ℕ)) → Type 0
AreUnmarked items = list_any holds_mark items ≡ false

-- each index from one on up to before another one has an entry
abbrev pub AreThere : (ℕ → Option (List ℕ)) → ℕ → ℕ → Type 0
AreThere entry begin end = (i : ℕ) → begin ≤ i → i < end → IsSome (entry i)
