-- What holds while the rewrite queue is written anew, and when its old records may go.
use Rattle.std.specs.Prelude.{◌≡◌, ◌⊎◌, ◌≤◌, ◌<◌, ℕ, false, IsSome, None, List, [], ◌∷◌, ◌++◌, take, drop}
use Rattle.raft_log_records.specs.Item.{Change, Item}
use Rattle.raft_log_records.specs.Item.Change.{clean}
use Rattle.raft_log_memtables.specs.Content.{Content}
use Rattle.raft_log_memtables.specs.Replay.{content_of}
use Rattle.raft_log_covers.specs.Joined.{Holds}
use Rattle.raft_log_covers.specs.Kept.{Traces}
use Rattle.raft_log_covers.specs.Marks.{of_group}
use Rattle.raft_log_covers.specs.Queues.{Filed, batches_of}
use Rattle.raft_log_covers.specs.Written.{Written, IsWritten, AreWritten, all_records}
use Rattle.raft_log_covers.specs.Written.Written.{unended}
use Rattle.raft_log_marks.specs.MarkLaws.{IsThere}
use Rattle.raft_log_marks.specs.Standing.{CanBeCleaned}
use Rattle.raft_log_purge.specs.Anew.{IsAllStored, stored, IsGroupAnew, IsAnew, AreAnew, Names, StandTogether}

-- ---- a group

-- A Clean and all that the trace says stands in no append file are a group anew.
abbrev pub StoredGroupsAreAnew : Type 0 → Type 0
StoredGroupsAreAnew E = (traces : Traces) (content : Content E) (group limit first stop : ℕ) (chunks : List (List (ℕ × E))) (pairs : List (List ℕ × List ℕ))
    → IsAllStored (traces group) (content group) first stop chunks pairs
    → IsGroupAnew content traces (of_group group (clean ∷ stored limit chunks pairs))

-- Of a group that isn't there a Clean is.
abbrev pub GoneGroupsAreAnew : Type 0 → Type 0
GoneGroupsAreAnew E = (traces : Traces) (content : Content E) (group : ℕ) → IsThere false (content group) → IsGroupAnew content traces (of_group group (clean ∷ []))

-- An atomic group of which the end is still to come has none.
abbrev pub BegunGroupsAreAnew : Type 0 → Type 0
BegunGroupsAreAnew E = (traces : Traces) (content : Content E) (id : ℕ) (first : List (Item E)) (middles : List (List (Item E)))
    → IsWritten (unended id first middles) → IsAnew content traces (unended id first middles)

-- Where each index from one on, up to the end of the list, stands in an append file, the entries that stand in none are those from
-- the list's first index on, up to before that one.
abbrev pub EntriesStandBelow : Type 0 → Type 0
EntriesStandBelow E = (first : ℕ) (traces : Traces) (records : List (List (Item E))) (content : Content E) (bs : List (Filed E)) (group stop : ℕ)
    → CanBeCleaned first traces records content bs → ((i : ℕ) → stop ≤ i → i < (traces group).next → IsSome ((traces group).entry_file i))
    → (i : ℕ) → IsSome ((content group).entry i) → (traces group).entry_file i ≡ None → ((traces group).low ≤ i) × (i < stop)

-- ---- while groups are written

-- The queues may be cleaned as before, whichever of the new records a crash leaves, from the first one on.
abbrev pub GroupsAnewLeaveCleanable : Type 0 → Type 0
GroupsAnewLeaveCleanable E = (first : ℕ) (traces : Traces) (records : List (List (Item E))) (ws : List (Written E)) (content : Content E) (bs : List (Filed E))
    → CanBeCleaned first traces records content bs → AreAnew content traces ws → (n : ℕ) → CanBeCleaned first traces (records ++ take n (all_records ws)) content bs

-- So they are with all of them.
abbrev pub AllAnewLeaveCleanable : Type 0 → Type 0
AllAnewLeaveCleanable E = (first : ℕ) (traces : Traces) (records : List (List (Item E))) (ws : List (Written E)) (content : Content E) (bs : List (Filed E))
    → CanBeCleaned first traces records content bs → AreAnew content traces ws → CanBeCleaned first traces (records ++ all_records ws) content bs

-- ---- then old records may go

-- each group was written anew, or isn't there
abbrev pub HasEach : {E : Type 0} → Content E → List (Written E) → Type 0
HasEach content ws = (group : ℕ) → Names ws group ⊎ IsThere false (content group)

-- However many of the old records went, from the first one on, what is left and the new ones may be cleaned as before.
abbrev pub OldRewritesLeaveCleanable : Type 0 → Type 0
OldRewritesLeaveCleanable E = (first : ℕ) (traces : Traces) (old : List (List (Item E))) (ws : List (Written E)) (content : Content E) (bs : List (Filed E))
    → CanBeCleaned first traces (old ++ all_records ws) content bs → StandTogether old → AreAnew content traces ws → HasEach content ws
    → (n : ℕ) → CanBeCleaned first traces (drop n old ++ all_records ws) content bs

-- So may the new ones alone.
abbrev pub NewRewritesAreCleanable : Type 0 → Type 0
NewRewritesAreCleanable E = (first : ℕ) (traces : Traces) (old : List (List (Item E))) (ws : List (Written E)) (content : Content E) (bs : List (Filed E))
    → CanBeCleaned first traces (old ++ all_records ws) content bs → StandTogether old → AreAnew content traces ws → HasEach content ws
    → CanBeCleaned first traces (all_records ws) content bs

-- ---- what an opening reads

-- At each of these points both queues read as the content.
pub record ReadAnew {E : Type 0} (old : List (List (Item E))) (ws : List (Written E)) (content : Content E) (bs : List (Filed E)) : Type 0 where
  pub written : (n : ℕ) → content_of ((old ++ take n (all_records ws)) ++ batches_of bs) ≡ content
  pub gone : HasEach content ws → (n : ℕ) → content_of ((drop n old ++ all_records ws) ++ batches_of bs) ≡ content

abbrev pub QueuesReadAnew : Type 0 → Type 0
QueuesReadAnew E = (first : ℕ) (traces : Traces) (old : List (List (Item E))) (ws : List (Written E)) (content : Content E) (bs : List (Filed E))
    → CanBeCleaned first traces old content bs → StandTogether old → AreAnew content traces ws → ReadAnew old ws content bs

-- ---- records of atomic groups stand together

-- so they do still behind a crash, behind records that went, and with what is written then
pub record StayTogether {E : Type 0} (records : List (List (Item E))) : Type 0 where
  pub fronts : (n : ℕ) → StandTogether (take n records)
  pub behinds : (n : ℕ) → StandTogether (drop n records)
  pub more : (ws : List (Written E)) → AreWritten ws → StandTogether (records ++ all_records ws)

abbrev pub TogetherStays : Type 0 → Type 0
TogetherStays E = (records : List (List (Item E))) → StandTogether records → StayTogether records

-- ---- which groups were written

pub record NamesMore {E : Type 0} (ws : List (Written E)) (w : Written E) : Type 0 where
  pub stay : (group : ℕ) → Names ws group → Names (ws ++ w ∷ []) group
  pub added : (group : ℕ) (changes : List (Change E)) (before behind : List (List (Item E))) → Holds w (before ++ of_group group (clean ∷ changes) ∷ behind)
      → Names (ws ++ w ∷ []) group

abbrev pub WrittenGroupsAreNamed : Type 0 → Type 0
WrittenGroupsAreNamed E = (ws : List (Written E)) (w : Written E) → NamesMore ws w
