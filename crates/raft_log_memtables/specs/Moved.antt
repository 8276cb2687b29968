-- Entries that stand at new places: where they lie changes, what they are doesn't.
use Rattle.std.specs.Prelude.{◌≡◌, ℕ, if◌then◌else◌, nat_eq, List, Option, Some, None}
use Rattle.raft_log_records.specs.declared.file_id.FileBlockHandle.{FileBlockHandle}
use Rattle.raft_log_records.specs.declared.item.EntryIndex.{EntryIndex}
use Rattle.raft_log_memtables.specs.Content.{GroupContent, Content, entry_at}
use Rattle.raft_log_memtables.specs.ContentLaws.{content_map}
use Rattle.raft_log_memtables.specs.Entries.{placed_pairs}

-- an entry that is there is at its new place, if it has one
abbrev pub moved : {E : Type 0} → Option E → Option E → Option E
moved None place = None
moved (Some old) None = Some old
moved (Some old) (Some place) = Some place

-- the entries of a group that are there and stand in this block now
abbrev pub group_moved : FileBlockHandle → List EntryIndex → GroupContent EntryIndex → GroupContent EntryIndex
group_moved handle es g = record { there = g.there; entry = λ i. moved (g.entry i) (entry_at (placed_pairs handle es) i); value = g.value }

abbrev pub content_moved : ℕ → FileBlockHandle → List EntryIndex → Content EntryIndex → Content EntryIndex
content_moved group handle es content other = if nat_eq group other then group_moved handle es (content other) else content other

-- The content is as before: seen in whichever way in which each new place is what the old one was, as their bytes.
abbrev pub EntriesMayMove : Type 0 → Type 0
EntriesMayMove F = (f : EntryIndex → F) (group : ℕ) (handle : FileBlockHandle) (es : List EntryIndex) (content : Content EntryIndex)
    → ((i : ℕ) (old place : EntryIndex) → (content group).entry i ≡ Some old → entry_at (placed_pairs handle es) i ≡ Some place → f place ≡ f old)
    → content_map f (content_moved group handle es content) ≡ content_map f content
