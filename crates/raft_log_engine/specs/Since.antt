-- Batches that were written one behind the other, of which the last ones may not be on the disk yet.
use Rattle.std.specs.Prelude.{◌≡◌, ℕ, false, List, [], ◌∷◌, ◌++◌, map}
use Rattle.std.specs.List.{AllByRecursion, list_any}
use Rattle.raft_log_records.specs.Spelling.{holds_mark}
use Rattle.raft_log_disk.specs.Disk.{Disk}
use Rattle.raft_log_file.specs.Laws.{Batch}
use Rattle.raft_log_pipe.specs.Pipe.{Holds, Numbered}
use Rattle.raft_log_memtables.specs.Content.{Content, after_batch}
use Rattle.raft_log_blocks.specs.Held.{content_of_batches}
use Rattle.raft_log_engine.specs.Parts.{Parts}

-- a content after batches, in their order
abbrev pub after_batches : List Batch → Content (List ℕ) → Content (List ℕ)
after_batches [] content = content
after_batches (b ∷ bs) content = after_batches bs (after_batch b content)

-- batches without the numbers of their files
abbrev pub unnumbered : Numbered → List Batch
unnumbered bs = map (λ b. b.1) bs

-- the batch of a write, none where it has no items
abbrev pub written_batch : Batch → List Batch
written_batch [] = []
written_batch (item ∷ items) = (item ∷ items) ∷ []

-- Since the content `before` was on the disk these batches were written, in this order: the first ones of them are on the
-- disk too, and the others since the last sync
pub record HasWritten {F : Type 0} (disk : F → Disk) (e : Parts F) (before : Content (List ℕ)) (batches : List Batch) : Type 0 where
  pub rewrites : Numbered
  pub synced : Numbered
  pub unsynced : Numbered
  pub rewrite : Holds e.pipes.rewrite (disk e.files) rewrites []
  pub append : Holds e.pipes.append (disk e.files) synced unsynced
  pub first : List Batch
  pub split : batches ≡ first ++ unnumbered unsynced
  pub on_disk : content_of_batches (rewrites ++ synced) ≡ after_batches first before
  pub plain : AllByRecursion (λ b. list_any holds_mark b ≡ false) (unnumbered unsynced)
