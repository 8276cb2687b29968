-- The content of batches, one by one.
use Rattle.std.proofs.Common.{◌≡◌, ℕ, false, List, [], ◌∷◌, ◌++◌, map, Option, None, ap, ◌∙◌}
use Rattle.std.specs.List.{list_any}
use Rattle.std.proofs.lemmas.List.{map-append}
use Rattle.raft_log_records.specs.declared.item.AtomicGroupStatus.{AtomicGroupStatus}
use Rattle.raft_log_records.specs.Spelling.{holds_mark}
use Rattle.raft_log_file.specs.Laws.{Batch}
use Rattle.raft_log_pipe.specs.Pipe.{Numbered}
use Rattle.raft_log_memtables.specs.Content.{Content, after_batch, nothing}
use Rattle.raft_log_memtables.specs.Replay.{Replay, after_marked, after_record, after_records, content_of, mark_of}
use Rattle.raft_log_traced.proofs.MarkedLemmas.{unmarked}
use Rattle.raft_log_blocks.specs.Held.{content_of_batches}

-- ---- a batch without marks counts at once

abbrev Replayed : Type 0
Replayed = Replay (List ℕ) (Content (List ℕ))

last_record : (records : List Batch) (items : Batch) (r : Replayed) → mark_of items ≡ None → (after_records after_batch (records ++ items ∷ []) r).state ≡ after_batch items (after_records after_batch records r).state
last_record [] items r h = ap (λ (m : Option (ℕ × AtomicGroupStatus)). (after_marked after_batch items m r).state) h
last_record (before ∷ records) items r h = last_record records items (after_record after_batch before r) h

pub one_more_batch : (bs : Numbered) (seq : ℕ) (items : Batch) → list_any holds_mark items ≡ false → content_of_batches (bs ++ (seq, items) ∷ []) ≡ after_batch items (content_of_batches bs)
one_more_batch bs seq items h =
    ap content_of (map-append (λ b. b.1) bs ((seq, items) ∷ []))
    ∙ last_record (map (λ b. b.1) bs) items (record { state = nothing; begun = None }) (unmarked items h)
