-- What an engine keeps for cleaning, over writes and syncs.
use Rattle.std.proofs.Common.{◌≡◌, ℕ, ◌-◌, ◌≤◌, List, [], ◌∷◌, ◌++◌, length, map, Option, Some, None, false, refl, sym, ap, subst, ◌∙◌, arith}
use Rattle.std.specs.List.{AllByRecursion, list_any}
use Rattle.std.proofs.lemmas.List.{map-append}
use Rattle.raft_log_records.specs.declared.file_id.FileBlockHandle.{FileBlockHandle}
use Rattle.raft_log_records.specs.declared.file_id.FileId.{FileId}
use Rattle.raft_log_records.specs.declared.file_id.LogQueue.TheVariants.{Append}
use Rattle.raft_log_records.specs.declared.item.EntryIndex.{EntryIndex}
use Rattle.raft_log_records.specs.Item.{Item, entry_bytes, with_bytes, with_lengths}
use Rattle.raft_log_records.specs.Places.{placed}
use Rattle.raft_log_records.specs.Spelling.{AreItems, block_of, holds_mark, lengths}
use Rattle.raft_log_disk.specs.Disk.{Disk}
use Rattle.raft_log_file.specs.Laws.{Batch}
use Rattle.raft_log_pipe.specs.Blocks.{IsRecordOf, KeepsFiles}
use Rattle.raft_log_pipe.specs.Pipe.{AreConsecutive, Holds, Numbered, first_of}
use Rattle.raft_log_pipes.specs.declared.pipes.DualPipes.{DualPipes}
use Rattle.raft_log_recovery.proofs.LengthLemmas.{placed_lengths}
use Rattle.raft_log_memtables.specs.Content.{Content, after_batch}
use Rattle.raft_log_memtables.specs.ContentLaws.{content_map}
use Rattle.raft_log_memtables.specs.MemTable.{items_in}
use Rattle.raft_log_memtables.specs.MemTables.{content_in}
use Rattle.raft_log_memtables.specs.Replay.{mark_of}
use Rattle.raft_log_memtables.specs.Taken.{TakesEach}
use Rattle.raft_log_memtables.proofs.Folds.{marks_mapped}
use Rattle.raft_log_covers.specs.Account.{IsFrom}
use Rattle.raft_log_covers.specs.Kept.{Traces, traces_after}
use Rattle.raft_log_covers.specs.Queues.{Filed, FilesRise}
use Rattle.raft_log_covers.specs.Trace.{Trace}
use Rattle.raft_log_traces.specs.Alike.{AreAlike, IsAlike}
use Rattle.raft_log_traces.specs.Files.{KeepsFrom}
use Rattle.raft_log_traces.specs.GroupTraces.{traces_in}
use Rattle.raft_log_traces.proofs.LawLemmas.{entries_say_nothing}
use Rattle.raft_log_traced.specs.declared.traced.TracedTables.{TracedTables}
use Rattle.raft_log_marks.specs.Mapped.{filed_map, items_map}
use Rattle.raft_log_traced.specs.Traced.{lies_in}
use Rattle.raft_log_traced.proofs.MarkedLemmas.{unmarked}
use Rattle.raft_log_marks.specs.Opened.{TellPlaces}
use Rattle.raft_log_marks.specs.Standing.{CanBeCleaned}
use Rattle.raft_log_marks.specs.Whole.{Follows}
use Rattle.raft_log_marks.proofs.MappedLemmas.{cleaned_mapped, each_before, each_mapped, rise_mapped}
use Rattle.raft_log_marks.proofs.StandingLemmas.{writes_leave_cleanable}
use Rattle.raft_log_blocks.specs.Held.{content_of_batches}
use Rattle.raft_log_engine.specs.Since.{unnumbered}
use Rattle.raft_log_engine.specs.Traced.{IsTraced, MayBeCleaned, filed}
use Rattle.raft_log_engine.proofs.Rising.{first_stays, holds_rise}
use Rattle.raft_log_engine.proofs.Runs.{follow_all, follow_each}
use Rattle.raft_log_engine.proofs.Tables.{more_content}
use Rattle.raft_log_engine.proofs.Telling.{alike_tell, batch_tells, rise_last}

-- ---- from an earlier file on

from_lower : (first low : ℕ) (o : Option ℕ) → low ≤ first → IsFrom first o → IsFrom low o
from_lower first low None below from = tt
from_lower first low (Some file) below from = omega (arith, below, from)

rise_lower : (first low : ℕ) (bs : List (Filed (List ℕ))) → low ≤ first → FilesRise first bs → FilesRise low bs
rise_lower first low [] below rise = tt
rise_lower first low (b ∷ bs) below rise = (omega (arith, below, rise.0), rise.1)

cleaned_lower : (first low : ℕ) (traces : Traces) (records : List Batch) (content : Content (List ℕ)) (bs : List (Filed (List ℕ))) → low ≤ first → CanBeCleaned first traces records content bs
    → CanBeCleaned low traces records content bs
cleaned_lower first low traces records content bs below can = record {
  account = can.account;
  start = can.start;
  base = can.base;
  cleanable = can.cleanable;
  rise = rise_lower first low bs below can.rise;
  unmarked = can.unmarked;
  kept = λ group.
      let k : KeepsFrom first (traces group) = can.kept group in
      record {
        since = from_lower first low (traces group).since below k.since;
        tail = from_lower first low (traces group).tail below k.tail;
        entries = λ i from end. from_lower first low ((traces group).entry_file i) below (k.entries i from end);
        keys = λ name. from_lower first low ((traces group).key_file name) below (k.keys name);
      };
  last = can.last;
}

-- ---- one more batch

-- what a write makes sure of before it, where its entries lie, and what the tables and the traces have of it then
pub record IsNoted (was now : TracedTables) (h : FileBlockHandle) (items : Batch) : Type 0 where
  pub taken : TakesEach (placed 0 items) (content_in was.tables)
  pub each : AreItems items
  pub plain : list_any holds_mark items ≡ false
  pub drained : List (Item EntryIndex)
  pub read : with_bytes (block_of items) drained ≡ items
  pub lengths_are : with_lengths drained ≡ lengths items
  pub place : FileBlockHandle
  pub named : place.id ≡ h.id
  pub applied : content_in now.tables ≡ after_batch (items_in place drained) (content_in was.tables)
  pub traces : AreAlike (traces_after h.id.seq drained (traces_in was.traces)) (traces_in now.traces)
  pub marked : now.has_marked ≡ was.has_marked
  pub parted : now.is_parted ≡ was.is_parted

-- a batch of an append file that its pipe has now
module _ (was now : TracedTables) (h : FileBlockHandle) (items : Batch) (noted : IsNoted was now h items) (first : ℕ) (records : List Batch) (content : Content (List ℕ)) (bs : List (Filed (List ℕ)))
    (same : content_map (λ e. e.entry_len) (content_in was.tables) ≡ content_map length content) (low : first ≤ h.id.seq) (rise : FilesRise first (bs ++ record { file = h.id.seq; items = items } ∷ [])) where
  abbrev entry_len : EntryIndex → ℕ
  entry_len e = e.entry_len

  taken_lengths : TakesEach (lengths items) (content_map length content)
  taken_lengths =
      subst (λ (c : Content ℕ). TakesEach (lengths items) c) same
      (subst (λ (l : List (Item ℕ)). TakesEach l (content_map entry_len (content_in was.tables))) (placed_lengths 0 items) (each_mapped entry_len (placed 0 items) (content_in was.tables) noted.taken))

  noted_alike : AreAlike (traces_after h.id.seq items (traces_in was.traces)) (traces_in now.traces)
  noted_alike group =
      subst (λ (t : Trace). IsAlike t (traces_in now.traces group))
      (sym (entries_say_nothing (entry_bytes (block_of items)) h.id.seq noted.drained (traces_in was.traces) group) ∙ ap (λ (l : Batch). traces_after h.id.seq l (traces_in was.traces) group) noted.read) (noted.traces group)

  noted_cleaned : CanBeCleaned first (traces_in was.traces) records content bs → CanBeCleaned first (traces_in now.traces) records (after_batch items content) (bs ++ record { file = h.id.seq; items = items } ∷ [])
  noted_cleaned can =
      writes_leave_cleanable first h.id.seq (traces_in was.traces) (traces_in now.traces) records content bs items can low rise (each_before length items content taken_lengths) (follow_each items noted.each.each) (unmarked items noted.plain) noted_alike

  -- the entries lie in its file
  rise_lengths : FilesRise first (map (filed_map length) bs ++ record { file = h.id.seq; items = with_lengths noted.drained } ∷ [])
  rise_lengths =
      let last : Filed (List ℕ) = record { file = h.id.seq; items = items } in
      rise_last first (map (filed_map length) bs) (filed_map length last) (record { file = h.id.seq; items = with_lengths noted.drained }) refl
      (subst (λ (l : List (Filed ℕ)). FilesRise first l) (map-append (filed_map length) bs (last ∷ [])) (rise_mapped length first (bs ++ last ∷ []) rise))

  noted_told : h.id.queue ≡ Append → CanBeCleaned first (traces_in was.traces) records content bs → TellPlaces lies_in (traces_in was.traces) (content_in was.tables) → TellPlaces lies_in (traces_in now.traces) (content_in now.tables)
  noted_told queue can tells =
      let seq : noted.place.id.seq ≡ h.id.seq = ap (λ (id : FileId). id.seq) noted.named in
      let seen : CanBeCleaned first (traces_in was.traces) (map (items_map length) records) (content_map entry_len (content_in was.tables)) (map (filed_map length) bs) =
      subst (λ (c : Content ℕ). CanBeCleaned first (traces_in was.traces) (map (items_map length) records) c (map (filed_map length) bs)) (sym same) (cleaned_mapped length first (traces_in was.traces) records content bs can) in
      let takes : TakesEach (with_lengths noted.drained) (content_map entry_len (content_in was.tables)) =
      subst (λ (l : List (Item ℕ)). TakesEach l (content_map entry_len (content_in was.tables))) (sym noted.lengths_are) (subst (λ (c : Content ℕ). TakesEach (lengths items) c) (sym same) taken_lengths) in
      let follow : AllByRecursion (λ item. Follows item.change) (with_lengths noted.drained) =
      subst (λ (l : List (Item ℕ)). AllByRecursion (λ item. Follows item.change) l) (sym noted.lengths_are) (follow_all (lengths items) noted.each.each) in
      let none : mark_of (with_lengths noted.drained) ≡ None = ap (λ (l : List (Item ℕ)). mark_of l) noted.lengths_are ∙ marks_mapped length items ∙ unmarked items noted.plain in
      let told : TellPlaces lies_in (traces_after noted.place.id.seq noted.drained (traces_in was.traces)) (after_batch (items_in noted.place noted.drained) (content_in was.tables)) =
      batch_tells noted.place (ap (λ (id : FileId). id.queue) noted.named ∙ queue) first (map (items_map length) records) noted.drained (traces_in was.traces) (content_in was.tables) (map (filed_map length) bs) seen
      (subst (λ (n : ℕ). first ≤ n) (sym seq) low) (subst (λ (n : ℕ). FilesRise first (map (filed_map length) bs ++ record { file = n; items = with_lengths noted.drained } ∷ [])) (sym seq) rise_lengths) takes follow none tells in
      subst (λ (c : Content EntryIndex). TellPlaces lies_in (traces_in now.traces) c) (sym noted.applied)
      (alike_tell (traces_after h.id.seq noted.drained (traces_in was.traces)) (traces_in now.traces) (after_batch (items_in noted.place noted.drained) (content_in was.tables)) noted.traces
      (subst (λ (n : ℕ). TellPlaces lies_in (traces_after n noted.drained (traces_in was.traces)) (after_batch (items_in noted.place noted.drained) (content_in was.tables))) seq told))

pub more_traced : (p q : DualPipes) (e : Disk) (was now : TracedTables) (r bs synced unsynced : Numbered) (h : FileBlockHandle) (items : Batch)
    → AreConsecutive p.append.older.items p.append.active.seq → AreConsecutive q.append.older.items q.append.active.seq → KeepsFiles p.append q.append → IsRecordOf q.append.queue q.append.active bs items h
    → Holds q.append e synced unsynced → synced ++ unsynced ≡ bs ++ (h.id.seq, items) ∷ []
    → content_map (λ e. e.entry_len) (content_in was.tables) ≡ content_map length (content_of_batches (r ++ bs)) → IsNoted was now h items
    → IsTraced p was r bs → IsTraced q now r (synced ++ unsynced)
more_traced p q e was now r bs synced unsynced h items numbers more keeps stands holds split same noted before =
    subst (λ (l : Numbered). IsTraced q now r l) (sym split) (λ none.
    let first : ℕ = first_of q.append in
    let last : Filed (List ℕ) = record { file = h.id.seq; items = items } in
    let content : Content (List ℕ) = content_of_batches (r ++ bs) in
    let active : h.id.seq ≡ q.append.active.seq = ap (λ (id : FileId). id.seq) stands.id in
    let queue : h.id.queue ≡ Append = ap (λ (id : FileId). id.queue) stands.id ∙ q.appends in
    let low : first ≤ h.id.seq = omega (arith, active) in
    let behind : filed (bs ++ (h.id.seq, items) ∷ []) ≡ filed bs ++ last ∷ [] = map-append (λ (b : ℕ × Batch). record { file = b.0; items = b.1 }) bs ((h.id.seq, items) ∷ []) in
    let rise : FilesRise first (filed bs ++ last ∷ []) = subst (λ (l : List (Filed (List ℕ))). FilesRise first l) (ap filed split ∙ behind) (holds_rise q.append e synced unsynced more holds) in
    let old : MayBeCleaned p was r bs = before (sym noted.marked ∙ none) in
    let can : CanBeCleaned first (traces_in was.traces) (unnumbered r) content (filed bs) =
    cleaned_lower (first_of p.append) first (traces_in was.traces) (unnumbered r) content (filed bs) (first_stays p.append q.append keeps numbers more) old.cleanable in
    record {
      cleanable = subst (λ (l : List (Filed (List ℕ))). CanBeCleaned first (traces_in now.traces) (unnumbered r) (content_of_batches (r ++ (bs ++ (h.id.seq, items) ∷ []))) l) (sym behind)
          (subst (λ (c : Content (List ℕ)). CanBeCleaned first (traces_in now.traces) (unnumbered r) c (filed bs ++ last ∷ [])) (sym (more_content r bs h.id.seq items noted.plain))
          (noted_cleaned was now h items noted first (unnumbered r) content (filed bs) same low rise can));
      placed = noted_told was now h items noted first (unnumbered r) content (filed bs) same low rise queue can old.placed;
      together = λ is. old.together (sym noted.parted ∙ is);
    })

-- ---- the same files, and the same batches

pub still_traced : (p q : DualPipes) (traced : TracedTables) (r bs more : Numbered) → (q.append.active ≡ p.append.active) × (q.append.older ≡ p.append.older) → bs ≡ more → IsTraced p traced r bs → IsTraced q traced r more
still_traced p q traced r bs more same is was =
    subst (λ (l : Numbered). IsTraced q traced r l) is (λ none.
    let old : MayBeCleaned p traced r bs = was none in
    record {
      cleanable = subst (λ (n : ℕ). CanBeCleaned n (traces_in traced.traces) (unnumbered r) (content_of_batches (r ++ bs)) (filed bs)) (λ i. (sym same.0 i).seq - length (sym same.1 i).items) old.cleanable;
      placed = old.placed;
      together = old.together;
    })
