-- The traces of a recovery are those of the batches that the files read as.
use Rattle.std.proofs.Common.{◌≡◌, false, inl, inr, ℕ, List, [], ◌∷◌, ◌++◌, map, refl, sym, ap, subst, ◌∙◌, append_assoc}
use Rattle.std.proofs.lemmas.List.{append-nil, map-append}
use Rattle.raft_log_records.specs.declared.file_id.FileId.{FileId}
use Rattle.raft_log_records.specs.declared.file_id.LogQueue.{LogQueue}
use Rattle.raft_log_records.specs.declared.file_id.LogQueue.TheVariants.{Append, Rewrite}
use Rattle.raft_log_records.specs.declared.item.EntryIndex.{EntryIndex}
use Rattle.raft_log_records.specs.Item.{item_map}
use Rattle.raft_log_disk.specs.Disk.{Disk, IsIn}
use Rattle.raft_log_file.specs.Laws.{Batch}
use Rattle.raft_log_pipe.specs.declared.file.File.{File}
use Rattle.raft_log_pipe.specs.declared.pipe.SinglePipe.{SinglePipe}
use Rattle.raft_log_pipe.specs.Blocks.{files_of}
use Rattle.raft_log_pipe.specs.Pipe.{Holds, Numbered, first_of, numbered}
use Rattle.raft_log_pipes.specs.declared.pipes.DualPipes.{DualPipes}
use Rattle.raft_log_pipes.specs.Pipes.{ArePipes}
use Rattle.raft_log_memtables.specs.Content.{Content, nothing}
use Rattle.raft_log_memtables.specs.ContentLaws.{content_map}
use Rattle.raft_log_memtables.specs.MemTable.{items_in}
use Rattle.raft_log_memtables.specs.MemTables.{content_in}
use Rattle.raft_log_recovery.specs.declared.builder.DualPipesBuilder.{DualPipesBuilder}
use Rattle.raft_log_recovery.specs.Both.{ArePipesWith}
use Rattle.raft_log_recovery.specs.Opening.{AreAllGot, AreGot, batches_of, said_in}
use Rattle.raft_log_recovery.specs.Replay.{Placed}
use Rattle.raft_log_replay.specs.Batches.{content_over, records_in}
use Rattle.raft_log_covers.specs.Cells.{AreUnmarked}
use Rattle.raft_log_covers.specs.Queues.{Filed, FilesRise}
use Rattle.raft_log_covers.specs.Queues as queues
use Rattle.raft_log_traces.specs.GroupTraces.{traces_in}
use Rattle.raft_log_traced.specs.declared.traced.TracedTables.{TracedTables}
use Rattle.raft_log_traced.specs.Traced.{AreOf, filed_in, lies_in}
use Rattle.raft_log_marks.specs.Mapped.{filed_map, items_map}
use Rattle.raft_log_marks.specs.Opened.{TellPlaces}
use Rattle.raft_log_marks.specs.Standing.{CanBeCleaned}
use Rattle.raft_log_marks.proofs.MappedLemmas.{cleaned_mapped, rise_before}
use Rattle.raft_log_purge.specs.Anew.{StandTogether}
use Rattle.raft_log_purge.proofs.ToldLemmas.{maps_together}
use Rattle.raft_log_blocks.specs.Held.{IsTabled, ReadsEntries, content_of_batches}
use Rattle.raft_log_blocks.specs.Placed.{bytes_on}
use Rattle.raft_log_blocks.proofs.EntryReads.{disk_reads}
use Rattle.raft_log_engine.specs.Since.{unnumbered}
use Rattle.raft_log_engine.specs.Traced.{IsTraced, filed}
use Rattle.raft_log_engine.proofs.Opened.{GotAs, found_tabled, seen_all, seen_bytes}
use Rattle.raft_log_engine.proofs.Rising.{holds_rise}

-- ---- batches as a machine got them, with the numbers of their files

-- they may be cleaned and entries lie where the traces say, if files of the append queue rise and none of its batches is marked
pub record MayBeTraced (first : ℕ) (traced : TracedTables) (rewrites appends : List Placed) : Type 0 where
  pub cleanable : FilesRise first (filed_in appends) → AreUnmarked (queues.batches_of (filed_in appends))
      → CanBeCleaned first (traces_in traced.traces) (records_in rewrites) (content_in traced.tables) (filed_in appends)
  pub placed : FilesRise first (filed_in appends) → AreUnmarked (queues.batches_of (filed_in appends)) → TellPlaces lies_in (traces_in traced.traces) (content_in traced.tables)
  pub unmarked : traced.has_marked ≡ false → AreUnmarked (queues.batches_of (filed_in appends))
  pub together : traced.is_parted ≡ false → StandTogether (records_in rewrites)

abbrev filed_seen : (EntryIndex → List ℕ) → List Placed → List (Filed (List ℕ))
filed_seen f all = map (filed_map f) (filed_in all)

filed_seen_append : (f : EntryIndex → List ℕ) (first rest : List Placed) → filed_seen f (first ++ rest) ≡ filed_seen f first ++ filed_seen f rest
filed_seen_append f [] rest = refl
filed_seen_append f (x ∷ first) rest = λ i. record { file = x.handle.id.seq; items = map (item_map f) (items_in x.handle x.items) } ∷ filed_seen_append f first rest i

module _ (p : SinglePipe) (bs : Numbered) (f : EntryIndex → List ℕ) (one : GotAs p bs f (λ items. items)) where
  file_filed : (file : File) (before after : Numbered) (ks : List Batch) (all : List Placed) → IsIn file (files_of p) → bs ≡ before ++ (numbered file.seq ks ++ after) → AreGot p.queue file before ks all
      → filed_seen f all ≡ filed (numbered file.seq ks)
  file_filed file before after [] all among split none = ap (filed_seen f) none
  file_filed file before after (k ∷ ks) all among split got =
      let placed : Placed = got.0 in
      let rest : List Placed = got.1 in
      let items : map (item_map f) (items_in placed.handle placed.items) ≡ k = one file before (numbered file.seq ks ++ after) k placed among split got.3 in
      let seq : placed.handle.id.seq ≡ file.seq = ap (λ (id : FileId). id.seq) got.3.id in
      let others = file_filed file (before ++ (file.seq, k) ∷ []) after ks rest among (split ∙ sym (append_assoc before ((file.seq, k) ∷ []) (numbered file.seq ks ++ after))) got.4 in
      ap (filed_seen f) got.2 ∙ (λ i. record { file = seq i; items = items i } ∷ others i)

  pub all_filed : (d : Disk) (before : Numbered) (fs : List File) (all : List Placed) → ((file : File) → IsIn file fs → IsIn file (files_of p)) → bs ≡ before ++ batches_of p.queue d fs
      → AreAllGot p.queue d before fs all → filed_seen f all ≡ filed (batches_of p.queue d fs)
  all_filed d before [] all among split none = ap (filed_seen f) none
  all_filed d before (file ∷ fs) all among split got =
      let first : List Placed = got.0 in
      let rest : List Placed = got.1 in
      let ks : List Batch = said_in p.queue d file in
      let behind : Numbered = batches_of p.queue d fs in
      let one_file = file_filed file before behind ks first (among file (inl refl)) split got.3 in
      let others = all_filed d (before ++ numbered file.seq ks) fs rest (λ g there. among g (inr there)) (split ∙ sym (append_assoc before (numbered file.seq ks) behind)) got.4 in
      ap (filed_seen f) got.2 ∙ filed_seen_append f first rest ∙ (λ i. one_file i ++ others i)
      ∙ sym (map-append (λ (b : ℕ × Batch). record { file = b.0; items = b.1 }) (numbered file.seq ks) behind)

-- ---- the queue that they were in

file_queue : (queue : LogQueue) (file : File) (before : Numbered) (ks : List Batch) (all : List Placed) → AreGot queue file before ks all → AreOf queue all
file_queue queue file before [] all none = subst (λ (l : List Placed). AreOf queue l) (sym none) tt
file_queue queue file before (k ∷ ks) all got =
    subst (λ (l : List Placed). AreOf queue l) (sym got.2)
    (ap (λ (id : FileId). id.queue) got.3.id, file_queue queue file (before ++ (file.seq, k) ∷ []) ks got.1 got.4)

both_queues : (queue : LogQueue) (first rest : List Placed) → AreOf queue first → AreOf queue rest
    → AreOf queue (first ++ rest)
both_queues queue [] rest one two = two
both_queues queue (p ∷ first) rest one two = (one.0, both_queues queue first rest one.1 two)

pub all_queue : (queue : LogQueue) (d : Disk) (before : Numbered) (fs : List File) (all : List Placed) → AreAllGot queue d before fs all → AreOf queue all
all_queue queue d before [] all none = subst (λ (l : List Placed). AreOf queue l) (sym none) tt
all_queue queue d before (file ∷ fs) all got =
    subst (λ (l : List Placed). AreOf queue l) (sym got.2)
    (both_queues queue got.0 got.1 (file_queue queue file before (said_in queue d file) got.0 got.3) (all_queue queue d (before ++ numbered file.seq (said_in queue d file)) fs got.1 got.4))

-- ---- the traces

pub found_traced : (d new : Disk) (p : DualPipes) (rfs afs : List File) (ones twos : List Placed) (traced : TracedTables) → ArePipes p new
    → Holds p.rewrite new (batches_of p.rewrite.queue d rfs) [] → Holds p.append new (batches_of p.append.queue d afs) []
    → ((f : File) → IsIn f rfs → IsIn f (files_of p.rewrite)) → ((f : File) → IsIn f afs → IsIn f (files_of p.append))
    → AreAllGot p.rewrite.queue d [] rfs ones → AreAllGot p.append.queue d [] afs twos → IsTabled p (batches_of p.rewrite.queue d rfs) (batches_of p.append.queue d afs) traced.tables
    → MayBeTraced (first_of p.append) traced ones twos → IsTraced p traced (batches_of p.rewrite.queue d rfs) (batches_of p.append.queue d afs)
found_traced d new p rfs afs ones twos traced pipes rewrite append in_rewrites in_appends one two tabled may none =
    let front : Numbered = batches_of p.rewrite.queue d rfs in
    let behind : Numbered = batches_of p.append.queue d afs in
    let first : ℕ = first_of p.append in
    let read : EntryIndex → List ℕ = bytes_on new p in
    let held : Holds p.append new behind [] = append in
    let reads : ReadsEntries p front behind read = subst (λ (l : Numbered). ReadsEntries p front l read) (append-nil behind) (disk_reads p new front behind [] pipes rewrite append) in
    let records : map (items_map read) (records_in ones) ≡ unnumbered front =
    seen_all p.rewrite front read (λ items. items) (seen_bytes p.rewrite front read (λ e bytes lies. reads e bytes (inl lies))) d [] rfs ones in_rewrites refl one in
    let batches : filed_seen read twos ≡ filed behind = all_filed p.append behind read (seen_bytes p.append behind read (λ e bytes lies. reads e bytes (inr lies))) d [] afs twos in_appends refl two in
    let rise : FilesRise first (filed behind) = subst (λ (l : Numbered). FilesRise first (filed l)) (append-nil behind) (holds_rise p.append new behind [] pipes.append.numbers append) in
    let plain : AreUnmarked (queues.batches_of (filed_in twos)) = may.unmarked none in
    let low : FilesRise first (filed_in twos) = rise_before read first (filed_in twos) (subst (λ (l : List (Filed (List ℕ))). FilesRise first l) (sym batches) rise) in
    record {
      cleanable = subst (λ (l : List (Filed (List ℕ))). CanBeCleaned first (traces_in traced.traces) (unnumbered front) (content_of_batches (front ++ behind)) l) batches
          (subst (λ (c : Content (List ℕ)). CanBeCleaned first (traces_in traced.traces) (unnumbered front) c (filed_seen read twos)) (tabled.content read reads)
          (subst (λ (l : List Batch). CanBeCleaned first (traces_in traced.traces) l (content_map read (content_in traced.tables)) (filed_seen read twos)) records
          (cleaned_mapped read first (traces_in traced.traces) (records_in ones) (content_in traced.tables) (filed_in twos) (may.cleanable low plain))));
      placed = may.placed low plain;
      together = λ is. subst (λ (l : List Batch). StandTogether l) records ((maps_together read (records_in ones)).1 (may.together is));
    }

pub recovered_traced : (b : DualPipesBuilder) (made new : Disk) (p : DualPipes) (all : List Placed) (traced : TracedTables) → ArePipes p new → (w : ArePipesWith b made new p all) → content_in traced.tables ≡ content_over nothing all
    → MayBeTraced (first_of p.append) traced w.rewrites w.appends → IsTraced p traced (batches_of Rewrite made w.rewrite.files) (batches_of Append made w.append.files)
recovered_traced b made new p all traced pipes w content may =
    let one : AreAllGot p.rewrite.queue made [] w.rewrite.files w.rewrites = subst (λ (x : LogQueue). AreAllGot x made [] w.rewrite.files w.rewrites) (sym p.rewrites) w.rewrite.got in
    let two : AreAllGot p.append.queue made [] w.append.files w.appends = subst (λ (x : LogQueue). AreAllGot x made [] w.append.files w.appends) (sym p.appends) w.append.got in
    let rewrite : Holds p.rewrite new (batches_of p.rewrite.queue made w.rewrite.files) [] = subst (λ (x : LogQueue). Holds p.rewrite new (batches_of x made w.rewrite.files) []) (sym p.rewrites) w.rewrite.pipe.holds in
    let append : Holds p.append new (batches_of p.append.queue made w.append.files) [] = subst (λ (x : LogQueue). Holds p.append new (batches_of x made w.append.files) []) (sym p.appends) w.append.pipe.holds in
    subst (λ (x : LogQueue). IsTraced p traced (batches_of x made w.rewrite.files) (batches_of Append made w.append.files)) p.rewrites
    (subst (λ (x : LogQueue). IsTraced p traced (batches_of p.rewrite.queue made w.rewrite.files) (batches_of x made w.append.files)) p.appends
    (found_traced made new p w.rewrite.files w.append.files w.rewrites w.appends traced pipes rewrite append w.rewrite.pipe.among w.append.pipe.among one two
    (found_tabled made p w.rewrite.files w.append.files w.rewrites w.appends traced.tables w.rewrite.pipe.among w.append.pipe.among one two (content ∙ ap (content_over nothing) w.all_are)) may))
