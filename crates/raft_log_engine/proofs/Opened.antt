-- The tables of a recovery have the content of the batches that the files read as.
use Rattle.std.proofs.Common.{◌≡◌, ℕ, List, [], ◌∷◌, ◌++◌, length, map, refl, sym, ap, subst, ◌∙◌, append_assoc}
use Rattle.std.proofs.Common.{inl, inr}
use Rattle.std.specs.List.{list_any}
use Rattle.std.proofs.lemmas.List.{map-append}
use Rattle.raft_log_records.specs.declared.item.EntryIndex.{EntryIndex}
use Rattle.raft_log_records.specs.Item.{Item, item_map, entry_bytes}
use Rattle.raft_log_records.specs.Spelling.{block_of, holds_entries, lengths}
use Rattle.raft_log_records.proofs.Laid.{any_held}
use Rattle.raft_log_records.specs.declared.file_id.LogQueue.{LogQueue}
use Rattle.raft_log_records.specs.declared.file_id.LogQueue.TheVariants.{Append, Rewrite}
use Rattle.raft_log_disk.specs.Text.{Text}
use Rattle.raft_log_disk.specs.Disk.{Disk, IsIn}
use Rattle.raft_log_file.specs.Laws.{Batch}
use Rattle.raft_log_files.specs.declared.recovery.RecoveryMode.{RecoveryMode}
use Rattle.raft_log_pipe.specs.declared.file.File.{File}
use Rattle.raft_log_pipe.specs.declared.pipe.SinglePipe.{SinglePipe}
use Rattle.raft_log_pipe.specs.Blocks.{files_of}
use Rattle.raft_log_pipe.specs.Pipe.{Numbered, numbered}
use Rattle.raft_log_pipe.specs.Unreserved.{KeepsUnreserved}
use Rattle.raft_log_pipes.specs.declared.pipes.DualPipes.{DualPipes}
use Rattle.raft_log_pipes.specs.Pipes.{ArePipes}
use Rattle.raft_log_memtables.specs.declared.memtables.MemTables.{MemTables}
use Rattle.raft_log_memtables.specs.Content.{nothing}
use Rattle.raft_log_memtables.specs.ContentLaws.{content_map}
use Rattle.raft_log_memtables.specs.Entries.{placed_in}
use Rattle.raft_log_memtables.specs.MemTable.{items_in}
use Rattle.raft_log_memtables.specs.MemTables.{content_in}
use Rattle.raft_log_memtables.specs.Replay.{content_of}
use Rattle.raft_log_memtables.proofs.Mapped.{maps_replay}
use Rattle.raft_content_log.proofs.Written.{items_seen}
use Rattle.raft_log_recovery.specs.declared.scan.FileKind.TheVariants.{Log}
use Rattle.raft_log_recovery.specs.declared.builder.DualPipesBuilder.{DualPipesBuilder}
use Rattle.raft_log_recovery.specs.Scan.{AreFound, OnlyMakes}
use Rattle.raft_log_recovery.specs.Again.{FindsSound}
use Rattle.raft_log_recovery.specs.Both.{ArePipesWith, CantBeOpened, ChangesBoth, IsFoundBy, LeavesBoth, LeavesQueue}
use Rattle.raft_log_recovery.specs.Queue.{AnyRefused, AreOpen, directories_in, names_in}
use Rattle.raft_log_recovery.specs.Opening.{AreAllGot, AreGot, IsGot, IsPipeWith, batches_of, said_in}
use Rattle.raft_log_recovery.specs.Replay.{Placed}
use Rattle.raft_log_pipe.proofs.UnreservedLemmas.{same_unreserved}
use Rattle.raft_log_replay.specs.Batches.{content_over, records_in}
use Rattle.raft_log_engine.specs.Opening.{AreFoundIn, IsFoundAgain, IsRecoveredAs, LeavesFound}
use Rattle.raft_log_blocks.specs.Held.{IsTabled, LiesIn}
use Rattle.raft_log_traced.specs.declared.traced.TracedTables.{TracedTables}
use Rattle.raft_log_engine.specs.Traced.{IsTraced}
use Rattle.raft_log_engine.proofs.Again.{made_sound}
use Rattle.raft_log_engine.proofs.Tables.{put_lengths}

-- a machine got a batch of the file
abbrev pub GotAs : {X : Type 0} → SinglePipe → Numbered → (EntryIndex → X) → (Batch → List (Item X)) → Type 0
GotAs p bs f out = (file : File) (before after : Numbered) (items : Batch) (placed : Placed) → IsIn file (files_of p) → bs ≡ before ++ (file.seq, items) ∷ after → IsGot p.queue file before items placed
    → map (item_map f) (items_in placed.handle placed.items) ≡ out items

abbrev pub seen : {X : Type 0} → (EntryIndex → X) → List Placed → List (List (Item X))
seen f all = map (λ (items : List (Item EntryIndex)). map (item_map f) items) (records_in all)

seen_append : {X : Type 0} (f : EntryIndex → X) (first rest : List Placed) → seen f (first ++ rest) ≡ seen f first ++ seen f rest
seen_append f [] rest = refl
seen_append f (x ∷ first) rest = λ i. map (item_map f) (items_in x.handle x.items) ∷ seen_append f first rest i

-- batches that a machine got, of which each entry is seen in some way
module _ {X : Type 0} (p : SinglePipe) (bs : Numbered) (f : EntryIndex → X) (out : Batch → List (Item X)) (one : GotAs p bs f out) where
  seen_file : (file : File) (before after : Numbered) (ks : List Batch) (all : List Placed) → IsIn file (files_of p) → bs ≡ before ++ (numbered file.seq ks ++ after) → AreGot p.queue file before ks all → seen f all ≡ map out ks
  seen_file file before after [] all among split none = ap (seen f) none
  seen_file file before after (k ∷ ks) all among split got =
      let placed : Placed = got.0 in
      let rest : List Placed = got.1 in
      let first = one file before (numbered file.seq ks ++ after) k placed among split got.3 in
      let others = seen_file file (before ++ (file.seq, k) ∷ []) after ks rest among (split ∙ sym (append_assoc before ((file.seq, k) ∷ []) (numbered file.seq ks ++ after))) got.4 in
      ap (seen f) got.2 ∙ (λ i. first i ∷ others i)

  outs : (seq : ℕ) (ks : List Batch) → map out ks ≡ map (λ (b : ℕ × Batch). out b.1) (numbered seq ks)
  outs seq [] = refl
  outs seq (k ∷ ks) = λ i. out k ∷ outs seq ks i

  pub seen_all : (d : Disk) (before : Numbered) (fs : List File) (all : List Placed) → ((file : File) → IsIn file fs → IsIn file (files_of p)) → bs ≡ before ++ batches_of p.queue d fs
      → AreAllGot p.queue d before fs all → seen f all ≡ map (λ (b : ℕ × Batch). out b.1) (batches_of p.queue d fs)
  seen_all d before [] all among split none = ap (seen f) none
  seen_all d before (file ∷ fs) all among split got =
      let first : List Placed = got.0 in
      let rest : List Placed = got.1 in
      let ks : List Batch = said_in p.queue d file in
      let behind : Numbered = batches_of p.queue d fs in
      let one_file = seen_file file before behind ks first (among file (inl refl)) split got.3 in
      let others = seen_all d (before ++ numbered file.seq ks) fs rest (λ g there. among g (inr there)) (split ∙ sym (append_assoc before (numbered file.seq ks) behind)) got.4 in
      ap (seen f) got.2 ∙ seen_append f first rest ∙ (λ i. one_file i ++ others i)
      ∙ sym (map-append (λ (b : ℕ × Batch). out b.1) (numbered file.seq ks) behind ∙ ap (λ (l : List (List (Item X))). l ++ map (λ (b : ℕ × Batch). out b.1) behind) (sym (outs file.seq ks)))

-- by their bytes
pub seen_bytes : (p : SinglePipe) (bs : Numbered) (read : EntryIndex → List ℕ) → ((e : EntryIndex) (bytes : List ℕ) → LiesIn p bs e bytes → read e ≡ bytes) → GotAs p bs read (λ items. items)
seen_bytes p bs read reads f before after items placed among split got =
    let some : list_any holds_entries placed.items ≡ list_any holds_entries items = sym (any_held (entry_bytes (block_of items)) placed.items) ∙ ap (list_any holds_entries) got.items_are in
    items_seen read placed.handle (block_of items) placed.items
    (λ held e.
    reads (placed_in placed.handle e) (entry_bytes (block_of items) e) (record {
      handle = placed.handle;
      file = f;
      before = before;
      items = items;
      after = after;
      place = refl;
      queue = ap (λ i. i.queue) got.id;
      among = among;
      split = split;
      block = got.block;
      stands = got.stands (sym some ∙ held);
      bytes_are = refl;
    }))
    ∙ got.items_are

-- by their lengths
seen_lengths : (p : SinglePipe) (bs : Numbered) → GotAs p bs (λ e. e.entry_len) lengths
seen_lengths p bs f before after items placed among split got = put_lengths placed.handle placed.items ∙ got.lengths_are

map_twice : (bs : Numbered) → map (λ (b : ℕ × Batch). lengths b.1) bs ≡ map lengths (map (λ (b : ℕ × Batch). b.1) bs)
map_twice [] = refl
map_twice (b ∷ bs) = λ i. lengths b.1 ∷ map_twice bs i

-- both queues
both_seen : {X : Type 0} (f : EntryIndex → X) (out : Batch → List (Item X)) (front behind : Numbered) (ones twos : List Placed) → seen f ones ≡ map (λ (b : ℕ × Batch). out b.1) front → seen f twos ≡ map (λ (b : ℕ × Batch). out b.1) behind
    → seen f (ones ++ twos) ≡ map (λ (b : ℕ × Batch). out b.1) (front ++ behind)
both_seen f out front behind ones twos one two = seen_append f ones twos ∙ (λ i. one i ++ two i) ∙ sym (map-append (λ (b : ℕ × Batch). out b.1) front behind)

pub found_tabled : (d : Disk) (p : DualPipes) (rfs afs : List File) (ones twos : List Placed) (tables : MemTables) → ((f : File) → IsIn f rfs → IsIn f (files_of p.rewrite)) → ((f : File) → IsIn f afs → IsIn f (files_of p.append))
    → AreAllGot p.rewrite.queue d [] rfs ones → AreAllGot p.append.queue d [] afs twos → content_in tables ≡ content_over nothing (ones ++ twos)
    → IsTabled p (batches_of p.rewrite.queue d rfs) (batches_of p.append.queue d afs) tables
found_tabled d p rfs afs ones twos tables in_rewrites in_appends one two is =
    let front : Numbered = batches_of p.rewrite.queue d rfs in
    let behind : Numbered = batches_of p.append.queue d afs in
    record {
      content = λ read reads.
          ap (content_map read) is
          ∙ sym (maps_replay read (records_in (ones ++ twos)))
          ∙ ap content_of
          (both_seen read (λ items. items) front behind ones twos
          (seen_all p.rewrite front read (λ items. items) (seen_bytes p.rewrite front read (λ e bytes lies. reads e bytes (inl lies))) d [] rfs ones in_rewrites refl one)
          (seen_all p.append behind read (λ items. items) (seen_bytes p.append behind read (λ e bytes lies. reads e bytes (inr lies))) d [] afs twos in_appends refl two));
      lengths =
          ap (content_map (λ e. e.entry_len)) is
          ∙ sym (maps_replay (λ e. e.entry_len) (records_in (ones ++ twos)))
          ∙ ap content_of
          (both_seen (λ e. e.entry_len) lengths front behind ones twos
          (seen_all p.rewrite front (λ e. e.entry_len) lengths (seen_lengths p.rewrite front) d [] rfs ones in_rewrites refl one)
          (seen_all p.append behind (λ e. e.entry_len) lengths (seen_lengths p.append behind) d [] afs twos in_appends refl two)
          ∙ map_twice (front ++ behind))
          ∙ maps_replay length (map (λ (b : ℕ × Batch). b.1) (front ++ behind));
    }

-- ---- the steps of an opening, where the directories and the mode are those of a builder

module _ (b : DualPipesBuilder) (mode : RecoveryMode) (said : List Text) (at : directories_in b ≡ said) (alike : b.config.recovery_mode ≡ mode) (d made : Disk) (makes : OnlyMakes said d made) where
  found_there : (queue : LogQueue) → IsFoundBy b queue made → AreFound made (Log queue) said (names_in b queue)
  found_there queue found = subst (λ (x : List Text). AreFound made (Log queue) x (names_in b queue)) at found

  pub found_in : IsFoundBy b Append made → IsFoundBy b Rewrite made → AreFoundIn said d made (names_in b Rewrite) (names_in b Append)
  found_in append rewrite = record { makes = makes; rewrite = found_there Rewrite rewrite; append = found_there Append append }

  said_leaves : (queue : LogQueue) (new : Disk) → LeavesQueue b.config.recovery_mode (directories_in b) queue (names_in b queue) made new → LeavesQueue mode said queue (names_in b queue) made new
  said_leaves queue new leaves =
      subst (λ (m : RecoveryMode). LeavesQueue m said queue (names_in b queue) made new) alike
      (subst (λ (x : List Text). LeavesQueue b.config.recovery_mode x queue (names_in b queue) made new) at leaves)

  -- what an opening leaves, refused or not, with other reserved files behind it
  pub left_then : (mid new : Disk) → IsFoundBy b Append made → IsFoundBy b Rewrite made → ChangesBoth made mid → KeepsUnreserved mid new
      → ((queue : LogQueue) → LeavesQueue b.config.recovery_mode (directories_in b) queue (names_in b queue) made new) → LeavesFound mode said d new
  left_then mid new append rewrite only unreserved leaves = record {
    made = made;
    rewrites = names_in b Rewrite;
    appends = names_in b Append;
    found = found_in append rewrite;
    rewrite = said_leaves Rewrite new (leaves Rewrite);
    append = said_leaves Append new (leaves Append);
    between = mid;
    only = only;
    unreserved = unreserved;
  }

  pub leaves_each : (new : Disk) → LeavesBoth b.config.recovery_mode b made new → (queue : LogQueue) → LeavesQueue b.config.recovery_mode (directories_in b) queue (names_in b queue) made new
  leaves_each new leaves Append = leaves.append
  leaves_each new leaves Rewrite = leaves.rewrite

  pub both_left : (new : Disk) → IsFoundBy b Append made → IsFoundBy b Rewrite made → LeavesBoth b.config.recovery_mode b made new → LeavesFound mode said d new
  both_left new append rewrite leaves = left_then new new append rewrite leaves.only (same_unreserved new new refl) (leaves_each new leaves)

  -- and what another one finds then
  pub again_then : (new : Disk) → ((queue : LogQueue) → LeavesQueue b.config.recovery_mode (directories_in b) queue (names_in b queue) made new) → IsFoundAgain mode said d new
  again_then new leaves content is = record {
    rewrites = is.rewrites;
    appends = is.appends;
    rewrite = made_sound mode said Rewrite d made is.rewrites makes ((said_leaves Rewrite new (leaves Rewrite)).again is.rewrites is.rewrite);
    append = made_sound mode said Append d made is.appends makes ((said_leaves Append new (leaves Append)).again is.appends is.append);
    is = is.is;
  }

  pub both_again : (new : Disk) → LeavesBoth b.config.recovery_mode b made new → IsFoundAgain mode said d new
  both_again new leaves = again_then new (leaves_each new leaves)

  passed : (queue : LogQueue) → (CantBeOpened b.config.recovery_mode b queue made → ⊥) → AnyRefused mode said queue (names_in b queue) made → ⊥
  passed queue none any =
      none (inl (subst (λ (m : RecoveryMode). AnyRefused m (directories_in b) queue (names_in b queue) made) (sym alike)
      (subst (λ (x : List Text). AnyRefused mode x queue (names_in b queue) made) (sym at) any)))

  -- the files of a queue, opened
  sound : (queue : LogQueue) (new : Disk) (p : SinglePipe) (all : List Placed) → IsFoundBy b queue made → (CantBeOpened b.config.recovery_mode b queue made → ⊥)
      → (w : IsPipeWith (directories_in b) queue (names_in b queue) made new p all) → FindsSound mode said queue d (batches_of queue made w.files)
  sound queue new p all found none w = record {
    made = made;
    names = names_in b queue;
    files = w.files;
    finds = record { makes = makes; found = found_there queue found; opened = subst (λ (x : List Text). AreOpen made x queue (names_in b queue) w.files) at w.pipe.opened };
    passed = passed queue none;
    reads = refl;
  }

  pub recovered_as : (new : Disk) (p : DualPipes) (all : List Placed) (traced : TracedTables) → IsFoundBy b Append made → IsFoundBy b Rewrite made → ((queue : LogQueue) → CantBeOpened b.config.recovery_mode b queue made → ⊥)
      → ArePipes p new → (w : ArePipesWith b made new p all) → content_in traced.tables ≡ content_over nothing all
      → IsTraced p traced (batches_of Rewrite made w.rewrite.files) (batches_of Append made w.append.files) → IsRecoveredAs mode said d new p traced
  recovered_as new p all traced append rewrite none pipes w content traces = record {
    rewrites = batches_of Rewrite made w.rewrite.files;
    appends = batches_of Append made w.append.files;
    rewrite = sound Rewrite new p.rewrite w.rewrites rewrite (none Rewrite) w.rewrite;
    append = sound Append new p.append w.appends append (none Append) w.append;
    kept = record {
      pipes = pipes;
      rewrite = w.rewrite.pipe.holds;
      append = w.append.pipe.holds;
      tabled = subst (λ (x : LogQueue). IsTabled p (batches_of x made w.rewrite.files) (batches_of Append made w.append.files) traced.tables) p.rewrites
          (subst (λ (x : LogQueue). IsTabled p (batches_of p.rewrite.queue made w.rewrite.files) (batches_of x made w.append.files) traced.tables) p.appends
          (found_tabled made p w.rewrite.files w.append.files w.rewrites w.appends traced.tables w.rewrite.pipe.among w.append.pipe.among
          (subst (λ (x : LogQueue). AreAllGot x made [] w.rewrite.files w.rewrites) (sym p.rewrites) w.rewrite.got)
          (subst (λ (x : LogQueue). AreAllGot x made [] w.append.files w.appends) (sym p.appends) w.append.got)
          (content ∙ ap (content_over nothing) w.all_are)));
    };
    traces = traces;
  }
