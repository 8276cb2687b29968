-- A cleaning of an engine's log: what it begins with, what it leaves after `Ok`, and what a crash leaves of one that was refused.
use Rattle.std.proofs.Common.{◌≡◌, ◌⊎◌, ℕ, ◌+◌, ◌-◌, ◌*◌, ◌^◌, length, Bool, true, false, List, [], ◌∷◌, ◌++◌, take, refl, sym, ap, subst, ◌∙◌}
use Rattle.std.specs.Prelude.{Option, Result, Ok, Err, OnOk, OnErr, min}
use Rattle.std.proofs.lemmas.Bool.{false≢true}
use Rattle.std.proofs.lemmas.List.{append-nil, map-append}
use Rattle.std.proofs.Math.Seq.{take-nil}
use Rattle.raft_log_records.specs.declared.file_id.FileBlockHandle.{FileBlockHandle}
use Rattle.raft_log_records.specs.declared.file_id.LogQueue.{LogQueue}
use Rattle.raft_log_records.specs.declared.file_id.LogQueue.TheVariants.{Append, Rewrite}
use Rattle.raft_log_disk.specs.Disk.{Disk, IsNamed}
use Rattle.raft_log_disk.specs.Image.{Image}
use Rattle.raft_log_disk.specs.Text.{Text}
use Rattle.raft_log_files.specs.declared.recovery.RecoveryMode.{RecoveryMode}
use Rattle.raft_log_files.specs.declared.recovery.RecoveryMode.TheVariants.{TolerateTailCorruption}
use Rattle.raft_log_files.specs.declared.error.Error.{Error}
use Rattle.raft_log_file.specs.Laws.{Batch}
use Rattle.raft_log_pipe.specs.declared.pipe.SinglePipe.{SinglePipe}
use Rattle.raft_log_pipe.specs.Pipe.{Holds, Numbered, first_of}
use Rattle.raft_log_pipe.proofs.FirstLemmas.{same_first}
use Rattle.raft_log_pipes.specs.declared.pipes.DualPipes.{DualPipes}
use Rattle.raft_log_memtables.specs.Content.{Content}
use Rattle.raft_log_memtables.specs.MemTables.{content_in}
use Rattle.raft_log_memtables.specs.Replay.{content_of}
use Rattle.raft_log_covers.specs.Queues.{batches_of}
use Rattle.raft_log_traces.specs.GroupTraces.{traces_in}
use Rattle.raft_log_marks.specs.Standing.{CanBeCleaned}
use Rattle.raft_log_marks.proofs.StandingLemmas.{cleaned_queues_read_as_the_content}
use Rattle.raft_log_traced.specs.declared.traced.TracedTables.{TracedTables}
use Rattle.raft_log_recovery.specs.Crashed.{HasLastingHole, IsCrashed, OpensWith}
use Rattle.raft_log_blocks.specs.Held.{IsKept, content_of_batches, seen_on}
use Rattle.raft_log_blocks.proofs.HeldLemmas.{answered, held_answered, held_kept, kept_held, kept_on, synced_kept}
use Rattle.raft_log_pipe.specs.Alone.{IsNearlyAlone, directories_of_pipe}
use Rattle.raft_log_pipe.specs.Kept.{KeepsSettings}
use Rattle.raft_log_pipes.specs.Kept.{KeepSettings}
use Rattle.raft_log_pipes.specs.Pipes.{pipe_of}
use Rattle.raft_log_cleaner.specs.Cleaning.{CanClean, LeavesContent, LeavesStanding}
use Rattle.raft_log_cleaner.specs.Facts.{TellEntries}
use Rattle.raft_log_cleaner.specs.Pipes.{HasHoleBefore, KeepBoth}
use Rattle.raft_log_cleaner.specs.Told.{queue_of}
use Rattle.raft_log_cleaner.proofs.Telling.{tells_so}
use Rattle.raft_log_covers.specs.Kept.{Traces}
use Rattle.raft_log_covers.specs.Trace.{greater}
use Rattle.raft_log_purge.specs.declared.due.QueueFiles.{QueueFiles}
use Rattle.raft_log_purge.specs.Due.{IsLarge}
use Rattle.raft_log_purge.specs.Going.{GoesToNeeded}
use Rattle.raft_log_cleaning.specs.Extents.{HasOnlyNew}
use Rattle.raft_content_log.specs.Leaving.{LeavesNoMore}
use Rattle.raft_log_engine.specs.declared.block_cache.BlockCache.{BlockCache}
use Rattle.raft_log_engine.specs.Cached.{HoldsBlocks, Keeps}
use Rattle.raft_log_engine.specs.Opening.{CantBeOpened, IsFoundContent}
use Rattle.raft_log_engine.specs.Left.{MayLeave, answers_on, leaves_on}
use Rattle.raft_log_engine.specs.Parts.{Parts}
use Rattle.raft_log_engine.specs.Reopened.{OpensAs, OpensInTail, StandAlone, directories_of_pipes}
use Rattle.raft_log_engine.specs.Since.{HasWritten, unnumbered}
use Rattle.raft_log_engine.specs.Still.{IsStill}
use Rattle.raft_log_engine.specs.Traced.{IsTraced, MayBeCleaned, filed}
use Rattle.raft_log_engine.proofs.Clauses.{HeldBy, is_left, kept_by, only_left, parts}
use Rattle.raft_log_engine.proofs.Reopened.{opens_with, same_directories}
use Rattle.raft_log_engine.proofs.Since.{nothing_since}
use Rattle.raft_log_engine.proofs.Synced.{all_synced}
use Rattle.raft_log_engine.proofs.Tails.{torn_hole}
use Rattle.raft_log_engine.proofs.Traced.{still_traced}

abbrev Seen : Type 0
Seen = Content (List ℕ)

-- ---- before it: all that was written is on the disk

-- without a call
pub still_same : (d : Disk) (p : DualPipes) → IsStill d p d p
still_same d p = record {
  pipes = λ pipes. pipes;
  same = (refl, refl);
  paths = refl;
  names = refl;
  other = record { same = refl; usable = λ pipe. pipe; holds = λ s u holds. holds; alone = λ alone. alone };
  holds = λ bs holds. holds;
}

-- a sync leaves what is on the disk, refused or not
pub synced_holds : (p q : SinglePipe) (d e : Disk) (r : Result (Unit {0}) Error) → OnOk r ((s u : Numbered) → Holds p d s u → Holds q e (s ++ u) []) → OnErr r ((s u : Numbered) → Holds p d s u → Holds q e s u)
    → (bs : Numbered) → Holds p d bs [] → Holds q e bs []
synced_holds p q d e (Ok x) ok err bs holds = all_synced p q d e ok bs holds
synced_holds p q d e (Err x) ok err bs holds = err bs [] holds

-- what the traces tell of entries
pub told_places : (d : Disk) (p : DualPipes) (traced : TracedTables) (wrote_unsynced : Bool) (cache : BlockCache) → HoldsBlocks d p traced wrote_unsynced cache
    → traced.has_marked ≡ false → TellEntries (traces_in traced.traces) (content_in traced.tables)
told_places d p traced wrote_unsynced cache held none =
    let b = held.batches in
    let appends : Numbered = b.synced ++ b.unsynced in
    let may : MayBeCleaned p traced b.rewrites appends = held.traces none in
    tells_so p traced b.rewrites appends (content_of_batches (b.rewrites ++ appends)) b.held.tabled may.cleanable may.placed

module _ (d e : Disk) (p q : DualPipes) (traced : TracedTables) (wrote_unsynced : Bool) (cache : BlockCache) (held : HoldsBlocks d p traced wrote_unsynced cache) (still : IsStill d p e q)
    (syncs : wrote_unsynced ≡ true → (s u : Numbered) → Holds p.append d s u → Holds q.append e (s ++ u) []) where
  abbrev r : Numbered
  r = held.batches.rewrites

  abbrev s : Numbered
  s = held.batches.synced

  abbrev u : Numbered
  u = held.batches.unsynced

  all_kept : IsKept e q traced.tables r (s ++ u)
  all_kept = by_flag wrote_unsynced refl
    where
      by_flag : (b : Bool) → wrote_unsynced ≡ b → IsKept e q traced.tables r (s ++ u)
      by_flag true is = synced_kept d e p q traced.tables r s u held.batches.held (still.pipes held.batches.held.pipes) still.same still.other (syncs is)
      by_flag false is =
          let none = held.batches.none is in
          let kept : IsKept d p traced.tables r s = held_kept d p traced.tables r s u held.batches.held none in
          subst (λ (l : Numbered). IsKept e q traced.tables r l) (sym (ap (λ (l : Numbered). s ++ l) none ∙ append-nil s))
          (kept_on d e p q traced.tables r s kept (still.pipes kept.pipes) still.same still.other (still.holds s kept.append))

  -- it has the content that is answered
  pub can_clean : traced.has_marked ≡ false → CanClean e q traced (seen_on d p traced.tables)
  can_clean none =
      let all : Numbered = s ++ u in
      let may : MayBeCleaned q traced r all = still_traced p q traced r all all still.same refl held.traces none in
      record {
        rewrites = r;
        appends = all;
        pipes = all_kept.pipes;
        rewrite = all_kept.rewrite;
        append = all_kept.append;
        tabled = all_kept.tabled;
        placed = may.placed;
        together = may.together;
        cleanable = subst (λ (c : Seen). CanBeCleaned (first_of q.append) (traces_in traced.traces) (unnumbered r) c (filed all)) (sym (held_answered d p traced.tables r s u held.batches.held)) may.cleanable;
      }

-- ---- after it

batches_filed : (bs : Numbered) → batches_of (filed bs) ≡ unnumbered bs
batches_filed [] = refl
batches_filed (b ∷ bs) = ap (λ (l : List Batch). b.1 ∷ l) (batches_filed bs)

module _ (d : Disk) (p : DualPipes) (traced : TracedTables) (content : Seen) (can : CanClean d p traced content) where
  cleaned_is : content_of_batches (can.rewrites ++ can.appends) ≡ content
  cleaned_is =
      ap content_of (map-append (λ b. b.1) can.rewrites can.appends ∙ ap (λ (l : List Batch). unnumbered can.rewrites ++ l) (sym (batches_filed can.appends)))
      ∙ cleaned_queues_read_as_the_content (first_of p.append) (traces_in traced.traces) (unnumbered can.rewrites) content (filed can.appends) can.cleanable

  pub cleaned_kept : IsKept d p traced.tables can.rewrites can.appends
  cleaned_kept = record { pipes = can.pipes; rewrite = can.rewrite; append = can.append; tabled = can.tabled }

  -- the same is answered
  pub cleaned_seen : seen_on d p traced.tables ≡ content
  cleaned_seen = answered d p traced.tables can.rewrites can.appends cleaned_kept ∙ cleaned_is

  cleaned_traced : IsTraced p traced can.rewrites (can.appends ++ [])
  cleaned_traced =
      subst (λ (l : Numbered). IsTraced p traced can.rewrites l) (sym (append-nil can.appends)) (λ none. record {
        cleanable = subst (λ (c : Seen). CanBeCleaned (first_of p.append) (traces_in traced.traces) (unnumbered can.rewrites) c (filed can.appends)) (sym cleaned_is) can.cleanable;
        placed = can.placed;
        together = can.together;
      })

  -- all is on the disk, and no block is kept
  pub cleaned_holds : (cache : BlockCache) → ((h : FileBlockHandle) (b : List ℕ) → Keeps cache h b → ⊥) → HoldsBlocks d p traced false cache
  cleaned_holds cache none = record {
    batches = record {
      rewrites = can.rewrites;
      synced = can.appends;
      unsynced = [];
      held = kept_held d p traced.tables can.rewrites can.appends cleaned_kept;
      none = λ all. refl;
    };
    blocks = λ h b kept. absurd (none h b kept);
    traces = cleaned_traced;
  }

-- ---- what a crash leaves of one that was refused

-- the rewrite queue's batches and a front of fresh ones, with the append queue's behind them
fronts_content : (directories : List Text) (d : Disk) (r fresh bs : Numbered) (image : Image) (e : Disk) (mode : RecoveryMode) (found : Seen) → OpensWith directories Rewrite d r fresh → OpensWith directories Append d bs []
    → IsCrashed d image e → IsFoundContent mode directories e found → (k : ℕ) × (found ≡ content_of_batches ((r ++ take k fresh) ++ bs))
fronts_content directories d r fresh bs image e mode found rewrites appends crashed f =
    let one = rewrites image e f.rewrite.made f.rewrite.names f.rewrite.files crashed f.rewrite.finds in
    let two = appends image e f.append.made f.append.names f.append.files crashed f.append.finds in
    let all_rewrites : f.rewrites ≡ r ++ take one.0 fresh = sym f.rewrite.reads ∙ one.1 in
    let all_appends : f.appends ≡ bs = sym f.append.reads ∙ two.1 ∙ ap (λ (l : Numbered). bs ++ l) (take-nil two.0) ∙ append-nil bs in
    (one.0, f.is ∙ (λ i. content_of_batches (all_rewrites i ++ all_appends i)))

-- both pipes' files are the last ones of their queues, but for others behind them of which a crash leaves no batches
record StandNearly (p : DualPipes) (d : Disk) : Type 0 where
  paths : directories_of_pipe p.rewrite ≡ directories_of_pipe p.append
  append : IsNearlyAlone p.append d
  rewrite : IsNearlyAlone p.rewrite d

-- whichever front, it is the content of before
refused_reads : (d : Disk) (p : DualPipes) (content : Seen) → IsNamed d → LeavesContent d p content → StandNearly p d → OpensAs (directories_of_pipes p) d content
refused_reads d p content named left stand image e mode found crashed f =
    let c = fronts_content (directories_of_pipes p) d left.rewrites left.fresh left.appends image e mode found
    (subst (λ (l : List Text). OpensWith l Rewrite d left.rewrites left.fresh) stand.paths (opens_with Rewrite d p.rewrite left.rewrites left.fresh named p.rewrites stand.rewrite left.rewrite))
    (opens_with Append d p.append left.appends [] named p.appends stand.append left.append) crashed f in
    c.1 ∙ left.fronts c.0

module _ (d e : Disk) (p q : DualPipes) (content : Seen) (named : IsNamed e) (stands : LeavesStanding d p e q content) (alone : StandAlone p d) where
  abbrev all : DualPipes
  all = stands.pipes

  same_append : directories_of_pipe all.append ≡ directories_of_pipe p.append
  same_append = same_directories p.append all.append stands.append.paths.1

  -- those of the engine
  of_engine : directories_of_pipes all ≡ directories_of_pipes q
  of_engine = same_append ∙ sym (same_directories p.append q.append stands.append.paths.0)

  standing_paths : directories_of_pipe all.rewrite ≡ directories_of_pipe all.append
  standing_paths = same_directories p.rewrite all.rewrite stands.rewrite.paths.1 ∙ alone.paths ∙ sym same_append

  -- by the files that stand, an opening answers the content
  pub standing_opens : OpensAs (directories_of_pipes q) e content
  standing_opens =
      subst (λ (l : List Text). OpensAs l e content) of_engine
      (refused_reads e all content named stands.leaves (record { paths = standing_paths; append = stands.append.nearly alone.append; rewrite = stands.rewrite.nearly alone.rewrite }))

  -- and refuses nothing but holes
  pub standing_in_tail : OpensInTail (directories_of_pipes q) e q
  standing_in_tail image left queue crashed cant =
      of_queue queue (torn_hole e all named standing_paths (stands.rewrite.torn alone.rewrite) (stands.append.torn alone.append) image left queue crashed
      (subst (λ (l : List Text). CantBeOpened TolerateTailCorruption l queue left) (sym of_engine) cant))
    where
      of_queue : (x : LogQueue) → HasLastingHole (pipe_of all x) e → HasLastingHole (pipe_of q x) e ⊎ HasHoleBefore (pipe_of q x) e
      of_queue Append hole = stands.append.holes alone.append hole
      of_queue Rewrite hole = stands.rewrite.holes alone.rewrite hole

-- ---- after it the files are the last ones of both queues still

pub both_stand : (d e : Disk) (p q : DualPipes) → KeepBoth d p e q → StandAlone p d → StandAlone q e
both_stand d e p q kept alone = record {
  paths = same_directories p.rewrite q.rewrite kept.1.paths ∙ alone.paths ∙ sym (same_directories p.append q.append kept.0.paths);
  append = kept.0.alone alone.append;
  rewrite = kept.1.alone alone.rewrite;
}

-- its files are as large
same_queue : (p q : SinglePipe) → (q.active ≡ p.active) × (q.older ≡ p.older) → q.target_file_size ≡ p.target_file_size → queue_of q ≡ queue_of p
same_queue p q same target i = record {
  first = (same.0 i).seq - length (same.1 i).items;
  active = (same.0 i).seq;
  size = min ((length (same.1 i).items + 1) * target i) (2 ^ 64 - 1);
}

pub large_still : (p q : SinglePipe) (threshold : ℕ) → (q.active ≡ p.active) × (q.older ≡ p.older) → q.target_file_size ≡ p.target_file_size → IsLarge (queue_of p) threshold → IsLarge (queue_of q) threshold
large_still p q threshold same target = subst (λ (files : QueueFiles). IsLarge files threshold) (sym (same_queue p q same target))

-- files that went of a pipe with the same ones
pub gone_since : (traces : Traces) (barrier : Option ℕ) (p q r : SinglePipe) → (q.active ≡ p.active) × (q.older ≡ p.older) → GoesToNeeded traces barrier q r → GoesToNeeded traces barrier p r
gone_since traces barrier p q r same went = (went.0, went.1, went.2 ∙ ap (λ (n : ℕ). greater n went.0) (same_first p q same))

pub only_new_since : (p q r : DualPipes) → (q.append.active ≡ p.append.active) × (q.append.older ≡ p.append.older) → q.rewrite ≡ p.rewrite → HasOnlyNew q r → HasOnlyNew p r
only_new_since p q r same rewrite new = record {
  rewrite = new.rewrite ∙ ap (λ (x : SinglePipe). x.active.seq + 1) rewrite;
  append = new.append ∙ same_first p.append q.append same;
}

pub set_then : (p q r : DualPipes) → KeepSettings p q → KeepSettings q r → KeepSettings p r
set_then p q r one two = (settings_then p.append q.append r.append one.0 two.0, settings_then p.rewrite q.rewrite r.rewrite one.1 two.1)
  where
    settings_then : (a b c : SinglePipe) → KeepsSettings a b → KeepsSettings b c → KeepsSettings a c
    settings_then a b c one two = (two.0 ∙ one.0, two.1 ∙ one.1, two.2 ∙ one.2)

-- ---- what a crash leaves, by accounts

module _ {F : Type 0} (disk : F → Disk) (old : Parts F) (held : HeldBy disk old) (files : F) (p : DualPipes) (traced : TracedTables) (can : CanClean (disk files) p traced (answers_on disk old)) (is_stopped : Bool) where
  -- nothing but what it left before
  pub cleaned_left : old.is_stopped ≡ false → LeavesNoMore (leaves_on disk old) (MayLeave (disk files) p is_stopped false (seen_on (disk files) p traced.tables))
  cleaned_left goes_on = by_flag old.wrote_unsynced refl
    where
      by_flag : (b : Bool) → old.wrote_unsynced ≡ b → LeavesNoMore (leaves_on disk old) (MayLeave (disk files) p is_stopped false (seen_on (disk files) p traced.tables))
      by_flag true is = λ left may all. absurd (false≢true (sym all ∙ is))
      by_flag false is = λ left may.
          let kept = kept_by disk old held is in
          subst (leaves_on disk old)
          (sym (only_left (disk files) p traced.tables is_stopped false can.rewrites can.appends (cleaned_kept (disk files) p traced (answers_on disk old) can) refl left may ∙ cleaned_seen (disk files) p traced (answers_on disk old) can))
          (is_left (disk old.files) old.pipes old.tables old.is_stopped old.wrote_unsynced kept.0 kept.1 kept.2 goes_on)

  pub cleaned_written : (reads threshold : ℕ) → HasWritten disk (parts files p traced.tables is_stopped false reads traced threshold) (seen_on (disk files) p traced.tables) []
  cleaned_written reads threshold =
      nothing_since disk (parts files p traced.tables is_stopped false reads traced threshold) can.rewrites can.appends can.rewrite can.append (seen_on (disk files) p traced.tables)
      (answered (disk files) p traced.tables can.rewrites can.appends (cleaned_kept (disk files) p traced (answers_on disk old) can))
