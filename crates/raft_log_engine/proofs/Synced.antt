-- A sync, also as a write of an empty batch.
use Rattle.std.proofs.Common.{◌≡◌, inl, ℕ, Bool, true, false, List, [], ◌++◌, refl, sym, ap, subst, ◌∙◌}
use Rattle.std.specs.Prelude.{Result, Ok, Err, OnOk}
use Rattle.std.proofs.lemmas.Bool.{false≢true}
use Rattle.std.proofs.lemmas.List.{append-nil}
use Rattle.raft_log_disk.specs.Disk.{Disk, IsNamed}
use Rattle.raft_log_file.specs.Laws.{Batch}
use Rattle.raft_log_pipe.specs.Pipe.{Holds, Numbered}
use Rattle.raft_log_pipe.specs.declared.pipe.SinglePipe.{SinglePipe}
use Rattle.raft_log_pipes.specs.declared.pipes.DualPipes.{DualPipes}
use Rattle.raft_log_memtables.specs.Content.{Content, after_batch}
use Rattle.raft_content_log.specs.Leaving.{AgreesElsewhere, IsWritten, LeavesElsewhere, LeavesNoMore, MayBeWritten}
use Rattle.raft_log_blocks.specs.Held.{IsKept, seen_on}
use Rattle.raft_log_engine.specs.Parts.{Parts}
use Rattle.raft_log_engine.specs.Still.{IsStill}
use Rattle.raft_log_engine.specs.Left.{IsSound, MayLeave, answers_on, leaves_on}
use Rattle.raft_log_engine.specs.Reopened.{OpensAs, OpensAsEither, StandsAlone, directories_of_engine, directories_of_pipes}
use Rattle.raft_log_engine.proofs.Clauses.{HeldBy, is_left, kept_by, only_left}
use Rattle.raft_log_engine.proofs.Reopened.{kept_opens, synced_stands}
use Rattle.raft_log_blocks.proofs.HeldLemmas.{answered, kept_on}

abbrev Seen : Type 0
Seen = Content (List ℕ)

pub at_ok : {S E : Type 0} (r : Result S E) (P : Type 0) → P → OnOk r P
at_ok (Ok x) P p = p
at_ok (Err e) P p = tt

-- ---- a sync, refused or not

-- as a sync that is `Ok` brings all onto the disk
pub all_synced : (p q : SinglePipe) (d e : Disk) → ((s u : Numbered) → Holds p d s u → Holds q e (s ++ u) []) → (bs : Numbered) → Holds p d bs [] → Holds q e bs []
all_synced p q d e syncs bs holds = subst (λ (l : Numbered). Holds q e l []) (append-nil bs) (syncs bs [] holds)

module _ {F : Type 0} (disk : F → Disk) (old : Parts F) (held : HeldBy disk old) (files : F) (q : DualPipes) (still : IsStill (disk old.files) old.pipes (disk files) q) where
  still_kept : (r bs : Numbered) → IsKept (disk old.files) old.pipes old.tables r bs → IsKept (disk files) q old.tables r bs
  still_kept r bs kept = kept_on (disk old.files) (disk files) old.pipes q old.tables r bs kept (still.pipes kept.pipes) still.same still.other (still.holds bs kept.append)

  still_seen : (r bs : Numbered) → IsKept (disk old.files) old.pipes old.tables r bs → seen_on (disk files) q old.tables ≡ answers_on disk old
  still_seen r bs kept = answered (disk files) q old.tables r bs (still_kept r bs kept) ∙ sym (answered (disk old.files) old.pipes old.tables r bs kept)

  -- a crash leaves nothing else
  pub still_left : old.is_stopped ≡ false → (is_stopped : Bool) → LeavesNoMore (leaves_on disk old) (MayLeave (disk files) q is_stopped old.wrote_unsynced (seen_on (disk files) q old.tables))
  still_left goes_on is_stopped = by_flag old.wrote_unsynced refl
    where
      by_flag : (b : Bool) → old.wrote_unsynced ≡ b → LeavesNoMore (leaves_on disk old) (MayLeave (disk files) q is_stopped old.wrote_unsynced (seen_on (disk files) q old.tables))
      by_flag true is = λ left may all. absurd (false≢true (sym all ∙ is))
      by_flag false is = λ left may.
          let kept = kept_by disk old held is in
          subst (leaves_on disk old)
          (sym (only_left (disk files) q old.tables is_stopped old.wrote_unsynced kept.0 kept.1 (still_kept kept.0 kept.1 kept.2) is left may ∙ still_seen kept.0 kept.1 kept.2))
          (is_left (disk old.files) old.pipes old.tables old.is_stopped old.wrote_unsynced kept.0 kept.1 kept.2 goes_on)

  -- and an opening answers the same
  pub still_opened : IsSound old → StandsAlone disk old → IsNamed (disk files) → OpensAs (directories_of_pipes q) (disk files) (answers_on disk old)
  still_opened sound alone named =
      let kept = kept_by disk old held sound.synced in
      subst (OpensAs (directories_of_pipes q) (disk files)) (still_seen kept.0 kept.1 kept.2)
      (kept_opens (disk files) q old.tables kept.0 kept.1 named (synced_stands old.pipes q (disk old.files) (disk files) still.same still.paths still.names still.other alone) (still_kept kept.0 kept.1 kept.2))

-- ---- a write of an empty batch, with a sync

pub either_opens : {F : Type 0} (disk : F → Disk) (old new : Parts F) (content : Seen) → OpensAs (directories_of_engine new) (disk new.files) (answers_on disk old) → OpensAsEither (directories_of_engine new) (disk new.files) (answers_on disk old) content
either_opens disk old new content opens image e mode found crashed f = inl (opens image e mode found crashed f)

module _ {F : Type 0} (disk : F → Disk) (old new : Parts F) (items : Batch) (left : LeavesNoMore (leaves_on disk old) (leaves_on disk new)) where
  left_alone : HeldBy disk old → IsSound old → (content : Seen) → leaves_on disk new content → content ≡ answers_on disk old
  left_alone held sound content may =
      let kept = kept_by disk old held sound.synced in
      only_left (disk old.files) old.pipes old.tables old.is_stopped old.wrote_unsynced kept.0 kept.1 kept.2 sound.synced content (left content may)

  pub synced_written : HeldBy disk old → items ≡ [] → answers_on disk new ≡ answers_on disk old → IsSound old → IsWritten (answers_on disk new) (leaves_on disk new) (after_batch items (answers_on disk old))
  synced_written held none same sound =
      subst (λ (l : Batch). IsWritten (answers_on disk new) (leaves_on disk new) (after_batch l (answers_on disk old))) (sym none)
      (record { answers = same; leaves_only = left_alone held sound })

  pub synced_refused : HeldBy disk old → (IsSound new → IsSound old × (answers_on disk new ≡ answers_on disk old)) → IsSound old
      → MayBeWritten (IsSound new) (answers_on disk new) (leaves_on disk new) (answers_on disk old) (after_batch items (answers_on disk old))
  synced_refused held kept sound = record { answers = λ goes_on. inl (kept goes_on).1; leaves_either = λ content may. inl (left_alone held sound content may) }

  pub synced_others : LeavesElsewhere items (leaves_on disk old) (leaves_on disk new)
  synced_others content may = (content, left content may, λ group un. refl)

  pub synced_agrees : (IsSound new → IsSound old × (answers_on disk new ≡ answers_on disk old)) → IsSound new → IsSound old × AgreesElsewhere items (answers_on disk new) (answers_on disk old)
  synced_agrees kept sound = let was = kept sound in (was.0, λ group un. ap (λ (c : Seen). c group) was.1)
