-- What a log leaves, from what an opening of its engine's files answers.
use Rattle.std.proofs.Common.{◌≡◌, inl, inr, ℕ, Bool, true, false, List, refl, sym, ap, subst, ◌∙◌}
use Rattle.std.specs.Prelude.{Result, Ok, Err, OnOk}
use Rattle.std.proofs.lemmas.Bool.{false≢true}
use Rattle.raft_log_disk.specs.Disk.{Disk}
use Rattle.raft_log_disk.specs.declared.crash.CrashChoice.{CrashChoice}
use Rattle.raft_log_disk.specs.Chance.{IsGenuineImage}
use Rattle.raft_log_disk.specs.Image.{Image, IsImageOf, after_crash, image_of, seen_image}
use Rattle.raft_log_disk.specs.Text.{Text}
use Rattle.raft_log_disk.specs.declared.memory.MemoryFileSystem.{MemoryFileSystem}
use Rattle.raft_log_disk.specs.MemoryImages.{memory_images}
use Rattle.raft_log_disk.specs.MemorySystem.{disk_in}
use Rattle.raft_log_file.specs.Laws.{Batch}
use Rattle.raft_log_files.specs.declared.config.Config.{Config}
use Rattle.raft_log_files.specs.declared.recovery.RecoveryMode.{RecoveryMode}
use Rattle.raft_log_memtables.specs.Content.{Content, after_batch}
use Rattle.raft_content_log.specs.Leaving.{IsEither, IsWritten, LeavesEither, LeavesElsewhere, LeavesNoMore, LeavesOnly, MayBeWritten}
use Rattle.raft_log_recovery.specs.Crashed.{IsCrashed}
use Rattle.raft_log_engine.specs.Parts.{Parts}
use Rattle.raft_log_engine.specs.Left.{answers_on}
use Rattle.raft_log_engine.specs.Log.{IsFoundBy, LogOn, MayBeFound, leaves_of_log, main_directory}
use Rattle.raft_log_engine.specs.Opening.{IsFoundContent}
use Rattle.raft_log_engine.specs.Reopened.{OpensAs, OpensAsEither, OpensInTail, directories_of_engine}
use Rattle.raft_log_engine.proofs.Clauses.{leaves_elsewhere}
use Rattle.raft_log_engine.proofs.Reopened.{same_directories}
use Rattle.raft_log_files.specs.declared.recovery.RecoveryMode.TheVariants.{TolerateTailCorruption}

abbrev Seen : Type 0
Seen = Content (List ℕ)

-- files in memory as they read, unless they show by chance what nobody wrote
pub found_as_read : (settings : Config) (m : MemoryFileSystem) (content : Seen) → IsGenuineImage (disk_in m) (seen_image (disk_in m)) → IsFoundBy settings (disk_in m) content
    → MayBeFound settings (disk_in m) content
found_as_read settings m content genuine found = record {
  image = seen_image (disk_in m);
  left = disk_in m;
  crashed = record { is = (memory_images m).seen; genuine = genuine; names = refl; bytes = λ n. refl };
  found = found;
}

-- ---- a crash

pub crashes : {X E : Type 0} (r : Result X E) (choice : CrashChoice) (old new : Disk) → OnOk r (IsImageOf choice old) → OnOk r (IsGenuineImage old (image_of choice old.names old.file))
    → OnOk r (new ≡ after_crash old (image_of choice old.names old.file)) → OnOk r (IsCrashed old (image_of choice old.names old.file) new)
crashes (Ok x) choice old new is genuine same =
    record { is = is.1; genuine = genuine; names = ap (λ (d : Disk). d.names) same; bytes = λ n. ap (λ (d : Disk). (d.file n).bytes) same }
crashes (Err x) choice old new is genuine same = tt

-- ---- what is left

module _ {F : Type 0} (disk : F → Disk) (settings : Config) where
  abbrev pub log : Parts F → Bool → LogOn F
  log e has_failed = record { engine = e; settings = settings; has_failed = has_failed }

  abbrev pub IsInMain : Parts F → Type 0
  IsInMain e = directories_of_engine e ≡ main_directory settings

  pub still_in_main : (old new : Parts F) → IsInMain old → new.pipes.append.paths ≡ old.pipes.append.paths → IsInMain new
  still_in_main old new at paths = same_directories old.pipes.append new.pipes.append paths ∙ at

  -- what an opening that tolerates a torn tail refuses there
  pub written_in_main : (old new : Parts F) → IsInMain old → new.pipes.append.paths ≡ old.pipes.append.paths → OpensInTail (directories_of_engine new) (disk new.files) new.pipes
      → OpensInTail (main_directory settings) (disk new.files) new.pipes
  written_in_main old new at paths opens = subst (λ (l : List Text). OpensInTail l (disk new.files) new.pipes) (still_in_main old new at paths) opens

  -- what holds of all that an opening in the engine's directories finds
  found_there : (e : Parts F) (P : Seen → Type 0) → IsInMain e
      → ((image : Image) (d : Disk) (mode : RecoveryMode) (found : Seen) → IsCrashed (disk e.files) image d → IsFoundContent mode (directories_of_engine e) d found → P found)
      → (left : Seen) → MayBeFound settings (disk e.files) left → P left
  found_there e P at each left may =
      each may.image may.left TolerateTailCorruption left may.crashed
      (subst (λ (l : List Text). IsFoundContent TolerateTailCorruption l may.left left) (sym at) may.found)

  -- of files that a close handed back what the log answered is found
  pub found_closed : (e : Parts F) (d : Disk) → IsInMain e → OpensAs (directories_of_engine e) d (answers_on disk e) → (left : Seen) → MayBeFound settings d left → left ≡ answers_on disk e
  found_closed e d at opens left may =
      opens may.image may.left TolerateTailCorruption left may.crashed
      (subst (λ (l : List Text). IsFoundContent TolerateTailCorruption l may.left left) (sym at) may.found)

  -- one content is found, and answered
  pub leaves_only : (e : Parts F) (has_failed : Bool) (content : Seen) → IsInMain e → answers_on disk e ≡ content → OpensAs (directories_of_engine e) (disk e.files) content
      → LeavesOnly (leaves_of_log disk (log e has_failed)) content
  leaves_only e has_failed content at is opens left (inl answered) = answered.1 ∙ is
  leaves_only e has_failed content at is opens left (inr may) = found_there e (λ found. found ≡ content) at opens left may

  -- after a refused write one of two is found
  leaves_either : (e : Parts F) (before content : Seen) → IsInMain e → OpensAsEither (directories_of_engine e) (disk e.files) before content
      → LeavesEither (leaves_of_log disk (log e true)) before content
  leaves_either e before content at opens left (inl answered) = absurd (false≢true (sym answered.0))
  leaves_either e before content at opens left (inr may) = found_there e (IsEither before content) at opens left may

  -- ---- a cleaning, refused or not: the content of before is found

  pub is_cleaned : (old new : Parts F) → IsInMain old → new.pipes.append.paths ≡ old.pipes.append.paths → (has_failed failed : Bool) → has_failed ≡ false → (failed ≡ false → answers_on disk new ≡ answers_on disk old)
      → OpensAs (directories_of_engine new) (disk new.files) (answers_on disk old) → LeavesNoMore (leaves_of_log disk (log old has_failed)) (leaves_of_log disk (log new failed))
  is_cleaned old new at paths has_failed failed goes_on same opens left (inl answered) = inl (goes_on, answered.1 ∙ same answered.0)
  is_cleaned old new at paths has_failed failed goes_on same opens left (inr may) =
      inl (goes_on, found_there new (λ found. found ≡ answers_on disk old) (still_in_main old new at paths) opens left may)

  -- ---- a write

  module _ (old new : Parts F) (items : Batch) (at : IsInMain old) (paths : new.pipes.append.paths ≡ old.pipes.append.paths) where
    abbrev after : Seen
    after = after_batch items (answers_on disk old)

    pub is_written : (has_failed : Bool) → answers_on disk new ≡ after → OpensAs (directories_of_engine new) (disk new.files) (answers_on disk new)
        → IsWritten (answers_on disk new) (leaves_of_log disk (log new has_failed)) after
    is_written has_failed is opens = record {
      answers = is;
      leaves_only = leaves_only new has_failed after (still_in_main old new at paths) is (subst (OpensAs (directories_of_engine new) (disk new.files)) is opens);
    }

    pub is_refused : OpensAsEither (directories_of_engine new) (disk new.files) (answers_on disk old) after
        → MayBeWritten (true ≡ false) (answers_on disk new) (leaves_of_log disk (log new true)) (answers_on disk old) after
    is_refused opens = record {
      answers = λ on. absurd (false≢true (sym on));
      leaves_either = leaves_either new (answers_on disk old) after (still_in_main old new at paths) opens;
    }

    -- other groups
    module _ (has_failed : Bool) (goes_on : has_failed ≡ false) where
      pub written_others : answers_on disk new ≡ after → OpensAs (directories_of_engine new) (disk new.files) (answers_on disk new)
          → LeavesElsewhere items (leaves_of_log disk (log old has_failed)) (leaves_of_log disk (log new has_failed))
      written_others is opens =
          leaves_elsewhere items (leaves_of_log disk (log old has_failed)) (leaves_of_log disk (log new has_failed)) (answers_on disk old) (inl (goes_on, refl))
          (λ left may. inr ((is_written has_failed is opens).leaves_only left may))

      pub refused_others : OpensAsEither (directories_of_engine new) (disk new.files) (answers_on disk old) after
          → LeavesElsewhere items (leaves_of_log disk (log old has_failed)) (leaves_of_log disk (log new true))
      refused_others opens =
          leaves_elsewhere items (leaves_of_log disk (log old has_failed)) (leaves_of_log disk (log new true)) (answers_on disk old) (inl (goes_on, refl))
          (is_refused opens).leaves_either
