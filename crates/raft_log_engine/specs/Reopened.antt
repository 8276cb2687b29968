-- What an opening of an engine's files answers, after a crash or without one.
use Rattle.std.specs.Prelude.{◌≡◌, ◌⊎◌, ℕ, List, take}
use Rattle.raft_log_records.specs.declared.file_id.LogQueue.{LogQueue}
use Rattle.raft_log_disk.specs.Disk.{Disk}
use Rattle.raft_log_disk.specs.Image.{Image}
use Rattle.raft_log_disk.specs.Text.{Text}
use Rattle.raft_log_files.specs.declared.recovery.RecoveryMode.{RecoveryMode}
use Rattle.raft_log_files.specs.declared.recovery.RecoveryMode.TheVariants.{TolerateTailCorruption}
use Rattle.raft_log_file.specs.Laws.{Batch}
use Rattle.raft_log_pipe.specs.Alone.{IsAlone, directories_of_pipe}
use Rattle.raft_log_pipes.specs.declared.pipes.DualPipes.{DualPipes}
use Rattle.raft_log_pipes.specs.Pipes.{pipe_of}
use Rattle.raft_log_memtables.specs.Content.{Content}
use Rattle.raft_log_recovery.specs.Crashed.{HasLastingHole, IsCrashed}
use Rattle.raft_content_log.specs.Leaving.{IsEither}
use Rattle.raft_log_cleaner.specs.Pipes.{HasHoleBefore}
use Rattle.raft_log_engine.specs.Parts.{Parts}
use Rattle.raft_log_engine.specs.Opening.{CantBeOpened, IsFoundContent}
use Rattle.raft_log_engine.specs.Since.{after_batches}

-- whatever a crash leaves of a disk, an opening of it answers this content, in each mode, unless bytes that nobody wrote pass
-- as records
abbrev pub OpensAs : List Text → Disk → Content (List ℕ) → Type 0
OpensAs directories d content = (image : Image) (e : Disk) (mode : RecoveryMode) (found : Content (List ℕ)) → IsCrashed d image e → IsFoundContent mode directories e found → found ≡ content

-- or one of two contents
abbrev pub OpensAsEither : List Text → Disk → Content (List ℕ) → Content (List ℕ) → Type 0
OpensAsEither directories d before content =
    (image : Image) (e : Disk) (mode : RecoveryMode) (found : Content (List ℕ)) → IsCrashed d image e → IsFoundContent mode directories e found → IsEither before content found

-- or this content with a front of these batches
abbrev pub OpensAsFront : List Text → Disk → Content (List ℕ) → List Batch → Type 0
OpensAsFront directories d before batches =
    (image : Image) (e : Disk) (mode : RecoveryMode) (found : Content (List ℕ)) → IsCrashed d image e → IsFoundContent mode directories e found
    → (k : ℕ) × (found ≡ after_batches (take k batches) before)

-- Whatever a crash leaves of a disk, an opening that tolerates a torn tail finds nothing that it refuses: no fault before the last
-- file of a queue, and no alignment. But where a pipe has a hole, or a hole stands before its files: a file before the last one has
-- no bytes, and no crash leaves it any. None stands before files that are the last ones of their queue
abbrev pub OpensInTail : List Text → Disk → DualPipes → Type 0
OpensInTail directories d p =
    (image : Image) (e : Disk) (queue : LogQueue) → IsCrashed d image e → CantBeOpened TolerateTailCorruption directories queue e
    → HasLastingHole (pipe_of p queue) d ⊎ HasHoleBefore (pipe_of p queue) d

-- where files of both queues lie
abbrev pub directories_of_pipes : DualPipes → List Text
directories_of_pipes p = directories_of_pipe p.append

-- The files of each pipe are the last ones of its queue in these directories
pub record StandAlone (p : DualPipes) (d : Disk) : Type 0 where
  pub paths : directories_of_pipe p.rewrite ≡ directories_of_pipe p.append
  pub append : IsAlone p.append d
  pub rewrite : IsAlone p.rewrite d

-- where an engine's files lie
abbrev pub directories_of_engine : {F : Type 0} → Parts F → List Text
directories_of_engine e = directories_of_pipes e.pipes

-- its files are the last ones of both queues there
abbrev pub StandsAlone : {F : Type 0} → (F → Disk) → Parts F → Type 0
StandsAlone disk e = StandAlone e.pipes (disk e.files)

-- They are, and an opening that tolerates a torn tail refuses nothing that a crash leaves of them, but where a pipe has a hole
pub record StandsInTail {F : Type 0} (disk : F → Disk) (e : Parts F) : Type 0 where
  pub alone : StandsAlone disk e
  pub opens : OpensInTail (directories_of_engine e) (disk e.files) e.pipes
