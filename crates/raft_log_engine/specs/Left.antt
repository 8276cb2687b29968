-- What a crash may leave of an engine.
use Rattle.std.specs.Prelude.{◌≡◌, ℕ, Bool, false, List, [], ◌++◌, take}
use Rattle.raft_log_disk.specs.Disk.{Disk}
use Rattle.raft_log_pipe.specs.Pipe.{Numbered, Leaves}
use Rattle.raft_log_pipes.specs.declared.pipes.DualPipes.{DualPipes}
use Rattle.raft_log_memtables.specs.Content.{Content}
use Rattle.raft_log_blocks.specs.Held.{content_of_batches, seen_on}
use Rattle.raft_log_engine.specs.Parts.{Parts}

-- An account of the files: whatever a crash leaves of the rewrite queue reads as these batches, and of the append queue as
-- others and a front of further ones. Unless a write has failed the first two have the content that is answered
pub record IsAccount (d : Disk) (p : DualPipes) (is_stopped : Bool) (answered : Content (List ℕ)) (rewrites synced unsynced : Numbered) : Type 0 where
  pub rewrite : Leaves p.rewrite d rewrites []
  pub append : Leaves p.append d synced unsynced
  pub answers : is_stopped ≡ false → content_of_batches (rewrites ++ synced) ≡ answered

-- where each write was synced: by each account the content is that of the first batches and a front of the others
abbrev pub MayLeave : Disk → DualPipes → Bool → Bool → Content (List ℕ) → Content (List ℕ) → Type 0
MayLeave d p is_stopped wrote_unsynced answered content =
    wrote_unsynced ≡ false → (rewrites synced unsynced : Numbered) → IsAccount d p is_stopped answered rewrites synced unsynced
    → (k : ℕ) × (content ≡ content_of_batches (rewrites ++ (synced ++ take k unsynced)))

-- ---- an engine by its parts, where `disk` says what its file system has

-- no write has failed, and each was synced
pub record IsSound {F : Type 0} (e : Parts F) : Type 0 where
  pub goes_on : e.is_stopped ≡ false
  pub synced : e.wrote_unsynced ≡ false

-- what its calls answer
abbrev pub answers_on : {F : Type 0} → (F → Disk) → Parts F → Content (List ℕ)
answers_on disk e = seen_on (disk e.files) e.pipes e.tables

-- what a crash may leave of it, where each write was synced. Of others `OpensAsFront` tells
abbrev pub leaves_on : {F : Type 0} → (F → Disk) → Parts F → Content (List ℕ) → Type 0
leaves_on disk e content = MayLeave (disk e.files) e.pipes e.is_stopped e.wrote_unsynced (answers_on disk e) content
