-- A log over one engine, each of whose writes is synced: what it answers, and what the next opening of its files may answer.
use Rattle.std.specs.Prelude.{◌≡◌, ◌⊎◌, ◌↔◌, ◌-◌, ℕ, Bool, false, List, [], ◌∷◌, Option, option_map}
use Rattle.std.specs.String.{string_bytes}
use Rattle.raft_log_disk.specs.Chance.{IsGenuineImage}
use Rattle.raft_log_disk.specs.Disk.{Disk}
use Rattle.raft_log_disk.specs.Cause.{Meter}
use Rattle.raft_log_disk.specs.Image.{Image, IsImageOf, after_crash, image_of}
use Rattle.raft_log_disk.specs.Text.{Text}
use Rattle.raft_log_disk.specs.declared.crash.CrashChoice.{CrashChoice}
use Rattle.raft_log_disk.specs.declared.crash.CrashRefusal.{CrashRefusal}
use Rattle.raft_log_disk.specs.declared.crash.CrashRefusal.TheVariants.{ByChance, Memory, NotAnImage}
use Rattle.raft_log_files.specs.declared.config.Config.{Config}
use Rattle.raft_log_files.specs.declared.recovery.RecoveryMode.TheVariants.{TolerateTailCorruption}
use Rattle.raft_log_memtables.specs.Content.{Content}
use Rattle.raft_log_recovery.specs.Crashed.{IsCrashed}
use Rattle.raft_log_engine.specs.Parts.{Parts}
use Rattle.raft_log_engine.specs.Left.{IsSound, answers_on}
use Rattle.raft_log_engine.specs.Opening.{IsFoundContent}
use Rattle.raft_log_engine.specs.Reopened.{OpensInTail, StandsAlone, directories_of_engine}

-- what contracts see of a log
pub record LogOn (F : Type 0) : Type 0 where
  pub engine : Parts F
  pub settings : Config
  -- a write was refused
  pub has_failed : Bool

-- the main directory, and no other
abbrev pub main_directory : Config → List Text
main_directory settings = string_bytes settings.dir ∷ []

-- An opening of a node's log by these settings answers this content. Whatever mode they name, it tolerates what a crash leaves: a torn
-- tail
abbrev pub IsFoundBy : Config → Disk → Content (List ℕ) → Type 0
IsFoundBy settings d content = IsFoundContent TolerateTailCorruption (main_directory settings) d content

-- it may answer this content after a crash
pub record MayBeFound (settings : Config) (d : Disk) (content : Content (List ℕ)) : Type 0 where
  pub image : Image
  pub left : Disk
  pub crashed : IsCrashed d image left
  pub found : IsFoundBy settings left content

-- The engine's files lie in the main directory. Unless a write was refused each was synced, and they are the last ones there. In any
-- case an opening that tolerates a torn tail refuses nothing that a crash leaves of them, but where a pipe has a hole
pub record IsLog {F : Type 0} (disk : F → Disk) (e : Parts F) (settings : Config) (has_failed : Bool) : Type 0 where
  pub directories : directories_of_engine e ≡ main_directory settings
  pub sound : has_failed ≡ false → IsSound e
  pub alone : has_failed ≡ false → StandsAlone disk e
  pub in_tail : OpensInTail (main_directory settings) (disk e.files) e.pipes

-- what the next opening may answer: what is found after a crash, or what the log answers unless a write was refused
abbrev pub leaves_of_log : {F : Type 0} → (F → Disk) → LogOn F → Content (List ℕ) → Type 0
leaves_of_log disk l content = ((l.has_failed ≡ false) × (content ≡ answers_on disk l.engine)) ⊎ MayBeFound l.settings (disk l.engine.files) content

-- what the choice leaves of these files
abbrev pub left_by : CrashChoice → Disk → Image
left_by choice d = image_of choice d.names d.file

-- A crash left of the files just what the choice says: bytes that a crash may leave, and nothing among them that passes by chance for
-- what a call wrote. The fuse is as it was
pub record AreCrashed {F : Type 0} (disk : F → Disk) (meter : F → Meter) (old : F) (choice : CrashChoice) (new : F) : Type 0 where
  pub image : IsImageOf choice (disk old)
  pub genuine : IsGenuineImage (disk old) (left_by choice (disk old))
  pub left : disk new ≡ after_crash (disk old) (left_by choice (disk old))
  pub fuse : meter new ≡ meter old

-- They refuse each changing call from this one on, the first one counted as 1, or none any more. They have what they had
pub record AreFused {F : Type 0} (disk : F → Disk) (meter : F → Meter) (old : F) (first_refused : Option ℕ) (new : F) : Type 0 where
  pub same : disk new ≡ disk old
  pub fuse : meter new ≡ record (meter old) { calls_left = option_map (λ n. n - 1) first_refused }

-- The log's machine stopped, and left of its files what the choice says: what an opening finds of them was left by the log before
pub record IsCrashedLog {F : Type 0} (disk : F → Disk) (meter : F → Meter) (old : LogOn F) (choice : CrashChoice) (new : LogOn F) : Type 0 where
  pub settings : new.settings ≡ old.settings
  pub files : AreCrashed disk meter old.engine.files choice new.engine.files
  pub found : (content : Content (List ℕ)) → IsFoundBy new.settings (disk new.engine.files) content → leaves_of_log disk old content

-- The log's files got this fuse, and the log is as it was
pub record IsFusedLog {F : Type 0} (disk : F → Disk) (meter : F → Meter) (old : LogOn F) (first_refused : Option ℕ) (new : LogOn F) : Type 0 where
  pub settings : new.settings ≡ old.settings
  pub files : AreFused disk meter old.engine.files first_refused new.engine.files

-- no crash leaves the files so; or they would show by chance what nobody wrote; or memory was lacking
abbrev pub CantBeLeftSo : CrashChoice → CrashRefusal → Disk → Type 0
CantBeLeftSo choice NotAnImage d = IsImageOf choice d → ⊥
CantBeLeftSo choice ByChance d = IsImageOf choice d × (IsGenuineImage d (left_by choice d) → ⊥)
CantBeLeftSo choice Memory d = Unit {0}

-- a log as it was, but that its files may be others that have the same
pub record IsSameLog {F : Type 0} (disk : F → Disk) (old new : LogOn F) : Type 0 where
  pub parts : new.engine ≡ record old.engine { files = new.engine.files }
  pub settings : new.settings ≡ old.settings
  pub has_failed : new.has_failed ≡ old.has_failed
  pub disk_stays : disk new.engine.files ≡ disk old.engine.files
  pub answers : answers_on disk new.engine ≡ answers_on disk old.engine
  pub leaves : (content : Content (List ℕ)) → leaves_of_log disk new content ↔ leaves_of_log disk old content
