-- Why a cleaning is refused: each error comes only for its cause, by what its files counted from its beginning on.
use Rattle.std.specs.Prelude.{◌⊎◌}
use Rattle.raft_log_disk.specs.Text.{Text}
use Rattle.raft_log_disk.specs.Disk.{IsIn}
use Rattle.raft_log_disk.specs.Cause.{Lacks, Meter, Rises}
use Rattle.raft_log_files.specs.declared.error.Error.{Error}
use Rattle.raft_log_files.specs.declared.error.Error.TheVariants.{Io, Corruption, InvalidArgument, TryAgain, Memory, Other, EntryCompacted, EntryNotFound}
use Rattle.raft_log_files.specs.declared.error.OtherFault.{OtherFault}
use Rattle.raft_log_files.specs.declared.error.OtherFault.TheVariants as other

-- reads of a path are refused
abbrev pub RefusesReads : Meter → Type 0
RefusesReads meter = (path : Text) × IsIn path meter.unreadable

-- no number is left for a file, or it isn't there
abbrev pub IsOfFile : OtherFault → Type 0
IsOfFile other.NoFileNumber = Unit {0}
IsOfFile other.FileGone = Unit {0}
IsOfFile other.PurgeBelowTarget = ⊥
IsOfFile other.RecycleUnderVersion1 = ⊥
IsOfFile other.PrefillWithoutRecycle = ⊥
IsOfFile other.NoTargetSize = ⊥
IsOfFile other.NotADirectory = ⊥
IsOfFile other.NumberOutOfSpan = ⊥

-- `Io` comes only where the file system counted a refusal or refuses reads of a path, `TryAgain` only where two writes found no
-- space. No bytes are `Corruption`. `EntryNotFound` and `EntryCompacted` are of a list that has a hole or reaches the greatest
-- index, and of a key without bytes
abbrev pub IsCleaningFault : Meter → Meter → Error → Type 0
IsCleaningFault old new Memory = Unit {0}
IsCleaningFault old new (Io f) = Rises 1 old new ⊎ RefusesReads old
IsCleaningFault old new TryAgain = Lacks 2 old new
IsCleaningFault old new (Other f) = IsOfFile f
IsCleaningFault old new (Corruption f) = ⊥
IsCleaningFault old new (InvalidArgument f) = ⊥
IsCleaningFault old new EntryCompacted = Unit {0}
IsCleaningFault old new EntryNotFound = Unit {0}
