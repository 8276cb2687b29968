-- Names of log files and of reserved files.
use Rattle.std.specs.Prelude.{ℕ, ◌<◌, ◌^◌, ◌++◌, codes}
use Rattle.raft_log_disk.specs.Text.{Text}
use Rattle.raft_log_records.specs.declared.file_id.FileId.{FileId}
use Rattle.raft_log_disk.specs.Name.{digits, suffix_of}

-- a number that a log file can have
abbrev pub IsFileSeq : ℕ → Type 0
IsFileSeq n = n < 10 ^ 16

-- sixteen digits and a suffix
unfoldable pub suffixed : ℕ → Text → Text
suffixed n suffix = digits 16 n ++ suffix

-- the name of a reserved file
abbrev pub reserved_name : ℕ → Text
reserved_name n = suffixed n (codes ".raftlog.reserved")

-- the name of a log file
abbrev pub log_file_name : FileId → Text
log_file_name id = suffixed id.seq (suffix_of id.queue)
