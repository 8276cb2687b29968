-- The signature of a log file.
use Rattle.std.specs.Prelude.{ℕ, Option, Some, None, ◌%◌, ◌^◌}
use Rattle.raft_log_records.specs.declared.version.Version.{Version}
use Rattle.raft_log_records.specs.declared.version.Version.TheVariants.{V1, V2}

-- of the file with this number: none under version 1
abbrev pub signature_of : Version → ℕ → Option ℕ
signature_of V1 seq = None
signature_of V2 seq = Some (seq % 2 ^ 32)
