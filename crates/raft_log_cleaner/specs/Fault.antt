-- What refusals of the parts of a cleaning are told as.
use Rattle.raft_log_records.specs.declared.error.RecordError.{RecordError}
use Rattle.raft_log_records.specs.declared.error.RecordError.TheVariants as record_error
use Rattle.raft_log_files.specs.declared.error.CorruptionFault.TheVariants.{Record}
use Rattle.raft_log_files.specs.declared.error.Error.{Error}
use Rattle.raft_log_files.specs.declared.error.Error.TheVariants.{Corruption, EntryCompacted, EntryNotFound, Memory}
use Rattle.raft_log_marks.specs.declared.marks.MarkError.{MarkError}
use Rattle.raft_log_marks.specs.declared.marks.MarkError.TheVariants as mark_error
use Rattle.raft_log_memtables.specs.declared.fetch.FetchError.{FetchError}
use Rattle.raft_log_memtables.specs.declared.fetch.FetchError.TheVariants as fetch

-- of a batch
abbrev pub record_fault : RecordError → Error
record_fault record_error.Memory = Memory
record_fault record_error.TooLong = Memory
record_fault (record_error.Corruption fault) = Corruption (Record fault)

-- of marks
abbrev pub mark_fault : MarkError → Error
mark_fault (mark_error.Record error) = record_fault error
mark_fault mark_error.EmptyKey = EntryNotFound
mark_fault mark_error.PastGreatestIndex = EntryNotFound

-- of entries
abbrev pub fetch_fault : FetchError → Error
fetch_fault fetch.Memory = Memory
fetch_fault fetch.EntryCompacted = EntryCompacted
fetch_fault fetch.EntryNotFound = EntryNotFound
