-- Why marks aren't written.
use Rattle.raft_log_records.specs.declared.error.RecordError.{RecordError}
use Rattle.raft_log_records.specs.declared.error.RecordError.TheVariants as record_error
use Rattle.raft_log_marks.specs.declared.marks.MarkError.{MarkError}
use Rattle.raft_log_marks.specs.declared.marks.MarkError.TheVariants.{Record, EmptyKey, PastGreatestIndex}

-- a batch takes an item unless memory is missing, or its record would be too long: no bytes are `Corruption`
abbrev pub IsBatchFault : RecordError → Type 0
IsBatchFault record_error.Memory = Unit {0}
IsBatchFault record_error.TooLong = Unit {0}
IsBatchFault (record_error.Corruption fault) = ⊥

-- of marks
abbrev pub IsMarkFault : MarkError → Type 0
IsMarkFault (Record error) = IsBatchFault error
IsMarkFault EmptyKey = Unit {0}
IsMarkFault PastGreatestIndex = Unit {0}
