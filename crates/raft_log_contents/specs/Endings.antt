-- Where files ended, as texts.
use Rattle.std.specs.Prelude.{ℕ, List, [], ◌∷◌, ◌++◌, codes}
use Rattle.std.specs.Fmt.{decimal}
use Rattle.raft_log_disk.specs.declared.format.HeaderFault.TheVariants as header
use Rattle.raft_log_files.specs.declared.error.CorruptionFault.{CorruptionFault}
use Rattle.raft_log_files.specs.declared.error.CorruptionFault.TheVariants.{Header, NoSuchFile, Record}
use Rattle.raft_log_records.specs.declared.error.RecordFault.TheVariants as wrong
use Rattle.raft_log_records.specs.declared.file_id.FileId.{FileId}
use Rattle.raft_log_records.specs.declared.file_id.LogQueue.{LogQueue}
use Rattle.raft_log_records.specs.declared.file_id.LogQueue.TheVariants.{Append, Rewrite}
use Rattle.raft_log_contents.specs.declared.content.Ending.{Ending}
use Rattle.raft_log_contents.specs.declared.content.Ending.TheVariants.{Fault, Room, Whole}

abbrev pub newline : List ℕ
newline = 10 ∷ []

-- a word and a number behind it
abbrev pub named : List ℕ → ℕ → List ℕ
named word number = word ++ decimal number

abbrev pub queue_text : LogQueue → List ℕ
queue_text Rewrite = codes "rewrite"
queue_text Append = codes "append"

abbrev pub file_text : FileId → List ℕ
file_text id = queue_text id.queue ++ named (codes " ") id.seq

abbrev pub fault_name : CorruptionFault → List ℕ
fault_name (Header header.CutShort) = codes "header CutShort"
fault_name (Header header.NoHeader) = codes "header NoHeader"
fault_name (Header header.BadVersion) = codes "header BadVersion"
fault_name (Record wrong.CutShort) = codes "record CutShort"
fault_name (Record wrong.ItemsCutShort) = codes "record ItemsCutShort"
fault_name (Record wrong.BadLength) = codes "record BadLength"
fault_name (Record wrong.BadOffset) = codes "record BadOffset"
fault_name (Record wrong.ItemsChecksum) = codes "record ItemsChecksum"
fault_name (Record wrong.BadTag) = codes "record BadTag"
fault_name (Record wrong.NotConsecutive) = codes "record NotConsecutive"
fault_name (Record wrong.EmptyKey) = codes "record EmptyKey"
fault_name (Record wrong.TrailingBytes) = codes "record TrailingBytes"
fault_name (Record wrong.EntriesLength) = codes "record EntriesLength"
fault_name (Record wrong.EntriesChecksum) = codes "record EntriesChecksum"
fault_name NoSuchFile = codes "file NoSuchFile"

-- where the reading of a file ended, and of how many bytes; nothing where that was its end
abbrev pub ending_text : FileId → Ending → ℕ → ℕ → List ℕ
ending_text id Whole to size = []
ending_text id Room to size = file_text id ++ named (codes " room from ") to ++ named (codes " to ") size ++ newline
ending_text id (Fault fault) to size =
    file_text id ++ named (codes " fault at ") to ++ named (codes " of ") size ++ codes " " ++ fault_name fault ++ newline

-- where a file is cut, where that is not its end
abbrev pub cut_text : FileId → Ending → ℕ → ℕ → List ℕ
cut_text id Whole to size = []
cut_text id Room to size = codes "cut " ++ ending_text id Room to size
cut_text id (Fault fault) to size = codes "cut " ++ ending_text id (Fault fault) to size
