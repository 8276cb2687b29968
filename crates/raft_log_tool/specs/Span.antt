-- The line of a queue's files.
use Rattle.std.specs.Prelude.{ℕ, List, [], ◌∷◌, ◌++◌, length, map, Option, Some, None, codes}
use Rattle.raft_log_disk.specs.Disk.{Disk, fd_of}
use Rattle.raft_log_items.specs.Found.{Found}
use Rattle.raft_log_records.specs.declared.file_id.LogQueue.{LogQueue}
use Rattle.raft_log_tool.specs.declared.span.FileSize.{FileSize}
use Rattle.raft_log_contents.specs.Endings.{named, newline, queue_text}
use Rattle.raft_log_tool.specs.Lines.{sum_of}

-- how long the file of a number is; without one there are no bytes
abbrev pub bytes_at : Disk → Option ℕ → ℕ
bytes_at d None = 0
bytes_at d (Some fd) = length (d.file fd).bytes

-- how long a file is
abbrev pub size_of : Disk → Found → FileSize
size_of d found = record { seq = found.0.seq; bytes = bytes_at d (fd_of d.names found.1) }

-- the number of the last file, behind one of this number
abbrev pub last_number : ℕ → List FileSize → ℕ
last_number seq [] = seq
last_number seq (size ∷ sizes) = last_number size.seq sizes

-- the first number and the last one, how many files there are, and their bytes
abbrev pub files_text : List FileSize → List ℕ
files_text [] = codes " no files"
files_text (size ∷ sizes) =
    named (codes " from ") size.seq ++ named (codes " to ") (last_number size.seq sizes) ++ named (codes " files ") (length (size ∷ sizes))
    ++ named (codes " bytes ") (sum_of (map (λ x. x.bytes) (size ∷ sizes)))

abbrev pub span_text : LogQueue → List FileSize → List ℕ
span_text queue sizes = queue_text queue ++ files_text sizes ++ newline
