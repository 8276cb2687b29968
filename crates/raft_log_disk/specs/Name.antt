-- Names of log files: sixteen digits and a suffix.
use Rattle.std.specs.Prelude.{◌≡◌, ℕ, zero, suc, ◌+◌, ◌-◌, ◌*◌, ◌/◌, ◌%◌, Bool, ◌&&◌, not, nat_lt, List, [], ◌∷◌, ◌++◌, length}
use Rattle.std.specs.Prelude.{take, drop, fold, Option, Some, None, slice_index, ◌==◌, if◌then◌else◌}
use Rattle.std.specs.List.{list_all}
use Rattle.raft_log_records.specs.declared.file_id.LogQueue.{LogQueue}
use Rattle.raft_log_records.specs.declared.file_id.LogQueue.TheVariants.{Append, Rewrite}
use Rattle.raft_log_records.specs.declared.file_id.FileId.{FileId}
use Rattle.raft_log_disk.specs.Text.{Text, same_text}

-- `.raftlog`, `.rewrite`
abbrev pub suffix_of : LogQueue → Text
suffix_of Append = 46 ∷ 114 ∷ 97 ∷ 102 ∷ 116 ∷ 108 ∷ 111 ∷ 103 ∷ []
suffix_of Rewrite = 46 ∷ 114 ∷ 101 ∷ 119 ∷ 114 ∷ 105 ∷ 116 ∷ 101 ∷ []

-- so many decimal digits of a number, the last ones
abbrev pub digits : ℕ → ℕ → Text
digits zero n = []
digits (suc k) n = digits k (n / 10) ++ (48 + n % 10) ∷ []

-- the name of a log file
abbrev pub file_name : FileId → Text
file_name id = digits 16 id.seq ++ suffix_of id.queue

abbrev pub is_digit : ℕ → Bool
is_digit b = nat_lt 47 b && nat_lt b 58

-- the number that digits spell
abbrev pub value_of : Text → ℕ
value_of text = fold (λ n b. n * 10 + (b - 48)) 0 text

-- the log file of sixteen digits and a suffix
abbrev pub queued : Text → ℕ → Option FileId
queued suffix seq =
    if same_text suffix (suffix_of Append) then Some (record { queue = Append; seq = seq })
    else if same_text suffix (suffix_of Rewrite) then Some (record { queue = Rewrite; seq = seq })
    else None

-- the log file of a name
abbrev pub file_id_of : Text → Option FileId
file_id_of name = if length name == 24 && list_all is_digit (take 16 name) then queued (drop 16 name) (value_of (take 16 name)) else None

-- the log file of a path: of what stands behind a slash
abbrev pub log_file_of : Text → Option FileId
log_file_of path = if nat_lt 24 (length path) && slice_index path (length path - 25) == 47 then file_id_of (drop (length path - 24) path) else None
