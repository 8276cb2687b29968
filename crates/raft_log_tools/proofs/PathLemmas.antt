-- What a path stands for, by what a reader of it has before it.
use Rattle.std.proofs.Common.{◌≡◌, inr, List, [], ◌∷◌, refl}
use Rattle.std.specs.Prelude.{Result, Ok, Err, IfOk, OnOk, map}
use Rattle.raft_log_records.specs.declared.file_id.FileId.{FileId}
use Rattle.raft_log_disk.specs.Text.{Text}
use Rattle.raft_log_disk.specs.Disk.{Disk, IsFile}
use Rattle.raft_log_files.specs.declared.error.Error.{Error}
use Rattle.raft_log_items.specs.Found.{Found, IsLogPath}
use Rattle.raft_log_items.specs.Items.{file_items, files_left, nothing}
use Rattle.raft_log_items.specs.declared.reader.LogItemReader.{LogItemReader}
use Rattle.raft_log_tools.specs.Paths.{IsNoDirectory, StandsFor}

-- a reader has what these files have
abbrev pub HasBefore : Disk → LogItemReader → List Found → Type 0
HasBefore d r found = files_left r d ≡ nothing ∷ map (file_items d) found

-- of the one file that a path names
pub file_stands : (r : Result LogItemReader Error) (d : Disk) (path : Text) → IsNoDirectory d path → OnOk r (IsFile d path) → IfOk r (λ x. (id : FileId) × IsLogPath path id × (files_left x d ≡ nothing ∷ file_items d (id, path) ∷ []))
    → IfOk r (λ x. (found : List Found) × StandsFor d path found × HasBefore d x found)
file_stands (Ok x) d path none file (id, is, left) = ((id, path) ∷ [], inr (none, (id, file, is, refl)), left)
file_stands (Err e) d path none file left = tt
