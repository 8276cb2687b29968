-- The files of a pipe that was opened are the last ones of its queue.
use Rattle.std.proofs.Common.{◌≡◌, ◌<◌, List, [], ◌∷◌, length, map, Result, Ok, Err, refl, sym, ap, subst, ◌∙◌, arith}
use Rattle.std.specs.Prelude.{IfOk, String, Vec}
use Rattle.std.specs.String.{string_bytes}
use Rattle.std.specs.declared.alloc.Global.{Global}
use Rattle.raft_log_records.specs.declared.file_id.LogQueue.{LogQueue}
use Rattle.raft_log_disk.specs.Text.{Text}
use Rattle.raft_log_disk.specs.Disk.{Disk, IsNamed}
use Rattle.raft_log_pipe.specs.declared.file.File.{File}
use Rattle.raft_log_pipe.specs.declared.pipe.SinglePipe.{SinglePipe}
use Rattle.raft_log_pipe.specs.Alone.{AreDistinct, AreLast, IsAlone, IsOnce, IsVacant, Names, directories_of_pipe}
use Rattle.raft_log_recovery.specs.declared.scan.FileKind.TheVariants.{Log}
use Rattle.raft_log_recovery.specs.declared.scan.FileName.{FileName}
use Rattle.raft_log_recovery.specs.Queue.{AreOpen}
use Rattle.raft_log_recovery.specs.Scan.{AreFound}
use Rattle.raft_log_recovery.proofs.RunLemmas.{none_stand, opened_last}

pub paths_are : {E : Type 0} (r : Result SinglePipe E) (paths : Vec (String Global) Global) (directories : List Text) → map string_bytes paths.items ≡ directories → IfOk r (λ p. p.paths ≡ paths) → IfOk r (λ p. directories_of_pipe p ≡ directories)
paths_are (Ok p) paths directories said is = ap (λ (v : Vec (String Global) Global). map string_bytes v.items) is ∙ said
paths_are (Err e) paths directories said is = tt

-- a queue that had no files
pub created_alone : {E : Type 0} (r : Result SinglePipe E) (old mid new : Disk) (queue : LogQueue) (paths directories : List Text) (names : List FileName) → paths ≡ directories → mid.names ≡ old.names → AreFound old (Log queue) directories names → names ≡ []
    → IfOk r (λ p. AreDistinct paths → IsVacant mid.names paths queue → IsAlone p new) → IfOk r (λ p. IsOnce old.names directories queue → IsAlone p new)
created_alone (Ok p) old mid new queue paths directories names said same found none alone = λ once.
    let vacant : IsVacant old.names directories queue = none_stand old queue directories (subst (AreFound old (Log queue) directories) none found) in
    alone (subst AreDistinct (sym said) once.apart) (subst (λ (l : List Text). IsVacant mid.names l queue) (sym said) (subst (λ (n : Names). IsVacant n directories queue) (sym same) vacant))
created_alone (Err e) old mid new queue paths directories names said same found none alone = tt

-- the files that were found
found_last : (d : Disk) (queue : LogQueue) (directories : List Text) (names : List FileName) (fs : List File) → IsNamed d → AreFound d (Log queue) directories names → AreOpen d directories queue names fs → 0 < length fs
    → IsOnce d.names directories queue → AreLast d.names directories queue fs
found_last d queue directories [] fs named found opened some once = absurd (omega (arith, some, ap length opened))
found_last d queue directories (name ∷ names) fs named found (f, rest, is, here, others) some once =
    subst (AreLast d.names directories queue) (sym is) (opened_last d d.next queue directories name names f rest named once found (f, rest, refl, here, others))

pub found_alone : {E : Type 0} (r : Result SinglePipe E) (old mid new : Disk) (queue : LogQueue) (paths directories : List Text) (names : List FileName) (fs : List File) → paths ≡ directories → IsNamed old → mid.names ≡ old.names
    → AreFound old (Log queue) directories names → AreOpen old directories queue names fs → 0 < length fs → IfOk r (λ p. AreLast mid.names paths queue fs → IsAlone p new) → IfOk r (λ p. IsOnce old.names directories queue → IsAlone p new)
found_alone (Ok p) old mid new queue paths directories names fs said named same found opened some alone = λ once.
    alone (subst (λ (l : List Text). AreLast mid.names l queue fs) (sym said) (subst (λ (n : Names). AreLast n directories queue fs) (sym same) (found_last old queue directories names fs named found opened some once)))
found_alone (Err e) old mid new queue paths directories names fs said named same found opened some alone = tt
