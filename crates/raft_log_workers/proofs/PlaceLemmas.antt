-- The turn of a file that was read before the files before it were repaired.
use Rattle.std.proofs.Common.{◌≡◌, ℕ, ◌+◌, ◌<◌, List, ◌∷◌, length, get_or, take, drop, Some, refl, sym, ap, subst, ◌∙◌, inl}
use Rattle.std.specs.Prelude.{String, map, slice_get}
use Rattle.std.specs.String.{string_bytes}
use Rattle.std.specs.declared.alloc.Global.{Global}
use Rattle.std.proofs.lemmas.Option.{get_or_from_slice_get, slice_get_within}
use Rattle.raft_log_records.specs.declared.file_id.FileId.{FileId}
use Rattle.raft_log_records.specs.declared.file_id.LogQueue.{LogQueue}
use Rattle.raft_log_disk.specs.Text.{Text}
use Rattle.raft_log_disk.specs.Disk.{AreBytes, Disk, IsNamed, IsIn, fd_of}
use Rattle.raft_log_files.specs.declared.recovery.RecoveryMode.{RecoveryMode}
use Rattle.raft_log_pipe.specs.declared.file.File.{File}
use Rattle.raft_log_pipe.specs.Pipe.{id_of}
use Rattle.raft_log_recovery.specs.declared.scan.FileName.{FileName}
use Rattle.raft_log_recovery.specs.Repair.{IsRepaired, format_in}
use Rattle.raft_log_recovery.specs.Queue.{AreNumbered, AreRecovered, IsFileOf, path_of}
use Rattle.raft_log_recovery.proofs.CausedLemmas.{at_in}
use Rattle.std.proofs.Common.{[]}
use Rattle.std.proofs.Math.Seq.{take-length}
use Rattle.raft_log_recovery.proofs.QueueLemmas.{changed_none, place_at, untouched}
use Rattle.raft_log_recovery.proofs.TurnLemmas.{IsDone, Turn, turn_of}

abbrev pub no_name : FileName
no_name = record { seq = 0; path_id = 0 }

module _ (old : Disk) (named : IsNamed old) (mode : RecoveryMode) (queue : LogQueue) (directories : List (String Global)) (names : List FileName) (are : AreNumbered (length directories) names) (place : ℕ) (cur : Disk)
    (fs : List File) (so : AreRecovered (map string_bytes directories) queue old cur (take place names) fs) (name : FileName) (fd : ℕ) (here : slice_get names place ≡ Some name)
    (there : IsFileOf old (map string_bytes directories) queue name fd) (id : FileId) (id_is : id ≡ id_of queue name.seq) where
  abbrev pub dirs : List Text
  dirs = map string_bytes directories

  pub within : place < length names
  within = slice_get_within names place name here

  pub name_is : get_or names place no_name ≡ name
  name_is = get_or_from_slice_get names place name no_name here

  pub there_now : IsFileOf cur dirs queue name fd
  there_now = subst (λ (l : List (Text × ℕ)). fd_of l (path_of dirs queue name) ≡ Some fd) (sym so.only.names_stay) there

  abbrev pub turn_at : Turn
  turn_at = turn_of old named mode queue directories names are place within cur cur fs fd id refl so (subst (λ (x : FileName). IsFileOf cur dirs queue x fd) (sym name_is) there_now)
      (id_is ∙ ap (λ (x : FileName). id_of queue x.seq) (sym name_is))

  -- it is one of the names
  pub name_in : IsIn name names
  name_in = subst (λ (x : FileName). IsIn x names) name_is (at_in names place no_name within)

  -- it is as it was
  pub file_stays : cur.file fd ≡ old.file fd
  file_stays = untouched dirs queue (length directories) old cur (take place names) (get_or names place no_name ∷ drop (place + 1) names) name fd named (subst (AreNumbered (length directories)) (sym (place_at names place no_name within)) are) so.only
      (inl (sym name_is)) there

  pub done_at : (f : File) (new : Disk) → f.seq ≡ name.seq → f.path_id ≡ name.path_id → f.handle.0 ≡ fd → IsRepaired cur new id f.handle.0 → f.format ≡ format_in (cur.file f.handle.0).bytes → AreBytes (cur.file f.handle.0).bytes
      → IsDone turn_at f new
  done_at f new seq path handle repaired format fits = record {
    seq = seq ∙ ap (λ (x : FileName). x.seq) (sym name_is);
    place = path ∙ ap (λ (x : FileName). x.path_id) (sym name_is);
    handle = handle;
    repaired = repaired;
    format = format;
    fits = fits;
  }

-- nothing is recovered yet
pub nothing_recovered : (directories : List Text) (queue : LogQueue) (d e : Disk) → e ≡ d → AreRecovered directories queue d e [] []
nothing_recovered directories queue d e kept = record { opened = refl; each = tt; only = changed_none directories queue d e kept }

-- all names
pub all_recovered : (directories : List Text) (queue : LogQueue) (old cur : Disk) (names : List FileName) (place : ℕ) (fs : List File) → place ≡ length names → AreRecovered directories queue old cur (take place names) fs
    → AreRecovered directories queue old cur names fs
all_recovered directories queue old cur names place fs all so =
    subst (λ (l : List FileName). AreRecovered directories queue old cur l fs) (ap (λ n. take n names) all ∙ take-length names) so
