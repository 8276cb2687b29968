-- The turn of one file of a queue: what the calls say of it, as the lemmas of the whole queue take it.
use Rattle.std.proofs.Common.{◌≡◌, ℕ, ◌+◌, ◌<◌, false, List, [], ◌∷◌, ◌++◌, length, get_or, take, Some, refl, sym, ap, subst, ◌∙◌, arith}
use Rattle.std.specs.Prelude.{◌==◌, String, map}
use Rattle.std.specs.String.{string_bytes}
use Rattle.std.specs.declared.alloc.Global.{Global}
use Rattle.raft_log_records.specs.declared.file_id.FileId.{FileId}
use Rattle.raft_log_records.specs.declared.file_id.LogQueue.{LogQueue}
use Rattle.raft_log_disk.specs.declared.fault.Fd.{Fd}
use Rattle.raft_log_disk.specs.declared.format.LogFileFormat.{LogFileFormat}
use Rattle.raft_log_disk.specs.Text.{Text}
use Rattle.raft_log_disk.specs.Disk.{AreBytes, Disk, IsNamed, IsNoFile}
use Rattle.raft_log_files.specs.declared.error.CorruptionFault.{CorruptionFault}
use Rattle.raft_log_files.specs.declared.recovery.RecoveryMode.{RecoveryMode}
use Rattle.raft_log_pipe.specs.declared.file.File.{File}
use Rattle.raft_log_pipe.specs.Pipe.{id_of}
use Rattle.raft_log_recovery.specs.declared.scan.FileName.{FileName}
use Rattle.raft_log_recovery.specs.Repair.{IsRepaired, IsStopped, batches_in, cuts_faults, fault_in, format_in}
use Rattle.raft_log_recovery.specs.Replay.{ArePlaced, Placed}
use Rattle.raft_log_recovery.specs.Queue.{AreLeft, AreNumbered, AreReadAlike, AreRecovered, IsFileOf, KeepsRefused, OnlyChanges}
use Rattle.raft_log_recovery.proofs.QueueLemmas.{IsRefusedHere, IsStep, NoneRefused, Replays, alike_at, alike_stopped, file_is, kept_at, kept_stopped, left_at, left_stopped, only_between, only_within, step_none, step_recovered, step_replays}

abbrev no_name : FileName
no_name = record { seq = 0; path_id = 0 }

-- the files before it are recovered, and it was opened
pub record Turn : Type 0 where
  pub mode : RecoveryMode
  pub directories : List Text
  pub queue : LogQueue
  pub count : ℕ
  pub names : List FileName
  pub are : AreNumbered count names
  pub i : ℕ
  pub lt : i < length names
  pub old : Disk
  pub named : IsNamed old
  pub cur : Disk
  pub fs : List File
  pub so : AreRecovered directories queue old cur (take i names) fs
  pub fd : ℕ
  pub there : IsFileOf cur directories queue (get_or names i no_name) fd
  pub id : FileId
  pub id_is : id ≡ id_of queue (get_or names i no_name).seq

-- the opening changed nothing
abbrev pub turn_of : (old : Disk) → IsNamed old → RecoveryMode → (queue : LogQueue) (directories : List (String Global)) (names : List FileName) → AreNumbered (length directories) names → (i : ℕ) → i < length names → (at cur : Disk) (fs : List File) (fd : ℕ) (id : FileId) → cur ≡ at
    → AreRecovered (map string_bytes directories) queue old at (take i names) fs → IsFileOf at (map string_bytes directories) queue (get_or names i no_name) fd → id ≡ id_of queue (get_or names i no_name).seq → Turn
turn_of old named mode queue directories names are i lt at cur fs fd id kept so there is = record {
  mode = mode;
  directories = map string_bytes directories;
  queue = queue;
  count = length directories;
  names = names;
  are = are;
  i = i;
  lt = lt;
  old = old;
  named = named;
  cur = cur;
  fs = fs;
  so = subst (λ (x : Disk). AreRecovered (map string_bytes directories) queue old x (take i names) fs) (sym kept) so;
  fd = fd;
  there = subst (λ (x : Disk). IsFileOf x (map string_bytes directories) queue (get_or names i no_name) fd) (sym kept) there;
  id = id;
  id_is = is;
}

module _ (t : Turn) where
  abbrev here : FileName
  here = get_or t.names t.i no_name

  -- what follows where the mode refuses the fault of the file
  abbrev pub Refuses : ℕ → Type 0 → Type 0
  Refuses n P = (f : CorruptionFault) → fault_in t.id (t.cur.file t.fd).bytes ≡ Some f → cuts_faults t.mode (n + 1 == length t.names) ≡ false → P

  refused_so : (n : ℕ) (P : Type 0) → Refuses n P → IsRefusedHere t.mode (id_of t.queue here.seq) (t.cur.file t.fd).bytes (n + 1 == length t.names) → P
  refused_so n P refuses r = refuses r.fault (ap (λ (x : FileId). fault_in x (t.cur.file t.fd).bytes) t.id_is ∙ r.is) r.refused

  -- ---- the recovery of the file was refused

  stopped_here : (new : Disk) → IsStopped t.cur new t.id t.fd → IsStopped t.cur new (id_of t.queue here.seq) t.fd
  stopped_here new stopped = subst (λ (x : FileId). IsStopped t.cur new x t.fd) t.id_is stopped

  pub stopped_only : (new : Disk) → IsStopped t.cur new t.id t.fd → OnlyChanges t.directories t.queue t.names t.old new
  stopped_only new stopped = only_within t.mode t.directories t.queue t.count t.old t.names t.named t.are t.i no_name t.lt t.cur new t.fs t.fd t.so t.there (stopped_here new stopped)

  pub stopped_left : (new : Disk) → IsStopped t.cur new t.id t.fd → AreLeft t.directories t.queue t.names t.old new
  stopped_left new stopped = left_stopped t.mode t.directories t.queue t.count t.old t.names t.named t.are t.i no_name t.lt t.cur new t.fs t.fd t.so t.there (stopped_here new stopped)

  pub stopped_alike : (new : Disk) → IsStopped t.cur new t.id t.fd → AreReadAlike t.directories t.queue t.names t.old new
  stopped_alike new stopped = alike_stopped t.mode t.directories t.queue t.count t.old t.names t.named t.are t.i no_name t.lt t.cur new t.fs t.fd t.so t.there (stopped_here new stopped)

  pub stopped_kept : (new : Disk) (n : ℕ) → n ≡ t.i → IsStopped t.cur new t.id t.fd → Refuses n (new ≡ t.cur) → NoneRefused t.mode t.directories t.queue t.names t.old t.i → KeepsRefused t.mode t.directories t.queue t.names t.old new
  stopped_kept new n is stopped refuses none =
      kept_stopped t.mode t.directories t.queue t.count t.old t.names t.named t.are t.i no_name t.lt t.cur new t.fs t.fd n _ is refl t.so t.there (stopped_here new stopped) (refused_so n (new ≡ t.cur) refuses) none

  -- ---- the file was recovered

  pub is_file : IsNoFile t.cur t.fd → ⊥
  is_file = file_is t.cur t.directories t.queue here t.fd t.there

  -- the file as it is open
  abbrev pub file_at : Fd → LogFileFormat → File
  file_at handle format = record { seq = here.seq; handle = handle; format = format; path_id = here.path_id; reserved = false }

  pub record IsDone (f : File) (new : Disk) : Type 0 where
    pub seq : f.seq ≡ here.seq
    pub place : f.path_id ≡ here.path_id
    pub handle : f.handle.0 ≡ t.fd
    pub repaired : IsRepaired t.cur new t.id f.handle.0
    pub format : f.format ≡ format_in (t.cur.file f.handle.0).bytes
    pub fits : AreBytes (t.cur.file f.handle.0).bytes

  pub done_of : (handle : Fd) (format : LogFileFormat) (new : Disk) → handle.0 ≡ t.fd → IsRepaired t.cur new t.id handle.0 → format ≡ format_in (t.cur.file handle.0).bytes → AreBytes (t.cur.file handle.0).bytes → IsDone (file_at handle format) new
  done_of handle format new same repaired reads fits = record { seq = refl; place = refl; handle = same; repaired = repaired; format = reads; fits = fits }

  module _ (f : File) (new : Disk) (done : IsDone f new) where
    step : IsStep t.directories t.queue t.cur new here f
    step = record {
      opened = record { seq = done.seq; place = done.place; there = subst (λ n. IsFileOf t.cur t.directories t.queue here n) (sym done.handle) t.there };
      repaired = subst (λ (x : FileId). IsRepaired t.cur new x f.handle.0) t.id_is done.repaired;
      format = done.format;
      fits = done.fits;
    }

    pub done_recovered : AreRecovered t.directories t.queue t.old new (take (t.i + 1) t.names) (t.fs ++ f ∷ [])
    done_recovered = step_recovered t.mode t.directories t.queue t.count t.old t.names t.named t.are t.i no_name t.lt t.cur new t.fs f t.so step

    pub done_only : OnlyChanges t.directories t.queue t.names t.old new
    done_only = only_between t.mode t.directories t.queue t.count t.old t.names t.named t.are new new (t.i + 1) (t.fs ++ f ∷ []) refl done_recovered

    pub done_left : AreLeft t.directories t.queue t.names t.old new
    done_left = left_at t.mode t.directories t.queue t.count t.old t.names t.named t.are new new (t.i + 1) (t.fs ++ f ∷ []) refl done_recovered

    pub done_alike : AreReadAlike t.directories t.queue t.names t.old new
    done_alike = alike_at t.mode t.directories t.queue t.count t.old t.names t.named t.are new new (t.i + 1) (t.fs ++ f ∷ []) refl done_recovered

    pub done_none : (n : ℕ) → n ≡ t.i → Refuses n ⊥ → NoneRefused t.mode t.directories t.queue t.names t.old t.i → NoneRefused t.mode t.directories t.queue t.names t.old (t.i + 1)
    done_none n is refuses none = step_none t.mode t.directories t.queue t.count t.old t.names t.named t.are t.i no_name t.lt t.cur t.fs t.fd n _ is refl t.so t.there (refused_so n ⊥ refuses) none

    pub done_kept : (n : ℕ) → n ≡ t.i → Refuses n ⊥ → NoneRefused t.mode t.directories t.queue t.names t.old t.i → KeepsRefused t.mode t.directories t.queue t.names t.old new
    done_kept n is refuses none =
        kept_at t.mode t.directories t.queue t.count t.old t.names t.named t.are new new (t.i + 1) (t.fs ++ f ∷ []) (omega (arith, t.lt)) refl done_recovered (done_none n is refuses none)

    pub done_replays : (P Q R : List Placed → Type 0) → Replays P Q t.queue t.cur t.fs
        → ((placed : List Placed) → Q placed → (more : List Placed) × R (placed ++ more) × ArePlaced t.id (new.file f.handle.0).bytes (batches_in t.id (t.cur.file f.handle.0).bytes) more)
        → Replays P R t.queue new (t.fs ++ f ∷ [])
    done_replays P Q R before next =
        step_replays t.mode t.directories t.queue t.count t.old t.names t.named t.are t.i no_name t.lt P Q R t.cur new t.fs f t.so step before
        (subst (λ (x : FileId). (placed : List Placed) → Q placed → (more : List Placed) × R (placed ++ more) × ArePlaced x (new.file f.handle.0).bytes (batches_in x (t.cur.file f.handle.0).bytes) more) t.id_is next)
