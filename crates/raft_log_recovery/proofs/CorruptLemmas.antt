-- Where an opening answers Corruption.
use Rattle.std.proofs.Common.{◌≡◌, ℕ, ◌+◌, ◌≤◌, inl, inr, Bool, true, false, cond, not, nat_lt, eqb, List, [], ◌∷◌, ◌++◌, length, get_or, take, drop, Some, Result, Ok, Err, refl, sym, ap, subst, ◌∙◌, arith, length-drop}
use Rattle.std.specs.Prelude.{IsErrAnd, ◌==◌, ◌&&◌}
use Rattle.std.specs.Int.{w64, from_be_bytes}
use Rattle.std.specs.List.{AllByRecursion, list_all}
use Rattle.std.proofs.lemmas.Bool.{eqb-false, ltb-false}
use Rattle.std.proofs.lemmas.Result.{err_from_is_err_and}
use Rattle.raft_log_records.specs.declared.file_id.FileId.{FileId}
use Rattle.raft_log_records.specs.declared.file_id.LogQueue.{LogQueue}
use Rattle.raft_log_records.specs.declared.version.Version.TheVariants.{V1, V2}
use Rattle.raft_log_disk.specs.declared.format.LogFileFormat.{LogFileFormat}
use Rattle.raft_log_disk.specs.declared.format.HeaderFault.{HeaderFault}
use Rattle.raft_log_disk.specs.declared.format.HeaderFault.TheVariants.{CutShort, NoHeader, BadVersion}
use Rattle.raft_log_disk.specs.Cause.{Meter}
use Rattle.raft_log_disk.specs.Disk.{Disk, FileState, IsNamed}
use Rattle.raft_log_disk.specs.Format.{header_at, header_len, magic}
use Rattle.raft_log_disk.specs.Text.{Text, same_text}
use Rattle.raft_log_file.specs.Errors.{IsOpenFault, IsReadFault}
use Rattle.raft_log_files.specs.declared.error.CorruptionFault.{CorruptionFault}
use Rattle.raft_log_files.specs.declared.error.Error.{Error}
use Rattle.raft_log_files.specs.declared.error.Error.TheVariants.{Corruption, Memory}
use Rattle.raft_log_files.specs.declared.recovery.RecoveryMode.{RecoveryMode}
use Rattle.raft_log_pipe.specs.declared.file.File.{File}
use Rattle.raft_log_pipe.specs.Others.{KeepsOthers}
use Rattle.raft_log_pipe.specs.Pipe.{id_of}
use Rattle.raft_log_pipes.specs.Pipes.{other_queue}
use Rattle.raft_log_recovery.specs.declared.builder.DualPipesBuilder.{DualPipesBuilder}
use Rattle.raft_log_recovery.specs.declared.scan.FileKind.TheVariants.{Log}
use Rattle.raft_log_recovery.specs.declared.scan.FileName.{FileName}
use Rattle.raft_log_recovery.specs.Both.{CantBeOpened, IsFoundBy}
use Rattle.raft_log_recovery.specs.Opening.{AnyAligned}
use Rattle.raft_log_recovery.specs.Queue.{AnyRefused, AreNumbered, AreOpen, AreRecovered, IsFileOf, IsRecovered, directories_in, names_in}
use Rattle.raft_log_recovery.specs.Repair.{cuts_faults, fault_in, format_in}
use Rattle.raft_log_recovery.proofs.BesideLemmas.{HaveSame, aligned_same, have_beside, refused_same, turned}
use Rattle.raft_log_recovery.proofs.BothLemmas.{apart_from}
use Rattle.raft_log_recovery.proofs.FoundLemmas.{found_numbered}
use Rattle.raft_log_recovery.proofs.QueueLemmas.{last_told, of_old, place_at, untouched}
use Rattle.raft_log_recovery.proofs.TurnLemmas.{Turn}

-- what a `?` passes on is Corruption where that was
pub passed_on : {T : Type 0} (P : CorruptionFault → Type 0) (e : Error) (r : Result T Error) → IsErrAnd r (λ y. y ≡ e) → ((f : CorruptionFault) → e ≡ Corruption f → P f) → (f : CorruptionFault) → r ≡ Err (Corruption f) → P f
passed_on P e r is told f corrupt = let p = err_from_is_err_and r is in told f (cc (p.1, p.2, corrupt))

-- want of memory isn't
pub memory_sound : {T : Type 0} (P : CorruptionFault → Type 0) (r : Result T Error) → IsErrAnd r (λ y. y ≡ Memory) → (f : CorruptionFault) → r ≡ Err (Corruption f) → P f
memory_sound P r is f corrupt = let p = err_from_is_err_and r is in let same : Memory ≡ Corruption f = cc (p.1, p.2, corrupt) in absurd cc

-- ---- one file

-- a read is refused for other reasons
read_sound : (d : Disk) (meter : Meter) (fd : ℕ) (f : CorruptionFault) → IsReadFault d meter fd (Corruption f) → ⊥
read_sound d meter fd f (inl is) = absurd cc
read_sound d meter fd f (inr (inl refused)) = let is = refused.0 in absurd cc
read_sound d meter fd f (inr (inr gone)) = let is = gone.0 in absurd cc

guarded : (b : Bool) (d : HeaderFault) (r : Result LogFileFormat HeaderFault) (f : LogFileFormat) → cond b (Err d) r ≡ Ok f → (b ≡ false) × (r ≡ Ok f)
guarded true d r f is = absurd cc
guarded false d r f is = (refl, is)

version_long : (b : Bool) (v : ℕ) (rest : List ℕ) (f : LogFileFormat)
    → cond b (Ok (record { version = V1; alignment = 0 })) (cond (not (eqb v 2)) (Err BadVersion)
    (cond (nat_lt (length rest) 8) (Err CutShort) (Ok (record { version = V2; alignment = from_be_bytes w64 (take 8 rest) })))) ≡ Ok f
    → header_len f.version ≤ 61 + length rest
version_long true v rest f is =
    let first : LogFileFormat = record { version = V1; alignment = 0 } in
    let same : first ≡ f = cc in
    subst (λ (g : LogFileFormat). header_len g.version ≤ 61 + length rest) same (omega arith)
version_long false v rest f is =
    let g = guarded (not (eqb v 2)) BadVersion _ f is in
    let h = guarded (nat_lt (length rest) 8) CutShort _ f g.1 in
    let second : LogFileFormat = record { version = V2; alignment = from_be_bytes w64 (take 8 rest) } in
    let same : second ≡ f = cc h.1 in
    subst (λ (g : LogFileFormat). header_len g.version ≤ 61 + length rest) same (omega (arith, ltb-false _ _ h.0))

header_long : (bytes : List ℕ) (format : LogFileFormat) → header_at bytes ≡ Ok format → header_len format.version ≤ length bytes
header_long bytes format is =
    let g = guarded (nat_lt (length bytes) 61) CutShort _ format is in
    let h = guarded (not (same_text (take 53 bytes) magic)) NoHeader _ format g.1 in
    omega (arith, ltb-false _ _ g.0, version_long _ (from_be_bytes w64 (take 8 (drop 53 bytes))) (drop 61 bytes) format h.1, length-drop 61 bytes)

-- a file with a header is long enough for it
pub open_sound : (d : Disk) (meter : Meter) (fd : ℕ) (format : LogFileFormat) (f : CorruptionFault) → header_at (d.file fd).bytes ≡ Ok format → IsOpenFault d meter fd format (Corruption f) → ⊥
open_sound d meter fd format f is (inl short) = omega (arith, short.1, header_long (d.file fd).bytes format is)
open_sound d meter fd format f is (inr read) = read_sound d meter fd f read

-- ---- the files of a queue

-- the file whose turn it is has a fault that the mode refuses
pub refused_at : (t : Turn) (n : ℕ) (f : CorruptionFault) → n ≡ t.i → (fault_in t.id (t.cur.file t.fd).bytes ≡ Some f) × (cuts_faults t.mode (n + 1 == length t.names) ≡ false) → AnyRefused t.mode t.directories t.queue t.names t.old
refused_at t n f is (fault, refuses) =
    let here : FileName = get_or t.names t.i (record { seq = 0; path_id = 0 }) in
    let done : List FileName = take t.i t.names in
    let behind : List FileName = drop (t.i + 1) t.names in
    let whole : done ++ here ∷ behind ≡ t.names = place_at t.names t.i (record { seq = 0; path_id = 0 }) t.lt in
    let there : IsFileOf t.old t.directories t.queue here t.fd = of_old t.directories t.queue done t.old t.cur here t.fd t.so.only t.there in
    let same : t.cur.file t.fd ≡ t.old.file t.fd
    = untouched t.directories t.queue t.count t.old t.cur done (here ∷ behind) here t.fd t.named (subst (AreNumbered t.count) (sym whole) t.are) t.so.only (inl refl) there in
    let len : length t.names ≡ t.i + (length behind + 1) = omega (arith, length-drop (t.i + 1) t.names, t.lt) in
    let last : (n + 1 == length t.names) ≡ (length behind == 0) = (λ j. is j + 1 == len j) ∙ last_told t.i (length behind) in (
      done,
      here,
      behind,
      sym whole,
      (
        t.fd,
        f,
        there,
        ap (λ (x : FileState). fault_in (id_of t.queue here.seq) x.bytes) (sym same) ∙ ap (λ (x : FileId). fault_in x (t.cur.file t.fd).bytes) (sym t.id_is) ∙ fault,
        ap (cuts_faults t.mode) (sym last) ∙ refuses,
      ),
    )

both_hold : (a b : Bool) → (a && b) ≡ false → a ≡ true → b ≡ false
both_hold true b is holds = is
both_hold false b is holds = absurd cc

aligned_in : (d : Disk) (directories : List Text) (queue : LogQueue) (names : List FileName) (fs : List File) → AreOpen d directories queue names fs → AllByRecursion (λ (f : File). f.format ≡ format_in (d.file f.handle.0).bytes) fs
    → list_all (λ f. f.format.alignment == 0) fs ≡ false → AnyAligned directories queue names d
aligned_in d directories queue [] fs none each any = absurd (let all = subst (λ (l : List File). list_all (λ f. f.format.alignment == 0) l ≡ false) none any in cc)
aligned_in d directories queue (name ∷ names) fs (f, rest, is, here, others) each any = by_test (f.format.alignment == 0) refl (aligned_in d directories queue names rest others every.1)
  where
    every : AllByRecursion (λ (g : File). g.format ≡ format_in (d.file g.handle.0).bytes) (f ∷ rest)
    every = subst (AllByRecursion (λ (g : File). g.format ≡ format_in (d.file g.handle.0).bytes)) is each

    some : list_all (λ g. g.format.alignment == 0) (f ∷ rest) ≡ false
    some = subst (λ (l : List File). list_all (λ g. g.format.alignment == 0) l ≡ false) is any

    by_test : (b : Bool) → (f.format.alignment == 0) ≡ b → (list_all (λ g. g.format.alignment == 0) rest ≡ false → AnyAligned directories queue names d) → AnyAligned directories queue (name ∷ names) d
    by_test false zero_not behind = (name, f.handle.0, inl refl, here.there, λ plain. eqb-false f.format.alignment 0 zero_not (ap (λ (x : LogFileFormat). x.alignment) every.0 ∙ plain))
    by_test true is_zero behind =
        let r = behind (both_hold (f.format.alignment == 0) (list_all (λ g. g.format.alignment == 0) rest) some is_zero) in
        (r.0, r.1, inr r.2, r.3, r.4)

headers_each : (queue : LogQueue) (old mid : Disk) (fs : List File) → AllByRecursion (IsRecovered queue old mid) fs → AllByRecursion (λ (f : File). f.format ≡ format_in (old.file f.handle.0).bytes) fs
headers_each queue old mid [] each = tt
headers_each queue old mid (f ∷ fs) each = (each.0.header, headers_each queue old mid fs each.1)

-- one of the files that were recovered has an alignment
pub any_aligned : (directories : List Text) (queue : LogQueue) (old mid : Disk) (names : List FileName) (fs : List File) → AreRecovered directories queue old mid names fs → list_all (λ f. f.format.alignment == 0) fs ≡ false
    → AnyAligned directories queue names old
any_aligned directories queue old mid names fs so any = aligned_in old directories queue names fs so.opened (headers_each queue old mid fs so.each) any

-- ---- both queues

-- what can't be opened of the other queue behind an opening of the first couldn't before
pub cant_before : (mode : RecoveryMode) (b : DualPipesBuilder) (first : LogQueue) (d mid : Disk) → IsNamed d → IsNamed mid → IsFoundBy b (other_queue first) d → KeepsOthers first d mid → CantBeOpened mode b (other_queue first) mid
    → CantBeOpened mode b (other_queue first) d
cant_before mode b first d mid old between found earlier cant = by_reason cant
  where
    numbers : AreNumbered (length (directories_in b)) (names_in b (other_queue first))
    numbers = found_numbered d (Log (other_queue first)) (directories_in b) (length (directories_in b)) (names_in b (other_queue first)) (omega arith) found

    back : HaveSame (other_queue first) mid d
    back = turned (other_queue first) d mid (have_beside first (other_queue first) d mid (apart_from first) old between earlier)

    by_reason : CantBeOpened mode b (other_queue first) mid → CantBeOpened mode b (other_queue first) d
    by_reason (inl refused) = inl (refused_same (other_queue first) mid d back between old mode (directories_in b) (length (directories_in b)) (names_in b (other_queue first)) numbers refused)
    by_reason (inr aligned) = inr (aligned_same (other_queue first) mid d back between old (directories_in b) (length (directories_in b)) (names_in b (other_queue first)) numbers aligned)
