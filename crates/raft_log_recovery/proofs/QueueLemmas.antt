-- Files of a queue that are recovered one after the other.
use Rattle.std.proofs.Common.{◌≡◌, ◌≢◌, ◌⊎◌, inl, inr, ⊎_elim, ℕ, suc, ◌+◌, ◌<◌, ◌≤◌, Bool, true, false, List, [], ◌∷◌, ◌++◌, length, get_or, take, drop, Some, None, Result, Ok, Err, refl, sym, ap, subst, ◌∙◌, append_assoc, arith, drop-cons, length-append, length-take, take-append-drop}
use Rattle.std.specs.Prelude.{MatchResult, ◌==◌}
use Rattle.std.specs.List.{AllByRecursion}
use Rattle.std.proofs.lemmas.Bool.{cases_lt, eq-eqb, eqb-true, eqb-false, ne_eqb}
use Rattle.std.proofs.lemmas.List.{append-nil, take_more}
use Rattle.raft_log_records.specs.declared.file_id.FileId.{FileId}
use Rattle.raft_log_records.specs.declared.file_id.LogQueue.{LogQueue}
use Rattle.raft_log_records.proofs.Sound.{each_push}
use Rattle.raft_log_disk.specs.declared.format.HeaderFault.{HeaderFault}
use Rattle.raft_log_disk.specs.Text.{Text}
use Rattle.raft_log_disk.specs.Disk.{AreBytes, Disk, FileState, IsIn, IsNamed, IsNoFile, fd_of, with_file}
use Rattle.raft_log_disk.specs.Format.{header_at}
use Rattle.raft_log_disk.proofs.DiskLemmas.{number_in, still_is_left}
use Rattle.raft_log_files.specs.declared.error.CorruptionFault.{CorruptionFault}
use Rattle.raft_log_files.specs.declared.recovery.RecoveryMode.{RecoveryMode}
use Rattle.raft_log_files.specs.FileName.{IsFileSeq, log_file_name}
use Rattle.raft_log_file.specs.Reading.{FileBatch, Reading, file_reading}
use Rattle.raft_log_pipe.specs.declared.file.File.{File}
use Rattle.raft_log_pipe.specs.Pipe.{IsNamedSo, id_of}
use Rattle.raft_log_pipe.proofs.AloneLemmas.{found_in, in_either, in_first, in_second}
use Rattle.raft_log_pipe.proofs.NextLemmas.{path_says}
use Rattle.raft_log_pipe.proofs.OpenLemmas.{named_apart}
use Rattle.raft_log_pipe.proofs.PipeLemmas.{changes, file_beside, file_there}
use Rattle.raft_log_pipe.proofs.PurgeLemmas.{same_number}
use Rattle.raft_log_recovery.specs.declared.scan.FileName.{FileName}
use Rattle.raft_log_recovery.specs.Repair.{IsAtRest, IsRepaired, IsStopped, IsWhole, LeavesBatches, batches_in, cuts_faults, fault_in, format_in}
use Rattle.raft_log_recovery.specs.Replay.{ArePlaced, Placed}
use Rattle.raft_log_recovery.specs.Queue.{AnyRefused, AreLeft, AreNumbered, AreOpen, AreReadAlike, AreRecovered, AreReplayed, HasRefused, IsFileOf, IsFollowed, IsOpen, IsRecovered, KeepsRefused, OnlyChanges, path_of}
use Rattle.raft_log_recovery.proofs.RepairLemmas.{batches_by, blank_front, format_front, leaves_same}

-- ---- names

-- a file that was found is named so
pub file_named : (d : Disk) (directories : List Text) (queue : LogQueue) (name : FileName) (fd : ℕ) → IsFileSeq name.seq → IsFileOf d directories queue name fd → IsNamedSo d (id_of queue name.seq) fd
file_named d directories queue name fd below there = (
  path_of directories queue name,
  found_in d.names (path_of directories queue name) fd there,
  path_says (get_or directories name.path_id []) (log_file_name (id_of queue name.seq)) (path_of directories queue name) (id_of queue name.seq) below refl refl,
)

pub file_is : (d : Disk) (directories : List Text) (queue : LogQueue) (name : FileName) (fd : ℕ) → IsFileOf d directories queue name fd → IsNoFile d fd → ⊥
file_is d directories queue name fd there none = none (number_in d.names (path_of directories queue name) fd there)

pub in_middle : (before behind : List FileName) (name : FileName) → IsIn name (before ++ name ∷ behind)
in_middle [] behind name = inl refl
in_middle (n ∷ before) behind name = inr (in_middle before behind name)

-- numbers rise
later : (count : ℕ) (name : FileName) (names : List FileName) → IsFollowed name names → AreNumbered count names → (other : FileName) → IsIn other names → name.seq < other.seq
later count name [] follows are other there = absurd there
later count name (n ∷ names) follows are other (inl is) = omega (arith, follows, ap (λ (f : FileName). f.seq) is)
later count name (n ∷ names) follows are other (inr there) = omega (arith, follows, later count n names are.2 are.3 other there)

earlier : (count : ℕ) (before behind : List FileName) → AreNumbered count (before ++ behind) → (other name : FileName) → IsIn other before → IsIn name behind → other.seq < name.seq
earlier count [] behind are other name there here = absurd there
earlier count (n ∷ before) behind are other name (inl is) here =
    omega (arith, ap (λ (f : FileName). f.seq) is, later count n (before ++ behind) are.2 are.3 name (in_second name before behind here))
earlier count (n ∷ before) behind are other name (inr there) here = earlier count before behind are.3 other name there here

pub number_of : (count : ℕ) (names : List FileName) → AreNumbered count names → (name : FileName) → IsIn name names → IsFileSeq name.seq × (name.path_id < count)
number_of count [] are name there = absurd there
number_of count (n ∷ names) are name (inl is) = (omega (arith, are.0, ap (λ (f : FileName). f.seq) is), omega (arith, are.1, ap (λ (f : FileName). f.path_id) is))
number_of count (n ∷ names) are name (inr there) = number_of count names are.3 name there

-- no file of one of the first names is one of the names behind them
apart : (d : Disk) (directories : List Text) (queue : LogQueue) (count : ℕ) (before behind : List FileName) (other name : FileName) (n fd : ℕ) → IsNamed d → AreNumbered count (before ++ behind) → IsIn other before → IsIn name behind
    → IsFileOf d directories queue other n → IsFileOf d directories queue name fd → n ≢ fd
apart d directories queue count before behind other name n fd named are there here one two same =
    let below = earlier count before behind are other name there here in
    let first = file_named d directories queue other n (number_of count (before ++ behind) are other (in_first other before behind there)).0 one in
    let last = file_named d directories queue name fd (number_of count (before ++ behind) are name (in_second name before behind here)).0 two in
    absurd (omega (arith, below, named_apart d queue other.seq name.seq fd named (subst (IsNamedSo d (id_of queue other.seq)) same first) last))

-- ---- what is whole

abbrev ReadsWhole : List ℕ → List FileBatch → Result Reading HeaderFault → Type 0
ReadsWhole bytes batches r = MatchResult r (λ x. (x.batches ≡ batches) × (x.fault ≡ None) × (x.to ≡ length bytes)) (λ _. (batches ≡ []) × (bytes ≡ []))

pub whole_batches : (id : FileId) (g : FileState) (batches : List FileBatch) → IsWhole id g batches → batches_in id g.bytes ≡ batches
whole_batches id g batches whole = by_reading (file_reading id g.bytes) whole.reads
  where
    by_reading : (r : Result Reading HeaderFault) → ReadsWhole g.bytes batches r → batches_by r ≡ batches
    by_reading (Ok x) reads = reads.0
    by_reading (Err e) reads = sym reads.0

whole_leaves : (id : FileId) (g : FileState) (batches : List FileBatch) → IsWhole id g batches → LeavesBatches id g batches
whole_leaves id g batches whole bytes image genuine = ap (batches_in id) (still_is_left g bytes whole.still image) ∙ whole_batches id g batches whole

-- ---- files that are open

-- what holds of the file of each name holds of each file
open_each : (P : File → Type 0) (d : Disk) (directories : List Text) (queue : LogQueue) (names : List FileName) (fs : List File) → AreOpen d directories queue names fs
    → ((name : FileName) (f : File) → IsIn name names → IsOpen d directories queue name f → P f) → (f : File) → IsIn f fs → P f
open_each P d directories queue [] fs are each f there = absurd (subst (IsIn f) are there)
open_each P d directories queue (name ∷ names) fs (first, rest, is, here, others) each f there = ⊎_elim
    (λ same. subst P (sym same) (each name first (inl refl) here))
    (λ behind. open_each P d directories queue names rest others (λ other g among opened. each other g (inr among) opened) f behind)
    (subst (IsIn f) is there)

-- each name has its file
pub open_file_of : (P : File → Type 0) (d : Disk) (directories : List Text) (queue : LogQueue) (names : List FileName) (fs : List File) (name : FileName) → AreOpen d directories queue names fs → AllByRecursion P fs → IsIn name names
    → (f : File) × IsOpen d directories queue name f × P f
open_file_of P d directories queue [] fs name are all there = absurd there
open_file_of P d directories queue (n ∷ names) fs name (first, rest, is, here, others) all (inl same) =
    (first, subst (λ (x : FileName). IsOpen d directories queue x first) (sym same) here, (subst (AllByRecursion P) is all).0)
open_file_of P d directories queue (n ∷ names) fs name (first, rest, is, here, others) all (inr there) = open_file_of P d directories queue names rest name others (subst (AllByRecursion P) is all).1 there

open_push : (d : Disk) (directories : List Text) (queue : LogQueue) (names : List FileName) (fs : List File) (name : FileName) (f : File) → AreOpen d directories queue names fs → IsOpen d directories queue name f
    → AreOpen d directories queue (names ++ name ∷ []) (fs ++ f ∷ [])
open_push d directories queue [] fs name f none here = (f, [], ap (λ (l : List File). l ++ f ∷ []) none, here, refl)
open_push d directories queue (n ∷ names) fs name f (first, rest, is, one, others) here = (first, rest ++ f ∷ [], ap (λ (l : List File). l ++ f ∷ []) is, one, open_push d directories queue names rest name f others here)

recovered_on : (queue : LogQueue) (old cur new : Disk) (fs : List File) → ((f : File) → IsIn f fs → new.file f.handle.0 ≡ cur.file f.handle.0) → AllByRecursion (IsRecovered queue old cur) fs → AllByRecursion (IsRecovered queue old new) fs
recovered_on queue old cur new [] same all = tt
recovered_on queue old cur new (f ∷ fs) same all =
    let here : cur.file f.handle.0 ≡ new.file f.handle.0 = sym (same f (inl refl)) in (
      record {
        header = all.0.header;
        whole = subst (λ (x : FileState). IsWhole (id_of queue f.seq) x (batches_in (id_of queue f.seq) (old.file f.handle.0).bytes)) here all.0.whole;
        format = all.0.format ∙ ap (λ (x : FileState). format_in x.bytes) here;
        blank = λ none. all.0.blank (ap (λ (x : FileState). x.bytes) here ∙ none);
      },
      recovered_on queue old cur new fs (λ g there. same g (inr there)) all.1,
    )

-- ---- one file more

-- what a step of the recovery makes of the disk
pub record IsStep (directories : List Text) (queue : LogQueue) (cur new : Disk) (name : FileName) (f : File) : Type 0 where
  pub opened : IsOpen cur directories queue name f
  pub repaired : IsRepaired cur new (id_of queue name.seq) f.handle.0
  pub format : f.format ≡ format_in (cur.file f.handle.0).bytes
  pub fits : AreBytes (cur.file f.handle.0).bytes

-- names are as they were
pub of_old : (directories : List Text) (queue : LogQueue) (names : List FileName) (old cur : Disk) (name : FileName) (fd : ℕ) → OnlyChanges directories queue names old cur → IsFileOf cur directories queue name fd → IsFileOf old directories queue name fd
of_old directories queue names old cur name fd only there = ap (λ (l : List (Text × ℕ)). fd_of l (path_of directories queue name)) (sym only.names_stay) ∙ there

-- no file of the names behind has changed
pub untouched : (directories : List Text) (queue : LogQueue) (count : ℕ) (old cur : Disk) (done behind : List FileName) (name : FileName) (fd : ℕ) → IsNamed old → AreNumbered count (done ++ behind) → OnlyChanges directories queue done old cur
    → IsIn name behind → IsFileOf old directories queue name fd → cur.file fd ≡ old.file fd
untouched directories queue count old cur done behind name fd named are only here there =
    only.files fd (λ other among of. apart old directories queue count done behind other name fd fd named are among here of there refl)

changed_more : (directories : List Text) (queue : LogQueue) (old cur new : Disk) (done : List FileName) (name : FileName) (fd : ℕ) (state : FileState) → OnlyChanges directories queue done old cur → IsFileOf old directories queue name fd
    → new ≡ with_file cur fd state → OnlyChanges directories queue (done ++ name ∷ []) old new
changed_more directories queue old cur new done name fd state only there is = record {
  directories_stay = ap (λ (d : Disk). d.directories) is ∙ only.directories_stay;
  names_stay = ap (λ (d : Disk). d.names) is ∙ only.names_stay;
  next = ap (λ (d : Disk). d.next) is ∙ only.next;
  files = λ n none.
      file_beside cur new fd n (changes cur new fd state is) (λ same. none name (in_middle done [] name) (subst (IsFileOf old directories queue name) (sym same) there))
      ∙ only.files n (λ other among. none other (in_first other done (name ∷ []) among));
}

pub changed_none : (directories : List Text) (queue : LogQueue) (d e : Disk) → e ≡ d → OnlyChanges directories queue [] d e
changed_none directories queue d e is = record {
  directories_stay = ap (λ (x : Disk). x.directories) is;
  names_stay = ap (λ (x : Disk). x.names) is;
  next = ap (λ (x : Disk). x.next) is;
  files = λ fd none. ap (λ (x : Disk). x.file fd) is;
}

changed_front : (directories : List Text) (queue : LogQueue) (old new : Disk) (done behind : List FileName) → OnlyChanges directories queue done old new → OnlyChanges directories queue (done ++ behind) old new
changed_front directories queue old new done behind only = record {
  directories_stay = only.directories_stay;
  names_stay = only.names_stay;
  next = only.next;
  files = λ fd none. only.files fd (λ other among. none other (in_first other done behind among));
}

-- a step recovers its file, which was as it was before
record IsStepped (directories : List Text) (queue : LogQueue) (old new : Disk) (name : FileName) (f : File) : Type 0 where
  pub opened : IsOpen old directories queue name f
  pub recovered : IsRecovered queue old new f

stepped : (directories : List Text) (queue : LogQueue) (count : ℕ) (old cur new : Disk) (done behind : List FileName) (name : FileName) (f : File) → IsNamed old → AreNumbered count (done ++ name ∷ behind)
    → OnlyChanges directories queue done old cur → IsStep directories queue cur new name f → IsStepped directories queue old new name f
stepped directories queue count old cur new done behind name f named are only step =
    let fd : ℕ = f.handle.0 in
    let there : IsFileOf old directories queue name fd = of_old directories queue done old cur name fd only step.opened.there in
    let same : cur.file fd ≡ old.file fd = untouched directories queue count old cur done (name ∷ behind) name fd named are only (inl refl) there in
    let now : new.file fd ≡ step.repaired.state = file_there cur new fd step.repaired.state step.repaired.files in
    let id : FileId = id_of queue name.seq in
    let whole : IsWhole id (new.file fd) (batches_in id (old.file fd).bytes) = subst (λ (x : FileState). IsWhole id x (batches_in id (old.file fd).bytes)) (sym now)
    (subst (λ (x : FileState). IsWhole id step.repaired.state (batches_in id x.bytes)) same step.repaired.whole) in
    record {
      opened = record { seq = step.opened.seq; place = step.opened.place; there = there };
      recovered = record {
        header = step.format ∙ ap (λ (x : FileState). format_in x.bytes) same;
        whole = subst (λ n. IsWhole (id_of queue n) (new.file fd) (batches_in (id_of queue n) (old.file fd).bytes)) (sym step.opened.seq) whole;
        format = step.format ∙ sym (format_front id (cur.file fd).bytes step.fits) ∙ ap format_in (sym (ap (λ (x : FileState). x.bytes) now ∙ step.repaired.front));
        blank = λ none. subst (λ (x : FileState). (e : HeaderFault) × (header_at x.bytes ≡ Err e)) same
            (blank_front id (cur.file fd).bytes step.fits (sym step.repaired.front ∙ ap (λ (x : FileState). x.bytes) (sym now) ∙ none));
      };
    }

-- the files before it stay
stay_before : (directories : List Text) (queue : LogQueue) (count : ℕ) (old cur new : Disk) (done behind : List FileName) (fs : List File) (name : FileName) (fd : ℕ) (state : FileState) → IsNamed old → AreNumbered count (done ++ name ∷ behind)
    → AreOpen old directories queue done fs → IsFileOf old directories queue name fd → new ≡ with_file cur fd state → (f : File) → IsIn f fs → new.file f.handle.0 ≡ cur.file f.handle.0
stay_before directories queue count old cur new done behind fs name fd state named are opened there is =
    open_each (λ f. new.file f.handle.0 ≡ cur.file f.handle.0) old directories queue done fs opened
    (λ other f among here. file_beside cur new fd f.handle.0 (changes cur new fd state is)
    (apart old directories queue count done (name ∷ behind) other name f.handle.0 fd named are among (inl refl) here.there there))

pub recovered_more : (directories : List Text) (queue : LogQueue) (count : ℕ) (old cur new : Disk) (done behind : List FileName) (fs : List File) (name : FileName) (f : File) → IsNamed old → AreNumbered count (done ++ name ∷ behind)
    → AreRecovered directories queue old cur done fs → IsStep directories queue cur new name f → AreRecovered directories queue old new (done ++ name ∷ []) (fs ++ f ∷ [])
recovered_more directories queue count old cur new done behind fs name f named are so step =
    let one = stepped directories queue count old cur new done behind name f named are so.only step in
    record {
      opened = open_push old directories queue done fs name f so.opened one.opened;
      each = each_push (IsRecovered queue old new) fs f
          (recovered_on queue old cur new fs (stay_before directories queue count old cur new done behind fs name f.handle.0 step.repaired.state named are so.opened one.opened.there step.repaired.files) so.each)
          one.recovered;
      only = changed_more directories queue old cur new done name f.handle.0 step.repaired.state so.only one.opened.there step.repaired.files;
    }

-- ---- replays

replayed_on : (queue : LogQueue) (cur new : Disk) (fs : List File) (f : File) (all more : List Placed) → ((g : File) → IsIn g fs → new.file g.handle.0 ≡ cur.file g.handle.0) → AreReplayed queue cur fs all
    → ArePlaced (id_of queue f.seq) (new.file f.handle.0).bytes (batches_in (id_of queue f.seq) (new.file f.handle.0).bytes) more → AreReplayed queue new (fs ++ f ∷ []) (all ++ more)
replayed_on queue cur new [] f all more same none last = (more, [], ap (λ (l : List Placed). l ++ more) none ∙ sym (append-nil more), last, refl)
replayed_on queue cur new (g ∷ fs) f all more same (first, rest, is, here, others) last = (
  first,
  rest ++ more,
  ap (λ (l : List Placed). l ++ more) is ∙ append_assoc first rest more,
  subst (λ (x : FileState). ArePlaced (id_of queue g.seq) x.bytes (batches_in (id_of queue g.seq) x.bytes) first) (sym (same g (inl refl))) here,
  replayed_on queue cur new fs f rest more (λ h there. same h (inr there)) others last,
)

-- what a machine has of files that were recovered: P had been replayed before, Q is now
abbrev pub Replays : (List Placed → Type 0) → (List Placed → Type 0) → LogQueue → Disk → List File → Type 0
Replays P Q queue d fs = (placed : List Placed) → P placed → (more : List Placed) × Q (placed ++ more) × AreReplayed queue d fs more

pub replays_nothing : (P : List Placed → Type 0) (queue : LogQueue) (d : Disk) → Replays P P queue d []
replays_nothing P queue d placed has = ([], subst P (sym (append-nil placed)) has, refl)

pub replays_file : (P Q R : List Placed → Type 0) (directories : List Text) (queue : LogQueue) (count : ℕ) (old cur new : Disk) (done behind : List FileName) (fs : List File) (name : FileName) (f : File) → IsNamed old
    → AreNumbered count (done ++ name ∷ behind) → AreRecovered directories queue old cur done fs → IsStep directories queue cur new name f → Replays P Q queue cur fs
    → ((placed : List Placed) → Q placed → (more : List Placed) × R (placed ++ more) × ArePlaced (id_of queue name.seq) (new.file f.handle.0).bytes (batches_in (id_of queue name.seq) (cur.file f.handle.0).bytes) more)
    → Replays P R queue new (fs ++ f ∷ [])
replays_file P Q R directories queue count old cur new done behind fs name f named are so step before next placed has =
    let s = before placed has in
    let t = next (placed ++ s.0) s.1 in
    let one = stepped directories queue count old cur new done behind name f named are so.only step in
    let fd : ℕ = f.handle.0 in
    let id : FileId = id_of queue name.seq in
    let now : new.file fd ≡ step.repaired.state = file_there cur new fd step.repaired.state step.repaired.files in
    let same : batches_in id (new.file fd).bytes ≡ batches_in id (cur.file fd).bytes = ap (λ (x : FileState). batches_in id x.bytes) now ∙ whole_batches id step.repaired.state (batches_in id (cur.file fd).bytes) step.repaired.whole in
    let last : ArePlaced id (new.file fd).bytes (batches_in id (new.file fd).bytes) t.0 = subst (λ (l : List FileBatch). ArePlaced id (new.file fd).bytes l t.0) (sym same) t.2 in (
      s.0 ++ t.0,
      subst R (append_assoc placed s.0 t.0) t.1,
      replayed_on queue cur new fs f s.0 t.0 (stay_before directories queue count old cur new done behind fs name fd step.repaired.state named are so.opened one.opened.there step.repaired.files) s.2
          (subst (λ n. ArePlaced (id_of queue n) (new.file fd).bytes (batches_in (id_of queue n) (new.file fd).bytes) t.0) (sym step.opened.seq) last),
    )

-- ---- refusals

-- a file of before is whole with the batches that it read as
pub left_bytes : (directories : List Text) (queue : LogQueue) (old cur : Disk) (done : List FileName) (fs : List File) (name : FileName) (fd : ℕ) → AreRecovered directories queue old cur done fs → IsIn name done → IsFileOf old directories queue name fd
    → batches_in (id_of queue name.seq) (old.file fd).bytes ≡ batches_in (id_of queue name.seq) (cur.file fd).bytes
left_bytes directories queue old cur done fs name fd so among there =
    let found = open_file_of (IsRecovered queue old cur) old directories queue done fs name so.opened so.each among in
    let same : found.0.handle.0 ≡ fd = same_number found.0.handle.0 fd (sym found.1.there ∙ there) in
    subst (λ n. batches_in (id_of queue name.seq) (old.file n).bytes ≡ batches_in (id_of queue name.seq) (cur.file n).bytes) same
    (subst (λ n. batches_in (id_of queue n) (old.file found.0.handle.0).bytes ≡ batches_in (id_of queue n) (cur.file found.0.handle.0).bytes) found.1.seq
    (sym (whole_batches (id_of queue found.0.seq) (cur.file found.0.handle.0) (batches_in (id_of queue found.0.seq) (old.file found.0.handle.0).bytes) found.2.whole)))

pub left_done : (directories : List Text) (queue : LogQueue) (old cur : Disk) (done : List FileName) (fs : List File) (name : FileName) (fd : ℕ) → AreRecovered directories queue old cur done fs → IsIn name done → IsFileOf old directories queue name fd
    → LeavesBatches (id_of queue name.seq) (cur.file fd) (batches_in (id_of queue name.seq) (old.file fd).bytes)
left_done directories queue old cur done fs name fd so among there =
    let found = open_file_of (IsRecovered queue old cur) old directories queue done fs name so.opened so.each among in
    let same : found.0.handle.0 ≡ fd = same_number found.0.handle.0 fd (sym found.1.there ∙ there) in
    subst (λ n. LeavesBatches (id_of queue name.seq) (cur.file n) (batches_in (id_of queue name.seq) (old.file n).bytes)) same
    (subst (λ n. LeavesBatches (id_of queue n) (cur.file found.0.handle.0) (batches_in (id_of queue n) (old.file found.0.handle.0).bytes)) found.1.seq
    (whole_leaves (id_of queue found.0.seq) (cur.file found.0.handle.0) (batches_in (id_of queue found.0.seq) (old.file found.0.handle.0).bytes) found.2.whole))

left_same : (id : FileId) (f g : FileState) → g ≡ f → IsAtRest f → LeavesBatches id g (batches_in id f.bytes)
left_same id f g same rest = subst (λ (x : FileState). LeavesBatches id x (batches_in id f.bytes)) (sym same) (leaves_same id f rest)

-- between two files
pub left_between : (directories : List Text) (queue : LogQueue) (count : ℕ) (old cur : Disk) (done behind : List FileName) (fs : List File) → IsNamed old → AreNumbered count (done ++ behind) → AreRecovered directories queue old cur done fs
    → AreLeft directories queue (done ++ behind) old cur
left_between directories queue count old cur done behind fs named are so name fd among there rest = elim (in_either name done behind among) [
  | inl before ↦ left_done directories queue old cur done fs name fd so before there
  | inr after ↦ left_same (id_of queue name.seq) (old.file fd) (cur.file fd) (untouched directories queue count old cur done behind name fd named are so.only after there) rest
]

alike_between : (directories : List Text) (queue : LogQueue) (count : ℕ) (old cur : Disk) (done behind : List FileName) (fs : List File) → IsNamed old → AreNumbered count (done ++ behind) → AreRecovered directories queue old cur done fs
    → AreReadAlike directories queue (done ++ behind) old cur
alike_between directories queue count old cur done behind fs named are so name fd among there = elim (in_either name done behind among) [
  | inl before ↦ sym (left_bytes directories queue old cur done fs name fd so before there)
  | inr after ↦ ap (λ (x : FileState). batches_in (id_of queue name.seq) x.bytes) (untouched directories queue count old cur done behind name fd named are so.only after there)
]

pub numbered_behind : (count : ℕ) (before behind : List FileName) → AreNumbered count (before ++ behind) → AreNumbered count behind
numbered_behind count [] behind are = are
numbered_behind count (n ∷ before) behind are = numbered_behind count before behind are.3

-- files behind one that was changed
kept_behind : (directories : List Text) (queue : LogQueue) (count : ℕ) (old cur new : Disk) (done behind : List FileName) (name : FileName) (fd : ℕ) (state : FileState) → IsNamed old → AreNumbered count (done ++ name ∷ behind)
    → OnlyChanges directories queue done old cur → IsFileOf old directories queue name fd → new ≡ with_file cur fd state → (other : FileName) (n : ℕ) → IsIn other behind → IsFileOf old directories queue other n → new.file n ≡ old.file n
kept_behind directories queue count old cur new done behind name fd state named are only is_old files other n after there =
    let away = apart old directories queue count (name ∷ []) behind name other fd n named (numbered_behind count done (name ∷ behind) are) (inl refl) after is_old there in
    file_beside cur new fd n (changes cur new fd state files) (λ e. away (sym e)) ∙ untouched directories queue count old cur done (name ∷ behind) other n named are only (inr after) there

-- within one
pub left_within : (directories : List Text) (queue : LogQueue) (count : ℕ) (old cur new : Disk) (done behind : List FileName) (fs : List File) (name : FileName) (fd : ℕ) → IsNamed old → AreNumbered count (done ++ name ∷ behind)
    → AreRecovered directories queue old cur done fs → IsFileOf cur directories queue name fd → IsStopped cur new (id_of queue name.seq) fd → AreLeft directories queue (done ++ name ∷ behind) old new
left_within directories queue count old cur new done behind fs name fd named are so is_cur stopped other n among there rest =
    elim (in_either other done (name ∷ behind) among) [
      | inl before ↦ subst (λ (x : FileState). LeavesBatches (id_of queue other.seq) x (batches_in (id_of queue other.seq) (old.file n).bytes))
          (sym (beside (apart old directories queue count done (name ∷ behind) other name n fd named are before (inl refl) there is_old))) (left_done directories queue old cur done fs other n so before there)
      | inr after ↦ by_place after
    ]
  where
    is_old : IsFileOf old directories queue name fd
    is_old = of_old directories queue done old cur name fd so.only is_cur

    beside : {m : ℕ} → m ≢ fd → new.file m ≡ cur.file m
    beside {m} away = file_beside cur new fd m (changes cur new fd stopped.state stopped.files) away

    by_place : IsIn other (name ∷ behind) → LeavesBatches (id_of queue other.seq) (new.file n) (batches_in (id_of queue other.seq) (old.file n).bytes)
    by_place (inr after) = left_same (id_of queue other.seq) (old.file n) (new.file n) (kept_behind directories queue count old cur new done behind name fd stopped.state named are so.only is_old stopped.files other n after there) rest
    by_place (inl is) =
        let of_name : IsFileOf old directories queue name n = subst (λ (x : FileName). IsFileOf old directories queue x n) is there in
        let here : n ≡ fd = same_number n fd (sym of_name ∙ is_old) in
        let before : cur.file fd ≡ old.file fd = untouched directories queue count old cur done (name ∷ behind) name fd named are so.only (inl refl) is_old in
        let now : stopped.state ≡ new.file n = sym (file_there cur new fd stopped.state stopped.files) ∙ ap new.file (sym here) in
        let was : cur.file fd ≡ old.file n = before ∙ ap old.file (sym here) in
        subst (λ (x : FileName). LeavesBatches (id_of queue x.seq) (new.file n) (batches_in (id_of queue x.seq) (old.file n).bytes)) (sym is)
        (subst (λ (x : FileState). LeavesBatches (id_of queue name.seq) x (batches_in (id_of queue name.seq) (old.file n).bytes)) now
        (subst (λ (x : FileState). LeavesBatches (id_of queue name.seq) stopped.state (batches_in (id_of queue name.seq) x.bytes)) was
        (stopped.leaves (subst IsAtRest (sym was) rest))))

alike_within : (directories : List Text) (queue : LogQueue) (count : ℕ) (old cur new : Disk) (done behind : List FileName) (fs : List File) (name : FileName) (fd : ℕ) → IsNamed old → AreNumbered count (done ++ name ∷ behind)
    → AreRecovered directories queue old cur done fs → IsFileOf cur directories queue name fd → IsStopped cur new (id_of queue name.seq) fd → AreReadAlike directories queue (done ++ name ∷ behind) old new
alike_within directories queue count old cur new done behind fs name fd named are so is_cur stopped other n among there =
    elim (in_either other done (name ∷ behind) among) [
      | inl before ↦ ap (λ (x : FileState). batches_in (id_of queue other.seq) x.bytes)
          (file_beside cur new fd n (changes cur new fd stopped.state stopped.files) (apart old directories queue count done (name ∷ behind) other name n fd named are before (inl refl) there is_old))
          ∙ sym (left_bytes directories queue old cur done fs other n so before there)
      | inr after ↦ by_place after
    ]
  where
    is_old : IsFileOf old directories queue name fd
    is_old = of_old directories queue done old cur name fd so.only is_cur

    by_place : IsIn other (name ∷ behind) → batches_in (id_of queue other.seq) (new.file n).bytes ≡ batches_in (id_of queue other.seq) (old.file n).bytes
    by_place (inr after) =
        ap (λ (x : FileState). batches_in (id_of queue other.seq) x.bytes) (kept_behind directories queue count old cur new done behind name fd stopped.state named are so.only is_old stopped.files other n after there)
    by_place (inl is) =
        let of_name : IsFileOf old directories queue name n = subst (λ (x : FileName). IsFileOf old directories queue x n) is there in
        let here : n ≡ fd = same_number n fd (sym of_name ∙ is_old) in
        let before : cur.file fd ≡ old.file fd = untouched directories queue count old cur done (name ∷ behind) name fd named are so.only (inl refl) is_old in
        let now : new.file n ≡ stopped.state = ap new.file here ∙ file_there cur new fd stopped.state stopped.files in
        let was : cur.file fd ≡ old.file n = before ∙ ap old.file (sym here) in
        subst (λ (x : FileName). batches_in (id_of queue x.seq) (new.file n).bytes ≡ batches_in (id_of queue x.seq) (old.file n).bytes) (sym is)
        (ap (λ (x : FileState). batches_in (id_of queue name.seq) x.bytes) now ∙ stopped.reads ∙ ap (λ (x : FileState). batches_in (id_of queue name.seq) x.bytes) was)

pub changed_within : (directories : List Text) (queue : LogQueue) (old cur new : Disk) (done behind : List FileName) (fs : List File) (name : FileName) (fd : ℕ) → AreRecovered directories queue old cur done fs → IsFileOf cur directories queue name fd
    → IsStopped cur new (id_of queue name.seq) fd → OnlyChanges directories queue (done ++ name ∷ behind) old new
changed_within directories queue old cur new done behind fs name fd so is_cur stopped =
    subst (λ (l : List FileName). OnlyChanges directories queue l old new) (append_assoc done (name ∷ []) behind)
    (changed_front directories queue old new (done ++ name ∷ []) behind (changed_more directories queue old cur new done name fd stopped.state so.only (of_old directories queue done old cur name fd so.only is_cur) stopped.files))

pub changed_between : (directories : List Text) (queue : LogQueue) (old cur : Disk) (done behind : List FileName) (fs : List File) → AreRecovered directories queue old cur done fs → OnlyChanges directories queue (done ++ behind) old cur
changed_between directories queue old cur done behind fs so = changed_front directories queue old cur done behind so.only

-- ---- what a mode refuses

same_tails : (x y : FileName) (xs ys : List FileName) → x ∷ xs ≡ y ∷ ys → (x ≡ y) × (xs ≡ ys)
same_tails x y xs ys is = (cc, cc)

-- what lies behind a place lies behind each place before it
split_in : (done behind before tail : List FileName) (x : FileName) → done ++ behind ≡ before ++ tail → length done ≤ length before → IsIn x tail → IsIn x behind
split_in [] behind before tail x is le there = subst (IsIn x) (sym is) (in_second x before tail there)
split_in (d ∷ done) behind [] tail x is le there = absurd (omega (arith, le))
split_in (d ∷ done) behind (b ∷ before) tail x is le there = split_in done behind before tail x (same_tails d b (done ++ behind) (before ++ tail) is).1 (omega (arith, le)) there

split_same : (done behind before tail : List FileName) → done ++ behind ≡ before ++ tail → length done ≡ length before → behind ≡ tail
split_same [] behind [] tail is same = is
split_same [] behind (b ∷ before) tail is same = absurd (omega (arith, same))
split_same (d ∷ done) behind [] tail is same = absurd (omega (arith, same))
split_same (d ∷ done) behind (b ∷ before) tail is same = split_same done behind before tail (same_tails d b (done ++ behind) (before ++ tail) is).1 (omega (arith, same))

-- no file before this place has a fault that the mode refuses
abbrev pub NoneRefused : RecoveryMode → List Text → LogQueue → List FileName → Disk → ℕ → Type 0
NoneRefused mode directories queue names d i =
    (before : List FileName) (name : FileName) (behind : List FileName) → names ≡ before ++ name ∷ behind → HasRefused mode directories queue d name behind → i ≤ length before

pub none_refused : (mode : RecoveryMode) (directories : List Text) (queue : LogQueue) (names : List FileName) (d : Disk) → NoneRefused mode directories queue names d 0
none_refused mode directories queue names d before name behind is refused = omega arith

-- between two files
pub kept_between : (mode : RecoveryMode) (directories : List Text) (queue : LogQueue) (count : ℕ) (old cur : Disk) (done behind : List FileName) (fs : List File) → IsNamed old → AreNumbered count (done ++ behind)
    → AreRecovered directories queue old cur done fs → NoneRefused mode directories queue (done ++ behind) old (length done) → KeepsRefused mode directories queue (done ++ behind) old cur
kept_between mode directories queue count old cur done behind fs named are so none before name after is refused other fd among there =
    untouched directories queue count old cur done behind other fd named are so.only (split_in done behind before (name ∷ after) other is (none before name after is refused) among) there

-- all were recovered
pub none_left : (mode : RecoveryMode) (directories : List Text) (queue : LogQueue) (names : List FileName) (d : Disk) → NoneRefused mode directories queue names d (length names) → AnyRefused mode directories queue names d → ⊥
none_left mode directories queue names d none (before, name, behind, is, refused) =
    absurd (omega (arith, none before name behind is refused, ap length is, length-append before (name ∷ behind)))

pub last_told : (n m : ℕ) → (n + 1 == n + (m + 1)) ≡ (m == 0)
last_told n m = by_test (m == 0) refl
  where
    by_test : (b : Bool) → (m == 0) ≡ b → (n + 1 == n + (m + 1)) ≡ b
    by_test true is = eq-eqb (n + 1) (n + (m + 1)) (omega (arith, eqb-true m 0 is))
    by_test false is = ne_eqb (n + 1) (n + (m + 1)) (λ e. eqb-false m 0 is (omega (arith, e)))

-- the fault of the file at this place is one that the mode refuses
pub record IsRefusedHere (mode : RecoveryMode) (id : FileId) (bytes : List ℕ) (last : Bool) : Type 0 where
  pub fault : CorruptionFault
  pub is : fault_in id bytes ≡ Some fault
  pub refused : cuts_faults mode last ≡ false

refused_here : (mode : RecoveryMode) (directories : List Text) (queue : LogQueue) (old cur : Disk) (done behind before after : List FileName) (here name : FileName) (fd : ℕ) (last : Bool)
    → done ++ here ∷ behind ≡ before ++ name ∷ after → length done ≡ length before → HasRefused mode directories queue old name after → IsFileOf old directories queue here fd → cur.file fd ≡ old.file fd
    → last ≡ (length done + 1 == length (done ++ here ∷ behind)) → IsRefusedHere mode (id_of queue here.seq) (cur.file fd).bytes last
refused_here mode directories queue old cur done behind before after here name fd last is same (n, f, of_name, fault, refuses) there was told =
    let tails = same_tails here name behind after (split_same done (here ∷ behind) before (name ∷ after) is same) in
    let number : n ≡ fd = same_number n fd (sym of_name ∙ ap (λ (x : FileName). fd_of old.names (path_of directories queue x)) (sym tails.0) ∙ there) in
    let len : length (done ++ here ∷ behind) ≡ length done + (length behind + 1) = omega (arith, length-append done (here ∷ behind)) in
    let is_last : last ≡ (length after == 0) = told ∙ ap (λ k. length done + 1 == k) len ∙ last_told (length done) (length behind) ∙ ap (λ (l : List FileName). length l == 0) tails.1 in
    record {
      fault = f;
      is = ap (λ (x : FileState). fault_in (id_of queue here.seq) x.bytes) (was ∙ ap old.file (sym number)) ∙ ap (λ (x : FileName). fault_in (id_of queue x.seq) (old.file n).bytes) tails.0 ∙ fault;
      refused = ap (cuts_faults mode) is_last ∙ refuses;
    }

-- one file more has none
pub none_more : (mode : RecoveryMode) (directories : List Text) (queue : LogQueue) (count : ℕ) (old cur : Disk) (done behind : List FileName) (fs : List File) (here : FileName) (fd : ℕ) (last : Bool) → IsNamed old → AreNumbered count (done ++ here ∷ behind)
    → AreRecovered directories queue old cur done fs → IsFileOf cur directories queue here fd → last ≡ (length done + 1 == length (done ++ here ∷ behind)) → (IsRefusedHere mode (id_of queue here.seq) (cur.file fd).bytes last → ⊥)
    → NoneRefused mode directories queue (done ++ here ∷ behind) old (length done) → NoneRefused mode directories queue (done ++ here ∷ behind) old (length done + 1)
none_more mode directories queue count old cur done behind fs here fd last named are so is_cur told never none before name after is refused = by_order (cases_lt (length done) (length before))
  where
    there : IsFileOf old directories queue here fd
    there = of_old directories queue done old cur here fd so.only is_cur

    by_order : (length done < length before) ⊎ (length before ≤ length done) → length done + 1 ≤ length before
    by_order (inl lt) = omega (arith, lt)
    by_order (inr le) = absurd (never (refused_here mode directories queue old cur done behind before after here name fd last is (omega (arith, le, none before name after is refused)) refused there
        (untouched directories queue count old cur done (here ∷ behind) here fd named are so.only (inl refl) there) told))

-- within one file
pub kept_within : (mode : RecoveryMode) (directories : List Text) (queue : LogQueue) (count : ℕ) (old cur new : Disk) (done behind : List FileName) (fs : List File) (here : FileName) (fd : ℕ) (last : Bool) → IsNamed old
    → AreNumbered count (done ++ here ∷ behind) → AreRecovered directories queue old cur done fs → IsFileOf cur directories queue here fd → last ≡ (length done + 1 == length (done ++ here ∷ behind)) → IsStopped cur new (id_of queue here.seq) fd
    → (IsRefusedHere mode (id_of queue here.seq) (cur.file fd).bytes last → new ≡ cur) → NoneRefused mode directories queue (done ++ here ∷ behind) old (length done) → KeepsRefused mode directories queue (done ++ here ∷ behind) old new
kept_within mode directories queue count old cur new done behind fs here fd last named are so is_cur told stopped refuses none before name after is refused other n among there = by_order (cases_lt (length done) (length before))
  where
    is_old : IsFileOf old directories queue here fd
    is_old = of_old directories queue done old cur here fd so.only is_cur

    by_order : (length done < length before) ⊎ (length before ≤ length done) → new.file n ≡ old.file n
    by_order (inl lt) =
        kept_behind directories queue count old cur new done behind here fd stopped.state named are so.only is_old stopped.files other n
        (split_in (done ++ here ∷ []) behind before (name ∷ after) other (append_assoc done (here ∷ []) behind ∙ is) (omega (arith, lt, length-append done (here ∷ []))) among) there
    by_order (inr le) =
        let same : new ≡ cur = refuses (refused_here mode directories queue old cur done behind before after here name fd last is (omega (arith, le, none before name after is refused)) refused is_old
        (untouched directories queue count old cur done (here ∷ behind) here fd named are so.only (inl refl) is_old) told) in
        ap (λ (x : Disk). x.file n) same
        ∙ untouched directories queue count old cur done (here ∷ behind) other n named are so.only
        (split_in done (here ∷ behind) before (name ∷ after) other is (none before name after is refused) among) there

-- ---- at a place of the list of names

len_at : (names : List FileName) (i : ℕ) → i ≤ length names → length (take i names) ≡ i
len_at names i le = omega (arith, length-take i names, le)

cut_at : (names : List FileName) (i : ℕ) → take i names ++ drop i names ≡ names
cut_at names i = take-append-drop i names

suc_is : (i : ℕ) → i + 1 ≡ suc i
suc_is i = omega arith

pub place_at : (names : List FileName) (i : ℕ) (d : FileName) → i < length names → take i names ++ get_or names i d ∷ drop (i + 1) names ≡ names
place_at names i d lt =
    (λ j. take i names ++ get_or names i d ∷ drop (suc_is i j) names)
    ∙ ap (λ (l : List FileName). take i names ++ l) (sym (drop-cons names i d lt)) ∙ take-append-drop i names

module _ (mode : RecoveryMode) (directories : List Text) (queue : LogQueue) (count : ℕ) (old : Disk) (names : List FileName) (named : IsNamed old) (are : AreNumbered count names) where
  -- between two files the disk is e
  pub only_between : (cur e : Disk) (i : ℕ) (fs : List File) → e ≡ cur → AreRecovered directories queue old cur (take i names) fs → OnlyChanges directories queue names old e
  only_between cur e i fs same so = subst (λ (x : Disk). OnlyChanges directories queue names old x) (sym same)
      (subst (λ (l : List FileName). OnlyChanges directories queue l old cur) (cut_at names i) (changed_between directories queue old cur (take i names) (drop i names) fs so))

  pub left_at : (cur e : Disk) (i : ℕ) (fs : List File) → e ≡ cur → AreRecovered directories queue old cur (take i names) fs → AreLeft directories queue names old e
  left_at cur e i fs same so = subst (λ (x : Disk). AreLeft directories queue names old x) (sym same)
      (subst (λ (l : List FileName). AreLeft directories queue l old cur) (cut_at names i)
      (left_between directories queue count old cur (take i names) (drop i names) fs named (subst (AreNumbered count) (sym (cut_at names i)) are) so))

  pub alike_at : (cur e : Disk) (i : ℕ) (fs : List File) → e ≡ cur → AreRecovered directories queue old cur (take i names) fs → AreReadAlike directories queue names old e
  alike_at cur e i fs same so = subst (λ (x : Disk). AreReadAlike directories queue names old x) (sym same)
      (subst (λ (l : List FileName). AreReadAlike directories queue l old cur) (cut_at names i)
      (alike_between directories queue count old cur (take i names) (drop i names) fs named (subst (AreNumbered count) (sym (cut_at names i)) are) so))

  pub kept_at : (cur e : Disk) (i : ℕ) (fs : List File) → i ≤ length names → e ≡ cur → AreRecovered directories queue old cur (take i names) fs → NoneRefused mode directories queue names old i → KeepsRefused mode directories queue names old e
  kept_at cur e i fs le same so none = subst (λ (x : Disk). KeepsRefused mode directories queue names old x) (sym same)
      (subst (λ (l : List FileName). KeepsRefused mode directories queue l old cur) (cut_at names i)
      (kept_between mode directories queue count old cur (take i names) (drop i names) fs named (subst (AreNumbered count) (sym (cut_at names i)) are) so
      (subst (λ (l : List FileName). NoneRefused mode directories queue l old (length (take i names))) (sym (cut_at names i)) (subst (NoneRefused mode directories queue names old) (sym (len_at names i le)) none))))

  module _ (i : ℕ) (d : FileName) (lt : i < length names) where
    abbrev here : FileName
    here = get_or names i d

    abbrev behind : List FileName
    behind = drop (i + 1) names

    are_here : AreNumbered count (take i names ++ here ∷ behind)
    are_here = subst (AreNumbered count) (sym (place_at names i d lt)) are

    told_here : (n : ℕ) (last : Bool) → n ≡ i → last ≡ (n + 1 == length names) → last ≡ (length (take i names) + 1 == length (take i names ++ here ∷ behind))
    told_here n last is told = told ∙ (λ j. (is ∙ sym (len_at names i (omega (arith, lt)))) j + 1 == length (sym (place_at names i d lt) j))

    none_here : NoneRefused mode directories queue names old i → NoneRefused mode directories queue (take i names ++ here ∷ behind) old (length (take i names))
    none_here none = subst (λ (l : List FileName). NoneRefused mode directories queue l old (length (take i names))) (sym (place_at names i d lt)) (subst (NoneRefused mode directories queue names old) (sym (len_at names i (omega (arith, lt)))) none)

    pub number_here : IsFileSeq here.seq × (here.path_id < count)
    number_here = number_of count (take i names ++ here ∷ behind) are_here here (in_middle (take i names) behind here)

    -- within this file
    pub only_within : (cur new : Disk) (fs : List File) (fd : ℕ) → AreRecovered directories queue old cur (take i names) fs → IsFileOf cur directories queue here fd → IsStopped cur new (id_of queue here.seq) fd → OnlyChanges directories queue names old new
    only_within cur new fs fd so is stopped = subst (λ (l : List FileName). OnlyChanges directories queue l old new) (place_at names i d lt) (changed_within directories queue old cur new (take i names) behind fs here fd so is stopped)

    pub left_stopped : (cur new : Disk) (fs : List File) (fd : ℕ) → AreRecovered directories queue old cur (take i names) fs → IsFileOf cur directories queue here fd → IsStopped cur new (id_of queue here.seq) fd → AreLeft directories queue names old new
    left_stopped cur new fs fd so is stopped = subst (λ (l : List FileName). AreLeft directories queue l old new) (place_at names i d lt)
        (left_within directories queue count old cur new (take i names) behind fs here fd named are_here so is stopped)

    pub alike_stopped : (cur new : Disk) (fs : List File) (fd : ℕ) → AreRecovered directories queue old cur (take i names) fs → IsFileOf cur directories queue here fd → IsStopped cur new (id_of queue here.seq) fd → AreReadAlike directories queue names old new
    alike_stopped cur new fs fd so is stopped = subst (λ (l : List FileName). AreReadAlike directories queue l old new) (place_at names i d lt)
        (alike_within directories queue count old cur new (take i names) behind fs here fd named are_here so is stopped)

    pub kept_stopped : (cur new : Disk) (fs : List File) (fd n : ℕ) (last : Bool) → n ≡ i → last ≡ (n + 1 == length names) → AreRecovered directories queue old cur (take i names) fs → IsFileOf cur directories queue here fd
        → IsStopped cur new (id_of queue here.seq) fd → (IsRefusedHere mode (id_of queue here.seq) (cur.file fd).bytes last → new ≡ cur) → NoneRefused mode directories queue names old i → KeepsRefused mode directories queue names old new
    kept_stopped cur new fs fd n last is_n told so is stopped refuses none = subst (λ (l : List FileName). KeepsRefused mode directories queue l old new) (place_at names i d lt)
        (kept_within mode directories queue count old cur new (take i names) behind fs here fd last named are_here so is (told_here n last is_n told) stopped refuses (none_here none))

    -- behind it
    pub step_recovered : (cur new : Disk) (fs : List File) (f : File) → AreRecovered directories queue old cur (take i names) fs → IsStep directories queue cur new here f → AreRecovered directories queue old new (take (i + 1) names) (fs ++ f ∷ [])
    step_recovered cur new fs f so step = subst (λ (l : List FileName). AreRecovered directories queue old new l (fs ++ f ∷ [])) (sym (take_more names i d lt))
        (recovered_more directories queue count old cur new (take i names) behind fs here f named are_here so step)

    pub step_replays : (P Q R : List Placed → Type 0) (cur new : Disk) (fs : List File) (f : File) → AreRecovered directories queue old cur (take i names) fs → IsStep directories queue cur new here f → Replays P Q queue cur fs
        → ((placed : List Placed) → Q placed → (more : List Placed) × R (placed ++ more) × ArePlaced (id_of queue here.seq) (new.file f.handle.0).bytes (batches_in (id_of queue here.seq) (cur.file f.handle.0).bytes) more)
        → Replays P R queue new (fs ++ f ∷ [])
    step_replays P Q R cur new fs f so step before next = replays_file P Q R directories queue count old cur new (take i names) behind fs here f named are_here so step before next

    pub step_none : (cur : Disk) (fs : List File) (fd n : ℕ) (last : Bool) → n ≡ i → last ≡ (n + 1 == length names) → AreRecovered directories queue old cur (take i names) fs → IsFileOf cur directories queue here fd
        → (IsRefusedHere mode (id_of queue here.seq) (cur.file fd).bytes last → ⊥) → NoneRefused mode directories queue names old i → NoneRefused mode directories queue names old (i + 1)
    step_none cur fs fd n last is_n told so is never none =
        let len = len_at names i (omega (arith, lt)) in
        subst (λ (l : List FileName). NoneRefused mode directories queue l old (i + 1)) (place_at names i d lt)
        (subst (λ k. NoneRefused mode directories queue (take i names ++ here ∷ behind) old (k + 1)) len
        (none_more mode directories queue count old cur (take i names) behind fs here fd last named are_here so is (told_here n last is_n told) never (none_here none)))
