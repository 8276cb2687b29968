-- An opening leaves an older file without bytes only where its header was broken.
use Rattle.std.proofs.Common.{◌≡◌, ◌≢◌, inl, inr, ℕ, ◌<◌, List, [], ◌∷◌, ◌++◌, length, Some, refl, sym, ap, subst, ◌∙◌, arith, length-append}
use Rattle.std.specs.Prelude.{Result, Ok, Err, IfOk, ◌==◌, false}
use Rattle.std.specs.List.{AllByRecursion}
use Rattle.std.proofs.lemmas.Bool.{ne_eqb}
use Rattle.raft_log_records.specs.declared.file_id.FileId.{FileId}
use Rattle.raft_log_records.specs.declared.file_id.LogQueue.{LogQueue}
use Rattle.raft_log_disk.specs.declared.format.HeaderFault.{HeaderFault}
use Rattle.raft_log_disk.specs.Disk.{Disk, FileState, IsIn, IsNamed}
use Rattle.raft_log_disk.specs.Format.{header_at}
use Rattle.raft_log_disk.specs.Text.{Text}
use Rattle.raft_log_files.specs.declared.error.CorruptionFault.TheVariants.{Header}
use Rattle.raft_log_files.specs.declared.recovery.RecoveryMode.{RecoveryMode}
use Rattle.raft_log_files.specs.declared.recovery.RecoveryMode.TheVariants.{AbsoluteConsistency, TolerateTailCorruption, TolerateAnyCorruption}
use Rattle.raft_log_file.specs.Reading.{Reading, read_or}
use Rattle.raft_log_pipe.specs.declared.file.File.{File}
use Rattle.raft_log_pipe.specs.declared.pipe.SinglePipe.{SinglePipe}
use Rattle.raft_log_pipe.specs.Begun.{Changes}
use Rattle.raft_log_pipe.specs.Blocks.{files_of}
use Rattle.raft_log_pipe.specs.Others.{KeepsOthers}
use Rattle.raft_log_pipe.specs.Pipe.{Holds, IsPipe, Numbered, id_of}
use Rattle.raft_log_pipe.proofs.AloneLemmas.{in_first}
use Rattle.raft_log_pipe.proofs.OthersLemmas.{named_beside}
use Rattle.raft_log_pipe.proofs.PipeLemmas.{file_beside, in_all}
use Rattle.raft_log_recovery.specs.declared.scan.FileName.{FileName}
use Rattle.raft_log_recovery.specs.Crashed.{HasHole}
use Rattle.raft_log_recovery.specs.Holes.{HasBroken, HolesOnlyBroken}
use Rattle.raft_log_recovery.specs.Queue.{AnyRefused, AreNumbered, AreOpen, AreRecovered, IsOpen, IsRecovered}
use Rattle.raft_log_recovery.specs.Repair.{cuts_faults, fault_in, record_fault}
use Rattle.raft_log_recovery.proofs.BesideLemmas.{HaveSame, bytes_same, file_same, turned}
use Rattle.raft_log_recovery.proofs.QueueLemmas.{in_middle, number_of}
use Rattle.raft_log_recovery.proofs.RepairLemmas.{no_reading}
use Rattle.raft_log_recovery.proofs.TailLemmas.{older_at}

-- ---- the name of a file that others follow

module _ (old : Disk) (directories : List Text) (queue : LogQueue) where
  record IsFollowedFile (names : List FileName) (f : File) : Type 0 where
    before : List FileName
    name : FileName
    behind : List FileName
    split : names ≡ before ++ name ∷ behind
    followed : 0 < length behind
    stands : IsOpen old directories queue name f

  some_names : (names : List FileName) (fs : List File) → AreOpen old directories queue names fs → 0 < length fs → 0 < length names
  some_names [] fs none some = absurd (omega (arith, some, ap length none))
  some_names (name ∷ names) fs opened some = omega arith

  followed_file : (names : List FileName) (older : List File) (active f : File) → AreOpen old directories queue names (older ++ active ∷ []) → IsIn f older → IsFollowedFile names f
  followed_file names [] active f opened there = absurd there
  followed_file [] (g ∷ older) active f none there = absurd (omega (arith, ap length none))
  followed_file (name ∷ names) (g ∷ older) active f (h, rest, is, here, others) (inl same) =
      let first : g ≡ h = cc in
      let behind : older ++ active ∷ [] ≡ rest = cc in
      record {
        before = [];
        name = name;
        behind = names;
        split = refl;
        followed = some_names names rest others (omega (arith, ap length behind, length-append older (active ∷ [])));
        stands = subst (IsOpen old directories queue name) (sym first ∙ sym same) here;
      }
  followed_file (name ∷ names) (g ∷ older) active f (h, rest, is, here, others) (inr there) =
      let behind : rest ≡ older ++ active ∷ [] = cc in
      let next = followed_file names older active f (subst (AreOpen old directories queue names) behind others) there in
      record {
        before = name ∷ next.before;
        name = next.name;
        behind = next.behind;
        split = ap (λ (l : List FileName). name ∷ l) next.split;
        followed = next.followed;
        stands = next.stands;
      }

-- ---- one queue

-- the fault of a broken header
broken_fault : (id : FileId) (bytes : List ℕ) (e : HeaderFault) → header_at bytes ≡ Err e → fault_in id bytes ≡ Some (Header e)
broken_fault id bytes e is = ap (λ (r : Result Reading HeaderFault). read_or (λ (x : Reading). record_fault x.fault) (λ (f : HeaderFault). Some (Header f)) r) (no_reading id bytes e is)

-- a mode that refuses no fault of a file that others follow tolerates any
tolerant : (mode : RecoveryMode) (behind : List FileName) → 0 < length behind → (cuts_faults mode (length behind == 0) ≡ false → ⊥) → mode ≡ TolerateAnyCorruption
tolerant AbsoluteConsistency behind some never = absurd (never refl)
tolerant TolerateTailCorruption [] some never = absurd (omega (arith, some))
tolerant TolerateTailCorruption (name ∷ behind) some never = let more : length (name ∷ behind) ≡ 0 → ⊥ = λ none. omega (arith, none) in absurd (never (ne_eqb (length (name ∷ behind)) 0 more))
tolerant TolerateAnyCorruption behind some never = refl

pub holes_cut : (mode : RecoveryMode) (directories : List Text) (queue : LogQueue) (old mid new : Disk) (names : List FileName) (fs : List File) (p : SinglePipe) → AreRecovered directories queue old mid names fs → (AnyRefused mode directories queue names old → ⊥)
    → files_of p ≡ fs → IsPipe p new → Changes mid new p.active.handle.0 → HolesOnlyBroken mode directories queue names old new p
holes_cut mode directories queue old mid new names fs p so passed files pipe change (f, inside, bare) =
    let apart = in_all (λ (g : File). (g.handle.0 < new.next) × (g.handle.0 ≢ p.active.handle.0)) p.older.items f pipe.apart inside in
    let was : (mid.file f.handle.0).bytes ≡ [] = ap (λ (x : FileState). x.bytes) (sym (file_beside mid new p.active.handle.0 f.handle.0 change apart.1)) ∙ bare in
    let at = followed_file old directories queue names p.older.items p.active f (subst (AreOpen old directories queue names) (sym files) so.opened) inside in
    let recovered : IsRecovered queue old mid f = in_all (IsRecovered queue old mid) fs f so.each (subst (IsIn f) files (in_first f p.older.items (p.active ∷ []) inside)) in
    let broken = recovered.blank was in (
      tolerant mode at.behind at.followed
          (λ kept. passed (at.before, at.name, at.behind, at.split, (f.handle.0, Header broken.0, at.stands.there, broken_fault (id_of queue at.name.seq) (old.file f.handle.0).bytes broken.0 broken.1, kept))),
      record {
        before = at.before;
        name = at.name;
        behind = at.behind;
        split = at.split;
        followed = at.followed;
        fd = f.handle.0;
        there = at.stands.there;
        fault = broken.0;
        broken = broken.1;
      },
    )

-- of what an opening answers
pub holes_opened : {E : Type 0} (r : Result SinglePipe E) (mode : RecoveryMode) (directories : List Text) (queue : LogQueue) (old mid new : Disk) (names : List FileName) (fs : List File) → AreRecovered directories queue old mid names fs
    → (AnyRefused mode directories queue names old → ⊥) → IfOk r (λ p. (p.queue ≡ queue) × (files_of p ≡ fs)) → IfOk r (λ p. IsPipe p new) → IfOk r (λ p. Changes mid new p.active.handle.0)
    → IfOk r (HolesOnlyBroken mode directories queue names old new)
holes_opened (Ok p) mode directories queue old mid new names fs so passed files pipe change = holes_cut mode directories queue old mid new names fs p so passed files.1 pipe change
holes_opened (Err e) mode directories queue old mid new names fs so passed files pipe change = tt

-- a queue that begins has no older file
pub holes_created : {E : Type 0} (r : Result SinglePipe E) (mode : RecoveryMode) (directories : List Text) (queue : LogQueue) (old new : Disk) (names : List FileName) → IfOk r (λ p. (p.queue ≡ queue) × (p.active.seq ≡ 1) × (p.older.items ≡ []))
    → IfOk r (HolesOnlyBroken mode directories queue names old new)
holes_created (Ok p) mode directories queue old new names first = λ hole. absurd (subst (IsIn hole.0) first.2 hole.1)
holes_created (Err e) mode directories queue old new names first = tt

-- ---- one queue beside the other

-- a hole that is there behind a change of the other was there before
pub hole_before : (other : LogQueue) (p : SinglePipe) (d e : Disk) (bs us : Numbered) → (p.queue ≡ other → ⊥) → KeepsOthers other d e → Holds p d bs us → HasHole p e → HasHole p d
hole_before other p d e bs us apart keeps holds (f, inside, bare) =
    let at = older_at p.queue d p.older.items holds.before f holds.olders inside in
    (f, inside, ap (λ (x : FileState). x.bytes) (sym (named_beside other p.queue d e apart keeps f.seq f.handle.0 at.1.named).1) ∙ bare)

-- and a broken header too
pub broken_before : (queue : LogQueue) (d e : Disk) → HaveSame queue d e → IsNamed d → IsNamed e → (directories : List Text) (count : ℕ) (names : List FileName) → AreNumbered count names → HasBroken directories queue names e → HasBroken directories queue names d
broken_before queue d e same old new directories count names numbers b =
    let below = (number_of count names numbers b.name (subst (IsIn b.name) (sym b.split) (in_middle b.before b.behind b.name))).0 in
    let back = turned queue d e same in
    record {
      before = b.before;
      name = b.name;
      behind = b.behind;
      split = b.split;
      followed = b.followed;
      fd = b.fd;
      there = file_same queue e d back new old directories b.name b.fd below b.there;
      fault = b.fault;
      broken = ap (λ (x : FileState). header_at x.bytes) (bytes_same queue e d back new old directories b.name b.fd below b.there) ∙ b.broken;
    }
