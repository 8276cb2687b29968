-- Why an opening answers Corruption.
use Rattle.std.proofs.Common.{◌≡◌, inl, inr, ⊎_elim, List, Option, Some, None, Result, Ok, Err, refl, subst}
use Rattle.std.specs.Prelude.{IsErrAnd, IsOk, MatchOption}
use Rattle.std.proofs.lemmas.Bool.{false≢true}
use Rattle.std.proofs.lemmas.Result.{err_from_is_err_and}
use Rattle.raft_log_records.specs.declared.file_id.LogQueue.{LogQueue}
use Rattle.raft_log_records.specs.declared.file_id.LogQueue.TheVariants.{Append, Rewrite}
use Rattle.raft_log_disk.specs.Cause.{Meter}
use Rattle.raft_log_disk.specs.Disk.{Disk}
use Rattle.raft_log_disk.specs.Text.{Text}
use Rattle.raft_log_files.specs.declared.error.CorruptionFault.{CorruptionFault}
use Rattle.raft_log_files.specs.declared.error.Error.{Error}
use Rattle.raft_log_files.specs.declared.error.Error.TheVariants.{Corruption, Other}
use Rattle.raft_log_files.specs.declared.error.OtherFault.{OtherFault}
use Rattle.raft_log_files.specs.declared.recovery.RecoveryMode.{RecoveryMode}
use Rattle.raft_log_recovery.specs.declared.builder.DualPipesBuilder.{DualPipesBuilder}
use Rattle.raft_log_recovery.specs.declared.scan.FileKind.TheVariants.{Log}
use Rattle.raft_log_recovery.specs.Both as both
use Rattle.raft_log_recovery.specs.Both.{IsFoundBy}
use Rattle.raft_log_recovery.specs.Opening.{AnyAligned}
use Rattle.raft_log_recovery.specs.Queue.{AnyRefused, directories_in, names_in}
use Rattle.raft_log_recovery.specs.Scan.{AreFound, IsScanFault, OnlyMakes}
use Rattle.raft_log_engine.specs.declared.fault.EngineFault.{EngineFault}
use Rattle.raft_log_engine.specs.declared.fault.EngineFault.TheVariants as fault
use Rattle.raft_log_engine.specs.Opening.{CantBeOpened}

-- a refusal of the files that a `?` passes on
pub passed_on : {T : Type 0} (P : CorruptionFault → Type 0) (e : Error) (r : Result T EngineFault) → IsErrAnd r (λ y. y ≡ fault.Log e) → ((f : CorruptionFault) → e ≡ Corruption f → P f)
    → (f : CorruptionFault) → r ≡ Err (fault.Log (Corruption f)) → P f
passed_on P e r is told f corrupt = let p = err_from_is_err_and r is in told f (cc (p.1, p.2, corrupt))

-- looking for files is refused for other reasons
pub scan_sound : (directories : List Text) (d : Disk) (old new : Meter) (f : CorruptionFault) → IsScanFault directories d old new (Corruption f) → ⊥
scan_sound directories d old new f (inl is) = absurd cc
scan_sound directories d old new f (inr (inl file)) = let is = file.0 in absurd cc
scan_sound directories d old new f (inr (inr refused)) = let is = refused.0 in absurd cc

-- a refusal, and an answer
abbrev pub refused : (T : Type 0) → Error → Result T Error
refused T e = Err e

abbrev pub answered : (T : Type 0) → T → Result T Error
answered T x = Ok x

-- settings are refused for other reasons
pub sound_refused : (T : Type 0) (o : Option OtherFault) (e : Error) → MatchOption o (IsOk (refused T e)) (λ f. refused T e ≡ Err (Other f)) → (f : CorruptionFault) → e ≡ Corruption f → ⊥
sound_refused T None e taken f same = false≢true taken
sound_refused T (Some other) e is f same = absurd cc

-- what was made of settings is answered
pub sound_ok : (T : Type 0) (o : Option OtherFault) (x : T) (u : Unit {0}) → MatchOption o (answered (Unit {0}) u ≡ Ok tt) (λ f. answered (Unit {0}) u ≡ Err (Other f)) → MatchOption o (IsOk (answered T x)) (λ f. answered T x ≡ Err (Other f))
sound_ok T None x u told = refl
sound_ok T (Some f) x u told = absurd cc

-- and why they were refused
pub sound_err : (T : Type 0) (o : Option OtherFault) (e : Error) (r : Result T Error) → IsErrAnd r (λ y. y ≡ e) → MatchOption o (refused (Unit {0}) e ≡ Ok tt) (λ f. refused (Unit {0}) e ≡ Err (Other f)) → MatchOption o (IsOk r) (λ f. r ≡ Err (Other f))
sound_err T None e r is told = absurd cc
sound_err T (Some f) e r is told =
    let p = err_from_is_err_and r is in
    let same : e ≡ Other f = cc in
    cc (p.1, p.2, same)

-- what the call behind it answers then
pub sound_fault : {S : Type 0} (T : Type 0) (e : Error) (r : Result S EngineFault) (o : Option OtherFault) (f : OtherFault) → IsErrAnd r (λ y. y ≡ fault.Log e) → MatchOption o (IsOk (refused T e)) (λ x. refused T e ≡ Err (Other x)) → o ≡ Some f
    → r ≡ Err (fault.Log (Other f))
sound_fault T e r None f is told some = absurd cc
sound_fault T e r (Some g) f is told some =
    let p = err_from_is_err_and r is in
    let same : e ≡ Other g = cc in
    let which : g ≡ f = cc in
    cc (p.1, p.2, same, which)

pub sound_none : (T : Type 0) (x : T) (o : Option OtherFault) (f : OtherFault) → MatchOption o (IsOk (answered T x)) (λ g. answered T x ≡ Err (Other g)) → o ≡ Some f → ⊥
sound_none T x None f told some = absurd cc
sound_none T x (Some g) f told some = absurd cc

-- what a builder can't open can't be opened
pub cant_open : (b : DualPipesBuilder) (mode : RecoveryMode) (said : List Text) → directories_in b ≡ said → b.config.recovery_mode ≡ mode → (d made : Disk) → OnlyMakes said d made → IsFoundBy b Append made → IsFoundBy b Rewrite made
    → (queue : LogQueue) → both.CantBeOpened b.config.recovery_mode b queue made → CantBeOpened mode said queue d
cant_open b mode said at alike d made makes append rewrite queue cant = record {
  made = made;
  names = names_in b queue;
  makes = makes;
  found = subst (λ (x : List Text). AreFound made (Log queue) x (names_in b queue)) at (by_queue queue);
  refused = ⊎_elim
      (λ any. inl (subst (λ (m : RecoveryMode). AnyRefused m said queue (names_in b queue) made) alike (subst (λ (x : List Text). AnyRefused b.config.recovery_mode x queue (names_in b queue) made) at any)))
      (λ any. inr (subst (λ (x : List Text). AnyAligned x queue (names_in b queue) made) at any))
      cant;
}
  where
    by_queue : (q : LogQueue) → IsFoundBy b q made
    by_queue Append = append
    by_queue Rewrite = rewrite

-- what is said of a mode and of directories is said of the same ones
pub along : {m n : RecoveryMode} {l k : List Text} (P : RecoveryMode → List Text → Type 0) → m ≡ n → l ≡ k → P m l → P n k
along {n = n} {l = l} P modes paths p = subst (λ (x : List Text). P n x) paths (subst (λ (x : RecoveryMode). P x l) modes p)
