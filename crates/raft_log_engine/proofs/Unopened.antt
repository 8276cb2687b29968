-- Why an opening is refused: errors and their causes.
use Rattle.std.proofs.Common.{◌≡◌, ◌⊎◌, inl, inr, ℕ, zero, suc, ◌+◌, ◌-◌, ◌^◌, ◌<◌, ◌≤◌, true, cond, List, [], ◌∷◌, ◌++◌, length, Option, Some, None, refl, sym, ap, subst, ◌∙◌, arith}
use Rattle.std.specs.Prelude.{◌/◌, ◌*◌, min, Bool, false, ◌&&◌, ◌==◌, unwrap_or, Result, Ok, Err, IfErr, IsOk, MatchOption, is_some}
use Rattle.std.proofs.lemmas.Bool.{false≢true}
use Rattle.raft_log_records.specs.declared.file_id.LogQueue.{LogQueue}
use Rattle.raft_log_records.specs.declared.file_id.LogQueue.TheVariants.{Append, Rewrite}
use Rattle.raft_log_disk.specs.Cause.{Meter, NothingRefuses, RefusesNoMore}
use Rattle.raft_log_disk.specs.Disk.{Disk, HasDirectory, IsIn}
use Rattle.raft_log_disk.specs.Text.{Text, name_in}
use Rattle.raft_log_disk.proofs.TextLemmas.{in_directory}
use Rattle.raft_log_disk.proofs.RefusalLemmas.{still_free}
use Rattle.raft_log_files.specs.FileName.{IsFileSeq, log_file_name}
use Rattle.raft_log_files.specs.Settings.{Settings, file_capacity, prefill_capacity_of, recycles}
use Rattle.raft_log_files.specs.Size.{size_of}
use Rattle.raft_log_files.specs.declared.error.CorruptionFault.{CorruptionFault}
use Rattle.raft_log_files.specs.declared.error.DiskRefusal.TheVariants.{Refused}
use Rattle.raft_log_files.specs.declared.error.Error.{Error}
use Rattle.raft_log_files.specs.declared.error.Error.TheVariants.{Io, Corruption, InvalidArgument, TryAgain, Memory, Other, EntryCompacted, EntryNotFound}
use Rattle.raft_log_files.specs.declared.error.OtherFault.{OtherFault}
use Rattle.raft_log_files.specs.declared.error.OtherFault.TheVariants as other
use Rattle.raft_log_files.specs.declared.recovery.RecoveryMode.{RecoveryMode}
use Rattle.raft_log_pipe.specs.Alone.{path_in}
use Rattle.raft_log_pipe.specs.Caused.{IsRefusalOrMemory, LacksDirectory}
use Rattle.raft_log_pipe.specs.declared.pipe.SinglePipe.{SinglePipe}
use Rattle.raft_log_pipe.specs.Prepared.{IsPreparedOf, LacksNumbers}
use Rattle.raft_log_pipe.specs.Taken.{IsTakenBy}
use Rattle.raft_log_pipe.specs.Pipe.{id_of}
use Rattle.raft_log_recovery.specs.declared.builder.DualPipesBuilder.{DualPipesBuilder}
use Rattle.raft_log_recovery.specs.declared.scan.FileKind.TheVariants as kind
use Rattle.raft_log_recovery.specs.declared.scan.FileName.{FileName}
use Rattle.raft_log_recovery.specs.Both.{IsEitherFault, IsFoundBy, wanted_of}
use Rattle.raft_log_recovery.specs.Caused.{IsQueueFault}
use Rattle.raft_log_recovery.specs.Queue.{directories_in, names_in}
use Rattle.raft_log_recovery.specs.Scan.{AllMade, AreFound, IsMadeUnless, IsScanFault, OnlyMakes}
use Rattle.raft_log_recovery.proofs.CausedLemmas.{fault_then, none_unreadable}
use Rattle.raft_log_recovery.proofs.FoundLemmas.{name_slash}
use Rattle.raft_log_engine.specs.Opening.{CantBeOpened}
use Rattle.raft_log_engine.specs.Unopened.{AreCallsRefused, IsFirstUnmade, IsOpeningFault, IsQueueRefused, IsUnopenable, LacksForReserved}
use Rattle.raft_log_engine.proofs.Corrupt.{refused}
use Rattle.raft_log_engine.specs.declared.fault.EngineFault.{EngineFault}
use Rattle.raft_log_engine.specs.declared.fault.EngineFault.TheVariants as fault

-- ---- directories that are there

has_directory : (directory path : Text) (ds : List Text) → IsIn directory ds → is_some (name_in directory path) ≡ true → HasDirectory ds path
has_directory directory path [] there inside = absurd there
has_directory directory path (d ∷ ds) (inl is) inside = inl (subst (λ (x : Text). is_some (name_in x path) ≡ true) is inside)
has_directory directory path (d ∷ ds) (inr there) inside = inr (has_directory directory path ds there inside)

-- each of them is one for a log file
made_for : (directories : List Text) (d : Disk) (queue : LogQueue) (seq place : ℕ) → AllMade directories d → IsFileSeq seq → place < length directories → HasDirectory d.directories (path_in directories place (id_of queue seq))
made_for [] d queue seq place made number within = absurd (omega (arith, within))
made_for (directory ∷ directories) d queue seq zero made number within =
    let name : Text = log_file_name (id_of queue seq) in
    let path : Text = directory ++ 47 ∷ name in
    let named : name_in directory path ≡ Some name = in_directory directory path (47 ∷ name) name refl refl ∙ ap (λ b. cond b None (Some name)) (name_slash (kind.Log queue) seq name number refl) in
    has_directory directory path d.directories made.0 (ap is_some named)
made_for (directory ∷ directories) d queue seq (suc place) made number within = made_for directories d queue seq place made.1 number (omega (arith, within))

-- so none lacks
no_lack : (directories : List Text) (d : Disk) (queue : LogQueue) → AllMade directories d → LacksDirectory d directories (id_of queue 1) → ⊥
no_lack directories d queue made (place, within, none) = none (made_for directories d queue 1 place made (omega arith) within)

-- ---- what an opening calls

module _ (mode : RecoveryMode) (said : List Text) (d left : Disk) (bounded : Type 0) (old new : Meter) where
  abbrev IsErrorFor : Option OtherFault → Error → Type 0
  IsErrorFor unsound e = IsOpeningFault unsound mode said d left bounded old new (fault.Log e)

  -- the making of the directories
  pub scan_cause : (e : Error) → IsScanFault said d old new e → (NothingRefuses bounded old → IsMadeUnless e) → IsErrorFor None e
  scan_cause e (inl is) free = subst (λ (x : Error). IsErrorFor None x) (sym is) tt
  scan_cause e (inr (inl (is, file))) free = subst (λ (x : Error). IsErrorFor None x) (sym is) (inr (refl, file))
  scan_cause e (inr (inr (is, counted))) free =
      subst (λ (x : Error). IsErrorFor None x) (sym is) (inl (omega (arith, counted), λ none. absurd (never (subst (λ (x : Error). IsMadeUnless x) is (free none)))))
    where
      never : IsMadeUnless (Io Refused) → ⊥
      never (inl same) = absurd cc
      never (inr same) = absurd cc

  -- the opening of a queue
  queue_cause : (made : Disk) (names : List FileName) (queue : LogQueue) → OnlyMakes said d made → AllMade said made → AreFound made (kind.Log queue) said names → (e : Error) → IsQueueFault said queue names made left bounded old new e
      → ((f : CorruptionFault) → e ≡ Corruption f → (q : LogQueue) × CantBeOpened mode said q d) → IsErrorFor None e
  queue_cause made names queue makes all found (Corruption f) why corrupt = corrupt f refl
  queue_cause made names queue makes all found Memory why corrupt = tt
  queue_cause made names queue makes all found (Io i) (inl (f, is)) corrupt = absurd cc
  queue_cause made names queue makes all found (Io i) (inr why) corrupt = inr (queue, record { made = made; names = names; makes = makes; found = found; refused = why })
  queue_cause made names queue makes all found TryAgain (inl (f, is)) corrupt = absurd cc
  queue_cause made names queue makes all found TryAgain (inr why) corrupt = absurd why
  queue_cause made names queue makes all found (Other o) (inl (f, is)) corrupt = absurd cc
  queue_cause made names queue makes all found (Other other.NoFileNumber) (inr why) corrupt = absurd why
  queue_cause made names queue makes all found (Other other.FileGone) (inr why) corrupt = absurd (no_lack said made queue all why.1)
  queue_cause made names queue makes all found (Other other.PurgeBelowTarget) (inr why) corrupt = absurd why
  queue_cause made names queue makes all found (Other other.RecycleUnderVersion1) (inr why) corrupt = absurd why
  queue_cause made names queue makes all found (Other other.PrefillWithoutRecycle) (inr why) corrupt = absurd why
  queue_cause made names queue makes all found (Other other.NoTargetSize) (inr why) corrupt = absurd why
  queue_cause made names queue makes all found (Other other.NotADirectory) (inr why) corrupt = absurd why
  queue_cause made names queue makes all found (Other other.NumberOutOfSpan) (inr why) corrupt = absurd why
  queue_cause made names queue makes all found (InvalidArgument i) (inl (f, is)) corrupt = absurd cc
  queue_cause made names queue makes all found (InvalidArgument i) (inr why) corrupt = absurd why
  queue_cause made names queue makes all found EntryCompacted (inl (f, is)) corrupt = absurd cc
  queue_cause made names queue makes all found EntryCompacted (inr why) corrupt = absurd why
  queue_cause made names queue makes all found EntryNotFound (inl (f, is)) corrupt = absurd cc
  queue_cause made names queue makes all found EntryNotFound (inr why) corrupt = absurd why

  -- of both, by a builder
  pub both_cause : (b : DualPipesBuilder) → directories_in b ≡ said → (made : Disk) → OnlyMakes said d made → AllMade said made → IsFoundBy b Append made → IsFoundBy b Rewrite made → (free_then : Type 0) (between : Meter)
      → RefusesNoMore bounded free_then old between → (e : Error) → IsEitherFault b made left free_then between new e → ((f : CorruptionFault) → e ≡ Corruption f → (q : LogQueue) × CantBeOpened mode said q d) → IsErrorFor None e
  both_cause b at made makes all append rewrite free_then between before e (queue, why) corrupt =
      queue_cause made (names_in b queue) queue makes all (subst (λ (l : List Text). AreFound made (kind.Log queue) l (names_in b queue)) at (by_queue queue)) e
      (subst (λ (l : List Text). IsQueueFault l queue (names_in b queue) made left bounded old new e) at
      (fault_then (directories_in b) queue (names_in b queue) made made left bounded free_then old between new e refl before why)) corrupt
    where
      by_queue : (q : LogQueue) → IsFoundBy b q made
      by_queue Append = append
      by_queue Rewrite = rewrite

  -- the making and deleting of reserved files
  module _ (mid : Disk) (wanted kept : ℕ) (free_then : Type 0) (between : Meter) (few : wanted < 2 ^ 32) (on : mid.next ≤ left.next) (before : RefusesNoMore bounded free_then old between) where
    pub reserved_cause : (e : Error) → IsRefusalOrMemory between new e → (NothingRefuses free_then between → IsTakenBy {T = Unit {0}} ⊥ ⊥ (LacksNumbers mid (wanted - kept)) (Err e)) → IsErrorFor None e
    reserved_cause Memory why taken = tt
    reserved_cause (Io i) why taken = inl (omega (arith, before.counts, why), λ none. lacks (taken (still_free none before)))
      where
        lacks : 2 ^ 64 ≤ mid.next + (wanted - kept) → 2 ^ 64 ≤ left.next + (2 ^ 32 - 1)
        lacks none = omega (arith, none, few, on)
    reserved_cause (Corruption f) why taken = absurd why
    reserved_cause TryAgain why taken = absurd why
    reserved_cause (Other other.NoFileNumber) why taken = absurd why
    reserved_cause (Other other.FileGone) why taken = absurd why
    reserved_cause (Other other.PurgeBelowTarget) why taken = absurd why
    reserved_cause (Other other.RecycleUnderVersion1) why taken = absurd why
    reserved_cause (Other other.PrefillWithoutRecycle) why taken = absurd why
    reserved_cause (Other other.NoTargetSize) why taken = absurd why
    reserved_cause (Other other.NotADirectory) why taken = absurd why
    reserved_cause (Other other.NumberOutOfSpan) why taken = absurd why
    reserved_cause (InvalidArgument i) why taken = absurd why
    reserved_cause EntryCompacted why taken = absurd why
    reserved_cause EntryNotFound why taken = absurd why

  -- a fault of settings comes beside
  for_error : (unsound : Option OtherFault) (e : Error) → IsErrorFor None e → IsErrorFor unsound e
  for_error unsound Memory why = tt
  for_error unsound (Io i) why = why
  for_error unsound (Corruption f) why = why
  for_error unsound (Other f) (inl none) = absurd cc
  for_error unsound (Other f) (inr file) = inr file
  for_error unsound (InvalidArgument i) why = why
  for_error unsound TryAgain why = why
  for_error unsound EntryCompacted why = why
  for_error unsound EntryNotFound why = why

  pub for_settings : {T : Type 0} (unsound : Option OtherFault) (result : Result T EngineFault) → IfErr result (λ x. IsOpeningFault None mode said d left bounded old new x)
      → IfErr result (λ x. IsOpeningFault unsound mode said d left bounded old new x)
  for_settings unsound (Ok x) why = tt
  for_settings unsound (Err fault.Stopped) why = why
  for_settings unsound (Err fault.Marked) why = why
  for_settings unsound (Err fault.NotTaken) why = why
  for_settings unsound (Err fault.NotAMessage) why = why
  for_settings unsound (Err (fault.Log e)) why = for_error unsound e why

  -- where nothing is set to refuse
  free_queue : NothingRefuses bounded old → (queue : LogQueue) → IsQueueRefused said d left bounded old new queue → IsFirstUnmade said d left queue
  free_queue free queue why = record { made = why.made; names = why.names; makes = why.makes; found = why.found; barred = elim why.refused [ inl called ↦ called.1 free | inr unread ↦ absurd (none_unreadable bounded said queue why.names old free unread) ] }

  free_calls : NothingRefuses bounded old → AreCallsRefused said d left bounded old new → LacksForReserved left ⊎ ((queue : LogQueue) × IsFirstUnmade said d left queue)
  free_calls free (inl called) = inl (called.1 free)
  free_calls free (inr (queue, why)) = inr (queue, free_queue free queue why)

  free_error : (unsound : Option OtherFault) → NothingRefuses bounded old → (e : Error) → IsErrorFor unsound e → IsUnopenable unsound mode said d left (fault.Log e)
  free_error unsound free Memory why = tt
  free_error unsound free (Io i) why = free_calls free why
  free_error unsound free (Corruption f) why = why
  free_error unsound free (Other f) why = why
  free_error unsound free (InvalidArgument i) why = why
  free_error unsound free TryAgain why = why
  free_error unsound free EntryCompacted why = why
  free_error unsound free EntryNotFound why = why

  pub free_fault : (unsound : Option OtherFault) → NothingRefuses bounded old → (x : EngineFault) → IsOpeningFault unsound mode said d left bounded old new x → IsUnopenable unsound mode said d left x
  free_fault unsound free fault.Stopped why = why
  free_fault unsound free fault.Marked why = why
  free_fault unsound free fault.NotTaken why = why
  free_fault unsound free fault.NotAMessage why = why
  free_fault unsound free (fault.Log e) why = free_error unsound free e why

  pub free_opening : {T : Type 0} (unsound : Option OtherFault) (result : Result T EngineFault) → IfErr result (λ x. IsOpeningFault unsound mode said d left bounded old new x) → NothingRefuses bounded old
      → IfErr result (λ x. IsUnopenable unsound mode said d left x)
  free_opening unsound (Ok x) why free = tt
  free_opening unsound (Err x) why free = free_fault unsound free x why

-- settings that are refused
pub unsound_cause : (T : Type 0) (mode : RecoveryMode) (said : List Text) (d : Disk) (bounded : Type 0) (m : Meter) (o : Option OtherFault) (e : Error) → MatchOption o (IsOk (refused T e)) (λ f. refused T e ≡ Err (Other f))
    → IsOpeningFault o mode said d d bounded m m (fault.Log e)
unsound_cause T mode said d bounded m None e told = absurd (false≢true told)
unsound_cause T mode said d bounded m (Some f) e told =
    let same : e ≡ Other f = cc in
    subst (λ (x : Error). IsOpeningFault (Some f) mode said d d bounded m m (fault.Log x)) (sym same) (inl refl)

-- ---- how many reserved files an opening wants

few_files : (is_none : Bool) (n : ℕ) → cond is_none 0 (min n (2 ^ 32 - 1)) < 2 ^ 32
few_files true n = omega arith
few_files false n = omega arith

few_made : (is_set : Bool) (n : ℕ) → n < 2 ^ 32 → cond is_set n 0 < 2 ^ 32
few_made true n few = few
few_made false n few = omega arith

pub few_wanted : (settings : Settings) (count : ℕ) → wanted_of settings count < 2 ^ 32
few_wanted settings count =
    let limit : ℕ = (unwrap_or settings.prefill_limit (size_of 0)).0 in
    let target : ℕ = settings.target_file_size.0 in
    let made : prefill_capacity_of settings < 2 ^ 32 = few_made (recycles settings && settings.prefill_for_recycle) (file_capacity limit target) (few_files (target == 0) (limit / target * 3 / 2)) in
    omega (arith, made)

-- what a preparation tells of its refusals it tells of those since an earlier moment
pub prepared_since : {a b : Type 0} (p : SinglePipe) (d : Disk) (wanted : ℕ) (first between last : Meter) → RefusesNoMore a b first between → IsPreparedOf p d wanted between last → IsPreparedOf p d wanted first last
prepared_since p d wanted first between last before (inl all) = inl all
prepared_since p d wanted first between last before (inr (inl obstructed)) = inr (inl obstructed)
prepared_since p d wanted first between last before (inr (inr (none, rises))) = inr (inr (none, omega (arith, before.counts, rises)))
