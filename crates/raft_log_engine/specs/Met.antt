-- Which faults calls of a log meet, from one state of it to another: each has its cause.
use Rattle.std.specs.Prelude.{◌≡◌, ◌⊎◌, false, Option, Some, None}
use Rattle.std.proofs.Common.{inl, inr, refl, subst, arith, ◌∙◌}
use Rattle.raft_log_disk.specs.Disk.{Disk, IsIn}
use Rattle.raft_log_disk.specs.Cause.{Lacks, Meter, RefusesNoMore, Rises, Spends}
use Rattle.raft_log_disk.proofs.RefusalLemmas.{no_more_same, no_more_then, spends_before, spends_then}
use Rattle.raft_log_files.specs.declared.error.Error.TheVariants.{Io, Corruption, InvalidArgument, TryAgain, Memory, Other, EntryCompacted, EntryNotFound}
use Rattle.raft_log_cleaner.specs.Caused.{IsOfFile, RefusesReads}
use Rattle.raft_log_engine.specs.Left.{answers_on}
use Rattle.raft_log_engine.specs.Log.{LogOn}
use Rattle.raft_log_engine.specs.declared.fault.EngineFault.{EngineFault}
use Rattle.raft_log_engine.specs.declared.fault.EngineFault.TheVariants.{Log, NotTaken, Marked, NotAMessage, Stopped}

-- `Io` comes only where the file system counted a refusal or refuses reads of a path, `TryAgain` only where two writes found no
-- space, `Stopped` only of a log that had failed. No bytes are `Corruption`
abbrev pub IsLogFault : (failed : Type 0) → Meter → Meter → EngineFault → Type 0
IsLogFault failed old new Stopped = failed
IsLogFault failed old new Marked = Unit {0}
IsLogFault failed old new NotTaken = Unit {0}
IsLogFault failed old new NotAMessage = ⊥
IsLogFault failed old new (Log Memory) = Unit {0}
IsLogFault failed old new (Log (Io f)) = Rises 1 old new ⊎ RefusesReads old
IsLogFault failed old new (Log TryAgain) = Lacks 2 old new
IsLogFault failed old new (Log (Other f)) = IsOfFile f
IsLogFault failed old new (Log (Corruption f)) = ⊥
IsLogFault failed old new (Log (InvalidArgument f)) = ⊥
IsLogFault failed old new (Log EntryCompacted) = Unit {0}
IsLogFault failed old new (Log EntryNotFound) = Unit {0}

-- the caller's mistake: a batch isn't taken, or an entry that is asked for isn't there
abbrev pub IsMisuse : EngineFault → Type 0
IsMisuse Stopped = ⊥
IsMisuse Marked = Unit {0}
IsMisuse NotTaken = Unit {0}
IsMisuse NotAMessage = ⊥
IsMisuse (Log Memory) = ⊥
IsMisuse (Log (Io f)) = ⊥
IsMisuse (Log TryAgain) = ⊥
IsMisuse (Log (Other f)) = ⊥
IsMisuse (Log (Corruption f)) = ⊥
IsMisuse (Log (InvalidArgument f)) = ⊥
IsMisuse (Log EntryCompacted) = Unit {0}
IsMisuse (Log EntryNotFound) = Unit {0}

-- so for the fault that calls met, if they met one
abbrev pub HasLogCause : (failed : Type 0) → Meter → Meter → Option EngineFault → Type 0
HasLogCause failed old new None = Unit {0}
HasLogCause failed old new (Some fault) = IsLogFault failed old new fault

module _ {F : Type 0} (disk : F → Disk) (is_bounded : F → Type 0) (meter : F → Meter) where
  -- Calls led from one log to the other, and met this fault at the last of them, or none. No more is set to refuse behind them,
  -- and neither count fell. Where they met none and a fuse was set, it took one call more at least, unless the log answers just
  -- what it did: behind a blown fuse calls that store meet a fault
  pub record Meets (old new : LogOn F) (met : Option EngineFault) : Type 0 where
    pub later : RefusesNoMore (is_bounded old.engine.files) (is_bounded new.engine.files) (meter old.engine.files) (meter new.engine.files)
    pub sound : met ≡ None → old.has_failed ≡ false → new.has_failed ≡ false
    pub cause : HasLogCause (old.has_failed ≡ false → ⊥) (meter old.engine.files) (meter new.engine.files) met
    pub stores : met ≡ None → Spends (meter old.engine.files) (meter new.engine.files) ⊎ (answers_on disk new.engine ≡ answers_on disk old.engine)

  pub meets_none : (x : LogOn F) → Meets x x None
  meets_none x = record {
    later = no_more_same (is_bounded x.engine.files) (meter x.engine.files);
    sound = λ is going. going;
    cause = tt;
    stores = λ none. inr refl;
  }

-- what is spent of a fuse by calls and those behind them
stores_then : {F : Type 0} (disk : F → Disk) (meter : F → Meter) (x y z : LogOn F) (a b c : Type 0) → RefusesNoMore a b (meter x.engine.files) (meter y.engine.files)
    → RefusesNoMore b c (meter y.engine.files) (meter z.engine.files) → Spends (meter x.engine.files) (meter y.engine.files) ⊎ (answers_on disk y.engine ≡ answers_on disk x.engine)
    → Spends (meter y.engine.files) (meter z.engine.files) ⊎ (answers_on disk z.engine ≡ answers_on disk y.engine)
    → Spends (meter x.engine.files) (meter z.engine.files) ⊎ (answers_on disk z.engine ≡ answers_on disk x.engine)
stores_then disk meter x y z a b c first second (inl spends) after = inl (spends_before (meter x.engine.files) (meter y.engine.files) (meter z.engine.files) spends second)
stores_then disk meter x y z a b c first second (inr same) (inl spends) = inl (spends_then (meter x.engine.files) (meter y.engine.files) (meter z.engine.files) first spends)
stores_then disk meter x y z a b c first second (inr same) (inr still) = inr (still ∙ same)

-- a cause stands behind calls that met none
later_cause : (a b : Type 0) (before between after : Meter) (failed failed_then : Type 0) → (failed_then → failed) → RefusesNoMore a b before between → (fault : EngineFault)
    → IsLogFault failed_then between after fault → IsLogFault failed before after fault
later_cause a b before between after failed failed_then fails first Stopped why = fails why
later_cause a b before between after failed failed_then fails first Marked why = tt
later_cause a b before between after failed failed_then fails first NotTaken why = tt
later_cause a b before between after failed failed_then fails first NotAMessage why = why
later_cause a b before between after failed failed_then fails first (Log Memory) why = tt
later_cause a b before between after failed failed_then fails first (Log (Io f)) (inl rises) = inl (omega (arith, first.counts, rises))
later_cause a b before between after failed failed_then fails first (Log (Io f)) (inr (path, is)) = inr (path, subst (λ paths. IsIn path paths) first.reads is)
later_cause a b before between after failed failed_then fails first (Log TryAgain) why = omega (arith, first.spaces, why)
later_cause a b before between after failed failed_then fails first (Log (Other f)) why = why
later_cause a b before between after failed failed_then fails first (Log (Corruption f)) why = why
later_cause a b before between after failed failed_then fails first (Log (InvalidArgument f)) why = why
later_cause a b before between after failed failed_then fails first (Log EntryCompacted) why = tt
later_cause a b before between after failed failed_then fails first (Log EntryNotFound) why = tt

pub meets_later : {F : Type 0} (disk : F → Disk) (is_bounded : F → Type 0) (meter : F → Meter) (x y z : LogOn F) (met : Option EngineFault)
    → Meets disk is_bounded meter x y None → Meets disk is_bounded meter y z met → Meets disk is_bounded meter x z met
meets_later disk is_bounded meter x y z None first second = record {
  later = no_more_then first.later second.later;
  sound = λ is going. second.sound refl (first.sound refl going);
  cause = tt;
  stores = λ none. stores_then disk meter x y z (is_bounded x.engine.files) (is_bounded y.engine.files) (is_bounded z.engine.files) first.later second.later (first.stores refl) (second.stores none);
}
meets_later disk is_bounded meter x y z (Some fault) first second = record {
  later = no_more_then first.later second.later;
  sound = λ is going. second.sound is (first.sound refl going);
  cause =
      let free = is_bounded x.engine.files in
      let free_then = is_bounded y.engine.files in
      later_cause free free_then (meter x.engine.files) (meter y.engine.files) (meter z.engine.files) (x.has_failed ≡ false → ⊥) (y.has_failed ≡ false → ⊥)
      (λ failed going. failed (first.sound refl going)) first.later fault second.cause;
  stores = λ none. stores_then disk meter x y z (is_bounded x.engine.files) (is_bounded y.engine.files) (is_bounded z.engine.files) first.later second.later (first.stores refl) (second.stores none);
}
