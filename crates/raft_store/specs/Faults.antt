-- Why a store refuses a call, what is noted of that, and what a call that met a fault or none leaves.
use Rattle.std.specs.Prelude.{◌≡◌, ◌⊎◌, ℕ, Bool, true, List, [], ◌∷◌, Option, Some, None, Result, MatchResult, option_and_then}
use Rattle.std.proofs.Common.{inl, refl, subst, sym}
use Rattle.raft_wire.specs.declared.error.FrameError.{FrameError}
use Rattle.raft_wire.specs.declared.error.FrameError.TheVariants as errors
use Rattle.raft_log_records.specs.declared.error.RecordError.{RecordError}
use Rattle.raft_log_records.specs.declared.error.RecordError.TheVariants as records
use Rattle.raft_log_memtables.specs.Content.{Content}
use Rattle.raft_content_log.specs.Leaving.{Leaves}
use Rattle.raft_group_step.specs.StoredGroup.{StoredGroup}
use Rattle.raft_machines.specs.Machine.{MachineRules}
use Rattle.raft_store.specs.Batches.{ShowsBy}
use Rattle.raft_store.specs.declared.recent.Recent.{Recent}
use Rattle.raft_store.specs.declared.fault.StoreRefusal.{StoreRefusal}
use Rattle.raft_store.specs.declared.fault.StoreRefusal.TheVariants as refusal
use Rattle.raft_store.specs.declared.fault.StoreFault.{StoreFault}
use Rattle.raft_store.specs.declared.fault.StoreFault.TheVariants.{Log, Refused}

-- the refusal where bytes are not read, or a value is not written
abbrev pub refusal_of : FrameError → StoreRefusal
refusal_of (errors.Fault fault) = refusal.Value fault
refusal_of errors.StreamFailed = refusal.Memory
refusal_of errors.Memory = refusal.Memory

-- the refusal where a batch takes no item more
abbrev pub refusal_of_record : RecordError → StoreRefusal
refusal_of_record records.Memory = refusal.Memory
refusal_of_record records.TooLong = refusal.TooLong
refusal_of_record (records.Corruption fault) = refusal.TooLong

-- memory ran out, or it is this refusal, and so
abbrev pub IsMemoryOr : StoreRefusal → Type 0 → StoreRefusal → Type 0
IsMemoryOr named so refused = (refused ≡ refusal.Memory) ⊎ ((refused ≡ named) × so)

-- this value was read, unless memory ran out
abbrev pub IsRead : {A : Type 0} → Result A StoreRefusal → A → Type 0
IsRead result value = MatchResult result (λ found. found ≡ value) (λ refused. refused ≡ refusal.Memory)

-- a fault of the log is no misuse of it
abbrev pub IsNoMisuse : {F : Type 0} → (F → Type 0) → StoreFault F → Type 0
IsNoMisuse misuse (Log fault) = misuse fault → ⊥
IsNoMisuse misuse (Refused refused) = Unit {0}

-- it is the log's own fault, and no misuse of the log, or want of memory: no stored value was refused
abbrev pub IsLogOrMemory : {F : Type 0} → (F → Type 0) → StoreFault F → Type 0
IsLogOrMemory misuse (Log fault) = misuse fault → ⊥
IsLogOrMemory misuse (Refused refused) = refused ≡ refusal.Memory

-- the log's own fault, if it is one
abbrev pub log_fault : {F : Type 0} → StoreFault F → Option F
log_fault (Log fault) = Some fault
log_fault (Refused refused) = None

-- ---- what is noted

-- what is noted behind a call: its refusal, or else what was noted before
abbrev pub noted_after : {F : Type 0} → Option StoreRefusal → Option (StoreFault F) → Option StoreRefusal
noted_after before None = before
noted_after before (Some (Log fault)) = before
noted_after before (Some (Refused refused)) = Some refused

-- a refusal that was met is want of memory, or noted
abbrev pub IsNoted : {F : Type 0} → Option (StoreFault F) → Option StoreRefusal → Type 0
IsNoted None noted = Unit {0}
IsNoted (Some (Log fault)) noted = Unit {0}
IsNoted (Some (Refused refused)) noted = (refused ≡ refusal.Memory) ⊎ (noted ≡ Some refused)

-- ---- what calls meet

-- A store is used well by its members: its log is sound, and of each group it shows one stored part, for some machine. What a
-- snapshot's bytes restore doesn't matter to the log, so any snapshot may be stored.
abbrev pub IsUsedWell : {X : Type 0} → (X → Type 0) → (X → Content (List ℕ)) → (X → Leaves) → X → Option Recent → Type 0
IsUsedWell sound answers leaves log recent =
    sound log × ((group : ℕ) → (rules : MachineRules) × (s : StoredGroup) × ShowsBy rules sound answers leaves log recent group (s ∷ []))

-- Behind calls on a store that is used well it is still, where they met no fault, and a log's fault is no misuse of the log. Of a
-- cleaning that failed no log says that.
abbrev pub LeavesWell : {F : Type 0} → (F → Type 0) → Type 0 → Bool → Option (StoreFault F) → Type 0
LeavesWell misuse well cleaning None = well
LeavesWell misuse well cleaning (Some (Log fault)) = (cleaning ≡ true) ⊎ (misuse fault → ⊥)
LeavesWell misuse well cleaning (Some (Refused refused)) = Unit {0}

-- Calls led from one store to another and met this fault, or none: what that is to the log, what is noted of it, and what they
-- leave of a store that was used well.
pub record Meets {F : Type 0} (log_meets : Option F → Type 0) (misuse : F → Type 0) (well_before well_after : Type 0)
    (refused : Option StoreRefusal) (cleaning : Bool) (met : Option (StoreFault F)) : Type 0 where
  pub log : log_meets (option_and_then log_fault met)
  pub noted : IsNoted met refused
  pub used_well : well_before → LeavesWell misuse well_after cleaning met

module _ {F : Type 0} (misuse : F → Type 0) where
  -- no call meets no fault
  pub no_call : (log_meets : Option F → Type 0) (well : Type 0) (noted : Option StoreRefusal) (cleaning : Bool) → log_meets None → Meets log_meets misuse well well noted cleaning None
  no_call log_meets well noted cleaning met = record {
    log = met;
    noted = tt;
    used_well = λ is. is;
  }

  -- calls that met none are followed by others
  pub calls_later : (first second both : Option F → Type 0) (before between after : Type 0) (one two : Option StoreRefusal) (a b : Bool) (met : Option (StoreFault F))
      → (first None → second (option_and_then log_fault met) → both (option_and_then log_fault met))
      → Meets first misuse before between one a None → Meets second misuse between after two b met → Meets both misuse before after two b met
  calls_later first second both before between after one two a b met later x y = record {
    log = later x.log y.log;
    noted = y.noted;
    used_well = λ is. y.used_well (x.used_well is);
  }

  -- memory may be missing at any time
  pub calls_want : (log_meets : Option F → Type 0) (before after : Type 0) (noted : Option StoreRefusal) (cleaning : Bool) (fault : StoreFault F) → fault ≡ Refused refusal.Memory
      → Meets log_meets misuse before after noted cleaning None → Meets log_meets misuse before after noted cleaning (Some fault)
  calls_want log_meets before after noted cleaning fault is x = subst (λ (f : StoreFault F). Meets log_meets misuse before after noted cleaning (Some f)) (sym is) (record {
    log = x.log;
    noted = inl refl;
    used_well = λ used. tt;
  })
