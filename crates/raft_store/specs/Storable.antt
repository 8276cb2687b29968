-- What a store takes: a storing call of this kind is refused for want of memory alone.
use Rattle.std.specs.Prelude.{◌≡◌, ◌≤◌, ◌<◌, ◌+◌, ◌^◌, ℕ, Bool, false, List, length, Option, None, IfSome, IsTrue, All}
use Rattle.std.proofs.Common.{subst, sym}
use Rattle.raft_values.specs.declared.log_id.LogId.{LogId}
use Rattle.raft_group_step.specs.Limits.{entries_in_request, snapshot_limit}
use Rattle.raft_group_step.specs.Refusal.{is_payload_short}
use Rattle.raft_group_step.specs.Values.{Entry, LoggedMembership, is_within_limits}
use Rattle.raft_group_step.specs.StoredGroup.{Snapshot, StoredGroup, StoringCommand, end_place, first_place}
use Rattle.raft_group_step.specs.StoredGroup.{CutFrom, MakeGroup, PutEntries, RemoveUpTo, SetSnapshot, SetVote, StartAfter}
use Rattle.raft_group_storage.specs.Keeping.{Fails, FailsAnyhow}
use Rattle.raft_wire.specs.declared.error.FrameFault.TheVariants as frame_fault
use Rattle.raft_log_records.specs.Spelling.{record_len}
use Rattle.raft_machines.specs.Fold.{fold_of}
use Rattle.raft_machines.specs.Machine.{MachineRules}
use Rattle.raft_store.specs.Batches.{entry_changes, of_group}
use Rattle.raft_store.specs.declared.fault.StoreRefusal.{StoreRefusal}
use Rattle.raft_store.specs.declared.fault.StoreRefusal.TheVariants as refusal

-- each command and membership is within its limits
abbrev pub AreShort : List Entry → Type 0
AreShort es = All (λ (e : Entry). IsTrue (is_payload_short e.payload)) es

-- entries that begin inside the log or at its end, at places that have numbers: no more than a request has, each within its limits
pub record IsStorablePut (s : StoredGroup) (place : ℕ) (es : List Entry) : Type 0 where
  pub low : first_place s ≤ place
  pub high : place ≤ end_place s
  pub places : place + length es < 2 ^ 64
  pub count : length es ≤ entries_in_request
  pub entries : AreShort es

-- a purge point that is none below the one that is there, and has a place behind it
pub record IsStorablePurge (s : StoredGroup) (id : LogId ℕ) : Type 0 where
  pub low : first_place s ≤ id.index + 1
  pub place : id.index + 1 < 2 ^ 64

-- a snapshot whose membership is within its limits, and the machine's bytes of what its entries give
pub record IsStorableSnapshot (rules : MachineRules) (y : Snapshot) : Type 0 where
  pub membership : IfSome y.membership (λ (m : LoggedMembership). IsTrue (is_within_limits m.membership))
  pub bytes : length (rules.snapshot (fold_of rules y.«prefix»)) ≤ snapshot_limit

-- A store takes the command where this is stored. A put of as many entries as this is shorter than a record may be, and so is a
-- snapshot within its limits.
abbrev pub IsStorable : MachineRules → StoredGroup → StoringCommand → Type 0
IsStorable rules s MakeGroup = Unit {0}
IsStorable rules s (SetVote vote) = Unit {0}
IsStorable rules s (PutEntries place es) = IsStorablePut s place es
IsStorable rules s (CutFrom place) = Unit {0}
IsStorable rules s (RemoveUpTo id) = IsStorablePurge s id
IsStorable rules s (SetSnapshot snapshot) = IsStorableSnapshot rules snapshot
IsStorable rules s (StartAfter id) = IsStorablePurge s id

-- ---- why a put is refused

-- memory ran out, a place has no number, an entry is past its limits, or the record would be longer than it may be
abbrev pub IsPutRefusal : ℕ → ℕ → List Entry → StoreRefusal → Type 0
IsPutRefusal group place es refusal.Memory = Unit {0}
IsPutRefusal group place es refusal.Gap = ⊥
IsPutRefusal group place es refusal.BelowPurge = ⊥
IsPutRefusal group place es refusal.NoPlace = 2 ^ 64 ≤ place + length es
IsPutRefusal group place es refusal.TooLong = 33554432 < record_len (of_group group (entry_changes place es (place + length es)))
IsPutRefusal group place es (refusal.Value fault) = (fault ≡ frame_fault.TooLong) × (AreShort es → ⊥)
IsPutRefusal group place es refusal.BadEnd = ⊥

-- ---- where a call may have failed

-- by what is noted: no cleaning failed, and where a command was refused that the store takes, memory was wanting
abbrev pub FailsBy : MachineRules → Option StoreRefusal → Bool → Fails
FailsBy rules noted cleaning c s = (cleaning ≡ false) × IfSome noted (λ refused. IsStorable rules s c → refused ≡ refusal.Memory)

-- where nothing is noted, and no cleaning failed, it may have failed at any one
pub fails_anyhow : (rules : MachineRules) (noted : Option StoreRefusal) (cleaning : Bool) → noted ≡ None → cleaning ≡ false → FailsAnyhow (FailsBy rules noted cleaning)
fails_anyhow rules noted cleaning is calm c s = (calm, subst (λ (x : Option StoreRefusal). IfSome x (λ refused. IsStorable rules s c → refused ≡ refusal.Memory)) (sym is) tt)
