-- Why a call is refused.
use Rattle.std.specs.Prelude.{◌≡◌, ◌⊎◌, ℕ, ◌+◌, ◌-◌, ◌^◌, ◌<◌, ◌≤◌, min, List, [], Option, Some, None, Result, Ok, Err, IsErr, IsErrOf}
use Rattle.std.specs.Prelude.{Bool, true, false, IsTrue, is_ok, if◌then◌else◌}
use Rattle.raft_log_disk.specs.declared.fault.IoFault.{IoFault}
use Rattle.raft_log_disk.specs.declared.fault.IoFault.TheVariants.{NotFound, NoSpace, Refused, Memory}

-- what a file system tells of its refusals
pub record Meter : Type 0 where
  -- how many changing calls were `Refused` or found no space; it stays at 2^64 - 1
  pub refusals : ℕ
  -- how many writes found no space; it stays at 2^64 - 1
  pub lacks : ℕ
  -- how many changing calls are taken before each is refused, if that is known
  pub calls_left : Option ℕ
  -- the paths whose reads are refused
  pub unreadable : List (List ℕ)
  -- whether it may refuse changing calls for reasons of its own, as a real disk does
  pub is_faulty : Bool

-- one changing call fewer
abbrev pub spent : Option ℕ → Option ℕ
spent None = None
spent (Some n) = Some (n - 1)

-- the count after a call: a refusal and want of space add one, and the count stays at 2^64 - 1
abbrev pub counted : {T : Type 0} → Result T IoFault → ℕ → ℕ
counted (Ok x) refusals = refusals
counted (Err Refused) refusals = min (refusals + 1) (2 ^ 64 - 1)
counted (Err NotFound) refusals = refusals
counted (Err NoSpace) refusals = min (refusals + 1) (2 ^ 64 - 1)
counted (Err Memory) refusals = refusals

-- the count of writes without space after one more write
abbrev pub lacked : {T : Type 0} → Result T IoFault → ℕ → ℕ
lacked (Ok x) lacks = lacks
lacked (Err NoSpace) lacks = min (lacks + 1) (2 ^ 64 - 1)
lacked (Err Refused) lacks = lacks
lacked (Err NotFound) lacks = lacks
lacked (Err Memory) lacks = lacks

-- why a changing call was refused: `absent` says that what it names is not there, and `cramped`
-- that room is missing. Where either holds the call is an error, and `NotFound` and `NoSpace` come
-- only there
pub record IsCausedCall {T : Type 0} (is_write : Bool) (absent cramped : Type 0) (old new : Meter) (result : Result T IoFault) : Type 0 where
  pub refused : new.refusals ≡ counted result old.refusals
  pub lacks : new.lacks ≡ (if is_write then lacked result old.lacks else old.lacks)
  pub missing : absent → IsErr result
  pub lacking : cramped → IsErr result
  pub not_found : IsErrOf result NotFound → absent
  pub no_space : IsErrOf result NoSpace → cramped
  pub reads : new.unreadable ≡ old.unreadable

-- of a write
abbrev pub HasWriteCause : {T : Type 0} → (absent cramped : Type 0) → Meter → Meter → Result T IoFault → Type 0
HasWriteCause absent cramped old new result = IsCausedCall true absent cramped old new result

-- and of another changing call
abbrev pub HasCause : {T : Type 0} → (absent cramped : Type 0) → Meter → Meter → Result T IoFault → Type 0
HasCause absent cramped old new result = IsCausedCall false absent cramped old new result

-- it is one changing call. It is refused where no more are taken, never `Ok` where `barred` holds,
-- and `Refused` for no other reason but by a faulty file system
pub record IsOneCall {T : Type 0} (barred : Type 0) (old new : Meter) (result : Result T IoFault) : Type 0 where
  pub left : new.calls_left ≡ spent old.calls_left
  pub blown : old.calls_left ≡ Some 0 → IsErrOf result Refused
  pub stopped : barred → IsErr result
  pub why : IsErrOf result Refused → (old.calls_left ≡ Some 0) ⊎ (IsTrue old.is_faulty ⊎ barred)
  pub faulty : new.is_faulty ≡ old.is_faulty

-- it is passed over, as if it had not been made
abbrev pub IsPassedOver : {T : Type 0} → Meter → Meter → Result T IoFault → Type 0
IsPassedOver old new result = (new ≡ old) × IsTrue (is_ok result)

-- of a reading call: why it was refused
pub record HasReadCause {T : Type 0} (absent unreadable : Type 0) (result : Result T IoFault) : Type 0 where
  pub missing : absent → IsErr result
  pub unread : unreadable → IsErrOf result Refused
  pub refused : IsErrOf result Refused → unreadable
  pub not_found : IsErrOf result NotFound → absent
  pub no_space : IsErrOf result NoSpace → ⊥

-- nothing changes in a call that was not taken for another reason than a refusal
abbrev pub UnlessRefused : {T : Type 0} → Result T IoFault → Type 0 → Type 0
UnlessRefused (Ok x) P = Unit {0}
UnlessRefused (Err Refused) P = Unit {0}
UnlessRefused (Err NotFound) P = P
UnlessRefused (Err NoSpace) P = P
UnlessRefused (Err Memory) P = P

-- ---- where nothing refuses

-- nothing is set to refuse a call: no fuse, no path whose reads are refused, no faults of the file system's own, and no bound
-- on the bytes of a directory
pub record NothingRefuses (bounded : Type 0) (meter : Meter) : Type 0 where
  pub fuse : meter.calls_left ≡ None
  pub reads : meter.unreadable ≡ []
  pub sound : IsTrue meter.is_faulty → ⊥
  pub room : bounded → ⊥

-- the count of refusals rose by so many at least, or stands at its end
abbrev pub Rises : ℕ → Meter → Meter → Type 0
Rises n old new = min (old.refusals + n) (2 ^ 64 - 1) ≤ new.refusals

-- the count of writes without space rose by so many at least, or stands at its end
abbrev pub Lacks : ℕ → Meter → Meter → Type 0
Lacks n old new = min (old.lacks + n) (2 ^ 64 - 1) ≤ new.lacks

-- after some calls no more is set to refuse than before, and neither count fell: where no fuse was set none is, and one that was
-- set takes no more calls than it did
pub record RefusesNoMore (bounded bounded_then : Type 0) (old new : Meter) : Type 0 where
  pub fuse : old.calls_left ≡ None → new.calls_left ≡ None
  pub burns : (n : ℕ) → old.calls_left ≡ Some n → (m : ℕ) × (new.calls_left ≡ Some m) × (m ≤ n)
  pub reads : new.unreadable ≡ old.unreadable
  pub sound : new.is_faulty ≡ old.is_faulty
  pub room : bounded_then → bounded
  pub counts : Rises 0 old new
  pub spaces : Lacks 0 old new

-- each changing call is refused
abbrev pub IsBlown : Meter → Type 0
IsBlown meter = meter.calls_left ≡ Some 0

-- of a fuse one call more is spent at least: none was blown
abbrev pub Spends : Meter → Meter → Type 0
Spends old new = (n : ℕ) → old.calls_left ≡ Some n → (m : ℕ) × (new.calls_left ≡ Some m) × (m < n)

-- a call is taken unless memory is missing, what it names isn't there, or what it asks for can't be
abbrev pub IsTaken : {T : Type 0} → Type 0 → Type 0 → Result T IoFault → Type 0
IsTaken absent barred (Ok x) = Unit {0}
IsTaken absent barred (Err NotFound) = absent
IsTaken absent barred (Err NoSpace) = barred
IsTaken absent barred (Err Refused) = barred
IsTaken absent barred (Err Memory) = Unit {0}
