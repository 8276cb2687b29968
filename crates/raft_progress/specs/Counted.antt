-- A progress whose granted value is counted.
use Rattle.std.specs.Prelude.{◌≡◌, Bool, true, false, Option, Some, None}
use Rattle.std.specs.declared.cmp.Ordering.{Ordering}
use Rattle.std.specs.Ordering.{is_le, is_lt}
use Rattle.raft_progress.specs.Granted.{IsFalling, IsGranted}
use Rattle.raft_progress.specs.Parts.{Parts}

module _ {K V P Q : Type 0} (eq : K → K → Bool) (cmp : P → P → Ordering) (compared : V → P) (accepts : Q → (K → Bool) → Bool) where
  -- the voters stand in falling order, and granted is the greatest of the value it was built with
  -- and those that a quorum has reached
  abbrev pub IsCounted : Parts K V P Q → Type 0
  IsCounted p = IsFalling cmp compared p.voters × IsGranted eq cmp compared (accepts p.quorum_set) p.built_with p.granted p.voters

module _ {V P : Type 0} (cmp : P → P → Ordering) (compared : V → P) where
  -- there is no value, or the new one is no less
  abbrev pub IsNoLess : Option V → V → Type 0
  IsNoLess None value = Unit {0}
  IsNoLess (Some before) value = is_le (cmp (compared before) (compared value)) ≡ true

  -- there is a value, and the new one is below it
  abbrev pub lowers_value : Option V → V → Bool
  lowers_value None value = false
  lowers_value (Some before) value = is_lt (cmp (compared value) (compared before))

module _ {V P : Type 0} (compared : V → P) where
  -- there is no value, or the new one has the same part that is compared
  abbrev pub IsSamePart : Option V → V → Type 0
  IsSamePart None value = Unit {0}
  IsSamePart (Some before) value = compared before ≡ compared value
