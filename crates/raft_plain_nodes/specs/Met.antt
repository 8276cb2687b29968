-- Which faults calls of a log with a fuse meet.
use Rattle.std.specs.Prelude.{◌≡◌, ◌≤◌, ℕ, zero, Option, Some, None}
use Rattle.std.proofs.Common.{arith}
use Rattle.raft_content_log.specs.declared.plain_log.PlainFault.{PlainFault}
use Rattle.raft_plain_nodes.specs.declared.fused_log.FusedFault.{FusedFault}
use Rattle.raft_plain_nodes.specs.declared.fused_log.FusedFault.TheVariants.{Plain, Refused}

-- no more writes are left, and a fuse is neither set nor taken
abbrev pub HasNoMoreLeft : Option ℕ → Option ℕ → Type 0
HasNoMoreLeft None None = Unit {0}
HasNoMoreLeft None (Some n) = ⊥
HasNoMoreLeft (Some m) None = ⊥
HasNoMoreLeft (Some m) (Some n) = n ≤ m

-- Calls led from a log with so many writes left to one with so many, and met this fault at the last of them, or none. A write is
-- refused only where none is left
pub record Meets (old new : Option ℕ) (met : Option FusedFault) : Type 0 where
  pub left : HasNoMoreLeft old new
  pub refused : met ≡ Some Refused → new ≡ Some zero

same_left : (left : Option ℕ) → HasNoMoreLeft left left
same_left None = tt
same_left (Some n) = omega arith

later_left : (x y z : Option ℕ) → HasNoMoreLeft x y → HasNoMoreLeft y z → HasNoMoreLeft x z
later_left None None None first second = tt
later_left None None (Some n) first second = second
later_left None (Some m) z first second = absurd first
later_left (Some l) None z first second = absurd first
later_left (Some l) (Some m) None first second = second
later_left (Some l) (Some m) (Some n) first second = omega (arith, first, second)

pub meets_none : (left : Option ℕ) → Meets left left None
meets_none left = record { left = same_left left; refused = λ no. absurd (let wrong : None ≡ Some Refused = no in cc) }

-- the log in it fails
pub meets_plain : (left next : Option ℕ) (fault : PlainFault) → HasNoMoreLeft left next → Meets left next (Some (Plain fault))
meets_plain left next fault less = record { left = less; refused = λ no. absurd (let wrong : Some (Plain fault) ≡ Some Refused = no in cc) }

pub meets_later : (x y z : Option ℕ) (met : Option FusedFault) → Meets x y None → Meets y z met → Meets x z met
meets_later x y z met first second = record { left = later_left x y z first.left second.left; refused = second.refused }
