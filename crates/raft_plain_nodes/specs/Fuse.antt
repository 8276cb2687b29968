-- How many writes of a log with a fuse go on.
use Rattle.std.specs.Prelude.{ℕ, zero, suc, ◌-◌, Option, Some, None}

-- behind the next one; none where that is refused
abbrev pub left_behind : Option ℕ → Option (Option ℕ)
left_behind None = Some None
left_behind (Some zero) = None
left_behind (Some (suc n)) = Some (Some n)

-- where the write of this number is the first one that is refused
abbrev pub left_until : Option ℕ → Option ℕ
left_until None = None
left_until (Some first) = Some (first - 1)
