-- Places of a log that may be none.
use Rattle.std.specs.Prelude.{ℕ, zero, suc, ◌+◌, Option, Some, None}

-- the place behind it: 0 behind none
abbrev pub next_of : Option ℕ → ℕ
next_of None = 0
next_of (Some index) = index + 1

-- the place before it: none before 0
abbrev pub place_before : ℕ → Option ℕ
place_before zero = None
place_before (suc index) = Some index
