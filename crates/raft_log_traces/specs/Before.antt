-- Files before one, and from one on.
use Rattle.std.specs.Prelude.{◌≤◌, ◌<◌, ℕ, Option, Some, None}

-- it is in a file, which isn't before this one
abbrev pub StandsFrom : ℕ → Option ℕ → Type 0
StandsFrom file None = ⊥
StandsFrom file (Some at) = file ≤ at

-- it is in a file before this one
abbrev pub IsBefore : ℕ → Option ℕ → Type 0
IsBefore file None = ⊥
IsBefore file (Some at) = at < file
