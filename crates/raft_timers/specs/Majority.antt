-- When a majority was heard of.
use Rattle.std.specs.Prelude.{ℕ, ◌/◌, Bool, false, nat_le, nat_lt, List, length, count_by, Option, Some, None}

abbrev pub is_heard_since : ℕ → Option ℕ → Bool
is_heard_since moment None = false
is_heard_since moment (Some at) = nat_le moment at

-- more than half were heard of at the moment or behind it
abbrev pub hears_majority : List (Option ℕ) → ℕ → Bool
hears_majority heard moment = nat_lt (length heard / 2) (count_by (is_heard_since moment) heard)
