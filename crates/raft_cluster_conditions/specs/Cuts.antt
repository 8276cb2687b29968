-- Where a frame is cut.
use Rattle.std.specs.Prelude.{ℕ, Bool, true, ◌&&◌, nat_lt, List, [], ◌∷◌}

-- each place lies past the one before it, and before the frame's end
abbrev pub are_cuts : ℕ → ℕ → List ℕ → Bool
are_cuts before length [] = true
are_cuts before length (cut ∷ cuts) = nat_lt before cut && (nat_lt cut length && are_cuts cut length cuts)
