-- Which places the state machine gets.
use Rattle.std.specs.Prelude.{◌≡◌, ℕ, ◌+◌, ◌-◌, List, [], ◌∷◌, ◌++◌, Option}
use Rattle.std.specs.List.{range_with_len}
use Rattle.raft_values.specs.declared.log_id.LogId.{LogId}
use Rattle.raft_values.specs.LogId.{next_place}
use Rattle.raft_engine.specs.Committing.{MachineMove, Applies, Installs, TakesEntries, Moves}

-- the places from one on up to another, without that one
abbrev pub places_between : ℕ → ℕ → List ℕ
places_between start end = range_with_len start (end - start)

-- the places that moves bring to a state machine that has all below this one
abbrev pub places_brought : ℕ → List MachineMove → List ℕ
places_brought start [] = []
places_brought start (Applies behind upto ∷ moves) =
    places_between (next_place behind) (upto.index + 1) ++ places_brought (upto.index + 1) moves
places_brought start (Installs last ∷ moves) =
    places_between start (next_place last) ++ places_brought (next_place last) moves
places_brought start (TakesEntries ∷ moves) = places_brought start moves

-- moves bring each place from what was applied before them up to what is applied after them, once and in order
abbrev pub MovesBringEachPlace : Type 0
MovesBringEachPlace =
    (from to : Option (LogId ℕ)) (moves : List MachineMove) → Moves from moves to
    → places_brought (next_place from) moves ≡ places_between (next_place from) (next_place to)
