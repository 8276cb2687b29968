-- A loop that goes over what was heard.
use Rattle.std.proofs.Common.{◌≡◌, ℕ, ◌+◌, ◌<◌, List, ◌++◌, length, map, take, drop, get_or, set}
use Rattle.std.proofs.lemmas.List.{get_or_default}
use Rattle.std.proofs.lemmas.List.Edits.{map_over_more}
use Rattle.raft_node_clock.specs.declared.heard.Heard.{Heard}

-- it has made f of the next one, too
pub made_more : (f : Heard → Heard) (xs ys : List Heard) (i : ℕ) (y d : Heard) → i < length xs → i < length ys
    → ys ≡ map f (take i xs) ++ drop i xs → y ≡ f (get_or ys i d) → set ys i y ≡ map f (take (i + 1) xs) ++ drop (i + 1) xs
made_more f xs ys i y d within within' before e =
    rw e (map_over_more f xs ys i (get_or ys i d) within before (get_or_default ys i d (get_or ys i d) within'))
