-- Numbers in range: of a list's parts, of entries, and what it says of each.
use Rattle.std.proofs.Common.{◌≡◌, ℕ, ◌<◌, ◌^◌, ◌&&◌, true, List, [], ◌∷◌, ◌++◌}
use Rattle.std.proofs.lemmas.Bool.{ltb-true}
use Rattle.std.proofs.lemmas.List.Folds.{list_all-append}
use Rattle.raft_group_step.specs.Limits.{is_low, number_limit}
use Rattle.raft_group_step.specs.Refusal.{are_in_range}
use Rattle.raft_quorums.specs.QuorumLaws.{and_left, and_right}
use Rattle.raft_conditions.specs.ByFacts.{AreLow}

-- the parts of a list are in range
pub in_range-append : (ms ns : List ℕ) → are_in_range (ms ++ ns) ≡ (are_in_range ms && are_in_range ns)
in_range-append ms ns = list_all-append is_low ms ns

-- a number in range is below 2 ^ 62
pub low_number : (n : ℕ) → is_low n ≡ true → n < 2 ^ 62
low_number n h = ltb-true n number_limit h

-- so are all numbers in range
pub low_numbers : (ns : List ℕ) → are_in_range ns ≡ true → AreLow ns
low_numbers [] h = tt
low_numbers (n ∷ ns) h =
    (low_number n (and_left (is_low n) (are_in_range ns) h), low_numbers ns (and_right (is_low n) (are_in_range ns) h))
