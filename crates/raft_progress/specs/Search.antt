-- The search for a quorum in front of a falling list.
use Rattle.std.specs.Prelude.{◌≡◌, ℕ, suc, ◌<◌, ◌≤◌, Bool, true, false, List, length, take, slice_index_or}
use Rattle.std.specs.declared.cmp.Ordering.{Ordering}
use Rattle.std.specs.Ordering.{is_lt}
use Rattle.raft_quorums.specs.Nodes.{has_node}

module _ {K V P : Type 0} (eq : K → K → Bool) (cmp : P → P → Ordering) (compared : V → P) (accepts : (K → Bool) → Bool) (voters : List (K × V)) where
  -- the first n are no quorum, or there are none
  abbrev pub NoQuorum : ℕ → Type 0
  NoQuorum n = 0 < n → accepts (has_node eq (take n voters)) ≡ false

  -- the one at the index is above what is granted
  abbrev pub IsAbove : P → ℕ → Type 0
  IsAbove granted at = (x : K × V) → is_lt (cmp granted (compared (slice_index_or voters at x).1)) ≡ true

  -- the quorum through this index is the first one, if none ends before the start
  abbrev pub EndsQuorum : ℕ → P → ℕ → Type 0
  EndsQuorum from granted at =
      (at < length voters) × IsAbove granted at × (accepts (has_node eq (take (suc at) voters)) ≡ true)
      × (NoQuorum from → NoQuorum at)

  -- no quorum ends among those above what is granted, if none ends before the start
  abbrev pub HasNoQuorum : ℕ → P → Type 0
  HasNoQuorum from granted =
      (n : ℕ) × (NoQuorum from → NoQuorum n)
      × ((x : K × V) → n < length voters → is_lt (cmp granted (compared (slice_index_or voters n x).1)) ≡ false)
