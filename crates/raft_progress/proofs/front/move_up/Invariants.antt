use Rattle.std.proofs.Common.{◌≡◌, ℕ, ◌≤◌, length, take, get_or}
use Rattle.std.specs.List.Sorted.{IsPermutation}
use Rattle.raft_progress.specs.Granted.{IsFallingBut}
use Rattle.raft_progress.proofs.FallingLemmas.{falling_but_swap, falling_first, falling_at_rest, take-swap}
use Rattle.raft_progress.proofs.front.move_up.Given as goal

abbrev pub invariant-loop-at : goal.invariant-loop-at
invariant-loop-at g l = record {
  place : l.at ≤ l.index;
  moved : IsPermutation l.initial.voters l.voters;
  front : (k : ℕ) → k ≤ l.at → take k l.voters ≡ take k l.initial.voters;
  entry : (d : g.row.ID.Denot × g.row.V.Denot) → get_or l.voters l.at d ≡ get_or l.initial.voters l.index d;
  falling : IsFallingBut g.P.Ord.cmp g.V.Borrow.borrowed l.index l.initial.voters → IsFallingBut g.P.Ord.cmp g.V.Borrow.borrowed l.at l.voters;
}

abbrev pub decreases-loop-at : goal.decreases-loop-at
decreases-loop-at g l = l.at
