-- Logs, the order of their last entries, and what an append request does to one.
use Rattle.raft_group_step.specs.Values.{EntryPayload}
use Rattle.std.specs.Prelude.{ℕ, zero, suc, ◌==◌, ◌&&◌, ◌||◌, nat_lt, nat_le, if◌then◌else◌, Bool, true, false, List, [], ◌∷◌, length, slice_get, Option, Some, None}

-- what an entry says; ballots never look at it
abbrev pub Payload : Type 0
Payload = EntryPayload

-- an entry: the ballot of the leader that wrote it, and what it says. Its index is its place in the log
pub record BallotEntry : Type 0 where
  pub ballot : ℕ
  pub payload : Payload

-- the last entry's ballot, and how many entries there are; of no entries 0 and 0
pub record LogEnd : Type 0 where
  pub ballot : ℕ
  pub count : ℕ

-- the ballot of an entry, or 0 of none
abbrev pub ballot_of : Option BallotEntry → ℕ
ballot_of None = 0
ballot_of (Some x) = x.ballot

-- the ballot of the entry before this place
abbrev pub ballot_before : List BallotEntry → ℕ → ℕ
ballot_before xs zero = 0
ballot_before xs (suc i) = ballot_of (slice_get xs i)

-- the ballot of the last entry, or 0
abbrev pub last_ballot : List BallotEntry → ℕ
last_ballot [] = 0
last_ballot (x ∷ []) = x.ballot
last_ballot (x ∷ y ∷ xs) = last_ballot (y ∷ xs)

abbrev pub log_end : List BallotEntry → LogEnd
log_end xs = record { ballot = last_ballot xs; count = length xs }

-- by ballot, then by length
abbrev pub is_at_least : LogEnd → LogEnd → Bool
is_at_least a b = nat_lt b.ballot a.ballot || ((a.ballot == b.ballot) && nat_le b.count a.count)

-- the log has `start` entries or more, and the last of these is of this ballot
abbrev pub holds_before : List BallotEntry → ℕ → ℕ → Bool
holds_before xs zero previous = true
holds_before [] (suc start) previous = false
holds_before (x ∷ xs) (suc zero) previous = x.ballot == previous
holds_before (x ∷ xs) (suc (suc start)) previous = holds_before xs (suc start) previous

-- the log with these entries put over its front: it stays as far as the ballots agree, and is cut at the first that differs
abbrev pub put_over : List BallotEntry → List BallotEntry → List BallotEntry
put_over xs [] = xs
put_over [] (y ∷ ys) = y ∷ ys
put_over (x ∷ xs) (y ∷ ys) = if x.ballot == y.ballot then x ∷ put_over xs ys else y ∷ ys

-- the same from a place on
abbrev pub put_from : List BallotEntry → ℕ → List BallotEntry → List BallotEntry
put_from xs zero ys = put_over xs ys
put_from [] (suc start) ys = []
put_from (x ∷ xs) (suc start) ys = x ∷ put_from xs start ys

-- the log without what differs from these entries, which aren't put yet
abbrev pub cut_over : List BallotEntry → List BallotEntry → List BallotEntry
cut_over xs [] = xs
cut_over [] (y ∷ ys) = []
cut_over (x ∷ xs) (y ∷ ys) = if x.ballot == y.ballot then x ∷ cut_over xs ys else []

-- the same from a place on
abbrev pub cut_from : List BallotEntry → ℕ → List BallotEntry → List BallotEntry
cut_from xs zero ys = cut_over xs ys
cut_from [] (suc start) ys = []
cut_from (x ∷ xs) (suc start) ys = x ∷ cut_from xs start ys
