-- What is settled, and the group's list.
use Rattle.std.specs.Prelude.{ℕ, zero, suc, nat_lt, if◌then◌else◌, List, [], ◌∷◌, length, take}
use Rattle.raft_laws.specs.BallotLogs.{BallotEntry}
use Rattle.raft_laws.specs.BallotWorld.{BallotGroup, BallotReply, BallotWorld, is_ballot_settled}

-- so many of the ballot's first n entries lie before or at a settled one
abbrev pub settled_count : BallotGroup → BallotWorld → ℕ → ℕ → ℕ
settled_count g w b zero = 0
settled_count g w b (suc n) = if is_ballot_settled g w b n then suc n else settled_count g w b n

abbrev pub longer : List BallotEntry → List BallotEntry → List BallotEntry
longer xs ys = if nat_lt (length ys) (length xs) then xs else ys

-- the longest settled front of what was accepted
abbrev pub longest_settled : BallotGroup → BallotWorld → List BallotReply → List BallotEntry
longest_settled g w [] = []
longest_settled g w (r ∷ rs) =
    longer (take (settled_count g w r.ballot r.upto) (w.lead r.ballot)) (longest_settled g w rs)

-- the group's list: the settled entries, with all before them
abbrev pub ballot_list : BallotGroup → BallotWorld → List BallotEntry
ballot_list g w = longest_settled g w w.replies
