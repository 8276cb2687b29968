-- The keys of a stored group.
use Rattle.std.specs.Prelude.{ℕ, List, [], ◌∷◌}

-- "group"
abbrev pub group_key : List ℕ
group_key = 103 ∷ 114 ∷ 111 ∷ 117 ∷ 112 ∷ []

-- "vote"
abbrev pub vote_key : List ℕ
vote_key = 118 ∷ 111 ∷ 116 ∷ 101 ∷ []

-- "end"
abbrev pub end_key : List ℕ
end_key = 101 ∷ 110 ∷ 100 ∷ []

-- "purged"
abbrev pub purged_key : List ℕ
purged_key = 112 ∷ 117 ∷ 114 ∷ 103 ∷ 101 ∷ 100 ∷ []

-- "snapshot"
abbrev pub snapshot_key : List ℕ
snapshot_key = 115 ∷ 110 ∷ 97 ∷ 112 ∷ 115 ∷ 104 ∷ 111 ∷ 116 ∷ []
