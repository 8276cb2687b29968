-- When a quorum of a group was heard of.
use Rattle.std.specs.Prelude.{◌≡◌, ◌≤◌, ℕ, min, Bool, true, false, List, [], ◌∷◌, Option, Some, None, IfSome, IsSomeAnd}
use Rattle.raft_quorums.specs.Quorum.{is_quorum}
use Rattle.raft_timers.specs.Majority.{is_heard_since}

-- more than half of each voter group were heard of at the moment or behind it; a group without voters has no quorum
abbrev pub hears_quorum : List (List ℕ) → (ℕ → Option ℕ) → ℕ → Bool
hears_quorum [] heard moment = false
hears_quorum (voters ∷ more) heard moment = is_quorum (voters ∷ more) (λ id. is_heard_since moment (heard id))

-- the latest such moment, or none where there is no such one
pub record IsLatestQuorum (configs : List (List ℕ)) (heard : ℕ → Option ℕ) (found : Option ℕ) : Type 0 where
  pub quorum : IfSome found (λ moment. hears_quorum configs heard moment ≡ true)
  pub latest : (moment : ℕ) → hears_quorum configs heard moment ≡ true → IsSomeAnd found (λ last. moment ≤ last)

-- the earlier one of both moments, if there are both
abbrev pub earlier : Option ℕ → Option ℕ → Option ℕ
earlier None b = None
earlier (Some a) None = None
earlier (Some a) (Some b) = Some (min a b)
