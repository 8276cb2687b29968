-- What contracts see of a candidate, and when its vote is granted.
use Rattle.std.specs.Prelude.{ℕ, Bool, true, ◌&&◌, if◌then◌else◌, map, filter, List, [], ◌∷◌, ◌++◌, Option}
use Rattle.std.specs.List.{list_any}
use Rattle.std.specs.Ordering.{bool_cmp}
use Rattle.raft_values.specs.declared.vote.Vote.{Vote}
use Rattle.raft_values.specs.declared.log_id.LogId.{LogId}
use Rattle.raft_quorums.specs.Nodes.{has_id}
use Rattle.raft_progress.specs.Granted.{has_reached}
use Rattle.raft_progress.specs.Parts.{Parts}

-- when the candidate stood, its vote, its last log id, beside each id whether it has granted, and all that have, each once
pub record CandidateValue (K Q : Type 0) : Type 0 where
  pub starting_time : ℕ
  pub vote : Vote K
  pub last_log_id : Option (LogId K)
  pub progress : Parts K Bool Bool Q
  pub granted_by : List K

module _ {K : Type 0} where
  -- one of them has granted
  abbrev pub any_granted : List (K × Bool) → Bool
  any_granted voters = list_any (λ (x : K × Bool). x.1) voters

  -- the ids of those that have granted
  abbrev pub granting_ids : List (K × Bool) → List K
  granting_ids entries = map (λ (x : K × Bool). x.0) (filter (λ (x : K × Bool). x.1) entries)

-- the ids with this one, unless it is among them
abbrev pub with_granter : {K : Type 0} → (K → K → Bool) → List K → K → List K
with_granter eq ids id = if has_id eq ids id then ids else ids ++ id ∷ []

module _ {K Q : Type 0} (eq : K → K → Bool) where
  -- the id is a voter's who has granted
  abbrev pub has_granted : Parts K Bool Bool Q → K → Bool
  has_granted p id = has_reached eq bool_cmp (λ b. b) p.voters true id

  -- some voter has granted, and those who have are a quorum
  abbrev pub is_granted_by_quorum : (Q → (K → Bool) → Bool) → Parts K Bool Bool Q → Bool
  is_granted_by_quorum accepts p = any_granted p.voters && accepts p.quorum_set (has_granted p)
