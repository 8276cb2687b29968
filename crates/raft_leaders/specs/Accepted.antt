-- Which log ids a leader may commit: its own ones, up to which a quorum has accepted its log.
use Rattle.std.specs.Prelude.{◌≡◌, ℕ, ◌<◌, ◌≤◌, ◌==◌, ◌&&◌, nat_eq, nat_le, nat_lt, Bool, true, if◌then◌else◌, filter, List, Option, Some, None}
use Rattle.std.specs.List.{AllByRecursion, last_or}
use Rattle.raft_values.specs.declared.log_id.LogId.{LogId}
use Rattle.raft_values.specs.LogId.{reaches}
use Rattle.raft_values.specs.declared.vote.LeaderId.{LeaderId}
use Rattle.raft_leaders.specs.Leader.{LeaderValue, end_of, is_of_leader, peer_at}

module _ {Q : Type 0} (own : ℕ) (leader : LeaderValue ℕ Q) where
  -- the node has accepted all up to the place: the leader what its log has, a peer what it matches
  abbrev pub has_accepted : ℕ → ℕ → ℕ → Bool
  has_accepted end place n =
      if n == own then nat_lt place end else reaches (peer_at nat_eq leader n).matching place

  -- the log id is the leader's own, and a quorum has accepted all up to it
  abbrev pub may_be_committed : ((ℕ → Bool) → Bool) → ℕ → LogId ℕ → Bool
  may_be_committed accepts end id =
      is_of_leader nat_eq leader.vote.leader_id id && accepts (has_accepted end id.index)

  -- the last of these log ids, from the place on, that may be committed
  abbrev pub greatest_accepted : ((ℕ → Bool) → Bool) → ℕ → List (LogId ℕ) → Option (LogId ℕ)
  greatest_accepted accepts from ids =
      last_or None (filter (λ id. nat_le from id.index && may_be_committed accepts (end_of ids) id) ids)

  -- of the places from one on and below the end, a quorum has accepted just those below this one
  abbrev pub IsAcceptedEnd : ((ℕ → Bool) → Bool) → ℕ → ℕ → ℕ → Type 0
  IsAcceptedEnd accepts from end reached =
      (place : ℕ) → from ≤ place → place < end → accepts (has_accepted end place) ≡ nat_lt place reached

-- the leader wrote none of these log ids below the place
abbrev pub WroteNoneBelow : LeaderId ℕ → ℕ → List (LogId ℕ) → Type 0
WroteNoneBelow leader place ids = AllByRecursion (λ id. is_of_leader nat_eq leader id ≡ true → place ≤ id.index) ids

-- nor any from the one place on and below the other
abbrev pub WroteNoneWithin : LeaderId ℕ → ℕ → ℕ → List (LogId ℕ) → Type 0
WroteNoneWithin leader from below ids =
    AllByRecursion (λ id. is_of_leader nat_eq leader id ≡ true → from ≤ id.index → below ≤ id.index) ids

-- the last of the leader's own log ids from the one place on and below the other
abbrev pub last_own_within : LeaderId ℕ → ℕ → ℕ → List (LogId ℕ) → Option (LogId ℕ)
last_own_within leader from below ids =
    last_or None (filter (λ id. is_of_leader nat_eq leader id && (nat_le from id.index && nat_lt id.index below)) ids)
