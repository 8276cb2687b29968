-- What a leader knows of the members.
use Rattle.std.specs.Prelude.{◌≡◌, ℕ, Bool, true, ◌==◌, ◌&&◌, nat_eq, Option, Some, None}
use Rattle.raft_values.specs.declared.vote.Vote.{Vote}
use Rattle.raft_progress.specs.Parts.{has_value}
use Rattle.raft_group_step.specs.Values.{LoggedMembership, has_id}
use Rattle.raft_group_step.specs.Lead.{ids_of}
use Rattle.raft_leaders.specs.Leader.{LeaderValue, peer_at}
use Rattle.raft_engine.specs.Standing.{EffectiveMembership}

-- the leader keeps something of each member
abbrev pub KnowsMembers : LeaderValue ℕ EffectiveMembership → Option LoggedMembership → Type 0
KnowsMembers l m = (n : ℕ) → has_id (ids_of m) n ≡ true → has_value nat_eq l.progress n ≡ true

-- a leader that knows of each peer what it knew, and keeps something of each of these members
pub record CountsBy (m : Option LoggedMembership) (l l' : LeaderValue ℕ EffectiveMembership) : Type 0 where
  pub members : KnowsMembers l' m
  pub peers : (n : ℕ) → peer_at nat_eq l' n ≡ peer_at nat_eq l n
  pub rest : l' ≡ record l { progress = l'.progress; clock_progress = l'.clock_progress }

-- so does the leader, if there is one
abbrev pub CountsOn : Option LoggedMembership → Option (LeaderValue ℕ EffectiveMembership) → Option (LeaderValue ℕ EffectiveMembership) → Type 0
CountsOn m None None = Unit {0}
CountsOn m None (Some l) = ⊥
CountsOn m (Some l) None = ⊥
CountsOn m (Some l) (Some l') = CountsBy m l l'

-- the vote is committed, and the node's own
abbrev pub leads_by : Vote ℕ → ℕ → Bool
leads_by vote own = vote.committed && vote.leader_id.node_id == own
