-- What contracts see of a leader, and the log ids that it gives.
use Rattle.std.specs.Prelude.{ℕ, zero, suc, ◌+◌, ◌==◌, ◌&&◌, not, Bool, filter, List, [], ◌∷◌, ◌++◌, Option, Some, None, unwrap_or}
use Rattle.std.specs.List.{find}
use Rattle.raft_values.specs.declared.vote.Vote.{Vote}
use Rattle.raft_values.specs.declared.vote.LeaderId.{LeaderId}
use Rattle.raft_values.specs.declared.log_id.LogId.{LogId}
use Rattle.raft_values.specs.LogId.{next_place}
use Rattle.raft_log_ids.specs.LogIdList.{last_id}
use Rattle.raft_quorums.specs.Nodes.{has_id}
use Rattle.raft_progress.specs.declared.inflight.Inflight.TheVariants.{None as Nothing}
use Rattle.raft_progress.specs.declared.progress_entry.ProgressEntry.{ProgressEntry}
use Rattle.raft_progress.specs.Parts.{Parts, ids_of, value_of}

-- the vote, the last log id given, the one of the leader's first entry, what is known of each peer,
-- when each peer was last heard of, and where the search for each peer's log begins
pub record LeaderValue (K Q : Type 0) : Type 0 where
  pub vote : Vote K
  pub last_log_id : Option (LogId K)
  pub noop_log_id : LogId K
  pub progress : Parts K (ProgressEntry K) (Option (LogId K)) Q
  pub clock_progress : Parts K (Option ℕ) (Option ℕ) Q
  pub began : ℕ

module _ {K : Type 0} where
  -- a peer of which nothing is known; the search for its log begins at this place
  abbrev pub unknown_peer : ℕ → ProgressEntry K
  unknown_peer began = record { matching = None; curr_inflight_id = 0; inflight = Nothing; searching_end = began }

  -- the place behind the last of these log ids
  abbrev pub end_of : List (LogId K) → ℕ
  end_of ids = next_place (last_id ids)

  -- the leader's log id at this place
  abbrev pub id_of_leader : LeaderId K → ℕ → LogId K
  id_of_leader leader place = record { leader_id = leader; index = place }

  -- the leader wrote the entry with this log id
  abbrev pub is_of_leader : (K → K → Bool) → LeaderId K → LogId K → Bool
  is_of_leader eq leader id = (id.leader_id.term == leader.term) && eq id.leader_id.node_id leader.node_id

  -- the log id of the leader's first entry: the first one of its own, or else the next one to be given
  abbrev pub first_log_id : (K → K → Bool) → LeaderId K → List (LogId K) → LogId K
  first_log_id eq leader ids = unwrap_or (find (is_of_leader eq leader) ids) (id_of_leader leader (end_of ids))

  -- things with the leader's log ids from this place on, one after the other
  abbrev pub with_log_ids : {X : Type 0} → (X → LogId K → X) → LeaderId K → ℕ → List X → List X
  with_log_ids with_id leader place [] = []
  with_log_ids with_id leader place (x ∷ xs) = with_id x (id_of_leader leader place) ∷ with_log_ids with_id leader (place + 1) xs

  -- the last log id once the leader has given so many more
  abbrev pub last_given : Option (LogId K) → LeaderId K → ℕ → Option (LogId K)
  last_given last leader zero = last
  last_given last leader (suc n) = Some (id_of_leader leader (next_place last + n))

module _ {K Q : Type 0} (eq : K → K → Bool) where
  -- what is known of the peer: the entry of the id, or that nothing is known
  abbrev pub peer_at : LeaderValue K Q → K → ProgressEntry K
  peer_at leader id = unwrap_or (value_of eq leader.progress id) (unknown_peer leader.began)

module _ {K V : Type 0} (eq : K → K → Bool) where
  -- the ids of these entries that are in neither list
  abbrev pub left_among : List K → List K → List (K × V) → List K
  left_among members learner_ids entries =
      filter (λ id. not (has_id eq members id) && not (has_id eq learner_ids id)) (ids_of entries)

module _ {K V P Q : Type 0} (eq : K → K → Bool) where
  -- the ids that have a value and are in neither list
  abbrev pub left_ids : Parts K V P Q → List K → List K → List K
  left_ids p members learner_ids = left_among eq members learner_ids (p.voters ++ p.learners)
