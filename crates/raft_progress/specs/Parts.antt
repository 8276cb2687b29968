-- What contracts see of a progress.
use Rattle.std.specs.Prelude.{◌≡◌, ℕ, Bool, true, false, ◌||◌, if◌then◌else◌, Option, Some, None, List, map, unwrap_or}
use Rattle.std.specs.List.{IsDistinct}
use Rattle.std.specs.List.Sorted.{IsPermutation}
use Rattle.std.specs.Option.{option_or}
use Rattle.raft_quorums.specs.Nodes.{has_id, has_node}
use Rattle.raft_progress.specs.Values.{value_at, with_value, with_value_at}

-- the quorum set that counts, the value that it was last built with, what is granted, and the
-- values of the voters and of the learners, each beside its id
pub record Parts (K V P Q : Type 0) : Type 0 where
  pub quorum_set : Q
  pub built_with : P
  pub granted : P
  pub voters : List (K × V)
  pub learners : List (K × V)

-- the ids, without their values
abbrev pub ids_of : {K V : Type 0} → List (K × V) → List K
ids_of {K} {V} entries = map (λ (x : K × V). x.0) entries

module _ {K V P Q : Type 0} where
  -- this value beside the id of the voter at the index
  abbrev pub with_voter : Parts K V P Q → ℕ → V → Parts K V P Q
  with_voter p at value = record p { voters = with_value_at p.voters at value }

  -- this value beside the id of the learner at the index
  abbrev pub with_learner : Parts K V P Q → ℕ → V → Parts K V P Q
  with_learner p at value = record p { learners = with_value_at p.learners at value }

module _ {K V P Q : Type 0} (eq : K → K → Bool) where
  -- the value of the id, where a voter or a learner has it
  abbrev pub value_of : Parts K V P Q → K → Option V
  value_of p id = option_or (value_at eq p.voters id) (value_at eq p.learners id)

  -- a voter or a learner has the id
  abbrev pub has_value : Parts K V P Q → K → Bool
  has_value p id = has_node eq p.voters id || has_node eq p.learners id

  -- this value in the place of the one of the id, and nothing moved
  abbrev pub written : Parts K V P Q → K → V → Parts K V P Q
  written p id value =
      if has_node eq p.voters id then record p { voters = with_value eq p.voters id value }
      else record p { learners = with_value eq p.learners id value }

  -- the value of the id, or else the default
  abbrev pub carried : Parts K V P Q → V → K → K × V
  carried p default id = (id, unwrap_or (value_of p id) default)

  -- the new parts are the old ones with this value in the place of the one of the id
  pub record SetsValue (old new : Parts K V P Q) (id : K) (value : V) : Type 0 where
    pub at_id : has_value old id ≡ true → value_of new id ≡ Some value
    pub others : (other : K) → eq id other ≡ false → value_of new other ≡ value_of old other
    pub voters : IsPermutation (with_value eq old.voters id value) new.voters
    pub learners :
        new.learners ≡ (if has_node eq old.voters id then old.learners else with_value eq old.learners id value)
    pub quorum_set : new.quorum_set ≡ old.quorum_set
    pub built_with : new.built_with ≡ old.built_with
    pub learner_grants_nothing : has_node eq old.voters id ≡ false → new.granted ≡ old.granted
    pub unknown : has_value old id ≡ false → new ≡ old

  -- the new parts count by this quorum set: who was there keeps the value, others have the default
  pub record IsUpgraded (old new : Parts K V P Q) (counts : Q) (members learner_ids : List K) (default : V) : Type 0 where
    pub values : (id : K) → value_of new id ≡ (if has_id eq members id || has_id eq learner_ids id then Some (unwrap_or (value_of old id) default) else None)
    pub quorum_set : new.quorum_set ≡ counts
    pub voters : IsPermutation (map (carried old default) members) new.voters
    pub learners : new.learners ≡ map (carried old default) learner_ids
