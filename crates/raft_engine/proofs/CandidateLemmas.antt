-- Who has granted a candidate's vote.
use Rattle.std.specs.Prelude.{◌≡◌, ℕ, nat_eq, false, if◌then◌else◌, List, [], ◌∷◌, ◌++◌, Option, Some, None, refl}
use Rattle.std.proofs.Common.{ap, ◌∙◌}
use Rattle.raft_values.specs.declared.vote.Vote.{Vote}
use Rattle.raft_group_step.specs.Values.{LoggedMembership, has_id}
use Rattle.raft_group_step.specs.StoredGroup.{StoredGroup}
use Rattle.raft_group_step.specs.Lead.{configs_of}
use Rattle.raft_known_state.specs.KnownState.{effective_of}
use Rattle.raft_leaders.specs.Candidate.{CandidateValue, with_granter}
use Rattle.raft_engine.specs.Standing.{EffectiveMembership, Stands}

pub configs_are : (m : Option LoggedMembership) → (effective_of m).membership.configs ≡ configs_of m
configs_are None = refl
configs_are (Some m) = refl

abbrev Candidate : Type 0
Candidate = CandidateValue ℕ EffectiveMembership

module _ (own n : ℕ) (c c' : Candidate) (s : StoredGroup) (notes : c'.granted_by ≡ with_granter nat_eq c.granted_by n)
    (rest : c' ≡ record c { progress = c'.progress; granted_by = c'.granted_by }) where
  -- a new candidate has its own grant
  pub stands_first : (vote : Vote ℕ) → n ≡ own → vote.leader_id.node_id ≡ own → vote.committed ≡ false → c.vote ≡ vote → c.granted_by ≡ []
      → Stands own c' (record s { vote = vote }) (own ∷ [])
  stands_first vote mine is_own uncommitted voted none =
      record {
        vote = ap (λ (x : Candidate). x.vote) rest ∙ voted;
        is_own = is_own;
        uncommitted = uncommitted;
        granted = notes ∙ ap (λ ids. with_granter nat_eq ids n) none ∙ ap (λ id. id ∷ []) mine;
      }

  -- one more grant
  pub stands_more : (granters : List ℕ) → Stands own c s granters → Stands own c' s (if has_id granters n then granters else granters ++ n ∷ [])
  stands_more granters old = record {
    vote = ap (λ (x : Candidate). x.vote) rest ∙ old.vote;
    is_own = old.is_own;
    uncommitted = old.uncommitted;
    granted = notes ∙ ap (λ ids. with_granter nat_eq ids n) old.granted;
  }
