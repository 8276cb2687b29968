-- A vote of another node that isn't below the own one: once it is taken over, the node follows.
use Rattle.std.specs.Prelude.{◌≡◌, ℕ, ◌<◌, Bool, true, false, if◌then◌else◌, Option, Some, None, refl}
use Rattle.std.proofs.Common.{sym, ap, ap₂, ◌∙◌, ⊎_elim}
use Rattle.std.proofs.lemmas.Bool.{both_ways, cases_order}
use Rattle.std.specs.Ordering.{nat_cmp, bool_cmp, ordering_then, is_lt}
use Rattle.raft_values.specs.declared.vote.Vote.{Vote}
use Rattle.raft_group_step.specs.Values.{vote_lt}
use Rattle.raft_group_step.specs.GroupState.{Role, Follower, Candidate, Leader}
use Rattle.raft_group_step.specs.StepResult.{StepResult, renew, step_down, store_vote, take_over}
use Rattle.raft_leaders.specs.Candidate.{CandidateValue}
use Rattle.raft_leaders.specs.Leader.{LeaderValue}
use Rattle.raft_engine.specs.Standing.{EffectiveMembership, Engine, Given, IsStepOf, Leads, PlaysRole, Stands}
use Rattle.raft_engine.specs.Following.{IsVoteOfAnother}
use Rattle.raft_group_step.specs.StoredGroup.{StoredGroup}
use Rattle.raft_group_step.proofs.Votes.{less_is, not_below_itself, of_one_leader, same_is}

below_by_term : (a b : Vote ℕ) → a.leader_id.term < b.leader_id.term → vote_lt a b ≡ true
below_by_term a b l =
    ap (λ o. is_lt (ordering_then (ordering_then o (nat_cmp a.leader_id.node_id b.leader_id.node_id)) (bool_cmp a.committed b.committed))) (less_is a.leader_id.term b.leader_id.term l)

below_by_node : (a b : Vote ℕ) → a.leader_id.term ≡ b.leader_id.term → a.leader_id.node_id < b.leader_id.node_id → vote_lt a b ≡ true
below_by_node a b e l =
    ap₂ (λ o p. is_lt (ordering_then (ordering_then o p) (bool_cmp a.committed b.committed))) (same_is a.leader_id.term b.leader_id.term e) (less_is a.leader_id.node_id b.leader_id.node_id l)

-- of two votes that aren't below one another
pub record AreLevel (a b : Vote ℕ) : Type 0 where
  pub term : a.leader_id.term ≡ b.leader_id.term
  pub node : a.leader_id.node_id ≡ b.leader_id.node_id
  pub committed : a.committed ≡ b.committed

pub are_level : (a b : Vote ℕ) → vote_lt a b ≡ false → vote_lt b a ≡ false → AreLevel a b
are_level a b h k =
    ⊎_elim
    (λ e. ⊎_elim
    (λ f. record { term = e; node = f; committed = flags a.committed b.committed (sym (of_one_leader a b e f) ∙ h) (sym (of_one_leader b a (sym e) (sym f)) ∙ k) })
    (⊎_elim (λ l. absurd (both_ways (vote_lt a b) h (below_by_node a b e l))) (λ l. absurd (both_ways (vote_lt b a) k (below_by_node b a (sym e) l))))
    (cases_order a.leader_id.node_id b.leader_id.node_id))
    (⊎_elim (λ l. absurd (both_ways (vote_lt a b) h (below_by_term a b l))) (λ l. absurd (both_ways (vote_lt b a) k (below_by_term b a l))))
    (cases_order a.leader_id.term b.leader_id.term)
  where
    flags : (c d : Bool) → is_lt (bool_cmp c d) ≡ false → is_lt (bool_cmp d c) ≡ false → c ≡ d
    flags true true f g = refl
    flags false false f g = refl
    flags true false f g = absurd (let e : true ≡ false = g in cc)
    flags false true f g = absurd (let e : true ≡ false = f in cc)

-- a leader's vote is level with that of neither a candidate nor this node as a leader
only_follows : (own : ℕ) (s : StoredGroup) (vote : Vote ℕ) → IsVoteOfAnother own vote → AreLevel s.vote vote → (l : Option (LeaderValue ℕ EffectiveMembership)) (c : Option (CandidateValue ℕ EffectiveMembership)) (role : Role) → PlaysRole own l c s role → role ≡ Follower
only_follows own s vote another level l c Follower h = refl
only_follows own s vote another level None None (Candidate granters) h = absurd h
only_follows own s vote another level None (Some c) (Candidate granters) h =
    let stands : Stands own c s granters = h in absurd (both_ways s.vote.committed stands.uncommitted (level.committed ∙ another.committed))
only_follows own s vote another level (Some l) c (Candidate granters) h = absurd h
only_follows own s vote another level None c (Leader lead) h = absurd h
only_follows own s vote another level (Some l) None (Leader lead) h =
    let leads : Leads own l s lead = h in absurd (another.anothers (sym level.node ∙ leads.is_own))
only_follows own s vote another level (Some l) (Some c) (Leader lead) h = absurd h

-- once it is taken over, the node follows
pub follows_after : {C R : Type 0} (x : Given) (own : ℕ) (e : Engine C R) (r : StepResult) (vote : Vote ℕ) → IsStepOf x own e r → IsVoteOfAnother own vote → vote_lt vote r.state.stored.vote ≡ false → (take_over vote r).state.role ≡ Follower
follows_after x own e r vote step another no_lower = by_test (vote_lt r.state.stored.vote vote) refl
  where
    by_test : (b : Bool) → vote_lt r.state.stored.vote vote ≡ b → (if b then store_vote vote (step_down r) else renew r).state.role ≡ Follower
    by_test true f = refl
    by_test false f = only_follows own r.state.stored vote another (are_level r.state.stored.vote vote f no_lower) e.leader e.candidate r.state.role step.state.role

-- and the vote isn't below the one in force then
pub not_below_after : (vote : Vote ℕ) (r : StepResult) → vote_lt vote r.state.stored.vote ≡ false → vote_lt vote (take_over vote r).state.stored.vote ≡ false
not_below_after vote r no_lower = by_test (vote_lt r.state.stored.vote vote)
  where
    by_test : (b : Bool) → vote_lt vote (if b then store_vote vote (step_down r) else renew r).state.stored.vote ≡ false
    by_test true = not_below_itself vote
    by_test false = no_lower

-- and it is in force itself
pub in_force_after : (vote : Vote ℕ) (r : StepResult) → vote_lt vote r.state.stored.vote ≡ false → (take_over vote r).state.stored.vote ≡ vote
in_force_after vote r no_lower = by_test (vote_lt r.state.stored.vote vote) refl
  where
    by_test : (b : Bool) → vote_lt r.state.stored.vote vote ≡ b → (if b then store_vote vote (step_down r) else renew r).state.stored.vote ≡ vote
    by_test true f = refl
    by_test false f =
        let level = are_level r.state.stored.vote vote f no_lower in
        ap₂ (λ l c. record { leader_id = l; committed = c }) (ap₂ (λ t n. record { term = t; node_id = n }) level.term level.node) level.committed
