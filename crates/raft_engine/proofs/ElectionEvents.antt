-- What holds of elections that aren't refused.
use Rattle.std.specs.Prelude.{◌≡◌, ℕ, ◌+◌, ◌<◌, ◌^◌, true, [], ◌∷◌, None}
use Rattle.std.proofs.Common.{ap, ◌∙◌, arith}
use Rattle.raft_group_step.specs.Values.{Membership, is_voter}
use Rattle.raft_group_step.specs.StoredGroup.{PutEntries, end_place, membership_in_force}
use Rattle.raft_group_step.specs.GroupState.{GroupState}
use Rattle.raft_group_step.specs.GroupEvent.{Call}
use Rattle.raft_group_step.specs.declared.group_call.GroupCall.TheVariants.{Initialize, Elect}
use Rattle.raft_group_step.specs.StepResult.{StepResult, MembershipRefused, NotAllowed, NotVoter, store}
use Rattle.raft_group_step.specs.Refusal.{is_first_membership, is_voter_in, next_term, range_reason, refusal_of, unless}
use Rattle.raft_group_step.specs.Initialize.{initialize_step, is_new}
use Rattle.raft_group_step.proofs.Refusals.{unless_none as passes}
use Rattle.raft_engine.specs.Events.{CanFinish}
use Rattle.raft_engine.proofs.EventLemmas.{no_first_reason}
use Rattle.raft_engine.proofs.InitializeLemmas.{ends_behind_first, first_entry}
use Rattle.raft_engine.proofs.NewLeadLemmas.{elect_finishes}
use Rattle.raft_engine.proofs.RoomLemmas.{call_accepted, first_low, low_numbers, others_low}

-- ---- elections

module _ (own at : ℕ) (s : GroupState) (accepted : refusal_of own s (Call Elect at) ≡ None) where
  electable : (range_reason s (at ∷ next_term s ∷ end_place s.stored ∷ []) ≡ None) × (unless (is_voter_in (membership_in_force s.stored) own) NotVoter ≡ None)
  electable =
      let voter = unless (is_voter_in (membership_in_force s.stored) own) NotVoter in
      let ranged = no_first_reason (range_reason s (at ∷ next_term s ∷ end_place s.stored ∷ [])) (voter ∷ []) (call_accepted own at s Elect accepted) in
      (ranged.0, (no_first_reason voter [] ranged.1).0)

  -- the next term is few
  pub term_left : s.stored.vote.leader_id.term + 1 < 2 ^ 62
  term_left =
      let low = low_numbers s (at ∷ next_term s ∷ end_place s.stored ∷ []) electable.0 in
      first_low (next_term s) (end_place s.stored ∷ []) (others_low at (next_term s ∷ end_place s.stored ∷ []) low)

-- ---- a first membership

module _ (own at : ℕ) (s : GroupState) (m : Membership) (accepted : refusal_of own s (Call (Initialize m) at) ≡ None) where
  first_known : (unless (is_first_membership m) MembershipRefused ≡ None) × (unless (is_voter m own) NotVoter ≡ None) × (unless (is_new s.stored) NotAllowed ≡ None)
  first_known =
      let range = range_reason s (at ∷ next_term s ∷ []) in
      let voter = unless (is_voter m own) NotVoter in
      let new = unless (is_new s.stored) NotAllowed in
      let first = no_first_reason (unless (is_first_membership m) MembershipRefused) (range ∷ voter ∷ new ∷ []) (call_accepted own at s (Initialize m) accepted) in
      let ranged = no_first_reason range (voter ∷ new ∷ []) first.1 in
      let votes = no_first_reason voter (new ∷ []) ranged.1 in
      let last = no_first_reason new [] votes.1 in
      (first.0, votes.0, last.0)

  pub is_new_then : is_new s.stored ≡ true
  is_new_then = passes (is_new s.stored) NotAllowed first_known.2

  pub votes_in_first : is_voter m own ≡ true
  votes_in_first = passes (is_voter m own) NotVoter first_known.1

  -- a node that sets up the group has room to lead at once
  pub initialize_finishes : (r : StepResult) → r.state.stored ≡ s.stored → let after = initialize_step own m r in CanFinish own after.state after.state.role
  initialize_finishes r same =
      let new : is_new r.state.stored ≡ true = ap is_new same ∙ is_new_then in
      let put = store (PutEntries 0 (first_entry m ∷ [])) r in
      let ends = ends_behind_first r.state.stored new (first_entry m) in
      elect_finishes own put (omega (arith, ends))
