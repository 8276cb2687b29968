-- What a call that isn't refused says of the group.
use Rattle.std.specs.Prelude.{◌≡◌, ℕ, ◌<◌, ◌≤◌, ◌^◌, ◌&&◌, true, false, [], ◌∷◌, Some, None}
use Rattle.std.proofs.Common.{sym, ap, ◌∙◌, arith}
use Rattle.raft_quorums.specs.QuorumLaws.{and_left}
use Rattle.raft_values.specs.LogId.{next_place}
use Rattle.raft_log_ids.specs.LogIdList.{last_id}
use Rattle.raft_group_step.specs.Values.{ChangeMembers, LoggedMembership, after_change, configs_eq, is_valid, is_within_limits}
use Rattle.raft_group_step.specs.StoredGroup.{membership_in_force, end_place}
use Rattle.raft_group_step.specs.GroupState.{GroupState}
use Rattle.raft_group_step.specs.GroupEvent.{Call}
use Rattle.raft_group_step.specs.declared.group_call.GroupCall.TheVariants.{ChangeMembership}
use Rattle.raft_group_step.specs.Refusal.{first_of_reasons, is_settled_membership, lead_reason, range_reason, reasons_of_change, refusal_of, unless}
use Rattle.raft_group_step.specs.StepResult.{InProgress, MembershipRefused, VoterChange}
use Rattle.raft_group_step.proofs.Refusals.{unless_none as passes}
use Rattle.raft_known_state.proofs.KnownStateLemmas.{end-known}
use Rattle.raft_engine.specs.Events.{IsReady}
use Rattle.raft_engine.specs.Standing.{IsStateOf}
use Rattle.raft_engine.proofs.EventLemmas.{no_first_reason}
use Rattle.raft_engine.proofs.RoomLemmas.{call_accepted}
use Rattle.raft_member.specs.Member.{Engine}

module _ (own at token : ℕ) (s : GroupState) (change : ChangeMembers) (accepted : refusal_of own s (Call (ChangeMembership change token) at) ≡ None) where
  behind_range : first_of_reasons (lead_reason s ∷ unless (is_settled_membership s (membership_in_force s.stored)) InProgress ∷ reasons_of_change (membership_in_force s.stored) change) ≡ None
  behind_range = (no_first_reason (range_reason s (at ∷ end_place s.stored ∷ [])) _ (call_accepted own at s (ChangeMembership change token) accepted)).1

  behind_lead : first_of_reasons (unless (is_settled_membership s (membership_in_force s.stored)) InProgress ∷ reasons_of_change (membership_in_force s.stored) change) ≡ None
  behind_lead = (no_first_reason (lead_reason s) _ behind_range).1

  settled : is_settled_membership s (membership_in_force s.stored) ≡ true
  settled = passes (is_settled_membership s (membership_in_force s.stored)) InProgress (no_first_reason (unless (is_settled_membership s (membership_in_force s.stored)) InProgress) _ behind_lead).0

  judged : first_of_reasons (reasons_of_change (membership_in_force s.stored) change) ≡ None
  judged = (no_first_reason (unless (is_settled_membership s (membership_in_force s.stored)) InProgress) _ behind_lead).1

  -- a change is made of a membership that is in force
  pub has_membership : membership_in_force s.stored ≡ None → ⊥
  has_membership e = absurd (let no : false ≡ true = ap (is_settled_membership s) (sym e) ∙ settled in cc)

  -- what it makes of that is valid
  pub change_is_valid : (m : LoggedMembership) → membership_in_force s.stored ≡ Some m → is_valid (after_change m.membership change) ≡ true
  change_is_valid m e =
      let new = after_change m.membership change in
      let here : first_of_reasons (reasons_of_change (Some m) change) ≡ None = ap (λ o. first_of_reasons (reasons_of_change o change)) (sym e) ∙ judged in
      let tests : (is_valid new && is_within_limits new) ≡ true =
      passes (is_valid new && is_within_limits new) MembershipRefused
      (no_first_reason (unless (is_valid new && is_within_limits new) MembershipRefused) (unless (configs_eq m.membership.configs new.configs) VoterChange ∷ []) here).0 in
      and_left (is_valid new) (is_within_limits new) tests

-- an engine that may take an event has room
pub has_room_when_ready : (own : ℕ) (e : Engine) (s : GroupState) → IsStateOf own e s → IsReady own s → next_place (last_id e.state.state.log_ids) < 2 ^ 63
has_room_when_ready own e s h ready =
    let same : next_place (last_id e.state.state.log_ids) ≡ end_place s.stored = ap (λ ids. next_place (last_id ids)) h.knows.ids ∙ end-known s.stored h.order.placed in
    let low : end_place s.stored ≤ 2 ^ 62 = ready.places in
    omega arith
