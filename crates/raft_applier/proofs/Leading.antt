-- A token comes to a leader alone, which leads on.
use Rattle.std.specs.Prelude.{◌≡◌, ℕ, ◌&&◌, true, false, [], Option, Some, None, refl}
use Rattle.std.proofs.Common.{ap, sym, ◌∙◌}
use Rattle.raft_group_step.specs.Values.{ChangeMembers, LoggedMembership, vote_eq}
use Rattle.raft_group_step.specs.StoredGroup.{end_place, membership_in_force}
use Rattle.raft_group_step.specs.GroupState.{GroupState, is_leader}
use Rattle.raft_group_step.specs.declared.group_call.GroupCall.TheVariants.{Initialize, Elect, Propose, ChangeMembership, Heartbeat, Lost, TriggerSnapshot, TriggerPurge}
use Rattle.raft_group_step.specs.GroupEvent.{GroupCall, GroupEvent, AddGroup, Call, Receive, Open}
use Rattle.raft_group_step.specs.StepResult.{InProgress, NotLeader, StepResult}
use Rattle.raft_group_step.specs.Propose.{propose_step}
use Rattle.raft_group_step.specs.MembershipStep.{append_changed}
use Rattle.raft_group_step.specs.Refusal.{is_settled_membership, known_leader, reasons_of, reasons_of_call, refusal_of}
use Rattle.raft_group_step.specs.GroupStep.{begun, call_step, finished, group_step, step_unless}
use Rattle.raft_group_step.proofs.Refusals.{unless_none}
use Rattle.raft_laws.specs.Stop.{token_of_call}
use Rattle.raft_laws.proofs.StepCalls.{NoReason, no_reason}
use Rattle.raft_laws.proofs.WorldLimits.{vote_itself}
use Rattle.raft_laws.proofs.VoteOrders.{differ_flags as never}
use Rattle.raft_step_laws.specs.Tokens.{brought, leads_on, tokens_at}
use Rattle.raft_step_laws.proofs.Sending.{finished_adds}

module _ (own : ℕ) (s : GroupState) where
  -- where the event itself leaves the lead, so does its end
  stays_leading : (q : StepResult) → is_leader s.role ≡ true → is_leader q.state.role ≡ true → q.state.stored.vote ≡ s.stored.vote → leads_on s (finished own s.committed q).state ≡ true
  stays_leading q was leads vote =
      let end = finished own s.committed q in
      let adds = finished_adds own s.committed q in
      let same : vote_eq s.stored.vote end.state.stored.vote ≡ true = ap (vote_eq s.stored.vote) (adds.vote ∙ vote) ∙ vote_itself s.stored.vote in
      ap (λ b. b && (is_leader end.state.role && vote_eq s.stored.vote end.state.stored.vote)) was
      ∙ ap (λ b. b && vote_eq s.stored.vote end.state.stored.vote) (adds.leads ∙ leads)
      ∙ same

  changed : {P : Type 0} (now : ℕ) (o : Option LoggedMembership) (change : ChangeMembers) (token : ℕ) → is_leader s.role ≡ true → is_settled_membership s o ≡ true
      → leads_on s (finished own s.committed (append_changed o change token (begun now s))).state ≡ false → P
  changed now None change token is known off = absurd (let f : false ≡ true = known in cc)
  changed now (Some m) change token is known off =
      never _ (stays_leading (append_changed (Some m) change token (begun now s)) is is refl) off

  call_brings : (call : GroupCall) (now : ℕ) → NoReason (reasons_of_call own s now call) → leads_on s (finished own s.committed (call_step own call (begun now s))).state ≡ false → tokens_at (end_place s.stored) (token_of_call call) ≡ []
  call_brings (Initialize m) now passed off = refl
  call_brings Elect now passed off = refl
  call_brings (Propose command token) now passed off =
      let is = unless_none (is_leader s.role) (NotLeader (known_leader s.stored.vote)) passed.1.1.0 in
      never _ (stays_leading (propose_step command token (begun now s)) is is refl) off
  call_brings (ChangeMembership change token) now passed off =
      changed now (membership_in_force s.stored) change token
      (unless_none (is_leader s.role) (NotLeader (known_leader s.stored.vote)) passed.1.0)
      (unless_none (is_settled_membership s (membership_in_force s.stored)) InProgress passed.1.1.0) off
  call_brings Heartbeat now passed off = refl
  call_brings (Lost peer) now passed off = refl
  call_brings TriggerSnapshot now passed off = refl
  call_brings (TriggerPurge place) now passed off = refl

  -- an event after which the node doesn't lead on brings no token
  pub none_brought : (e : GroupEvent) → refusal_of own s e ≡ None → leads_on s (group_step own s e).state ≡ false → brought s e ≡ []
  none_brought AddGroup taken off = refl
  none_brought (Call call now) taken off =
      call_brings call now (no_reason (reasons_of own s (Call call now)) taken).1
      (ap (λ o. leads_on s (step_unless o own s (Call call now)).state) (sym taken) ∙ off)
  none_brought (Receive peer m now) taken off = refl
  none_brought Open taken off = refl
