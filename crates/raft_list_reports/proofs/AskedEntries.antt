-- What a step writes its event asked for, or it is a leader's first entry, which is blank.
use Rattle.std.specs.Prelude.{◌≡◌, ◌⊎◌, ℕ, List, Option, Some, None, refl}
use Rattle.std.proofs.Common.{inl, inr, ap}
use Rattle.raft_values.specs.declared.vote.Vote.{Vote}
use Rattle.raft_state.specs.declared.entry.EntryPayload.TheVariants.{Blank}
use Rattle.raft_group_step.specs.Values.{ChangeMembers, Entry, LoggedMembership}
use Rattle.raft_group_step.specs.StoredGroup.{membership_in_force}
use Rattle.raft_group_step.specs.Message.{MessageBody, VoteRequest, VoteReply, AppendRequest, AppendReply, SnapshotRequest, SnapshotReply}
use Rattle.raft_group_step.specs.GroupState.{GroupState, is_leader}
use Rattle.raft_group_step.specs.declared.group_call.GroupCall.TheVariants.{Initialize, Elect, Propose, ChangeMembership, Heartbeat, Lost, TriggerSnapshot, TriggerPurge}
use Rattle.raft_group_step.specs.GroupEvent.{GroupCall, GroupEvent, AddGroup, Call, Receive, Open}
use Rattle.raft_group_step.specs.Refusal.{refusal_of}
use Rattle.raft_group_step.specs.GroupStep.{begun, group_step}
use Rattle.raft_laws.specs.GroupWorld.{Led}
use Rattle.raft_laws.specs.NodeEvent.{Comes}
use Rattle.raft_laws.specs.Origins.{changed_entry, entry_of_call}
use Rattle.raft_laws.proofs.StepEntries.{BodyEach, StoredEach}
use Rattle.raft_history_laws.proofs.NotedIds.{taken_leads}
use Rattle.raft_list_laws.proofs.OwnNotes.{EventKnown, Known}
use Rattle.raft_list_laws.proofs.StepWrites.{BodyOk, CallOk, ChangeOk, Done as StepDone, EventOk, step-done}

-- the event asked for the entry, and wasn't refused
abbrev pub IsAskedBy : ℕ → GroupState → GroupEvent → Entry → Type 0
IsAskedBy n s AddGroup x = ⊥
IsAskedBy n s (Call call now) x = (refusal_of n s (Call call now) ≡ None) × (entry_of_call s.stored call ≡ Some x)
IsAskedBy n s (Receive peer m now) x = ⊥
IsAskedBy n s Open x = ⊥

-- or the entry is blank
abbrev pub AskedOrBlank : ℕ → GroupState → GroupEvent → Vote ℕ → Entry → Type 0
AskedOrBlank n s e vote x = (x.payload ≡ Blank) ⊎ IsAskedBy n s e x

module _ (led : List Led) (n : ℕ) (s : GroupState) (known : StoredEach (Known led) s.stored) where
  body_ok : (e : GroupEvent) (now : ℕ) (b : MessageBody) → BodyEach (Known led) b → BodyOk (Known led) (AskedOrBlank n s e) s.stored known n (begun now s).state b
  body_ok e now (VoteRequest vote last) sent = tt
  body_ok e now (VoteReply vote granted last) sent = λ granters is. inl refl
  body_ok e now (AppendRequest a) sent = sent
  body_ok e now (AppendReply reply) sent = tt
  body_ok e now (SnapshotRequest vote id x) sent = sent
  body_ok e now (SnapshotReply reply) sent = tt

  change_ok : (change : ChangeMembers) (token now : ℕ) → refusal_of n s (Call (ChangeMembership change token) now) ≡ None → (o : Option LoggedMembership) → membership_in_force s.stored ≡ o → ChangeOk (Known led) (AskedOrBlank n s (Call (ChangeMembership change token) now)) s.stored known (begun now s).state o change
  change_ok change token now taken None is = tt
  change_ok change token now taken (Some x) is =
      let leads = taken_leads n s (ChangeMembership change token) now refl taken in
      (ap is_leader leads.1, inr (taken, ap (λ (o : Option LoggedMembership). changed_entry s.stored o change) is))

  call_ok : (call : GroupCall) (now : ℕ) → refusal_of n s (Call call now) ≡ None → CallOk (Known led) (AskedOrBlank n s (Call call now)) s.stored known n (begun now s).state call
  call_ok (Initialize x) now taken = (inl refl, inl refl)
  call_ok Elect now taken = inl refl
  call_ok (Propose command token) now taken =
      let leads = taken_leads n s (Propose command token) now refl taken in (ap is_leader leads.1, inr (taken, refl))
  call_ok (ChangeMembership change token) now taken = change_ok change token now taken (membership_in_force s.stored) refl
  call_ok Heartbeat now taken = tt
  call_ok (Lost peer) now taken = tt
  call_ok TriggerSnapshot now taken = tt
  call_ok (TriggerPurge place) now taken = tt

  event_ok : (e : GroupEvent) → EventKnown led n (Comes e) → refusal_of n s e ≡ None → EventOk (Known led) (AskedOrBlank n s e) n s known e
  event_ok AddGroup sent taken = tt
  event_ok (Call call now) sent taken = call_ok call now taken
  event_ok (Receive peer x now) sent taken = body_ok (Receive peer x now) now x.body sent
  event_ok Open sent taken = absurd sent

  pub asked_done : (e : GroupEvent) → EventKnown led n (Comes e) → StepDone (Known led) (AskedOrBlank n s e) s.stored (group_step n s e)
  asked_done e sent = step-done (Known led) (AskedOrBlank n s e) n s e known (event_ok e sent)
