-- What is asked of a node that is up, followed by the ballot machine to the call's own end.
use Rattle.std.specs.Prelude.{◌≡◌, ℕ, ◌<◌, ◌≤◌, ◌^◌, min, nat_lt, true, false, List, [], ◌∷◌, length, slice_get, Option, Some, None, option_map, refl}
use Rattle.std.proofs.Common.{sym, ap, ◌∙◌, subst, arith}
use Rattle.std.proofs.lemmas.Bool.{ltb-false}
use Rattle.std.proofs.lemmas.Option.{slice_get_within}
use Rattle.raft_values.specs.LogId.{log_id_of, next_place}
use Rattle.raft_state.specs.declared.entry.EntryPayload.TheVariants.{Normal, Membership as Members}
use Rattle.raft_group_step.specs.Values.{after_change, ChangeMembers, configs_eq, Entry, entry_of, EntryPayload, LoggedMembership, Membership}
use Rattle.raft_group_step.specs.StoredGroup.{StoredGroup, Snapshot, PutEntries, entry_at, id_of, membership_in_force, prefix_of, snapshot_last, held}
use Rattle.raft_group_step.specs.GroupState.{GroupState, Lead, Role, Follower, Candidate, Leader, is_leader}
use Rattle.raft_group_step.specs.declared.group_call.GroupCall.TheVariants.{Initialize, Elect, Propose, ChangeMembership, Heartbeat, Lost, TriggerSnapshot, TriggerPurge}
use Rattle.raft_group_step.specs.GroupEvent.{GroupCall, Call}
use Rattle.raft_group_step.specs.StepResult.{RefusalReason, NotLeader, NotVoter, NotAllowed, VoterChange, StepResult, store, later_place}
use Rattle.raft_group_step.specs.Lead.{with_wish}
use Rattle.raft_group_step.specs.Initialize.{is_new, initialize_step}
use Rattle.raft_group_step.specs.MembershipStep.{append_changed}
use Rattle.raft_group_step.specs.PurgeTrigger.{purge_as, purge_within}
use Rattle.raft_group_step.specs.SnapshotTrigger.{snapshot_at, store_snapshot_at, snapshot_of_applied}
use Rattle.raft_group_step.specs.GroupStep.{begun, call_step}
use Rattle.raft_group_step.specs.Refusal.{first_of_reasons, known_leader, is_voter_in, reasons_of, reasons_of_call, reasons_of_change, refusal_of}
use Rattle.raft_group_step.proofs.Words.{either_by, leads_if}
use Rattle.raft_group_step.proofs.Refusals.{unless_none}
use Rattle.raft_laws.specs.BallotWorld.{BallotWorld, BallotEvent}
use Rattle.raft_laws.proofs.BallotOthers.{extends_refl}
use Rattle.raft_laws.proofs.Shapes.{joined_held, joined_at}
use Rattle.raft_laws.proofs.Memberships.{HasMembership, in_force, last_voters}
use Rattle.raft_laws.proofs.Standing.{RoleFits}
use Rattle.raft_laws.proofs.StepFits.{CallFits, WishFits}
use Rattle.raft_laws.proofs.StepWishes.{Wished, elect_wish, beat_wish, longer_wish, lost_wish, purge_within_wish}
use Rattle.raft_laws.proofs.Tracking.{Tracks, track_same}
use Rattle.raft_laws.proofs.TrackElections.{Ends, configs-in, elect_ends, initialize_ends}
use Rattle.raft_laws.proofs.TrackFrames.{heartbeat_ends}
use Rattle.raft_laws.proofs.TrackCalls.{configs_same, lost_ends, size, snapshot_ends, snapshot_next, token_ends}
use Rattle.raft_laws.proofs.TrackPurges.{purge_ends}

-- ---- what an event that isn't refused passed

-- none of these reasons holds
abbrev pub NoReason : List (Option RefusalReason) → Type 0
NoReason [] = Unit {0}
NoReason (o ∷ os) = (o ≡ None) × NoReason os

pub no_reason : (os : List (Option RefusalReason)) → first_of_reasons os ≡ None → NoReason os
no_reason [] e = tt
no_reason (None ∷ os) e = (refl, no_reason os e)
no_reason (Some why ∷ os) e = absurd (let f : None ≡ Some why = sym e in cc)

known_voter : (o : Option LoggedMembership) (own : ℕ) → is_voter_in o own ≡ true → (x : LoggedMembership) × (o ≡ Some x)
known_voter None own e = absurd (let f : false ≡ true = e in cc)
known_voter (Some x) own e = (x, refl)

abbrev pub changed_to : LoggedMembership → ChangeMembers → EntryPayload
changed_to x change = Members (after_change x.membership change)

pub normal_differs : (command : List ℕ) (x : Membership) → Normal command ≡ Members x → ⊥
normal_differs command x e = cc

module _ {m : Membership} {some : 0 < length m.configs} {own : ℕ} {before : List BallotEvent} {base : StoredGroup} (w : BallotWorld) (r : StepResult) (t : Tracks m some own before base w r) (role : RoleFits own w r.state.stored.vote (held r.state.stored) r.state.role) where
  -- a step that fits to its end, with a wish within the snapshot
  abbrev pub Goes : StepResult → Type 0
  Goes q = Ends m some own before base w q × Wished q

  stays : Ends m some own before base w r
  stays = record { world = w; extends = extends_refl own w; tracks = t; role = role }

  in_force_is : (x : LoggedMembership) → membership_in_force r.state.stored ≡ Some x → HasMembership (held r.state.stored) × (x.membership.configs ≡ m.configs)
  in_force_is x e =
      let u = t.up in
      let listed = in_force r.state.stored u.list u.joined (λ y q. (u.fits.snapshot y q).membership) in
      let last = sym listed ∙ e in (
        subst HasMembership (sym (joined_held r.state.stored u.list u.joined)) (x, last),
        last_voters m 0 u.list None (λ y q. absurd (let f : None ≡ Some y = q in cc)) u.fits.good x last,
      )

  pub leading : (lead : Lead) → r.state.role ≡ Leader lead → RoleFits own w r.state.stored.vote (held r.state.stored) (Leader lead)
  leading lead e = subst (RoleFits own w r.state.stored.vote (held r.state.stored)) e role

  -- ---- changes of the membership

  pub change_keeps : (x : LoggedMembership) → membership_in_force r.state.stored ≡ Some x → (change : ChangeMembers) → NoReason (reasons_of_change (Some x) change) → (y : Membership) → changed_to x change ≡ Members y → y.configs ≡ m.configs
  change_keeps x e change passed y q =
      let new = after_change x.membership change in
      let same = configs_same x.membership.configs new.configs (unless_none (configs_eq x.membership.configs new.configs) VoterChange passed.1.0) in
      ap configs-in (sym q) ∙ sym same ∙ (in_force_is x e).1

  changed_goes : Wished r → (lead : Lead) → r.state.role ≡ Leader lead → (o : Option LoggedMembership) → membership_in_force r.state.stored ≡ o → (change : ChangeMembers) (token : ℕ) → NoReason (reasons_of_change o change) → Goes (append_changed o change token r)
  changed_goes h lead leads None e change token passed = (stays, h)
  changed_goes h lead leads (Some x) e change token passed =
      (token_ends w r t lead (Members (after_change x.membership change)) token (change_keeps x e change passed) leads (leading lead leads), h)

  -- ---- snapshots

  shot_wish : Wished r → (a : ℕ) → r.state.applied ≡ Some a → length (prefix_of r.state.stored.snapshot) ≤ a → (o : Option Entry) → entry_at r.state.stored a ≡ o → Wished (store_snapshot_at (id_of o) r)
  shot_wish h a is past None e = h
  shot_wish h a is past (Some x) e =
      let at = joined_at r.state.stored t.up.list t.up.joined a (omega (arith, past, (t.up.joined).low)) in
      let there : slice_get t.up.list a ≡ Some x = sym at ∙ e in
      let long = size w r t a is past x there (slice_get_within t.up.list a x there) in
      longer_wish r (Some (snapshot_at r.state.stored x.log_id)) (omega (arith, long, past)) h

  snapshot_wish : Wished r → (o : Option ℕ) → r.state.applied ≡ o → Wished (snapshot_of_applied o r)
  snapshot_wish h None e = h
  snapshot_wish h (Some a) e =
      either_by Wished (nat_lt a (next_place (snapshot_last r.state.stored))) _ _
      (λ b. h)
      (λ b.
      let l = ltb-false a (next_place (snapshot_last r.state.stored)) b in
      let n = snapshot_next w r t r.state.stored.snapshot refl in
      shot_wish h a e (omega (arith, l, n)) (entry_at r.state.stored a) refl)

  -- ---- purges

  purge_as_ends : (place : ℕ) (part : Role) → r.state.role ≡ part → place < length (prefix_of r.state.stored.snapshot) → Ends m some own before base w (purge_as place part r)
  purge_as_ends place Follower e l = purge_ends w r t role place l
  purge_as_ends place (Candidate granters) e l = purge_ends w r t role place l
  purge_as_ends place (Leader lead) e l =
      either_by (Ends m some own before base w) _ _ _
      (λ b. stays)
      (λ b.
      record {
        world = w;
        extends = extends_refl own w;
        tracks = track_same (with_wish (later_place r.state.wish (Some place)) r) t refl refl refl refl refl;
        role = role;
      })

  purge_within_ends : (place : ℕ) (o : Option Snapshot) → r.state.stored.snapshot ≡ o → Ends m some own before base w (purge_within place (option_map (λ (x : Snapshot). x.last) o) r)
  purge_within_ends place None e = stays
  purge_within_ends place (Some x) e =
      let n = (t.up.fits.snapshot x e).size in
      purge_as_ends (min place x.last.index) r.state.role refl
      (subst (λ o. min place x.last.index < length (prefix_of o)) (sym e) (omega (arith, n)))

-- ---- all calls

module _ {m : Membership} {some : 0 < length m.configs} {own : ℕ} {before : List BallotEvent} {base : StoredGroup} (small : own < 2 ^ 64) (w : BallotWorld) (s : GroupState) (now : ℕ) (t : Tracks m some own before base w (begun now s)) (role : RoleFits own w s.stored.vote (held s.stored) s.role) (wish : WishFits s) where
  abbrev r : StepResult
  r = begun now s

  -- a node that is a voter knows of a membership
  voter_has : is_voter_in (membership_in_force s.stored) own ≡ true → HasMembership (held s.stored)
  voter_has v = let x = known_voter (membership_in_force s.stored) own v in (in_force_is w r t role x.0 x.1).0

  call_goes_on : (call : GroupCall) → CallFits m call → NoReason (reasons_of_call own s now call) → Goes w r t role (call_step own call r)
  call_goes_on (Initialize first) fits passed =
      let new = unless_none (is_new s.stored) NotAllowed passed.1.1.1.0 in
      subst (λ k. Goes w r t role (initialize_step own k r)) (sym fits)
      (initialize_ends small w r t new, elect_wish own (store (PutEntries 0 (entry_of (log_id_of 0 0 0) (Members m) ∷ [])) r))
  call_goes_on Elect fits passed = (
    elect_ends small w r t (voter_has (unless_none (is_voter_in (membership_in_force s.stored) own) NotVoter passed.1.0)),
    elect_wish own r,
  )
  call_goes_on (Propose command token) fits passed =
      let lead = leads_if s.role (unless_none (is_leader s.role) (NotLeader (known_leader s.stored.vote)) passed.1.1.0) in (
        token_ends w r t lead.0 (Normal command) token (λ x e. absurd (normal_differs command x e)) lead.1 (leading w r t role lead.0 lead.1),
        wish,
      )
  call_goes_on (ChangeMembership change token) fits passed =
      let lead = leads_if s.role (unless_none (is_leader s.role) (NotLeader (known_leader s.stored.vote)) passed.1.0) in
      changed_goes w r t role wish lead.0 lead.1 (membership_in_force s.stored) refl change token passed.1.1.1
  call_goes_on Heartbeat fits passed = (heartbeat_ends w r t s.role refl role, beat_wish own s.role r wish)
  call_goes_on (Lost peer) fits passed = (lost_ends w r t peer s.role refl role, lost_wish peer s.role r wish)
  call_goes_on TriggerSnapshot fits passed = (snapshot_ends w r t role s.applied refl, snapshot_wish w r t role wish s.applied refl)
  call_goes_on (TriggerPurge place) fits passed = (
    purge_within_ends w r t role place s.stored.snapshot refl,
    purge_within_wish place s.stored.snapshot r refl (λ x e. (t.up.fits.snapshot x e).size) wish,
  )

  pub call_goes : (call : GroupCall) → CallFits m call → refusal_of own s (Call call now) ≡ None → Goes w r t role (call_step own call r)
  call_goes call fits passed = let p = no_reason (reasons_of own s (Call call now)) passed in call_goes_on call fits p.1
