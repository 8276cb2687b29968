-- Each step claims no more to be committed than was known or told, but for what a leader commits in it.
use Rattle.std.specs.Prelude.{◌≡◌, ◌⊎◌, ℕ, ◌+◌, ◌<◌, ◌≤◌, ◌^◌, max, List, [], ◌∷◌, length, slice_get, Option, Some, None, option_map, refl}
use Rattle.std.proofs.Common.{inl, inr, sym, ap, ◌∙◌, subst, arith, ⊎_elim}
use Rattle.raft_values.specs.declared.vote.Vote.{Vote}
use Rattle.raft_values.specs.declared.log_id.LogId.{LogId}
use Rattle.raft_values.specs.LogId.{log_id_of, next_place, place_of}
use Rattle.raft_state.specs.declared.entry.EntryPayload.TheVariants.{Normal, Membership as Members}
use Rattle.raft_group_step.specs.Values.{Membership, entry_of}
use Rattle.raft_group_step.specs.StoredGroup.{StoredGroup, StoringCommand, MakeGroup, PutEntries, Snapshot, entry_at, held, id_of, prefix_of, snapshot_last}
use Rattle.raft_group_step.specs.Message.{MessageBody, VoteRequest, VoteReply, AppendRequest, AppendReply, SnapshotRequest, SnapshotReply}
use Rattle.raft_group_step.specs.GroupState.{GroupState, Role, Follower, Candidate, Leader, is_leader, state_of}
use Rattle.raft_group_step.specs.declared.group_call.GroupCall.TheVariants.{Initialize, Elect, Propose, ChangeMembership, Heartbeat, Lost, TriggerSnapshot, TriggerPurge}
use Rattle.raft_group_step.specs.GroupEvent.{GroupCall, GroupEvent, AddGroup, Call, Receive, Open}
use Rattle.raft_group_step.specs.StepResult.{RefusalReason, StepResult, apply_up_to, refused_step, store, unchanged}
use Rattle.raft_group_step.specs.SnapshotRequest.{place_above}
use Rattle.raft_group_step.specs.VoteRequest.{may_grant}
use Rattle.raft_group_step.specs.Lead.{commit_as_leader, purge_as_wished}
use Rattle.raft_group_step.specs.Frames.{committed_id, with_frames}
use Rattle.raft_group_step.specs.Opening.{drop_stale_log, opening_step}
use Rattle.raft_group_step.specs.Refusal.{refusal_of}
use Rattle.raft_group_step.specs.GroupStep.{begun, call_step, event_step, finished, group_step, message_step, step_unless}
use Rattle.raft_group_step.proofs.Words.{commit_keeps_role, commit_keeps_stored}
use Rattle.raft_laws.specs.BallotWorld.{BallotWorld, BallotEvent}
use Rattle.raft_laws.proofs.BallotSafe.{Among}
use Rattle.raft_laws.proofs.Standing.{BodyFits, SnapshotFits, UpFits}
use Rattle.raft_laws.proofs.StepFits.{EventFits, NodeFits, StopFits, world_after}
use Rattle.raft_laws.proofs.TrackElections.{Ends}
use Rattle.raft_laws.proofs.TrackCommits.{commit_ends}
use Rattle.raft_laws.proofs.StepOpening.{opening_ends, opening_wish}
use Rattle.raft_laws.proofs.StepWishes.{Wished, committed_wish}
use Rattle.raft_laws.proofs.StepDispatch.{event_ends, wished_ends}
use Rattle.raft_laws.proofs.StepClaims.{ClaimWithin, CommandWithin, Known, Claims, ReplyKnown, applied_claims, beat_claims, changed_claims, counted_claims, elect_claims, frames_claims, heard_claims, judged_claims, lost_claims, more_claims, offered_claims, purge_within_claims, purged_claims, reply_claims, resumed_claims, shot_claims, stale_claims, stored_claims, token_claims}
use Rattle.raft_laws.proofs.WorldSteps.{MayCome}
use Rattle.raft_laws.proofs.StepCommits.{AcceptedBy, Commits, Purged, commit_moves, entry_index, frames_same, purged_same, says_within}

-- ---- what is known before an event

pub record StateClaims (limit : ℕ) (Replied : Vote ℕ → ℕ → LogId ℕ → Type 0) (s : GroupState) : Type 0 where
  pub committed : place_above s.committed ≤ limit
  pub snapshot : length (prefix_of s.stored.snapshot) ≤ limit
  pub matched : Known Replied s.stored.vote s.role

-- a reply that comes was sent
abbrev pub BodyKnown : (Vote ℕ → ℕ → LogId ℕ → Type 0) → ℕ → MessageBody → Type 0
BodyKnown Replied peer (VoteRequest vote last) = Unit {0}
BodyKnown Replied peer (VoteReply vote granted last) = Unit {0}
BodyKnown Replied peer (AppendRequest a) = Unit {0}
BodyKnown Replied peer (AppendReply r) = ReplyKnown 0 Replied peer r
BodyKnown Replied peer (SnapshotRequest vote id x) = Unit {0}
BodyKnown Replied peer (SnapshotReply r) = ReplyKnown 0 Replied peer r

abbrev pub EventClaims : ℕ → (Vote ℕ → ℕ → LogId ℕ → Type 0) → GroupEvent → Type 0
EventClaims limit Replied AddGroup = Unit {0}
EventClaims limit Replied (Call call now) = Unit {0}
EventClaims limit Replied (Receive peer x now) = ClaimWithin limit x.body × BodyKnown Replied peer x.body
EventClaims limit Replied Open = Unit {0}

module _ (limit : ℕ) (Replied : Vote ℕ → ℕ → LogId ℕ → Type 0) where
  pub begun_claims : (s s' : GroupState) → s'.stored ≡ s.stored → s'.committed ≡ s.committed → s'.role ≡ s.role → StateClaims limit Replied s → Claims limit Replied (unchanged s')
  begun_claims s s' a b c h = (
    subst (λ o. place_above o ≤ limit) (sym b) h.committed,
    subst (λ (st : StoredGroup). length (prefix_of st.snapshot) ≤ limit) (sym a) h.snapshot,
    λ x y. absurd y,
    λ x y. absurd y,
    subst (λ (st : StoredGroup). Known Replied st.vote s'.role) (sym a) (subst (Known Replied s.stored.vote) (sym c) h.matched),
  )

  body_claims : (m : Membership) (w : BallotWorld) (own peer : ℕ) (sender : ℕ) (b : MessageBody) (r : StepResult) → BodyFits m w sender b → ClaimWithin limit b → BodyKnown Replied peer b → Claims limit Replied r → Claims limit Replied (message_step own peer b r)
  body_claims m w own peer sender (VoteRequest v last) r fits l k h = judged_claims limit Replied own peer v (may_grant r.state v last) r h
  body_claims m w own peer sender (VoteReply v granted last) r fits l k h = counted_claims limit Replied peer _ v r h
  body_claims m w own peer sender (AppendRequest a) r fits l k h = heard_claims limit Replied own peer a _ r l h
  body_claims m w own peer sender (AppendReply reply) r fits l k h = reply_claims limit Replied peer reply r k h
  body_claims m w own peer sender (SnapshotRequest v id x) r fits l k h = offered_claims limit Replied own peer v id x _ r l (let n = fits.snapshot.size in omega arith) h
  body_claims m w own peer sender (SnapshotReply reply) r fits l k h = reply_claims limit Replied peer reply r k h

  -- a snapshot that is triggered has no more than is applied
  applied_within : {m : Membership} (w : BallotWorld) (own : ℕ) (s : GroupState) → UpFits m (w.node own) s → place_above s.committed ≤ limit → (i : ℕ) (id : LogId ℕ) → s.applied ≡ Some i → id_of (entry_at s.stored i) ≡ Some id → id.index + 1 ≤ limit
  applied_within {m} w own s u l i id a e =
      let at = entry_index m s.stored u.list u.fits.good u.joined i id e in
      let c : place_above s.committed ≡ i + 1 = ap place_above (sym u.applied ∙ a) in
      omega (arith, at.1)

  call_claims : {m : Membership} (w : BallotWorld) (own : ℕ) (s : GroupState) → UpFits m (w.node own) s → place_above s.committed ≤ limit → (call : GroupCall) (now : ℕ) → Claims limit Replied (begun now s) → Claims limit Replied (call_step own call (begun now s))
  call_claims w own s u l (Initialize first) now h =
      elect_claims limit Replied own (store (PutEntries 0 (entry_of (log_id_of 0 0 0) (Members first) ∷ [])) (begun now s))
      (stored_claims limit Replied (PutEntries 0 (entry_of (log_id_of 0 0 0) (Members first) ∷ [])) (begun now s) tt h.1 h.4 h)
  call_claims w own s u l Elect now h = elect_claims limit Replied own (begun now s) h
  call_claims w own s u l (Propose command token) now h = token_claims limit Replied (Normal command) token (begun now s) h
  call_claims w own s u l (ChangeMembership change token) now h = changed_claims limit Replied _ change token (begun now s) h
  call_claims w own s u l Heartbeat now h =
      beat_claims limit Replied own s.role (begun now s) (let n = says_within w own s u in omega arith) h
  call_claims w own s u l (Lost peer) now h = lost_claims limit Replied peer s.role (begun now s) refl h
  call_claims w own s u l TriggerSnapshot now h =
      shot_claims limit Replied s.applied (begun now s) (λ i id a e. applied_within w own s u l i id a e) h
  call_claims w own s u l (TriggerPurge place) now h = purge_within_claims limit Replied place (snapshot_last s.stored) (begun now s) h

  -- what the snapshot has is applied at an opening
  snapshot_within : (o : Option Snapshot) → ((x : Snapshot) → o ≡ Some x → SnapshotFits x) → length (prefix_of o) ≤ limit → place_above (place_of (option_map (λ (x : Snapshot). x.last) o)) ≤ limit
  snapshot_within None fits l = omega arith
  snapshot_within (Some x) fits l = let n = (fits x refl).size in omega arith

  pub opening_claims : (own : ℕ) (st : StoredGroup) → ((x : Snapshot) → st.snapshot ≡ Some x → SnapshotFits x) → length (prefix_of st.snapshot) ≤ limit → Claims limit Replied (opening_step own st)
  opening_claims own st fits l =
      let last = snapshot_last st in
      let begin = unchanged (state_of st) in
      let first : Claims limit Replied begin = (omega arith, l, λ x y. absurd y, λ c y. absurd y, tt) in
      let dropped = drop_stale_log last begin in
      resumed_claims limit Replied own (apply_up_to (place_of last) dropped)
      (applied_claims limit Replied (place_of last) dropped (snapshot_within st.snapshot fits l) (stale_claims limit Replied last begin first))

  pub event_claims : {m : Membership} (w : BallotWorld) (own : ℕ) (s : GroupState) (e : GroupEvent) → UpFits m (w.node own) s → EventFits m w e → EventClaims limit Replied e → StateClaims limit Replied s → Claims limit Replied (event_step own s e)
  event_claims w own s AddGroup u fits k h =
      let b = begun_claims s s refl refl refl h in
      stored_claims limit Replied MakeGroup (unchanged s) tt b.1 b.4 b
  event_claims w own s (Call call now) u fits k h =
      call_claims w own s u h.committed call now (begun_claims s (begun now s).state refl refl refl h)
  event_claims {m} w own s (Receive peer x now) u fits k h =
      body_claims m w own peer x.sender x.body (begun now s) fits k.0 k.1 (begun_claims s (begun now s).state refl refl refl h)
  event_claims w own s Open u fits k h = opening_claims own s.stored u.fits.snapshot h.snapshot

  -- ---- to the end of the event

  commit_claims : (own : ℕ) (role : Role) (r : StepResult) (limit' : ℕ) → limit ≤ limit' → place_above (commit_as_leader own role r).state.committed ≤ limit' → Claims limit Replied r → Claims limit' Replied (commit_as_leader own role r)
  commit_claims own Follower r limit' le l h = more_claims limit Replied r limit' le h
  commit_claims own (Candidate granters) r limit' le l h = more_claims limit Replied r limit' le h
  commit_claims own (Leader lead) r limit' le l h = let k = more_claims limit Replied r limit' le h in (l, k.1, k.2, k.3, k.4)

  commit_commands : (own : ℕ) (role : Role) (r : StepResult) → (commit_as_leader own role r).commands ≡ r.commands
  commit_commands own Follower r = refl
  commit_commands own (Candidate granters) r = refl
  commit_commands own (Leader lead) r = refl

  -- the end of a step: how far it claims, and what lies beyond the limit is what the leader commits
  pub record StepClaims (m : Membership) (own : ℕ) (r : StepResult) : Type 0 where
    pub claims : Claims (max limit (place_above r.state.committed)) Replied r
    pub stops : (c : StoringCommand) → Among c r.commands → CommandWithin limit c
    pub moves : (place_above r.state.committed ≤ limit) ⊎ Commits m Replied own r.state

  pub finished_claims : {m : Membership} {some : 0 < length m.configs} {own : ℕ} {before : List BallotEvent} {base : StoredGroup} {w : BallotWorld} (committed : Option ℕ) (r : StepResult) → Ends m some own before base w r → Wished r → Claims limit Replied r → StepClaims m own (finished own committed r)
  finished_claims {m} {some} {own} {before} {base} {w} committed r e h claims =
      record {
        claims = subst (λ o. Claims (max limit (place_above o)) Replied end) (sym place) ended;
        stops = λ c a.
            ⊎_elim
            (λ old. claims.3 c (subst (Among c) (commit_commands own r.state.role r) old))
            (λ x. subst (CommandWithin limit) (sym x.1) tt)
            (purged.commands c (subst (Among c) (frames_same own committed r2).4 a));
        moves =
            ⊎_elim
            (λ l. inl (subst (λ o. place_above o ≤ limit) (sym place) l))
            (λ x.
            inr
            (record {
              entry = x.entry;
              leads = (frames_same own committed r2).2 ∙ purged.leads ∙ ap is_leader (commit_keeps_role own r.state.role r) ∙ x.leads;
              place = place ∙ x.place;
              there = ap (λ l. slice_get l x.entry.log_id.index) (ap held (frames_same own committed r2).0 ∙ purged.held' ∙ ap held (commit_keeps_stored own r.state.role r)) ∙ x.there;
              written = x.written ∙ ap (λ (v : Vote ℕ). v.leader_id) (sym vote);
              test = x.test;
              quorum = x.quorum;
              accepted = λ n t. subst (λ (v : Vote ℕ). AcceptedBy Replied own v x.entry.log_id.index n) (sym vote) (x.accepted n t);
            }))
            (commit_moves limit Replied e.world r e.tracks claims r.state.role refl e.role);
      }
    where
      r1 : StepResult
      r1 = commit_as_leader own r.state.role r

      r2 : StepResult
      r2 = purge_as_wished r1.state.role r1.state.wish r1

      end : StepResult
      end = with_frames own committed r2

      one : Ends m some own before base e.world r1
      one = commit_ends e.world r e.tracks r.state.role refl e.role

      h1 : Wished r1
      h1 = committed_wish own r h

      two : Ends m some own before base one.world r2
      two = wished_ends one.world r1 one.tracks r1.state.role refl one.role r1.state.wish refl h1

      purged : Purged r1 r2
      purged = purged_same m one.world own r1 one.tracks.up h1

      place : end.state.committed ≡ r1.state.committed
      place = (frames_same own committed r2).1 ∙ purged.committed

      vote : end.state.stored.vote ≡ r.state.stored.vote
      vote = (frames_same own committed r2).3 ∙ purged.vote ∙ ap (λ (st : StoredGroup). st.vote) (commit_keeps_stored own r.state.role r)

      limit' : ℕ
      limit' = max limit (place_above r1.state.committed)

      says : next_place (committed_id r2.state) ≤ limit'
      says =
          let n = says_within two.world own r2.state two.tracks.up in
          let k : place_above r2.state.committed ≡ place_above r1.state.committed = ap place_above purged.committed in
          omega arith

      ended : Claims limit' Replied end
      ended =
          frames_claims limit' Replied own committed r2 says
          (purged_claims limit' Replied r1 (commit_claims own r.state.role r limit' (omega arith) (omega arith) claims))

  module _ (m : Membership) (some : 0 < length m.configs) (own : ℕ) (before : List BallotEvent) where
    pub refused_claims : (s : GroupState) (why : RefusalReason) → StateClaims limit Replied s → StepClaims m own (refused_step s why)
    refused_claims s why h =
        let b = begun_claims s s refl refl refl h in
        record {
          claims = more_claims limit Replied (unchanged s) (max limit (place_above s.committed)) (omega arith) b;
          stops = λ c a. absurd a;
          moves = inl h.committed;
        }

    pub step_limits : own < 2 ^ 64 → (s : GroupState) (e : GroupEvent) → NodeFits m (world_after m before) own s → MayCome m (world_after m before) own s e → EventClaims limit Replied e → StateClaims limit Replied s → StepClaims m own (group_step own s e)
    step_limits small s e n may k h =
        ⊎_elim
        (λ fits. go fits (refusal_of own s e) refl)
        (λ no. subst (λ o. StepClaims m own (step_unless o own s e)) (sym no.1) (refused_claims s no.0 h))
        may
      where
        go : EventFits m (world_after m before) e → (o : Option RefusalReason) → refusal_of own s e ≡ o → StepClaims m own (step_unless o own s e)
        go fits (Some why) is = refused_claims s why h
        go fits None is =
            let on = event_ends m some own before small s e n fits is in
            finished_claims s.committed (event_step own s e) on.0 on.1 (event_claims (world_after m before) own s e n.up fits k h)

    pub opening_limits : (st : StoredGroup) → StopFits m (world_after m before) own st → length (prefix_of st.snapshot) ≤ limit → StepClaims m own (group_step own (state_of st) Open)
    opening_limits st n l =
        finished_claims {some = some} None (event_step own (state_of st) Open) (opening_ends m some own before st n.down n.lead) (opening_wish m some own before st n.down n.lead)
        (opening_claims own st n.down.fits.snapshot l)
