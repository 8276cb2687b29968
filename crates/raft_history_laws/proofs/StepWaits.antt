-- What a step leaves of the tokens: those that it told are committed, those that wait lie above.
use Rattle.std.specs.Prelude.{◌≡◌, ◌⊎◌, ℕ, ◌<◌, ◌^◌, ◌==◌, ◌&&◌, cond, not, nat_lt, Bool, true, false, List, [], ◌∷◌, ◌++◌, filter, length, Option, Some, None, is_none, refl}
use Rattle.std.proofs.Common.{inl, inr, sym, ap, ap₂, ◌∙◌, subst, arith, ⊎_elim, append-nil}
use Rattle.std.proofs.lemmas.Bool.{and_parts}
use Rattle.raft_values.specs.declared.log_id.LogId.{LogId}
use Rattle.raft_values.specs.declared.vote.Vote.{Vote}
use Rattle.raft_values.specs.LogId.{log_id_of, place_of}
use Rattle.raft_state.specs.declared.entry.EntryPayload.TheVariants.{Membership as Members}
use Rattle.raft_group_step.specs.Values.{ChangeMembers, entry_of, LoggedMembership, Membership, vote_eq, vote_lt}
use Rattle.raft_group_step.specs.StoredGroup.{StoredGroup, Snapshot, PutEntries, StartAfter, end_place, entry_at, first_place, held, id_of, membership_in_force, snapshot_last}
use Rattle.raft_group_step.specs.Message.{MessageBody, VoteRequest, VoteReply, AppendRequest, AppendReply, SnapshotRequest, SnapshotReply}
use Rattle.raft_group_step.specs.Peer.{PeerState, is_kept_for_peers}
use Rattle.raft_group_step.specs.GroupState.{GroupState, Lead, Role, Follower, Candidate, Leader, Untold, is_leader, state_of}
use Rattle.raft_group_step.specs.declared.group_call.GroupCall.TheVariants.{Initialize, Elect, Propose, ChangeMembership, Heartbeat, Lost, TriggerSnapshot, TriggerPurge}
use Rattle.raft_group_step.specs.GroupEvent.{GroupCall, GroupEvent, AddGroup, Call, Receive, Open}
use Rattle.raft_group_step.specs.StepResult.{InProgress, NotLeader, StepResult, apply_up_to, in_role, is_within, later_place, send, store, take_over, unchanged}
use Rattle.raft_group_step.specs.Lead.{commit_as_leader, last_place, may_be_committed, new_lead, other_ids, peer_of, purge_as_wished, purge_up_to, remove_up_to, with_wish}
use Rattle.raft_group_step.specs.Frames.{has_grown, lacks_entries, notice, send_entries, send_request, send_snapshot, serve_all, serve_as}
use Rattle.raft_group_step.specs.VoteRequest.{may_grant}
use Rattle.raft_group_step.specs.MembershipStep.{append_changed}
use Rattle.raft_group_step.specs.Opening.{drop_stale_log, is_joined_to, opening_step}
use Rattle.raft_group_step.specs.Refusal.{do_follow, has_known_snapshot, is_of_leader, is_settled_membership, is_sound, keep_voters, known_leader, reasons_of, refusal_of}
use Rattle.raft_group_step.specs.GroupStep.{begun, call_step, event_step, finished, group_step, message_step, step_unless}
use Rattle.raft_group_step.proofs.Words.{either}
use Rattle.raft_group_step.proofs.Refusals.{unless_none}
use Rattle.raft_laws.specs.BallotWorld.{BallotEvent, BallotWorld}
use Rattle.raft_laws.proofs.BallotAgreement.{same_some}
use Rattle.raft_laws.proofs.Shapes.{joined_end, joined_held}
use Rattle.raft_laws.proofs.Standing.{BodyFits, RoleFits}
use Rattle.raft_laws.proofs.StepCalls.{no_reason}
use Rattle.raft_laws.proofs.StepDispatch.{begins, event_ends, finished_ends}
use Rattle.raft_laws.proofs.StepFits.{EventFits, NodeFits, StopFits, world_after}
use Rattle.raft_laws.proofs.StepMessages.{message_passed, of_leader}
use Rattle.raft_laws.proofs.StepOpening.{opening_ends, opening_wish}
use Rattle.raft_laws.proofs.StepTokens.{Quiet, apply_quiet, drop_quiet, same_quiet}
use Rattle.raft_laws.proofs.StepTold.{token_at}
use Rattle.raft_laws.proofs.StepWishes.{Wished}
use Rattle.raft_laws.proofs.Tracking.{Tracks}
use Rattle.raft_laws.proofs.TrackElections.{Ends}
use Rattle.raft_laws.proofs.TrackVotes.{took_over}
use Rattle.raft_history_laws.proofs.StepEnds.{finished_held}
use Rattle.raft_history_laws.proofs.StepLeads.{Going, Kept, Without, beat_going, began_of, counted_kept, elect_without, heard_kept, judged_kept, lost_going, none_began, offered_kept, reply_kept, snapshot_going, within_going}

-- the tokens that an event brings, with their places
abbrev pub brought_by : StoredGroup → GroupCall → List Untold
brought_by st (Initialize first) = []
brought_by st Elect = []
brought_by st (Propose command token) = token_at st token ∷ []
brought_by st (ChangeMembership change token) = token_at st token ∷ []
brought_by st Heartbeat = []
brought_by st (Lost peer) = []
brought_by st TriggerSnapshot = []
brought_by st (TriggerPurge place) = []

abbrev pub brought : StoredGroup → GroupEvent → List Untold
brought st AddGroup = []
brought st (Call call now) = brought_by st call
brought st (Receive peer x now) = []
brought st Open = []

-- the tokens of committed places
abbrev pub due : Option ℕ → Untold → Bool
due committed x = is_within x.place committed

-- ---- within an event: the tokens are those of before, and what the event brings

pub record Takes (s : GroupState) (more : List Untold) (q : StepResult) : Type 0 where
  pub vote : q.state.stored.vote ≡ s.stored.vote
  pub began : began_of q.state.role ≡ began_of s.role
  pub untold : q.state.untold ≡ s.untold ++ more
  pub told : q.told ≡ []
  pub committed : q.state.committed ≡ s.committed

module _ (s : GroupState) (others : is_leader s.role ≡ false → s.untold ≡ []) where
  abbrev Taken : List Untold → StepResult → Type 0
  Taken more q = (Without q × (more ≡ [])) ⊎ Takes s more q

  going : (q : StepResult) → Going s others q → Taken [] q
  going q g =
      inr
      (record {
        vote = g.vote;
        began = g.began;
        untold = g.untold ∙ sym (append-nil s.untold);
        told = g.told;
        committed = g.committed;
      })

  kept : (q : StepResult) → Kept s others q → Taken [] q
  kept q h = ⊎_elim (λ w. inl (w, refl)) (λ g. going q g) h

  first_going : (now : ℕ) → Going s others (begun now s)
  first_going now = record { vote = refl; began = refl; untold = refl; told = refl; committed = refl }

  changed_taken : (now : ℕ) (o : Option LoggedMembership) (change : ChangeMembers) (token : ℕ) → is_settled_membership s o ≡ true → Taken (token_at s.stored token ∷ []) (append_changed o change token (begun now s))
  changed_taken now None change token t = absurd (let f : false ≡ true = t in cc)
  changed_taken now (Some x) change token t = inr (record { vote = refl; began = refl; untold = refl; told = refl; committed = refl })

  call_taken : (own : ℕ) (call : GroupCall) (now : ℕ) → refusal_of own s (Call call now) ≡ None → Taken (brought_by s.stored call) (call_step own call (begun now s))
  call_taken own (Initialize first) now e =
      inl (elect_without own (store (PutEntries 0 (entry_of (log_id_of 0 0 0) (Members first) ∷ [])) (begun now s)) refl, refl)
  call_taken own Elect now e = inl (elect_without own (begun now s) refl, refl)
  call_taken own (Propose command token) now e = inr (record { vote = refl; began = refl; untold = refl; told = refl; committed = refl })
  call_taken own (ChangeMembership change token) now e =
      let passed = (no_reason (reasons_of own s (Call (ChangeMembership change token) now)) e).1 in
      changed_taken now (membership_in_force s.stored) change token (unless_none (is_settled_membership s (membership_in_force s.stored)) InProgress passed.1.1.0)
  call_taken own Heartbeat now e = going (call_step own Heartbeat (begun now s)) (beat_going s others own s.role (begun now s) (first_going now))
  call_taken own (Lost peer) now e = going (call_step own (Lost peer) (begun now s)) (lost_going s others peer s.role (begun now s) refl (first_going now))
  call_taken own TriggerSnapshot now e = going (call_step own TriggerSnapshot (begun now s)) (snapshot_going s others s.applied (begun now s) (first_going now))
  call_taken own (TriggerPurge place) now e = going (call_step own (TriggerPurge place) (begun now s)) (within_going s others place (snapshot_last s.stored) (begun now s) (first_going now))

  module _ {m : Membership} {some : 0 < length m.configs} {own : ℕ} {before : List BallotEvent} {base : StoredGroup} (small : own < 2 ^ 64) (w : BallotWorld) (now : ℕ) (t : Tracks m some own before base w (begun now s)) (role : RoleFits own w s.stored.vote (held s.stored) s.role) where
    -- a leader's request makes the node follow
    follows : (v : Vote ℕ) → v.leader_id.node_id < 2 ^ 64 → (v.leader_id.node_id ≡ own → ⊥) → vote_lt v s.stored.vote ≡ false → (take_over v (begun now s)).state.role ≡ Follower
    follows v bound other low =
        (took_over m some own small before base w (begun now s) t v bound other
        (subst (λ l. RoleFits own w s.stored.vote l s.role) (joined_held s.stored t.up.list t.up.joined) role) low).role

    body_kept : (peer : ℕ) → (peer ≡ own → ⊥) → (b : MessageBody) → BodyFits m w peer b → is_sound own peer s.stored b ≡ true → Kept s others (message_step own peer b (begun now s))
    body_kept peer ne (VoteRequest v last) fits sound = judged_kept s others own peer v (may_grant (begun now s).state v last) (begun now s) (inr (first_going now))
    body_kept peer ne (VoteReply v granted last) fits sound = counted_kept s others peer (granted && vote_eq v s.stored.vote) v (begun now s) (inr (first_going now))
    body_kept peer ne (AppendRequest a) fits sound =
        let one = and_parts (is_of_leader peer a.vote && do_follow a.vote a.previous a.entries) (keep_voters (membership_in_force s.stored) a.entries) sound in
        let two = and_parts (is_of_leader peer a.vote) (do_follow a.vote a.previous a.entries) one.0 in
        let led = of_leader peer ne a.vote two.0 in
        heard_kept s others own peer a (vote_lt a.vote s.stored.vote) (begun now s) (follows a.vote fits.bound led.1) (inr (first_going now))
    body_kept peer ne (AppendReply reply) fits sound = reply_kept s others peer reply (begun now s) (inr (first_going now))
    body_kept peer ne (SnapshotRequest v id x) fits sound =
        let parts = and_parts (is_of_leader peer v) (has_known_snapshot (membership_in_force s.stored) x.membership) sound in
        let led = of_leader peer ne v parts.0 in
        offered_kept s others own peer v id x (vote_lt v s.stored.vote) (begun now s) (follows v fits.bound led.1) (inr (first_going now))
    body_kept peer ne (SnapshotReply reply) fits sound = reply_kept s others peer reply (begun now s) (inr (first_going now))

-- ---- openings

drop_role : (last : Option (LogId ℕ)) (r : StepResult) → (drop_stale_log last r).state.role ≡ r.state.role
drop_role None r = refl
drop_role (Some last) r = either (λ q. q.state.role ≡ r.state.role) (is_joined_to r.state.stored last) r (store (StartAfter last) r) refl refl

pub opening_without : (own : ℕ) (st : StoredGroup) → Without (opening_step own st)
opening_without own st =
    let last = snapshot_last st in
    let dropped = drop_stale_log last (unchanged (state_of st)) in
    let placed = apply_up_to (place_of last) dropped in
    let quiet : Quiet placed = apply_quiet (place_of last) dropped (drop_quiet last (unchanged (state_of st)) (record { untold = refl; told = refl })) in
    let vote = placed.state.stored.vote in
    either Without (vote.committed && vote.leader_id.node_id == own) (in_role (Leader (new_lead placed.state.stored)) placed) placed
    (record {
      quiet = same_quiet placed (in_role (Leader (new_lead placed.state.stored)) placed) refl refl quiet;
      began = λ place is. let e = same_some is in omega arith;
    })
    (record { quiet = quiet; began = none_began placed.state.role placed.state.stored (ap began_of (drop_role last (unchanged (state_of st)))) })

-- ---- the end of an event

-- what sends and purges leaves these alone
pub record Alike (r q : StepResult) : Type 0 where
  pub vote : q.state.stored.vote ≡ r.state.stored.vote
  pub began : began_of q.state.role ≡ began_of r.state.role
  pub untold : q.state.untold ≡ r.state.untold
  pub told : q.told ≡ r.told
  pub committed : q.state.committed ≡ r.state.committed

alike : (r : StepResult) → Alike r r
alike r = record { vote = refl; began = refl; untold = refl; told = refl; committed = refl }

alike_trans : {p q r : StepResult} → Alike p q → Alike q r → Alike p r
alike_trans h k =
    record {
      vote = k.vote ∙ h.vote;
      began = k.began ∙ h.began;
      untold = k.untold ∙ h.untold;
      told = k.told ∙ h.told;
      committed = k.committed ∙ h.committed;
    }

-- a leader with another note of a peer
alike_lead : (r q : StepResult) (lead : Lead) → r.state.role ≡ Leader lead → began_of q.state.role ≡ Some lead.began → q.state.stored ≡ r.state.stored → q.state.untold ≡ r.state.untold → q.told ≡ r.told → q.state.committed ≡ r.state.committed → Alike r q
alike_lead r q lead e f a b c d =
    record { vote = ap (λ (st : StoredGroup). st.vote) a; began = f ∙ sym (ap began_of e); untold = b; told = c; committed = d }

request_alike : (own : ℕ) (p : PeerState) (lead : Lead) (o : Option Snapshot) (r : StepResult) → r.state.role ≡ Leader lead → Alike r (send_request own p lead o r)
request_alike own p lead None r e = alike_lead r (send_entries own p lead r) lead e refl refl refl refl refl
request_alike own p lead (Some x) r e =
    either (Alike r) (nat_lt p.search (first_place r.state.stored)) (send_snapshot own p lead x r) (send_entries own p lead r)
    (alike_lead r (send_snapshot own p lead x r) lead e refl refl refl refl refl)
    (alike_lead r (send_entries own p lead r) lead e refl refl refl refl refl)

send_alike : (own peer : ℕ) (r : StepResult) (b : MessageBody) → Alike r (send own peer b r)
send_alike own peer r b = record { vote = refl; began = refl; untold = refl; told = refl; committed = refl }

serve_as_alike : (own : ℕ) (b : Bool) (n : ℕ) (role : Role) (r : StepResult) → r.state.role ≡ role → Alike r (serve_as own b n role r)
serve_as_alike own b n Follower r e = alike r
serve_as_alike own b n (Candidate granters) r e = alike r
serve_as_alike own b n (Leader lead) r e =
    let p = peer_of lead n in
    let told = send own p.peer (notice r.state p) r in
    either (Alike r) (is_none p.outstanding && lacks_entries r.state.stored p) (send_request own p lead r.state.stored.snapshot r) (cond b told r)
    (request_alike own p lead r.state.stored.snapshot r e)
    (either (Alike r) b told r (send_alike own p.peer r (notice r.state p)) (alike r))

serve_all_alike : (own : ℕ) (b : Bool) (ns : List ℕ) (r : StepResult) → Alike r (serve_all own b ns r)
serve_all_alike own b [] r = alike r
serve_all_alike own b (n ∷ ns) r = alike_trans (serve_as_alike own b n r.state.role r refl) (serve_all_alike own b ns _)

removed_alike : (o : Option (LogId ℕ)) (r : StepResult) → Alike r (remove_up_to o r)
removed_alike None r = alike r
removed_alike (Some id) r = record { vote = refl; began = refl; untold = refl; told = refl; committed = refl }

wished_alike : (role : Role) (wish : Option ℕ) (r : StepResult) → Alike r (purge_as_wished role wish r)
wished_alike Follower wish r = alike r
wished_alike (Candidate granters) wish r = alike r
wished_alike (Leader lead) None r = alike r
wished_alike (Leader lead) (Some place) r =
    let q = with_wish None r in
    either (Alike r) (is_kept_for_peers place lead.peers) r (purge_up_to place q) (alike r)
    (alike_trans {q = q} (record { vote = refl; began = refl; untold = refl; told = refl; committed = refl }) (removed_alike (id_of (entry_at q.state.stored place)) q))

pub end_alike : (own : ℕ) (before : Option ℕ) (r : StepResult) → Alike (commit_as_leader own r.state.role r) (finished own before r)
end_alike own before r =
    let r1 = commit_as_leader own r.state.role r in
    let r2 = purge_as_wished r1.state.role r1.state.wish r1 in
    alike_trans (wished_alike r1.state.role r1.state.wish r1) (serve_all_alike own (has_grown before r2.state.committed) (other_ids own r2.state.stored) r2)

-- a lead that goes on: what is told is committed, what waits lies above
pub record WaitsOn (s : GroupState) (more : List Untold) (r : StepResult) : Type 0 where
  pub vote : r.state.stored.vote ≡ s.stored.vote
  pub began : began_of r.state.role ≡ began_of s.role
  pub told : r.told ≡ filter (due r.state.committed) (s.untold ++ more)
  pub untold : r.state.untold ≡ filter (λ x. not (due r.state.committed x)) (s.untold ++ more)

waits_on : (s : GroupState) (more : List Untold) (r q : StepResult) → Alike r q → WaitsOn s more r → WaitsOn s more q
waits_on s more r q a h =
    record {
      vote = a.vote ∙ h.vote;
      began = a.began ∙ h.began;
      told = a.told ∙ h.told ∙ ap (λ c. filter (due c) (s.untold ++ more)) (sym a.committed);
      untold = a.untold ∙ h.untold ∙ ap (λ c. filter (λ x. not (due c x)) (s.untold ++ more)) (sym a.committed);
    }

module _ (s : GroupState) (more : List Untold) (none : is_leader s.role ≡ false → s.untold ++ more ≡ []) where
  -- nobody leads
  idle : (r : StepResult) → Takes s more r → is_leader s.role ≡ false → WaitsOn s more r
  idle r t e =
      let nil = none e in
      record {
        vote = t.vote;
        began = t.began;
        told = t.told ∙ ap (filter (due r.state.committed)) (sym nil);
        untold = t.untold ∙ nil ∙ ap (filter (λ x. not (due r.state.committed x))) (sym nil);
      }

  no_lead : (role : Role) → None ≡ began_of role → is_leader role ≡ false
  no_lead Follower e = refl
  no_lead (Candidate granters) e = refl
  no_lead (Leader lead) e = absurd (let f : None ≡ Some lead.began = e in cc)

  commit_waits : (own : ℕ) (role : Role) (r : StepResult) → r.state.role ≡ role → Takes s more r → WaitsOn s more (commit_as_leader own role r)
  commit_waits own Follower r e t = idle r t (no_lead s.role (sym (ap began_of e) ∙ t.began))
  commit_waits own (Candidate granters) r e t = idle r t (no_lead s.role (sym (ap began_of e) ∙ t.began))
  commit_waits own (Leader lead) r e t =
      let place = last_place (filter (may_be_committed own r.state.stored lead) r.state.stored.log) in
      let upto = later_place r.state.committed place in
      record {
        vote = t.vote;
        began = t.began;
        told = ap₂ (λ xs ys. xs ++ filter (due upto) ys) t.told t.untold;
        untold = ap (filter (λ x. not (due upto x))) t.untold;
      }

  finished_waits : (own : ℕ) (before : Option ℕ) (r : StepResult) → Takes s more r → WaitsOn s more (finished own before r)
  finished_waits own before r t =
      waits_on s more (commit_as_leader own r.state.role r) (finished own before r) (end_alike own before r) (commit_waits own r.state.role r refl t)

-- no tokens
commit_quiet : (own : ℕ) (role : Role) (r : StepResult) → Quiet r → Quiet (commit_as_leader own role r)
commit_quiet own Follower r h = h
commit_quiet own (Candidate granters) r h = h
commit_quiet own (Leader lead) r h = apply_quiet (last_place (filter (may_be_committed own r.state.stored lead) r.state.stored.log)) r h

pub finished_quiet : (own : ℕ) (before : Option ℕ) (r : StepResult) → Quiet r → Quiet (finished own before r)
finished_quiet own before r h =
    let a = end_alike own before r in
    same_quiet (commit_as_leader own r.state.role r) (finished own before r) a.untold a.told (commit_quiet own r.state.role r h)

commit_began : (own : ℕ) (role : Role) (r : StepResult) → began_of (commit_as_leader own role r).state.role ≡ began_of r.state.role
commit_began own Follower r = refl
commit_began own (Candidate granters) r = refl
commit_began own (Leader lead) r = refl

-- ---- each step

-- there are no tokens, nor does the event bring one, or the lead goes on with those of before and what the event brings
abbrev pub Waiting : GroupState → List Untold → StepResult → Type 0
Waiting s more r = (Without r × (more ≡ [])) ⊎ WaitsOn s more r

module _ {m : Membership} {some : 0 < length m.configs} {own : ℕ} {before : List BallotEvent} {base : StoredGroup} {w : BallotWorld} where
  end_stays : (committed : Option ℕ) (r : StepResult) → Ends m some own before base w r → Wished r → end_place (finished own committed r).state.stored ≡ end_place r.state.stored
  end_stays committed r e h =
      let u = e.tracks.up in
      let v = (finished_ends committed r e h).0.tracks.up in
      let same = ap length (finished_held committed r e h) in
      let a = ap length (joined_held r.state.stored u.list u.joined) in
      let b = joined_end r.state.stored u.list u.joined in
      let c = ap length (joined_held (finished own committed r).state.stored v.list v.joined) in
      let d = joined_end (finished own committed r).state.stored v.list v.joined in
      omega arith

  finished_without : (committed : Option ℕ) (r : StepResult) → Ends m some own before base w r → Wished r → Without r → Without (finished own committed r)
  finished_without committed r e h x =
      record {
        quiet = finished_quiet own committed r x.quiet;
        began = λ place is.
            let l = x.began place (sym ((end_alike own committed r).began ∙ commit_began own r.state.role r) ∙ is) in
            let stays = end_stays committed r e h in
            omega arith;
      }

module _ (m : Membership) (some : 0 < length m.configs) (own : ℕ) (small : own < 2 ^ 64) (before : List BallotEvent) where
  pub event_taken : (s : GroupState) (e : GroupEvent) → NodeFits m (world_after m before) own s → EventFits m (world_after m before) e → (is_leader s.role ≡ false → s.untold ≡ []) → refusal_of own s e ≡ None → (Without (event_step own s e) × (brought s.stored e ≡ [])) ⊎ Takes s (brought s.stored e) (event_step own s e)
  event_taken s AddGroup n fits others passed =
      inr (record { vote = refl; began = refl; untold = sym (append-nil s.untold); told = refl; committed = refl })
  event_taken s (Call call now) n fits others passed = call_taken s others own call now passed
  event_taken s (Receive peer x now) n fits others passed =
      let p = message_passed own s peer x now passed in
      kept s others (event_step own s (Receive peer x now))
      (body_kept s others small (world_after m before) now (begins m some own before s (begun now s).state n refl refl refl) n.role peer p.stranger x.body
      (subst (λ k. BodyFits m (world_after m before) k x.body) p.sender fits) p.sound)
  event_taken s Open n fits others passed = inl (opening_without own s.stored, refl)

  -- only a leader takes more tokens
  pub brings_none : (s : GroupState) (e : GroupEvent) → refusal_of own s e ≡ None → is_leader s.role ≡ false → brought s.stored e ≡ []
  brings_none s AddGroup passed lone = refl
  brings_none s (Call (Initialize first) now) passed lone = refl
  brings_none s (Call Elect now) passed lone = refl
  brings_none s (Call (Propose command token) now) passed lone =
      let p = (no_reason (reasons_of own s (Call (Propose command token) now)) passed).1 in
      let t = unless_none (is_leader s.role) (NotLeader (known_leader s.stored.vote)) p.1.1.0 in
      absurd (let f : false ≡ true = sym lone ∙ t in cc)
  brings_none s (Call (ChangeMembership change token) now) passed lone =
      let p = (no_reason (reasons_of own s (Call (ChangeMembership change token) now)) passed).1 in
      let t = unless_none (is_leader s.role) (NotLeader (known_leader s.stored.vote)) p.1.0 in
      absurd (let f : false ≡ true = sym lone ∙ t in cc)
  brings_none s (Call Heartbeat now) passed lone = refl
  brings_none s (Call (Lost peer) now) passed lone = refl
  brings_none s (Call TriggerSnapshot now) passed lone = refl
  brings_none s (Call (TriggerPurge place) now) passed lone = refl
  brings_none s (Receive peer x now) passed lone = refl
  brings_none s Open passed lone = refl

  pub step_waits : (s : GroupState) (e : GroupEvent) → NodeFits m (world_after m before) own s → EventFits m (world_after m before) e → (is_leader s.role ≡ false → s.untold ≡ []) → refusal_of own s e ≡ None → Waiting s (brought s.stored e) (group_step own s e)
  step_waits s e n fits others passed =
      let on = event_ends m some own before small s e n fits passed in
      let r0 = event_step own s e in
      let is : group_step own s e ≡ finished own s.committed r0 = ap (λ o. step_unless o own s e) passed in
      subst (Waiting s (brought s.stored e)) (sym is)
      (⊎_elim
      (λ x. inl (finished_without s.committed r0 on.0 on.1 x.0, x.1))
      (λ x.
      inr
      (finished_waits s (brought s.stored e)
      (λ lone. ap₂ (λ xs ys. xs ++ ys) (others lone) (brings_none s e passed lone))
      own s.committed r0 x))
      (event_taken s e n fits others passed))

  pub opening_waits : (st : StoredGroup) → StopFits m (world_after m before) own st → Without (group_step own (state_of st) Open)
  opening_waits st n =
      finished_without {some = some} None (event_step own (state_of st) Open) (opening_ends m some own before st n.down n.lead) (opening_wish m some own before st n.down n.lead)
      (opening_without own st)
