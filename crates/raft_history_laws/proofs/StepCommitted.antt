-- A leader tells tokens of what it commits in the same step, by an entry of its own that a quorum has accepted.
use Rattle.std.specs.Prelude.{◌≡◌, ℕ, ◌+◌, ◌<◌, ◌≤◌, ◌^◌, Bool, true, false, List, [], ◌++◌, filter, length, slice_get, Option, Some, None, Contains, is_some, refl}
use Rattle.std.proofs.Common.{sym, ap, ◌∙◌, subst, arith, ⊎_elim, leb-true, le-leb}
use Rattle.raft_values.specs.declared.log_id.LogId.{LogId}
use Rattle.raft_values.specs.declared.vote.Vote.{Vote}
use Rattle.raft_quorums.specs.Quorum.{is_quorum as is_quorum_of}
use Rattle.raft_group_step.specs.Values.{Entry, Membership}
use Rattle.raft_group_step.specs.StoredGroup.{StoredGroup, end_place, held}
use Rattle.raft_group_step.specs.GroupState.{GroupState, Role, Follower, Candidate, Leader, Untold, is_leader}
use Rattle.raft_group_step.specs.GroupEvent.{GroupEvent}
use Rattle.raft_group_step.specs.StepResult.{StepResult, is_within}
use Rattle.raft_group_step.specs.SnapshotRequest.{place_above}
use Rattle.raft_group_step.specs.Lead.{commit_as_leader}
use Rattle.raft_group_step.specs.Refusal.{refusal_of}
use Rattle.raft_group_step.specs.GroupStep.{event_step, finished, group_step, step_unless}
use Rattle.raft_laws.specs.BallotWorld.{BallotEvent, BallotWorld}
use Rattle.raft_laws.proofs.Standing.{up_down}
use Rattle.raft_laws.proofs.StepClaims.{Claims, Known}
use Rattle.raft_laws.proofs.StepCommits.{AcceptedBy, commit_moves}
use Rattle.raft_laws.proofs.StepDispatch.{event_ends}
use Rattle.raft_laws.proofs.StepEntries.{Each, each_append, each_filter, each_more}
use Rattle.raft_laws.proofs.StepFits.{EventFits, NodeFits, world_after}
use Rattle.raft_laws.proofs.StepTold.{ToldFits}
use Rattle.raft_laws.proofs.StepWishes.{Wished}
use Rattle.raft_laws.proofs.Tracking.{MayStop, Tracks}
use Rattle.raft_laws.proofs.TrackElections.{Ends}
use Rattle.raft_laws.proofs.WorldSteps.{store_none}
use Rattle.raft_history_laws.specs.WaitingTokens.{IsWaiting}
use Rattle.raft_history_laws.proofs.StepEnds.{finished_held, finished_vote}
use Rattle.raft_history_laws.proofs.StepLeads.{began_of}
use Rattle.raft_history_laws.proofs.StepWaits.{WaitsOn, brought, due, end_alike, event_taken, finished_quiet, step_waits}
use Rattle.raft_history_laws.proofs.WaitingTokens.{Q, TokensWait, all_pass, brings_one, each_both, each_contains, tells}

-- ---- places below the committed one

pub due_within : (c : Option ℕ) (x : Untold) → due c x ≡ true → x.place < place_above c
due_within None x t = absurd (let f : false ≡ true = t in cc)
due_within (Some b) x t = let l = leb-true x.place b t in omega arith

within_due : (c : Option ℕ) (x : Untold) → x.place < place_above c → due c x ≡ true
within_due None x l = absurd (omega arith)
within_due (Some b) x l = le-leb x.place b (omega arith)

-- a leader by where its lead began
pub leads_by : (role : Role) → is_leader role ≡ is_some (began_of role)
leads_by Follower = refl
leads_by (Candidate granters) = refl
leads_by (Leader lead) = refl

-- ---- the step of a leader, as if nothing had been stored and sent before

abbrev afresh : StepResult → StepResult
afresh r = record r { commands = []; messages = [] }

fresh_tracks : {m : Membership} {some : 0 < length m.configs} {own : ℕ} {before : List BallotEvent} {base : StoredGroup} {w : BallotWorld} (r : StepResult) → Tracks m some own before base w r → Tracks m some own before r.state.stored w (afresh r)
fresh_tracks {m} {some} {own} {before} {base} {w} r t =
    record {
      reached = record { events = t.reached.events; by = t.reached.by; is = t.reached.is };
      stops = λ k.
          subst (MayStop m some own before r.state.stored) (sym (store_none k r.state.stored))
          (record {
            world = w;
            reached = record { events = t.reached.events; by = t.reached.by; is = t.reached.is };
            fits = up_down t.up;
            lead = t.lead;
          });
      stored = refl;
      up = t.up;
      lead = t.lead;
      messages = λ x a. absurd a;
    }

fresh_commits : (own : ℕ) (role : Role) (r : StepResult) → (commit_as_leader own role (afresh r)).state.committed ≡ (commit_as_leader own role r).state.committed
fresh_commits own Follower r = refl
fresh_commits own (Candidate granters) r = refl
fresh_commits own (Leader lead) r = refl

-- ---- what a told token stands for

-- the leader committed an entry of its own, at or after the token's place, that a quorum has accepted
pub record CommitsUpTo (m : Membership) (Replied : Vote ℕ → ℕ → LogId ℕ → Type 0) (own : ℕ) (s : GroupState) (x : Untold) : Type 0 where
  pub leads : is_leader s.role ≡ true
  pub entry : Entry
  pub stands : slice_get (held s.stored) x.place ≡ Some entry
  pub last : Entry
  pub there : slice_get (held s.stored) last.log_id.index ≡ Some last
  pub written : last.log_id.leader_id ≡ s.stored.vote.leader_id
  pub upto : x.place ≤ last.log_id.index
  pub test : ℕ → Bool
  pub quorum : is_quorum_of m.configs test ≡ true
  pub accepted : (n : ℕ) → test n ≡ true → AcceptedBy Replied own s.stored.vote last.log_id.index n

module _ (m : Membership) (some : 0 < length m.configs) (own : ℕ) (small : own < 2 ^ 64) (before : List BallotEvent) (s : GroupState) (e : GroupEvent) (fits : NodeFits m (world_after m before) own s) (event_fits : EventFits m (world_after m before) e) (passed : refusal_of own s e ≡ None) (h : TokensWait s) (end_above : is_within (end_place s.stored) s.committed ≡ false) (Replied : Vote ℕ → ℕ → LogId ℕ → Type 0) (known : Known Replied (event_step own s e).state.stored.vote (event_step own s e).state.role) where
  abbrev r0 : StepResult
  r0 = event_step own s e

  abbrev r : StepResult
  r = group_step own s e

  on : Ends m some own before s.stored (world_after m before) r0 × Wished r0
  on = event_ends m some own before small s e fits event_fits passed

  is_finished : r ≡ finished own s.committed r0
  is_finished = ap (λ o. step_unless o own s e) passed

  held_is : held r.state.stored ≡ held r0.state.stored
  held_is = ap (λ (q : StepResult). held q.state.stored) is_finished ∙ finished_held s.committed r0 on.0 on.1

  vote_is : r.state.stored.vote ≡ r0.state.stored.vote
  vote_is = ap (λ (q : StepResult). q.state.stored.vote) is_finished ∙ finished_vote s.committed r0 on.0 on.1

  abbrev fresh : StepResult
  fresh = commit_as_leader own r0.state.role (afresh r0)

  committed_is : r.state.committed ≡ fresh.state.committed
  committed_is =
      ap (λ (q : StepResult). q.state.committed) is_finished
      ∙ (end_alike own s.committed r0).committed
      ∙ sym (fresh_commits own r0.state.role r0)

  -- none of the tokens was committed before
  abbrev tokens : List Untold
  tokens = s.untold ++ brought s.stored e

  none_due : Each (λ (x : Untold). due s.committed x ≡ false) tokens
  none_due =
      each_append (λ (x : Untold). due s.committed x ≡ false) s.untold (brought s.stored e)
      (each_more (IsWaiting s) (λ (x : Untold). due s.committed x ≡ false) (λ x i. i.above) s.untold h.each)
      (⊎_elim
      (λ none. subst (Each (λ (x : Untold). due s.committed x ≡ false)) (sym none) tt)
      (λ x. subst (Each (λ (y : Untold). due s.committed y ≡ false)) (sym x.1) (end_above, tt))
      (brings_one s.stored e))

  came_due : WaitsOn s (brought s.stored e) r → (x : Untold) → Contains r.told x → (due s.committed x ≡ false) × (due r.state.committed x ≡ true)
  came_due w x c =
      each_contains (λ y. (due s.committed y ≡ false) × (due r.state.committed y ≡ true)) (filter (due r.state.committed) tokens) x
      (each_both (λ y. due s.committed y ≡ false) (λ y. due r.state.committed y ≡ true) (filter (due r.state.committed) tokens)
      (each_filter (λ y. due s.committed y ≡ false) (due r.state.committed) tokens none_due)
      (all_pass (due r.state.committed) tokens))
      (subst (λ xs. Contains xs x) w.told c)

  fresh_claims : Claims (place_above r0.state.committed) Replied (afresh r0)
  fresh_claims =
      let u = on.0.tracks.up in
      (omega arith, (let l = u.fits.reaches in let k = u.commit in omega arith), λ x a. absurd a, λ c a. absurd a, known)

  none_contains : (x : Untold) → Contains [] x → ⊥
  none_contains x c = let l = c.1 in omega arith

  pub told_commits : (x : Untold) → Contains r.told x → CommitsUpTo m Replied own r.state x
  told_commits x c =
      let t = each_contains (ToldFits (Q m some own small before s e fits event_fits passed h) r.state) r.told x (tells m some own small before s e fits event_fits passed h).told c in
      ⊎_elim
      (λ without. absurd (none_contains x (subst (λ xs. Contains xs x) without.0.quiet.told c)))
      (λ w.
      let d = came_due w x c in
      ⊎_elim
      (λ without.
      let quiet = finished_quiet own s.committed r0 without.0.quiet in
      absurd (none_contains x (subst (λ xs. Contains xs x) (ap (λ (q : StepResult). q.told) is_finished ∙ quiet.told) c)))
      (λ takes.
      let at = due_within r.state.committed x d.1 in
      ⊎_elim
      (λ low.
      let same : place_above r.state.committed ≡ place_above fresh.state.committed = ap place_above committed_is in
      let old : place_above r0.state.committed ≡ place_above s.committed = ap place_above takes.committed in
      let f : false ≡ true = sym d.0 ∙ within_due s.committed x (omega arith) in
      absurd (let g : false ≡ true = f in cc))
      (λ y.
      let above : place_above r.state.committed ≡ y.entry.log_id.index + 1 = ap place_above (committed_is ∙ y.place) in
      record {
        leads =
            leads_by r.state.role
            ∙ ap is_some (w.began ∙ sym takes.began)
            ∙ sym (leads_by r0.state.role)
            ∙ y.leads;
        entry = t.0.0;
        stands = t.0.1;
        last = y.entry;
        there = ap (λ l. slice_get l y.entry.log_id.index) held_is ∙ y.there;
        written = y.written ∙ ap (λ (v : Vote ℕ). v.leader_id) (sym vote_is);
        upto = omega arith;
        test = y.test;
        quorum = y.quorum;
        accepted = λ n b. subst (λ (v : Vote ℕ). AcceptedBy Replied own v y.entry.log_id.index n) (sym vote_is) (y.accepted n b);
      })
      (commit_moves (place_above r0.state.committed) Replied on.0.world (afresh r0) (fresh_tracks r0 on.0.tracks) fresh_claims r0.state.role refl on.0.role))
      (event_taken m some own small before s e fits event_fits h.others passed))
      (step_waits m some own small before s e fits event_fits h.others passed)
