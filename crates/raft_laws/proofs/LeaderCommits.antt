-- A leader commits entries of its own leader id alone, over every history.
use Rattle.std.specs.Prelude.{◌≡◌, ◌⊎◌, ℕ, ◌+◌, ◌<◌, ◌≤◌, ◌^◌, ◌==◌, ◌&&◌, Bool, true, false, List, [], ◌∷◌, ◌++◌, length, slice_get, Option, Some, None, option_map, refl}
use Rattle.std.proofs.Common.{inl, inr, sym, ap, ◌∙◌, subst, arith, take_all, ⊎_elim, eqb-true, ltb-true}
use Rattle.std.proofs.lemmas.Bool.{and_parts}
use Rattle.raft_values.specs.declared.vote.Vote.{Vote}
use Rattle.raft_values.specs.declared.log_id.LogId.{LogId}
use Rattle.raft_values.specs.LogId.{place_of}
use Rattle.raft_group_step.specs.Values.{Membership, vote_lt}
use Rattle.raft_group_step.specs.StoredGroup.{StoredGroup, StoringCommand, Snapshot, after_storing_all, first_place, held, membership_in_force, prefix_of, snapshot_last}
use Rattle.raft_group_step.specs.Message.{MessageBody, VoteRequest, VoteReply, AppendRequest, AppendReply, SnapshotRequest, SnapshotReply, AppendFields}
use Rattle.raft_group_step.specs.GroupState.{GroupState, Role, Follower, Candidate, Leader, is_leader, state_of}
use Rattle.raft_group_step.specs.GroupEvent.{GroupEvent, AddGroup, Call, Receive, Open}
use Rattle.raft_group_step.specs.StepResult.{RefusalReason, StepResult, is_within, refused_step, renew, step_down, store_vote, take_over}
use Rattle.raft_group_step.specs.Lead.{commit_as_leader, purge_as_wished, purge_up_to, with_wish}
use Rattle.raft_group_step.specs.Peer.{is_kept_for_peers}
use Rattle.raft_group_step.specs.Frames.{has_grown}
use Rattle.raft_group_step.specs.VoteRequest.{may_grant}
use Rattle.raft_group_step.specs.AppendRequest.{heard, is_held}
use Rattle.raft_group_step.specs.SnapshotRequest.{offered, place_above}
use Rattle.raft_group_step.specs.Refusal.{do_follow, has_known_snapshot, is_of_leader, is_sound, keep_voters, refusal_of}
use Rattle.raft_group_step.specs.GroupStep.{begun, event_step, finished, group_step, message_step, step_unless}
use Rattle.raft_group_step.proofs.Words.{either, either_by, commit_keeps_role, removing_keeps_role, installing_keeps_role, joined_keeps_role}
use Rattle.raft_laws.specs.BallotWorld.{BallotWorld, BallotEvent}
use Rattle.raft_laws.specs.declared.world_event.WorldEvent.{WorldEvent}
use Rattle.raft_laws.specs.GroupWorld.{GroupWorld, NodeState, Absent, Up, Down, Outcome, is_stop, new_world, state_or}
use Rattle.raft_laws.specs.Stop.{stopped_after}
use Rattle.raft_laws.specs.NodeEvent.{NodeEvent, Comes, Crashes, Halts, Restarts, after_step, state_after}
use Rattle.raft_laws.specs.GroupRun.{Scene, Nowhere, At, after_scene, happens, scene_of, stop_at}
use Rattle.raft_laws.specs.StoringOrder.{StoresInOrder}
use Rattle.raft_laws.specs.CommitsOwn.{CommittedOwn, LeadersCommitTheirOwn, known_committed}
use Rattle.raft_laws.proofs.BallotSafe.{Among}
use Rattle.raft_laws.proofs.VoteRanks.{same_vote}
use Rattle.raft_laws.proofs.Shapes.{joined_at, joined_held}
use Rattle.raft_laws.proofs.Standing.{RoleFits, SnapshotFits}
use Rattle.raft_laws.proofs.TrackVotes.{stranger_follows}
use Rattle.raft_laws.proofs.StepOrder.{step-keeps}
use Rattle.raft_laws.proofs.StepFits.{EventFits, NodeFits, StopFits, world_after}
use Rattle.raft_laws.proofs.StepMessages.{message_passed, of_leader}
use Rattle.raft_laws.proofs.StepDispatch.{event_ends}
use Rattle.raft_laws.proofs.StepClaims.{Claims, CommandWithin, Known, counted_claims, judged_claims, reply_claims, sent_claims}
use Rattle.raft_laws.proofs.StepCommits.{Commits, frames_same}
use Rattle.raft_laws.proofs.StepLimits.{StateClaims, StepClaims, begun_claims, event_claims, finished_claims, opening_limits, refused_claims}
use Rattle.raft_laws.proofs.WorldSteps.{MayCome, MayHappen}
use Rattle.raft_laws.proofs.WorldFits.{NodeStateFits, WorldFits}
use Rattle.raft_laws.proofs.WorldRuns.{Matches, MayTakePlace, SetUpWith, may_take_place, setup_stays}
use Rattle.raft_laws.proofs.WorldCommits.{snapshot_after}
use Rattle.raft_laws.proofs.WorldStart.{Founded, founded, history_matches}
use Rattle.raft_laws.proofs.HeldLists.{at_node, machine}
use Rattle.raft_laws.proofs.Histories.{histories-join}

-- of replies nothing is asked here
abbrev Unasked : Vote ℕ → ℕ → LogId ℕ → Type 0
Unasked vote n id = Unit {0}

unasked : (vote : Vote ℕ) (role : Role) → Known Unasked vote role
unasked vote Follower = tt
unasked vote (Candidate granters) = tt
unasked vote (Leader lead) = λ p a id e. tt

-- ---- a leader's request leaves a node that follows, or what is committed

follows : (own : ℕ) (w : BallotWorld) (v : Vote ℕ) (r : StepResult) → RoleFits own w r.state.stored.vote (held r.state.stored) r.state.role → (v.leader_id.node_id ≡ own → ⊥) → vote_lt v r.state.stored.vote ≡ false → (take_over v r).state.role ≡ Follower
follows own w v r role other low =
    either_by (λ q. q.state.role ≡ Follower) (vote_lt r.state.stored.vote v) (store_vote v (step_down r)) (renew r)
    (λ t. refl)
    (λ t.
    let same : v ≡ r.state.stored.vote = same_vote v r.state.stored.vote low t in
    stranger_follows own w r.state.stored.vote (held r.state.stored) r.state.role role
    (λ e. other (ap (λ (x : Vote ℕ). x.leader_id.node_id) same ∙ e)))

module _ (limit : ℕ) where
  -- no more is committed than the limit, or the node doesn't lead
  abbrev Quiet : StepResult → Type 0
  Quiet r = Claims limit Unasked r ⊎ (is_leader r.state.role ≡ false)

  heard_quiet : (own peer : ℕ) (a : AppendFields) (b : Bool) (r : StepResult) → Claims limit Unasked r → (b ≡ false → (take_over a.vote r).state.role ≡ Follower) → Quiet (heard own peer a b r)
  heard_quiet own peer a true r h f = inl (sent_claims limit Unasked own peer _ r tt h)
  heard_quiet own peer a false r h f =
      let taken = take_over a.vote r in
      inr (ap is_leader (joined_keeps_role own peer a (is_held taken.state.stored taken.state.committed a.previous) taken ∙ f refl))

  offered_quiet : (own peer : ℕ) (v : Vote ℕ) (id : ℕ) (x : Snapshot) (b : Bool) (r : StepResult) → Claims limit Unasked r → (b ≡ false → (take_over v r).state.role ≡ Follower) → Quiet (offered own peer v id x b r)
  offered_quiet own peer v id x true r h f = inl (sent_claims limit Unasked own peer _ r tt h)
  offered_quiet own peer v id x false r h f =
      let taken = take_over v r in
      inr (ap is_leader (installing_keeps_role (is_within x.last.index taken.state.committed) x taken ∙ f refl))

  module _ (own peer : ℕ) (stranger : peer ≡ own → ⊥) (w : BallotWorld) (r : StepResult) (role : RoleFits own w r.state.stored.vote (held r.state.stored) r.state.role) (h : Claims limit Unasked r) where
    body_quiet : (b : MessageBody) → is_sound own peer r.state.stored b ≡ true → Quiet (message_step own peer b r)
    body_quiet (VoteRequest v last) sound = inl (judged_claims limit Unasked own peer v (may_grant r.state v last) r h)
    body_quiet (VoteReply v granted last) sound = inl (counted_claims limit Unasked peer _ v r h)
    body_quiet (AppendRequest a) sound =
        let one = and_parts (is_of_leader peer a.vote && do_follow a.vote a.previous a.entries) (keep_voters (membership_in_force r.state.stored) a.entries) sound in
        let two = and_parts (is_of_leader peer a.vote) (do_follow a.vote a.previous a.entries) one.0 in
        let led = of_leader peer stranger a.vote two.0 in
        heard_quiet own peer a (vote_lt a.vote r.state.stored.vote) r h (follows own w a.vote r role led.1)
    body_quiet (AppendReply reply) sound = inl (reply_claims limit Unasked peer reply r (λ id e. tt) h)
    body_quiet (SnapshotRequest v id x) sound =
        let parts = and_parts (is_of_leader peer v) (has_known_snapshot (membership_in_force r.state.stored) x.membership) sound in
        let led = of_leader peer stranger v parts.0 in
        offered_quiet own peer v id x (vote_lt v r.state.stored.vote) r h (follows own w v r role led.1)
    body_quiet (SnapshotReply reply) sound = inl (reply_claims limit Unasked peer reply r (λ id e. tt) h)

-- ---- words of places and states

grown_above : (a b : Option ℕ) → has_grown a b ≡ true → place_above a < place_above b
grown_above None None t = absurd (let e : false ≡ true = t in cc)
grown_above (Some a) None t = absurd (let e : false ≡ true = t in cc)
grown_above None (Some b) t = omega arith
grown_above (Some a) (Some b) t = let l = ltb-true a b t in omega arith

after_up : (stop : Option ℕ) (old s : GroupState) (r : StepResult) → after_step stop old r ≡ Up s → r.state ≡ s
after_up None old s r e = let f : Up r.state ≡ Up s = e in cc
after_up (Some k) old s r e = absurd (let f : Down (stopped_after k old.stored r) ≡ Up s = e in cc)

-- ---- each step

-- an entry of a leader's own is committed, above its snapshot
pub record Grown (m : Membership) (own : ℕ) (s : GroupState) : Type 0 where
  pub commits : Commits m Unasked own s
  pub snapshot : length (prefix_of s.stored.snapshot) ≤ commits.entry.log_id.index

-- a step that leads at its end, and commits beyond the limit
abbrev Grows : Membership → ℕ → ℕ → StepResult → Type 0
Grows m own limit r = is_leader r.state.role ≡ true → limit < place_above r.state.committed → Grown m own r.state

snapshot_within : (limit : ℕ) (cs : List StoringCommand) (st : StoredGroup) → length (prefix_of st.snapshot) ≤ limit → ((c : StoringCommand) → Among c cs → CommandWithin limit c) → length (prefix_of (after_storing_all cs st).snapshot) ≤ limit
snapshot_within limit cs st l h =
    subst (λ ds. length (prefix_of (after_storing_all ds st).snapshot) ≤ limit) (take_all (length cs) cs (omega arith))
    (snapshot_after limit (length cs) cs st l h)

claims_grow : (limit : ℕ) (m : Membership) (own : ℕ) (committed : Option ℕ) (base : StoredGroup) (r : StepResult) → length (prefix_of base.snapshot) ≤ limit → StoresInOrder committed base r → StepClaims limit Unasked m own r → Grows m own limit r
claims_grow limit m own committed base r low keeps h leads above =
    ⊎_elim
    (λ l. absurd (omega arith))
    (λ x.
    let place : place_above r.state.committed ≡ x.entry.log_id.index + 1 = ap place_above x.place in
    let snapshot = snapshot_within limit r.commands base low h.stops in
    let same = ap (λ (st : StoredGroup). length (prefix_of st.snapshot)) keeps.stored in
    record { commits = x; snapshot = omega arith })
    h.moves

-- the end of an event makes no leader, and ends no lead
purged_leads : (role : Role) (wish : Option ℕ) (r : StepResult) → is_leader (purge_as_wished role wish r).state.role ≡ is_leader r.state.role
purged_leads Follower wish r = refl
purged_leads (Candidate granters) wish r = refl
purged_leads (Leader lead) None r = refl
purged_leads (Leader lead) (Some place) r =
    let none = with_wish None r in
    either (λ q. is_leader q.state.role ≡ is_leader r.state.role) (is_kept_for_peers place lead.peers) r (purge_up_to place none)
    refl
    (ap is_leader (removing_keeps_role _ none))

finished_leads : (own : ℕ) (committed : Option ℕ) (r : StepResult) → is_leader (finished own committed r).state.role ≡ is_leader r.state.role
finished_leads own committed r =
    let r1 = commit_as_leader own r.state.role r in
    let r2 = purge_as_wished r1.state.role r1.state.wish r1 in
    (frames_same own committed r2).2 ∙ purged_leads r1.state.role r1.state.wish r1 ∙ ap is_leader (commit_keeps_role own r.state.role r)

module _ (m : Membership) (some : 0 < length m.configs) (own : ℕ) (before : List BallotEvent) where
  abbrev world : BallotWorld
  world = world_after m before

  module _ (small : own < 2 ^ 64) (s : GroupState) (n : NodeFits m world own s) where
    abbrev limit : ℕ
    limit = place_above s.committed

    known : StateClaims limit Unasked s
    known =
        record {
          committed = omega arith;
          snapshot = omega (arith, n.up.fits.reaches, n.up.commit);
          matched = unasked s.stored.vote s.role;
        }

    begun_known : (now : ℕ) → Claims limit Unasked (begun now s)
    begun_known now = begun_claims limit Unasked s (begun now s).state refl refl refl known

    event_quiet : (e : GroupEvent) → EventFits m world e → refusal_of own s e ≡ None → Quiet limit (event_step own s e)
    event_quiet AddGroup fits passed = inl (event_claims limit Unasked world own s AddGroup n.up fits tt known)
    event_quiet (Call call now) fits passed = inl (event_claims limit Unasked world own s (Call call now) n.up fits tt known)
    event_quiet (Receive peer x now) fits passed =
        let p = message_passed own s peer x now passed in
        body_quiet limit own peer p.stranger world (begun now s) n.role (begun_known now) x.body p.sound
    event_quiet Open fits passed = inl (event_claims limit Unasked world own s Open n.up fits tt known)

    -- what is known at the end, unless the node doesn't lead
    abbrev Ended : StepResult → Type 0
    Ended r = StepClaims limit Unasked m own r ⊎ (is_leader r.state.role ≡ false)

    finished_ended : (e : GroupEvent) (fits : EventFits m world e) (passed : refusal_of own s e ≡ None) → Ended (finished own s.committed (event_step own s e))
    finished_ended e fits passed =
        let on = event_ends m some own before small s e n fits passed in
        ⊎_elim
        (λ claims. inl (finished_claims limit Unasked s.committed (event_step own s e) on.0 on.1 claims))
        (λ no. inr (finished_leads own s.committed (event_step own s e) ∙ no))
        (event_quiet e fits passed)

    refused_ended : (why : RefusalReason) → Ended (refused_step s why)
    refused_ended why = inl (refused_claims limit Unasked m some own before s why known)

    fits_ended : (e : GroupEvent) → EventFits m world e → (o : Option RefusalReason) → refusal_of own s e ≡ o → Ended (step_unless o own s e)
    fits_ended e fits (Some why) is = refused_ended why
    fits_ended e fits None is = finished_ended e fits is

    step_ended : (e : GroupEvent) → MayCome m world own s e → Ended (group_step own s e)
    step_ended e may =
        ⊎_elim
        (λ fits. fits_ended e fits (refusal_of own s e) refl)
        (λ no. subst (λ o. Ended (step_unless o own s e)) (sym no.1) (refused_ended no.0))
        may

    step_grows : (e : GroupEvent) → MayCome m world own s e → Grows m own limit (group_step own s e)
    step_grows e may leads above =
        ⊎_elim
        (λ h. claims_grow limit m own s.committed s.stored (group_step own s e) known.snapshot (step-keeps own s e) h leads above)
        (λ no. absurd (let f : true ≡ false = sym leads ∙ no in cc))
        (step_ended e may)

  -- what an opening knows to be committed is its snapshot's list
  snapshot_place : (o : Option Snapshot) → ((x : Snapshot) → o ≡ Some x → SnapshotFits x) → length (prefix_of o) ≡ place_above (place_of (option_map (λ (x : Snapshot). x.last) o))
  snapshot_place None fits = refl
  snapshot_place (Some x) fits = (fits x refl).size

  opening_grows : (st : StoredGroup) → StopFits m world own st → Grows m own (place_above (place_of (snapshot_last st))) (group_step own (state_of st) Open)
  opening_grows st n leads above =
      let size = snapshot_place st.snapshot n.down.fits.snapshot in
      let limit = length (prefix_of st.snapshot) in
      let claims = opening_limits limit Unasked m some own before st n (omega arith) in
      claims_grow limit m own None st (group_step own (state_of st) Open) (omega arith) (step-keeps own (state_of st) Open) claims leads (omega (arith, size))

  -- ---- each event at a node

  module _ (s : GroupState) (leads : is_leader s.role ≡ true) where
    from_step : (limit : ℕ) (r : StepResult) → r.state ≡ s → Grows m own limit r → limit < place_above s.committed → Grown m own s
    from_step limit r is h above =
        subst (Grown m own) is
        (h (ap (λ (x : GroupState). is_leader x.role) is ∙ leads)
        (let e = ap (λ (x : GroupState). place_above x.committed) is in omega arith))

    node_grows : (e : NodeEvent) (stop : Option ℕ) (x : NodeState) → NodeStateFits m world own x → MayHappen m world own e x → state_after own e stop x ≡ Up s → has_grown (known_committed x) s.committed ≡ true → Grown m own s
    node_grows e stop Absent fits may is grown = absurd (let f : Absent ≡ Up s = is in cc)
    node_grows (Comes e) stop (Up old) fits may is grown =
        let r = group_step own old e in
        from_step (place_above old.committed) r (after_up stop old s r is) (step_grows fits.0 old fits.1 e may) (grown_above old.committed s.committed grown)
    node_grows Crashes stop (Up old) fits may is grown = absurd (let f : Down old.stored ≡ Up s = is in cc)
    node_grows Halts stop (Up old) fits may is grown = absurd (let f : Down old.stored ≡ Up s = is in cc)
    node_grows Restarts stop (Up old) fits may is grown =
        let same : old ≡ s = (let f : Up old ≡ Up s = is in cc) in
        let e = ap (λ (x : GroupState). place_above x.committed) same in
        let l = grown_above old.committed s.committed grown in
        absurd (omega arith)
    node_grows (Comes e) stop (Down stored) fits may is grown = absurd (let f : Down stored ≡ Up s = is in cc)
    node_grows Crashes stop (Down stored) fits may is grown = absurd (let f : Down stored ≡ Up s = is in cc)
    node_grows Halts stop (Down stored) fits may is grown = absurd (let f : Down stored ≡ Up s = is in cc)
    node_grows Restarts stop (Down stored) fits may is grown =
        let r = group_step own (state_of stored) Open in
        let known = place_of (snapshot_last stored) in
        from_step (place_above known) r (after_up stop (state_of stored) s r is) (opening_grows stored fits.1) (grown_above known s.committed grown)

-- ---- each event of a history

module _ (m : Membership) (some : 0 < length m.configs) (before : List BallotEvent) (w : GroupWorld) (fits : WorldFits m (world_after m before) w) (n : ℕ) (s : GroupState) (leads : is_leader s.role ≡ true) (grown : has_grown (known_committed (w.nodes n)) s.committed ≡ true) where
  -- a node to which nothing happens
  stays : w.nodes n ≡ Up s → Grown m n s
  stays is =
      let e = ap (λ x. place_above (known_committed x)) is in
      let l = grown_above (known_committed (w.nodes n)) s.committed grown in
      absurd (omega arith)

  scene_grows : (e : WorldEvent) (o : Outcome) (stop : Option ℕ) (scene : Scene) → MayTakePlace m some w before fits scene → (after_scene w e o stop scene).nodes n ≡ Up s → Grown m n s
  scene_grows e o stop Nowhere may is = stays is
  scene_grows e o stop (At node at_node) may is = go (n == node) refl
    where
      go : (b : Bool) → (n == node) ≡ b → Grown m n s
      go true t =
          let same : n ≡ node = eqb-true n node t in
          let here : state_after node at_node stop (w.nodes node) ≡ Up s = ap (λ c. state_or c (state_after node at_node stop (w.nodes node)) (w.nodes n)) (sym t) ∙ is in
          subst (λ k. Grown m k s) (sym same)
          (node_grows m some node before s leads at_node stop (w.nodes node) (fits.nodes node) may here
          (subst (λ k. has_grown (known_committed (w.nodes k)) s.committed ≡ true) same grown))
      go false t = stays (ap (λ c. state_or c (state_after node at_node stop (w.nodes node)) (w.nodes n)) (sym t) ∙ is)

own_vote : {m : Membership} {w : BallotWorld} (n : ℕ) (s : GroupState) → NodeFits m w n s → (role : Role) → s.role ≡ role → is_leader s.role ≡ true → s.stored.vote.leader_id.node_id ≡ n
own_vote {m} {w} n s fits Follower is leads = absurd (let e : false ≡ true = sym (ap is_leader is) ∙ leads in cc)
own_vote {m} {w} n s fits (Candidate granters) is leads = absurd (let e : false ≡ true = sym (ap is_leader is) ∙ leads in cc)
own_vote {m} {w} n s fits (Leader lead) is leads = (subst (RoleFits n w s.stored.vote (held s.stored)) is fits.role).0.node

committed_own : {m : Membership} {w : BallotWorld} (n : ℕ) (s : GroupState) → NodeFits m w n s → is_leader s.role ≡ true → Grown m n s → CommittedOwn n s
committed_own {m} {w} n s fits leads g =
    let u = fits.up in
    let x = g.commits in
    let i = x.entry.log_id.index in
    let from : first_place s.stored ≤ i = omega (arith, u.joined.low, g.snapshot) in
    record {
      entry = x.entry;
      place = x.place;
      in_log = joined_at s.stored u.list u.joined i from ∙ ap (λ l. slice_get l i) (sym (joined_held s.stored u.list u.joined)) ∙ x.there;
      written = x.written;
      own_vote = own_vote n s fits s.role refl leads;
    }

pub leaders_commit : LeadersCommitTheirOwn
leaders_commit ids rs last middle end h run n s leading grown =
    let f : Founded end = founded ids h.node_ids (rs ++ last ∷ []) end (histories-join rs (last ∷ []) (new_world ids) middle end h.replays run) in
    let m = f.membership in
    let known : SetUpWith m middle = λ x q. f.known x (setup_stays (last ∷ []) middle end run x q) in
    let first : Matches m f.some middle = history_matches m f.some ids h.node_ids rs middle h.replays known in
    let after : end ≡ happens middle last.event last.outcome run.1.0 = run.1.1 in
    let may = may_take_place m f.some middle first.before first.fits known last.event last.outcome run.1.0 run.0 (subst (SetUpWith m) after f.known) in
    let is : (happens middle last.event last.outcome run.1.0).nodes n ≡ Up s = ap (λ (w : GroupWorld). w.nodes n) (sym after) ∙ leading.is_up in
    committed_own n s
    (at_node m (machine m f.some end f.is) end f.is.matches.fits n (Up s) leading.is_up).1
    leading.leads
    (scene_grows m f.some first.before middle first.fits n s leading.leads grown last.event last.outcome (stop_at (is_stop last.outcome) run.1.0) (scene_of middle last.event) may is)
