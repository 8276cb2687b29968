-- What a leader commits is of its own leader id, and a quorum replied; and it claims no more than that.
use Rattle.std.specs.Prelude.{◌≡◌, ◌⊎◌, ℕ, ◌+◌, ◌<◌, ◌≤◌, ◌==◌, max, nat_lt, cond, Bool, true, false, List, [], ◌∷◌, filter, length, slice_get, Option, Some, None, is_none, option_and_then, ◌&&◌, refl}
use Rattle.std.proofs.Common.{inl, inr, sym, ap, ◌∙◌, subst, arith, ⊎_elim, eqb-true, leb-true}
use Rattle.std.proofs.lemmas.Bool.{and_parts, cond_both, cases_lt}
use Rattle.raft_values.specs.declared.vote.Vote.{Vote}
use Rattle.raft_values.specs.declared.log_id.LogId.{LogId}
use Rattle.raft_values.specs.LogId.{next_place, place_of}
use Rattle.raft_quorums.specs.Quorum.{is_quorum as is_quorum_of}
use Rattle.raft_group_step.specs.Values.{Membership, Entry, is_written_by}
use Rattle.raft_group_step.specs.StoredGroup.{StoredGroup, StoringCommand, Snapshot, RemoveUpTo, after_storing, end_place, entry_at, first_place, held, id_at, id_of, prefix_of}
use Rattle.raft_group_step.specs.Peer.{PeerState, is_kept_for_peers}
use Rattle.raft_group_step.specs.GroupState.{GroupState, Lead, Role, Follower, Candidate, Leader, is_leader}
use Rattle.raft_group_step.specs.StepResult.{StepResult, apply_up_to, is_within, later_place, send}
use Rattle.raft_group_step.specs.SnapshotRequest.{place_above}
use Rattle.raft_group_step.specs.Lead.{commit_as_leader, configs_in_force, has_accepted, last_place, may_be_committed, other_ids, peer_of, purge_as_wished, purge_up_to, remove_up_to, with_wish}
use Rattle.raft_group_step.specs.Frames.{committed_id, has_grown, lacks_entries, notice, send_entries, send_request, send_snapshot, serve_all, serve_as, with_frames}
use Rattle.raft_group_step.proofs.Words.{either, removing_keeps_role}
use Rattle.raft_group_step.proofs.Votes.{leader_eq_same}
use Rattle.raft_laws.specs.BallotWorld.{BallotWorld, BallotEvent}
use Rattle.raft_laws.specs.BallotRanks.{rank_of, ballot_entry}
use Rattle.raft_laws.proofs.BallotAgreement.{same_some}
use Rattle.raft_laws.proofs.BallotSafe.{Among}
use Rattle.raft_laws.proofs.VoteRanks.{rank_leader}
use Rattle.raft_laws.proofs.Shapes.{Good, Joined, joined_at, joined_below, joined_held, joined_removed, slice_drop}
use Rattle.raft_laws.proofs.Standing.{HasId, RoleFits, UpFits}
use Rattle.raft_laws.proofs.Ids.{ballot_at}
use Rattle.raft_laws.proofs.Tracking.{Tracks, among_last, reached_safe}
use Rattle.raft_laws.proofs.TrackElections.{configs_are}
use Rattle.raft_laws.proofs.TrackReplies.{peer_of_fits, peer_of_is}
use Rattle.raft_laws.proofs.TrackCommits.{last_place_is}
use Rattle.raft_laws.proofs.StepWishes.{Wished}
use Rattle.raft_laws.proofs.StepClaims.{Claims, Known, known_peer}

-- ---- the log id of what is committed stands at its place

module _ (m : Membership) (st : StoredGroup) (xs : List Entry) (good : Good m 0 xs) (j : Joined st xs) where
  entry_within : (i : ℕ) (o : Option Entry) → slice_get xs i ≡ o → next_place (id_of o) ≤ i + 1
  entry_within i None e = omega arith
  entry_within i (Some y) e = let p = good.placed i y e in omega arith

  id_within : (i : ℕ) → next_place (id_at st i) ≤ i + 1
  id_within i =
      cond_both (i + 1 == first_place st) st.purged (id_of (entry_at st i)) (λ o. next_place o ≤ i + 1)
      (λ t. let e = eqb-true (i + 1) (first_place st) t in omega arith)
      (λ t.
      ⊎_elim
      (λ l. subst (λ o. next_place (id_of o) ≤ i + 1) (sym (joined_below st xs j i l)) (omega arith))
      (λ l. subst (λ o. next_place (id_of o) ≤ i + 1) (sym (joined_at st xs j i l)) (entry_within i (slice_get xs i) refl))
      (cases_lt i (first_place st)))

  committed_within : (c : Option ℕ) → next_place (option_and_then (id_at st) c) ≤ place_above c
  committed_within None = omega arith
  committed_within (Some i) = id_within i

  -- the log's entry at a place has that place
  pub entry_index : (i : ℕ) (id : LogId ℕ) → id_of (entry_at st i) ≡ Some id → (first_place st ≤ i) × (id.index ≡ i)
  entry_index i id e =
      ⊎_elim
      (λ l. absurd (let no : None ≡ Some id = ap id_of (sym (joined_below st xs j i l)) ∙ e in cc))
      (λ l. (l, go (slice_get xs i) refl (ap id_of (sym (joined_at st xs j i l)) ∙ e)))
      (cases_lt i (first_place st))
    where
      go : (o : Option Entry) → slice_get xs i ≡ o → id_of (slice_get xs i) ≡ Some id → id.index ≡ i
      go None is f = absurd (let no : None ≡ Some id = ap id_of (sym is) ∙ f in cc)
      go (Some y) is f =
          let same : y.log_id ≡ id = same_some (ap id_of (sym is) ∙ f) in
          let p = good.placed i y is in
          ap (λ (x : LogId ℕ). x.index) (sym same) ∙ (let q : y.log_id.index ≡ i = omega arith in q)

  -- a purge within the snapshot leaves what is held
  purged_held : (r : StepResult) → r.state.stored ≡ st → (place : ℕ) → place < length (prefix_of st.snapshot) → (o : Option (LogId ℕ)) → id_of (entry_at st place) ≡ o → held (remove_up_to o r).state.stored ≡ held st
  purged_held r is place l None e = ap held is
  purged_held r is place l (Some id) e =
      let at = entry_index place id e in
      let removed = joined_removed st xs j id (omega (arith, at.0, at.1)) (omega (arith, at.1)) in
      ap (λ s. held (after_storing (RemoveUpTo id) s)) is
      ∙ joined_held (after_storing (RemoveUpTo id) st) xs removed
      ∙ sym (joined_held st xs j)

pub says_within : {m : Membership} (w : BallotWorld) (own : ℕ) (s : GroupState) → UpFits m (w.node own) s → next_place (committed_id s) ≤ place_above s.committed
says_within {m} w own s u = committed_within m s.stored u.list u.fits.good u.joined s.committed

-- ---- what the end of an event leaves

abbrev Same : StepResult → StepResult → Type 0
Same r q =
    (q.state.stored ≡ r.state.stored) × (q.state.committed ≡ r.state.committed) × (is_leader q.state.role ≡ is_leader r.state.role)
    × (q.state.stored.vote ≡ r.state.stored.vote) × (q.commands ≡ r.commands)

request_same : (own : ℕ) (p : PeerState) (lead : Lead) (o : Option Snapshot) (r : StepResult) → r.state.role ≡ Leader lead → Same r (send_request own p lead o r)
request_same own p lead None r is = (refl, refl, ap is_leader (sym is), refl, refl)
request_same own p lead (Some x) r is =
    either (Same r) (nat_lt p.search (first_place r.state.stored)) (send_snapshot own p lead x r) (send_entries own p lead r)
    (refl, refl, ap is_leader (sym is), refl, refl)
    (refl, refl, ap is_leader (sym is), refl, refl)

serve_as_same : (own : ℕ) (news : Bool) (n : ℕ) (role : Role) (r : StepResult) → r.state.role ≡ role → Same r (serve_as own news n role r)
serve_as_same own news n Follower r is = (refl, refl, refl, refl, refl)
serve_as_same own news n (Candidate granters) r is = (refl, refl, refl, refl, refl)
serve_as_same own news n (Leader lead) r is =
    let p = peer_of lead n in
    let told = send own p.peer (notice r.state p) r in
    either (Same r) (is_none p.outstanding && lacks_entries r.state.stored p) (send_request own p lead r.state.stored.snapshot r) (cond news told r)
    (request_same own p lead r.state.stored.snapshot r is)
    (either (Same r) news told r (refl, refl, refl, refl, refl) (refl, refl, refl, refl, refl))

serve_same : (own : ℕ) (news : Bool) (ns : List ℕ) (r : StepResult) → Same r (serve_all own news ns r)
serve_same own news [] r = (refl, refl, refl, refl, refl)
serve_same own news (n ∷ ns) r =
    let one = serve_as own news n r.state.role r in
    let a = serve_as_same own news n r.state.role r refl in
    let b = serve_same own news ns one in (b.0 ∙ a.0, b.1 ∙ a.1, b.2 ∙ a.2, b.3 ∙ a.3, b.4 ∙ a.4)

pub frames_same : (own : ℕ) (before : Option ℕ) (r : StepResult) → Same r (with_frames own before r)
frames_same own before r = serve_same own (has_grown before r.state.committed) (other_ids own r.state.stored) r

-- a purge leaves the vote, what is committed and held, and the role
pub record Purged (r q : StepResult) : Type 0 where
  pub vote : q.state.stored.vote ≡ r.state.stored.vote
  pub held' : held q.state.stored ≡ held r.state.stored
  pub committed : q.state.committed ≡ r.state.committed
  pub leads : is_leader q.state.role ≡ is_leader r.state.role
  pub commands : (c : StoringCommand) → Among c q.commands → Among c r.commands ⊎ ((id : LogId ℕ) × (c ≡ RemoveUpTo id))

not_purged : (r : StepResult) → Purged r r
not_purged r = record { vote = refl; held' = refl; committed = refl; leads = refl; commands = λ c a. inl a }

removed_vote : (o : Option (LogId ℕ)) (r : StepResult) → (remove_up_to o r).state.stored.vote ≡ r.state.stored.vote
removed_vote None r = refl
removed_vote (Some id) r = refl

removed_place : (o : Option (LogId ℕ)) (r : StepResult) → (remove_up_to o r).state.committed ≡ r.state.committed
removed_place None r = refl
removed_place (Some id) r = refl

removed_commands : (o : Option (LogId ℕ)) (r : StepResult) (c : StoringCommand) → Among c (remove_up_to o r).commands → Among c r.commands ⊎ ((id : LogId ℕ) × (c ≡ RemoveUpTo id))
removed_commands None r c a = inl a
removed_commands (Some id) r c a = ⊎_elim (λ b. inl b) (λ e. inr (id, e)) (among_last c (RemoveUpTo id) r.commands a)

module _ (m : Membership) (w : BallotWorld) (own : ℕ) (r : StepResult) (u : UpFits m (w.node own) r.state) (h : Wished r) where
  purged_by : (role : Role) (wish : Option ℕ) → r.state.wish ≡ wish → Purged r (purge_as_wished role wish r)
  purged_by Follower wish e = not_purged r
  purged_by (Candidate granters) wish e = not_purged r
  purged_by (Leader lead) None e = not_purged r
  purged_by (Leader lead) (Some place) e =
      let none = with_wish None r in
      let o = id_of (entry_at r.state.stored place) in
      either (Purged r) (is_kept_for_peers place lead.peers) r (purge_up_to place none) (not_purged r)
      (record {
        vote = removed_vote o none;
        held' = purged_held m r.state.stored u.list u.fits.good u.joined none refl place (h place e) o refl;
        committed = removed_place o none;
        leads = ap is_leader (removing_keeps_role o none);
        commands = removed_commands o none;
      })

  pub purged_same : Purged r (purge_as_wished r.state.role r.state.wish r)
  purged_same = purged_by r.state.role r.state.wish refl

-- ---- what a leader commits

-- the leader itself, or a peer that replied under its vote for one of its entries at or after the place
abbrev pub AcceptedBy : (Vote ℕ → ℕ → LogId ℕ → Type 0) → ℕ → Vote ℕ → ℕ → ℕ → Type 0
AcceptedBy Replied own vote place n =
    (n ≡ own) ⊎ ((id : LogId ℕ) × Replied vote n id × (id.leader_id ≡ vote.leader_id) × (place ≤ id.index))

pub record Commits (m : Membership) (Replied : Vote ℕ → ℕ → LogId ℕ → Type 0) (own : ℕ) (s : GroupState) : Type 0 where
  pub entry : Entry
  pub leads : is_leader s.role ≡ true
  pub place : s.committed ≡ Some entry.log_id.index
  pub there : slice_get (held s.stored) entry.log_id.index ≡ Some entry
  pub written : entry.log_id.leader_id ≡ s.stored.vote.leader_id
  pub test : ℕ → Bool
  pub quorum : is_quorum_of m.configs test ≡ true
  pub accepted : (n : ℕ) → test n ≡ true → AcceptedBy Replied own s.stored.vote entry.log_id.index n

module _ {m : Membership} {some : 0 < length m.configs} {own : ℕ} {before : List BallotEvent} {base : StoredGroup} (limit : ℕ) (Replied : Vote ℕ → ℕ → LogId ℕ → Type 0) (w : BallotWorld) (r : StepResult) (t : Tracks m some own before base w r) (claims : Claims limit Replied r) where
  module _ (lead : Lead) (is : r.state.role ≡ Leader lead) (role : RoleFits own w r.state.stored.vote (held r.state.stored) (Leader lead)) where
    abbrev list : List Entry
    list = t.up.list

    held_is : held r.state.stored ≡ list
    held_is = joined_held r.state.stored list t.up.joined

    -- what stands at or after an entry of the leader's own is its own
    own_after : (e : Entry) → slice_get list e.log_id.index ≡ Some e → e.log_id.leader_id ≡ r.state.stored.vote.leader_id → (id : LogId ℕ) → HasId (held r.state.stored) id → e.log_id.index ≤ id.index → id.leader_id ≡ r.state.stored.vote.leader_id
    own_after e there mine id has le =
        let y = has.entry in
        let at : slice_get list id.index ≡ Some y = ap (λ l. slice_get l id.index) (sym held_is) ∙ has.there in
        let log = ((reached_safe t.reached).node own).log in
        let log_at : (i : ℕ) (x : Entry) → slice_get list i ≡ Some x → slice_get (w.node own).log i ≡ Some (ballot_entry x) =
        λ i x q. ap (λ l. slice_get l i) t.up.fits.log ∙ ballot_at list i x q
        in
        let low = log.rising e.log_id.index id.index (ballot_entry e) (ballot_entry y) le (log_at e.log_id.index e there) (log_at id.index y at) in
        let high = log.capped id.index (ballot_entry y) (log_at id.index y at) in
        let rank : rank_of e.log_id.leader_id ≡ rank_of r.state.stored.vote.leader_id = ap rank_of mine in
        let same : rank_of y.log_id.leader_id ≡ rank_of r.state.stored.vote.leader_id = let b = t.up.fits.ballot in omega arith in
        ap (λ (x : LogId ℕ). x.leader_id) (sym has.same)
        ∙ rank_leader y.log_id.leader_id r.state.stored.vote.leader_id (t.up.fits.good.bounded id.index y at) t.up.fits.bound same

    module _ (e : Entry) (j : ℕ) (there : slice_get r.state.stored.log j ≡ Some e) (may : may_be_committed own r.state.stored lead e ≡ true) where
      at_place : slice_get list e.log_id.index ≡ Some e
      at_place =
          let here : slice_get list (first_place r.state.stored + j) ≡ Some e = sym (slice_drop (first_place r.state.stored) list j) ∙ ap (λ l. slice_get l j) (sym (t.up.joined).log) ∙ there in
          let place = t.up.fits.good.placed (first_place r.state.stored + j) e here in
          (let q : e.log_id.index ≡ first_place r.state.stored + j = omega arith in ap (slice_get list) q) ∙ here

      parts : (is_written_by r.state.stored.vote.leader_id e ≡ true) × (is_quorum_of (configs_in_force r.state.stored) (has_accepted own r.state.stored lead e.log_id.index) ≡ true)
      parts = and_parts (is_written_by r.state.stored.vote.leader_id e) _ may

      mine : e.log_id.leader_id ≡ r.state.stored.vote.leader_id
      mine = leader_eq_same e.log_id.leader_id r.state.stored.vote.leader_id parts.0

      accepted_by : (n : ℕ) → has_accepted own r.state.stored lead e.log_id.index n ≡ true → AcceptedBy Replied own r.state.stored.vote e.log_id.index n
      accepted_by n =
          cond_both (n == own) (nat_lt e.log_id.index (end_place r.state.stored)) (is_within e.log_id.index (place_of (peer_of lead n).matched)) (λ b. b ≡ true → AcceptedBy Replied own r.state.stored.vote e.log_id.index n)
          (λ q b. inl (eqb-true n own q))
          (λ q b. peer (peer_of lead n).matched refl b)
        where
          peer : (o : Option (LogId ℕ)) → (peer_of lead n).matched ≡ o → is_within e.log_id.index (place_of o) ≡ true → AcceptedBy Replied own r.state.stored.vote e.log_id.index n
          peer None h b = absurd (let f : false ≡ true = b in cc)
          peer (Some id) h b =
              let le = leb-true e.log_id.index id.index b in
              let fits = peer_of_fits w.replies (rank_of r.state.stored.vote.leader_id) (held r.state.stored) lead n role.2 in
              let known = known_peer limit Replied r.state.stored.vote lead n (subst (Known Replied r.state.stored.vote) is claims.4) id h in
              inr (id, subst (λ k. Replied r.state.stored.vote k id) (peer_of_is lead n) known, own_after e at_place mine id (fits.matched id h).1 le, le)

  -- the committed place stays within what was known, or is one that the leader commits
  pub record Moves (q : StepResult) : Type 0 where
    pub entry : Entry
    pub leads : is_leader r.state.role ≡ true
    pub place : q.state.committed ≡ Some entry.log_id.index
    pub there : slice_get (held r.state.stored) entry.log_id.index ≡ Some entry
    pub written : entry.log_id.leader_id ≡ r.state.stored.vote.leader_id
    pub test : ℕ → Bool
    pub quorum : is_quorum_of m.configs test ≡ true
    pub accepted : (n : ℕ) → test n ≡ true → AcceptedBy Replied own r.state.stored.vote entry.log_id.index n

  abbrev pub Moved : StepResult → Type 0
  Moved q = (place_above q.state.committed ≤ limit) ⊎ Moves q

  later_moves : (c : Option ℕ) (i : ℕ) → place_above c ≤ limit → (place_above (later_place c (Some i)) ≤ limit) ⊎ (later_place c (Some i) ≡ Some i)
  later_moves None i l = inr refl
  later_moves (Some a) i l =
      ⊎_elim
      (λ x. inr (let same : max a i ≡ i = omega arith in ap Some same))
      (λ x. inl (omega arith))
      (cases_lt a i)

  none_moves : (c : Option ℕ) → place_above c ≤ limit → place_above (later_place c None) ≤ limit
  none_moves None l = l
  none_moves (Some a) l = l

  pub commit_moves : (part : Role) → r.state.role ≡ part → RoleFits own w r.state.stored.vote (held r.state.stored) part → Moved (commit_as_leader own part r)
  commit_moves Follower is role = inl claims.0
  commit_moves (Candidate granters) is role = inl claims.0
  commit_moves (Leader lead) is role = go (last_place (filter (may_be_committed own r.state.stored lead) r.state.stored.log)) refl
    where
      go : (o : Option ℕ) → last_place (filter (may_be_committed own r.state.stored lead) r.state.stored.log) ≡ o → Moved (apply_up_to o r)
      go None e = inl (none_moves r.state.committed claims.0)
      go (Some i) e =
          let x = last_place_is own r.state.stored lead i e in
          ⊎_elim
          (λ l. inl l)
          (λ q.
          inr
          (record {
            entry = x.0;
            leads = ap is_leader is;
            place = q ∙ ap Some (sym x.3);
            there = ap (λ l. slice_get l x.0.log_id.index) (held_is lead is role) ∙ at_place lead is role x.0 x.1 x.2 x.4;
            written = mine lead is role x.0 x.1 x.2 x.4;
            test = has_accepted own r.state.stored lead x.0.log_id.index;
            quorum = subst (λ c. is_quorum_of c (has_accepted own r.state.stored lead x.0.log_id.index) ≡ true) (configs_are t role.1) (parts lead is role x.0 x.1 x.2 x.4).1;
            accepted = accepted_by lead is role x.0 x.1 x.2 x.4;
          }))
          (later_moves r.state.committed i claims.0)
