-- What a leader commits, followed by the ballot machine.
use Rattle.std.specs.Prelude.{◌≡◌, ◌⊎◌, ℕ, suc, ◌+◌, ◌<◌, ◌==◌, max, nat_lt, Bool, true, false, List, [], ◌∷◌, ◌++◌, length, filter, slice_get, Option, Some, None, option_map, refl}
use Rattle.std.specs.List.{last_or}
use Rattle.std.proofs.Common.{inl, inr, sym, ap, ◌∙◌, subst, arith, ⊎_elim, eqb-true, eq-eqb, lt-ltb, leb-true}
use Rattle.std.proofs.lemmas.Bool.{and_parts, and_from, or_left, or_right, cases_lt, cond-true, cond_both}
use Rattle.raft_values.specs.declared.log_id.LogId.{LogId}
use Rattle.raft_values.specs.LogId.{place_of}
use Rattle.raft_quorums.specs.Quorum.{is_quorum as is_quorum_of}
use Rattle.raft_group_step.specs.Values.{Membership, Entry, is_written_by}
use Rattle.raft_group_step.specs.StoredGroup.{StoredGroup, first_place, end_place, held}
use Rattle.raft_group_step.specs.GroupState.{Lead, Role, Follower, Candidate, Leader}
use Rattle.raft_group_step.specs.StepResult.{StepResult, apply_up_to, later_place, is_within}
use Rattle.raft_group_step.specs.SnapshotRequest.{place_above}
use Rattle.raft_group_step.specs.Lead.{configs_in_force, peer_of, has_accepted, may_be_committed, last_place, commit_as_leader}
use Rattle.raft_group_step.proofs.Votes.{leader_eq_same}
use Rattle.raft_laws.specs.BallotWorld.{BallotReply, BallotWorld, BallotEvent, CommitPlace, is_of, ballot_accepted, is_ballot_leader, is_ballot_settled, committed_to, ballot_start, ballot_step, ballot_run}
use Rattle.raft_laws.specs.BallotRanks.{rank_of, owner_of, ballot_entry, ballot_group}
use Rattle.raft_laws.specs.CommitsOwn.{CommitsOwn}
use Rattle.raft_laws.proofs.BallotAgreement.{with_value_same, same_some}
use Rattle.raft_laws.proofs.BallotQuorums.{quorum_more}
use Rattle.raft_laws.proofs.BallotSafe.{Among}
use Rattle.raft_laws.proofs.BallotOthers.{Extends, extends_refl}
use Rattle.raft_laws.proofs.BallotOrigins.{own_accepted}
use Rattle.raft_laws.proofs.VoteRanks.{owner_is}
use Rattle.raft_laws.proofs.Shapes.{slice_drop}
use Rattle.raft_laws.proofs.Ids.{ballot_at}
use Rattle.raft_laws.proofs.Standing.{UpFits, RoleFits, reply-of, message_on, role_on}
use Rattle.raft_laws.proofs.Tracking.{Tracks, track_on, reached_next, reached_safe, whole_run, step_extends}
use Rattle.raft_laws.proofs.TrackWrites.{leads}
use Rattle.raft_laws.proofs.TrackElections.{Ends, quorum_link, configs_are}
use Rattle.raft_laws.proofs.TrackReplies.{peer_of_fits, peer_of_is}

-- the last of those that pass is one of the list, and passes
pub last_filtered : (p : Entry → Bool) (o : Option Entry) (xs : List Entry) (e : Entry) → last_or o (filter p xs) ≡ Some e → (o ≡ Some e) ⊎ ((j : ℕ) × (slice_get xs j ≡ Some e) × (p e ≡ true))
last_filtered p o [] e h = inl h
last_filtered p o (x ∷ xs) e h =
    cond_both (p x) (x ∷ filter p xs) (filter p xs) (λ l. last_or o l ≡ Some e → (o ≡ Some e) ⊎ ((j : ℕ) × (slice_get (x ∷ xs) j ≡ Some e) × (p e ≡ true)))
    (λ t q. ⊎_elim (λ s. inr (0, s, subst (λ y. p y ≡ true) (same_some s) t)) (λ s. inr (suc s.0, s.1, s.2)) (last_filtered p (Some x) xs e q))
    (λ t q. ⊎_elim (λ s. inl s) (λ s. inr (suc s.0, s.1, s.2)) (last_filtered p o xs e q))
    h

place_some : (o : Option Entry) (i : ℕ) → option_map (λ (e : Entry). e.log_id.index) o ≡ Some i → (e : Entry) × (o ≡ Some e) × (e.log_id.index ≡ i)
place_some None i h = absurd (let f : None ≡ Some i = h in cc)
place_some (Some e) i h = (e, refl, same_some h)

-- what a leader commits stands in its log, is its own, and was accepted by a quorum
pub last_place_is : (own : ℕ) (s : StoredGroup) (lead : Lead) (i : ℕ) → last_place (filter (may_be_committed own s lead) s.log) ≡ Some i → (e : Entry) × (j : ℕ) × (slice_get s.log j ≡ Some e) × (e.log_id.index ≡ i) × (may_be_committed own s lead e ≡ true)
last_place_is own s lead i h =
    let o = place_some (last_or None (filter (may_be_committed own s lead) s.log)) i h in
    ⊎_elim
    (λ n. absurd (let f : None ≡ Some o.0 = n in cc))
    (λ f. (o.0, f.0, f.1, o.2, f.2))
    (last_filtered (may_be_committed own s lead) None s.log o.0 o.1)

-- the law on what a leader commits, at the word that commits
pub commits_own : CommitsOwn
commits_own own lead r = go (last_place (filter (may_be_committed own r.state.stored lead) r.state.stored.log)) refl
  where
    leader : (e : Entry) → may_be_committed own r.state.stored lead e ≡ true → e.log_id.leader_id ≡ r.state.stored.vote.leader_id
    leader e t = leader_eq_same e.log_id.leader_id r.state.stored.vote.leader_id (and_parts (is_written_by r.state.stored.vote.leader_id e) _ t).0

    later : (c : Option ℕ) (i : ℕ) → (later_place c (Some i) ≡ c) ⊎ (later_place c (Some i) ≡ Some i)
    later None i = inr refl
    later (Some c) i =
        ⊎_elim
        (λ l. let e : max c i ≡ i = omega arith in inr (ap Some e))
        (λ l. let e : max c i ≡ c = omega arith in inl (ap Some e))
        (cases_lt c i)

    stays : (c : Option ℕ) → later_place c None ≡ c
    stays None = refl
    stays (Some c) = refl

    go : (o : Option ℕ) → last_place (filter (may_be_committed own r.state.stored lead) r.state.stored.log) ≡ o → (later_place r.state.committed o ≡ r.state.committed) ⊎ ((e : Entry) × (j : ℕ) × (slice_get r.state.stored.log j ≡ Some e) × (e.log_id.leader_id ≡ r.state.stored.vote.leader_id) × (later_place r.state.committed o ≡ Some e.log_id.index))
    go None h = inl (stays r.state.committed)
    go (Some i) h =
        let x = last_place_is own r.state.stored lead i h in
        ⊎_elim
        (λ e. inl e)
        (λ e. inr (x.0, x.1, x.2, leader x.0 x.4, e ∙ ap Some (sym x.3)))
        (later r.state.committed i)

pub accepted_from : (rs : List BallotReply) (b n upto i : ℕ) → i < upto → Among (reply-of b n upto) rs → ballot_accepted rs b i n ≡ true
accepted_from [] b n upto i l h = absurd h
accepted_from (x ∷ xs) b n upto i l h =
    ⊎_elim
    (λ e.
    let limit = ap (λ y. y.upto) e in
    or_left _ (ballot_accepted xs b i n)
    (and_from (x.ballot == b) _ (eq-eqb x.ballot b (ap (λ y. y.ballot) (sym e)))
    (and_from (x.node == n) (nat_lt i x.upto) (eq-eqb x.node n (ap (λ y. y.node) (sym e))) (lt-ltb i x.upto (omega arith)))))
    (λ t. or_right _ _ (accepted_from xs b n upto i l t))
    h

module _ {m : Membership} {some : 0 < length m.configs} {own : ℕ} {before : List BallotEvent} {base : StoredGroup} (w : BallotWorld) (r : StepResult) (t : Tracks m some own before base w r) (lead : Lead) (role : RoleFits own w r.state.stored.vote (held r.state.stored) (Leader lead)) where
  abbrev list : List Entry
  list = t.up.list

  abbrev ballot : ℕ
  ballot = rank_of r.state.stored.vote.leader_id

  -- the entry that may be committed, in the list
  module _ (e : Entry) (j : ℕ) (there : slice_get r.state.stored.log j ≡ Some e) (may : may_be_committed own r.state.stored lead e ≡ true) where
    at_place : slice_get list e.log_id.index ≡ Some e
    at_place =
        let here : slice_get list (first_place r.state.stored + j) ≡ Some e = sym (slice_drop (first_place r.state.stored) list j) ∙ ap (λ l. slice_get l j) (sym (t.up.joined).log) ∙ there in
        let place = t.up.fits.good.placed (first_place r.state.stored + j) e here in
        (let q : e.log_id.index ≡ first_place r.state.stored + j = omega arith in ap (slice_get list) q) ∙ here

    parts : (is_written_by r.state.stored.vote.leader_id e ≡ true) × (is_quorum_of (configs_in_force r.state.stored) (has_accepted own r.state.stored lead e.log_id.index) ≡ true)
    parts = and_parts (is_written_by r.state.stored.vote.leader_id e) _ may

    own_ballot : rank_of e.log_id.leader_id ≡ ballot
    own_ballot = ap rank_of (leader_eq_same e.log_id.leader_id r.state.stored.vote.leader_id parts.0)

    in_log : slice_get (w.node own).log e.log_id.index ≡ Some (ballot_entry e)
    in_log = ap (λ l. slice_get l e.log_id.index) t.up.fits.log ∙ ballot_at list e.log_id.index e at_place

    same_ballot : (w.node own).ballot ≡ ballot
    same_ballot = t.up.fits.ballot

    owned : owner_of ballot ≡ own
    owned = owner_is r.state.stored.vote.leader_id (role.0).term t.up.fits.bound ∙ (role.0).node

    positive : 0 < ballot
    positive = omega (arith, (role.0).term)

    lead_is : (w.node own).log ≡ w.lead ballot
    lead_is =
        subst (λ b. (w.node own).log ≡ w.lead b) same_ballot
        (((reached_safe t.reached).node own).leads (t.up.fits.committed ∙ (role.0).flag) (omega (arith, same_ballot, positive)) (ap owner_of same_ballot ∙ owned)).0

    in_lead : slice_get (w.lead ballot) e.log_id.index ≡ Some (ballot_entry e)
    in_lead = ap (λ l. slice_get l e.log_id.index) (sym lead_is) ∙ in_log

    -- what the leader wrote it accepted itself
    accepted_own : ballot_accepted w.replies ballot e.log_id.index own ≡ true
    accepted_own =
        let all = whole_run t.reached in
        let es = before ++ (t.reached).events in
        let there' : slice_get ((ballot_run (ballot_group m) es (ballot_start (ballot_group m))).lead (rank_of e.log_id.leader_id)) e.log_id.index ≡ Some (ballot_entry e) =
        ap (λ v. slice_get (v.lead (rank_of e.log_id.leader_id)) e.log_id.index) (sym all) ∙ ap (λ b. slice_get (w.lead b) e.log_id.index) own_ballot ∙ in_lead
        in
        let h = own_accepted (ballot_group m) some es e.log_id.index (ballot_entry e) (omega (arith, own_ballot, positive)) there' in
        let in-w : ballot_accepted w.replies (rank_of e.log_id.leader_id) e.log_id.index (owner_of (rank_of e.log_id.leader_id)) ≡ true = subst (λ v. ballot_accepted v.replies (rank_of e.log_id.leader_id) e.log_id.index (owner_of (rank_of e.log_id.leader_id)) ≡ true) (sym all) h in
        subst (λ n. ballot_accepted w.replies ballot e.log_id.index n ≡ true) owned
        (subst (λ b. ballot_accepted w.replies b e.log_id.index (owner_of b) ≡ true) own_ballot in-w)

    accepted_of : (n : ℕ) → has_accepted own r.state.stored lead e.log_id.index n ≡ true → ballot_accepted w.replies ballot e.log_id.index n ≡ true
    accepted_of n =
        cond_both (n == own) (nat_lt e.log_id.index (end_place r.state.stored)) (is_within e.log_id.index (place_of (peer_of lead n).matched)) (λ b. b ≡ true → ballot_accepted w.replies ballot e.log_id.index n ≡ true)
        (λ q b. subst (λ k. ballot_accepted w.replies ballot e.log_id.index k ≡ true) (sym (eqb-true n own q)) accepted_own)
        (λ q b. peer_accepted (peer_of lead n).matched refl b)
      where
        peer_accepted : (o : Option (LogId ℕ)) → (peer_of lead n).matched ≡ o → is_within e.log_id.index (place_of o) ≡ true → ballot_accepted w.replies ballot e.log_id.index n ≡ true
        peer_accepted None h b = absurd (let f : false ≡ true = b in cc)
        peer_accepted (Some id) h b =
            let fits = peer_of_fits w.replies ballot (held r.state.stored) lead n role.2 in
            let l = leb-true e.log_id.index id.index b in
            accepted_from w.replies ballot n (id.index + 1) e.log_id.index (omega arith)
            (subst (λ k. Among (reply-of ballot k (id.index + 1)) w.replies) (peer_of_is lead n) (fits.matched id h).0)

    settled : is_ballot_settled (ballot_group m) w ballot e.log_id.index ≡ true
    settled =
        let groups = subst (λ c. is_quorum_of c (has_accepted own r.state.stored lead e.log_id.index) ≡ true) (configs_are t role.1) parts.1 in
        and_from (is_of (slice_get (w.lead ballot) e.log_id.index) ballot) _
        (ap (λ o. is_of o ballot) in_lead ∙ eq-eqb (rank_of e.log_id.leader_id) ballot own_ballot)
        (quorum_more m.configs (has_accepted own r.state.stored lead e.log_id.index) (ballot_accepted w.replies ballot e.log_id.index) accepted_of (quorum_link m.configs _ groups))

    commit_is : ballot_step (ballot_group m) w (CommitPlace own e.log_id.index) ≡ committed_to w own e.log_id.index
    commit_is =
        cond-true _ _ _
        (and_from (is_ballot_leader (ballot_group m) own (w.node own)) _ (leads w r t role.0)
        (subst (λ b. is_ballot_settled (ballot_group m) w b e.log_id.index ≡ true) (sym same_ballot) settled))

    commit_extends : Extends own w (committed_to w own e.log_id.index)
    commit_extends = step_extends m own w (CommitPlace own e.log_id.index) refl (committed_to w own e.log_id.index) commit_is

    later_above : (c : Option ℕ) → place_above (later_place c (Some e.log_id.index)) ≡ max (place_above c) (suc e.log_id.index)
    later_above None = omega arith
    later_above (Some c) = omega arith

    commit_tracks : Tracks m some own before base (committed_to w own e.log_id.index) (apply_up_to (Some e.log_id.index) r)
    commit_tracks =
        let u = t.up in
        track_on (apply_up_to (Some e.log_id.index) r) t refl refl
        (reached_next (CommitPlace own e.log_id.index) refl (committed_to w own e.log_id.index) commit_is t.reached)
        (subst (λ y. UpFits m y (apply_up_to (Some e.log_id.index) r).state) (sym (with_value_same w.node own _))
        (record {
          list = u.list;
          fits = record {
            ballot = u.fits.ballot;
            committed = u.fits.committed;
            bound = u.fits.bound;
            log = u.fits.log;
            good = u.fits.good;
            snapshot = u.fits.snapshot;
            purged = u.fits.purged;
            reaches = omega (arith, u.fits.reaches);
          };
          joined = u.joined;
          commit = let above = later_above r.state.committed in omega (arith, above, u.commit);
          applied = refl;
        }))
        (λ x a. message_on commit_extends m x (t.messages x a))

    pub committed_ends : r.state.role ≡ Leader lead → Ends m some own before base w (apply_up_to (Some e.log_id.index) r)
    committed_ends q =
        record {
          world = committed_to w own e.log_id.index;
          extends = commit_extends;
          tracks = commit_tracks;
          role =
              subst (RoleFits own (committed_to w own e.log_id.index) r.state.stored.vote (held r.state.stored)) (sym q)
              (role_on own r.state.stored.vote (held r.state.stored) (held r.state.stored) (Leader lead) commit_extends (λ i y z. z) (λ z. z) role);
        }

  -- nothing more is committed
  none_ends : r.state.role ≡ Leader lead → Ends m some own before base w (apply_up_to None r)
  none_ends q =
      let u = t.up in
      record {
        world = w;
        extends = extends_refl own w;
        tracks =
            track_on (apply_up_to None r) t refl refl t.reached
            (record { list = u.list; fits = u.fits; joined = u.joined; commit = u.commit ∙ ap place_above (sym (same r.state.committed)); applied = refl })
            t.messages;
        role = subst (RoleFits own w r.state.stored.vote (held r.state.stored)) (sym q) role;
      }
    where
      same : (c : Option ℕ) → later_place c None ≡ c
      same None = refl
      same (Some c) = refl

  pub leader_commits : r.state.role ≡ Leader lead → Ends m some own before base w (commit_as_leader own (Leader lead) r)
  leader_commits q = go (last_place (filter (may_be_committed own r.state.stored lead) r.state.stored.log)) refl
    where
      go : (o : Option ℕ) → last_place (filter (may_be_committed own r.state.stored lead) r.state.stored.log) ≡ o → Ends m some own before base w (apply_up_to o r)
      go None h = none_ends q
      go (Some i) h =
          let x = last_place_is own r.state.stored lead i h in
          subst (λ k. Ends m some own before base w (apply_up_to (Some k) r)) x.3 (committed_ends x.0 x.1 x.2 x.4 q)

pub commit_ends : {m : Membership} {some : 0 < length m.configs} {own : ℕ} {before : List BallotEvent} {base : StoredGroup} (w : BallotWorld) (r : StepResult) (t : Tracks m some own before base w r) (part : Role) → r.state.role ≡ part → RoleFits own w r.state.stored.vote (held r.state.stored) part → Ends m some own before base w (commit_as_leader own part r)
commit_ends {m} {some} {own} {before} {base} w r t Follower e h = record { world = w; extends = extends_refl own w; tracks = t; role = subst (RoleFits own w r.state.stored.vote (held r.state.stored)) (sym e) h }
commit_ends {m} {some} {own} {before} {base} w r t (Candidate granters) e h = record { world = w; extends = extends_refl own w; tracks = t; role = subst (RoleFits own w r.state.stored.vote (held r.state.stored)) (sym e) h }
commit_ends {m} {some} {own} {before} {base} w r t (Leader lead) e h = leader_commits w r t lead h e
