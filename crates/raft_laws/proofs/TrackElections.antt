-- Elections, followed by the ballot machine.
use Rattle.std.specs.Prelude.{◌≡◌, ℕ, ◌+◌, ◌*◌, ◌<◌, ◌^◌, ◌==◌, ◌&&◌, not, nat_lt, Bool, true, false, List, [], ◌∷◌, ◌++◌, length, count_by, take, Some, None, is_none, refl, cond}
use Rattle.std.proofs.Common.{inl, inr, sym, ap, ◌∙◌, subst, arith, ⊎_elim, eq-eqb, eqb-true, lt-ltb}
use Rattle.std.proofs.lemmas.Bool.{and_from, and_parts, cond-true, cond_both, not_from_false, or_cases, or_left, or_right}
use Rattle.raft_values.specs.declared.vote.Vote.{Vote}
use Rattle.raft_state.specs.declared.entry.EntryPayload.TheVariants.{Blank, Normal, Membership as Members}
use Rattle.raft_values.specs.Vote.{vote_of}
use Rattle.raft_values.specs.LogId.{next_place, log_id_of}
use Rattle.raft_quorums.specs.Quorum.{is_quorum as is_quorum_of}
use Rattle.raft_group_step.specs.Values.{Membership, Entry, EntryPayload, entry_of, vote_eq, has_id, last_membership}
use Rattle.raft_group_step.specs.StoredGroup.{StoredGroup, PutEntries, end_place, prefix_of, SetVote, after_storing, last_id, held}
use Rattle.raft_group_step.specs.Message.{VoteRequest}
use Rattle.raft_group_step.specs.GroupState.{Role, Follower, Candidate, Leader}
use Rattle.raft_group_step.specs.StepResult.{StepResult, store, store_vote, step_down, in_role, with_stored, append}
use Rattle.raft_group_step.specs.Lead.{configs_of, configs_in_force, committed_vote, new_lead, begin_lead, lead_if, with_grant}
use Rattle.raft_group_step.specs.Elect.{other_voters, ask, stand, elect_step}
use Rattle.raft_group_step.specs.Initialize.{is_new, initialize_step}
use Rattle.raft_group_step.proofs.Words.{either_by, ask_state}
use Rattle.raft_laws.specs.BallotLogs.{LogEnd}
use Rattle.raft_laws.specs.BallotQuorum.{is_quorum}
use Rattle.raft_laws.specs.BallotWorld.{FoundGroup, founded, is_empty, BallotRequest, BallotGrant, BallotWorld, BallotEvent, StandForElection, WinElection, has_granted, is_ballot_candidate, elected, won, written, ballot_step}
use Rattle.raft_laws.specs.BallotRanks.{rank_of, owner_of, ballot_log, ballot_group}
use Rattle.raft_laws.proofs.BallotAgreement.{with_value_same}
use Rattle.raft_laws.proofs.BallotQuorums.{quorum_more}
use Rattle.raft_laws.proofs.BallotSafe.{Among}
use Rattle.raft_laws.proofs.BallotOthers.{Extends, extends_refl, extends_trans}
use Rattle.raft_laws.proofs.VoteRanks.{owner_is, rank_below, vote_eq_same}
use Rattle.raft_laws.proofs.VoteOrders.{by_term}
use Rattle.raft_laws.proofs.Shapes.{Good, Joined, joined_held, joined_end, joined_put}
use Rattle.raft_laws.proofs.Memberships.{HasMembership, in_force, last_voters}
use Rattle.raft_laws.proofs.Standing.{UpFits, lead_young, RoleFits, OwnVote, request-of, grant-of, id_rank}
use Rattle.raft_laws.proofs.Ids.{log_end_is}
use Rattle.raft_laws.proofs.Tracking.{Tracks, among_last, track_event, track_same, track_send, step_extends}
use Rattle.raft_laws.proofs.TrackVotes.{voted, up_node}
use Rattle.raft_laws.proofs.TrackWrites.{put_fits, good_one, write_tracks, write_extends, write_fits}

-- the two ways to say a quorum
pub quorum_link : (groups : List (List ℕ)) (p : ℕ → Bool) → is_quorum_of groups p ≡ true → is_quorum groups p ≡ true
quorum_link [] p h = refl
quorum_link (group ∷ groups) p h =
    let parts = and_parts (nat_lt (length group) (2 * count_by p group)) (is_quorum_of groups p) h in
    and_from (nat_lt (length group) (2 * count_by p group)) (is_quorum groups p) parts.0 (quorum_link groups p parts.1)

pub has_grant : (qs : List BallotGrant) (b n : ℕ) → Among (grant-of b n) qs → has_granted qs b n ≡ true
has_grant [] b n h = absurd h
has_grant (q ∷ qs) b n h =
    ⊎_elim
    (λ e. or_left _ (has_granted qs b n) (and_from (q.ballot == b) (q.node == n) (eq-eqb q.ballot b (ap (λ x. x.ballot) (sym e))) (eq-eqb q.node n (ap (λ x. x.node) (sym e)))))
    (λ t. or_right ((q.ballot == b) && (q.node == n)) _ (has_grant qs b n t))
    h

in_list : (xs : List ℕ) (n : ℕ) → has_id xs n ≡ true → Among n xs
in_list [] n h = absurd (let e : false ≡ true = h in cc)
in_list (x ∷ xs) n h = ⊎_elim (λ t. inl (sym (eqb-true x n t))) (λ t. inr (in_list xs n t)) (or_cases (x == n) (has_id xs n) h)

abbrev pub blank : EntryPayload
blank = Blank

pub blank_differs : (x : Membership) → blank ≡ Members x → ⊥
blank_differs x e = cc

-- a step that fits to its end
pub record Ends (m : Membership) (some : 0 < length m.configs) (own : ℕ) (before : List BallotEvent) (base : StoredGroup) (w : BallotWorld) (q : StepResult) : Type 0 where
  pub world : BallotWorld
  pub extends : Extends own w world
  pub tracks : Tracks m some own before base world q
  pub role : RoleFits own world q.state.stored.vote (held q.state.stored) q.state.role

-- the voter groups of a membership's entry
abbrev pub configs-in : EntryPayload → List (List ℕ)
configs-in Blank = []
configs-in (Normal command) = []
configs-in (Members x) = x.configs

abbrev request-at : ℕ → LogEnd → BallotRequest
request-at b last = record { ballot = b; last = last }

module _ {m : Membership} {some : 0 < length m.configs} {own : ℕ} {before : List BallotEvent} {base : StoredGroup} where
  -- the voter groups in force are the group's
  pub configs_are : {w : BallotWorld} {r : StepResult} → Tracks m some own before base w r → HasMembership (held r.state.stored) → configs_in_force r.state.stored ≡ m.configs
  configs_are {w} {r} t has =
      let u = t.up in
      let is = joined_held r.state.stored u.list u.joined in
      let force = in_force r.state.stored u.list u.joined (λ x e. (u.fits.snapshot x e).membership) in
      let last : last_membership None u.list ≡ Some has.0 = ap (last_membership None) (sym is) ∙ has.1 in
      ap configs_of (force ∙ last)
      ∙ last_voters m 0 u.list None (λ y e. absurd (let f : None ≡ Some y = e in cc)) u.fits.good has.0 last

  module _ (w : BallotWorld) (r : StepResult) (t : Tracks m some own before base w r) (mine : OwnVote own r.state.stored.vote false) (has : HasMembership (held r.state.stored)) where
    abbrev lead_state : StepResult
    lead_state =
        in_role (Leader (new_lead r.state.stored)) (store_vote (committed_vote r.state.stored.vote) r)

    -- a candidate that a quorum granted leads
    module _ (granters : List ℕ) (all : (n : ℕ) → Among n granters → Among (grant-of (rank_of r.state.stored.vote.leader_id) n) w.grants) (enough : is_quorum_of (configs_in_force r.state.stored) (has_id granters) ≡ true) where
      win_is : ballot_step (ballot_group m) w (WinElection own) ≡ won w own
      win_is =
          let rank = t.up.fits.ballot in
          let groups = subst (λ c. is_quorum_of c (has_id granters) ≡ true) (configs_are t has) enough in
          let quorum : is_quorum m.configs (has_granted w.grants (w.node own).ballot) ≡ true =
          quorum_more m.configs (has_id granters) (has_granted w.grants (w.node own).ballot)
          (λ n q. subst (λ b. has_granted w.grants b n ≡ true) (sym rank) (has_grant w.grants (rank_of r.state.stored.vote.leader_id) n (all n (in_list granters n q))))
          (quorum_link m.configs (has_id granters) groups)
          in
          let owned : owner_of (w.node own).ballot ≡ own = ap owner_of rank ∙ owner_is r.state.stored.vote.leader_id mine.term t.up.fits.bound ∙ mine.node in
          cond-true _ _ _
          (and_from (is_ballot_candidate (ballot_group m) own (w.node own)) _
          (and_from (not (w.node own).committed) _ (not_from_false _ (t.up.fits.committed ∙ mine.flag)) (eq-eqb (owner_of (w.node own).ballot) own owned))
          quorum)

      win_extends : Extends own w (won w own)
      win_extends = step_extends m own w (WinElection own) refl (won w own) win_is

      leading : Tracks m some own before base (won w own) lead_state
      leading =
          track_same lead_state
          (track_event (SetVote (committed_vote r.state.stored.vote)) t (WinElection own) refl (won w own) win_is
          (subst (λ y. UpFits m y (with_stored r.state (after_storing (SetVote (committed_vote r.state.stored.vote)) r.state.stored))) (sym (with_value_same w.node own _))
          (up_node _ t.up.fits.ballot refl refl refl (voted (committed_vote r.state.stored.vote) t.up.fits.bound t.up)))
          (record { term = λ c n. mine.term; has = λ c n. has }))
          refl refl refl refl refl

      now : OwnVote own lead_state.state.stored.vote true
      now = record { flag = refl; node = mine.node; term = mine.term }

      role : RoleFits own (won w own) lead_state.state.stored.vote (held lead_state.state.stored) lead_state.state.role
      role = (now, has, λ p a. absurd a)

      pub win_ends : Ends m some own before base w (begin_lead r)
      win_ends =
          either_by (Ends m some own before base w) _ lead_state (append Blank lead_state)
          (λ no. record { world = won w own; extends = win_extends; tracks = leading; role = role })
          (λ no. record {
            world = written (won w own) own Blank;
            extends = extends_trans win_extends (write_extends (won w own) lead_state leading now Blank (λ x e. absurd (blank_differs x e)));
            tracks = write_tracks (won w own) lead_state leading now Blank (λ x e. absurd (blank_differs x e));
            role = write_fits (won w own) lead_state leading now Blank (λ x e. absurd (blank_differs x e)) lead_state.state.role role;
          })

  -- one more grant
  module _ (n : ℕ) (w : BallotWorld) (r : StepResult) (t : Tracks m some own before base w r) (grant : Among (grant-of (rank_of r.state.stored.vote.leader_id) n) w.grants) where
    abbrev now_granted : List ℕ → List ℕ
    now_granted granters = cond (has_id granters n) granters (granters ++ n ∷ [])

    more_granters : (granters : List ℕ) → ((k : ℕ) → Among k granters → Among (grant-of (rank_of r.state.stored.vote.leader_id) k) w.grants) → (k : ℕ) → Among k (cond (has_id granters n) granters (granters ++ n ∷ [])) → Among (grant-of (rank_of r.state.stored.vote.leader_id) k) w.grants
    more_granters granters h k =
        cond_both (has_id granters n) granters (granters ++ n ∷ []) (λ l. Among k l → Among (grant-of (rank_of r.state.stored.vote.leader_id) k) w.grants)
        (λ e a. h k a)
        (λ e a. ⊎_elim (λ b. h k b) (λ same. subst (λ j. Among (grant-of (rank_of r.state.stored.vote.leader_id) j) w.grants) (sym same) grant) (among_last k n granters a))

    pub grant_ends : (role : Role) → r.state.role ≡ role → RoleFits own w r.state.stored.vote (held r.state.stored) role → Ends m some own before base w (with_grant n role r)
    grant_ends Follower e h = record { world = w; extends = extends_refl own w; tracks = t; role = subst (RoleFits own w r.state.stored.vote (held r.state.stored)) (sym e) h }
    grant_ends (Leader lead) e h = record { world = w; extends = extends_refl own w; tracks = t; role = subst (RoleFits own w r.state.stored.vote (held r.state.stored)) (sym e) h }
    grant_ends (Candidate granters) e h =
        go (is_quorum_of (configs_in_force r.state.stored) (has_id (now_granted granters))) refl
      where
        go : (b : Bool) → is_quorum_of (configs_in_force r.state.stored) (has_id (now_granted granters)) ≡ b → Ends m some own before base w (lead_if b (in_role (Candidate (now_granted granters)) r))
        go true q =
            win_ends w (in_role (Candidate (now_granted granters)) r) (track_same (in_role (Candidate (now_granted granters)) r) t refl refl refl refl refl) h.0 h.1 (now_granted granters) (more_granters granters h.2) q
        go false q =
            record {
              world = w;
              extends = extends_refl own w;
              tracks = track_same (in_role (Candidate (now_granted granters)) r) t refl refl refl refl refl;
              role = (h.0, h.1, more_granters granters h.2);
            }

  -- ---- standing

  ask_tracks : (ns : List ℕ) (w : BallotWorld) (r : StepResult) → Tracks m some own before base w r → r.state.stored.vote.leader_id.node_id < 2 ^ 64 → Among (request-of (rank_of r.state.stored.vote.leader_id) (id_rank (last_id r.state.stored)) (next_place (last_id r.state.stored))) w.requests → Tracks m some own before base w (ask own ns r)
  ask_tracks [] w r t bound asked = t
  ask_tracks (n ∷ ns) w r t bound asked = ask_tracks ns w _ (track_send n (VoteRequest r.state.stored.vote (last_id r.state.stored)) t (bound, asked)) bound asked

  pub ends_from : {w w' : BallotWorld} {q : StepResult} → Extends own w w' → Ends m some own before base w' q → Ends m some own before base w q
  ends_from e n = record { world = n.world; extends = extends_trans e n.extends; tracks = n.tracks; role = n.role }

  module _ (small : own < 2 ^ 64) (w : BallotWorld) (r : StepResult) (t : Tracks m some own before base w r) (has : HasMembership (held r.state.stored)) where
    abbrev next_vote : Vote ℕ
    next_vote = vote_of (r.state.stored.vote.leader_id.term + 1) own false

    abbrev next_ballot : ℕ
    next_ballot = rank_of next_vote.leader_id

    stand_is : ballot_step (ballot_group m) w (StandForElection own next_ballot) ≡ elected w own next_ballot
    stand_is =
        let owned = owner_is next_vote.leader_id (omega arith) small in
        let less = rank_below r.state.stored.vote.leader_id next_vote.leader_id t.up.fits.bound (by_term (omega arith)) in
        cond-true _ _ _
        (and_from (owner_of next_ballot == own) (nat_lt (w.node own).ballot next_ballot) (eq-eqb (owner_of next_ballot) own owned)
        (lt-ltb (w.node own).ballot next_ballot (omega (arith, t.up.fits.ballot))))

    stand_extends : Extends own w (elected w own next_ballot)
    stand_extends = step_extends m own w (StandForElection own next_ballot) refl (elected w own next_ballot) stand_is

    abbrev candidate_state : StepResult
    candidate_state = in_role (Candidate []) (store_vote next_vote (step_down r))

    candidate_tracks : Tracks m some own before base (elected w own next_ballot) candidate_state
    candidate_tracks =
        let down = track_same (step_down r) t refl refl refl refl refl in
        track_same candidate_state
        (track_event (SetVote next_vote) down (StandForElection own next_ballot) refl (elected w own next_ballot) stand_is
        (subst (λ y. UpFits m y (with_stored (step_down r).state (after_storing (SetVote next_vote) r.state.stored))) (sym (with_value_same w.node own _))
        (voted next_vote small down.up))
        (lead_young refl))
        refl refl refl refl refl

    asked : Among (request-of next_ballot (id_rank (last_id candidate_state.state.stored)) (next_place (last_id candidate_state.state.stored))) (elected w own next_ballot).requests
    asked = inl (ap (request-at next_ballot) (sym (log_end_is m (w.node own) r.state.stored t.up.list t.up.fits t.up.joined)))

    stood_tracks : Tracks m some own before base (elected w own next_ballot) (stand own r)
    stood_tracks = ask_tracks (other_voters own r.state.stored) (elected w own next_ballot) candidate_state candidate_tracks small asked

    mine : OwnVote own next_vote false
    mine = record { flag = refl; node = refl; term = omega arith }

    -- a node stands, and leads where its own grant is a quorum
    pub elect_ends : Ends m some own before base w (elect_step own r)
    elect_ends =
        let same = ask_state own (other_voters own r.state.stored) candidate_state in
        ends_from stand_extends
        (grant_ends own (elected w own next_ballot) (stand own r) stood_tracks
        (subst (λ s. Among (grant-of (rank_of s.stored.vote.leader_id) own) (elected w own next_ballot).grants) (sym same) (inl refl))
        (stand own r).state.role refl
        (subst (λ s. RoleFits own (elected w own next_ballot) s.stored.vote (held s.stored) s.role) (sym same) (mine, has, λ k a. absurd a)))

  -- ---- the first set-up

  module _ (small : own < 2 ^ 64) (w : BallotWorld) (r : StepResult) (t : Tracks m some own before base w r) (new : is_new r.state.stored ≡ true) where
    abbrev first_put : List Entry
    first_put = entry_of (log_id_of 0 0 0) (Members m) ∷ []

    none_stored : (t.up.list ≡ []) × (length (prefix_of r.state.stored.snapshot) ≡ 0) × (r.state.stored.vote ≡ vote_of 0 0 false)
    none_stored =
        let one = and_parts _ (is_none r.state.stored.snapshot) new in
        let two = and_parts (vote_eq r.state.stored.vote (vote_of 0 0 false)) (end_place r.state.stored == 0) one.0 in
        let size = joined_end r.state.stored t.up.list t.up.joined in
        let zero' = eqb-true (end_place r.state.stored) 0 two.1 in (
          no_entries t.up.list (omega (arith, size, zero')),
          (let h = (t.up.joined).high in omega (arith, h, size, zero')),
          vote_eq_same r.state.stored.vote (vote_of 0 0 false) two.0,
        )
      where
        no_entries : (xs : List Entry) → length xs ≡ 0 → xs ≡ []
        no_entries [] e = refl
        no_entries (x ∷ xs) e = absurd (omega arith)

    found_is : ballot_step (ballot_group m) w (FoundGroup own) ≡ founded (ballot_group m) w own
    found_is =
        let n = none_stored in
        let rank : (w.node own).ballot ≡ 0 = t.up.fits.ballot ∙ ap (λ v. rank_of v.leader_id) n.2 in
        let log : (w.node own).log ≡ [] = t.up.fits.log ∙ ap ballot_log n.0 in
        cond-true _ _ _
        (and_from ((w.node own).ballot == 0) (is_empty (w.node own).log) (eq-eqb (w.node own).ballot 0 rank) (ap is_empty log))

    first_good : Good m 0 first_put
    first_good = good_one m 0 (entry_of (log_id_of 0 0 0) (Members m)) refl (omega arith) (λ x e. ap configs-in (sym e))

    found_joined : Joined (after_storing (PutEntries 0 first_put) r.state.stored) (take 0 t.up.list ++ first_put)
    found_joined = joined_put r.state.stored t.up.list t.up.joined 0 (let n = none_stored.1 in omega arith) (omega arith) first_put

    found_tracks : Tracks m some own before base (founded (ballot_group m) w own) (store (PutEntries 0 first_put) r)
    found_tracks =
        track_event (PutEntries 0 first_put) t (FoundGroup own) refl (founded (ballot_group m) w own) found_is
        (subst (λ y. UpFits m y (with_stored r.state (after_storing (PutEntries 0 first_put) r.state.stored))) (sym (with_value_same w.node own _))
        (record {
          list = take 0 t.up.list ++ first_put;
          fits =
              put_fits t.up.fits t.up.joined 0 (let n = none_stored.1 in omega arith) (omega arith) first_put first_good
              _ refl refl refl t.up.fits.reaches;
          joined = found_joined;
          commit = t.up.commit;
          applied = t.up.applied;
        }))
        (lead_young (let n = none_stored in ap (λ v. v.committed) n.2))

    pub initialize_ends : Ends m some own before base w (initialize_step own m r)
    initialize_ends =
        let held-is = joined_held (after_storing (PutEntries 0 first_put) r.state.stored) (take 0 t.up.list ++ first_put) found_joined in
        ends_from (step_extends m own w (FoundGroup own) refl (founded (ballot_group m) w own) found_is)
        (elect_ends small (founded (ballot_group m) w own) (store (PutEntries 0 first_put) r) found_tracks
        (record { log_id = log_id_of 0 0 0; membership = m }, ap (last_membership None) held-is))
