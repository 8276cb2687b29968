-- Votes that a node takes over, grants and asks for, followed by the ballot machine.
use Rattle.std.specs.Prelude.{◌≡◌, ◌⊎◌, ℕ, ◌+◌, ◌<◌, ◌≤◌, ◌^◌, ◌==◌, ◌&&◌, ◌||◌, not, nat_lt, nat_le, Bool, true, false, List, length, slice_get, Option, Some, None, refl}
use Rattle.std.proofs.Common.{inl, inr, sym, ap, ◌∙◌, subst, arith, ⊎_elim, eq-eqb, ne_eqb, lt-ltb, le-leb}
use Rattle.std.proofs.lemmas.Bool.{and_from, or_left, or_right, not_from_false, cond-true, cases_lt}
use Rattle.std.specs.Ordering.{nat_cmp, ordering_then, is_lt}
use Rattle.raft_values.specs.declared.log_id.LogId.{LogId}
use Rattle.raft_values.specs.declared.vote.Vote.{Vote}
use Rattle.raft_group_step.specs.Values.{vote_lt}
use Rattle.raft_values.specs.LogId.{next_place}
use Rattle.raft_group_step.specs.Values.{last_id_lt}
use Rattle.raft_group_step.specs.Values.{Membership}
use Rattle.raft_group_step.specs.Values.{Entry}
use Rattle.raft_group_step.specs.StoredGroup.{StoredGroup, SetVote, after_storing, last_id, end_place}
use Rattle.raft_group_step.specs.GroupState.{GroupState, Role, Follower, Candidate, Leader}
use Rattle.raft_group_step.specs.StepResult.{StepResult, renew, store_vote, step_down, take_over, with_stored}
use Rattle.raft_group_step.proofs.Words.{either_by}
use Rattle.raft_group_step.proofs.Votes.{less_is}
use Rattle.raft_laws.specs.BallotLogs.{is_at_least}
use Rattle.raft_laws.specs.BallotWorld.{BallotNode, BallotRequest, BallotWorld, BallotEvent, RaiseVote, TakeRequest, can_grant, raised, granted, request_comes, ballot_step}
use Rattle.raft_laws.specs.BallotRanks.{rank_of, owner_of, ballot_group}
use Rattle.raft_laws.proofs.BallotAgreement.{with_value_same}
use Rattle.raft_laws.proofs.BallotSafe.{Among}
use Rattle.raft_laws.proofs.BallotOthers.{Extends, extends_refl}
use Rattle.raft_laws.proofs.VoteOrders.{LeaderOrder, below, equal, above, leader_order, differ_flags}
use Rattle.raft_laws.proofs.VoteRanks.{rank_below, rank_same, owner_other, rank_rises, rank_rises_strictly, same_vote}
use Rattle.raft_laws.proofs.Ids.{log_end_is, before, end_is}
use Rattle.raft_laws.proofs.Standing.{message_on, lead_other, UpFits, RoleFits, request-of, grant-of, id_rank}
use Rattle.raft_laws.proofs.Tracking.{Tracks, track_event, track_on, track_same, reached_next, step_extends, index_of, up_same}

-- the node with another vote
pub voted : {m : Membership} {x : BallotNode} {s : GroupState} (v : Vote ℕ) → v.leader_id.node_id < 2 ^ 64 → UpFits m x s → UpFits m (record x { ballot = rank_of v.leader_id; committed = v.committed }) (with_stored s (after_storing (SetVote v) s.stored))
voted v bound u =
    record {
      list = u.list;
      fits = record {
        ballot = refl;
        committed = refl;
        bound = bound;
        log = u.fits.log;
        good = u.fits.good;
        snapshot = u.fits.snapshot;
        purged = u.fits.purged;
        reaches = u.fits.reaches;
      };
      joined = record { front = u.joined.front; log = u.joined.log; low = u.joined.low; high = u.joined.high };
      commit = u.commit;
      applied = u.applied;
    }

-- the machine's node is another one with the same parts
pub up_node : {m : Membership} {x : BallotNode} {s : GroupState} (y : BallotNode) → y.ballot ≡ x.ballot → y.committed ≡ x.committed → y.log ≡ x.log → y.commit ≡ x.commit → UpFits m x s → UpFits m y s
up_node y a b c d u =
    record {
      list = u.list;
      fits = record {
        ballot = a ∙ u.fits.ballot;
        committed = b ∙ u.fits.committed;
        bound = u.fits.bound;
        log = c ∙ u.fits.log;
        good = u.fits.good;
        snapshot = u.fits.snapshot;
        purged = u.fits.purged;
        reaches = omega (arith, d, u.fits.reaches);
      };
      joined = u.joined;
      commit = d ∙ u.commit;
      applied = u.applied;
    }

-- under another node's vote a node follows
pub stranger_follows : (own : ℕ) (w : BallotWorld) (vote : Vote ℕ) (xs : List Entry) (role : Role) → RoleFits own w vote xs role → (vote.leader_id.node_id ≡ own → ⊥) → role ≡ Follower
stranger_follows own w vote xs Follower h ne = refl
stranger_follows own w vote xs (Candidate granters) h ne = absurd (ne (h.0).node)
stranger_follows own w vote xs (Leader lead) h ne = absurd (ne (h.0).node)

-- a candidate's end that isn't below the own one
at_least : (a b : Option (LogId ℕ)) → ((id : LogId ℕ) → b ≡ Some id → id.leader_id.node_id < 2 ^ 64) → last_id_lt a b ≡ false → is_at_least (record { ballot = id_rank a; count = next_place a }) (record { ballot = id_rank b; count = next_place b }) ≡ true
at_least None None h t = refl
at_least None (Some b) h t = absurd (let e : true ≡ false = t in cc)
at_least (Some a) None h t =
    ⊎_elim
    (λ l. or_left (nat_lt 0 (rank_of a.leader_id)) _ (lt-ltb 0 (rank_of a.leader_id) l))
    (λ l. or_right (nat_lt 0 (rank_of a.leader_id)) _ (and_from (rank_of a.leader_id == 0) (nat_le 0 (a.index + 1)) (eq-eqb (rank_of a.leader_id) 0 (omega arith)) (le-leb 0 (a.index + 1) (omega arith))))
    (cases_lt 0 (rank_of a.leader_id))
at_least (Some a) (Some b) h t = go (leader_order a.leader_id b.leader_id)
  where
    test : Bool
    test = is_at_least (record { ballot = rank_of a.leader_id; count = a.index + 1 }) (record { ballot = rank_of b.leader_id; count = b.index + 1 })

    go : LeaderOrder a.leader_id b.leader_id → is_at_least (record { ballot = rank_of a.leader_id; count = a.index + 1 }) (record { ballot = rank_of b.leader_id; count = b.index + 1 }) ≡ true
    go (below l o) = differ_flags (last_id_lt (Some a) (Some b)) (ap (λ x. is_lt (ordering_then x (nat_cmp a.index b.index))) o) t
    go (above l o) = or_left (nat_lt (rank_of b.leader_id) (rank_of a.leader_id)) _ (lt-ltb (rank_of b.leader_id) (rank_of a.leader_id) (rank_below b.leader_id a.leader_id (h b refl) l))
    go (equal e f o) =
        ⊎_elim
        (λ l. differ_flags (last_id_lt (Some a) (Some b)) (ap (λ x. is_lt (ordering_then x (nat_cmp a.index b.index))) o ∙ ap is_lt (less_is a.index b.index l)) t)
        (λ l.
        or_right (nat_lt (rank_of b.leader_id) (rank_of a.leader_id)) _
        (and_from (rank_of a.leader_id == rank_of b.leader_id) (nat_le (b.index + 1) (a.index + 1))
        (eq-eqb (rank_of a.leader_id) (rank_of b.leader_id) (rank_same a.leader_id b.leader_id e f))
        (le-leb (b.index + 1) (a.index + 1) (omega arith))))
        (cases_lt a.index b.index)

module _ (m : Membership) (some : 0 < length m.configs) (own : ℕ) (small : own < 2 ^ 64) (before' : List BallotEvent) (base : StoredGroup) where
  abbrev Track : BallotWorld → StepResult → Type 0
  Track w r = Tracks m some own before' base w r

  -- the node has the vote now, and follows
  pub record TookOver (w : BallotWorld) (v : Vote ℕ) (committed : Option ℕ) (q : StepResult) : Type 0 where
    pub world : BallotWorld
    pub extends : Extends own w world
    pub tracks : Tracks m some own before' base world q
    pub role : q.state.role ≡ Follower
    pub vote : q.state.stored.vote ≡ v
    pub place : q.state.committed ≡ committed

  -- a vote of another node that isn't below
  pub raise_tracks' : (w : BallotWorld) (r : StepResult) (t : Tracks m some own before' base w r) (v : Vote ℕ) (bound : v.leader_id.node_id < 2 ^ 64) (other : v.leader_id.node_id ≡ own → ⊥) → rank_of r.state.stored.vote.leader_id ≤ rank_of v.leader_id → Tracks m some own before' base (raised w own (rank_of v.leader_id) v.committed) (store_vote v r) × Extends own w (raised w own (rank_of v.leader_id) v.committed)
  raise_tracks' w r t v bound other le =
      let b = rank_of v.leader_id in
      let is : ballot_step (ballot_group m) w (RaiseVote own b v.committed) ≡ raised w own b v.committed =
      cond-true _ _ _
      (and_from (not (owner_of b == own)) (nat_le (w.node own).ballot b) (not_from_false _ (ne_eqb (owner_of b) own (owner_other v.leader_id own bound small other)))
      (le-leb (w.node own).ballot b (omega (arith, t.up.fits.ballot))))
      in (
        track_same (store_vote v r)
            (track_event (SetVote v) t (RaiseVote own b v.committed) refl (raised w own b v.committed) is
            (subst (λ y. UpFits m y (with_stored r.state (after_storing (SetVote v) r.state.stored))) (sym (with_value_same w.node own _)) (voted v bound t.up))
            (lead_other other))
            refl refl refl refl refl,
        step_extends m own w (RaiseVote own b v.committed) refl (raised w own b v.committed) is,
      )

  -- and its grant was sent
  pub record Granted (w : BallotWorld) (v : Vote ℕ) (committed : Option ℕ) (q : StepResult) : Type 0 where
    pub took : TookOver w v committed q
    pub grant : Among (grant-of (rank_of v.leader_id) own) (took.world).grants

  module _ (w : BallotWorld) (r : StepResult) (t : Tracks m some own before' base w r) where
    -- the own last log id is of a node
    last_bound : (id : LogId ℕ) → last_id r.state.stored ≡ Some id → id.leader_id.node_id < 2 ^ 64
    last_bound id e =
        let u = t.up in
        let ends = end_is m (w.node own) r.state.stored u.list u.fits u.joined in
        let b = before m (w.node own) r.state.stored u.list u.fits u.joined (end_place r.state.stored) (omega (arith, ends)) (omega (arith, ends, (u.joined).low, (u.joined).high)) in
        let has = b.has id e in
        let bound = u.fits.good.bounded id.index has.entry has.there in
        subst (λ i. i.leader_id.node_id < 2 ^ 64) has.same bound

    module _ (v : Vote ℕ) (bound : v.leader_id.node_id < 2 ^ 64) (other : v.leader_id.node_id ≡ own → ⊥) where
      owner_differs : owner_of (rank_of v.leader_id) ≡ own → ⊥
      owner_differs = owner_other v.leader_id own bound small other

      -- a greater vote is taken over, and an equal one is renewed
      pub took_over : RoleFits own w r.state.stored.vote t.up.list r.state.role → vote_lt v r.state.stored.vote ≡ false → TookOver w v r.state.committed (take_over v r)
      took_over role low =
          either_by (TookOver w v r.state.committed) (vote_lt r.state.stored.vote v) _ _
          (λ l.
          let down = track_same (step_down r) t refl refl refl refl refl in
          let raise = raise_from (step_down r) down (rank_rises r.state.stored.vote v t.up.fits.bound l) in
          record { world = raised w own (rank_of v.leader_id) v.committed; extends = raise.1; tracks = raise.0; role = refl; vote = refl; place = refl })
          (λ l.
          let same = same_vote v r.state.stored.vote low l in
          let stranger : r.state.stored.vote.leader_id.node_id ≡ own → ⊥ = λ e. other (ap (λ x. x.leader_id.node_id) same ∙ e) in
          record {
            world = w;
            extends = extends_refl own w;
            tracks = track_same (renew r) t refl refl refl refl refl;
            role = stranger_follows own w r.state.stored.vote t.up.list r.state.role role stranger;
            vote = sym same;
            place = refl;
          })
        where
          raise_from : (q : StepResult) (t' : Tracks m some own before' base w q) → rank_of q.state.stored.vote.leader_id ≤ rank_of v.leader_id → Tracks m some own before' base (raised w own (rank_of v.leader_id) v.committed) (store_vote v q) × Extends own w (raised w own (rank_of v.leader_id) v.committed)
          raise_from q t' le = raise_tracks' w q t' v bound other le

      -- a request of a candidate is granted
      module _ (last : Option (LogId ℕ)) (asked : Among (request-of (rank_of v.leader_id) (id_rank last) (next_place last)) w.requests) (young : v.committed ≡ false) (low : vote_lt v r.state.stored.vote ≡ false) (behind : last_id_lt last (last_id r.state.stored) ≡ false) where
        abbrev pub asking : BallotRequest
        asking = request-of (rank_of v.leader_id) (id_rank last) (next_place last)

        at : (k : ℕ) × (slice_get w.requests k ≡ Some (request-of (rank_of v.leader_id) (id_rank last) (next_place last)))
        at = index_of (request-of (rank_of v.leader_id) (id_rank last) (next_place last)) w.requests asked

        may : (r.state.stored.vote ≡ v) ⊎ (rank_of r.state.stored.vote.leader_id < rank_of v.leader_id) → can_grant (ballot_group m) own (w.node own) asking ≡ true
        may h =
            and_from (not (owner_of (rank_of v.leader_id) == own)) _ (not_from_false _ (ne_eqb (owner_of (rank_of v.leader_id)) own owner_differs))
            (and_from (nat_lt (w.node own).ballot (rank_of v.leader_id) || (((w.node own).ballot == rank_of v.leader_id) && not (w.node own).committed)) _
            (⊎_elim
            (λ e.
            or_right (nat_lt (w.node own).ballot (rank_of v.leader_id)) _
            (and_from ((w.node own).ballot == rank_of v.leader_id) _
            (eq-eqb (w.node own).ballot (rank_of v.leader_id) (t.up.fits.ballot ∙ ap (λ x. rank_of x.leader_id) e))
            (not_from_false (w.node own).committed (t.up.fits.committed ∙ ap (λ x. x.committed) e ∙ young))))
            (λ l. or_left (nat_lt (w.node own).ballot (rank_of v.leader_id)) _ (lt-ltb (w.node own).ballot (rank_of v.leader_id) (omega (arith, t.up.fits.ballot))))
            h)
            (subst (λ x. is_at_least (record { ballot = id_rank last; count = next_place last }) x ≡ true)
            (sym (log_end_is m (w.node own) r.state.stored t.up.list t.up.fits t.up.joined))
            (at_least last (last_id r.state.stored) last_bound behind)))

        is : can_grant (ballot_group m) own (w.node own) asking ≡ true → ballot_step (ballot_group m) w (TakeRequest at.0 own) ≡ granted w own asking
        is h = ap (λ o. request_comes (ballot_group m) w o own) at.1 ∙ cond-true _ _ _ h

        -- the node has the vote now, and its grant counts
        pub grant_tracks : RoleFits own w r.state.stored.vote t.up.list r.state.role → Granted w v r.state.committed (take_over v r)
        grant_tracks role =
            either_by (Granted w v r.state.committed) (vote_lt r.state.stored.vote v) _ _
            (λ l.
            let down = track_same (step_down r) t refl refl refl refl refl in
            let step = is (may (inr (rank_rises_strictly r.state.stored.vote v t.up.fits.bound young l))) in
            record {
              grant = inl refl;
              took = record {
                world = granted w own asking;
                extends = step_extends m own w (TakeRequest at.0 own) refl (granted w own asking) step;
                tracks =
                    track_same (store_vote v (step_down r))
                    (track_event (SetVote v) down (TakeRequest at.0 own) refl (granted w own asking) step
                    (subst (λ y. UpFits m y (with_stored (step_down r).state (after_storing (SetVote v) r.state.stored))) (sym (with_value_same w.node own _))
                    (up_node _ refl (sym young) refl refl (voted v bound down.up)))
                    (lead_other other))
                    refl refl refl refl refl;
                role = refl;
                vote = refl;
                place = refl;
              };
            })
            (λ l.
            let same = same_vote v r.state.stored.vote low l in
            let step = is (may (inl (sym same))) in
            let stranger : r.state.stored.vote.leader_id.node_id ≡ own → ⊥ = λ e. other (ap (λ x. x.leader_id.node_id) same ∙ e) in
            record {
              grant = inl refl;
              took = record {
                world = granted w own asking;
                extends = step_extends m own w (TakeRequest at.0 own) refl (granted w own asking) step;
                tracks =
                    track_on (renew r) t refl refl (reached_next (TakeRequest at.0 own) refl (granted w own asking) step t.reached)
                    (subst (λ y. UpFits m y (renew r).state) (sym (with_value_same w.node own _))
                    (up_node _ (ap (λ x. rank_of x.leader_id) same ∙ sym t.up.fits.ballot) (sym young ∙ ap (λ x. x.committed) same ∙ sym t.up.fits.committed) refl refl
                    (up_same r.state (renew r).state refl refl refl t.up)))
                    (λ x a. message_on (step_extends m own w (TakeRequest at.0 own) refl (granted w own asking) step) m x (t.messages x a));
                role = stranger_follows own w r.state.stored.vote t.up.list r.state.role role stranger;
                vote = sym same;
                place = refl;
              };
            })
