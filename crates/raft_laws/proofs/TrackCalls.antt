-- Commands, changes of the membership, lost requests and snapshots, followed by the ballot machine.
use Rattle.std.specs.Prelude.{◌≡◌, ℕ, ◌+◌, ◌<◌, ◌≤◌, nat_lt, Bool, true, false, List, [], ◌∷◌, length, take, slice_get, Option, Some, None, is_some, option_map, refl}
use Rattle.std.proofs.Common.{sym, ap, ap₂, ◌∙◌, subst, arith, ⊎_elim, eqb-true, length-take-le}
use Rattle.std.specs.Cmp.Lexicographic.{pointwise}
use Rattle.std.specs.Prelude.{nat_eq}
use Rattle.std.proofs.lemmas.Bool.{and_parts, ltb-false, cases_lt}
use Rattle.std.proofs.lemmas.Option.{slice_get_past}
use Rattle.raft_state.specs.declared.entry.EntryPayload.TheVariants.{Membership as Members}
use Rattle.raft_values.specs.LogId.{next_place}
use Rattle.raft_group_step.specs.Values.{Membership, Entry, EntryPayload, configs_eq}
use Rattle.raft_group_step.specs.StoredGroup.{StoredGroup, Snapshot, SetSnapshot, after_storing, id_of, snapshot_last, prefix_of, held}
use Rattle.raft_group_step.specs.GroupState.{Lead, Role, Follower, Candidate, Leader}
use Rattle.raft_group_step.specs.StepResult.{StepResult, store, append, with_stored}
use Rattle.raft_group_step.specs.Lead.{peer_of}
use Rattle.raft_group_step.specs.Frames.{with_peer_state}
use Rattle.raft_group_step.specs.Reply.{ended}
use Rattle.raft_group_step.specs.Lost.{lost_as}
use Rattle.raft_group_step.specs.Propose.{append_with_token}
use Rattle.raft_group_step.specs.SnapshotTrigger.{snapshot_at, store_snapshot_at, snapshot_of_applied}
use Rattle.raft_group_step.specs.SnapshotRequest.{place_above}
use Rattle.raft_group_step.proofs.Words.{either_by}
use Rattle.raft_laws.specs.BallotWorld.{BallotWorld, BallotEvent, written}
use Rattle.raft_laws.specs.BallotRanks.{rank_of}
use Rattle.raft_laws.proofs.BallotAgreement.{same_some, some_at}
use Rattle.raft_laws.proofs.BallotOthers.{extends_refl}
use Rattle.raft_laws.proofs.Shapes.{Joined, joined_held, joined_at, joined_snapshot, slice_take}
use Rattle.raft_laws.proofs.Standing.{SnapshotFits, UpFits, lead_same, PeerFits, RoleFits}
use Rattle.raft_laws.proofs.Tracking.{Tracks, track_same, track_store}
use Rattle.raft_laws.proofs.TrackWrites.{write_tracks, write_extends, write_fits}
use Rattle.raft_laws.proofs.TrackElections.{Ends}
use Rattle.raft_laws.proofs.TrackReplies.{peer_of_fits, with_peer_is}

-- equal voter groups are the same
pub same_points : {A : Type 0} (eq : A → A → Bool) → ((x y : A) → eq x y ≡ true → x ≡ y) → (xs ys : List A) → pointwise eq xs ys ≡ true → xs ≡ ys
same_points eq h [] [] t = refl
same_points eq h [] (y ∷ ys) t = absurd (let f : false ≡ true = t in cc)
same_points eq h (x ∷ xs) [] t = absurd (let f : false ≡ true = t in cc)
same_points eq h (x ∷ xs) (y ∷ ys) t =
    let p = and_parts (eq x y) (pointwise eq xs ys) t in
    ap₂ (λ z zs. z ∷ zs) (h x y p.0) (same_points eq h xs ys p.1)

pub configs_same : (xs ys : List (List ℕ)) → configs_eq xs ys ≡ true → xs ≡ ys
configs_same xs ys t = same_points (pointwise nat_eq) (same_points nat_eq eqb-true) xs ys t

module _ {m : Membership} {some : 0 < length m.configs} {own : ℕ} {before : List BallotEvent} {base : StoredGroup} (w : BallotWorld) (r : StepResult) (t : Tracks m some own before base w r) where
  -- a leader writes an entry whose token is to be told
  pub token_ends : (lead : Lead) (payload : EntryPayload) (token : ℕ) → ((x : Membership) → payload ≡ Members x → x.configs ≡ m.configs) → r.state.role ≡ Leader lead → RoleFits own w r.state.stored.vote (held r.state.stored) (Leader lead) → Ends m some own before base w (append_with_token payload token r)
  token_ends lead payload token keeps e h = go _ (track_same _ t refl refl refl refl refl) e h
    where
      go : (q : StepResult) → Tracks m some own before base w q → q.state.role ≡ Leader lead → RoleFits own w q.state.stored.vote (held q.state.stored) (Leader lead) → Ends m some own before base w (append payload q)
      go q u e h =
          record {
            world = written w own payload;
            extends = write_extends w q u h.0 payload keeps;
            tracks = write_tracks w q u h.0 payload keeps;
            role =
                subst (RoleFits own (written w own payload) q.state.stored.vote (held (append payload q).state.stored)) (sym e)
                (write_fits w q u h.0 payload keeps (Leader lead) h);
          }

  -- an outstanding request counts as failed
  pub lost_ends : (peer : ℕ) (part : Role) → r.state.role ≡ part → RoleFits own w r.state.stored.vote (held r.state.stored) part → Ends m some own before base w (lost_as peer part r)
  lost_ends peer Follower e h = record { world = w; extends = extends_refl own w; tracks = t; role = subst (RoleFits own w r.state.stored.vote (held r.state.stored)) (sym e) h }
  lost_ends peer (Candidate granters) e h = record { world = w; extends = extends_refl own w; tracks = t; role = subst (RoleFits own w r.state.stored.vote (held r.state.stored)) (sym e) h }
  lost_ends peer (Leader lead) e h =
      either_by (Ends m some own before base w) (is_some (peer_of lead peer).outstanding) _ _
      (λ b.
      let p = peer_of_fits w.replies (rank_of r.state.stored.vote.leader_id) (held r.state.stored) lead peer h.2 in
      record {
        world = w;
        extends = extends_refl own w;
        tracks = track_same (with_peer_state (ended (peer_of lead peer)) lead r) t refl refl refl refl refl;
        role = (
          h.0,
          h.1,
          λ x a.
              ⊎_elim
              (λ s. subst (PeerFits w.replies (rank_of r.state.stored.vote.leader_id) (held r.state.stored)) (sym s)
              (record { matched = λ id z. p.matched id z; outstanding = λ o id z q. absurd (let f : None ≡ Some o = z in cc) }))
              (λ c. h.2 x c)
              (with_peer_is (ended (peer_of lead peer)) lead.peers x a),
        );
      })
      (λ b. record { world = w; extends = extends_refl own w; tracks = t; role = subst (RoleFits own w r.state.stored.vote (held r.state.stored)) (sym e) h })

  -- ---- a snapshot of what is applied

  abbrev list : List Entry
  list = t.up.list

  stays : RoleFits own w r.state.stored.vote (held r.state.stored) r.state.role → Ends m some own before base w r
  stays h = record { world = w; extends = extends_refl own w; tracks = t; role = h }

  pub snapshot_next : (o : Option Snapshot) → r.state.stored.snapshot ≡ o → next_place (option_map (λ (x : Snapshot). x.last) o) ≡ length (prefix_of o)
  snapshot_next None e = refl
  snapshot_next (Some x) e = sym (t.up.fits.snapshot x e).size

  module _ (a : ℕ) (is : r.state.applied ≡ Some a) (past : length (prefix_of r.state.stored.snapshot) ≤ a) (e : Entry) (there : slice_get list a ≡ Some e) (inside : a < length list) where
    index : e.log_id.index ≡ a
    index = let p = t.up.fits.good.placed a e there in omega arith

    held_is : held r.state.stored ≡ list
    held_is = joined_held r.state.stored list t.up.joined

    abbrev shot : Snapshot
    shot = snapshot_at r.state.stored e.log_id

    front : shot.«prefix» ≡ take (a + 1) list
    front = ap₂ take (let q : e.log_id.index + 1 ≡ a + 1 = omega (arith, index) in q) held_is

    pub size : length shot.«prefix» ≡ a + 1
    size = ap length front ∙ length-take-le (a + 1) list (omega arith)

    shot_fits : SnapshotFits shot
    shot_fits =
        record {
          size = size ∙ (let q : a + 1 ≡ e.log_id.index + 1 = omega (arith, index) in q);
          last = record { entry = e; there = ap₂ slice_get front index ∙ slice_take (a + 1) list a (omega arith) ∙ there; same = refl };
          membership = refl;
        }

    new_joined : Joined (after_storing (SetSnapshot shot) r.state.stored) list
    new_joined =
        joined_snapshot r.state.stored list t.up.joined shot
        (front ∙ ap (λ k. take k list) (sym size))
        (omega (arith, size, past, (t.up.joined).low)) (omega (arith, size))

    new_up : UpFits m (w.node own) (with_stored r.state (after_storing (SetSnapshot shot) r.state.stored))
    new_up =
        let u = t.up in
        let place : place_above r.state.committed ≡ a + 1 = ap place_above (sym u.applied ∙ is) in
        record {
          list = list;
          fits = record {
            ballot = u.fits.ballot;
            committed = u.fits.committed;
            bound = u.fits.bound;
            log = u.fits.log;
            good = u.fits.good;
            snapshot = λ x q. subst SnapshotFits (same_some q) shot_fits;
            purged = u.fits.purged;
            reaches = omega (arith, size, place, u.commit);
          };
          joined = new_joined;
          commit = u.commit;
          applied = u.applied;
        }

    pub same_held : held r.state.stored ≡ held (after_storing (SetSnapshot shot) r.state.stored)
    same_held = held_is ∙ sym (joined_held (after_storing (SetSnapshot shot) r.state.stored) list new_joined)

    shot_ends : RoleFits own w r.state.stored.vote (held r.state.stored) r.state.role → Ends m some own before base w (store (SetSnapshot shot) r)
    shot_ends h =
        record {
          world = w;
          extends = extends_refl own w;
          tracks = track_store (SetSnapshot shot) t t.reached new_up t.messages (lead_same refl (sym same_held) t.lead);
          role = subst (λ l. RoleFits own w r.state.stored.vote l r.state.role) same_held h;
        }

  pub snapshot_ends : RoleFits own w r.state.stored.vote (held r.state.stored) r.state.role → (o : Option ℕ) → r.state.applied ≡ o → Ends m some own before base w (snapshot_of_applied o r)
  snapshot_ends h None e = stays h
  snapshot_ends h (Some a) e =
      either_by (Ends m some own before base w) (nat_lt a (next_place (snapshot_last r.state.stored))) _ _
      (λ b. stays h)
      (λ b.
      let low : length (prefix_of r.state.stored.snapshot) ≤ a = let l = ltb-false a (next_place (snapshot_last r.state.stored)) b in let n = snapshot_next r.state.stored.snapshot refl in omega (arith, l, n) in
      let at = joined_at r.state.stored list t.up.joined a (omega (arith, low, (t.up.joined).low)) in
      ⊎_elim
      (λ k.
      let y = some_at list a k in
      subst (λ o. Ends m some own before base w (store_snapshot_at (id_of o) r)) (sym (at ∙ y.1)) (shot_ends a e low y.0 y.1 k h))
      (λ k. subst (λ o. Ends m some own before base w (store_snapshot_at (id_of o) r)) (sym (at ∙ slice_get_past list a k)) (stays h))
      (cases_lt a (length list)))
