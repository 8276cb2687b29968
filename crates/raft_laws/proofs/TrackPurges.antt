-- A purge within the snapshot: the ballot machine stays.
use Rattle.std.specs.Prelude.{◌≡◌, ℕ, ◌<◌, ◌≤◌, List, length, slice_get, Some, refl}
use Rattle.std.proofs.Common.{sym, ap, ◌∙◌, subst, arith, ⊎_elim}
use Rattle.std.proofs.lemmas.Bool.{cases_lt}
use Rattle.raft_group_step.specs.Values.{Membership, Entry}
use Rattle.raft_group_step.specs.StoredGroup.{StoredGroup, RemoveUpTo, after_storing, id_of, first_place, prefix_of, held}
use Rattle.raft_group_step.specs.StepResult.{StepResult, store, with_stored}
use Rattle.raft_group_step.specs.Lead.{remove_up_to, purge_up_to}
use Rattle.raft_laws.specs.BallotWorld.{BallotWorld, BallotEvent}
use Rattle.raft_laws.proofs.BallotAgreement.{some_at, same_some}
use Rattle.raft_laws.proofs.BallotOthers.{extends_refl}
use Rattle.raft_laws.proofs.Shapes.{Joined, joined_held, joined_at, joined_below, joined_removed}
use Rattle.raft_laws.proofs.Standing.{HasId, UpFits, lead_same, RoleFits}
use Rattle.raft_laws.proofs.Tracking.{Tracks, track_store}
use Rattle.raft_laws.proofs.TrackElections.{Ends}

module _ {m : Membership} {some : 0 < length m.configs} {own : ℕ} {before : List BallotEvent} {base : StoredGroup} (w : BallotWorld) (r : StepResult) (t : Tracks m some own before base w r) (role : RoleFits own w r.state.stored.vote (held r.state.stored) r.state.role) where
  abbrev list : List Entry
  list = t.up.list

  -- the log goes up to an entry of the snapshot
  module _ (e : Entry) (place : ℕ) (there : slice_get list place ≡ Some e) (from : first_place r.state.stored ≤ place) (to : place < length (prefix_of r.state.stored.snapshot)) where
    index : e.log_id.index ≡ place
    index = let p = t.up.fits.good.placed place e there in omega arith

    removed : Joined (after_storing (RemoveUpTo e.log_id) r.state.stored) list
    removed = joined_removed r.state.stored list t.up.joined e.log_id (omega (arith, index, from)) (omega (arith, index, to))

    removed_up : UpFits m (w.node own) (with_stored r.state (after_storing (RemoveUpTo e.log_id) r.state.stored))
    removed_up =
        let u = t.up in
        record {
          list = list;
          fits = record {
            ballot = u.fits.ballot;
            committed = u.fits.committed;
            bound = u.fits.bound;
            log = u.fits.log;
            good = u.fits.good;
            snapshot = u.fits.snapshot;
            purged = λ id q. subst (HasId list) (same_some q) (record { entry = e; there = ap (slice_get list) index ∙ there; same = refl });
            reaches = u.fits.reaches;
          };
          joined = removed;
          commit = u.commit;
          applied = u.applied;
        }

    pub same_held : held r.state.stored ≡ held (after_storing (RemoveUpTo e.log_id) r.state.stored)
    same_held = joined_held r.state.stored list t.up.joined ∙ sym (joined_held (after_storing (RemoveUpTo e.log_id) r.state.stored) list removed)

    removed_ends : Ends m some own before base w (store (RemoveUpTo e.log_id) r)
    removed_ends =
        record {
          world = w;
          extends = extends_refl own w;
          tracks = track_store (RemoveUpTo e.log_id) t t.reached removed_up t.messages (lead_same refl (sym same_held) t.lead);
          role = subst (λ l. RoleFits own w r.state.stored.vote l r.state.role) same_held role;
        }

  -- a purge up to a place that the snapshot covers
  pub purge_ends : (place : ℕ) → place < length (prefix_of r.state.stored.snapshot) → Ends m some own before base w (purge_up_to place r)
  purge_ends place to =
      let stays : Ends m some own before base w r = record { world = w; extends = extends_refl own w; tracks = t; role = role } in
      ⊎_elim
      (λ l. subst (λ o. Ends m some own before base w (remove_up_to (id_of o) r)) (sym (joined_below r.state.stored list t.up.joined place l)) stays)
      (λ l.
      let y = some_at list place (omega (arith, to, (t.up.joined).high)) in
      subst (λ o. Ends m some own before base w (remove_up_to (id_of o) r)) (sym (joined_at r.state.stored list t.up.joined place l ∙ y.1))
      (removed_ends y.0 place y.1 l to))
      (cases_lt place (first_place r.state.stored))
