-- A whole snapshot request, with its reply.
use Rattle.std.specs.Prelude.{◌≡◌, ◌⊎◌, ℕ, ◌+◌, ◌-◌, ◌<◌, ◌≤◌, ◌^◌, min, max, Bool, true, false, List, [], length, take, Some, None, is_some, refl}
use Rattle.std.proofs.Common.{inl, inr, sym, ap, ◌∙◌, subst, arith, ⊎_elim, length-take}
use Rattle.std.proofs.lemmas.Bool.{cases_lt}
use Rattle.std.proofs.lemmas.Option.{slice_get_past}
use Rattle.raft_values.specs.declared.vote.Vote.{Vote}
use Rattle.raft_values.specs.LogId.{next_place, place_of}
use Rattle.raft_group_step.specs.Values.{Membership, vote_lt}
use Rattle.raft_group_step.specs.StoredGroup.{StoredGroup, Snapshot, CutFrom, entry_at, has_id_in_log, held, first_place}
use Rattle.raft_group_step.specs.Message.{AppendFields, HeartBeat, Success, last_sent}
use Rattle.raft_group_step.specs.GroupState.{Follower}
use Rattle.raft_group_step.specs.StepResult.{StepResult, store, take_over, apply_up_to, is_within}
use Rattle.raft_group_step.specs.AppendRequest.{above_committed, missing_entries, put_entries, lesser_place}
use Rattle.raft_group_step.specs.SnapshotRequest.{place_above, cut_other, install, install_unless, reply_snapshot, offered, snapshot_request_step}
use Rattle.raft_group_step.proofs.Words.{either_by}
use Rattle.raft_laws.specs.BallotWorld.{BallotWorld, BallotEvent, taken, dropped}
use Rattle.raft_laws.specs.BallotRanks.{rank_of, ballot_log}
use Rattle.raft_laws.proofs.BallotAgreement.{same_some, some_at, with_value_same}
use Rattle.raft_laws.proofs.BallotSafe.{Among}
use Rattle.raft_laws.proofs.BallotOthers.{Extends, extends_refl, extends_trans}
use Rattle.raft_laws.proofs.BallotAppends.{drop_past}
use Rattle.raft_laws.proofs.Shapes.{joined_held, joined_at}
use Rattle.raft_laws.proofs.FreshEntries.{within_is, without_is, above_is}
use Rattle.raft_laws.proofs.Ids.{size_same}
use Rattle.raft_laws.proofs.Standing.{RoleFits, AppendFits, InstallFits, append-of, reply-of}
use Rattle.raft_laws.proofs.Tracking.{Tracks, track_on, track_send}
use Rattle.raft_laws.proofs.TrackVotes.{took_over}
use Rattle.raft_laws.proofs.TrackElections.{Ends, ends_from}
use Rattle.raft_laws.proofs.TrackAppends.{take_tracks, take_extends, later_is, last_sent_next}
use Rattle.raft_laws.proofs.TrackAppendRequest.{follows_ends}
use Rattle.raft_laws.proofs.TrackInstalls.{drop_tracks, install_tracks, install_extends}

pub install_on : {m : Membership} {n : ℕ} {w w' : BallotWorld} {v : Vote ℕ} {x : Snapshot} → Extends n w w' → InstallFits m w v x → InstallFits m w' v x
install_on e h = record { bound = h.bound; good = h.good; snapshot = h.snapshot; sent = e.appends _ h.sent }

-- the same as an append request of the whole list
abbrev as_append : Vote ℕ → Snapshot → AppendFields
as_append v x = record { vote = v; id = HeartBeat; previous = None; committed = Some x.last; entries = x.«prefix» }

append_fits : {m : Membership} {w : BallotWorld} {v : Vote ℕ} {x : Snapshot} → InstallFits m w v x → AppendFits m w (as_append v x)
append_fits {m} {w} {v} {x} h =
    record {
      bound = h.bound;
      good = h.good;
      previous = λ id e. absurd (let f : None ≡ Some id = e in cc);
      sent = subst (λ k. Among (append-of (rank_of v.leader_id) 0 0 (ballot_log x.«prefix») k) w.appends) h.snapshot.size h.sent;
    }

module _ {m : Membership} {some : 0 < length m.configs} {own : ℕ} {before : List BallotEvent} {base : StoredGroup} (small : own < 2 ^ 64) where
  module _ (peer id : ℕ) (w : BallotWorld) (r : StepResult) (t : Tracks m some own before base w r) (v : Vote ℕ) (x : Snapshot) (fits : InstallFits m w v x) (other : v.leader_id.node_id ≡ own → ⊥) (under : r.state.stored.vote ≡ v) (led : v.committed ≡ true) (follows : r.state.role ≡ Follower) where
    -- a step after which all of the snapshot is accepted
    record Accepted (q : StepResult) : Type 0 where
      world : BallotWorld
      extends : Extends own w world
      tracks : Tracks m some own before base world q
      role : q.state.role ≡ Follower
      reply : Among (reply-of (rank_of v.leader_id) own (x.last.index + 1)) world.replies

    upto_is : 0 + length (ballot_log x.«prefix») ≡ x.last.index + 1
    upto_is = omega (arith, size_same x.«prefix», fits.snapshot.size)

    -- all of it is committed already
    old_one : is_within x.last.index r.state.committed ≡ true → Accepted r
    old_one within =
        let a = as_append v x in
        let l = within_is r.state.committed x.last.index within in
        let size = fits.snapshot.size in
        let take = take_tracks small w r t a (append_fits fits) other under led refl in
        let above = above_is m r.state.committed 0 x.«prefix» fits.good ∙ drop_past (place_above r.state.committed - 0) x.«prefix» (omega (arith, size, l)) in
        let fresh : missing_entries r.state.stored (above_committed r.state.committed x.«prefix») ≡ [] = ap (missing_entries r.state.stored) above in
        let upto = lesser_place (place_of a.committed) (place_of (last_sent a.previous a.entries)) in
        let none = subst (λ f. Tracks m some own before base (taken w own (append-of (rank_of v.leader_id) 0 0 (ballot_log x.«prefix») (x.last.index + 1))) (apply_up_to upto (put_entries f r))) fresh take.0 in
        let u = none.up in
        let place = later_is r.state.committed (Some x.last) (last_sent None x.«prefix») in
        let last = last_sent_next m None x.«prefix» fits.good in
        record {
          world = taken w own (append-of (rank_of v.leader_id) 0 0 (ballot_log x.«prefix») (x.last.index + 1));
          extends = take_extends small w r t a (append_fits fits) other under led refl;
          tracks =
              track_on r t refl refl none.reached
              (record {
                list = u.list;
                fits = u.fits;
                joined = record { front = u.joined.front; log = u.joined.log; low = u.joined.low; high = u.joined.high };
                commit = u.commit ∙ place ∙ (let e : max (place_above r.state.committed) (min (x.last.index + 1) (next_place (last_sent None x.«prefix»))) ≡ place_above r.state.committed = omega (arith, last, size, l) in e);
                applied = t.up.applied;
              })
              none.messages;
          role = follows;
          reply = inl (ap (reply-of (rank_of v.leader_id) own) (sym upto_is));
        }

    -- the snapshot is stored
    module _ (new : is_within x.last.index r.state.committed ≡ false) where
      past : place_above r.state.committed ≤ x.last.index
      past = without_is r.state.committed x.last.index new

      front_low : first_place r.state.stored ≤ place_above r.state.committed
      front_low = omega (arith, t.up.fits.reaches, t.up.commit, (t.up.joined).low)

      -- in each case the log goes on from the snapshot, or ends below its last place
      record Cleared (q : StepResult) : Type 0 where
        world : BallotWorld
        extends : Extends own w world
        tracks : Tracks m some own before base world q
        vote : q.state.stored.vote ≡ v
        committed : q.state.committed ≡ r.state.committed
        role : q.state.role ≡ Follower
        which : (has_id_in_log q.state.stored x.last ≡ true) ⊎ (length tracks.up.list ≤ x.last.index)

      same_clear : (has_id_in_log r.state.stored x.last ≡ true) ⊎ (length t.up.list ≤ x.last.index) → Cleared r
      same_clear h = record { world = w; extends = extends_refl own w; tracks = t; vote = under; committed = refl; role = follows; which = h }

      none_at : (i : ℕ) → first_place r.state.stored ≤ i → is_some (entry_at r.state.stored i) ≡ false → length t.up.list ≤ i
      none_at i l h =
          ⊎_elim
          (λ k.
          let y = some_at t.up.list i k in
          absurd (let e : false ≡ true = sym h ∙ ap is_some (joined_at r.state.stored t.up.list t.up.joined i l ∙ y.1) in cc))
          (λ k. k)
          (cases_lt i (length t.up.list))

      some_at_is : (i : ℕ) → first_place r.state.stored ≤ i → is_some (entry_at r.state.stored i) ≡ true → i < length t.up.list
      some_at_is i l h =
          ⊎_elim
          (λ k. k)
          (λ k. absurd (let e : true ≡ false = sym h ∙ ap is_some (joined_at r.state.stored t.up.list t.up.joined i l ∙ slice_get_past t.up.list i k) in cc))
          (cases_lt i (length t.up.list))

      cleared : Cleared (cut_other x.last r)
      cleared =
          either_by Cleared (has_id_in_log r.state.stored x.last) _ _
          (λ h. same_clear (inl h))
          (λ h.
          either_by Cleared (is_some (entry_at r.state.stored x.last.index)) _ _
          (λ k.
          either_by Cleared (is_some (entry_at r.state.stored (place_above r.state.committed))) _ _
          (λ j.
          let d = drop_tracks small w r t v x fits other under led past h (some_at_is x.last.index (omega (arith, past, front_low)) k) in
          record {
            world = dropped w own (append-of (rank_of v.leader_id) 0 0 (ballot_log x.«prefix») (length x.«prefix»));
            extends = d.1;
            tracks = d.0;
            vote = under;
            committed = refl;
            role = follows;
            which = inr (shortened d.0);
          })
          (λ j. same_clear (inr (let l = none_at (place_above r.state.committed) front_low j in omega (arith, l, past)))))
          (λ k. same_clear (inr (none_at x.last.index (omega (arith, past, front_low)) k))))
        where
          shortened : (q : Tracks m some own before base (dropped w own (append-of (rank_of v.leader_id) 0 0 (ballot_log x.«prefix») (length x.«prefix»))) (store (CutFrom (place_above r.state.committed)) r)) → length q.up.list ≤ x.last.index
          shortened q =
              let log = q.up.fits.log in
              let node = with_value_same w.node own (record (w.node own) { ballot = rank_of v.leader_id; committed = true; log = take (w.node own).commit (w.node own).log }) in
              let same : take (w.node own).commit (w.node own).log ≡ ballot_log q.up.list = sym (ap (λ z. z.log) node) ∙ log in
              let size = ap length same in
              let most = length-take (w.node own).commit (w.node own).log in
              omega (arith, size, most, size_same q.up.list, t.up.commit, past)

      new_one : Accepted (install x r)
      new_one =
          let c = cleared in
          let f = install_on c.extends fits in
          record {
            world = taken c.world own (append-of (rank_of v.leader_id) 0 0 (ballot_log x.«prefix») (length x.«prefix»));
            extends = extends_trans c.extends (install_extends small c.world (cut_other x.last r) c.tracks v x f other c.vote led (omega (arith, ap place_above c.committed, past)));
            tracks = install_tracks small c.world (cut_other x.last r) c.tracks v x f other c.vote led (omega (arith, ap place_above c.committed, past)) c.which;
            role = c.role;
            reply = inl (ap (reply-of (rank_of v.leader_id) own) (sym upto_is));
          }

    accepted_or : (b : Bool) → is_within x.last.index r.state.committed ≡ b → Accepted (install_unless b x r)
    accepted_or true h = old_one h
    accepted_or false h = new_one h

    installed_ends : Ends m some own before base w (reply_snapshot own peer v id x Success (install_unless (is_within x.last.index r.state.committed) x r))
    installed_ends =
        let a = accepted_or (is_within x.last.index r.state.committed) refl in
        follows_ends _ a.world a.extends
        (track_send peer _ a.tracks
        (fits.bound, λ i e. subst (λ k. Among (reply-of (rank_of v.leader_id) own (k.index + 1)) (a.world).replies) (same_some e) a.reply))
        a.role

  module _ (peer id : ℕ) (w : BallotWorld) (r : StepResult) (t : Tracks m some own before base w r) (role : RoleFits own w r.state.stored.vote (held r.state.stored) r.state.role) (v : Vote ℕ) (x : Snapshot) (fits : InstallFits m w v x) (other : v.leader_id.node_id ≡ own → ⊥) (led : v.committed ≡ true) where
    offered_ends : (b : Bool) → vote_lt v r.state.stored.vote ≡ b → Ends m some own before base w (offered own peer v id x b r)
    offered_ends true h =
        record {
          world = w;
          extends = extends_refl own w;
          tracks = track_send peer _ t (fits.bound, t.up.fits.bound);
          role = role;
        }
    offered_ends false h =
        let listed = subst (λ l. RoleFits own w r.state.stored.vote l r.state.role) (joined_held r.state.stored t.up.list t.up.joined) role in
        let took = took_over m some own small before base w r t v fits.bound other listed h in
        ends_from took.extends
        (installed_ends peer id took.world (take_over v r) took.tracks v x (install_on took.extends fits) other took.vote led took.role)

    pub snapshot_request_ends : Ends m some own before base w (snapshot_request_step own peer v id x r)
    snapshot_request_ends = offered_ends (vote_lt v r.state.stored.vote) refl
