-- A whole append request, with its reply.
use Rattle.std.specs.Prelude.{◌≡◌, ℕ, ◌+◌, ◌<◌, ◌^◌, Bool, true, false, List, length, Option, Some, None, is_some, refl}
use Rattle.std.proofs.Common.{inl, sym, ap, ◌∙◌, subst}
use Rattle.raft_values.specs.declared.log_id.LogId.{LogId}
use Rattle.raft_values.specs.LogId.{next_place, place_of}
use Rattle.raft_group_step.specs.Values.{Membership, vote_lt}
use Rattle.raft_group_step.specs.StoredGroup.{StoredGroup, CutFrom, entry_at, held}
use Rattle.raft_group_step.specs.Message.{AppendFields, Conflict, last_sent}
use Rattle.raft_group_step.specs.GroupState.{Follower}
use Rattle.raft_group_step.specs.StepResult.{StepResult, store, take_over}
use Rattle.raft_group_step.specs.AppendRequest.{is_held, cut_from, cut_at, above_committed, missing_entries, lesser_place, reply_append, joined, heard, append_request_step}
use Rattle.raft_group_step.proofs.Words.{either_by}
use Rattle.raft_laws.specs.BallotWorld.{BallotWorld, BallotEvent, taken, cut_before}
use Rattle.raft_laws.specs.BallotRanks.{rank_of, ballot_log}
use Rattle.raft_laws.proofs.BallotOthers.{Extends, extends_refl}
use Rattle.raft_laws.proofs.Shapes.{joined_held}
use Rattle.raft_laws.proofs.Ids.{size_same}
use Rattle.raft_laws.proofs.Standing.{RoleFits, AppendFits, append-of, reply-of, id_rank}
use Rattle.raft_laws.proofs.Tracking.{Tracks, track_send}
use Rattle.raft_laws.proofs.TrackVotes.{took_over}
use Rattle.raft_laws.proofs.TrackElections.{Ends, ends_from}
use Rattle.raft_laws.proofs.TrackAppends.{conflict_tracks, take_tracks, take_extends, last_sent_next}

pub append_on : {m : Membership} {n : ℕ} {w w' : BallotWorld} {a : AppendFields} → Extends n w w' → AppendFits m w a → AppendFits m w' a
append_on e h = record { bound = h.bound; good = h.good; previous = h.previous; sent = e.appends _ h.sent }

module _ {m : Membership} {some : 0 < length m.configs} {own : ℕ} {before : List BallotEvent} {base : StoredGroup} where
  -- a follower's role fits whatever it has stored
  pub follows_ends : {w : BallotWorld} (q : StepResult) (world : BallotWorld) → Extends own w world → Tracks m some own before base world q → q.state.role ≡ Follower → Ends m some own before base w q
  follows_ends q world extends tracks e =
      record {
        world = world;
        extends = extends;
        tracks = tracks;
        role = subst (RoleFits own world q.state.stored.vote (held q.state.stored)) (sym e) tt;
      }

module _ {m : Membership} {some : 0 < length m.configs} {own : ℕ} {before : List BallotEvent} {base : StoredGroup} (small : own < 2 ^ 64) where
  -- the rest of the step, under the request's vote
  module _ (peer : ℕ) (w : BallotWorld) (r : StepResult) (t : Tracks m some own before base w r) (a : AppendFields) (fits : AppendFits m w a) (other : a.vote.leader_id.node_id ≡ own → ⊥) (under : r.state.stored.vote ≡ a.vote) (led : a.vote.committed ≡ true) (follows : r.state.role ≡ Follower) where
    taken_ends : is_held r.state.stored r.state.committed a.previous ≡ true → Ends m some own before base w (joined own peer a true r)
    taken_ends kept =
        let take = take_tracks small w r t a fits other under led kept in
        let fresh = missing_entries r.state.stored (above_committed r.state.committed a.entries) in
        let upto = lesser_place (place_of a.committed) (place_of (last_sent a.previous a.entries)) in
        let last = last_sent_next m a.previous a.entries fits.good in
        follows_ends (joined own peer a true r)
        (taken w own (append-of (rank_of a.vote.leader_id) (next_place a.previous) (id_rank a.previous) (ballot_log a.entries) (next_place a.committed)))
        (take_extends small w r t a fits other under led kept)
        (track_send peer _ take.0 (
          fits.bound,
          λ id e.
              let place : id.index + 1 ≡ next_place a.previous + length (ballot_log a.entries) = sym (ap next_place e) ∙ last ∙ ap (λ k. next_place a.previous + k) (sym (size_same a.entries)) in
              inl (ap (reply-of (rank_of a.vote.leader_id) own) place),
        ))
        (take.1 ∙ follows)

    differs_ends : is_held r.state.stored r.state.committed a.previous ≡ false → Ends m some own before base w (joined own peer a false r)
    differs_ends unkept = go a.previous refl unkept
      where
        reply : (q : StepResult) → Ends m some own before base w q → Ends m some own before base w (reply_append own peer a Conflict q)
        reply q e = record { world = e.world; extends = e.extends; tracks = track_send peer _ e.tracks (fits.bound, tt); role = e.role }

        stays : Ends m some own before base w r
        stays = follows_ends r w (extends_refl own w) t follows

        go : (o : Option (LogId ℕ)) → a.previous ≡ o → is_held r.state.stored r.state.committed o ≡ false → Ends m some own before base w (reply_append own peer a Conflict (cut_at o r))
        go None e f = reply r stays
        go (Some id) e f =
            reply (cut_from id.index r)
            (either_by (Ends m some own before base w) (is_some (entry_at r.state.stored id.index)) _ _
            (λ there.
            let c = conflict_tracks small w r t a fits other under led id e f there in
            follows_ends (store (CutFrom id.index) r)
            (cut_before w own (append-of (rank_of a.vote.leader_id) (next_place a.previous) (id_rank a.previous) (ballot_log a.entries) (next_place a.committed)))
            c.1 c.0 follows)
            (λ none. stays))

    joined_ends : (b : Bool) → is_held r.state.stored r.state.committed a.previous ≡ b → Ends m some own before base w (joined own peer a b r)
    joined_ends true h = taken_ends h
    joined_ends false h = differs_ends h

  -- the whole step
  module _ (peer : ℕ) (w : BallotWorld) (r : StepResult) (t : Tracks m some own before base w r) (role : RoleFits own w r.state.stored.vote (held r.state.stored) r.state.role) (a : AppendFields) (fits : AppendFits m w a) (other : a.vote.leader_id.node_id ≡ own → ⊥) (led : a.vote.committed ≡ true) where
    heard_ends : (b : Bool) → vote_lt a.vote r.state.stored.vote ≡ b → Ends m some own before base w (heard own peer a b r)
    heard_ends true h =
        record {
          world = w;
          extends = extends_refl own w;
          tracks = track_send peer _ t (fits.bound, t.up.fits.bound);
          role = role;
        }
    heard_ends false h =
        let listed = subst (λ l. RoleFits own w r.state.stored.vote l r.state.role) (joined_held r.state.stored t.up.list t.up.joined) role in
        let took = took_over m some own small before base w r t a.vote fits.bound other listed h in
        ends_from took.extends
        (joined_ends peer took.world (take_over a.vote r) took.tracks a (append_on took.extends fits) other took.vote led took.role
        (is_held (take_over a.vote r).state.stored (take_over a.vote r).state.committed a.previous) refl)

    pub append_request_ends : Ends m some own before base w (append_request_step own peer a r)
    append_request_ends = heard_ends (vote_lt a.vote r.state.stored.vote) refl
