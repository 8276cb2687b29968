-- An opening, followed by the ballot machine: what the snapshot has is committed, and nothing else.
use Rattle.std.specs.Prelude.{◌≡◌, ◌⊎◌, ℕ, zero, suc, ◌+◌, ◌-◌, ◌<◌, ◌≤◌, ◌==◌, ◌&&◌, nat_lt, min, true, false, List, [], ◌∷◌, ◌++◌, length, take, slice_get, Option, Some, None, option_map, refl}
use Rattle.std.proofs.Common.{inl, sym, ap, ◌∙◌, subst, arith, ⊎_elim, eq-eqb, eqb-true, lt-ltb, ltb-true, le-ltb, take_all}
use Rattle.std.proofs.lemmas.Bool.{and_from, and_parts, or_cases, or_left, or_right, cases_lt, cond-false}
use Rattle.std.proofs.lemmas.Option.{slice_get_past}
use Rattle.raft_values.specs.declared.log_id.LogId.{LogId}
use Rattle.raft_values.specs.LogId.{place_of}
use Rattle.raft_group_step.specs.Values.{Membership, Entry, log_id_eq, leader_eq}
use Rattle.raft_group_step.specs.StoredGroup.{StoredGroup, Snapshot, StartAfter, after_storing, after_storing_all, entry_at, id_of, first_place, end_place, has_id_in_log, is_id, snapshot_last, prefix_of, held}
use Rattle.raft_group_step.specs.GroupState.{Follower, Leader, state_of}
use Rattle.raft_group_step.specs.StepResult.{StepResult, unchanged, store, in_role, apply_up_to, later_place}
use Rattle.raft_group_step.specs.SnapshotRequest.{place_above}
use Rattle.raft_group_step.specs.Lead.{new_lead}
use Rattle.raft_group_step.specs.Opening.{is_joined_to, drop_stale_log, resume_lead, opening_step}
use Rattle.raft_group_step.proofs.Words.{either, either_by}
use Rattle.raft_laws.specs.BallotWorld.{BallotNode, BallotWorld, BallotEvent, ForgetCommitted, forgotten}
use Rattle.raft_laws.proofs.BallotAgreement.{same_some, with_value_same}
use Rattle.raft_laws.proofs.BallotAppends.{drop_past}
use Rattle.raft_laws.proofs.BallotSafe.{Among}
use Rattle.raft_laws.proofs.BallotOthers.{Extends}
use Rattle.raft_laws.proofs.VoteRanks.{leader_eq_from}
use Rattle.raft_laws.proofs.Shapes.{Joined, Stale, joined_held, joined_at, slice_take}
use Rattle.raft_laws.proofs.Standing.{HasId, SnapshotFits, StoredFits, DownFits, UpFits, LeadKept, lead_same, RoleFits, OwnVote}
use Rattle.raft_laws.proofs.Tracking.{Reached, MayStop, Tracks, reached_next, step_extends, stops_store, track_same}
use Rattle.raft_laws.proofs.TrackElections.{Ends}
use Rattle.raft_laws.proofs.StepFits.{world_after}
use Rattle.raft_laws.proofs.StepWishes.{Wished, no_wish}

no_commands : (k : ℕ) (base : StoredGroup) → after_storing_all (take k []) base ≡ base
no_commands zero base = refl
no_commands (suc k) base = refl

-- nothing has happened yet
pub nothing_yet : {m : Membership} {some : 0 < length m.configs} {own : ℕ} {before : List BallotEvent} {base : StoredGroup} → Reached m some own before base (world_after m before)
nothing_yet = record { events = []; by = tt; is = refl }

pub not_yet : {m : Membership} {some : 0 < length m.configs} {own : ℕ} {before : List BallotEvent} {base : StoredGroup} → DownFits m ((world_after m before).node own) base → LeadKept own base → (k : ℕ) → MayStop m some own before base (after_storing_all (take k []) base)
not_yet {m} {some} {own} {before} {base} down lead k =
    subst (MayStop m some own before base) (sym (no_commands k base))
    (record { world = world_after m before; reached = nothing_yet; fits = down; lead = lead })

same_log_id : (id other : LogId ℕ) → other ≡ id → log_id_eq other id ≡ true
same_log_id id other e =
    and_from (leader_eq other.leader_id id.leader_id) (other.index == id.index)
    (leader_eq_from other.leader_id id.leader_id (ap (λ x. x.leader_id) e))
    (eq-eqb other.index id.index (ap (λ x. x.index) e))

append_none : (xs : List Entry) → xs ++ [] ≡ xs
append_none [] = refl
append_none (x ∷ xs) = ap (λ l. x ∷ l) (append_none xs)

-- a stale log adds nothing to the snapshot
pub stale_held : (st : StoredGroup) (xs : List Entry) → Stale st xs → held st ≡ xs
stale_held st xs s =
    let size = ap length s.front in
    ap (λ l. prefix_of st.snapshot ++ l) (drop_past (length (prefix_of st.snapshot) - first_place st) st.log (omega (arith, size, s.short)))
    ∙ append_none (prefix_of st.snapshot)
    ∙ s.front

entry_past : (st : StoredGroup) (i : ℕ) → end_place st ≤ i → entry_at st i ≡ None
entry_past st i l =
    cond-false (nat_lt i (first_place st)) _ _ (le-ltb i (first_place st) (omega arith))
    ∙ slice_get_past st.log (i - first_place st) (omega arith)

-- a stale log neither has the snapshot's last entry nor has purged it
stale_apart : (st : StoredGroup) (xs : List Entry) (x : Snapshot) → st.snapshot ≡ Some x → SnapshotFits x → Stale st xs → is_joined_to st x.last ≡ true → ⊥
stale_apart st xs x is fits s h =
    let size : length xs ≡ x.last.index + 1 = ap length (sym s.front) ∙ ap (λ o. length (prefix_of o)) is ∙ fits.size in
    ⊎_elim
    (λ l. let k = ltb-true x.last.index (first_place st) l in omega (arith, k, size, s.short))
    (λ l.
    let e : true ≡ false = sym l ∙ ap (λ o. is_id x.last (id_of o)) (entry_past st x.last.index (omega (arith, size, s.short))) in
    cc)
    (or_cases (nat_lt x.last.index (first_place st)) (has_id_in_log st x.last) h)

-- a joined log has it or has purged it
joined_to : (st : StoredGroup) (xs : List Entry) (x : Snapshot) → st.snapshot ≡ Some x → SnapshotFits x → Joined st xs → is_joined_to st x.last ≡ true
joined_to st xs x is fits j =
    ⊎_elim
    (λ l. or_left (nat_lt x.last.index (first_place st)) _ (lt-ltb x.last.index (first_place st) l))
    (λ l.
    let prefix : prefix_of st.snapshot ≡ x.«prefix» = ap prefix_of is in
    let size : length (prefix_of st.snapshot) ≡ x.last.index + 1 = ap length prefix ∙ fits.size in
    let last = fits.last in
    let here : slice_get xs x.last.index ≡ Some last.entry =
    sym (slice_take (length (prefix_of st.snapshot)) xs x.last.index (omega (arith, size)))
    ∙ ap (λ l. slice_get l x.last.index) (sym j.front ∙ prefix)
    ∙ last.there
    in
    or_right (nat_lt x.last.index (first_place st)) (has_id_in_log st x.last)
    (ap (λ o. is_id x.last (id_of o)) (joined_at st xs j x.last.index l ∙ here) ∙ same_log_id x.last (last.entry).log_id last.same))
    (cases_lt x.last.index (first_place st))

module _ (m : Membership) (some : 0 < length m.configs) (own : ℕ) (before : List BallotEvent) (st : StoredGroup) (down : DownFits m ((world_after m before).node own) st) (keeps : LeadKept own st) where
  abbrev w : BallotWorld
  w = world_after m before

  -- the ballot machine knows as much to be committed as the snapshot has
  abbrev known : ℕ
  known = length (prefix_of st.snapshot)

  abbrev opened : BallotWorld
  opened = forgotten w own known

  opened_reached : Reached m some own before st opened
  opened_reached = reached_next (ForgetCommitted own known) refl opened refl nothing_yet

  abbrev node : BallotNode
  node = record (w.node own) { commit = min known (w.node own).commit }

  commit_is : node.commit ≡ known
  commit_is = let r = down.fits.reaches in omega arith

  fits_on : StoredFits m node st down.list
  fits_on =
      let f = down.fits in
      record {
        ballot = f.ballot;
        committed = f.committed;
        bound = f.bound;
        log = f.log;
        good = f.good;
        snapshot = f.snapshot;
        purged = f.purged;
        reaches = omega (arith, commit_is);
      }

  -- the log is joined to the snapshot, and all that the snapshot has is committed
  record Cleaned (q : StepResult) : Type 0 where
    stops : (k : ℕ) → MayStop m some own before st (after_storing_all (take k q.commands) st)
    stored : q.state.stored ≡ after_storing_all q.commands st
    fits : StoredFits m node q.state.stored down.list
    joined : Joined q.state.stored down.list
    lead : LeadKept own q.state.stored
    snapshot : q.state.stored.snapshot ≡ st.snapshot
    committed : q.state.committed ≡ None
    messages : q.messages ≡ []
    role : q.state.role ≡ Follower
    wish : q.state.wish ≡ None

  abbrev r0 : StepResult
  r0 = unchanged (state_of st)

  kept : Joined st down.list → Cleaned r0
  kept j =
      record {
        stops = not_yet down keeps;
        stored = refl;
        fits = fits_on;
        joined = j;
        lead = keeps;
        snapshot = refl;
        committed = refl;
        messages = refl;
        role = refl;
        wish = refl;
      }

  module _ (x : Snapshot) (is : st.snapshot ≡ Some x) (stale : Stale st down.list) where
    abbrev fresh : StoredGroup
    fresh = after_storing (StartAfter x.last) st

    fresh_size : length (prefix_of st.snapshot) ≡ x.last.index + 1
    fresh_size = ap (λ o. length (prefix_of o)) is ∙ (down.fits.snapshot x is).size

    fresh_fits : StoredFits m node fresh down.list
    fresh_fits =
        let f = fits_on in
        record {
          ballot = f.ballot;
          committed = f.committed;
          bound = f.bound;
          log = f.log;
          good = f.good;
          snapshot = f.snapshot;
          purged = λ id e. subst (HasId down.list) (same_some e) (subst (λ l. HasId l x.last) (sym (ap prefix_of is) ∙ stale.front) (f.snapshot x is).last);
          reaches = f.reaches;
        }

    fresh_joined : Joined fresh down.list
    fresh_joined =
        let size = ap length stale.front in
        record {
          front = stale.front ∙ sym (take_all (length (prefix_of st.snapshot)) down.list (omega (arith, size)));
          log = sym (drop_past (x.last.index + 1) down.list (omega (arith, size, fresh_size)));
          low = omega (arith, fresh_size);
          high = omega (arith, size);
        }

    fresh_lead : LeadKept own fresh
    fresh_lead = lead_same refl (joined_held fresh down.list fresh_joined ∙ sym (stale_held st down.list stale)) keeps

    dropped : Cleaned (store (StartAfter x.last) r0)
    dropped =
        record {
          stops =
              stops_store r0 (StartAfter x.last) refl (not_yet down keeps)
              (record {
                world = opened;
                reached = opened_reached;
                fits =
                    subst (λ y. DownFits m y fresh) (sym (with_value_same w.node own _))
                    (record { list = down.list; fits = fresh_fits; shape = inl fresh_joined });
                lead = fresh_lead;
              });
          stored = refl;
          fits = fresh_fits;
          joined = fresh_joined;
          lead = fresh_lead;
          snapshot = refl;
          committed = refl;
          messages = refl;
          role = refl;
          wish = refl;
        }

  cleaned_as : (o : Option Snapshot) → st.snapshot ≡ o → Joined st down.list ⊎ Stale st down.list → Cleaned (drop_stale_log (option_map (λ (x : Snapshot). x.last) o) r0)
  cleaned_as None is shape =
      ⊎_elim
      (λ j. kept j)
      (λ s. absurd (let size = ap length s.front in let none = ap (λ o. length (prefix_of o)) is in omega (arith, size, none, s.short)))
      shape
  cleaned_as (Some x) is shape =
      either_by Cleaned (is_joined_to st x.last) _ _
      (λ h. ⊎_elim (λ j. kept j) (λ s. absurd (stale_apart st down.list x is (down.fits.snapshot x is) s h)) shape)
      (λ h.
      ⊎_elim
      (λ j. absurd (let e : true ≡ false = sym (joined_to st down.list x is (down.fits.snapshot x is) j) ∙ h in cc))
      (λ s. dropped x is s)
      shape)

  place_is : (o : Option Snapshot) → ((x : Snapshot) → o ≡ Some x → SnapshotFits x) → (c : Option ℕ) → c ≡ None → place_above (later_place c (place_of (option_map (λ (x : Snapshot). x.last) o))) ≡ length (prefix_of o)
  place_is None f None e = refl
  place_is (Some x) f None e = sym (f x refl).size
  place_is None f (Some c) e = absurd (let g : None ≡ Some c = sym e in cc)
  place_is (Some x) f (Some c) e = absurd (let g : None ≡ Some c = sym e in cc)

  abbrev placed : StepResult → StepResult
  placed q = apply_up_to (place_of (snapshot_last st)) q

  placed_tracks : (q : StepResult) → Cleaned q → Tracks m some own before st opened (placed q)
  placed_tracks q c =
      let up : UpFits m node (placed q).state =
      record {
        list = down.list;
        fits = c.fits;
        joined = c.joined;
        commit = commit_is ∙ sym (place_is st.snapshot down.fits.snapshot q.state.committed c.committed);
        applied = refl;
      }
      in
      record {
        reached = opened_reached;
        stops = c.stops;
        stored = c.stored;
        up = subst (λ y. UpFits m y (placed q).state) (sym (with_value_same w.node own _)) up;
        lead = c.lead;
        messages = λ x a. absurd (subst (Among x) c.messages a);
      }

  -- the node leads on under a committed vote of its own
  resumed : (q : StepResult) → Cleaned q → Ends m some own before st w (resume_lead own (placed q))
  resumed q c =
      let t = placed_tracks q c in
      let on : Extends own w opened = step_extends m own w (ForgetCommitted own known) refl opened refl in
      let vote = q.state.stored.vote in
      either_by (Ends m some own before st w) (vote.committed && vote.leader_id.node_id == own) _ _
      (λ h.
      let both = and_parts vote.committed (vote.leader_id.node_id == own) h in
      let node_is = eqb-true vote.leader_id.node_id own both.1 in
      let mine : OwnVote own vote true = record { flag = both.0; node = node_is; term = c.lead.term both.0 node_is } in
      record {
        world = opened;
        extends = on;
        tracks = track_same (in_role (Leader (new_lead q.state.stored)) (placed q)) t refl refl refl refl refl;
        role = (mine, c.lead.has both.0 node_is, λ p a. absurd a);
      })
      (λ h.
      record {
        world = opened;
        extends = on;
        tracks = t;
        role = subst (RoleFits own opened vote (held q.state.stored)) (sym c.role) tt;
      })

  resumed_wish : (q : StepResult) → Cleaned q → (resume_lead own (placed q)).state.wish ≡ None
  resumed_wish q c = either (λ x. x.state.wish ≡ None) _ _ _ c.wish c.wish

  cleaned : Cleaned (drop_stale_log (snapshot_last st) r0)
  cleaned = cleaned_as st.snapshot refl down.shape

  -- what the opening goes on from
  pub opened_up : UpFits m (opened.node own) (placed (drop_stale_log (snapshot_last st) r0)).state
  opened_up = (placed_tracks (drop_stale_log (snapshot_last st) r0) cleaned).up

  pub opening_ends : Ends m some own before st w (opening_step own st)
  opening_ends = resumed _ cleaned

  pub opening_wish : Wished (opening_step own st)
  opening_wish = no_wish (opening_step own st) (resumed_wish _ cleaned)
