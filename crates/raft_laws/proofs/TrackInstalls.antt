-- A snapshot that is installed, followed by the ballot machine.
use Rattle.std.specs.Prelude.{◌≡◌, ◌⊎◌, ℕ, suc, ◌+◌, ◌-◌, ◌<◌, ◌≤◌, ◌^◌, ◌==◌, not, min, max, nat_le, true, false, List, [], ◌∷◌, ◌++◌, length, take, drop, slice_get, Option, Some, None, refl}
use Rattle.std.proofs.Common.{inl, inr, sym, ap, ap₂, ◌∙◌, subst, arith, ⊎_elim, ne_eqb, le-leb, take_all}
use Rattle.std.proofs.lemmas.Bool.{and_from, not_from_false, cond-true}
use Rattle.std.proofs.lemmas.List.{take-map}
use Rattle.std.proofs.Math.Seq.{take-append_seam}
use Rattle.std.proofs.lemmas.Option.{slice_get_within}
use Rattle.raft_values.specs.declared.log_id.LogId.{LogId}
use Rattle.raft_values.specs.declared.vote.Vote.{Vote}
use Rattle.raft_values.specs.declared.vote.LeaderId.{LeaderId}
use Rattle.raft_group_step.specs.Values.{Membership, Entry, EntryPayload}
use Rattle.raft_group_step.specs.StoredGroup.{StoredGroup, Snapshot, CutFrom, SetSnapshot, RemoveUpTo, after_storing, first_place, prefix_of, has_id_in_log}
use Rattle.raft_group_step.specs.StepResult.{StepResult, store, apply_up_to, later_place, with_stored}
use Rattle.raft_group_step.specs.SnapshotRequest.{place_above}
use Rattle.raft_laws.specs.BallotLists.{AgreeBelow}
use Rattle.raft_laws.specs.BallotLogs.{BallotEntry, ballot_of, ballot_before, last_ballot, holds_before, put_over}
use Rattle.raft_laws.specs.BallotWorld.{BallotNode, BallotAppend, BallotWorld, BallotEvent, TakeEntries, CutForSnapshot, can_raise, taken, dropped, append_comes, drop_comes, ballot_step}
use Rattle.raft_laws.specs.BallotRanks.{rank_of, owner_of, ballot_entry, ballot_log, ballot_group}
use Rattle.raft_laws.proofs.BallotAgreement.{with_value_same, some_at, same_some}
use Rattle.raft_laws.proofs.BallotMerging.{Matching}
use Rattle.raft_laws.proofs.BallotFacts.{matching}
use Rattle.raft_laws.proofs.BallotSafe.{Safe}
use Rattle.raft_laws.proofs.BallotOthers.{Extends}
use Rattle.raft_laws.proofs.BallotAppends.{drop_past, commit_front}
use Rattle.raft_laws.proofs.BallotInstalls.{short_holds, put_same, put_other}
use Rattle.raft_laws.proofs.VoteRanks.{owner_other, rank_leader}
use Rattle.raft_laws.proofs.Shapes.{Good, Joined, good_take, good_drop, joined_end, joined_cut, joined_snapshot, joined_removed, slice_taken}
use Rattle.raft_laws.proofs.FreshEntries.{has_id_is, has_id_place, holds_at}
use Rattle.raft_laws.proofs.Ids.{size_same, ballot_at, last_before}
use Rattle.raft_laws.proofs.Standing.{HasId, SnapshotFits, StoredFits, UpFits, DownFits, InstallFits, append-of, message_on, up_down, lead_other}
use Rattle.raft_laws.proofs.Tracking.{Tracks, Reached, index_of, reached_next, reached_safe, step_extends, stored_next, stops_store, track_event}
use Rattle.raft_laws.proofs.TrackWrites.{cut_fits, purge_index}

-- ---- entries that the ballot machine sees alike are the same

abbrev id-at : LeaderId ℕ → ℕ → LogId ℕ
id-at leader index = record { leader_id = leader; index = index }

abbrev entry-at : LogId ℕ → EntryPayload → Entry
entry-at id payload = record { log_id = id; payload = payload }

pub same_entry : (x y : Entry) → x.log_id.index ≡ y.log_id.index → x.log_id.leader_id.node_id < 2 ^ 64 → y.log_id.leader_id.node_id < 2 ^ 64 → ballot_entry x ≡ ballot_entry y → x ≡ y
same_entry x y i h k e =
    ap₂ entry-at (ap₂ id-at (rank_leader x.log_id.leader_id y.log_id.leader_id h k (ap (λ v. v.ballot) e)) i) (ap (λ v. v.payload) e)

pub same_place : {m : Membership} {xs ys : List Entry} → Good m 0 xs → Good m 0 ys → (i : ℕ) (x y : Entry) → slice_get xs i ≡ Some x → slice_get ys i ≡ Some y → slice_get (ballot_log xs) i ≡ slice_get (ballot_log ys) i → x ≡ y
same_place {m} {xs} {ys} g h i x y a b e =
    let p = g.placed i x a in
    let q = h.placed i y b in
    same_entry x y (omega arith) (g.bounded i x a) (h.bounded i y b)
    (same_some (sym (ballot_at xs i x a) ∙ e ∙ ballot_at ys i y b))

pub same_list : (m : Membership) (from : ℕ) (xs ys : List Entry) → Good m from xs → Good m from ys → ballot_log xs ≡ ballot_log ys → xs ≡ ys
same_list m from [] [] g h e = refl
same_list m from [] (y ∷ ys) g h e = absurd (let l : 0 ≡ suc (length (ballot_log ys)) = ap length e in omega arith)
same_list m from (x ∷ xs) [] g h e = absurd (let l : suc (length (ballot_log xs)) ≡ 0 = ap length e in omega arith)
same_list m from (x ∷ xs) (y ∷ ys) g h e =
    let p = g.placed 0 x refl in
    let q = h.placed 0 y refl in
    let head : Some (ballot_entry x) ≡ Some (ballot_entry y) = ap (λ l. slice_get l 0) e in
    let one = same_entry x y (omega arith) (g.bounded 0 x refl) (h.bounded 0 y refl) (same_some head) in
    let rest = same_list m (from + 1) xs ys (good_drop 1 g) (good_drop 1 h) (ap (drop 1) e) in
    ap₂ (λ z zs. z ∷ zs) one rest

module _ {m : Membership} {some : 0 < length m.configs} {own : ℕ} {before : List BallotEvent} {base : StoredGroup} (small : own < 2 ^ 64) (w : BallotWorld) (r : StepResult) (t : Tracks m some own before base w r) (v : Vote ℕ) (x : Snapshot) (fits : InstallFits m w v x) (other : v.leader_id.node_id ≡ own → ⊥) (under : r.state.stored.vote ≡ v) (led : v.committed ≡ true) (past : place_above r.state.committed ≤ x.last.index) where
  abbrev asked : BallotAppend
  asked = append-of (rank_of v.leader_id) 0 0 (ballot_log x.«prefix») (length x.«prefix»)

  abbrev list : List Entry
  list = t.up.list

  abbrev pub covered : List BallotEntry
  covered = ballot_log x.«prefix»

  at : (k : ℕ) × (slice_get w.appends k ≡ Some asked)
  at = index_of asked w.appends fits.sent

  owner_differs : owner_of (rank_of v.leader_id) ≡ own → ⊥
  owner_differs = owner_other v.leader_id own fits.bound small other

  same_ballot : (w.node own).ballot ≡ rank_of v.leader_id
  same_ballot = t.up.fits.ballot ∙ ap (λ y. rank_of y.leader_id) under

  same_flag : (w.node own).committed ≡ true
  same_flag = t.up.fits.committed ∙ ap (λ y. y.committed) under ∙ led

  low : (w.node own).ballot ≤ rank_of v.leader_id
  low = omega (arith, same_ballot)

  can : can_raise (ballot_group m) own (w.node own) (rank_of v.leader_id) ≡ true
  can =
      and_from (not (owner_of (rank_of v.leader_id) == own)) (nat_le (w.node own).ballot (rank_of v.leader_id))
      (not_from_false _ (ne_eqb (owner_of (rank_of v.leader_id)) own owner_differs))
      (le-leb (w.node own).ballot (rank_of v.leader_id) low)

  safe : Safe (ballot_group m) w
  safe = reached_safe t.reached

  size : length x.«prefix» ≡ x.last.index + 1
  size = fits.snapshot.size

  count : length covered ≡ length x.«prefix»
  count = size_same x.«prefix»

  front_low : length (prefix_of r.state.stored.snapshot) ≤ place_above r.state.committed
  front_low = omega (arith, t.up.fits.reaches, t.up.commit)

  of_lead : AgreeBelow (length covered) covered (w.lead (rank_of v.leader_id))
  of_lead = (safe.appends asked fits.sent).entries

  -- the snapshot's last entry, as a ballot
  last_is : last_ballot covered ≡ rank_of x.last.leader_id
  last_is =
      let last = fits.snapshot.last in
      let e : length covered ≡ suc x.last.index = omega (arith, size, count) in
      last_before covered ∙ ap (ballot_before covered) e
      ∙ ap ballot_of (ballot_at x.«prefix» x.last.index last.entry last.there)
      ∙ ap (λ i. rank_of i.leader_id) last.same

  last_bound : x.last.leader_id.node_id < 2 ^ 64
  last_bound =
      let last = fits.snapshot.last in
      subst (λ i. i.leader_id.node_id < 2 ^ 64) last.same (fits.good.bounded x.last.index last.entry last.there)

  -- the list holds the snapshot's last entry just where the log has it
  holds_is : (y : Entry) → slice_get list x.last.index ≡ Some y → holds_before (w.node own).log (length covered) (last_ballot covered) ≡ has_id_in_log r.state.stored x.last
  holds_is y h =
      let e : length covered ≡ suc x.last.index = omega (arith, size, count) in
      ap₂ (λ l k. holds_before l k (last_ballot covered)) t.up.fits.log e
      ∙ ap (holds_before (ballot_log list) (suc x.last.index)) last_is
      ∙ holds_at (ballot_log list) x.last.index (rank_of x.last.leader_id) (ballot_entry y) (ballot_at list x.last.index y h)
      ∙ sym (has_id_is m r.state.stored list t.up.joined t.up.fits.good x.last y (omega (arith, past, front_low, (t.up.joined).low)) h last_bound)

  stranger : r.state.stored.vote.leader_id.node_id ≡ own → ⊥
  stranger e = other (ap (λ y. y.leader_id.node_id) (sym under) ∙ e)

  -- ---- another entry stands there

  module _ (unlike : has_id_in_log r.state.stored x.last ≡ false) (inside : x.last.index < length list) where
    drops_is : ballot_step (ballot_group m) w (CutForSnapshot at.0 own) ≡ dropped w own asked
    drops_is =
        let y = some_at list x.last.index inside in
        let unheld = ap (holds_before (w.node own).log (length covered)) (sym (last_before covered)) ∙ holds_is y.0 y.1 ∙ unlike in
        ap (λ o. drop_comes (ballot_group m) w o own) at.1
        ∙ cond-true _ _ _
        (and_from (can_raise (ballot_group m) own (w.node own) (rank_of v.leader_id)) _ can
        (and_from (nat_le (length covered) (length x.«prefix»)) _
        (le-leb (length covered) (length x.«prefix») (omega (arith, count)))
        (not_from_false _ unheld)))

    pub drop_tracks : Tracks m some own before base (dropped w own asked) (store (CutFrom (place_above r.state.committed)) r) × Extends own w (dropped w own asked)
    drop_tracks = (
      track_event (CutFrom (place_above r.state.committed)) t (CutForSnapshot at.0 own) refl (dropped w own asked) drops_is
          (subst (λ y. UpFits m y (with_stored r.state (after_storing (CutFrom (place_above r.state.committed)) r.state.stored))) (sym (with_value_same w.node own _))
          (record {
            list = take (place_above r.state.committed) list;
            fits =
                cut_fits t.up.fits t.up.joined (place_above r.state.committed) front_low (omega (arith, past, inside)) _
                (sym same_ballot) (sym same_flag)
                (ap₂ take t.up.commit t.up.fits.log ∙ take-map ballot_entry (place_above r.state.committed) list)
                t.up.fits.reaches;
            joined = joined_cut r.state.stored list t.up.joined (place_above r.state.committed) front_low (omega (arith, past, inside));
            commit = t.up.commit;
            applied = t.up.applied;
          }))
          (lead_other stranger),
      step_extends m own w (CutForSnapshot at.0 own) refl (dropped w own asked) drops_is,
    )

  -- ---- the snapshot is stored, and the log that it covers goes

  take_is' : ballot_step (ballot_group m) w (TakeEntries at.0 own) ≡ taken w own asked
  take_is' = ap (λ o. append_comes (ballot_group m) w o own) at.1 ∙ cond-true _ _ _ can

  pub install_extends : Extends own w (taken w own asked)
  install_extends = step_extends m own w (TakeEntries at.0 own) refl (taken w own asked) take_is'

  install_reached : Reached m some own before base (taken w own asked)
  install_reached = reached_next (TakeEntries at.0 own) refl (taken w own asked) take_is' t.reached

  abbrev pub after : BallotNode
  after =
      record {
        ballot = rank_of v.leader_id;
        committed = true;
        log = put_over (w.node own).log covered;
        commit = max (w.node own).commit (min (length x.«prefix») (0 + length covered));
      }

  after_is : (taken w own asked).node own ≡ after
  after_is = with_value_same w.node own _

  matches : Matching (w.node own).log (w.lead (rank_of v.leader_id))
  matches = matching (safe.node own).log (safe.leads (rank_of v.leader_id))

  abbrev pub with_snapshot : StoredGroup
  with_snapshot = after_storing (SetSnapshot x) r.state.stored

  abbrev pub without_log : StoredGroup
  without_log = after_storing (RemoveUpTo x.last) with_snapshot

  -- what is stored then fits
  pub record Installed : Type 0 where
    pub list' : List Entry
    pub mid : DownFits m after with_snapshot
    pub fits' : StoredFits m after without_log list'
    pub joined' : Joined without_log list'

  x_only : (s : Snapshot) → with_snapshot.snapshot ≡ Some s → SnapshotFits s
  x_only s e = subst SnapshotFits (same_some e) fits.snapshot

  last_only : (ys : List Entry) → ((i : ℕ) (e : Entry) → slice_get x.«prefix» i ≡ Some e → slice_get ys i ≡ Some e) → (id : LogId ℕ) → without_log.purged ≡ Some id → HasId ys id
  last_only ys f id e =
      let last = fits.snapshot.last in
      subst (HasId ys) (same_some e) (record { entry = last.entry; there = f x.last.index last.entry last.there; same = last.same })

  high : length x.«prefix» ≤ max (w.node own).commit (min (length x.«prefix») (0 + length covered))
  high = omega (arith, count)

  -- the log goes on from the snapshot
  module _ (goes_on : has_id_in_log r.state.stored x.last ≡ true) where
    here : (y : Entry) × (slice_get list x.last.index ≡ Some y) × (rank_of y.log_id.leader_id ≡ rank_of x.last.leader_id)
    here = has_id_place m r.state.stored list t.up.joined t.up.fits.good x.last goes_on last_bound

    long : length x.«prefix» ≤ length list
    long = let l = slice_get_within list x.last.index here.0 here.1 in omega (arith, l, size)

    both : (put_over (w.node own).log covered ≡ (w.node own).log) × (covered ++ drop (length covered) (w.node own).log ≡ (w.node own).log)
    both = put_same (w.node own).log (w.lead (rank_of v.leader_id)) covered matches of_lead (holds_is here.0 here.1 ∙ goes_on)

    front : x.«prefix» ≡ take (length x.«prefix») list
    front =
        sym
        (same_list m 0 (take (length x.«prefix») list) x.«prefix» (good_take (length x.«prefix») t.up.fits.good) fits.good
        (sym (take-map ballot_entry (length x.«prefix») list)
        ∙ ap₂ take (sym count) (sym t.up.fits.log ∙ sym both.1)
        ∙ take-append_seam covered (drop (length covered) (w.node own).log)))

    keeps_fits : StoredFits m after with_snapshot list
    keeps_fits =
        record {
          ballot = ap (λ y. rank_of y.leader_id) (sym under);
          committed = sym (ap (λ y. y.committed) under ∙ led);
          bound = t.up.fits.bound;
          log = both.0 ∙ t.up.fits.log;
          good = t.up.fits.good;
          snapshot = x_only;
          purged = t.up.fits.purged;
          reaches = high;
        }

    keeps_joined : Joined with_snapshot list
    keeps_joined = joined_snapshot r.state.stored list t.up.joined x front (omega (arith, past, front_low, size, (t.up.joined).low)) long

    pub kept_log : Installed
    kept_log =
        record {
          list' = list;
          mid = record { list = list; fits = keeps_fits; shape = inl keeps_joined };
          fits' = record {
            ballot = keeps_fits.ballot;
            committed = keeps_fits.committed;
            bound = t.up.fits.bound;
            log = keeps_fits.log;
            good = t.up.fits.good;
            snapshot = x_only;
            purged = last_only list (λ i e h. slice_taken (length x.«prefix») list i e (ap (λ l. slice_get l i) (sym front) ∙ h));
            reaches = high;
          };
          joined' = joined_removed with_snapshot list keeps_joined x.last (omega (arith, past, front_low, (t.up.joined).low)) (omega (arith, size));
        }

  -- the log ends below the snapshot's last place
  module _ (short : length list ≤ x.last.index) where
    alone : put_over (w.node own).log covered ≡ covered
    alone =
        put_other (w.node own).log (w.lead (rank_of v.leader_id)) covered matches of_lead
        (short_holds (w.node own).log (length covered) (last_ballot covered) (omega (arith, ap length t.up.fits.log, size_same list, size, count, short)))

    committed_same : AgreeBelow (w.node own).commit (w.node own).log (w.lead (rank_of v.leader_id))
    committed_same = commit_front (ballot_group m) w own asked fits.sent owner_differs low safe

    -- the purge point lies in the snapshot
    purged_same : (id : LogId ℕ) → r.state.stored.purged ≡ Some id → HasId x.«prefix» id
    purged_same id e =
        let has = t.up.fits.purged id e in
        let index = purge_index r.state.stored.purged id e in
        let l : id.index < place_above r.state.committed = omega (arith, index, front_low, (t.up.joined).low) in
        let y = some_at x.«prefix» id.index (omega (arith, l, past, size)) in
        let one = committed_same.same id.index (omega (arith, l, t.up.commit)) in
        let two = of_lead.same id.index (omega (arith, l, past, size, count)) in
        let equal = same_place t.up.fits.good fits.good id.index has.entry y.0 has.there y.1 (ap (λ z. slice_get z id.index) (sym t.up.fits.log) ∙ one ∙ sym two) in
        record { entry = y.0; there = y.1; same = ap (λ z. z.log_id) (sym equal) ∙ has.same }

    gone : drop (x.last.index + 1 - first_place r.state.stored) r.state.stored.log ≡ []
    gone =
        let ends = joined_end r.state.stored list t.up.joined in
        drop_past (x.last.index + 1 - first_place r.state.stored) r.state.stored.log (omega (arith, ends, short))

    pub lost_log : Installed
    lost_log =
        record {
          list' = x.«prefix»;
          mid = record {
            list = x.«prefix»;
            fits = record {
              ballot = ap (λ y. rank_of y.leader_id) (sym under);
              committed = sym (ap (λ y. y.committed) under ∙ led);
              bound = t.up.fits.bound;
              log = alone;
              good = fits.good;
              snapshot = x_only;
              purged = purged_same;
              reaches = high;
            };
            shape = inr (record {
              front = refl;
              short = let ends = joined_end r.state.stored list t.up.joined in omega (arith, ends, short, size);
            });
          };
          fits' = record {
            ballot = ap (λ y. rank_of y.leader_id) (sym under);
            committed = sym (ap (λ y. y.committed) under ∙ led);
            bound = t.up.fits.bound;
            log = alone;
            good = fits.good;
            snapshot = x_only;
            purged = last_only x.«prefix» (λ i e h. h);
            reaches = high;
          };
          joined' = record {
            front = sym (take_all (length x.«prefix») x.«prefix» (omega arith));
            log = gone ∙ sym (drop_past (x.last.index + 1) x.«prefix» (omega (arith, size)));
            low = omega (arith, size);
            high = omega arith;
          };
        }

  -- all of it
  pub install_tracks : (has_id_in_log r.state.stored x.last ≡ true) ⊎ (length list ≤ x.last.index) → Tracks m some own before base (taken w own asked) (apply_up_to (Some x.last.index) (store (RemoveUpTo x.last) (store (SetSnapshot x) r)))
  install_tracks which = go (⊎_elim (λ h. kept_log h) (λ h. lost_log h) which)
    where
      place : (c : Option ℕ) → c ≡ r.state.committed → max (w.node own).commit (min (length x.«prefix») (0 + length covered)) ≡ place_above (later_place c (Some x.last.index))
      place None e = let same = ap place_above e in omega (arith, same, t.up.commit, size, count)
      place (Some c) e = let same = ap place_above e in omega (arith, same, t.up.commit, size, count)

      go : Installed → Tracks m some own before base (taken w own asked) (apply_up_to (Some x.last.index) (store (RemoveUpTo x.last) (store (SetSnapshot x) r)))
      go i =
          let q1 = store (SetSnapshot x) r in
          let q2 = store (RemoveUpTo x.last) q1 in
          let up : UpFits m after (apply_up_to (Some x.last.index) q2).state =
          record { list = i.list'; fits = i.fits'; joined = i.joined'; commit = place r.state.committed refl; applied = refl }
          in
          record {
            reached = install_reached;
            stops =
                stops_store q1 (RemoveUpTo x.last) (stored_next base r (SetSnapshot x) t.stored)
                (stops_store r (SetSnapshot x) t.stored t.stops
                (record { world = taken w own asked; reached = install_reached; fits = subst (λ y. DownFits m y with_snapshot) (sym after_is) i.mid; lead = lead_other stranger }))
                (record { world = taken w own asked; reached = install_reached; fits = subst (λ y. DownFits m y without_log) (sym after_is) (up_down up); lead = lead_other stranger });
            stored = stored_next base q1 (RemoveUpTo x.last) (stored_next base r (SetSnapshot x) t.stored);
            up = subst (λ y. UpFits m y (apply_up_to (Some x.last.index) q2).state) (sym after_is) up;
            lead = lead_other stranger;
            messages = λ y b. message_on install_extends m y (t.messages y b);
          }
