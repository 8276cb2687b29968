-- Append requests, followed by the ballot machine.
use Rattle.std.specs.Prelude.{◌≡◌, ◌⊎◌, ℕ, suc, ◌+◌, ◌-◌, ◌<◌, ◌≤◌, ◌^◌, ◌==◌, ◌||◌, not, min, max, nat_lt, nat_le, true, false, List, [], ◌∷◌, ◌++◌, length, take, drop, slice_get, Option, Some, None, is_some, refl}
use Rattle.std.proofs.Common.{inl, inr, sym, ap, ap₂, ◌∙◌, subst, arith, ⊎_elim, eq-eqb, ne_eqb, le-leb, lt-ltb, length-drop, take-take, length-take-le}
use Rattle.std.proofs.lemmas.Bool.{and_from, or_cases, or_parts, or_left, or_right, not_from_false, cond-true, cond_both, cases_lt}
use Rattle.std.proofs.lemmas.List.{drop-drop, drop-map, take-map, map-append}
use Rattle.std.proofs.lemmas.Option.{slice_get_past}
use Rattle.raft_values.specs.declared.log_id.LogId.{LogId}
use Rattle.raft_values.specs.LogId.{next_place, place_of}
use Rattle.raft_group_step.specs.Values.{Membership, Entry}
use Rattle.raft_group_step.specs.StoredGroup.{StoredGroup, PutEntries, CutFrom, after_storing, after_storing_all, first_place, entry_at, prefix_of, has_id_in_log}
use Rattle.raft_group_step.specs.Message.{Message, AppendFields, last_sent}
use Rattle.raft_group_step.specs.StepResult.{StepResult, store, with_stored, apply_up_to, later_place, is_within}
use Rattle.raft_group_step.specs.SnapshotRequest.{place_above}
use Rattle.raft_group_step.specs.AppendRequest.{is_held, cut_from, above_committed, missing_entries, put_entries, lesser_place}
use Rattle.raft_group_step.proofs.Words.{either_by}
use Rattle.raft_laws.specs.BallotLogs.{BallotEntry, holds_before, put_from}
use Rattle.raft_laws.specs.BallotLogs.{cut_from as cut_log_from}
use Rattle.raft_laws.specs.BallotWorld.{BallotNode, BallotAppend, BallotWorld, BallotEvent, TakeEntries, CutForEntries, CutForConflict, can_raise, taken, cut, cut_before, append_comes, cut_comes, conflict_comes, ballot_step}
use Rattle.raft_laws.specs.BallotRanks.{rank_of, owner_of, ballot_entry, ballot_log, ballot_group}
use Rattle.raft_laws.proofs.BallotAgreement.{with_value_same, some_at}
use Rattle.raft_laws.proofs.BallotSafe.{Among, Safe}
use Rattle.raft_laws.proofs.BallotOthers.{Extends}
use Rattle.raft_laws.proofs.BallotAppends.{agreeing, agreeing_le, agreeing_skip, drop_past, all_held, holds, place, skipped, start_front}
use Rattle.raft_laws.proofs.VoteRanks.{owner_other}
use Rattle.raft_laws.proofs.Shapes.{Good, Joined, good_drop, joined_at, joined_cut, joined_put}
use Rattle.raft_laws.proofs.FreshEntries.{within_is, without_is, above_is, has_id_is, has_id_place, missing_is, holds_at}
use Rattle.raft_laws.proofs.Ids.{size_same, ballot_at}
use Rattle.raft_laws.proofs.Standing.{up_down, LeadKept, lead_other, StoredFits, UpFits, DownFits, MessageFits, AppendFits, append-of, id_rank, message_on}
use Rattle.raft_laws.proofs.Tracking.{Tracks, Reached, MayStop, index_of, reached_next, reached_safe, step_extends, stored_next, stops_store, track_on, track_event}
use Rattle.raft_laws.proofs.TrackWrites.{put_fits, cut_fits}

-- ---- places

pub later_is : (c : Option ℕ) (a b : Option (LogId ℕ)) → place_above (later_place c (lesser_place (place_of a) (place_of b))) ≡ max (place_above c) (min (next_place a) (next_place b))
later_is None None b = omega arith
later_is (Some c) None b = omega arith
later_is None (Some a) None = omega arith
later_is (Some c) (Some a) None = omega arith
later_is None (Some a) (Some b) = omega arith
later_is (Some c) (Some a) (Some b) = omega arith

pub last_sent_next : (m : Membership) (previous : Option (LogId ℕ)) (es : List Entry) → Good m (next_place previous) es → next_place (last_sent previous es) ≡ next_place previous + length es
last_sent_next m previous [] g = omega arith
last_sent_next m previous (e ∷ es) g =
    let p = g.placed 0 e refl in
    let n : next_place previous + 1 ≡ next_place (Some e.log_id) = omega arith in
    let rest = last_sent_next m (Some e.log_id) es (subst (λ k. Good m k es) n (good_drop 1 g)) in
    omega (arith, rest, n)

agreeing_short : (xs es : List BallotEntry) → agreeing xs es ≤ length xs
agreeing_short [] es = omega arith
agreeing_short (x ∷ xs) [] = omega arith
agreeing_short (x ∷ xs) (e ∷ es) =
    let l = agreeing_short xs es in
    cond_both (x.ballot == e.ballot) (suc (agreeing xs es)) 0 (λ n. n ≤ suc (length xs)) (λ t. omega arith) (λ t. omega arith)

module _ {m : Membership} {some : 0 < length m.configs} {own : ℕ} {before : List BallotEvent} {base : StoredGroup} (small : own < 2 ^ 64) (w : BallotWorld) (r : StepResult) (t : Tracks m some own before base w r) (a : AppendFields) (fits : AppendFits m w a) (other : a.vote.leader_id.node_id ≡ own → ⊥) (under : r.state.stored.vote ≡ a.vote) (led : a.vote.committed ≡ true) where
  abbrev asked : BallotAppend
  asked = append-of (rank_of a.vote.leader_id) (next_place a.previous) (id_rank a.previous) (ballot_log a.entries) (next_place a.committed)

  abbrev list : List Entry
  list = t.up.list

  at : (k : ℕ) × (slice_get w.appends k ≡ Some asked)
  at = index_of asked w.appends fits.sent

  owner_differs : owner_of (rank_of a.vote.leader_id) ≡ own → ⊥
  owner_differs = owner_other a.vote.leader_id own fits.bound small other

  same_ballot : (w.node own).ballot ≡ rank_of a.vote.leader_id
  same_ballot = t.up.fits.ballot ∙ ap (λ v. rank_of v.leader_id) under

  same_flag : (w.node own).committed ≡ true
  same_flag = t.up.fits.committed ∙ ap (λ v. v.committed) under ∙ led

  low : (w.node own).ballot ≤ rank_of a.vote.leader_id
  low = omega (arith, same_ballot)

  can : can_raise (ballot_group m) own (w.node own) (rank_of a.vote.leader_id) ≡ true
  can =
      and_from (not (owner_of (rank_of a.vote.leader_id) == own)) (nat_le (w.node own).ballot (rank_of a.vote.leader_id))
      (not_from_false _ (ne_eqb (owner_of (rank_of a.vote.leader_id)) own owner_differs))
      (le-leb (w.node own).ballot (rank_of a.vote.leader_id) low)

  front_low : length (prefix_of r.state.stored.snapshot) ≤ place_above r.state.committed
  front_low = omega (arith, t.up.fits.reaches, t.up.commit)

  stranger : r.state.stored.vote.leader_id.node_id ≡ own → ⊥
  stranger e = other (ap (λ y. y.leader_id.node_id) (sym under) ∙ e)

  -- ---- the entry before isn't the list's

  module _ (id : LogId ℕ) (previous : a.previous ≡ Some id) (not_held : is_held r.state.stored r.state.committed (Some id) ≡ false) (there : is_some (entry_at r.state.stored id.index) ≡ true) where
    above : place_above r.state.committed ≤ id.index
    above = without_is r.state.committed id.index (or_parts _ _ not_held).0

    inside : id.index < length list
    inside =
        ⊎_elim
        (λ l. l)
        (λ l.
        let e = joined_at r.state.stored list t.up.joined id.index (omega (arith, front_low, above, (t.up.joined).low)) ∙ slice_get_past list id.index l in
        absurd (let f : true ≡ false = sym there ∙ ap is_some e in cc))
        (cases_lt id.index (length list))

    start_is : next_place a.previous ≡ suc id.index
    start_is = ap next_place previous ∙ (let e : id.index + 1 ≡ suc id.index = omega arith in e)

    unlike : holds_before (w.node own).log (next_place a.previous) (id_rank a.previous) ≡ false
    unlike =
        let y = some_at list id.index inside in
        let has = has_id_is m r.state.stored list t.up.joined t.up.fits.good id y.0 (omega (arith, front_low, above, (t.up.joined).low)) y.1 (fits.previous id previous) in
        ap₂ (λ l k. holds_before l k (id_rank a.previous)) t.up.fits.log start_is
        ∙ ap (λ o. holds_before (ballot_log list) (suc id.index) (id_rank o)) previous
        ∙ holds_at (ballot_log list) id.index (rank_of id.leader_id) (ballot_entry y.0) (ballot_at list id.index y.0 y.1)
        ∙ sym has
        ∙ (or_parts _ _ not_held).1

    conflict_is : ballot_step (ballot_group m) w (CutForConflict at.0 own) ≡ cut_before w own asked
    conflict_is =
        ap (λ o. conflict_comes (ballot_group m) w o own) at.1
        ∙ cond-true _ _ _
        (and_from (can_raise (ballot_group m) own (w.node own) (rank_of a.vote.leader_id)) _ can
        (and_from (nat_lt (w.node own).commit (next_place a.previous)) _
        (lt-ltb (w.node own).commit (next_place a.previous) (omega (arith, start_is, above, t.up.commit)))
        (and_from (nat_le (next_place a.previous) (length (w.node own).log)) _
        (le-leb (next_place a.previous) (length (w.node own).log) (omega (arith, start_is, inside, ap length t.up.fits.log, size_same list)))
        (not_from_false _ unlike))))

    cut_log : take (next_place a.previous - 1) (w.node own).log ≡ ballot_log (take id.index list)
    cut_log =
        ap₂ take (let e : next_place a.previous - 1 ≡ id.index = omega (arith, start_is) in e) t.up.fits.log
        ∙ take-map ballot_entry id.index list

    pub conflict_tracks : Tracks m some own before base (cut_before w own asked) (store (CutFrom id.index) r) × Extends own w (cut_before w own asked)
    conflict_tracks = (
      track_event (CutFrom id.index) t (CutForConflict at.0 own) refl (cut_before w own asked) conflict_is
          (subst (λ y. UpFits m y (with_stored r.state (after_storing (CutFrom id.index) r.state.stored))) (sym (with_value_same w.node own _))
          (record {
            list = take id.index list;
            fits =
                cut_fits t.up.fits t.up.joined id.index (omega (arith, front_low, above)) (omega (arith, inside)) _
                (sym same_ballot) (sym same_flag) cut_log t.up.fits.reaches;
            joined = joined_cut r.state.stored list t.up.joined id.index (omega (arith, front_low, above)) (omega (arith, inside));
            commit = t.up.commit;
            applied = t.up.applied;
          }))
          (lead_other stranger),
      step_extends m own w (CutForConflict at.0 own) refl (cut_before w own asked) conflict_is,
    )

  -- ---- the entry before is the list's

  module _ (kept : is_held r.state.stored r.state.committed a.previous ≡ true) where
    holding : (nat_le (next_place a.previous) (w.node own).commit || holds_before (w.node own).log (next_place a.previous) (id_rank a.previous)) ≡ true
    holding = go a.previous fits.previous kept
      where
        go : (o : Option (LogId ℕ)) → ((id : LogId ℕ) → o ≡ Some id → id.leader_id.node_id < 2 ^ 64) → is_held r.state.stored r.state.committed o ≡ true → (nat_le (next_place o) (w.node own).commit || holds_before (w.node own).log (next_place o) (id_rank o)) ≡ true
        go None h k = or_left (nat_le 0 (w.node own).commit) _ (le-leb 0 (w.node own).commit (omega arith))
        go (Some id) h k =
            ⊎_elim
            (λ q.
            let l = within_is r.state.committed id.index q in
            or_left (nat_le (id.index + 1) (w.node own).commit) _ (le-leb (id.index + 1) (w.node own).commit (omega (arith, t.up.commit))))
            (λ q.
            let y = has_id_place m r.state.stored list t.up.joined t.up.fits.good id q (h id refl) in
            or_right (nat_le (id.index + 1) (w.node own).commit) _
            (ap₂ (λ l k. holds_before l k (rank_of id.leader_id)) t.up.fits.log (let e : id.index + 1 ≡ suc id.index = omega arith in e)
            ∙ holds_at (ballot_log list) id.index (rank_of id.leader_id) (ballot_entry y.0) (ballot_at list id.index y.0 y.1)
            ∙ eq-eqb (rank_of (y.0).log_id.leader_id) (rank_of id.leader_id) y.2))
            (or_cases (is_within id.index r.state.committed) (has_id_in_log r.state.stored id) k)

    safe : Safe (ballot_group m) w
    safe = reached_safe t.reached

    holds_start' : holds_before (w.node own).log (next_place a.previous) (id_rank a.previous) ≡ true
    holds_start' = holds (ballot_group m) w own asked fits.sent owner_differs low safe holding

    take_is : ballot_step (ballot_group m) w (TakeEntries at.0 own) ≡ taken w own asked
    take_is = ap (λ o. append_comes (ballot_group m) w o own) at.1 ∙ cond-true _ _ _ can ∙ cond-true _ _ _ holds_start'

    pub take_extends : Extends own w (taken w own asked)
    take_extends = step_extends m own w (TakeEntries at.0 own) refl (taken w own asked) take_is

    take_reached : Reached m some own before base (taken w own asked)
    take_reached = reached_next (TakeEntries at.0 own) refl (taken w own asked) take_is t.reached

    -- so many entries agree with the list
    abbrev agreed : ℕ
    agreed = agreeing (drop (next_place a.previous) (w.node own).log) (ballot_log a.entries)

    abbrev fresh : List Entry
    fresh = missing_entries r.state.stored (above_committed r.state.committed a.entries)

    abbrev skip : ℕ
    skip = place_above r.state.committed - next_place a.previous

    entry_count : length (ballot_log a.entries) ≡ length a.entries
    entry_count = size_same a.entries

    -- what is committed agrees
    skip_agrees : (skip ≤ agreed) ⊎ (agreed ≡ length a.entries)
    skip_agrees =
        ⊎_elim
        (λ l.
        let first = agreeing_skip skip (drop (next_place a.previous) (w.node own).log) (ballot_log a.entries) (skipped (ballot_group m) w own asked fits.sent owner_differs low safe holding skip (omega (arith, t.up.commit)) (omega (arith, entry_count))) in
        inl (omega (arith, first)))
        (λ l.
        let all = agreeing_skip (length (ballot_log a.entries)) (drop (next_place a.previous) (w.node own).log) (ballot_log a.entries) (skipped (ballot_group m) w own asked fits.sent owner_differs low safe holding (length (ballot_log a.entries)) (omega (arith, t.up.commit, entry_count)) (omega arith)) in
        let most = agreeing_le (drop (next_place a.previous) (w.node own).log) (ballot_log a.entries) in
        inr (omega (arith, all, most, entry_count)))
        (cases_lt skip (suc (length a.entries)))

    fresh_is : fresh ≡ drop agreed a.entries
    fresh_is =
        let start = next_place a.previous in
        let es1 = drop skip a.entries in
        let above = above_is m r.state.committed start a.entries fits.good in
        let q : first_place r.state.stored ≤ start + skip = omega (arith, front_low, (t.up.joined).low) in
        let missing = missing_is m r.state.stored list t.up.joined t.up.fits.good (start + skip) es1 q (good_drop skip fits.good) in
        let k2 = agreeing (drop (start + skip) (ballot_log list)) (ballot_log es1) in
        ap (missing_entries r.state.stored) above ∙ missing ∙ drop-drop k2 skip a.entries
        ∙ ⊎_elim
        (λ l.
        let first = agreeing_skip skip (drop start (w.node own).log) (ballot_log a.entries) (skipped (ballot_group m) w own asked fits.sent owner_differs low safe holding skip (omega (arith, t.up.commit)) (omega (arith, entry_count))) in
        let same : agreeing (drop skip (drop start (w.node own).log)) (drop skip (ballot_log a.entries)) ≡ k2 =
        ap₂ agreeing (drop-drop skip start (w.node own).log ∙ ap (drop (start + skip)) t.up.fits.log) (drop-map ballot_entry skip a.entries)
        in
        ap (λ k. drop k a.entries) (let e : skip + k2 ≡ agreed = omega (arith, first, same) in e))
        (λ l.
        let all : agreed ≡ length a.entries = ⊎_elim (λ s. absurd (let most = agreeing_le (drop start (w.node own).log) (ballot_log a.entries) in omega (arith, s, l, most, entry_count))) (λ s. s) skip_agrees in
        drop_past (skip + k2) a.entries (omega (arith, l)) ∙ sym (drop_past agreed a.entries (omega (arith, all))))
        (cases_lt skip (suc (length a.entries)))

    abbrev upto : Option ℕ
    upto = lesser_place (place_of a.committed) (place_of (last_sent a.previous a.entries))

    abbrev after : BallotNode
    after =
        record {
          ballot = rank_of a.vote.leader_id;
          committed = true;
          log = put_from (w.node own).log (next_place a.previous) (ballot_log a.entries);
          commit = max (w.node own).commit (min (next_place a.committed) (next_place a.previous + length (ballot_log a.entries)));
        }

    after_is : (taken w own asked).node own ≡ after
    after_is = with_value_same w.node own _

    commit_is : (c : Option ℕ) → c ≡ r.state.committed → max (w.node own).commit (min (next_place a.committed) (next_place a.previous + length (ballot_log a.entries))) ≡ place_above (later_place c upto)
    commit_is c e =
        let place = later_is c a.committed (last_sent a.previous a.entries) in
        let last = last_sent_next m a.previous a.entries fits.good in
        let same = ap place_above e in
        let high : max (w.node own).commit (min (next_place a.committed) (next_place a.previous + length (ballot_log a.entries))) ≡ max (place_above c) (min (next_place a.committed) (next_place (last_sent a.previous a.entries))) =
        omega (arith, t.up.commit, entry_count, last, same)
        in
        high ∙ sym place

    messages_on : (x : Message) → Among x r.messages → MessageFits m (taken w own asked) x
    messages_on x h = message_on take_extends m x (t.messages x h)

    -- all is there already
    none_new : fresh ≡ [] → Tracks m some own before base (taken w own asked) (apply_up_to upto r)
    none_new e =
        let size = length-drop agreed a.entries in
        let none = ap length (sym fresh_is ∙ e) in
        let most = agreeing_le (drop (next_place a.previous) (w.node own).log) (ballot_log a.entries) in
        let all : agreed ≡ length (ballot_log a.entries) = omega (arith, size, none, most, entry_count) in
        let log = all_held (ballot_group m) w own asked fits.sent owner_differs low safe holding all in
        track_on (apply_up_to upto r) t refl refl take_reached
        (subst (λ y. UpFits m y (apply_up_to upto r).state) (sym after_is)
        (record {
          list = list;
          fits = record {
            ballot = ap (λ v. rank_of v.leader_id) (sym under);
            committed = sym (ap (λ v. v.committed) under ∙ led);
            bound = t.up.fits.bound;
            log = log ∙ t.up.fits.log;
            good = t.up.fits.good;
            snapshot = t.up.fits.snapshot;
            purged = t.up.fits.purged;
            reaches = omega (arith, t.up.fits.reaches);
          };
          joined = t.up.joined;
          commit = commit_is r.state.committed refl;
          applied = refl;
        }))
        messages_on

    -- the rest is put
    module _ (e : Entry) (es : List Entry) (some-new : fresh ≡ e ∷ es) where
      abbrev p : ℕ
      p = next_place a.previous + agreed

      rest_is : drop agreed a.entries ≡ e ∷ es
      rest_is = sym fresh_is ∙ some-new

      less : agreed < length (ballot_log a.entries)
      less = let size = length-drop agreed a.entries in let more = ap length rest_is in omega (arith, size, more, entry_count)

      rest_good : Good m p (e ∷ es)
      rest_good = subst (Good m p) rest_is (good_drop agreed fits.good)

      index : e.log_id.index ≡ p
      index = let q = rest_good.placed 0 e refl in omega arith

      above_commit : place_above r.state.committed ≤ p
      above_commit = ⊎_elim (λ s. omega (arith, s)) (λ s. absurd (omega (arith, s, less, entry_count))) skip_agrees

      from : length (prefix_of r.state.stored.snapshot) ≤ p
      from = omega (arith, front_low, above_commit)

      to : p ≤ length list
      to =
          let start = (start_front (ballot_group m) w own asked fits.sent owner_differs low safe holding).left in
          let short = agreeing_short (drop (next_place a.previous) (w.node own).log) (ballot_log a.entries) in
          let size = length-drop (next_place a.previous) (w.node own).log in
          omega (arith, start, short, size, ap length t.up.fits.log, size_same list)

      planned : (cut_log_from (w.node own).log (next_place a.previous) (ballot_log a.entries) ≡ take p (w.node own).log) × (put_from (w.node own).log (next_place a.previous) (ballot_log a.entries) ≡ take p (w.node own).log ++ drop agreed (ballot_log a.entries))
      planned = place (ballot_group m) w own asked fits.sent owner_differs low safe holding agreed refl less

      cut_list : cut_log_from (w.node own).log (next_place a.previous) (ballot_log a.entries) ≡ ballot_log (take p list)
      cut_list = planned.0 ∙ ap (take p) t.up.fits.log ∙ take-map ballot_entry p list

      put_list : put_from (w.node own).log (next_place a.previous) (ballot_log a.entries) ≡ ballot_log (take p list ++ e ∷ es)
      put_list =
          planned.1
          ∙ ap₂ (λ x y. x ++ y) (ap (take p) t.up.fits.log ∙ take-map ballot_entry p list) (drop-map ballot_entry agreed a.entries ∙ ap ballot_log rest_is)
          ∙ sym (map-append ballot_entry (take p list) (e ∷ es))

      -- before the entries are put, after the cut where there is one
      record Shortened (q : StepResult) : Type 0 where
        stops : (k : ℕ) → MayStop m some own before base (after_storing_all (take k q.commands) base)
        stored : q.state.stored ≡ after_storing_all q.commands base
        joined : Joined (after_storing (PutEntries p (e ∷ es)) q.state.stored) (take p list ++ e ∷ es)
        fits' : StoredFits m after (after_storing (PutEntries p (e ∷ es)) q.state.stored) (take p list ++ e ∷ es)
        messages : q.messages ≡ r.messages
        committed : q.state.committed ≡ r.state.committed
        role : q.state.role ≡ r.state.role
        vote : q.state.stored.vote ≡ r.state.stored.vote

      put_high : length (prefix_of r.state.stored.snapshot) ≤ max (w.node own).commit (min (next_place a.committed) (next_place a.previous + length (ballot_log a.entries)))
      put_high = omega (arith, t.up.fits.reaches)

      uncut : Shortened r
      uncut =
          record {
            stops = t.stops;
            stored = t.stored;
            joined = joined_put r.state.stored list t.up.joined p from to (e ∷ es);
            fits' = put_fits t.up.fits t.up.joined p from to (e ∷ es) rest_good after (sym same_ballot) (sym same_flag) put_list put_high;
            messages = refl;
            committed = refl;
            role = refl;
            vote = refl;
          }

      cut_is : ballot_step (ballot_group m) w (CutForEntries at.0 own) ≡ cut w own asked
      cut_is = ap (λ o. cut_comes (ballot_group m) w o own) at.1 ∙ cond-true _ _ _ (and_from _ _ can holds_start')

      abbrev cut_node : BallotNode
      cut_node =
          record (w.node own) {
            ballot = rank_of a.vote.leader_id;
            committed = true;
            log = cut_log_from (w.node own).log (next_place a.previous) (ballot_log a.entries);
          }

      cut_stored : StoredFits m cut_node (after_storing (CutFrom p) r.state.stored) (take p list)
      cut_stored = cut_fits t.up.fits t.up.joined p from to cut_node (sym same_ballot) (sym same_flag) cut_list t.up.fits.reaches

      cut_joined : Joined (after_storing (CutFrom p) r.state.stored) (take p list)
      cut_joined = joined_cut r.state.stored list t.up.joined p from to

      twice : take p (take p list) ≡ take p list
      twice = take-take p p list (omega arith)

      size' : length (take p list) ≡ p
      size' = length-take-le p list to

      shortened : Shortened (store (CutFrom p) r)
      shortened =
          record {
            stops =
                stops_store r (CutFrom p) t.stored t.stops
                (record {
                  world = cut w own asked;
                  reached = reached_next (CutForEntries at.0 own) refl (cut w own asked) cut_is t.reached;
                  fits =
                      subst (λ y. DownFits m y (after_storing (CutFrom p) r.state.stored)) (sym (with_value_same w.node own _))
                      (record { list = take p list; fits = cut_stored; shape = inl cut_joined });
                  lead = lead_other stranger;
                });
            stored = stored_next base r (CutFrom p) t.stored;
            joined =
                subst (λ l. Joined (after_storing (PutEntries p (e ∷ es)) (after_storing (CutFrom p) r.state.stored)) (l ++ e ∷ es)) twice
                (joined_put (after_storing (CutFrom p) r.state.stored) (take p list) cut_joined p from (omega (arith, size')) (e ∷ es));
            fits' =
                subst (λ l. StoredFits m after (after_storing (PutEntries p (e ∷ es)) (after_storing (CutFrom p) r.state.stored)) (l ++ e ∷ es)) twice
                (put_fits cut_stored cut_joined p from (omega (arith, size')) (e ∷ es) rest_good after refl refl
                (put_list ∙ ap (λ l. ballot_log (l ++ e ∷ es)) (sym twice)) put_high);
            messages = refl;
            committed = refl;
            role = refl;
            vote = refl;
          }

      cut_or_not : Shortened (cut_from p r)
      cut_or_not = either_by Shortened (is_some (entry_at r.state.stored p)) _ _ (λ x. shortened) (λ x. uncut)

      finished : (q : StepResult) → Shortened q → Tracks m some own before base (taken w own asked) (apply_up_to upto (store (PutEntries p (e ∷ es)) q))
      finished q h =
          let q' = store (PutEntries p (e ∷ es)) q in
          let up : UpFits m after (apply_up_to upto q').state =
          record { list = take p list ++ e ∷ es; fits = h.fits'; joined = h.joined; commit = commit_is q.state.committed h.committed; applied = refl }
          in
          let lead : LeadKept own (after_storing (PutEntries p (e ∷ es)) q.state.stored) =
          lead_other (λ n. stranger (ap (λ y. y.leader_id.node_id) (sym h.vote) ∙ n))
          in
          record {
            reached = take_reached;
            stops =
                stops_store q (PutEntries p (e ∷ es)) h.stored h.stops
                (record {
                  world = taken w own asked;
                  reached = take_reached;
                  fits = subst (λ y. DownFits m y (after_storing (PutEntries p (e ∷ es)) q.state.stored)) (sym after_is) (up_down up);
                  lead = lead;
                });
            stored = stored_next base q (PutEntries p (e ∷ es)) h.stored;
            up = subst (λ y. UpFits m y (apply_up_to upto q').state) (sym after_is) up;
            lead = lead;
            messages = λ x b. messages_on x (subst (Among x) h.messages b);
          }

      some_tracks : Tracks m some own before base (taken w own asked) (apply_up_to upto (put_entries (e ∷ es) r))
      some_tracks =
          subst (λ k. Tracks m some own before base (taken w own asked) (apply_up_to upto (store (PutEntries k (e ∷ es)) (cut_from k r)))) (sym index)
          (finished (cut_from p r) cut_or_not)

      some_role : (put_entries (e ∷ es) r).state.role ≡ r.state.role
      some_role = subst (λ k. (store (PutEntries k (e ∷ es)) (cut_from k r)).state.role ≡ r.state.role) (sym index) cut_or_not.role

    -- the request is taken
    pub take_tracks : (Tracks m some own before base (taken w own asked) (apply_up_to upto (put_entries fresh r))) × ((put_entries fresh r).state.role ≡ r.state.role)
    take_tracks = go fresh refl
      where
        go : (f : List Entry) → fresh ≡ f → (Tracks m some own before base (taken w own asked) (apply_up_to upto (put_entries f r))) × ((put_entries f r).state.role ≡ r.state.role)
        go [] q = (none_new q, refl)
        go (e ∷ es) q = (some_tracks e es q, some_role e es q)
