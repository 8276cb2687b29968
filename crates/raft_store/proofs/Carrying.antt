-- What each storing command's changes do to a group that holds a stored part.
use Rattle.std.proofs.Common.{◌≡◌, inl, inr, ◌<◌, ◌≤◌, ◌+◌, ◌-◌, ◌^◌, ℕ, cond, List, [], ◌∷◌, ◌++◌, length, map, drop, max, min, refl, ap, sym, subst, ◌∙◌, arith}
use Rattle.std.specs.Prelude.{nat_le}
use Rattle.std.specs.Int.{w64, to_be_bytes}
use Rattle.std.specs.List.{AllByRecursion}
use Rattle.std.proofs.lemmas.List.{length-take, length-drop, length-append, length-map}
use Rattle.raft_values.specs.declared.vote.Vote.{Vote}
use Rattle.raft_values.specs.declared.log_id.LogId.{LogId}
use Rattle.raft_group_step.specs.Values.{Entry}
use Rattle.raft_group_step.specs.StoredGroup.{Snapshot, StoredGroup, after_storing, end_place, first_place, log_below}
use Rattle.raft_group_step.specs.StoredGroup.{CutFrom, MakeGroup, PutEntries, RemoveUpTo, SetSnapshot, SetVote, StartAfter}
use Rattle.raft_messages.specs.declared.memberships.SnapshotBytes.{SnapshotBytes}
use Rattle.raft_wire.specs.Fields.{FitsLogId, FitsVote}
use Rattle.raft_wire.specs.Entries.{FitsEntry, spelled_entry}
use Rattle.raft_wire.specs.Bodies.{FitsSnapshot}
use Rattle.raft_machines.specs.Machine.{MachineRules}
use Rattle.raft_log_records.specs.Item.{Change}
use Rattle.raft_log_records.specs.Batch.{numbered}
use Rattle.raft_log_memtables.specs.Content.{GroupContent, entry_at}
use Rattle.raft_store.specs.Batches.{Carries, IsRemoval, end_changes, entry_changes, make_changes, purge_changes, snapshot_changes, vote_changes}
use Rattle.raft_store.specs.Reading.{Holds, HoldsEnd, HoldsLog, StandsFor}
use Rattle.raft_store.specs.Keys.{end_key}
use Rattle.raft_store.proofs.Logs.{Cells, log_at, log_changed, log_dropped, log_joined, log_numbered, log_taken}
use Rattle.raft_store.proofs.Reach.{compacted, put_there, reaches_compacted, reaches_less, reaches_on, stays_above, stays_below, takes_on}

module _ (rules : MachineRules) (s : StoredGroup) where
  pub carries_make : Carries rules make_changes s (after_storing MakeGroup s)
  carries_make = record {
    plain = refl;
    takes = λ g h. (tt, tt);
    holds = λ g h. record {
      present = refl;
      vote = h.vote;
      end = h.end;
      purged = h.purged;
      purged_fits = h.purged_fits;
      snapshot = h.snapshot;
      log = h.log;
      reach = h.reach;
    };
  }

  pub carries_vote : (vote : Vote ℕ) → FitsVote vote → Carries rules (vote_changes vote) s (after_storing (SetVote vote) s)
  carries_vote vote fits = record {
    plain = refl;
    takes = λ g h. (tt, tt);
    holds = λ g h. record {
      present = h.present;
      vote = (refl, fits);
      end = h.end;
      purged = h.purged;
      purged_fits = h.purged_fits;
      snapshot = h.snapshot;
      log = h.log;
      reach = h.reach;
    };
  }

  pub carries_snapshot : (x : SnapshotBytes) (y : Snapshot) → FitsSnapshot x → StandsFor rules x y → Carries rules (snapshot_changes x) s (after_storing (SetSnapshot y) s)
  carries_snapshot x y fits stands = record {
    plain = refl;
    takes = λ g h. (tt, tt);
    holds = λ g h. record {
      present = h.present;
      vote = h.vote;
      end = h.end;
      purged = h.purged;
      purged_fits = h.purged_fits;
      snapshot = (x, refl, fits, stands);
      log = h.log;
      reach = h.reach;
    };
  }

  -- ---- a log that ends sooner

  cut_end : (place : ℕ) → end_place (after_storing (CutFrom place) s) ≡ first_place s + min (place - first_place s) (length s.log)
  cut_end place = ap (λ (n : ℕ). first_place s + n) (length-take (place - first_place s) s.log)

  -- where the program cuts it
  pub cut_place : (place first end cut : ℕ) → first ≡ first_place s → end ≡ end_place s → cut ≡ max first (min end place) → cut ≡ end_place (after_storing (CutFrom place) s)
  cut_place place first end cut is_first is_end is_cut = omega (arith, cut_end place)

  pub carries_cut : (place end : ℕ) → end ≡ end_place (after_storing (CutFrom place) s) → end < 2 ^ 64 → Carries rules (end_changes end) s (after_storing (CutFrom place) s)
  carries_cut place end is fits = record {
    plain = refl;
    takes = λ g h. (tt, tt);
    holds = λ g h. record {
      present = h.present;
      vote = h.vote;
      end = (ap (λ (n : ℕ). to_be_bytes w64 n) is, omega arith);
      purged = h.purged;
      purged_fits = h.purged_fits;
      snapshot = h.snapshot;
      log = log_taken g.entry (first_place s) (place - first_place s) s.log h.log;
      reach = reaches_less g.entry (first_place s) (end_place s) (end_place (after_storing (CutFrom place) s)) (omega (arith, cut_end place)) h.reach;
    };
  }

  -- ---- entries from a place on

  module _ (place : ℕ) (low : first_place s ≤ place) (high : place ≤ end_place s) where
    pub below_len : length (log_below s place) ≡ place - first_place s
    below_len = length-take (place - first_place s) s.log ∙ omega arith

    pub put_end : (es : List Entry) → end_place (after_storing (PutEntries place es) s) ≡ place + length es
    put_end es = ap (λ (n : ℕ). first_place s + n) (length-append (log_below s place) es ∙ ap (λ (n : ℕ). n + length es) below_len) ∙ omega arith

    put_log : (g : GroupContent (List ℕ)) (e : Entry) (es : List Entry) → Holds rules g s → AllByRecursion FitsEntry (e ∷ es)
        → HoldsLog (λ i. cond (nat_le place i) (entry_at (numbered place (map spelled_entry (e ∷ es))) i) (g.entry i)) (first_place s) (log_below s place ++ e ∷ es)
    put_log g e es h fits =
        let parts : List (List ℕ) = map spelled_entry (e ∷ es) in
        let new : Cells = λ i. cond (nat_le place i) (entry_at (numbered place parts) i) (g.entry i) in
        let len = below_len in
        log_joined new (first_place s) (log_below s place) (e ∷ es)
        (log_changed g.entry new (first_place s) (log_below s place)
        (λ i ge lt. stays_below g.entry (first_place s) (end_place s) place h.reach low high parts i (omega (arith, len)))
        (log_taken g.entry (first_place s) (place - first_place s) s.log h.log))
        (log_at new place (first_place s + length (log_below s place)) (e ∷ es) (omega (arith, len))
        (log_changed (entry_at (numbered place parts)) new place (e ∷ es)
        (λ i ge lt. put_there g.entry (first_place s) (end_place s) place h.reach low high parts i ge)
        (log_numbered place (e ∷ es) fits)))

    pub carries_entries : (es : List Entry) (end : ℕ) → AllByRecursion FitsEntry es → end ≡ place + length es → end < 2 ^ 64
        → Carries rules (entry_changes place es end) s (after_storing (PutEntries place es) s)
    carries_entries [] end fits is small = record {
      plain = refl;
      takes = λ g h. (tt, tt);
      holds = λ g h. record {
        present = h.present;
        vote = h.vote;
        end = (ap (λ (n : ℕ). to_be_bytes w64 n) (is ∙ sym (put_end [])), omega (arith, put_end []));
        purged = h.purged;
        purged_fits = h.purged_fits;
        snapshot = h.snapshot;
        log = log_joined g.entry (first_place s) (log_below s place) [] (log_taken g.entry (first_place s) (place - first_place s) s.log h.log) tt;
        reach = reaches_less g.entry (first_place s) (end_place s) (end_place (after_storing (PutEntries place []) s)) (omega (arith, put_end [])) h.reach;
      };
    }
    carries_entries (e ∷ es) end fits is small = record {
      plain = refl;
      takes = λ g h. (takes_on g.entry (first_place s) (end_place s) place h.reach low high, (tt, tt));
      holds = λ g h. record {
        present = h.present;
        vote = h.vote;
        end = (ap (λ (n : ℕ). to_be_bytes w64 n) (is ∙ sym (put_end (e ∷ es))), omega (arith, put_end (e ∷ es)));
        purged = h.purged;
        purged_fits = h.purged_fits;
        snapshot = h.snapshot;
        log = put_log g e es h fits;
        reach = reaches_on g.entry (first_place s) (end_place s) place h.reach low high (map spelled_entry (e ∷ es)) (end_place (after_storing (PutEntries place (e ∷ es)) s)) (put_end (e ∷ es) ∙ ap (λ (n : ℕ). place + n) (sym (length-map (e ∷ es) spelled_entry)));
      };
    }

  -- ---- entries before a place go

  module _ (id : LogId ℕ) (fits : FitsLogId id) (up : first_place s ≤ id.index + 1) where
    kept_end : end_place (after_storing (RemoveUpTo id) s) ≡ id.index + 1 + (length s.log - (id.index + 1 - first_place s))
    kept_end = ap (λ (n : ℕ). id.index + 1 + n) (length-drop (id.index + 1 - first_place s) s.log)

    kept_log : (g : GroupContent (List ℕ)) → Holds rules g s → HoldsLog (compacted g.entry (id.index + 1)) (id.index + 1) (drop (id.index + 1 - first_place s) s.log)
    kept_log g h =
        log_changed g.entry (compacted g.entry (id.index + 1)) (id.index + 1) (drop (id.index + 1 - first_place s) s.log)
        (λ i ge lt. stays_above g.entry (id.index + 1) i ge)
        (log_at g.entry (first_place s + (id.index + 1 - first_place s)) (id.index + 1) (drop (id.index + 1 - first_place s) s.log) (omega arith)
        (log_dropped g.entry (first_place s) (id.index + 1 - first_place s) s.log h.log))

    -- the log has entries behind it
    pub carries_purge : id.index + 1 ≤ end_place s → Carries rules (purge_changes id []) s (after_storing (RemoveUpTo id) s)
    carries_purge inside =
        let same : end_place s ≡ end_place (after_storing (RemoveUpTo id) s) = omega (arith, kept_end) in
        record {
          plain = refl;
          takes = λ g h. (tt, (tt, tt));
          holds = λ g h. record {
            present = h.present;
            vote = h.vote;
            end = subst (λ (n : ℕ). HoldsEnd (g.value end_key) n) same h.end;
            purged = refl;
            purged_fits = fits;
            snapshot = h.snapshot;
            log = kept_log g h;
            reach = reaches_compacted g.entry (first_place s) (end_place s) (id.index + 1) (end_place (after_storing (RemoveUpTo id) s)) up h.reach (inl (omega arith));
          };
        }

    -- it has none
    pub carries_purge_all : end_place s ≤ id.index + 1 → id.index + 1 < 2 ^ 64 → Carries rules (purge_changes id (end_changes (id.index + 1))) s (after_storing (RemoveUpTo id) s)
    carries_purge_all past small =
        let same : id.index + 1 ≡ end_place (after_storing (RemoveUpTo id) s) = omega (arith, kept_end) in
        record {
          plain = refl;
          takes = λ g h. (tt, (tt, (tt, tt)));
          holds = λ g h. record {
            present = h.present;
            vote = h.vote;
            end = (ap (λ (n : ℕ). to_be_bytes w64 n) same, omega arith);
            purged = refl;
            purged_fits = fits;
            snapshot = h.snapshot;
            log = kept_log g h;
            reach = reaches_compacted g.entry (first_place s) (end_place s) (id.index + 1) (end_place (after_storing (RemoveUpTo id) s)) up h.reach (inr (sym same));
          };
        }

    pub carries_start : id.index + 1 < 2 ^ 64 → Carries rules (purge_changes id (end_changes (id.index + 1))) s (after_storing (StartAfter id) s)
    carries_start small =
        let same : id.index + 1 ≡ end_place (after_storing (StartAfter id) s) = omega arith in
        record {
          plain = refl;
          takes = λ g h. (tt, (tt, (tt, tt)));
          holds = λ g h. record {
            present = h.present;
            vote = h.vote;
            end = (ap (λ (n : ℕ). to_be_bytes w64 n) same, omega arith);
            purged = refl;
            purged_fits = fits;
            snapshot = h.snapshot;
            log = tt;
            reach = reaches_compacted g.entry (first_place s) (end_place s) (id.index + 1) (end_place (after_storing (StartAfter id) s)) up h.reach (inr (sym same));
          };
        }

    pub carries_removal : (changes : List (Change (List ℕ))) (end : ℕ) → end ≡ end_place s → IsRemoval id end changes → Carries rules changes s (after_storing (RemoveUpTo id) s)
    carries_removal changes end is (inl inside) =
        subst (λ (l : List (Change (List ℕ))). Carries rules l s (after_storing (RemoveUpTo id) s)) (sym inside.1) (carries_purge (subst (λ (n : ℕ). id.index + 1 ≤ n) is inside.0))
    carries_removal changes end is (inr past) =
        subst (λ (l : List (Change (List ℕ))). Carries rules l s (after_storing (RemoveUpTo id) s)) (sym past.2) (carries_purge_all (subst (λ (n : ℕ). n ≤ id.index + 1) is past.0) past.1)
