-- The log ids that a node reads in what it has stored, as places of its list.
use Rattle.std.specs.Prelude.{◌≡◌, ℕ, zero, suc, ◌+◌, ◌-◌, ◌≤◌, ◌==◌, List, [], ◌∷◌, length, slice_get, Option, Some, None, option_map, refl}
use Rattle.std.proofs.Common.{sym, ap, ap₂, ◌∙◌, arith, ⊎_elim, eq-eqb, ne_eqb}
use Rattle.std.proofs.lemmas.List.{length-map}
use Rattle.std.proofs.lemmas.Option.{slice_get-map}
use Rattle.std.proofs.lemmas.Bool.{cond-true, cond-false, cases_eq}
use Rattle.raft_values.specs.declared.log_id.LogId.{LogId}
use Rattle.raft_values.specs.LogId.{next_place}
use Rattle.raft_group_step.specs.Values.{Membership}
use Rattle.raft_group_step.specs.Values.{Entry}
use Rattle.raft_group_step.specs.StoredGroup.{StoredGroup, first_place, end_place, id_of, id_at, id_before, last_id}
use Rattle.raft_laws.specs.BallotLogs.{BallotEntry, LogEnd, ballot_of, ballot_before, last_ballot, log_end}
use Rattle.raft_laws.specs.BallotWorld.{BallotNode}
use Rattle.raft_laws.specs.BallotRanks.{ballot_entry, ballot_log}
use Rattle.raft_laws.proofs.BallotAgreement.{some_at}
use Rattle.raft_laws.proofs.Shapes.{Joined, joined_at, joined_end}
use Rattle.raft_laws.proofs.Standing.{HasId, StoredFits, id_rank}

pub last_before : (es : List BallotEntry) → last_ballot es ≡ ballot_before es (length es)
last_before [] = refl
last_before (x ∷ []) = refl
last_before (x ∷ y ∷ es) = last_before (y ∷ es)

pub size_same : (xs : List Entry) → length (ballot_log xs) ≡ length xs
size_same xs = length-map xs ballot_entry

pub ballot_at : (xs : List Entry) (i : ℕ) (e : Entry) → slice_get xs i ≡ Some e → slice_get (ballot_log xs) i ≡ Some (ballot_entry e)
ballot_at xs i e h = slice_get-map ballot_entry xs i ∙ ap (option_map ballot_entry) h

-- the first place is after the purge point
purged_at : (o : Option (LogId ℕ)) (i : ℕ) → i + 1 ≡ next_place o → (id : LogId ℕ) × (o ≡ Some id) × (id.index ≡ i)
purged_at None i e = absurd (omega arith)
purged_at (Some id) i e = (id, refl, (let f : id.index ≡ i = omega arith in f))

module _ (m : Membership) (x : BallotNode) (st : StoredGroup) (xs : List Entry) (fits : StoredFits m x st xs) (j : Joined st xs) where
  pub id_at_is : (i : ℕ) (e : Entry) → slice_get xs i ≡ Some e → first_place st ≤ i + 1 → id_at st i ≡ Some e.log_id
  id_at_is i e h l =
      ⊎_elim
      (λ q.
      let p = purged_at st.purged i q in
      let has = fits.purged p.0 p.1 in
      let here : Some has.entry ≡ Some e = sym has.there ∙ ap (slice_get xs) p.2 ∙ h in
      cond-true (i + 1 == first_place st) st.purged _ (eq-eqb (i + 1) (first_place st) q)
      ∙ p.1 ∙ ap Some (sym has.same) ∙ ap (id_of) here)
      (λ ne.
      cond-false (i + 1 == first_place st) st.purged _ (ne_eqb (i + 1) (first_place st) ne)
      ∙ ap id_of (joined_at st xs j i (omega arith) ∙ h))
      (cases_eq (i + 1) (first_place st))

  -- the log id before a place of the list
  pub record Before (start : ℕ) : Type 0 where
    pub next : next_place (id_before st start) ≡ start
    pub rank : id_rank (id_before st start) ≡ ballot_before (ballot_log xs) start
    pub has : (id : LogId ℕ) → id_before st start ≡ Some id → HasId xs id

  pub before : (start : ℕ) → start ≤ length xs → first_place st ≤ start → Before start
  before zero l k =
      record { next = refl; rank = refl; has = λ id e. absurd (let f : None ≡ Some id = e in cc) }
  before (suc i) l k =
      let n : suc i ≡ i + 1 = omega arith in
      let at = some_at xs i (omega arith) in
      let is : id_before st (suc i) ≡ Some (at.0).log_id =
      cond-false (suc i == 0) None (id_at st (suc i - 1)) (ne_eqb (suc i) 0 (λ e. omega arith))
      ∙ (let e : suc i - 1 ≡ i = omega arith in ap (id_at st) e)
      ∙ id_at_is i at.0 at.1 (omega arith)
      in
      let place = fits.good.placed i at.0 at.1 in
      record {
        next = ap next_place is ∙ (let e : (at.0).log_id.index + 1 ≡ suc i = omega arith in e);
        rank = ap id_rank is ∙ sym (ap ballot_of (ballot_at xs i at.0 at.1));
        has = λ id e.
            let same : Some (at.0).log_id ≡ Some id = sym is ∙ e in
            let is' : (at.0).log_id ≡ id = cc in
            let index : (at.0).log_id.index ≡ id.index = ap (λ v. v.index) is' in
            let e' : i ≡ id.index = omega arith in
            record { entry = at.0; there = ap (slice_get xs) (sym e') ∙ at.1; same = is' };
      }

  pub end_is : end_place st ≡ length xs
  end_is = joined_end st xs j

  -- the end of the log, as a candidate tells it
  pub log_end_is : log_end x.log ≡ record { ballot = id_rank (last_id st); count = next_place (last_id st) }
  log_end_is =
      let b = before (end_place st) (omega (arith, end_is)) (omega (arith, end_is, j.low, j.high)) in
      let size : length (ballot_log xs) ≡ end_place st = size_same xs ∙ sym end_is in
      ap log_end fits.log
      ∙ ap₂ end-of (last_before (ballot_log xs) ∙ ap (ballot_before (ballot_log xs)) size ∙ sym b.rank) (size ∙ sym b.next)
    where
      end-of : ℕ → ℕ → LogEnd
      end-of b c = record { ballot = b; count = c }
