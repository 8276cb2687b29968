-- Fronts of what was written, and what is left without a front.
use Rattle.std.proofs.Common.{◌≡◌, ◌⊎◌, inl, inr, ⊎_elim, ℕ, zero, suc, Bool, true, false, List, [], ◌∷◌, ◌++◌, take, drop, Some, None, refl, sym, ap, ◌∙◌, append_assoc, append-nil}
use Rattle.raft_log_records.specs.declared.item.AtomicGroupStatus.TheVariants.{Middle, End}
use Rattle.raft_log_records.specs.Item.{Item}
use Rattle.raft_log_memtables.specs.Content.{Content, nothing, after_batch}
use Rattle.raft_log_memtables.specs.Laws.{AreMiddles}
use Rattle.raft_log_memtables.specs.Replay.{Replay, mark_of, after_marked, after_record, after_records, content_of}
use Rattle.raft_log_memtables.proofs.Folds.{counts_nothing, counts_whole}
use Rattle.raft_log_covers.specs.Cells.{held, batch_sets, after_batches}
use Rattle.raft_log_covers.specs.Queues.{Covers}
use Rattle.raft_log_covers.specs.Written.{Written, IsWritten, AreWritten, records_of, all_records, batch_of, all_batches, IsRight, AreRight}
use Rattle.raft_log_covers.specs.Written.Written.{alone, grouped, unended}
use Rattle.raft_log_covers.proofs.CellLemmas.{records_compose, batch_set, batch_left}

pub take_none : {X : Type 0} (n : ℕ) → take {A = X} n [] ≡ []
take_none zero = refl
take_none (suc n) = refl

drop_none : {X : Type 0} (n : ℕ) → drop {A = X} n [] ≡ []
drop_none zero = refl
drop_none (suc n) = refl

module _ {E : Type 0} where
  -- what is written counts as its batch
  pub written_counts : (records : List (List (Item E))) (w : Written E) → IsWritten w → content_of (records ++ records_of w) ≡ after_batch (batch_of w) (content_of records)
  written_counts records (alone items) h = records_compose records (items ∷ []) (h, tt)
  written_counts records (grouped id first middles last) h = counts_whole records middles first last id h.0 h.1 h.2
  written_counts records (unended id first middles) h = counts_nothing records middles first id h.0 h.1

  -- records that count nothing, behind any others
  abbrev pub CountNothing : List (List (Item E)) → Type 0
  CountNothing t = (records : List (List (Item E))) → content_of (records ++ t) ≡ content_of records

  none_counts : CountNothing []
  none_counts records = ap content_of (append-nil records)

  abbrev MiddleFront : ℕ → List (List (Item E)) → List (List (Item E)) → List (List (Item E)) → ℕ → Type 0
  MiddleFront id middles last rest n =
      ((t : List (List (Item E))) × AreMiddles id t × (take n (middles ++ (last ++ rest)) ≡ t)) ⊎ ((m : ℕ) × (take n (middles ++ (last ++ rest)) ≡ middles ++ (last ++ take m rest)))

  -- a front of middles and of one last record, if there is one
  middle_front : (id : ℕ) (middles : List (List (Item E))) (last : List (Item E)) (rest : List (List (Item E))) → AreMiddles id middles → (n : ℕ) → MiddleFront id middles (last ∷ []) rest n
  middle_front id middles last rest h zero = inl ([], tt, refl)
  middle_front id [] last rest h (suc n) = inr (n, refl)
  middle_front id (x ∷ xs) last rest h (suc n) = ⊎_elim
      (λ part. inl (x ∷ part.0, (h.0, part.1), ap (λ l. x ∷ l) part.2))
      (λ all. inr (all.0, ap (λ l. x ∷ l) all.1))
      (middle_front id xs last rest h.1 n)

  open_front : (id : ℕ) (middles : List (List (Item E))) (rest : List (List (Item E))) → AreMiddles id middles → (n : ℕ) → MiddleFront id middles [] rest n
  open_front id middles rest h zero = inl ([], tt, refl)
  open_front id [] rest h (suc n) = inr (suc n, refl)
  open_front id (x ∷ xs) rest h (suc n) = ⊎_elim
      (λ part. inl (x ∷ part.0, (h.0, part.1), ap (λ l. x ∷ l) part.2))
      (λ all. inr (all.0, ap (λ l. x ∷ l) all.1))
      (open_front id xs rest h.1 n)

  abbrev pub Front : Written E → List (List (Item E)) → ℕ → Type 0
  Front w rest n = CountNothing (take n (records_of w ++ rest)) ⊎ ((m : ℕ) × (take n (records_of w ++ rest) ≡ records_of w ++ take m rest))

  pub front_of : (w : Written E) → IsWritten w → (rest : List (List (Item E))) (n : ℕ) → Front w rest n
  front_of w h rest zero = inl none_counts
  front_of (alone items) h rest (suc n) = inr (n, refl)
  front_of (grouped id first middles last) h rest (suc n) = ⊎_elim
      (λ part. inl (λ records. ap (λ l. content_of (records ++ first ∷ l)) (ap (take n) (regrouped middles last rest) ∙ part.2) ∙ counts_nothing records part.0 first id h.0 part.1))
      (λ all. inr (all.0, ap (λ l. first ∷ l) (ap (take n) (regrouped middles last rest) ∙ all.1 ∙ sym (regrouped middles last (take all.0 rest)))))
      (middle_front id middles last rest h.1 n)
    where
      regrouped : (middles : List (List (Item E))) (last : List (Item E)) (rest : List (List (Item E))) → (middles ++ last ∷ []) ++ rest ≡ middles ++ (last ∷ rest)
      regrouped middles last rest = rw append_assoc
  front_of (unended id first middles) h rest (suc n) = ⊎_elim
      (λ part. inl (λ records. ap (λ l. content_of (records ++ first ∷ l)) part.2 ∙ counts_nothing records part.0 first id h.0 part.1))
      (λ all. inr (all.0, ap (λ l. first ∷ l) all.1))
      (open_front id middles rest h.1 n)

  behind_all : (a b c : List (List (Item E))) → a ++ (b ++ c) ≡ (a ++ b) ++ c
  behind_all a b c = rw append_assoc

  pub fronts_count : (records : List (List (Item E))) (ws : List (Written E)) → AreWritten ws → (n : ℕ)
      → (m : ℕ) × (content_of (records ++ take n (all_records ws)) ≡ after_batches (take m (all_batches ws)) (content_of records))
  fronts_count records [] h n = (0, ap (λ l. content_of (records ++ l)) (take_none n) ∙ none_counts records)
  fronts_count records (w ∷ ws) h n = ⊎_elim
      (λ nothing_more. (0, nothing_more records))
      (λ whole. let later = fronts_count (records ++ records_of w) ws h.1 whole.0 in (
        suc later.0,
        ap (λ l. content_of (records ++ l)) whole.1
            ∙ ap content_of (behind_all records (records_of w) (take whole.0 (all_records ws)))
            ∙ later.1
            ∙ ap (λ s. after_batches (take later.0 (all_batches ws)) s) (written_counts records w h.0),
      ))
      (front_of w h.0 (all_records ws) n)

  -- ---- without a front

  abbrev start : Replay E (Content E)
  start = record { state = nothing; begun = None }

  -- a middle or an end whose begin is gone counts nothing
  stray_middle : (items : List (Item E)) (id : ℕ) → mark_of items ≡ Some (id, Middle) → after_record after_batch items start ≡ start
  stray_middle items id h = ap (λ m. after_marked after_batch items m start) h

  stray_end : (items : List (Item E)) (id : ℕ) → mark_of items ≡ Some (id, End) → after_record after_batch items start ≡ start
  stray_end items id h = ap (λ m. after_marked after_batch items m start) h

  strays : (id : ℕ) (middles rest : List (List (Item E))) → AreMiddles id middles → content_of (middles ++ rest) ≡ content_of rest
  strays id [] rest h = refl
  strays id (x ∷ xs) rest h = ap (λ r. (after_records after_batch (xs ++ rest) r).state) (stray_middle x id h.0) ∙ strays id xs rest h.1

  strays_and_end : (id : ℕ) (middles : List (List (Item E))) (last : List (Item E)) (rest : List (List (Item E))) → AreMiddles id middles → mark_of last ≡ Some (id, End) → content_of (middles ++ last ∷ rest) ≡ content_of rest
  strays_and_end id middles last rest h e = strays id middles (last ∷ rest) h ∙ ap (λ r. (after_records after_batch rest r).state) (stray_end last id e)

  abbrev Cut : List (List (Item E)) → List (List (Item E)) → ℕ → Type 0
  Cut stem rest n = (m : ℕ) × ((more : List (List (Item E))) → content_of (drop n (stem ++ rest) ++ more) ≡ content_of (drop m rest ++ more))

  cut_middles : (id : ℕ) (middles : List (List (Item E))) (rest : List (List (Item E))) → AreMiddles id middles → (n : ℕ) → Cut middles rest n
  cut_middles id middles rest h zero = (0, λ more. ap content_of (sym (behind_all middles rest more)) ∙ strays id middles (rest ++ more) h)
  cut_middles id [] rest h (suc n) = (suc n, λ more. refl)
  cut_middles id (x ∷ xs) rest h (suc n) = cut_middles id xs rest h.1 n

  cut_ended : (id : ℕ) (middles : List (List (Item E))) (last : List (Item E)) (rest : List (List (Item E))) → AreMiddles id middles → mark_of last ≡ Some (id, End) → (n : ℕ) → Cut (middles ++ last ∷ []) rest n
  cut_ended id middles last rest h e zero = (0, λ more. ap content_of (regrouped more) ∙ strays_and_end id middles last (rest ++ more) h e)
    where
      regrouped : (more : List (List (Item E))) → ((middles ++ last ∷ []) ++ rest) ++ more ≡ middles ++ last ∷ (rest ++ more)
      regrouped more = rw (append_assoc, append_assoc)
  cut_ended id [] last rest h e (suc n) = (n, λ more. refl)
  cut_ended id (x ∷ xs) last rest h e (suc n) = cut_ended id xs last rest h.1 e n

  -- without some records at the front of one that was written, and perhaps of what comes behind it
  cut_of : (w : Written E) → IsWritten w → (rest : List (List (Item E))) (n : ℕ) → Cut (records_of w) rest (suc n)
  cut_of (alone items) h rest n = (n, λ more. refl)
  cut_of (grouped id first middles last) h rest n = cut_ended id middles last rest h.1 h.2 n
  cut_of (unended id first middles) h rest n = cut_middles id middles rest h.1 n

  pub behinds_count : (ws : List (Written E)) (more : List (List (Item E))) → AreWritten ws → (n : ℕ)
      → (m : ℕ) × (content_of (drop n (all_records ws) ++ more) ≡ content_of (all_records (drop m ws) ++ more))
  behinds_count ws more h zero = (0, refl)
  behinds_count [] more h (suc n) = (0, refl)
  behinds_count (w ∷ ws) more h (suc n) =
      let cut = cut_of w h.0 (all_records ws) n in
      let later = behinds_count ws more h.1 cut.0 in
      (suc later.0, cut.1 more ∙ later.1)

  -- ---- covers

  pub covers_right : (older content : Content E) (kept : List (List (Item E))) (items : List (Item E)) → IsRight content kept items → Covers older content kept → Covers (after_batch items older) content kept
  covers_right older content kept items right covers group c e = by_test (batch_sets items group c) refl
    where
      by_test : (b : Bool) → batch_sets items group c ≡ b → held (after_batch items older group) c ≡ held (content group) c
      by_test true set = batch_set items group c set older nothing ∙ right group c set e
      by_test false left = batch_left items group c left older ∙ covers group c e

  pub covers_all_right : (older content : Content E) (kept batches : List (List (Item E))) → AreRight content kept batches → Covers older content kept → Covers (after_batches batches older) content kept
  covers_all_right older content kept [] right covers = covers
  covers_all_right older content kept (items ∷ batches) right covers = covers_all_right (after_batch items older) content kept batches right.1 (covers_right older content kept items right.0 covers)

  right_front : (content : Content E) (kept batches : List (List (Item E))) (m : ℕ) → AreRight content kept batches → AreRight content kept (take m batches)
  right_front content kept batches zero right = tt
  right_front content kept [] (suc m) right = tt
  right_front content kept (items ∷ batches) (suc m) right = (right.0, right_front content kept batches m right.1)

  pub rewrites_keep_covers : (records : List (List (Item E))) (ws : List (Written E)) (content : Content E) (kept : List (List (Item E)))
      → AreWritten ws → AreRight content kept (all_batches ws) → Covers (content_of records) content kept
      → (n : ℕ) → Covers (content_of (records ++ take n (all_records ws))) content kept
  rewrites_keep_covers records ws content kept h right covers n group c e =
      let front = fronts_count records ws h n in
      ap (λ s. held (s group) c) front.1
      ∙ covers_all_right (content_of records) content kept (take front.0 (all_batches ws)) (right_front content kept (all_batches ws) front.0 right) covers group c e
