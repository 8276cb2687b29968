-- Accounts of where each cell's last change stands.
use Rattle.std.proofs.Common.{◌≡◌, ◌⊎◌, inl, inr, ⊎_elim, ◌≤◌, ℕ, Bool, true, false, cond, ◌||◌, List, [], ◌∷◌, ◌++◌, Option, Some, None, refl, sym, ap, ◌∙◌, subst, le_refl, true≢false, append_assoc, append-nil, drop, zero, suc}
use Rattle.std.specs.Prelude.{nat_le}
use Rattle.std.proofs.lemmas.Bool.{or_left, or_right, le-leb}
use Rattle.raft_log_records.specs.Item.{Item}
use Rattle.raft_log_memtables.specs.Content.{Content, nothing, after_batch}
use Rattle.raft_log_memtables.specs.Replay.{content_of}
use Rattle.raft_log_covers.specs.Cells.{Cell, held, batch_sets, batches_set, after_batches}
use Rattle.raft_log_covers.specs.Queues.{Filed, batches_of, batches_from, Covers}
use Rattle.raft_log_covers.specs.Written.{Written, batch_of, records_of, all_batches, all_records, IsWritten, AreWritten}
use Rattle.raft_log_covers.specs.Account.{Account, IsAccountedBy, IsAccounted, IsFrom, NamesNoneBefore, account_after, account_after_all, no_account, Settles}
use Rattle.raft_log_covers.proofs.CellLemmas.{batch_set, batch_left, batches_left, batches_are_set, batches_set-append, after_batches-append}
use Rattle.raft_log_covers.proofs.QueueLemmas.{set_by, fewer_set}
use Rattle.raft_log_covers.proofs.WrittenLemmas.{written_counts, behinds_count}

module _ {E : Type 0} where
  pub files_may_go : (account : Account) (older content : Content E) (bs : List (Filed E)) (first : ℕ) → IsAccounted account older content bs → NamesNoneBefore first account
      → Covers older content (batches_from first bs)
  files_may_go account older content bs first accounted late group c e = by_file (account group c) (accounted group c) (late group c)
    where
      by_file : (o : Option ℕ) → IsAccountedBy o older content bs group c → IsFrom first o → held (older group) c ≡ held (content group) c
      by_file None same h = same
      by_file (Some file) set h = absurd (true≢false (sym set ∙ fewer_set first file h bs group c e))

  -- ---- a write

  kept_or_not : (file : ℕ) (bs : List (Filed E)) (b : Filed E) → (t : Bool) → nat_le file b.file ≡ t → batches_from file (bs ++ b ∷ []) ≡ batches_from file bs ++ cond t (b.items ∷ []) []
  kept_or_not file [] b t e = ap (λ x. cond x (b.items ∷ []) []) e
  kept_or_not file (a ∷ bs) b t e = by_file (nat_le file a.file) (kept_or_not file bs b t e)
    where
      by_file : (u : Bool) → batches_from file (bs ++ b ∷ []) ≡ batches_from file bs ++ cond t (b.items ∷ []) []
          → cond u (a.items ∷ batches_from file (bs ++ b ∷ [])) (batches_from file (bs ++ b ∷ [])) ≡ cond u (a.items ∷ batches_from file bs) (batches_from file bs) ++ cond t (b.items ∷ []) []
      by_file true h = ap (λ l. a.items ∷ l) h
      by_file false h = h

  -- what was set stays set
  more_set : (file : ℕ) (bs : List (Filed E)) (b : Filed E) (group : ℕ) (c : Cell) → batches_set (batches_from file bs) group c ≡ true → batches_set (batches_from file (bs ++ b ∷ [])) group c ≡ true
  more_set file bs b group c e =
      ap (set_by group c) (kept_or_not file bs b (nat_le file b.file) refl)
      ∙ batches_set-append (batches_from file bs) (cond (nat_le file b.file) (b.items ∷ []) []) group c
      ∙ or_left (batches_set (batches_from file bs) group c) (batches_set (cond (nat_le file b.file) (b.items ∷ []) []) group c) e

  newly_set : (bs : List (Filed E)) (b : Filed E) (group : ℕ) (c : Cell) → batch_sets b.items group c ≡ true → batches_set (batches_from b.file (bs ++ b ∷ [])) group c ≡ true
  newly_set bs b group c e =
      ap (set_by group c) (kept_or_not b.file bs b true (le-leb b.file b.file (le_refl b.file)))
      ∙ batches_set-append (batches_from b.file bs) (b.items ∷ []) group c
      ∙ or_right (batches_set (batches_from b.file bs) group c) (batches_set (b.items ∷ []) group c) (or_left (batch_sets b.items group c) false e)

  pub writes_account : (account : Account) (older content : Content E) (bs : List (Filed E)) (file : ℕ) (items : List (Item E)) → IsAccounted account older content bs
      → IsAccounted (account_after file items account) older (after_batch items content) (bs ++ record { file = file; items = items } ∷ [])
  writes_account account older content bs file items accounted group c = by_test (batch_sets items group c) refl (account group c) (accounted group c)
    where
      by_test : (b : Bool) → batch_sets items group c ≡ b → (o : Option ℕ) → IsAccountedBy o older content bs group c
          → IsAccountedBy (cond b (Some file) o) older (after_batch items content) (bs ++ record { file = file; items = items } ∷ []) group c
      by_test true set o h = newly_set bs (record { file = file; items = items }) group c set
      by_test false left None h = h ∙ sym (batch_left items group c left content)
      by_test false left (Some at) h = more_set at bs (record { file = file; items = items }) group c h

  -- ---- the rewrite queue

  pub rewrites_account : (account after : Account) (records : List (List (Item E))) (content : Content E) (bs : List (Filed E)) (w : Written E) → IsWritten w
      → IsAccounted account (content_of records) content bs → ((group : ℕ) (c : Cell) → Settles (batch_of w) (content_of records) content group c (account group c) (after group c))
      → IsAccounted after (content_of (records ++ records_of w)) content bs
  rewrites_account account after records content bs w written accounted settles group c = by_file (account group c) (after group c) (accounted group c) (settles group c)
    where
      counted : held (content_of (records ++ records_of w) group) c ≡ held (after_batch (batch_of w) (content_of records) group) c
      counted = ap (λ s. held (s group) c) (written_counts records w written)

      by_file : (o p : Option ℕ) → IsAccountedBy o (content_of records) content bs group c → Settles (batch_of w) (content_of records) content group c o p → IsAccountedBy p (content_of (records ++ records_of w)) content bs group c
      by_file o None h settled = ⊎_elim
          (λ (set : (batch_sets (batch_of w) group c ≡ true) × (held (after_batch (batch_of w) nothing group) c ≡ held (content group) c)). counted ∙ batch_set (batch_of w) group c set.0 (content_of records) nothing ∙ set.1)
          (λ (left : (batch_sets (batch_of w) group c ≡ false) × (held (content_of records group) c ≡ held (content group) c)). counted ∙ batch_left (batch_of w) group c left.0 (content_of records) ∙ left.1)
          settled
      by_file o (Some file) h settled = subst (λ (x : Option ℕ). IsAccountedBy x (content_of records) content bs group c) settled h

  -- ---- an opening

  append_one : (bs more : List (Filed E)) (b : Filed E) → (bs ++ b ∷ []) ++ more ≡ bs ++ b ∷ more
  append_one bs more b = rw append_assoc

  all_account : (account : Account) (older content : Content E) (bs more : List (Filed E)) → IsAccounted account older content bs
      → IsAccounted (account_after_all more account) older (after_batches (batches_of more) content) (bs ++ more)
  all_account account older content bs [] h = subst (λ (l : List (Filed E)). IsAccounted account older content l) (sym (append-nil bs)) h
  all_account account older content bs (b ∷ more) h =
      subst (λ (l : List (Filed E)). IsAccounted (account_after_all more (account_after b.file b.items account)) older (after_batches (batches_of more) (after_batch b.items content)) l) (append_one bs more b)
      (all_account (account_after b.file b.items account) older (after_batch b.items content) (bs ++ b ∷ []) more (writes_account account older content bs b.file b.items h))

  pub openings_account : (older : Content E) (bs : List (Filed E)) → IsAccounted (account_after_all bs no_account) older (after_batches (batches_of bs) older) bs
  openings_account older bs = all_account no_account older older [] bs (λ group c. refl)

  -- ---- old records of the rewrite queue go

  all_count : (records : List (List (Item E))) (ws : List (Written E)) → AreWritten ws → content_of (records ++ all_records ws) ≡ after_batches (all_batches ws) (content_of records)
  all_count records [] h = ap content_of (append-nil records)
  all_count records (w ∷ ws) h =
      ap content_of (sym (grouped_so records (records_of w) (all_records ws)))
      ∙ all_count (records ++ records_of w) ws h.1
      ∙ ap (λ s. after_batches (all_batches ws) s) (written_counts records w h.0)
    where
      grouped_so : (x y z : List (List (Item E))) → (x ++ y) ++ z ≡ x ++ (y ++ z)
      grouped_so x y z = rw append_assoc

  rest_written : (ws : List (Written E)) (m : ℕ) → AreWritten ws → AreWritten (drop m ws)
  rest_written ws zero h = h
  rest_written [] (suc m) h = tt
  rest_written (w ∷ ws) (suc m) h = rest_written ws m h.1

  front_gone : (ws : List (Written E)) (m : ℕ) → (gone : List (List (Item E))) × (all_batches ws ≡ gone ++ all_batches (drop m ws))
  front_gone ws zero = ([], refl)
  front_gone [] (suc m) = ([], refl)
  front_gone (w ∷ ws) (suc m) = let rest = front_gone ws m in (batch_of w ∷ rest.0, ap (λ l. batch_of w ∷ l) rest.1)

  -- a cell has what it has of all records, or what it has of the new ones alone
  either_way : (gone left new : List (List (Item E))) (group : ℕ) (c : Cell) →
      (held (after_batches new (after_batches left nothing) group) c ≡ held (after_batches new (after_batches (gone ++ left) nothing) group) c)
      ⊎ (held (after_batches new (after_batches left nothing) group) c ≡ held (after_batches new nothing group) c)
  either_way gone left new group c = by_new (batches_set new group c) refl (batches_set left group c) refl
    where
      by_new : (b : Bool) → batches_set new group c ≡ b → (d : Bool) → batches_set left group c ≡ d →
          (held (after_batches new (after_batches left nothing) group) c ≡ held (after_batches new (after_batches (gone ++ left) nothing) group) c)
          ⊎ (held (after_batches new (after_batches left nothing) group) c ≡ held (after_batches new nothing group) c)
      by_new true x d y = inr (batches_are_set new group c x (after_batches left nothing) nothing)
      by_new false x true y = inl (
          batches_left new group c x (after_batches left nothing)
          ∙ batches_are_set left group c y nothing (after_batches gone nothing)
          ∙ sym (ap (λ s. held (s group) c) (after_batches-append gone left nothing))
          ∙ sym (batches_left new group c x (after_batches (gone ++ left) nothing)))
      by_new false x false y = inr (
          batches_left new group c x (after_batches left nothing)
          ∙ batches_left left group c y nothing
          ∙ sym (batches_left new group c x nothing))

  -- what is left of the old records and the new ones has at a cell what all of them have, or what the new ones have alone
  pub either_part : (old new : List (Written E)) → AreWritten old → AreWritten new → (n group : ℕ) (c : Cell) →
      (held (content_of (drop n (all_records old) ++ all_records new) group) c ≡ held (content_of (all_records old ++ all_records new) group) c)
      ⊎ (held (content_of (drop n (all_records old) ++ all_records new) group) c ≡ held (content_of (all_records new) group) c)
  either_part old new wo wn n group c = ⊎_elim
      (λ (as_all : held (after_batches (all_batches new) (after_batches (all_batches (drop cut.0 old)) nothing) group) c ≡ held (after_batches (all_batches new) (after_batches (gone.0 ++ all_batches (drop cut.0 old)) nothing) group) c).
      inl (at_cell left ∙ as_all ∙ sym (at_cell whole)))
      (λ (as_new : held (after_batches (all_batches new) (after_batches (all_batches (drop cut.0 old)) nothing) group) c ≡ held (after_batches (all_batches new) nothing group) c).
      inr (at_cell left ∙ as_new ∙ sym (at_cell (all_count [] new wn))))
      (either_way gone.0 (all_batches (drop cut.0 old)) (all_batches new) group c)
    where
      at_cell : {s t : Content E} → s ≡ t → held (s group) c ≡ held (t group) c
      at_cell e = ap (λ (x : Content E). held (x group) c) e

      cut : (m : ℕ) × (content_of (drop n (all_records old) ++ all_records new) ≡ content_of (all_records (drop m old) ++ all_records new))
      cut = behinds_count old (all_records new) wo n

      gone : (gone : List (List (Item E))) × (all_batches old ≡ gone ++ all_batches (drop cut.0 old))
      gone = front_gone old cut.0

      left : content_of (drop n (all_records old) ++ all_records new) ≡ after_batches (all_batches new) (after_batches (all_batches (drop cut.0 old)) nothing)
      left = cut.1 ∙ all_count (all_records (drop cut.0 old)) new wn ∙ ap (λ s. after_batches (all_batches new) s) (all_count [] (drop cut.0 old) (rest_written old cut.0 wo))

      whole : content_of (all_records old ++ all_records new) ≡ after_batches (all_batches new) (after_batches (gone.0 ++ all_batches (drop cut.0 old)) nothing)
      whole = all_count (all_records old) new wn ∙ ap (λ s. after_batches (all_batches new) s) (all_count [] old wo ∙ ap (λ l. after_batches l nothing) gone.1)

  pub old_rewrites_may_go : (account : Account) (content : Content E) (bs : List (Filed E)) (old new : List (Written E)) → AreWritten old → AreWritten new
      → IsAccounted account (content_of (all_records old ++ all_records new)) content bs
      → ((group : ℕ) (c : Cell) → account group c ≡ None → held (content_of (all_records new) group) c ≡ held (content group) c)
      → (n : ℕ) → IsAccounted account (content_of (drop n (all_records old) ++ all_records new)) content bs
  old_rewrites_may_go account content bs old new wo wn accounted gives n group c = by_file (account group c) refl (accounted group c)
    where
      by_file : (o : Option ℕ) → account group c ≡ o → IsAccountedBy o (content_of (all_records old ++ all_records new)) content bs group c
          → IsAccountedBy o (content_of (drop n (all_records old) ++ all_records new)) content bs group c
      by_file None e same = ⊎_elim (λ as_all. as_all ∙ same) (λ as_new. as_new ∙ gives group c e) (either_part old new wo wn n group c)
      by_file (Some file) e set = set

  -- ---- files that went

  from_append : (file : ℕ) (more bs : List (Filed E)) → batches_from file (more ++ bs) ≡ batches_from file more ++ batches_from file bs
  from_append file [] bs = refl
  from_append file (a ∷ more) bs = by_file (nat_le file a.file) (from_append file more bs)
    where
      by_file : (u : Bool) → batches_from file (more ++ bs) ≡ batches_from file more ++ batches_from file bs
          → cond u (a.items ∷ batches_from file (more ++ bs)) (batches_from file (more ++ bs)) ≡ cond u (a.items ∷ batches_from file more) (batches_from file more) ++ batches_from file bs
      by_file true h = ap (λ l. a.items ∷ l) h
      by_file false h = h

  pub files_are_forgotten : (account : Account) (older content : Content E) (more bs : List (Filed E)) (first : ℕ) → IsAccounted account older content (more ++ bs) → NamesNoneBefore first account
      → batches_from first more ≡ [] → IsAccounted account older content bs
  files_are_forgotten account older content more bs first accounted late gone group c = by_file (account group c) (accounted group c) (late group c)
    where
      none_set : (file : ℕ) → first ≤ file → batches_set (batches_from file more) group c ≡ false
      none_set file h = fewer_set first file h more group c (ap (set_by group c) gone)

      by_file : (o : Option ℕ) → IsAccountedBy o older content (more ++ bs) group c → IsFrom first o → IsAccountedBy o older content bs group c
      by_file None same h = same
      by_file (Some file) set h =
          sym (ap (λ b. b || batches_set (batches_from file bs) group c) (none_set file h))
          ∙ sym (batches_set-append (batches_from file more) (batches_from file bs) group c)
          ∙ sym (ap (set_by group c) (from_append file more bs))
          ∙ set
