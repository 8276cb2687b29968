-- Batches that are written together.
use Rattle.std.proofs.Common.{◌≡◌, ◌⊎◌, inl, inr, ⊎_elim, ◌≤◌, ◌<◌, ◌+◌, ℕ, Bool, true, false, cond, List, [], ◌∷◌, ◌++◌, length, take, Option, Some, None, refl, sym, ap, ◌∙◌, subst, arith, append_assoc, append-nil, leb-false}
use Rattle.std.specs.Prelude.{nat_eq, nat_le}
use Rattle.std.proofs.lemmas.Bool.{le-leb, eqb-true, leb-true}
use Rattle.std.proofs.lemmas.List.{length-append}
use Rattle.raft_log_records.specs.Item.{Change, Item}
use Rattle.raft_log_records.specs.Item.Change.{entries, clean, compact, put, delete, mark}
use Rattle.raft_log_records.specs.Spelling.{first_index}
use Rattle.raft_log_records.specs.Batch.{FollowOn}
use Rattle.raft_log_memtables.specs.Content.{GroupContent, Content, entry_at, after_change, after_item, after_batch}
use Rattle.raft_log_memtables.specs.Laws.{all_of}
use Rattle.raft_log_memtables.specs.MemTable.{is_mark_of}
use Rattle.raft_log_memtables.specs.Replay.{mark_of, content_of}
use Rattle.raft_log_memtables.proofs.Folds.{after_batch-append}
use Rattle.raft_log_covers.specs.Cells.{after_batches, AreUnmarked}
use Rattle.raft_log_covers.specs.Queues.{Filed}
use Rattle.raft_log_covers.specs.Written.{Written, IsWritten, batch_of, records_of}
use Rattle.raft_log_covers.specs.Account.{Account, IsAccounted}
use Rattle.raft_log_covers.specs.Marks.{of_group, after_changes}
use Rattle.raft_log_covers.specs.Trace.{AreRun, Knows}
use Rattle.raft_log_covers.specs.Kept.{Traces, IsKept}
use Rattle.raft_log_covers.specs.Joined.{without_marks, Holds, AreChunks, all_entries, chunk_changes}
use Rattle.raft_log_covers.proofs.CellLemmas.{records_compose}
use Rattle.raft_log_covers.proofs.WrittenLemmas.{written_counts, front_of, take_none}
use Rattle.raft_log_covers.proofs.MarkLemmas.{in_group}
use Rattle.raft_log_covers.proofs.KeptLemmas.{elsewhere}

either_same : {X : Type 0} (b : Bool) (x : X) → cond b x x ≡ x
either_same true x = refl
either_same false x = refl

module _ {E : Type 0} where
  -- ---- atomic marks count nothing

  mark_skipped : (group : ℕ) (change : Change E) (s : Content E) → is_mark_of change ≡ true → after_item (record { group = group; change = change }) s ≡ s
  mark_skipped group (mark id status) s e = λ i. λ other. either_same (nat_eq group other) (s other) i
  mark_skipped group (entries es) s e = absurd cc
  mark_skipped group clean s e = absurd cc
  mark_skipped group (compact limit) s e = absurd cc
  mark_skipped group (put name value) s e = absurd cc
  mark_skipped group (delete name) s e = absurd cc

  marks_skipped : (items : List (Item E)) (s : Content E) → after_batch items s ≡ after_batch (without_marks items) s
  marks_skipped [] s = refl
  marks_skipped (item ∷ items) s = by_mark (is_mark_of item.change) refl (marks_skipped items)
    where
      by_mark : (b : Bool) → is_mark_of item.change ≡ b → ((t : Content E) → after_batch items t ≡ after_batch (without_marks items) t) → after_batch (item ∷ items) s ≡ after_batch (cond b (without_marks items) (item ∷ without_marks items)) s
      by_mark true e rest = ap (λ (t : Content E). after_batch items t) (mark_skipped item.group item.change s e) ∙ rest s
      by_mark false e rest = rest (after_item item s)

  one_by_one : (parts : List (List (Item E))) (s : Content E) → after_batch (all_of parts) s ≡ after_batches parts s
  one_by_one [] s = refl
  one_by_one (items ∷ parts) s = after_batch-append items (all_of parts) s ∙ one_by_one parts (after_batch items s)

  pub parts_count : (records parts : List (List (Item E))) (w : Written E) → IsWritten w → AreUnmarked parts → Holds w parts
      → content_of (records ++ records_of w) ≡ content_of (records ++ parts)
  parts_count records parts w written unmarked holds =
      written_counts records w written
      ∙ marks_skipped (batch_of w) (content_of records)
      ∙ ap (λ (items : List (Item E)). after_batch items (content_of records)) holds
      ∙ one_by_one parts (content_of records)
      ∙ sym (records_compose records parts unmarked)

  pub same_content_keeps : (traces : Traces) (account : Account) (records others : List (List (Item E))) (content : Content E) (bs : List (Filed E))
      → content_of records ≡ content_of others → IsKept traces account records content bs → IsKept traces account others content bs
  same_content_keeps traces account records others content bs e k = record {
    accounted = subst (λ (s : Content E). IsAccounted account s content bs) e k.accounted;
    bounds = k.bounds;
    knows = λ group. subst (λ (s : Content E). Knows (traces group) (s group) (content group) (account group)) e (k.knows group);
    files = k.files;
  }

  pub parts_keep : (traces : Traces) (account : Account) (records parts : List (List (Item E))) (content : Content E) (bs : List (Filed E)) (w : Written E)
      → IsWritten w → AreUnmarked parts → Holds w parts → IsKept traces account (records ++ parts) content bs → IsKept traces account (records ++ records_of w) content bs
  parts_keep traces account records parts content bs w written unmarked holds k =
      same_content_keeps traces account (records ++ parts) (records ++ records_of w) content bs (sym (parts_count records parts w written unmarked holds)) k

  pub fronts_keep : (before after : Traces) (old new : Account) (records : List (List (Item E))) (content : Content E) (bs : List (Filed E)) (w : Written E)
      → IsWritten w → IsKept before old records content bs → IsKept after new (records ++ records_of w) content bs
      → (n : ℕ) → IsKept before old (records ++ take n (records_of w)) content bs ⊎ IsKept after new (records ++ take n (records_of w)) content bs
  fronts_keep before after old new records content bs w written k l n = ⊎_elim
      (λ none. inl (same_content_keeps before old records (records ++ take n (records_of w)) content bs (sym (at_front ∙ none records)) k))
      (λ all. inr (same_content_keeps after new (records ++ records_of w) (records ++ take n (records_of w)) content bs
      (sym (at_front ∙ ap (λ (t : List (List (Item E))). content_of (records ++ t)) (all.1 ∙ ap (λ (t : List (List (Item E))). records_of w ++ t) (take_none all.0) ∙ append-nil (records_of w)))) l))
      (front_of w written [] n)
    where
      at_front : content_of (records ++ take n (records_of w)) ≡ content_of (records ++ take n (records_of w ++ []))
      at_front = ap (λ (t : List (List (Item E))). content_of (records ++ take n t)) (sym (append-nil (records_of w)))

  -- ---- chunks

  none_from : (es : List (ℕ × E)) (first i : ℕ) → FollowOn (λ e. e.0) first es → first + length es ≤ i → entry_at es i ≡ None
  none_from [] first i f h = refl
  none_from (e ∷ es) first i f h = by_test (nat_eq e.0 i) refl (none_from es (first + 1) i f.1 (omega (arith, h)))
    where
      by_test : (b : Bool) → nat_eq e.0 i ≡ b → entry_at es i ≡ None → cond b (Some e.1) (entry_at es i) ≡ None
      by_test true x rest = let same = eqb-true e.0 i x in absurd (omega (arith, f.0, h, same))
      by_test false x rest = rest

  none_before : (es : List (ℕ × E)) (first i : ℕ) → FollowOn (λ e. e.0) first es → i < first → entry_at es i ≡ None
  none_before [] first i f h = refl
  none_before (e ∷ es) first i f h = by_test (nat_eq e.0 i) refl (none_before es (first + 1) i f.1 (omega (arith, h)))
    where
      by_test : (b : Bool) → nat_eq e.0 i ≡ b → entry_at es i ≡ None → cond b (Some e.1) (entry_at es i) ≡ None
      by_test true x rest = let same = eqb-true e.0 i x in absurd (omega (arith, f.0, h, same))
      by_test false x rest = rest

  first_of : (es : List (ℕ × E)) (first : ℕ) → FollowOn (λ e. e.0) first es → 0 < length es → first_index es ≡ first
  first_of [] first f h = absurd (omega (arith, h))
  first_of (e ∷ es) first f h = f.0

  append_low : (es d : List (ℕ × E)) (first i : ℕ) → FollowOn (λ e. e.0) first d → i < first → entry_at (es ++ d) i ≡ entry_at es i
  append_low [] d first i f h = none_before d first i f h
  append_low (e ∷ es) d first i f h = ap (λ (o : Option E). cond (nat_eq e.0 i) (Some e.1) o) (append_low es d first i f h)

  append_high : (es d : List (ℕ × E)) (first i : ℕ) → FollowOn (λ e. e.0) first es → first + length es ≤ i → entry_at (es ++ d) i ≡ entry_at d i
  append_high [] d first i f h = refl
  append_high (e ∷ es) d first i f h = by_test (nat_eq e.0 i) refl (append_high es d (first + 1) i f.1 (omega (arith, h)))
    where
      by_test : (b : Bool) → nat_eq e.0 i ≡ b → entry_at (es ++ d) i ≡ entry_at d i → cond b (Some e.1) (entry_at (es ++ d) i) ≡ entry_at d i
      by_test true x rest = let same = eqb-true e.0 i x in absurd (omega (arith, f.0, h, same))
      by_test false x rest = rest

  follow_on-append : (es d : List (ℕ × E)) (first : ℕ) → FollowOn (λ e. e.0) first es → FollowOn (λ e. e.0) (first + length es) d → FollowOn (λ e. e.0) first (es ++ d)
  follow_on-append [] d first f g = subst (λ (n : ℕ). FollowOn (λ (e : ℕ × E). e.0) n d) (omega arith) g
  follow_on-append (e ∷ es) d first f g = (f.0, follow_on-append es d (first + 1) f.1 (subst (λ (n : ℕ). FollowOn (λ (e : ℕ × E). e.0) n d) (omega arith) g))

  first_stays : (es d : List (ℕ × E)) → 0 < length es → first_index (es ++ d) ≡ first_index es
  first_stays [] d h = absurd (omega (arith, h))
  first_stays (e ∷ es) d h = refl

  two_chunks : (es d : List (ℕ × E)) (first : ℕ) (g : GroupContent E) → 0 < length es → FollowOn (λ e. e.0) first es → 0 < length d → FollowOn (λ e. e.0) (first + length es) d
      → after_change (entries d) (after_change (entries es) g) ≡ after_change (entries (es ++ d)) g
  two_chunks es d first g he fe hd fd = λ i. record { there = true; entry = λ n. same n i; value = g.value }
    where
      a : first_index es ≡ first
      a = first_of es first fe he

      b : first_index d ≡ first + length es
      b = first_of d (first + length es) fd hd

      same : (n : ℕ) → cond (nat_le (first_index d) n) (entry_at d n) (cond (nat_le (first_index es) n) (entry_at es n) (g.entry n)) ≡ cond (nat_le (first_index (es ++ d)) n) (entry_at (es ++ d) n) (g.entry n)
      same n =
          ap (λ (m : ℕ). cond (nat_le m n) (entry_at d n) (cond (nat_le (first_index es) n) (entry_at es n) (g.entry n))) b
          ∙ by_place (nat_le (first + length es) n) refl
          ∙ sym (ap (λ (m : ℕ). cond (nat_le m n) (entry_at (es ++ d) n) (g.entry n)) (first_stays es d he))
        where
          by_place : (t : Bool) → nat_le (first + length es) n ≡ t → cond t (entry_at d n) (cond (nat_le (first_index es) n) (entry_at es n) (g.entry n)) ≡ cond (nat_le (first_index es) n) (entry_at (es ++ d) n) (g.entry n)
          by_place true x =
              let far = leb-true (first + length es) n x in
              sym (append_high es d first n fe far)
              ∙ sym (ap (λ (t : Bool). cond t (entry_at (es ++ d) n) (g.entry n)) (le-leb (first_index es) n (omega (arith, far, a))))
          by_place false x = ap (λ (o : Option E). cond (nat_le (first_index es) n) o (g.entry n)) (sym (append_low es d (first + length es) n fd (below_it x)))
            where
              below_it : nat_le (first + length es) n ≡ false → n < first + length es
              below_it y = leb-false (first + length es) n y

  chunks_joined : (chunks : List (List (ℕ × E))) (es : List (ℕ × E)) (first : ℕ) (g : GroupContent E) → AreChunks first (es ∷ chunks)
      → after_changes (chunk_changes chunks) (after_change (entries es) g) ≡ after_change (entries (es ++ all_entries chunks)) g
  chunks_joined [] es first g h = ap (λ (l : List (ℕ × E)). after_change (entries l) g) (sym (append-nil es))
  chunks_joined (d ∷ chunks) es first g h =
      ap (λ (x : GroupContent E). after_changes (chunk_changes chunks) x) (two_chunks es d first g h.0 h.1 h.2.0 h.2.1)
      ∙ chunks_joined chunks (es ++ d) first g (
        longer,
        follow_on-append es d first h.1 h.2.1,
        subst (λ (n : ℕ). AreChunks n chunks) (counted es d first) h.2.2,
      )
      ∙ ap (λ (l : List (ℕ × E)). after_change (entries l) g) (regrouped es d (all_entries chunks))
    where
      longer : 0 < length (es ++ d)
      longer = let some = h.0 in simp length-append (omega (arith, some))

      counted : (x y : List (ℕ × E)) (n : ℕ) → (n + length x) + length y ≡ n + length (x ++ y)
      counted x y n = simp length-append (omega arith)

      regrouped : (x y z : List (ℕ × E)) → (x ++ y) ++ z ≡ x ++ (y ++ z)
      regrouped x y z = rw append_assoc

  chunks_follow : (chunks : List (List (ℕ × E))) (first : ℕ) → AreChunks first chunks → FollowOn (λ e. e.0) first (all_entries chunks)
  chunks_follow [] first h = tt
  chunks_follow (es ∷ chunks) first h = follow_on-append es (all_entries chunks) first h.1 (chunks_follow chunks (first + length es) h.2)

  pub are_run : (es : List (ℕ × E)) (first : ℕ) → 0 < length es → FollowOn (λ e. e.0) first es → AreRun es
  are_run es first h f = record {
    some = h;
    no_more = λ i l. none_from es first i f (subst (λ (n : ℕ). n + length es ≤ i) (first_of es first f h) l);
  }

  pub chunks_are_run : (first : ℕ) (es : List (ℕ × E)) (chunks : List (List (ℕ × E))) → AreChunks first (es ∷ chunks) → AreRun (all_entries (es ∷ chunks))
  chunks_are_run first es chunks h = are_run (all_entries (es ∷ chunks)) first longer (chunks_follow (es ∷ chunks) first h)
    where
      longer : 0 < length (es ++ all_entries chunks)
      longer = let some = h.0 in simp length-append (omega (arith, some))

  unmarked_chunks : (group : ℕ) (chunks : List (List (ℕ × E))) → mark_of (of_group group (chunk_changes chunks)) ≡ None
  unmarked_chunks group [] = refl
  unmarked_chunks group (es ∷ chunks) = unmarked_chunks group chunks

  pub chunks_count : (records : List (List (Item E))) (group first : ℕ) (es : List (ℕ × E)) (chunks : List (List (ℕ × E))) → AreChunks first (es ∷ chunks)
      → content_of (records ++ of_group group (chunk_changes (es ∷ chunks)) ∷ []) ≡ content_of (records ++ of_group group (entries (all_entries (es ∷ chunks)) ∷ []) ∷ [])
  chunks_count records group first es chunks h =
      records_compose records (of_group group (chunk_changes (es ∷ chunks)) ∷ []) (unmarked_chunks group (es ∷ chunks), tt)
      ∙ (λ i. λ other. by_group other (nat_eq group other) refl i)
      ∙ sym (records_compose records (of_group group (entries (all_entries (es ∷ chunks)) ∷ []) ∷ []) (refl, tt))
    where
      by_group : (other : ℕ) (b : Bool) → nat_eq group other ≡ b
          → after_batch (of_group group (chunk_changes (es ∷ chunks))) (content_of records) other ≡ after_batch (of_group group (entries (all_entries (es ∷ chunks)) ∷ [])) (content_of records) other
      by_group other true e = subst (λ (n : ℕ). after_batch (of_group group (chunk_changes (es ∷ chunks))) (content_of records) n ≡ after_batch (of_group group (entries (all_entries (es ∷ chunks)) ∷ [])) (content_of records) n) (eqb-true group other e)
          (in_group group (chunk_changes (es ∷ chunks)) (content_of records)
          ∙ chunks_joined chunks es first (content_of records group) h
          ∙ sym (in_group group (entries (all_entries (es ∷ chunks)) ∷ []) (content_of records)))
      by_group other false e = elsewhere group other (chunk_changes (es ∷ chunks)) (content_of records) e ∙ sym (elsewhere group other (entries (all_entries (es ∷ chunks)) ∷ []) (content_of records) e)
