-- What is known of a trace stays so, and tells the marks.
use Rattle.std.proofs.Common.{◌≡◌, ◌≤◌, ◌<◌, ◌+◌, ℕ, suc, Bool, true, false, cond, ◌||◌, List, [], ◌∷◌, ◌++◌, length, Some, None, refl, sym, ap, ◌∙◌, subst, le_refl, le_trans, arith, ltb-true, ltb-false, leb-true, leb-false, true≢false}
use Rattle.std.specs.Prelude.{nat_le, nat_lt, bytes_eq}
use Rattle.std.specs.Cmp.Lexicographic.{bytes_decides}
use Rattle.raft_log_records.specs.Item.{Change}
use Rattle.raft_log_records.specs.Item.Change.{entries, clean, compact, put, delete, mark}
use Rattle.raft_log_records.specs.Spelling.{first_index}
use Rattle.raft_log_memtables.specs.Content.{GroupContent, entry_at, after_change}
use Rattle.raft_log_covers.specs.Cells.Cell.{index, key}
use Rattle.raft_log_covers.specs.Marks.{Names, is_in, MayMark}
use Rattle.raft_log_covers.specs.Trace.{Trace, entered, greater, cut, without, trace_after, names_after, GoesOn, GoOn, Knows, KnowsRemoved}
use Rattle.raft_log_covers.proofs.TraceLemmas.{least_of_greater, in_greater}

not_both : {a b : ℕ} → a < b → b ≤ a → ⊥
not_both p q = omega (arith, p, q)

above_both : (a b : ℕ) → (a ≤ cond (nat_lt a b) b a) × (b ≤ cond (nat_lt a b) b a)
above_both a b = least_of_greater a b

-- ---- keys that are taken off a list

same_text : (a b : List ℕ) → bytes_eq a b ≡ true → a ≡ b
same_text a b e = (bytes_decides a b).0 e

other_text : (a b : List ℕ) → bytes_eq a b ≡ false → bytes_eq b a ≡ false
other_text a b e = by_test (bytes_eq b a) refl
  where
    by_test : (d : Bool) → bytes_eq b a ≡ d → d ≡ false
    by_test true h = absurd (true≢false (sym ((bytes_decides a b).1 (sym (same_text b a h))) ∙ e))
    by_test false h = refl

taken_off : (name : List ℕ) (ks : List (List ℕ)) → is_in name (without name ks) ≡ false
taken_off name [] = refl
taken_off name (k ∷ ks) = by_test (bytes_eq name k) refl (taken_off name ks)
  where
    by_test : (d : Bool) → bytes_eq name k ≡ d → is_in name (without name ks) ≡ false → is_in name (cond d (without name ks) (k ∷ without name ks)) ≡ false
    by_test true e rest = rest
    by_test false e rest = ap (λ (b : Bool). b || is_in name (without name ks)) (other_text name k e) ∙ rest

others_stay : (name q : List ℕ) (ks : List (List ℕ)) → bytes_eq name q ≡ false → is_in q (without name ks) ≡ is_in q ks
others_stay name q [] e = refl
others_stay name q (k ∷ ks) e = by_test (bytes_eq name k) refl (others_stay name q ks e)
  where
    by_test : (d : Bool) → bytes_eq name k ≡ d → is_in q (without name ks) ≡ is_in q ks → is_in q (cond d (without name ks) (k ∷ without name ks)) ≡ (bytes_eq k q || is_in q ks)
    by_test true f rest = rest ∙ sym (ap (λ (b : Bool). b || is_in q ks) (subst (λ (x : List ℕ). bytes_eq x q ≡ false) (same_text name k f) e))
    by_test false f rest = ap (λ (b : Bool). bytes_eq k q || b) rest

in_last : (q name : List ℕ) (ks : List (List ℕ)) → is_in q (ks ++ name ∷ []) ≡ (bytes_eq name q || is_in q ks)
in_last q name [] = refl
in_last q name (k ∷ ks) = either (bytes_eq k q) (bytes_eq name q) (in_last q name ks)
  where
    either : (a b : Bool) → is_in q (ks ++ name ∷ []) ≡ (b || is_in q ks) → (a || is_in q (ks ++ name ∷ [])) ≡ (b || (a || is_in q ks))
    either true true h = refl
    either true false h = refl
    either false b h = h

module _ {E : Type 0} where
  -- no entry is there outside the ends
  pub none_outside : (t : Trace) (older g : GroupContent E) (names : Names) → Knows t older g names → (i : ℕ) → (t.low ≤ i → t.next ≤ i) → g.entry i ≡ None
  none_outside t older g names k i past = by_low (nat_lt i t.low) refl
    where
      by_low : (b : Bool) → nat_lt i t.low ≡ b → g.entry i ≡ None
      by_low true e = k.below i (ltb-true i t.low e)
      by_low false e = let h = ltb-false i t.low e in k.above i h (past h)

  pub no_entries : (t : Trace) (older g : GroupContent E) (names : Names) → Knows t older g names → t.next ≤ t.low → (i : ℕ) → g.entry i ≡ None
  no_entries t older g names k none i = none_outside t older g names k i (λ h. le_trans none h)

  -- ---- entries

  entries_known : (file : ℕ) (es : List (ℕ × E)) (t : Trace) (older g : GroupContent E) (names : Names) → GoesOn es t → Knows t older g names → (b : Bool) → nat_lt t.low t.next ≡ b
      → Knows (entered file (first_index es) (first_index es + length es) t b) older (after_change (entries es) g) (names_after file (entries es) names)
  entries_known file es t older g names on k b e = by_case b e
    where
      first : ℕ
      first = first_index es

      has : 0 < length es
      has = on.run.some

      low_entry : (i : ℕ) → i < first_index es → g.entry i ≡ None → cond (nat_le (first_index es) i) (entry_at es i) (g.entry i) ≡ None
      low_entry i l n = by_test (nat_le (first_index es) i) refl
        where
          by_test : (b : Bool) → nat_le (first_index es) i ≡ b → cond b (entry_at es i) (g.entry i) ≡ None
          by_test true e = absurd (not_both l (leb-true (first_index es) i e))
          by_test false e = n

      high_entry : (i : ℕ) → first_index es + length es ≤ i → cond (nat_le (first_index es) i) (entry_at es i) (g.entry i) ≡ None
      high_entry i l = by_test (nat_le (first_index es) i) refl
        where
          by_test : (b : Bool) → nat_le (first_index es) i ≡ b → cond b (entry_at es i) (g.entry i) ≡ None
          by_test true e = on.run.no_more i l
          by_test false e = absurd (let h : suc i ≤ first_index es = leb-false (first_index es) i e in omega (arith, h, l))

      since : t.cleaned ≡ true → (i : ℕ) → cond (nat_le (first_index es) i) (Some file) (names (index i)) ≡ None → cond (nat_le (first_index es) i) (entry_at es i) (g.entry i) ≡ None
      since c i = by_test (nat_le (first_index es) i)
        where
          by_test : (b : Bool) → cond b (Some file) (names (index i)) ≡ None → cond b (entry_at es i) (g.entry i) ≡ None
          by_test true h = absurd cc
          by_test false h = k.entries_since c i h

      by_case : (b : Bool) → nat_lt t.low t.next ≡ b → Knows (entered file (first_index es) (first_index es + length es) t b) older (after_change (entries es) g) (names_after file (entries es) names)
      by_case true e = record {
        below = λ i l. low_entry i (le_trans l (on.inside e).0) (k.below i l);
        above = λ i l m. high_entry i m;
        ends = (above_both t.top (first_index es + length es)).1;
        empty_top = λ h. absurd (let inside = (on.inside e).0 in omega (arith, h, inside, has));
        past = λ c i h. k.past c i (le_trans (above_both t.top (first_index es + length es)).0 h);
        gone = k.gone;
        all_gone = k.all_gone;
        entries_since = since;
        keys_since = k.keys_since;
      }
      by_case false e = record {
        below = λ i l. low_entry i l (no_entries t older g names k (ltb-false t.low t.next e) i);
        above = λ i l m. high_entry i m;
        ends = (above_both t.top (first_index es + length es)).1;
        empty_top = λ h. absurd (omega (arith, h, has));
        past = λ c i h. k.past c i (le_trans (above_both t.top (first_index es + length es)).0 h);
        gone = k.gone;
        all_gone = k.all_gone;
        entries_since = since;
        keys_since = k.keys_since;
      }

  -- ---- a compaction

  compact_known : (file limit : ℕ) (t : Trace) (older g : GroupContent E) (names : Names) → Knows t older g names → (b : Bool) → nat_lt (greater t.low limit) t.next ≡ b
      → Knows (cut file (greater t.low limit) t b) older (after_change (compact limit) g) (names_after {E = E} file (compact limit) names)
  compact_known file limit t older g names k b e = by_case b e
    where
      low_entry : (i : ℕ) → i < greater t.low limit → cond (nat_lt i limit) None (g.entry i) ≡ None
      low_entry i l = by_test (nat_lt i limit) refl
        where
          by_test : (b : Bool) → nat_lt i limit ≡ b → cond b None (g.entry i) ≡ None
          by_test true e = refl
          by_test false e = k.below i (in_greater t.low limit i l (ltb-false i limit e))

      high_entry : (i : ℕ) → greater t.low limit ≤ i → t.next ≤ i → cond (nat_lt i limit) None (g.entry i) ≡ None
      high_entry i l m = by_test (nat_lt i limit)
        where
          by_test : (b : Bool) → cond b None (g.entry i) ≡ None
          by_test true = refl
          by_test false = k.above i (le_trans (least_of_greater t.low limit).0 l) m

      any_entry : t.next ≤ greater t.low limit → (i : ℕ) → cond (nat_lt i limit) None (g.entry i) ≡ None
      any_entry none i = by_test (nat_lt i (greater t.low limit)) refl
        where
          by_test : (b : Bool) → nat_lt i (greater t.low limit) ≡ b → cond (nat_lt i limit) None (g.entry i) ≡ None
          by_test true e = low_entry i (ltb-true i (greater t.low limit) e)
          by_test false e = let h = ltb-false i (greater t.low limit) e in high_entry i h (le_trans none h)

      since : t.cleaned ≡ true → (i : ℕ) → cond (nat_lt i limit) (Some file) (names (index i)) ≡ None → cond (nat_lt i limit) None (g.entry i) ≡ None
      since c i = by_test (nat_lt i limit)
        where
          by_test : (b : Bool) → cond b (Some file) (names (index i)) ≡ None → cond b None (g.entry i) ≡ None
          by_test true h = refl
          by_test false h = k.entries_since c i h

      by_case : (b : Bool) → nat_lt (greater t.low limit) t.next ≡ b → Knows (cut file (greater t.low limit) t b) older (after_change (compact limit) g) (names_after {E = E} file (compact limit) names)
      by_case true e = record {
        below = low_entry;
        above = high_entry;
        ends = k.ends;
        empty_top = λ h. absurd (not_both (ltb-true (greater t.low limit) t.next e) h);
        past = k.past;
        gone = k.gone;
        all_gone = k.all_gone;
        entries_since = since;
        keys_since = k.keys_since;
      }
      by_case false e = record {
        below = λ i l. any_entry (ltb-false (greater t.low limit) t.next e) i;
        above = λ i l m. any_entry (ltb-false (greater t.low limit) t.next e) i;
        ends = le_refl t.top;
        empty_top = λ h. le_refl t.top;
        past = k.past;
        gone = k.gone;
        all_gone = k.all_gone;
        entries_since = since;
        keys_since = k.keys_since;
      }

  -- ---- keys

  put_removed : (file : ℕ) (name value : List ℕ) (t : Trace) (older g : GroupContent E) (names : Names) → KnowsRemoved t older g names
      → KnowsRemoved (trace_after {E = E} file (put name value) t) older (after_change (put name value) g) (names_after {E = E} file (put name value) names)
  put_removed file name value t older g names k = record {
    gone = λ q h. gone_so q (bytes_eq name q) refl h;
    all_gone = λ c q h n. all_so c q (bytes_eq name q) refl h n;
    entries_since = k.entries_since;
    keys_since = λ c q h. since c q (bytes_eq name q) h;
  }
    where
      gone_so : (q : List ℕ) (b : Bool) → bytes_eq name q ≡ b → is_in q (without name t.deleted) ≡ true → cond b (Some value) (g.value q) ≡ None
      gone_so q true e h = absurd (true≢false (sym h ∙ subst (λ (x : List ℕ). is_in x (without name t.deleted) ≡ false) (same_text name q e) (taken_off name t.deleted)))
      gone_so q false e h = k.gone q (sym (others_stay name q t.deleted e) ∙ h)

      all_so : t.cleaned ≡ false → (q : List ℕ) (b : Bool) → bytes_eq name q ≡ b → cond b (Some value) (g.value q) ≡ None → is_in q (without name t.deleted) ≡ false → older.value q ≡ None
      all_so c q true e h n = absurd cc
      all_so c q false e h n = k.all_gone c q h (sym (others_stay name q t.deleted e) ∙ n)

      since : t.cleaned ≡ true → (q : List ℕ) (b : Bool) → cond b (Some file) (names (key q)) ≡ None → cond b (Some value) (g.value q) ≡ None
      since c q true h = absurd cc
      since c q false h = k.keys_since c q h

  delete_removed : (file : ℕ) (name : List ℕ) (t : Trace) (older g : GroupContent E) (names : Names) → KnowsRemoved t older g names
      → KnowsRemoved (trace_after {E = E} file (delete name) t) older (after_change (delete name) g) (names_after {E = E} file (delete name) names)
  delete_removed file name t older g names k = record {
    gone = λ q h. gone_so q (bytes_eq name q) refl (sym (in_last q name (without name t.deleted)) ∙ h);
    all_gone = λ c q h n. all_so c q (bytes_eq name q) refl h (sym (in_last q name (without name t.deleted)) ∙ n);
    entries_since = k.entries_since;
    keys_since = λ c q h. since c q (bytes_eq name q) h;
  }
    where
      gone_so : (q : List ℕ) (b : Bool) → bytes_eq name q ≡ b → (b || is_in q (without name t.deleted)) ≡ true → cond b None (g.value q) ≡ None
      gone_so q true e h = refl
      gone_so q false e h = k.gone q (sym (others_stay name q t.deleted e) ∙ h)

      all_so : t.cleaned ≡ false → (q : List ℕ) (b : Bool) → bytes_eq name q ≡ b → cond b None (g.value q) ≡ None → (b || is_in q (without name t.deleted)) ≡ false → older.value q ≡ None
      all_so c q true e h n = absurd (true≢false n)
      all_so c q false e h n = k.all_gone c q h (sym (others_stay name q t.deleted e) ∙ n)

      since : t.cleaned ≡ true → (q : List ℕ) (b : Bool) → cond b (Some file) (names (key q)) ≡ None → cond b None (g.value q) ≡ None
      since c q true h = refl
      since c q false h = k.keys_since c q h

  removed_of : (t : Trace) (older g : GroupContent E) (names : Names) → Knows t older g names → KnowsRemoved t older g names
  removed_of t older g names k = record { gone = k.gone; all_gone = k.all_gone; entries_since = k.entries_since; keys_since = k.keys_since }

  entries_removed : (file : ℕ) (es : List (ℕ × E)) (t : Trace) (older g : GroupContent E) (names : Names) → KnowsRemoved t older g names → (b : Bool)
      → KnowsRemoved (entered file (first_index es) (first_index es + length es) t b) older (after_change (entries es) g) (names_after file (entries es) names)
  entries_removed file es t older g names k b = by_case b
    where
      since : t.cleaned ≡ true → (i : ℕ) → cond (nat_le (first_index es) i) (Some file) (names (index i)) ≡ None → cond (nat_le (first_index es) i) (entry_at es i) (g.entry i) ≡ None
      since c i = by_test (nat_le (first_index es) i)
        where
          by_test : (b : Bool) → cond b (Some file) (names (index i)) ≡ None → cond b (entry_at es i) (g.entry i) ≡ None
          by_test true h = absurd cc
          by_test false h = k.entries_since c i h

      by_case : (b : Bool) → KnowsRemoved (entered file (first_index es) (first_index es + length es) t b) older (after_change (entries es) g) (names_after file (entries es) names)
      by_case true = record { gone = k.gone; all_gone = k.all_gone; entries_since = since; keys_since = k.keys_since }
      by_case false = record { gone = k.gone; all_gone = k.all_gone; entries_since = since; keys_since = k.keys_since }

  compact_removed : (file limit : ℕ) (t : Trace) (older g : GroupContent E) (names : Names) → KnowsRemoved t older g names → (b : Bool)
      → KnowsRemoved (cut file (greater t.low limit) t b) older (after_change (compact limit) g) (names_after {E = E} file (compact limit) names)
  compact_removed file limit t older g names k b = by_case b
    where
      since : t.cleaned ≡ true → (i : ℕ) → cond (nat_lt i limit) (Some file) (names (index i)) ≡ None → cond (nat_lt i limit) None (g.entry i) ≡ None
      since c i = by_test (nat_lt i limit)
        where
          by_test : (b : Bool) → cond b (Some file) (names (index i)) ≡ None → cond b None (g.entry i) ≡ None
          by_test true h = refl
          by_test false h = k.entries_since c i h

      by_case : (b : Bool) → KnowsRemoved (cut file (greater t.low limit) t b) older (after_change (compact limit) g) (names_after {E = E} file (compact limit) names)
      by_case true = record { gone = k.gone; all_gone = k.all_gone; entries_since = since; keys_since = k.keys_since }
      by_case false = record { gone = k.gone; all_gone = k.all_gone; entries_since = since; keys_since = k.keys_since }

  pub changes_keep_removed : (file : ℕ) (change : Change E) (t : Trace) (older g : GroupContent E) (names : Names) → KnowsRemoved t older g names
      → KnowsRemoved (trace_after file change t) older (after_change change g) (names_after file change names)
  changes_keep_removed file (entries es) t older g names k = entries_removed file es t older g names k (nat_lt t.low t.next)
  changes_keep_removed file clean t older g names k = record {
    gone = λ q h. refl;
    all_gone = λ c. absurd (true≢false c);
    entries_since = λ c i h. refl;
    keys_since = λ c q h. refl;
  }
  changes_keep_removed file (compact limit) t older g names k = compact_removed file limit t older g names k (nat_lt (greater t.low limit) t.next)
  changes_keep_removed file (put name value) t older g names k = put_removed file name value t older g names k
  changes_keep_removed file (delete name) t older g names k = delete_removed file name t older g names k
  changes_keep_removed file (mark id status) t older g names k = record {
    gone = k.gone;
    all_gone = k.all_gone;
    entries_since = k.entries_since;
    keys_since = k.keys_since;
  }

  pub changes_keep_known : (file : ℕ) (change : Change E) (t : Trace) (older g : GroupContent E) (names : Names) → GoOn change t → Knows t older g names
      → Knows (trace_after file change t) older (after_change change g) (names_after file change names)
  changes_keep_known file (entries es) t older g names on k = entries_known file es t older g names on k (nat_lt t.low t.next) refl
  changes_keep_known file clean t older g names on k = record {
    below = λ i l. refl;
    above = λ i l m. refl;
    ends = le_refl 0;
    empty_top = λ h. le_refl 0;
    past = λ c. absurd (true≢false c);
    gone = λ q h. refl;
    all_gone = λ c. absurd (true≢false c);
    entries_since = λ c i h. refl;
    keys_since = λ c q h. refl;
  }
  changes_keep_known file (compact limit) t older g names on k = compact_known file limit t older g names k (nat_lt (greater t.low limit) t.next) refl
  changes_keep_known file (put name value) t older g names on k = let r = put_removed file name value t older g names (removed_of t older g names k) in record {
    below = k.below;
    above = k.above;
    ends = k.ends;
    empty_top = k.empty_top;
    past = k.past;
    gone = r.gone;
    all_gone = r.all_gone;
    entries_since = r.entries_since;
    keys_since = r.keys_since;
  }
  changes_keep_known file (delete name) t older g names on k = let r = delete_removed file name t older g names (removed_of t older g names k) in record {
    below = k.below;
    above = k.above;
    ends = k.ends;
    empty_top = k.empty_top;
    past = k.past;
    gone = r.gone;
    all_gone = r.all_gone;
    entries_since = r.entries_since;
    keys_since = r.keys_since;
  }
  changes_keep_known file (mark id status) t older g names on k = record {
    below = k.below;
    above = k.above;
    ends = k.ends;
    empty_top = k.empty_top;
    past = k.past;
    gone = k.gone;
    all_gone = k.all_gone;
    entries_since = k.entries_since;
    keys_since = k.keys_since;
  }

  pub traces_tell_marks : (t : Trace) (older g : GroupContent E) (names : Names) → g.there ≡ true → Knows t older g names → MayMark older g names t.cleaned t.low (nat_le t.next t.low) t.deleted
  traces_tell_marks t older g names there k = record {
    there = there;
    below = λ i h. k.below i (ltb-true i t.low h);
    no_entry = λ e i. no_entries t older g names k (leb-true t.next t.low e) i;
    past = λ e c i h. k.past c i (le_trans (k.empty_top (leb-true t.next t.low e)) (ltb-false i t.low h));
    gone = k.gone;
    all_gone = k.all_gone;
    entries_since = k.entries_since;
    keys_since = k.keys_since;
  }
