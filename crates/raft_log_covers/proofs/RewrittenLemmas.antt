-- What memtables keep, after what cleaning writes.
use Rattle.std.proofs.Common.{◌≡◌, ◌≤◌, ◌+◌, ℕ, suc, Bool, true, false, cond, ◌&&◌, ◌||◌, List, length, Option, Some, None, refl, sym, ◌∙◌, subst, le_trans, arith, ltb-false, leb-false, true≢false}
use Rattle.std.specs.Prelude.{nat_le, nat_lt, bytes_eq, is_some}
use Rattle.std.specs.Cmp.Lexicographic.{bytes_decides}
use Rattle.raft_log_records.specs.Item.Change.{compact}
use Rattle.raft_log_records.specs.Spelling.{first_index}
use Rattle.raft_log_memtables.specs.Content.{GroupContent, Content, no_group, entry_at, after_change}
use Rattle.raft_log_covers.specs.Cells.{Cell}
use Rattle.raft_log_covers.specs.Cells.Cell.{presence, index, key}
use Rattle.raft_log_covers.specs.Account.{Account, IsFrom, NamesNoneBefore}
use Rattle.raft_log_covers.specs.Marks.{Names, is_in, marks, after_changes, names_after_marks, names_after_entries, names_after_put}
use Rattle.raft_log_covers.proofs.MarkLemmas.{deletes_entry}
use Rattle.raft_log_covers.specs.Trace.{Trace, file_of, IsBounded, Bounds, trace_marked, trace_rewritten, settled_by, trace_put, AreRun, Knows, KeepsBoundsRewritten, KeepsKnownRewritten}

module _ {E : Type 0} where
  pub traces_let_go : (traces : ℕ → Trace) (content : Content E) (account : Account) (first : ℕ) → ((group : ℕ) → Bounds (traces group) (content group) (account group))
      → ((group : ℕ) (c : Cell) → IsFrom first (file_of (traces group) (content group) c)) → NamesNoneBefore first account
  traces_let_go traces content account first bounds late group c = by_file (account group c) (file_of (traces group) (content group) c) (bounds group c) (late group c)
    where
      by_file : (o kept : Option ℕ) → IsBounded o kept → IsFrom first kept → IsFrom first o
      by_file None kept h l = tt
      by_file (Some file) None h l = absurd h
      by_file (Some file) (Some kept) h l = le_trans l h

  marked_bounds : (t : Trace) (g : GroupContent E) (names : Names) → Bounds t g names → Bounds (trace_marked t) g (names_after_marks g names t.low (nat_le t.next t.low))
  marked_bounds t g names h presence = tt
  marked_bounds t g names h (index i) = by_place (nat_le t.next t.low) (nat_lt i t.low) (h (index i))
    where
      by_place : (e l : Bool) → IsBounded (names (index i)) (cond l t.since (cond (nat_lt i t.next) (t.entry_file i) t.tail))
          → IsBounded (cond (e || l) None (names (index i))) (cond l None (cond (nat_lt i t.next) (t.entry_file i) (cond e None t.tail)))
      by_place true l h = tt
      by_place false true h = tt
      by_place false false h = h
  marked_bounds t g names h (key k) = by_value (is_some (g.value k)) (h (key k))
    where
      by_value : (b : Bool) → IsBounded (names (key k)) (cond b (t.key_file k) t.since) → IsBounded (cond b (names (key k)) None) (cond b (t.key_file k) None)
      by_value true h = h
      by_value false h = tt

  entries_bounds : (t : Trace) (g : GroupContent E) (names : Names) → Bounds t g names → (es : List (ℕ × E)) (stop : ℕ) → first_index es ≤ t.next
      → Bounds (trace_rewritten (first_index es) stop t) g (names_after_entries names es (settled_by stop t))
  entries_bounds t g names h es stop on presence = tt
  entries_bounds t g names h es stop on (index i) =
      by_place (nat_le (first_index es) i) refl (nat_le t.next stop) refl (nat_lt i stop) (nat_lt i t.low) (nat_lt i t.next) refl (h (index i))
    where
      late : nat_le (first_index es) i ≡ false → nat_lt i t.next ≡ false → ⊥
      late e f = let a : suc i ≤ first_index es = leb-false (first_index es) i e in let b = ltb-false i t.next f in omega (arith, a, b, on)

      by_place : (f : Bool) → nat_le (first_index es) i ≡ f → (w : Bool) → nat_le t.next stop ≡ w → (s l n : Bool) → nat_lt i t.next ≡ n → IsBounded (names (index i)) (cond l t.since (cond n (t.entry_file i) t.tail))
          → IsBounded (cond (f && (w || s)) None (names (index i))) (cond l t.since (cond n (cond (f && s) None (t.entry_file i)) (cond w None t.tail)))
      by_place true e true x s l n y h = tt
      by_place true e false x true l n y h = tt
      by_place true e false x false l n y h = h
      by_place false e w x s true n y h = h
      by_place false e w x s false true y h = h
      by_place false e w x s false false y h = absurd (late e y)
  entries_bounds t g names h es stop on (key k) = h (key k)

  keys_bounds : (t : Trace) (g : GroupContent E) (names : Names) → Bounds t g names → (name : List ℕ) → Bounds (trace_put name t) g (names_after_put names name)
  keys_bounds t g names h name presence = tt
  keys_bounds t g names h name (index i) = h (index i)
  keys_bounds t g names h name (key k) = by_name (bytes_eq name k) (is_some (g.value k)) (h (key k))
    where
      by_name : (b v : Bool) → IsBounded (names (key k)) (cond v (t.key_file k) t.since) → IsBounded (cond b None (names (key k))) (cond v (cond b None (t.key_file k)) t.since)
      by_name true v h = tt
      by_name false v h = h

  pub rewrites_keep_bounds : (t : Trace) (g : GroupContent E) (names : Names) → Bounds t g names → KeepsBoundsRewritten t g names
  rewrites_keep_bounds t g names h = record { marked = marked_bounds t g names h; entries_too = entries_bounds t g names h; keys_too = keys_bounds t g names h }

  -- ---- what is known

  none_left : (b : Bool) (x : Option E) → x ≡ None → cond b None x ≡ None
  none_left true x h = refl
  none_left false x h = h

  marked_past : (t : Trace) (older g : GroupContent E) (names : Names) → Knows t older g names → (b : Bool) → t.cleaned ≡ b → (i : ℕ) → t.top ≤ i → (after_changes (marks b t.low t.deleted) older).entry i ≡ None
  marked_past t older g names k true e i h = deletes_entry E t.deleted (after_change (compact t.low) no_group) i ∙ none_left (nat_lt i t.low) None refl
  marked_past t older g names k false e i h = deletes_entry E t.deleted (after_change (compact t.low) older) i ∙ none_left (nat_lt i t.low) (older.entry i) (k.past e i h)

  pub rewrites_keep_known : (t : Trace) (older g : GroupContent E) (names : Names) → Knows t older g names → KeepsKnownRewritten t older g names
  rewrites_keep_known t older g names k = record {
    marked = λ values. record {
      below = k.below;
      above = k.above;
      ends = k.ends;
      empty_top = k.empty_top;
      past = λ c i h. marked_past t older g names k t.cleaned refl i h;
      gone = λ q h. absurd (true≢false (sym h));
      all_gone = λ c q h n. values q h;
      entries_since = λ c. absurd (true≢false (sym c));
      keys_since = λ c. absurd (true≢false (sym c));
    };
    entries_too = λ es stop run ends apart. record {
      below = k.below;
      above = k.above;
      ends = k.ends;
      empty_top = k.empty_top;
      past = λ c i h. past_entries es run ends c i h;
      gone = k.gone;
      all_gone = k.all_gone;
      entries_since = λ c. absurd (true≢false (sym c ∙ apart));
      keys_since = λ c. absurd (true≢false (sym c ∙ apart));
    };
    keys_too = λ name value has apart. record {
      below = k.below;
      above = k.above;
      ends = k.ends;
      empty_top = k.empty_top;
      past = k.past;
      gone = k.gone;
      all_gone = λ c q h n. values_gone name value has c q h n (bytes_eq name q) refl;
      entries_since = λ c. absurd (true≢false (sym c ∙ apart));
      keys_since = λ c. absurd (true≢false (sym c ∙ apart));
    };
  }
    where
      past_entries : (es : List (ℕ × E)) → AreRun es → first_index es + length es ≤ t.top → t.cleaned ≡ false → (i : ℕ) → t.top ≤ i → cond (nat_le (first_index es) i) (entry_at es i) (older.entry i) ≡ None
      past_entries es run ends c i h = by_test (nat_le (first_index es) i)
        where
          by_test : (b : Bool) → cond b (entry_at es i) (older.entry i) ≡ None
          by_test true = run.no_more i (le_trans ends h)
          by_test false = k.past c i h

      values_gone : (name value : List ℕ) → g.value name ≡ Some value → t.cleaned ≡ false → (q : List ℕ) → g.value q ≡ None → is_in q t.deleted ≡ false → (b : Bool) → bytes_eq name q ≡ b → cond b (Some value) (older.value q) ≡ None
      values_gone name value has c q h n true e = elim (has_none has (subst (λ (x : List ℕ). g.value x ≡ None) (sym ((bytes_decides name q).0 e)) h)) [ ]
        where
          has_none : {X : Type 0} {o : Option X} {x : X} → o ≡ Some x → o ≡ None → ⊥
          has_none a b = absurd cc
      values_gone name value has c q h n false e = k.all_gone c q h n
