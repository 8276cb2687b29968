-- What is so of a group while the append queue is replayed, whatever batches come.
use Rattle.std.proofs.Common.{◌≡◌, ◌≤◌, ◌+◌, ℕ, suc, Bool, true, false, cond, List, [], ◌∷◌, ◌++◌, length, Option, Some, None, refl, sym, ap, subst, ◌∙◌, arith, le_refl, le_trans, ltb-true, ltb-false, leb-false, true≢false}
use Rattle.std.specs.Prelude.{IsSome, nat_eq, nat_le, nat_lt, bytes_eq}
use Rattle.std.specs.List.{AllByRecursion}
use Rattle.std.proofs.lemmas.Bool.{eq-eqb, eqb-true, leb-true, le-leb}
use Rattle.raft_log_records.specs.Item.{Change, Item}
use Rattle.raft_log_records.specs.Item.Change.{entries, clean, compact, put, delete, mark}
use Rattle.raft_log_records.specs.declared.item.AtomicGroupStatus.{AtomicGroupStatus}
use Rattle.raft_log_records.specs.declared.item.AtomicGroupStatus.TheVariants.{Begin, Middle, End}
use Rattle.raft_log_records.specs.Spelling.{first_index}
use Rattle.raft_log_memtables.specs.Content.{GroupContent, Content, nothing, entry_at, after_change, after_item, after_batch, greater_of, reach_of, reach_after, reach_after_item, reach_after_batch}
use Rattle.raft_log_memtables.specs.Replay.{Replay, mark_of, begun_with, begun_more, after_end, after_status, after_marked, after_record, after_records, content_of}
use Rattle.raft_log_covers.specs.Account.{Account, IsFrom, account_after, account_after_all, no_account}
use Rattle.raft_log_covers.specs.Cells.{AreUnmarked, Cell, sets, after_batches}
use Rattle.raft_log_covers.specs.Cells.Cell.{presence, index, key}
use Rattle.raft_log_covers.specs.Kept.{Traces, new_trace, replayed_traces, traces_after, traces_after_all, traces_after_item}
use Rattle.raft_log_covers.specs.Marks.{Names}
use Rattle.raft_log_covers.specs.Queues.{Filed, FilesRise, batches_of}
use Rattle.raft_log_covers.specs.Trace.{Trace, least, greater, entered, cut, trace_after, names_after}
use Rattle.raft_log_covers.proofs.KeptLemmas.{account_after_item, account_after_items, is_there_is, same_account}
use Rattle.raft_log_marks.specs.Opened.{past_of, reach_of_records}
use Rattle.raft_log_marks.proofs.StandingLemmas.{from_test}

abbrev pub IsUpTo : ℕ → Option ℕ → Type 0
IsUpTo file None = Unit {0}
IsUpTo file (Some at) = at ≤ file

-- Entry by entry: a named index behind an entry that is named has no earlier file, and there is a named entry by each named index
-- that has any entry by it.
pub record Found {E : Type 0} (first file : ℕ) (t : Trace) (older g : GroupContent E) (names : Names) (reach : Option ℕ) : Type 0 where
  pub zero : g.there ≡ false → (t.low ≡ 0) × (t.next ≡ 0) × (t.top ≡ 0)
  pub none : g.there ≡ false → (i : ℕ) → g.entry i ≡ None
  pub past : t.cleaned ≡ false → (i : ℕ) → past_of reach ≤ i → older.entry i ≡ None
  pub gone : t.cleaned ≡ false → g.there ≡ false → (i : ℕ) → older.entry i ≡ None
  pub untouched : t.since ≡ None → (c : Cell) → names c ≡ None
  pub within : (i : ℕ) → past_of reach ≤ i → g.entry i ≡ None
  pub keys : (k : List ℕ) → IsFrom first (t.key_file k)
  pub most : (c : Cell) → IsUpTo file (names c)
  pub rises : (i j k : ℕ) → i ≤ j → IsSome (g.entry i) → names (index i) ≡ Some k → (f : ℕ) × (names (index j) ≡ Some f) × (k ≤ f)
  pub below : (i : ℕ) → IsSome (names (index i)) → (j : ℕ) → j ≤ i → IsSome (g.entry j) → (m : ℕ) × (m ≤ i) × IsSome (g.entry m) × IsSome (names (index m))

-- ---- small parts

other_way : {P : Type 0} → true ≡ false → P
other_way e = absurd (true≢false e)

no_least : {P : Type 0} (o : Option ℕ) (f : ℕ) → least o (Some f) ≡ None → P
no_least None f e = absurd cc
no_least (Some g) f e = absurd cc

no_some : {X P : Type 0} (x : X) → Some x ≡ None → P
no_some x e = absurd cc

up_by : (file later : ℕ) (o : Option ℕ) → file ≤ later → IsUpTo file o → IsUpTo later o
up_by file later None h u = tt
up_by file later (Some f) h u = le_trans u h

up_test : (later : ℕ) (b : Bool) (o : Option ℕ) → IsUpTo later o → IsUpTo later (cond b (Some later) o)
up_test later true o u = le_refl later
up_test later false o u = u

-- which file it is
same_file : (f k : ℕ) → Some f ≡ Some k → f ≡ k
same_file f k e = cc

which : (o : Option ℕ) → IsSome o → (k : ℕ) × (o ≡ Some k)
which None s = absurd cc
which (Some k) s = (k, refl)

up_of : (file k : ℕ) (o : Option ℕ) → o ≡ Some k → IsUpTo file o → k ≤ file
up_of file k o e u = subst (λ (x : Option ℕ). IsUpTo file x) e u

reach_one : (reach : Option ℕ) (i : ℕ) → (past_of reach ≤ past_of (Some (greater_of reach i))) × (i + 1 ≤ past_of (Some (greater_of reach i)))
reach_one None i = (omega arith, omega arith)
reach_one (Some most) i = by_test (nat_le i most) refl
  where
    by_test : (b : Bool) → nat_le i most ≡ b → (most + 1 ≤ cond b most i + 1) × (i + 1 ≤ cond b most i + 1)
    by_test true e = let l = leb-true i most e in (omega arith, omega (arith, l))
    by_test false e = let l : suc most ≤ i = leb-false i most e in (omega (arith, l), omega arith)

mark_names : (E : Type 0) (file id : ℕ) (status : AtomicGroupStatus) (names : Names) (c : Cell) → names_after {E = E} file (mark id status) names c ≡ names c
mark_names E file id status names presence = refl
mark_names E file id status names (index i) = refl
mark_names E file id status names (key k) = refl

module _ {E : Type 0} where
  reach_more : (es : List (ℕ × E)) (reach : Option ℕ) → past_of reach ≤ past_of (reach_of es reach)
  reach_more [] reach = le_refl (past_of reach)
  reach_more (e ∷ es) reach = le_trans (reach_one reach e.0).0 (reach_more es (Some (greater_of reach e.0)))

  none_past : (es : List (ℕ × E)) (reach : Option ℕ) (i : ℕ) → past_of (reach_of es reach) ≤ i → entry_at es i ≡ None
  none_past [] reach i h = refl
  none_past (e ∷ es) reach i h = by_test (none_past es (Some (greater_of reach e.0)) i h) (nat_eq e.0 i) refl
    where
      by_test : entry_at es i ≡ None → (b : Bool) → nat_eq e.0 i ≡ b → cond b (Some e.1) (entry_at es i) ≡ None
      by_test rest true x =
          let same = eqb-true e.0 i x in
          let own = (reach_one reach e.0).1 in
          let more = reach_more es (Some (greater_of reach e.0)) in
          absurd (omega (arith, same, own, more, h))
      by_test rest false x = rest

  first_there : (es : List (ℕ × E)) (j : ℕ) → IsSome (entry_at es j) → IsSome (entry_at es (first_index es))
  first_there [] j s = absurd cc
  first_there (e ∷ es) j s = subst (λ (b : Bool). IsSome (cond b (Some e.1) (entry_at es e.0))) (sym (eq-eqb e.0 e.0 refl)) refl

  -- ---- each change

  module _ (first file later : ℕ) (grows : file ≤ later) (late : first ≤ later) where
    most_more : (change : Change E) (names : Names) → ((c : Cell) → IsUpTo file (names c)) → (c : Cell) → IsUpTo later (names_after later change names c)
    most_more change names m c = up_test later (sets change c) (names c) (up_by file later (names c) grows (m c))

    entered_found : (es : List (ℕ × E)) (t : Trace) (older g : GroupContent E) (names : Names) (reach : Option ℕ) → Found first file t older g names reach → (b : Bool)
        → Found first later (entered later (first_index es) (first_index es + length es) t b) older (after_change (entries es) g) (names_after later (entries es) names) (reach_of es reach)
    entered_found es t older g names reach k b = by_case b
      where
        past : t.cleaned ≡ false → (i : ℕ) → past_of (reach_of es reach) ≤ i → older.entry i ≡ None
        past c i h = k.past c i (le_trans (reach_more es reach) h)

        within : (i : ℕ) → past_of (reach_of es reach) ≤ i → cond (nat_le (first_index es) i) (entry_at es i) (g.entry i) ≡ None
        within i h = by_test (nat_le (first_index es) i)
          where
            by_test : (b : Bool) → cond b (entry_at es i) (g.entry i) ≡ None
            by_test true = none_past es reach i h
            by_test false = k.within i (le_trans (reach_more es reach) h)

        rises : (i j f : ℕ) → i ≤ j → IsSome (cond (nat_le (first_index es) i) (entry_at es i) (g.entry i)) → cond (nat_le (first_index es) i) (Some later) (names (index i)) ≡ Some f
            → (h : ℕ) × (cond (nat_le (first_index es) j) (Some later) (names (index j)) ≡ Some h) × (f ≤ h)
        rises i j f l s n = by_place (nat_le (first_index es) i) refl (nat_le (first_index es) j) refl s n
          where
            by_place : (a : Bool) → nat_le (first_index es) i ≡ a → (b : Bool) → nat_le (first_index es) j ≡ b → IsSome (cond a (entry_at es i) (g.entry i)) → cond a (Some later) (names (index i)) ≡ Some f
                → (h : ℕ) × (cond b (Some later) (names (index j)) ≡ Some h) × (f ≤ h)
            by_place true ea true eb s n = (later, refl, let e = same_file later f n in omega (arith, e))
            by_place true ea false eb s n =
                let low = leb-true (first_index es) i ea in
                let high : suc j ≤ first_index es = leb-false (first_index es) j eb in
                absurd (omega (arith, l, low, high))
            by_place false ea true eb s n = (later, refl, le_trans (up_of file f (names (index i)) n (k.most (index i))) grows)
            by_place false ea false eb s n = k.rises i j f l s n

        below : (i : ℕ) → IsSome (cond (nat_le (first_index es) i) (Some later) (names (index i))) → (j : ℕ) → j ≤ i → IsSome (cond (nat_le (first_index es) j) (entry_at es j) (g.entry j))
            → (m : ℕ) × (m ≤ i) × IsSome (cond (nat_le (first_index es) m) (entry_at es m) (g.entry m)) × IsSome (cond (nat_le (first_index es) m) (Some later) (names (index m)))
        below i n j l s = by_place (nat_le (first_index es) j) refl (nat_le (first_index es) i) refl s n
          where
            own : nat_le (first_index es) (first_index es) ≡ true
            own = le-leb (first_index es) (first_index es) (le_refl (first_index es))

            at_first : first_index es ≤ i → IsSome (entry_at es (first_index es))
                → (m : ℕ) × (m ≤ i) × IsSome (cond (nat_le (first_index es) m) (entry_at es m) (g.entry m)) × IsSome (cond (nat_le (first_index es) m) (Some later) (names (index m)))
            at_first h s = (
              first_index es,
              h,
              subst (λ (b : Bool). IsSome (cond b (entry_at es (first_index es)) (g.entry (first_index es)))) (sym own) s,
              subst (λ (b : Bool). IsSome (cond b (Some later) (names (index (first_index es))))) (sym own) refl,
            )

            lower : (m : ℕ) → suc m ≤ first_index es → nat_le (first_index es) m ≡ false
            lower m h = not_from (nat_le (first_index es) m) refl
              where
                not_from : (b : Bool) → nat_le (first_index es) m ≡ b → b ≡ false
                not_from true e = let low = leb-true (first_index es) m e in absurd (omega (arith, low, h))
                not_from false e = refl

            by_place : (b : Bool) → nat_le (first_index es) j ≡ b → (a : Bool) → nat_le (first_index es) i ≡ a → IsSome (cond b (entry_at es j) (g.entry j)) → IsSome (cond a (Some later) (names (index i)))
                → (m : ℕ) × (m ≤ i) × IsSome (cond (nat_le (first_index es) m) (entry_at es m) (g.entry m)) × IsSome (cond (nat_le (first_index es) m) (Some later) (names (index m)))
            by_place true eb a ea s n = at_first (le_trans (leb-true (first_index es) j eb) l) (first_there es j s)
            by_place false eb true ea s n = by_list es refl
              where
                by_list : (fs : List (ℕ × E)) → es ≡ fs
                    → (m : ℕ) × (m ≤ i) × IsSome (cond (nat_le (first_index es) m) (entry_at es m) (g.entry m)) × IsSome (cond (nat_le (first_index es) m) (Some later) (names (index m)))
                by_list [] is =
                    let high : suc j ≤ first_index es = leb-false (first_index es) j eb in
                    let none : first_index es ≡ 0 = ap first_index is in
                    absurd (omega (arith, high, none))
                by_list (e ∷ fs) is = at_first (leb-true (first_index es) i ea)
                    (subst (λ (l : List (ℕ × E)). IsSome (entry_at l (first_index l))) (sym is) (subst (λ (b : Bool). IsSome (cond b (Some e.1) (entry_at fs e.0))) (sym (eq-eqb e.0 e.0 refl)) refl))
            by_place false eb false ea s n =
                let old = k.below i n j l s in
                let high : suc i ≤ first_index es = leb-false (first_index es) i ea in
                let m_at = old.1 in
                let out = lower old.0 (omega (arith, m_at, high)) in (
                  old.0,
                  old.1,
                  subst (λ (b : Bool). IsSome (cond b (entry_at es old.0) (g.entry old.0))) (sym out) old.2,
                  subst (λ (b : Bool). IsSome (cond b (Some later) (names (index old.0)))) (sym out) old.3,
                )

        by_case : (b : Bool) → Found first later (entered later (first_index es) (first_index es + length es) t b) older (after_change (entries es) g) (names_after later (entries es) names) (reach_of es reach)
        by_case true = record {
          zero = other_way;
          none = other_way;
          past = past;
          gone = λ c. other_way;
          untouched = λ e. no_least t.since later e;
          within = within;
          keys = k.keys;
          most = most_more (entries es) names k.most;
          rises = rises;
          below = below;
        }
        by_case false = record {
          zero = other_way;
          none = other_way;
          past = past;
          gone = λ c. other_way;
          untouched = λ e. no_least (least t.since t.tail) later e;
          within = within;
          keys = k.keys;
          most = most_more (entries es) names k.most;
          rises = rises;
          below = below;
        }

    compact_found : (limit : ℕ) (t : Trace) (older g : GroupContent E) (names : Names) (reach : Option ℕ) → Found first file t older g names reach → (b : Bool)
        → Found first later (cut later (greater t.low limit) t b) older (after_change (compact limit) g) (names_after {E = E} later (compact limit) names) reach
    compact_found limit t older g names reach k b = by_case b
      where
        within : (i : ℕ) → past_of reach ≤ i → cond (nat_lt i limit) None (g.entry i) ≡ None
        within i h = by_test (nat_lt i limit)
          where
            by_test : (b : Bool) → cond b None (g.entry i) ≡ None
            by_test true = refl
            by_test false = k.within i h

        rises : (i j f : ℕ) → i ≤ j → IsSome (cond (nat_lt i limit) None (g.entry i)) → cond (nat_lt i limit) (Some later) (names (index i)) ≡ Some f
            → (h : ℕ) × (cond (nat_lt j limit) (Some later) (names (index j)) ≡ Some h) × (f ≤ h)
        rises i j f l s n = by_place (nat_lt i limit) refl (nat_lt j limit) refl s n
          where
            by_place : (a : Bool) → nat_lt i limit ≡ a → (b : Bool) → nat_lt j limit ≡ b → IsSome (cond a None (g.entry i)) → cond a (Some later) (names (index i)) ≡ Some f
                → (h : ℕ) × (cond b (Some later) (names (index j)) ≡ Some h) × (f ≤ h)
            by_place true ea b eb s n = absurd cc
            by_place false ea true eb s n =
                let low = ltb-false i limit ea in
                let high = ltb-true j limit eb in
                absurd (omega (arith, l, low, high))
            by_place false ea false eb s n = k.rises i j f l s n

        out_of : (m : ℕ) → limit ≤ m → nat_lt m limit ≡ false
        out_of m h = not_in (nat_lt m limit) refl
          where
            not_in : (b : Bool) → nat_lt m limit ≡ b → b ≡ false
            not_in true e = let low = ltb-true m limit e in absurd (omega (arith, low, h))
            not_in false e = refl

        stays : (i m : ℕ) → m ≤ i → limit ≤ m → IsSome (g.entry m) → IsSome (names (index m))
            → (m : ℕ) × (m ≤ i) × IsSome (cond (nat_lt m limit) None (g.entry m)) × IsSome (cond (nat_lt m limit) (Some later) (names (index m)))
        stays i m l h s n =
            let out = out_of m h in (
              m,
              l,
              subst (λ (b : Bool). IsSome (cond b None (g.entry m))) (sym out) s,
              subst (λ (b : Bool). IsSome (cond b (Some later) (names (index m)))) (sym out) n,
            )

        below : (i : ℕ) → IsSome (cond (nat_lt i limit) (Some later) (names (index i))) → (j : ℕ) → j ≤ i → IsSome (cond (nat_lt j limit) None (g.entry j))
            → (m : ℕ) × (m ≤ i) × IsSome (cond (nat_lt m limit) None (g.entry m)) × IsSome (cond (nat_lt m limit) (Some later) (names (index m)))
        below i n j l s = by_place (nat_lt j limit) refl (nat_lt i limit) refl s n
          where
            by_place : (b : Bool) → nat_lt j limit ≡ b → (a : Bool) → nat_lt i limit ≡ a → IsSome (cond b None (g.entry j)) → IsSome (cond a (Some later) (names (index i)))
                → (m : ℕ) × (m ≤ i) × IsSome (cond (nat_lt m limit) None (g.entry m)) × IsSome (cond (nat_lt m limit) (Some later) (names (index m)))
            by_place true eb a ea s n = absurd cc
            by_place false eb true ea s n =
                let low = ltb-false j limit eb in
                let high = ltb-true i limit ea in
                absurd (omega (arith, l, low, high))
            by_place false eb false ea s n =
                let old = k.below i n j l s in
                by_side (nat_lt old.0 limit) refl
              where
                by_side : (c : Bool) → nat_lt (k.below i n j l s).0 limit ≡ c
                    → (m : ℕ) × (m ≤ i) × IsSome (cond (nat_lt m limit) None (g.entry m)) × IsSome (cond (nat_lt m limit) (Some later) (names (index m)))
                by_side true ec =
                    let old = k.below i n j l s in
                    let low = ltb-true old.0 limit ec in
                    let from = ltb-false j limit eb in
                    let file = which (names (index old.0)) old.3 in
                    let next = k.rises old.0 j file.0 (omega (arith, low, from)) old.2 file.1 in
                    stays i j l from s (is_there_is (names (index j)) next.0 next.1)
                by_side false ec =
                    let old = k.below i n j l s in
                    stays i old.0 old.1 (ltb-false old.0 limit ec) old.2 old.3

        by_case : (b : Bool) → Found first later (cut later (greater t.low limit) t b) older (after_change (compact limit) g) (names_after {E = E} later (compact limit) names) reach
        by_case true = record {
          zero = other_way;
          none = other_way;
          past = k.past;
          gone = λ c. other_way;
          untouched = λ e. no_least t.since later e;
          within = within;
          keys = k.keys;
          most = most_more (compact limit) names k.most;
          rises = rises;
          below = below;
        }
        by_case false = record {
          zero = other_way;
          none = other_way;
          past = k.past;
          gone = λ c. other_way;
          untouched = λ e. no_least (least t.since t.tail) later e;
          within = within;
          keys = k.keys;
          most = most_more (compact limit) names k.most;
          rises = rises;
          below = below;
        }

    change_found : (change : Change E) (t : Trace) (older g : GroupContent E) (names : Names) (reach : Option ℕ) → Found first file t older g names reach
        → Found first later (trace_after later change t) older (after_change change g) (names_after later change names) (reach_after change reach)
    change_found (entries es) t older g names reach k = entered_found es t older g names reach k (nat_lt t.low t.next)
    change_found clean t older g names reach k = record {
      zero = λ e. (refl, refl, refl);
      none = λ e i. refl;
      past = other_way;
      gone = other_way;
      untouched = λ e. no_some later e;
      within = λ i h. refl;
      keys = λ name. tt;
      most = most_more clean names k.most;
      rises = λ i j f l s n. absurd cc;
      below = λ i n j l s. absurd cc;
    }
    change_found (compact limit) t older g names reach k = compact_found limit t older g names reach k (nat_lt (greater t.low limit) t.next)
    change_found (put name value) t older g names reach k = record {
      zero = other_way;
      none = other_way;
      past = k.past;
      gone = λ c. other_way;
      untouched = λ e. no_least t.since later e;
      within = k.within;
      keys = λ other. from_test first (bytes_eq name other) (Some later) (t.key_file other) late (k.keys other);
      most = most_more (put name value) names k.most;
      rises = k.rises;
      below = k.below;
    }
    change_found (delete name) t older g names reach k = record {
      zero = other_way;
      none = other_way;
      past = k.past;
      gone = λ c. other_way;
      untouched = λ e. no_least t.since later e;
      within = k.within;
      keys = λ other. from_test first (bytes_eq name other) None (t.key_file other) tt (k.keys other);
      most = most_more (delete name) names k.most;
      rises = k.rises;
      below = k.below;
    }
    change_found (mark id status) t older g names reach k = record {
      zero = k.zero;
      none = k.none;
      past = k.past;
      gone = k.gone;
      untouched = λ e c. mark_names E later id status names c ∙ k.untouched e c;
      within = k.within;
      keys = k.keys;
      most = most_more (mark id status) names k.most;
      rises = k.rises;
      below = k.below;
    }

  -- ---- of all groups, batch by batch

  abbrev AllFound : ℕ → ℕ → Traces → Content E → Content E → Account → (ℕ → Option ℕ) → Type 0
  AllFound first file traces older content account reach = (group : ℕ) → Found first file (traces group) (older group) (content group) (account group) (reach group)

  later_found : (first file later : ℕ) (t : Trace) (older g : GroupContent E) (names : Names) (reach : Option ℕ) → file ≤ later → Found first file t older g names reach → Found first later t older g names reach
  later_found first file later t older g names reach grows k = record {
    zero = k.zero;
    none = k.none;
    past = k.past;
    gone = k.gone;
    untouched = k.untouched;
    within = k.within;
    keys = k.keys;
    most = λ c. up_by file later (names c) grows (k.most c);
    rises = k.rises;
    below = k.below;
  }

  item_found : (first file later : ℕ) → file ≤ later → first ≤ later → (item : Item E) (traces : Traces) (older content : Content E) (account : Account) (reach : ℕ → Option ℕ) → AllFound first file traces older content account reach
      → AllFound first later (traces_after_item later item traces) older (after_item item content) (account_after_item later item account) (reach_after_item item reach)
  item_found first file later grows late item traces older content account reach k group = by_group (nat_eq item.group group)
    where
      by_group : (b : Bool)
          → Found first later (cond b (trace_after later item.change (traces group)) (traces group)) (older group) (cond b (after_change item.change (content group)) (content group))
          (cond b (names_after later item.change (account group)) (account group)) (cond b (reach_after item.change (reach group)) (reach group))
      by_group true = change_found first file later grows late item.change (traces group) (older group) (content group) (account group) (reach group) (k group)
      by_group false = later_found first file later (traces group) (older group) (content group) (account group) (reach group) grows (k group)

  items_found : (first later : ℕ) → first ≤ later → (items : List (Item E)) (traces : Traces) (older content : Content E) (account : Account) (reach : ℕ → Option ℕ) → AllFound first later traces older content account reach
      → AllFound first later (traces_after later items traces) older (after_batch items content) (account_after_items later items account) (reach_after_batch items reach)
  items_found first later late [] traces older content account reach k = k
  items_found first later late (item ∷ items) traces older content account reach k =
      items_found first later late items (traces_after_item later item traces) older (after_item item content) (account_after_item later item account) (reach_after_item item reach)
      (item_found first later later (le_refl later) late item traces older content account reach k)

  abbrev pub reach_after_batches : List (List (Item E)) → (ℕ → Option ℕ) → ℕ → Option ℕ
  reach_after_batches [] reach = reach
  reach_after_batches (items ∷ batches) reach = reach_after_batches batches (reach_after_batch items reach)

  all_found : (first file : ℕ) (bs : List (Filed E)) (traces : Traces) (older content : Content E) (account : Account) (reach : ℕ → Option ℕ) → first ≤ file → FilesRise file bs → AllFound first file traces older content account reach
      → (last : ℕ) × AllFound first last (traces_after_all bs traces) older (after_batches (batches_of bs) content) (account_after_all bs account) (reach_after_batches (batches_of bs) reach)
  all_found first file [] traces older content account reach late rise k = (file, k)
  all_found first file (b ∷ bs) traces older content account reach late rise k =
      all_found first b.file bs (traces_after b.file b.items traces) older (after_batch b.items content) (account_after b.file b.items account) (reach_after_batch b.items reach) (le_trans late rise.0) rise.1
      (subst (λ (a : Account). AllFound first b.file (traces_after b.file b.items traces) older (after_batch b.items content) a (reach_after_batch b.items reach))
      (λ i. λ group c. same_account b.file b.items account group c i)
      (items_found first b.file (le_trans late rise.0) b.items traces older content account reach
      (λ group. later_found first file b.file (traces group) (older group) (content group) (account group) (reach group) rise.0 (k group))))

  -- ---- what is so of records as they are replayed, also over atomic groups

  module _ {R S : Type 0} (first_step : List (Item E) → R → R) (second_step : List (Item E) → S → S) (Fits : List (Item E) → Type 0) (Both : R → S → Type 0)
      (join : (a b : List (Item E)) → Fits a → Fits b → Fits (a ++ b)) (keep : (items : List (Item E)) (r : R) (s : S) → Fits items → Both r s → Both (first_step items r) (second_step items s)) where
    abbrev BegunFits : Option (ℕ × List (Item E)) → Type 0
    BegunFits None = Unit {0}
    BegunFits (Some begun) = Fits begun.1

    abbrev WithFits : Option (List (Item E)) → Type 0
    WithFits None = Unit {0}
    WithFits (Some items) = Fits items

    more_fits : (id : ℕ) (items : List (Item E)) (begun : Option (ℕ × List (Item E))) → Fits items → BegunFits begun → BegunFits (begun_more id items begun)
    more_fits id items None f g = tt
    more_fits id items (Some begun) f g = by_id (nat_eq begun.0 id)
      where
        by_id : (b : Bool) → BegunFits (cond b (Some (begun.0, begun.1 ++ items)) (Some begun))
        by_id true = join begun.1 items g f
        by_id false = g

    with_fits : (id : ℕ) (begun : Option (ℕ × List (Item E))) → BegunFits begun → WithFits (begun_with id begun)
    with_fits id None g = tt
    with_fits id (Some begun) g = by_id (nat_eq begun.0 id)
      where
        by_id : (b : Bool) → WithFits (cond b (Some begun.1) None)
        by_id true = g
        by_id false = tt

    abbrev StaysOver : List (List (Item E)) → Type 0
    StaysOver records = (begun : Option (ℕ × List (Item E))) → BegunFits begun → (r : R) (s : S) → Both r s
        → Both (after_records first_step records (record { state = r; begun = begun })).state (after_records second_step records (record { state = s; begun = begun })).state

    pub replayed_both : (records : List (List (Item E))) → AllByRecursion Fits records → StaysOver records
    replayed_both [] all begun g r s h = h
    replayed_both (items ∷ records) all begun g r s h = by_mark (replayed_both records all.1) (mark_of items)
      where
        by_begun : StaysOver records
            → (before : Option (List (Item E))) → WithFits before
            → Both (after_records first_step records (after_end first_step items (record { state = r; begun = begun }) before)).state (after_records second_step records (after_end second_step items (record { state = s; begun = begun }) before)).state
        by_begun rest None w = rest begun g r s h
        by_begun rest (Some before) w = rest None tt (first_step (before ++ items) r) (second_step (before ++ items) s) (keep (before ++ items) r s (join before items w all.0) h)

        by_status : StaysOver records
            → (id : ℕ) (status : AtomicGroupStatus)
            → Both (after_records first_step records (after_status first_step id status items (record { state = r; begun = begun }))).state (after_records second_step records (after_status second_step id status items (record { state = s; begun = begun }))).state
        by_status rest id Begin = rest (Some (id, items)) all.0 r s h
        by_status rest id Middle = rest (begun_more id items begun) (more_fits id items begun all.0 g) r s h
        by_status rest id End = by_begun rest (begun_with id begun) (with_fits id begun g)

        by_mark : StaysOver records
            → (m : Option (ℕ × AtomicGroupStatus))
            → Both (after_records first_step records (after_marked first_step items m (record { state = r; begun = begun }))).state (after_records second_step records (after_marked second_step items m (record { state = s; begun = begun }))).state
        by_mark rest None = rest begun g (first_step items r) (second_step items s) (keep items r s all.0 h)
        by_mark rest (Some m) = by_status rest m.0 m.1

  -- ---- what the rewrite queue has, by how far entries ever went

  abbrev IsWithin : Content E → (ℕ → Option ℕ) → Type 0
  IsWithin content reach = (group : ℕ) → ((i : ℕ) → past_of (reach group) ≤ i → (content group).entry i ≡ None) × ((content group).there ≡ false → (i : ℕ) → (content group).entry i ≡ None)

  change_within : (change : Change E) (g : GroupContent E) (reach : Option ℕ) → ((i : ℕ) → past_of reach ≤ i → g.entry i ≡ None) × (g.there ≡ false → (i : ℕ) → g.entry i ≡ None)
      → ((i : ℕ) → past_of (reach_after change reach) ≤ i → (after_change change g).entry i ≡ None) × ((after_change change g).there ≡ false → (i : ℕ) → (after_change change g).entry i ≡ None)
  change_within (entries es) g reach k = (λ i h. by_test i h (nat_le (first_index es) i), other_way)
    where
      by_test : (i : ℕ) → past_of (reach_of es reach) ≤ i → (b : Bool) → cond b (entry_at es i) (g.entry i) ≡ None
      by_test i h true = none_past es reach i h
      by_test i h false = k.0 i (le_trans (reach_more es reach) h)
  change_within clean g reach k = (λ i h. refl, λ e i. refl)
  change_within (compact limit) g reach k = (λ i h. by_test i h (nat_lt i limit), other_way)
    where
      by_test : (i : ℕ) → past_of reach ≤ i → (b : Bool) → cond b None (g.entry i) ≡ None
      by_test i h true = refl
      by_test i h false = k.0 i h
  change_within (put name value) g reach k = (k.0, other_way)
  change_within (delete name) g reach k = (k.0, other_way)
  change_within (mark id status) g reach k = k

  item_within : (item : Item E) (content : Content E) (reach : ℕ → Option ℕ) → IsWithin content reach → IsWithin (after_item item content) (reach_after_item item reach)
  item_within item content reach k group = by_group (nat_eq item.group group)
    where
      by_group : (b : Bool)
          → ((i : ℕ) → past_of (cond b (reach_after item.change (reach group)) (reach group)) ≤ i → (cond b (after_change item.change (content group)) (content group)).entry i ≡ None)
          × ((cond b (after_change item.change (content group)) (content group)).there ≡ false → (i : ℕ) → (cond b (after_change item.change (content group)) (content group)).entry i ≡ None)
      by_group true = change_within item.change (content group) (reach group) (k group)
      by_group false = k group

  items_within : (items : List (Item E)) (content : Content E) (reach : ℕ → Option ℕ) → IsWithin content reach → IsWithin (after_batch items content) (reach_after_batch items reach)
  items_within [] content reach k = k
  items_within (item ∷ items) content reach k = items_within items (after_item item content) (reach_after_item item reach) (item_within item content reach k)

  all_fit : (records : List (List (Item E))) → AllByRecursion (λ items. Unit {0}) records
  all_fit [] = tt
  all_fit (items ∷ records) = (tt, all_fit records)

  content_within : (records : List (List (Item E))) → IsWithin (content_of records) (reach_of_records records)
  content_within records = replayed_both after_batch reach_after_batch (λ items. Unit {0}) IsWithin (λ a b f g. tt) (λ items content reach f k. items_within items content reach k) records (all_fit records) None tt nothing (λ group. None)
      (λ group. (λ i h. refl, λ e i. refl))

  -- ---- how far entries went over both queues

  records_append : {S : Type 0} (step : List (Item E) → S → S) (records more : List (List (Item E))) (r : Replay E S) → after_records step (records ++ more) r ≡ after_records step more (after_records step records r)
  records_append step [] more r = refl
  records_append step (items ∷ records) more r = records_append step records more (after_record step items r)

  unmarked_reach : (batches : List (List (Item E))) (r : Replay E (ℕ → Option ℕ)) → AreUnmarked batches → (after_records reach_after_batch batches r).state ≡ reach_after_batches batches r.state
  unmarked_reach [] r u = refl
  unmarked_reach (items ∷ batches) r u =
      ap (λ m. (after_records reach_after_batch batches (after_marked reach_after_batch items m r)).state) u.0
      ∙ unmarked_reach batches (record { state = reach_after_batch items r.state; begun = r.begun }) u.1

  reach_composes : (records batches : List (List (Item E))) → AreUnmarked batches → reach_of_records (records ++ batches) ≡ reach_after_batches batches (reach_of_records records)
  reach_composes records batches u =
      ap (λ r. r.state) (records_append reach_after_batch records batches (record { state = λ group. None; begun = None }))
      ∙ unmarked_reach batches (after_records reach_after_batch records (record { state = λ group. None; begun = None })) u

  -- ---- after the replay

  pub replay_found : (first : ℕ) (records : List (List (Item E))) (bs : List (Filed E)) → FilesRise first bs → AreUnmarked (batches_of bs) → (group : ℕ)
      → (last : ℕ) × Found first last (replayed_traces bs group) (content_of records group) (after_batches (batches_of bs) (content_of records) group) (account_after_all bs no_account group) (reach_of_records (records ++ batches_of bs) group)
  replay_found first records bs rise u group =
      let k = content_within records in
      let all = all_found first first bs (λ g. new_trace) (content_of records) (content_of records) no_account (reach_of_records records) (le_refl first) rise
      (λ g. record {
        zero = λ e. (refl, refl, refl);
        none = (k g).1;
        past = λ c. (k g).0;
        gone = λ c. (k g).1;
        untouched = λ e c. refl;
        within = (k g).0;
        keys = λ name. tt;
        most = λ c. tt;
        rises = λ i j f l s n. absurd cc;
        below = λ i n j l s. absurd cc;
      }) in (
        all.0,
        subst (λ (r : ℕ → Option ℕ). Found first all.0 (replayed_traces bs group) (content_of records group) (after_batches (batches_of bs) (content_of records) group) (account_after_all bs no_account group) (r group))
            (sym (reach_composes records (batches_of bs) u)) (all.1 group),
      )
