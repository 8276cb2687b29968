-- What keeps the invariant of two queues.
use Rattle.std.proofs.Common.{Option, ⊎_elim, drop, ◌≡◌, ◌≤◌, ◌+◌, ℕ, Bool, true, false, cond, ◌&&◌, ◌||◌, List, [], ◌∷◌, ◌++◌, length, Some, None, refl, sym, ap, ◌∙◌, subst, true≢false, le_refl, le_trans, ltb-true, ltb-false}
use Rattle.std.specs.Prelude.{nat_eq, nat_le, nat_lt, bytes_eq, is_some, IsSome}
use Rattle.std.proofs.lemmas.Bool.{eqb-true}
use Rattle.raft_log_records.specs.Item.{Change, Item}
use Rattle.raft_log_records.specs.Item.Change.{entries, clean, compact, put, delete}
use Rattle.raft_log_records.specs.Spelling.{first_index}
use Rattle.raft_log_memtables.specs.Content.{GroupContent, Content, no_group, nothing, after_change, after_item, after_batch}
use Rattle.raft_log_memtables.specs.Replay.{mark_of, content_of}
use Rattle.raft_log_covers.specs.Cells.{Cell, held, sets, batch_sets, after_batches, AreUnmarked}
use Rattle.raft_log_covers.specs.Cells.Cell.{presence, index, key}
use Rattle.raft_log_covers.specs.Cells.Held.{is_there, an_entry, a_value}
use Rattle.raft_log_covers.specs.Queues.{Filed, batches_of, batches_from, FilesRise, Covers}
use Rattle.raft_log_covers.specs.Written.{Written, AreWritten, all_records}
use Rattle.raft_log_covers.specs.Account.{Account, IsFrom, IsAccounted, no_account, account_after, account_after_all, NamesNoneBefore}
use Rattle.raft_log_covers.specs.Marks.{of_group, after_changes, deletes, is_in, Names, with_group, marks, MayRewrite, names_after_marks, names_after_entries, names_after_put}
use Rattle.raft_log_covers.specs.Trace.{Trace, file_of, IsBounded, Bounds, Knows, TellsFiles, KnowsRemoved, GoOn, AreRun, trace_after, names_after, trace_marked, trace_rewritten, trace_put, settled_by}
use Rattle.raft_log_covers.specs.Kept.{GivesAll, HasWhole, traces_after_all, replayed_traces, IsFirstOf, IsReplayed, AreReplayed, IsOpened, new_trace, NamesNoEarlier, Traces, IsKept, traces_after_item, traces_after, AllGoOn, with_trace}
use Rattle.raft_log_covers.proofs.CellLemmas.{records_compose, same_entry, same_value}
use Rattle.raft_log_covers.proofs.QueueLemmas.{read_as_the_content}
use Rattle.raft_log_covers.proofs.AccountLemmas.{writes_account, openings_account, either_part, old_rewrites_may_go, files_may_go}
use Rattle.raft_log_covers.proofs.MarkLemmas.{deletes_value, in_group, marks_unmarked, marks_settle, cleans_settle, entries_settle, keys_settle}
use Rattle.raft_log_covers.proofs.TraceLemmas.{changes_keep_bounds}
use Rattle.raft_log_covers.proofs.KnownLemmas.{changes_keep_known, changes_keep_removed, none_outside, traces_tell_marks}
use Rattle.raft_log_covers.proofs.FileLemmas.{changes_keep_files, rewrites_keep_files}
use Rattle.raft_log_covers.proofs.RewrittenLemmas.{traces_let_go, rewrites_keep_bounds, rewrites_keep_known}

bounded_by_first : (first : ℕ) (o : Option ℕ) → IsFrom first o → IsBounded o (Some first)
bounded_by_first first None h = tt
bounded_by_first first (Some file) h = h

bounded_by_own : (o : Option ℕ) → IsBounded o o
bounded_by_own None = tt
bounded_by_own (Some file) = le_refl file

pub is_there_is : {X : Type 0} (o : Option X) (x : X) → o ≡ Some x → IsSome o
is_there_is None x e = absurd cc
is_there_is (Some y) x e = refl

pub bounded_by_none : (o kept : Option ℕ) → o ≡ None → IsBounded o kept
bounded_by_none None kept e = tt
bounded_by_none (Some file) kept e = absurd cc

pub first_bounds : (first : ℕ) (names : Names) (kept : Option ℕ) → IsFirstOf first names kept → ((c : Cell) → IsFrom first (names c)) → (c : Cell) → IsBounded (names c) kept
first_bounds first names kept o late c = ⊎_elim
    (λ e. subst (λ (n : Option ℕ). IsBounded (names c) n) (sym e) (bounded_by_first first (names c) (late c)))
    (λ none. bounded_by_none (names c) kept (none c))
    o

module _ {E : Type 0} where
  pub kept_files_cover : (traces : Traces) (account : Account) (records : List (List (Item E))) (content : Content E) (bs : List (Filed E)) (first : ℕ)
      → IsKept traces account records content bs → ((group : ℕ) (c : Cell) → IsFrom first (file_of (traces group) (content group) c)) → Covers (content_of records) content (batches_from first bs)
  kept_files_cover traces account records content bs first k late =
      files_may_go account (content_of records) content bs first k.accounted (traces_let_go traces content account first k.bounds late)

  pub kept_queues_read_as_the_content : (traces : Traces) (account : Account) (records : List (List (Item E))) (start : Content E) (bs : List (Filed E)) (least first : ℕ)
      → IsKept traces account records (after_batches (batches_of bs) start) bs → FilesRise least bs → AreUnmarked (batches_of bs)
      → ((group : ℕ) (c : Cell) → IsFrom first (file_of (traces group) (after_batches (batches_of bs) start group) c))
      → (f : ℕ) → f ≤ first → content_of (records ++ batches_from f bs) ≡ after_batches (batches_of bs) start
  kept_queues_read_as_the_content traces account records start bs least first k rise unmarked late f h =
      read_as_the_content records bs start least first rise unmarked (kept_files_cover traces account records (after_batches (batches_of bs) start) bs first k late) f h

  -- ---- a write

  abbrev Groups : Traces → Content E → Content E → Account → Type 0
  Groups traces older content account = (group : ℕ) → Bounds (traces group) (content group) (account group) × Knows (traces group) (older group) (content group) (account group) × TellsFiles (traces group) (content group) (account group)

  abbrev pub account_after_item : ℕ → Item E → Account → Account
  account_after_item file item account group = cond (nat_eq item.group group) (names_after file item.change (account group)) (account group)

  abbrev pub account_after_items : ℕ → List (Item E) → Account → Account
  account_after_items file [] account = account
  account_after_items file (item ∷ items) account = account_after_items file items (account_after_item file item account)

  item_keeps : (file : ℕ) (item : Item E) (traces : Traces) (older content : Content E) (account : Account) → GoOn item.change (traces item.group) → Groups traces older content account
      → Groups (traces_after_item file item traces) older (after_item item content) (account_after_item file item account)
  item_keeps file item traces older content account on h group = by_group (nat_eq item.group group) refl
    where
      by_group : (b : Bool) → nat_eq item.group group ≡ b
          → Bounds (cond b (trace_after file item.change (traces group)) (traces group)) (cond b (after_change item.change (content group)) (content group)) (cond b (names_after file item.change (account group)) (account group))
          × Knows (cond b (trace_after file item.change (traces group)) (traces group)) (older group) (cond b (after_change item.change (content group)) (content group)) (cond b (names_after file item.change (account group)) (account group))
          × TellsFiles (cond b (trace_after file item.change (traces group)) (traces group)) (cond b (after_change item.change (content group)) (content group)) (cond b (names_after file item.change (account group)) (account group))
      by_group true e =
          let here : GoOn item.change (traces group) = subst (λ (n : ℕ). GoOn item.change (traces n)) (eqb-true item.group group e) on in (
            changes_keep_bounds file item.change (traces group) (content group) (account group) here (h group).0,
            changes_keep_known file item.change (traces group) (older group) (content group) (account group) here (h group).1,
            changes_keep_files file item.change (traces group) (older group) (content group) (account group) (h group).1 (h group).2,
          )
      by_group false e = h group

  items_keep : (file : ℕ) (items : List (Item E)) (traces : Traces) (older content : Content E) (account : Account) → AllGoOn file items traces → Groups traces older content account
      → Groups (traces_after file items traces) older (after_batch items content) (account_after_items file items account)
  items_keep file [] traces older content account on h = h
  items_keep file (item ∷ items) traces older content account on h =
      items_keep file items (traces_after_item file item traces) older (after_item item content) (account_after_item file item account) on.1 (item_keeps file item traces older content account on.0 h)

  either_test : (file : ℕ) (names : Names) (change : Change E) (c : Cell) (g r : Bool)
      → cond r (Some file) (cond {A = Names} g (names_after file change names) names c) ≡ cond ((g && sets change c) || r) (Some file) (names c)
  either_test file names change c true r = by_set (sets change c) r
    where
      by_set : (s r : Bool) → cond r (Some file) (cond s (Some file) (names c)) ≡ cond (s || r) (Some file) (names c)
      by_set true true = refl
      by_set true false = refl
      by_set false r = refl
  either_test file names change c false r = refl

  pub same_account : (file : ℕ) (items : List (Item E)) (account : Account) (group : ℕ) (c : Cell) → account_after_items file items account group c ≡ account_after file items account group c
  same_account file [] account group c = refl
  same_account file (item ∷ items) account group c =
      same_account file items (account_after_item file item account) group c ∙ either_test file (account group) item.change c (nat_eq item.group group) (batch_sets items group c)

  pub writes_keep : (traces : Traces) (account : Account) (records : List (List (Item E))) (content : Content E) (bs : List (Filed E)) (file : ℕ) (items : List (Item E))
      → IsKept traces account records content bs → AllGoOn file items traces
      → IsKept (traces_after file items traces) (account_after file items account) records (after_batch items content) (bs ++ record { file = file; items = items } ∷ [])
  writes_keep traces account records content bs file items k on = record {
    accounted = writes_account account (content_of records) content bs file items k.accounted;
    bounds = λ group. (groups group).0;
    knows = λ group. (groups group).1;
    files = λ group. (groups group).2;
  }
    where
      same : account_after_items file items account ≡ account_after file items account
      same = λ i. λ group c. same_account file items account group c i

      groups : Groups (traces_after file items traces) (content_of records) (after_batch items content) (account_after file items account)
      groups = subst (λ (a : Account). Groups (traces_after file items traces) (content_of records) (after_batch items content) a) same
          (items_keep file items traces (content_of records) content account on (λ group. (k.bounds group, k.knows group, k.files group)))

  -- ---- what cleaning writes of a group

  pub elsewhere : (group other : ℕ) (changes : List (Change E)) (s : Content E) → nat_eq group other ≡ false → after_batch (of_group group changes) s other ≡ s other
  elsewhere group other [] s e = refl
  elsewhere group other (change ∷ changes) s e =
      elsewhere group other changes (after_item (record { group = group; change = change }) s) e
      ∙ ap (λ (b : Bool). cond b (after_change change (s other)) (s other)) e

  group_keeps : (traces : Traces) (account : Account) (records : List (List (Item E))) (content : Content E) (bs : List (Filed E)) (group : ℕ) (changes : List (Change E)) (t : Trace) (names : Names)
      → mark_of (of_group group changes) ≡ None → IsKept traces account records content bs
      → IsAccounted (with_group group names account) (content_of (records ++ of_group group changes ∷ [])) content bs
      → Bounds t (content group) names → Knows t (after_changes changes (content_of records group)) (content group) names → TellsFiles t (content group) names
      → IsKept (with_trace group t traces) (with_group group names account) (records ++ of_group group changes ∷ []) content bs
  group_keeps traces account records content bs group changes t names unmarked k accounted bounds knows files = record {
    accounted = accounted;
    bounds = λ other. bounds_at other (nat_eq group other) refl;
    knows = λ other. knows_at other (nat_eq group other) refl;
    files = λ other. files_at other (nat_eq group other) refl;
  }
    where
      after : Content E
      after = content_of (records ++ of_group group changes ∷ [])

      composed : content_of (records ++ of_group group changes ∷ []) ≡ after_batch (of_group group changes) (content_of records)
      composed = records_compose records (of_group group changes ∷ []) (unmarked, tt)

      bounds_at : (other : ℕ) (b : Bool) → nat_eq group other ≡ b → Bounds (cond b t (traces other)) (content other) (λ c. cond b (names c) (account other c))
      bounds_at other true e = subst (λ (n : ℕ). Bounds t (content n) names) (eqb-true group other e) bounds
      bounds_at other false e = k.bounds other

      files_at : (other : ℕ) (b : Bool) → nat_eq group other ≡ b → TellsFiles (cond b t (traces other)) (content other) (λ c. cond b (names c) (account other c))
      files_at other true e = subst (λ (n : ℕ). TellsFiles t (content n) names) (eqb-true group other e) files
      files_at other false e = k.files other

      here : content_of (records ++ of_group group changes ∷ []) group ≡ after_changes changes (content_of records group)
      here = ap (λ (s : Content E). s group) composed ∙ in_group group changes (content_of records)

      there : (other : ℕ) → nat_eq group other ≡ false → content_of (records ++ of_group group changes ∷ []) other ≡ content_of records other
      there other e = ap (λ (s : Content E). s other) composed ∙ elsewhere group other changes (content_of records) e

      knows_at : (other : ℕ) (b : Bool) → nat_eq group other ≡ b
          → Knows (cond b t (traces other)) (content_of (records ++ of_group group changes ∷ []) other) (content other) (λ c. cond b (names c) (account other c))
      knows_at other true e = subst (λ (n : ℕ). Knows t (content_of (records ++ of_group group changes ∷ []) n) (content n) names) (eqb-true group other e)
          (subst (λ (o : GroupContent E). Knows t o (content group) names) (sym here) knows)
      knows_at other false e = subst (λ (o : GroupContent E). Knows (traces other) o (content other) (account other)) (sym (there other e)) (k.knows other)

  pub entries_keep : (traces : Traces) (account : Account) (records : List (List (Item E))) (content : Content E) (bs : List (Filed E)) (group : ℕ) (es : List (ℕ × E)) (stop : ℕ)
      → IsKept traces account records content bs → (traces group).cleaned ≡ false → AreRun es → first_index es ≤ (traces group).next → first_index es + length es ≤ (traces group).top
      → MayRewrite (content group) (account group) es (settled_by stop (traces group))
      → IsKept (with_trace group (trace_rewritten (first_index es) stop (traces group)) traces) (with_group group (names_after_entries (account group) es (settled_by stop (traces group))) account)
      (records ++ of_group group (entries es ∷ []) ∷ []) content bs
  entries_keep traces account records content bs group es stop k apart run on ends may =
      group_keeps traces account records content bs group (entries es ∷ []) (trace_rewritten (first_index es) stop (traces group)) (names_after_entries (account group) es (settled_by stop (traces group))) refl k
      (entries_settle account records content bs group es (settled_by stop (traces group)) k.accounted may)
      ((rewrites_keep_bounds (traces group) (content group) (account group) (k.bounds group)).entries_too es stop on)
      ((rewrites_keep_known (traces group) (content_of records group) (content group) (account group) (k.knows group)).entries_too es stop run ends apart)
      ((rewrites_keep_files (traces group) (content_of records group) (content group) (account group) (k.knows group) (k.files group)).entries_too es stop)

  pub keys_keep : (traces : Traces) (account : Account) (records : List (List (Item E))) (content : Content E) (bs : List (Filed E)) (group : ℕ) (name value : List ℕ)
      → IsKept traces account records content bs → (traces group).cleaned ≡ false → (content group).there ≡ true → (content group).value name ≡ Some value
      → IsKept (with_trace group (trace_put name (traces group)) traces) (with_group group (names_after_put (account group) name) account) (records ++ of_group group (put name value ∷ []) ∷ []) content bs
  keys_keep traces account records content bs group name value k apart there has =
      group_keeps traces account records content bs group (put name value ∷ []) (trace_put name (traces group)) (names_after_put (account group) name) refl k
      (keys_settle account records content bs group name value k.accounted there has)
      ((rewrites_keep_bounds (traces group) (content group) (account group) (k.bounds group)).keys_too name)
      ((rewrites_keep_known (traces group) (content_of records group) (content group) (account group) (k.knows group)).keys_too name value has apart)
      ((rewrites_keep_files (traces group) (content_of records group) (content group) (account group) (k.knows group) (k.files group)).keys_too name)

  deleted_value : (ks : List (List ℕ)) (g : GroupContent E) (q : List ℕ) → is_in q ks ≡ true → (after_changes (deletes ks) g).value q ≡ None
  deleted_value [] g q h = absurd (true≢false (sym h))
  deleted_value (d ∷ ks) g q h = by_test (bytes_eq d q) refl h (deleted_value ks (after_change (delete d) g) q)
    where
      by_test : (b : Bool) → bytes_eq d q ≡ b → (b || is_in q ks) ≡ true → (is_in q ks ≡ true → (after_changes (deletes ks) (after_change (delete d) g)).value q ≡ None) → (after_changes (deletes ks) (after_change (delete d) g)).value q ≡ None
      by_test true e h again = deletes_value E ks (after_change (delete d) g) q (ap (λ (b : Bool). cond b None (g.value q)) e)
      by_test false e h again = again h

  values_after : (t : Trace) (older g : GroupContent E) (names : Names) → Knows t older g names → (q : List ℕ) → g.value q ≡ None → (b : Bool) → t.cleaned ≡ b → (after_changes (marks b t.low t.deleted) older).value q ≡ None
  values_after t older g names k q h true e = deletes_value E t.deleted (after_change (compact t.low) no_group) q refl
  values_after t older g names k q h false e = by_list (is_in q t.deleted) refl
    where
      by_list : (b : Bool) → is_in q t.deleted ≡ b → (after_changes (deletes t.deleted) (after_change (compact t.low) older)).value q ≡ None
      by_list true i = deleted_value t.deleted (after_change (compact t.low) older) q i
      by_list false i = deletes_value E t.deleted (after_change (compact t.low) older) q (k.all_gone e q h i)

  pub marks_keep : (traces : Traces) (account : Account) (records : List (List (Item E))) (content : Content E) (bs : List (Filed E)) (group : ℕ)
      → IsKept traces account records content bs → (content group).there ≡ true
      → IsKept (with_trace group (trace_marked (traces group)) traces)
      (with_group group (names_after_marks (content group) (account group) (traces group).low (nat_le (traces group).next (traces group).low)) account)
      (records ++ of_group group (marks (traces group).cleaned (traces group).low (traces group).deleted) ∷ []) content bs
  marks_keep traces account records content bs group k there =
      group_keeps traces account records content bs group (marks t.cleaned t.low t.deleted) (trace_marked t) (names_after_marks (content group) (account group) t.low (nat_le t.next t.low))
      (marks_unmarked E group t.cleaned t.low t.deleted) k accounted
      (rewrites_keep_bounds t (content group) (account group) (k.bounds group)).marked
      ((rewrites_keep_known t (content_of records group) (content group) (account group) (k.knows group)).marked values)
      (rewrites_keep_files t (content_of records group) (content group) (account group) (k.knows group) (k.files group)).marked
    where
      t : Trace
      t = traces group

      accounted : IsAccounted (with_group group (names_after_marks (content group) (account group) (traces group).low (nat_le (traces group).next (traces group).low)) account)
          (content_of (records ++ of_group group (marks (traces group).cleaned (traces group).low (traces group).deleted) ∷ [])) content bs
      accounted = marks_settle E account records content bs group (traces group).cleaned (traces group).low (nat_le (traces group).next (traces group).low) (traces group).deleted k.accounted
          (traces_tell_marks (traces group) (content_of records group) (content group) (account group) there (k.knows group))

      values : (q : List ℕ) → (content group).value q ≡ None → (after_changes (marks (traces group).cleaned (traces group).low (traces group).deleted) (content_of records group)).value q ≡ None
      values q h = values_after (traces group) (content_of records group) (content group) (account group) (k.knows group) q h (traces group).cleaned refl

  -- ---- an opening

  opened_knows : (t : Trace) (g : GroupContent E) → IsOpened t g → Knows t g g (λ c. None)
  opened_knows t g o = record {
    below = o.below;
    above = o.above;
    ends = o.ends;
    empty_top = o.empty_top;
    past = λ c i h. o.past i h;
    gone = λ q h. absurd (true≢false (sym h ∙ ap (is_in q) o.none_deleted));
    all_gone = λ c q h n. h;
    entries_since = λ c. absurd (true≢false (sym c ∙ o.not_cleaned));
    keys_since = λ c. absurd (true≢false (sym c ∙ o.not_cleaned));
  }

  pub openings_keep : (traces : Traces) (records : List (List (Item E))) → ((group : ℕ) → IsOpened (traces group) (content_of records group)) → IsKept traces no_account records (content_of records) []
  openings_keep traces records opened = record {
    accounted = λ group c. refl;
    bounds = λ group c. tt;
    knows = λ group. opened_knows (traces group) (content_of records group) (opened group);
    files = λ group. record { entries_named = λ i s. sym ((opened group).entries_rewritten i s); keys_named = λ q s. sym ((opened group).keys_rewritten q s) };
  }

  new_opened : IsOpened {E = E} new_trace no_group
  new_opened = record {
    below = λ i h. refl;
    above = λ i h m. refl;
    past = λ i h. refl;
    ends = le_refl 0;
    empty_top = λ h. le_refl 0;
    not_cleaned = refl;
    none_deleted = refl;
    entries_rewritten = λ i s. refl;
    keys_rewritten = λ q s. refl;
  }

  pub new_queues_are_kept : IsKept {E = E} (λ group. new_trace) no_account [] nothing []
  new_queues_are_kept = record {
    accounted = λ group c. refl;
    bounds = λ group c. tt;
    knows = λ group. opened_knows new_trace no_group new_opened;
    files = λ group. record { entries_named = λ i s. refl; keys_named = λ q s. refl };
  }

  pub cleans_keep : (traces : Traces) (account : Account) (records : List (List (Item E))) (content : Content E) (bs : List (Filed E)) (group : ℕ)
      → IsKept traces account records content bs → ((c : Cell) → held (content group) c ≡ held no_group c)
      → IsKept (with_trace group new_trace traces) (with_group group (λ c. None) account) (records ++ of_group group (clean ∷ []) ∷ []) content bs
  cleans_keep traces account records content bs group k gone =
      group_keeps traces account records content bs group (clean ∷ []) new_trace (λ c. None) refl k (cleans_settle E account records content bs group k.accounted gone)
      (λ c. tt)
      (record {
        below = λ i h. no_entry i;
        above = λ i h m. no_entry i;
        ends = le_refl 0;
        empty_top = λ h. le_refl 0;
        past = λ c i h. refl;
        gone = λ q h. absurd (true≢false (sym h));
        all_gone = λ c q h n. refl;
        entries_since = λ c. absurd (true≢false (sym c));
        keys_since = λ c. absurd (true≢false (sym c));
      })
      (record { entries_named = λ i s. refl; keys_named = λ q s. refl })
    where
      no_entry : (i : ℕ) → (content group).entry i ≡ None
      no_entry i = same_entry (content group) no_group i (gone (index i))

  pub files_stay : (t : Trace) (g : GroupContent E) (first : ℕ) → ((c : Cell) → IsFrom first (file_of t g c)) → NamesNoEarlier t g first
  files_stay t g first late = record { marked = marked; entries_too = rewritten; keys_too = put_so }
    where
      marked : (c : Cell) → IsFrom first (file_of (trace_marked t) g c)
      marked presence = tt
      marked (index i) = by_place (nat_lt i t.low) (nat_lt i t.next) (nat_le t.next t.low) (late (index i))
        where
          by_place : (l n e : Bool) → IsFrom first (cond l t.since (cond n (t.entry_file i) t.tail)) → IsFrom first (cond l None (cond n (t.entry_file i) (cond e None t.tail)))
          by_place true n e h = tt
          by_place false true e h = h
          by_place false false true h = tt
          by_place false false false h = h
      marked (key k) = by_value (is_some (g.value k)) (late (key k))
        where
          by_value : (b : Bool) → IsFrom first (cond b (t.key_file k) t.since) → IsFrom first (cond b (t.key_file k) None)
          by_value true h = h
          by_value false h = tt

      rewritten : (from stop : ℕ) (c : Cell) → IsFrom first (file_of (trace_rewritten from stop t) g c)
      rewritten from stop presence = late presence
      rewritten from stop (index i) = by_place (nat_lt i t.low) (nat_lt i t.next) (nat_le from i && nat_lt i stop) (nat_le t.next stop) (late (index i))
        where
          by_place : (l n b e : Bool) → IsFrom first (cond l t.since (cond n (t.entry_file i) t.tail)) → IsFrom first (cond l t.since (cond n (cond b None (t.entry_file i)) (cond e None t.tail)))
          by_place true n b e h = h
          by_place false true true e h = tt
          by_place false true false e h = h
          by_place false false b true h = tt
          by_place false false b false h = h
      rewritten from stop (key k) = late (key k)

      put_so : (name : List ℕ) (c : Cell) → IsFrom first (file_of (trace_put name t) g c)
      put_so name presence = late presence
      put_so name (index i) = late (index i)
      put_so name (key k) = by_name (bytes_eq name k) (is_some (g.value k)) (late (key k))
        where
          by_name : (b v : Bool) → IsFrom first (cond v (t.key_file k) t.since) → IsFrom first (cond v (cond b None (t.key_file k)) t.since)
          by_name true true h = tt
          by_name true false h = h
          by_name false v h = h

  -- ---- an opening over left-over files

  abbrev RemovedGroups : Traces → Content E → Content E → Account → Type 0
  RemovedGroups traces older content account = (group : ℕ) → KnowsRemoved (traces group) (older group) (content group) (account group)

  item_removed : (file : ℕ) (item : Item E) (traces : Traces) (older content : Content E) (account : Account) → RemovedGroups traces older content account
      → RemovedGroups (traces_after_item file item traces) older (after_item item content) (account_after_item file item account)
  item_removed file item traces older content account h group = by_group (nat_eq item.group group)
    where
      by_group : (b : Bool)
          → KnowsRemoved (cond b (trace_after file item.change (traces group)) (traces group)) (older group) (cond b (after_change item.change (content group)) (content group)) (cond b (names_after file item.change (account group)) (account group))
      by_group true = changes_keep_removed file item.change (traces group) (older group) (content group) (account group) (h group)
      by_group false = h group

  items_removed : (file : ℕ) (items : List (Item E)) (traces : Traces) (older content : Content E) (account : Account) → RemovedGroups traces older content account
      → RemovedGroups (traces_after file items traces) older (after_batch items content) (account_after_items file items account)
  items_removed file [] traces older content account h = h
  items_removed file (item ∷ items) traces older content account h =
      items_removed file items (traces_after_item file item traces) older (after_item item content) (account_after_item file item account) (item_removed file item traces older content account h)

  batch_removed : (file : ℕ) (items : List (Item E)) (traces : Traces) (older content : Content E) (account : Account) → RemovedGroups traces older content account
      → RemovedGroups (traces_after file items traces) older (after_batch items content) (account_after file items account)
  batch_removed file items traces older content account h = subst (λ (a : Account). RemovedGroups (traces_after file items traces) older (after_batch items content) a)
      (λ i. λ group c. same_account file items account group c i) (items_removed file items traces older content account h)

  all_removed : (bs : List (Filed E)) (traces : Traces) (older content : Content E) (account : Account) → RemovedGroups traces older content account
      → RemovedGroups (traces_after_all bs traces) older (after_batches (batches_of bs) content) (account_after_all bs account)
  all_removed [] traces older content account h = h
  all_removed (b ∷ bs) traces older content account h =
      all_removed bs (traces_after b.file b.items traces) older (after_batch b.items content) (account_after b.file b.items account) (batch_removed b.file b.items traces older content account h)

  pub names_late : (first least : ℕ) (bs : List (Filed E)) (account : Account) → first ≤ least → FilesRise least bs → NamesNoneBefore first account → NamesNoneBefore first (account_after_all bs account)
  names_late first least [] account h rise late = late
  names_late first least (b ∷ bs) account h rise late = names_late first b.file bs (account_after b.file b.items account) (le_trans h rise.0) rise.1 (λ group c. by_set group c (batch_sets b.items group c))
    where
      by_set : (group : ℕ) (c : Cell) (s : Bool) → IsFrom first (cond s (Some b.file) (account group c))
      by_set group c true = le_trans h rise.0
      by_set group c false = late group c

  entry_bounded : (o : Option E) (names file : Option ℕ) → (IsSome o → names ≡ file) → (o ≡ None → IsBounded names file) → IsBounded names file
  entry_bounded None names file named hole = hole refl
  entry_bounded (Some x) names file named hole = subst (λ (n : Option ℕ). IsBounded names n) (named refl) (bounded_by_own names)

  opened_bounds : (first : ℕ) (t u : Trace) (older g : GroupContent E) (names : Names) → ((c : Cell) → IsFrom first (names c)) → IsReplayed first t u older g names → Bounds u g names
  opened_bounds first t u older g names late o presence = first_bounds first names u.since o.since late presence
  opened_bounds first t u older g names late o (index i) = by_place (nat_lt i u.low) refl (nat_lt i u.next) refl
    where
      by_place : (l : Bool) → nat_lt i u.low ≡ l → (n : Bool) → nat_lt i u.next ≡ n → IsBounded (names (index i)) (cond l u.since (cond n (u.entry_file i) u.tail))
      by_place true h n k = first_bounds first names u.since o.since late (index i)
      by_place false h true k = entry_bounded (g.entry i) (names (index i)) (u.entry_file i) (o.files.entries_named i) (o.holes i (ltb-false i u.low h) (ltb-true i u.next k))
      by_place false h false k = o.tail i (ltb-false i u.low h) (ltb-false i u.next k)
  opened_bounds first t u older g names late o (key k) = by_value (is_some (g.value k)) refl
    where
      by_value : (b : Bool) → is_some (g.value k) ≡ b → IsBounded (names (key k)) (cond b (u.key_file k) u.since)
      by_value true h = subst (λ (n : Option ℕ). IsBounded (names (key k)) n) (o.files.keys_named k h) (bounded_by_own (names (key k)))
      by_value false h = first_bounds first names u.since o.since late (key k)

  new_removed : (g : GroupContent E) → KnowsRemoved new_trace g g (λ c. None)
  new_removed g = record {
    gone = λ q h. absurd (true≢false (sym h));
    all_gone = λ c q h n. h;
    entries_since = λ c. absurd (true≢false (sym c));
    keys_since = λ c. absurd (true≢false (sym c));
  }

  pub replays_keep : (opened : Traces) (records : List (List (Item E))) (bs : List (Filed E)) (first : ℕ) → FilesRise first bs → AreReplayed first records bs opened
      → IsKept opened (account_after_all bs no_account) records (after_batches (batches_of bs) (content_of records)) bs
  replays_keep opened records bs first rise has = record {
    accounted = openings_account (content_of records) bs;
    bounds = λ group. opened_bounds first (replayed_traces bs group) (opened group) (content_of records group) (after_batches (batches_of bs) (content_of records) group) (account_after_all bs no_account group)
        (names_late first first bs no_account (le_refl first) rise (λ g c. tt) group) (has group);
    knows = knows;
    files = λ group. (has group).files;
  }
    where
      knows : (group : ℕ) → Knows (opened group) (content_of records group) (after_batches (batches_of bs) (content_of records) group) (account_after_all bs no_account group)
      knows group =
          let o = has group in
          let r = all_removed bs (λ g. new_trace) (content_of records) (content_of records) no_account (λ g. new_removed (content_of records g)) group in
          record {
            below = o.below;
            above = o.above;
            ends = o.ends;
            empty_top = o.empty_top;
            past = o.past;
            gone = λ q h. r.gone q (sym (o.deleted q) ∙ h);
            all_gone = λ c q h n. r.all_gone (sym o.cleaned ∙ c) q h (sym (o.deleted q) ∙ n);
            entries_since = λ c. r.entries_since (sym o.cleaned ∙ c);
            keys_since = λ c. r.keys_since (sym o.cleaned ∙ c);
          }

  -- ---- the rewrite queue is written anew

  pub old_records_may_go : (traces : Traces) (account : Account) (old new : List (Written E)) (content : Content E) (bs : List (Filed E)) → AreWritten old → AreWritten new
      → IsKept traces account (all_records old ++ all_records new) content bs → GivesAll traces account content (content_of (all_records new))
      → (n : ℕ) → IsKept traces account (drop n (all_records old) ++ all_records new) content bs
  old_records_may_go traces account old new content bs wo wn k gives n = record {
    accounted = old_rewrites_may_go account content bs old new wo wn k.accounted gives.unnamed n;
    bounds = k.bounds;
    knows = λ group. knows group (k.knows group);
    files = k.files;
  }
    where
      knows : (group : ℕ) → Knows (traces group) (content_of (all_records old ++ all_records new) group) (content group) (account group)
          → Knows (traces group) (content_of (drop n (all_records old) ++ all_records new) group) (content group) (account group)
      knows group o = record {
        below = o.below;
        above = o.above;
        ends = o.ends;
        empty_top = o.empty_top;
        past = λ c i h. ⊎_elim
            (λ as_all. same_entry (content_of (drop n (all_records old) ++ all_records new) group) (content_of (all_records old ++ all_records new) group) i as_all ∙ o.past c i h)
            (λ as_new. same_entry (content_of (drop n (all_records old) ++ all_records new) group) (content_of (all_records new) group) i as_new ∙ gives.entries_low group i h)
            (either_part old new wo wn n group (index i));
        gone = o.gone;
        all_gone = λ c q h m. ⊎_elim
            (λ as_all. same_value (content_of (drop n (all_records old) ++ all_records new) group) (content_of (all_records old ++ all_records new) group) q as_all ∙ o.all_gone c q h m)
            (λ as_new. same_value (content_of (drop n (all_records old) ++ all_records new) group) (content_of (all_records new) group) q as_new ∙ gives.keys_there group q h)
            (either_part old new wo wn n group (key q));
        entries_since = o.entries_since;
        keys_since = o.keys_since;
      }

  -- an entry that isn't there, by the ends
  none_past : (t : Trace) (older g : GroupContent E) (names : Names) → Knows t older g names → (i : ℕ) → t.top ≤ i → g.entry i ≡ None
  none_past t older g names k i h = none_outside t older g names k i (λ low. le_trans k.ends h)

  whole_unnamed : (t : Trace) (g new : GroupContent E) (names : Names) → TellsFiles t g names → HasWhole t g new → (c : Cell) → names c ≡ None → held new c ≡ held g c
  whole_unnamed t g new names files whole presence e = ap is_there whole.there
  whole_unnamed t g new names files whole (index i) e = by_entry (g.entry i) refl
    where
      by_entry : (o : Option E) → g.entry i ≡ o → held new (index i) ≡ held g (index i)
      by_entry None n = ap an_entry (whole.no_other_entry i n ∙ sym n)
      by_entry (Some x) n = let s : IsSome (g.entry i) = is_there_is (g.entry i) x n in ap an_entry (whole.entries_too i s (sym (files.entries_named i s) ∙ e))
  whole_unnamed t g new names files whole (key k) e = by_value (g.value k) refl
    where
      by_value : (o : Option (List ℕ)) → g.value k ≡ o → held new (key k) ≡ held g (key k)
      by_value None n = ap a_value (whole.no_other_key k n ∙ sym n)
      by_value (Some v) n = let s : IsSome (g.value k) = is_there_is (g.value k) v n in ap a_value (whole.keys_too k s (sym (files.keys_named k s) ∙ e))

  pub whole_groups_give_all : (traces : Traces) (account : Account) (records : List (List (Item E))) (content new : Content E) (bs : List (Filed E))
      → IsKept traces account records content bs → ((group : ℕ) → HasWhole (traces group) (content group) (new group)) → GivesAll traces account content new
  whole_groups_give_all traces account records content new bs k whole = record {
    unnamed = λ group c e. whole_unnamed (traces group) (content group) (new group) (account group) (k.files group) (whole group) c e;
    entries_low = λ group i h. (whole group).no_other_entry i (none_past (traces group) (content_of records group) (content group) (account group) (k.knows group) i h);
    keys_there = λ group q h. (whole group).no_other_key q h;
  }
