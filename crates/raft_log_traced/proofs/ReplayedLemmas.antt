-- What was replayed can be cleaned by the traces that an opening makes.
use Rattle.std.proofs.Common.{◌≡◌, ◌<◌, ◌-◌, ℕ, Bool, true, false, cond, List, [], ◌∷◌, ◌++◌, map, Option, Some, None, refl, sym, ap, subst, ◌∙◌, arith, ltb-false, inl, inr, ◌⊎◌}
use Rattle.std.specs.Prelude.{nat_eq, nat_le, nat_lt}
use Rattle.std.specs.List.{AllByRecursion}
use Rattle.std.specs.Ordering.{eq_by_cmp, nat_cmp}
use Rattle.std.specs.Set.{is_member}
use Rattle.std.proofs.lemmas.List.{map-append}
use Rattle.raft_log_records.specs.declared.file_id.FileBlockHandle.{FileBlockHandle}
use Rattle.raft_log_records.specs.declared.file_id.LogQueue.{LogQueue}
use Rattle.raft_log_records.specs.declared.file_id.LogQueue.TheVariants.{Append, Rewrite}
use Rattle.raft_log_records.specs.declared.item.EntryIndex.{EntryIndex}
use Rattle.raft_log_records.specs.Item.{Change, Item, change_map}
use Rattle.raft_log_records.specs.Item.Change.{entries, clean, compact, put, delete, mark}
use Rattle.raft_log_records.specs.Spelling.{first_index}
use Rattle.raft_log_memtables.specs.Content.{Content, GroupContent, after_batch, after_change, after_item, entry_at, nothing}
use Rattle.raft_log_memtables.specs.Entries.{placed_in}
use Rattle.raft_log_memtables.specs.MemTable.{items_in}
use Rattle.raft_log_memtables.specs.Replay.{content_of}
use Rattle.raft_log_covers.specs.Cells.{AreUnmarked, after_batches}
use Rattle.raft_log_covers.specs.Kept.{Traces, new_trace, replayed_traces, traces_after, traces_after_all}
use Rattle.raft_log_covers.specs.Marks.{is_in}
use Rattle.raft_log_covers.specs.Placed.{AreFiled, ChangeIn, EachIn, ItemsIn}
use Rattle.raft_log_covers.specs.Queues.{FilesRise, batches_of}
use Rattle.raft_log_covers.specs.Trace.{Trace}
use Rattle.raft_log_covers.proofs.CellLemmas.{records_compose}
use Rattle.raft_log_recovery.specs.Replay.{Placed}
use Rattle.raft_log_replay.specs.Batches.{content_over, reach_over, records_in}
use Rattle.raft_log_traces.specs.Alike.{AreAlike, IsAlike}
use Rattle.raft_log_traces.proofs.LawLemmas.{entries_say_nothing}
use Rattle.raft_log_marks.specs.Opened.{HasEnds, IsMadeOf, IsSince, TellPlaces, file_at, reach_of_records}
use Rattle.raft_log_marks.specs.Standing.{CanBeCleaned}
use Rattle.raft_log_marks.proofs.FoundLemmas.{replayed_both}
use Rattle.raft_log_marks.proofs.MadeLemmas.{opened_queues_can_be_cleaned, opened_queues_tell_places}
use Rattle.raft_log_traced.specs.Opened.{AreChanged, HasEntries, HasRest, HasSince, tail_behind}
use Rattle.raft_log_traced.specs.Traced.{AreOf, file_on, filed_in, lies_in, traces_over, traces_with}
use Rattle.raft_log_traced.proofs.OpenedLemmas.{alike_rest}

-- ---- where entries lie

each_in : (handle : FileBlockHandle) (es : List (ℕ × EntryIndex)) → handle.id.queue ≡ Append → EachIn lies_in handle.id.seq (map (λ e. (e.0, placed_in handle e.1)) es)
each_in handle [] queue = tt
each_in handle (e ∷ es) queue = (ap (λ (q : LogQueue). file_on q handle.id.seq) queue, each_in handle es queue)

items_lie : (handle : FileBlockHandle) (items : List (Item EntryIndex)) → handle.id.queue ≡ Append → ItemsIn lies_in handle.id.seq (items_in handle items)
items_lie handle [] queue = tt
items_lie handle (item ∷ items) queue = (change_lies item.change, items_lie handle items queue)
  where
    change_lies : (c : Change EntryIndex) → ChangeIn lies_in handle.id.seq (change_map (placed_in handle) c)
    change_lies (entries es) = each_in handle es queue
    change_lies clean = tt
    change_lies (compact limit) = tt
    change_lies (put name value) = tt
    change_lies (delete name) = tt
    change_lies (mark id status) = tt

all_filed : (placed : List Placed) → AreOf Append placed → AreFiled lies_in (filed_in placed)
all_filed [] of_queue = tt
all_filed (p ∷ placed) of_queue = (items_lie p.handle p.items of_queue.0, all_filed placed of_queue.1)

-- none lies in an append file
abbrev NoneLie : List (ℕ × EntryIndex) → Type 0
NoneLie es = AllByRecursion (λ e. lies_in e.1 ≡ None) es

abbrev ChangeRewritten : Change EntryIndex → Type 0
ChangeRewritten (entries es) = NoneLie es
ChangeRewritten clean = Unit {0}
ChangeRewritten (compact limit) = Unit {0}
ChangeRewritten (put name value) = Unit {0}
ChangeRewritten (delete name) = Unit {0}
ChangeRewritten (mark id status) = Unit {0}

abbrev AreRewritten : List (Item EntryIndex) → Type 0
AreRewritten items = AllByRecursion (λ item. ChangeRewritten item.change) items

join_rewritten : (a b : List (Item EntryIndex)) → AreRewritten a → AreRewritten b → AreRewritten (a ++ b)
join_rewritten [] b f g = g
join_rewritten (x ∷ a) b f g = (f.0, join_rewritten a b f.1 g)

none_in : (handle : FileBlockHandle) (es : List (ℕ × EntryIndex)) → handle.id.queue ≡ Rewrite → NoneLie (map (λ e. (e.0, placed_in handle e.1)) es)
none_in handle [] queue = tt
none_in handle (e ∷ es) queue = (ap (λ (q : LogQueue). file_on q handle.id.seq) queue, none_in handle es queue)

items_rewritten : (handle : FileBlockHandle) (items : List (Item EntryIndex)) → handle.id.queue ≡ Rewrite → AreRewritten (items_in handle items)
items_rewritten handle [] queue = tt
items_rewritten handle (item ∷ items) queue = (change_rewritten item.change, items_rewritten handle items queue)
  where
    change_rewritten : (c : Change EntryIndex) → ChangeRewritten (change_map (placed_in handle) c)
    change_rewritten (entries es) = none_in handle es queue
    change_rewritten clean = tt
    change_rewritten (compact limit) = tt
    change_rewritten (put name value) = tt
    change_rewritten (delete name) = tt
    change_rewritten (mark id status) = tt

all_rewritten : (placed : List Placed) → AreOf Rewrite placed → AllByRecursion AreRewritten (records_in placed)
all_rewritten [] of_queue = tt
all_rewritten (p ∷ placed) of_queue = (items_rewritten p.handle p.items of_queue.0, all_rewritten placed of_queue.1)

abbrev LiesNowhere : Content EntryIndex → Type 0
LiesNowhere content = (group i : ℕ) (e : EntryIndex) → (content group).entry i ≡ Some e → lies_in e ≡ None

entry_nowhere : (es : List (ℕ × EntryIndex)) (i : ℕ) (e : EntryIndex) → NoneLie es → entry_at es i ≡ Some e → lies_in e ≡ None
entry_nowhere [] i e all is = absurd cc
entry_nowhere (x ∷ es) i e all is = by_test (λ found. entry_nowhere es i e all.1 found) (nat_eq x.0 i) is
  where
    by_test : (entry_at es i ≡ Some e → lies_in e ≡ None) → (b : Bool) → cond b (Some x.1) (entry_at es i) ≡ Some e → lies_in e ≡ None
    by_test rest true found =
        let same : x.1 ≡ e = cc in
        sym (ap lies_in same) ∙ all.0
    by_test rest false found = rest found

change_nowhere : (change : Change EntryIndex) (g : GroupContent EntryIndex) → ChangeRewritten change → ((i : ℕ) (e : EntryIndex) → g.entry i ≡ Some e → lies_in e ≡ None)
    → (i : ℕ) (e : EntryIndex) → (after_change change g).entry i ≡ Some e → lies_in e ≡ None
change_nowhere (entries es) g all k i e is = by_test (nat_le (first_index es) i) is
  where
    by_test : (b : Bool) → cond b (entry_at es i) (g.entry i) ≡ Some e → lies_in e ≡ None
    by_test true found = entry_nowhere es i e all found
    by_test false found = k i e found
change_nowhere clean g all k i e is = absurd cc
change_nowhere (compact limit) g all k i e is = by_test (nat_lt i limit) is
  where
    by_test : (b : Bool) → cond b None (g.entry i) ≡ Some e → lies_in e ≡ None
    by_test true found = absurd cc
    by_test false found = k i e found
change_nowhere (put name value) g all k i e is = k i e is
change_nowhere (delete name) g all k i e is = k i e is
change_nowhere (mark id status) g all k i e is = k i e is

items_nowhere : (items : List (Item EntryIndex)) (content : Content EntryIndex) → AreRewritten items → LiesNowhere content → LiesNowhere (after_batch items content)
items_nowhere [] content all k = k
items_nowhere (item ∷ items) content all k = items_nowhere items (after_item item content) all.1 (λ group. by_group group (nat_eq item.group group))
  where
    by_group : (group : ℕ) (b : Bool) (i : ℕ) (e : EntryIndex) → (cond b (after_change item.change (content group)) (content group)).entry i ≡ Some e → lies_in e ≡ None
    by_group group true i e is = change_nowhere item.change (content group) all.0 (k group) i e is
    by_group group false i e is = k group i e is

lie_nowhere : (placed : List Placed) → AreOf Rewrite placed → LiesNowhere (content_of (records_in placed))
lie_nowhere placed of_queue =
    replayed_both after_batch (λ items u. u) AreRewritten (λ content u. LiesNowhere content) join_rewritten (λ items content u all k. items_nowhere items content all k) (records_in placed) (all_rewritten placed of_queue) None tt nothing (tt {0})
    (λ group i e is. absurd cc)

-- ---- what was replayed

records_are : (placed : List Placed) → records_in placed ≡ batches_of (filed_in placed)
records_are [] = refl
records_are (p ∷ placed) = ap (λ l. items_in p.handle p.items ∷ l) (records_are placed)

both_records : (rewrites appends : List Placed) → records_in (rewrites ++ appends) ≡ records_in rewrites ++ batches_of (filed_in appends)
both_records rewrites appends = map-append (λ (p : Placed). items_in p.handle p.items) rewrites appends ∙ ap (λ l. records_in rewrites ++ l) (records_are appends)

rewrites_over : (rewrites appends : List Placed) (ts : Traces) → AreOf Rewrite rewrites → traces_over (rewrites ++ appends) ts ≡ traces_over appends ts
rewrites_over [] appends ts of_queue = refl
rewrites_over (p ∷ rewrites) appends ts of_queue =
    ap (λ (us : Traces). traces_over (rewrites ++ appends) us) (ap (λ (q : LogQueue). traces_with q p.handle.id.seq p.items ts) of_queue.0) ∙ rewrites_over rewrites appends ts of_queue.1

appends_over : (appends : List Placed) (ts : Traces) → AreOf Append appends → traces_over appends ts ≡ traces_after_all (filed_in appends) ts
appends_over [] ts of_queue = refl
appends_over (p ∷ appends) ts of_queue =
    ap (λ (us : Traces). traces_over appends us)
    (ap (λ (q : LogQueue). traces_with q p.handle.id.seq p.items ts) of_queue.0 ∙ (λ i. λ group. sym (entries_say_nothing (placed_in p.handle) p.handle.id.seq p.items ts group) i))
    ∙ appends_over appends (traces_after p.handle.id.seq (items_in p.handle p.items) ts) of_queue.1

-- ---- one group

record IsRest (r u : Trace) : Type 0 where
  key_file : (k : List ℕ) → u.key_file k ≡ r.key_file k
  cleaned : u.cleaned ≡ r.cleaned
  deleted : (k : List ℕ) → is_in k u.deleted ≡ is_in k r.deleted

-- by the trace that was replayed, the one in which removals were noted, and the one that was made
made_of : (first : ℕ) (g : GroupContent EntryIndex) (reach : Option ℕ) (r t s u : Trace) → IsAlike r t → (HasSince first 0 t s) ⊎ (IsAlike t s × (t ≡ new_trace))
    → ((g.there ≡ true) × HasEntries g reach s u) ⊎ ((g.there ≡ false) × IsAlike s u) → IsMadeOf lies_in first g reach r u
made_of first g reach r t s u replayed since entered = record {
  ends = ends_of entered;
  since = since_of since;
  key_file = λ k. rest.key_file k;
  cleaned = rest.cleaned;
  deleted = rest.deleted;
}
  where
    -- all but what is removed is as it was replayed
    kept : (HasSince first 0 t s) ⊎ (IsAlike t s × (t ≡ new_trace)) → (s.low ≡ t.low) × (s.next ≡ t.next) × (s.top ≡ t.top) × ((k : List ℕ) → s.key_file k ≡ t.key_file k) × (s.cleaned ≡ t.cleaned) × ((k : List ℕ) → is_in k s.deleted ≡ is_in k t.deleted)
    kept (inl a) = (sym a.low, sym a.next, sym a.top, λ k. sym (a.key_file k), sym a.cleaned, λ k. sym (a.deleted k))
    kept (inr b) = let a = b.0 in (sym a.low, sym a.next, sym a.top, λ k. sym (a.key_file k), sym a.cleaned, λ k. sym (a.deleted k))

    made : ((g.there ≡ true) × HasEntries g reach s u) ⊎ ((g.there ≡ false) × IsAlike s u) → HasRest s u
    made (inl e) = e.1.rest
    made (inr e) = alike_rest s u e.1

    -- as removals were noted, the tail stood in the same file
    tail_since : (HasSince first 0 t s) ⊎ (IsAlike t s × (t ≡ new_trace)) → s.tail ≡ s.since
    tail_since (inl a) = sym a.tail ∙ a.since
    tail_since (inr b) = sym b.0.tail ∙ ap (λ (x : Trace). x.tail) b.1 ∙ sym (ap (λ (x : Trace). x.since) b.1) ∙ b.0.since

    ends_of : ((g.there ≡ true) × HasEntries g reach s u) ⊎ ((g.there ≡ false) × IsAlike s u) → HasEnds lies_in g reach r u
    ends_of (inl e) = inl (e.0, e.1.ends, e.1.files, e.1.tail ∙ (λ i. tail_behind g u.low u.next ((tail_since since ∙ sym e.1.rest.since) i)))
    ends_of (inr e) = inr (
      e.0,
      sym e.1.low ∙ (kept since).0 ∙ sym replayed.low,
      sym e.1.next ∙ (kept since).1 ∙ sym replayed.next,
      sym e.1.top ∙ (kept since).2 ∙ sym replayed.top,
      sym e.1.tail ∙ tail_since since ∙ e.1.since,
    )

    rest : IsRest r u
    rest = record {
      key_file = λ k. (made entered).key_file k ∙ (kept since).3 k ∙ sym (replayed.key_file k);
      cleaned = (made entered).cleaned ∙ (kept since).4 ∙ sym replayed.cleaned;
      deleted = λ k. (made entered).deleted k ∙ (kept since).5 k ∙ sym (replayed.deleted k);
    }

    since_of : (HasSince first 0 t s) ⊎ (IsAlike t s × (t ≡ new_trace)) → IsSince first r u
    since_of (inl a) = inl ((made entered).since ∙ sym a.since)
    since_of (inr b) = inr (
      replayed.since ∙ ap (λ (x : Trace). x.since) b.1,
      (made entered).since ∙ sym b.0.since ∙ ap (λ (x : Trace). x.since) b.1,
    )

-- where there are entries, what lies past them has the file of the last one
pub last_tail : (g : GroupContent EntryIndex) (reach : Option ℕ) (t u : Trace) → HasEntries g reach t u → u.low < u.next → u.tail ≡ file_at lies_in (g.entry (u.next - 1))
last_tail g reach t u h full = h.tail ∙ by_ends (nat_lt u.low u.next) refl
  where
    by_ends : (b : Bool) → nat_lt u.low u.next ≡ b → cond b (file_at lies_in (g.entry (u.next - 1))) t.tail ≡ file_at lies_in (g.entry (u.next - 1))
    by_ends true e = refl
    by_ends false e = let empty = ltb-false u.low u.next e in absurd (omega (arith, full, empty))

-- ---- all of them

pub cleaned_by_traces : (first : ℕ) (rewrites appends : List Placed) (groups : List ℕ) (ts ss us : Traces) (content : Content EntryIndex) (reach : ℕ → Option ℕ) → AreOf Rewrite rewrites → AreOf Append appends
    → FilesRise first (filed_in appends) → AreUnmarked (batches_of (filed_in appends)) → content ≡ content_over nothing (rewrites ++ appends) → reach ≡ reach_over (λ group. None) (rewrites ++ appends)
    → AreAlike (traces_over (rewrites ++ appends) (λ group. new_trace)) ts
    → AreChanged (HasSince first) groups ts ss → ((group : ℕ) → is_member (eq_by_cmp nat_cmp) groups group ≡ false → ts group ≡ new_trace)
    → ((group : ℕ) → (content group).there ≡ true → HasEntries (content group) (reach group) (ss group) (us group)) → ((group : ℕ) → (content group).there ≡ false → IsAlike (ss group) (us group))
    → CanBeCleaned first us (records_in rewrites) content (filed_in appends) × TellPlaces lies_in us content
cleaned_by_traces first rewrites appends groups ts ss us content reach of_rewrite of_append rise unmarked content_is reach_is replayed changed unnamed there gone =
    subst (λ (c : Content EntryIndex). CanBeCleaned first us (records_in rewrites) c (filed_in appends) × TellPlaces lies_in us c) (sym is) (
      opened_queues_can_be_cleaned lies_in first us (records_in rewrites) (filed_in appends) rise unmarked (lie_nowhere rewrites of_rewrite) (all_filed appends of_append) (λ group. made group),
      opened_queues_tell_places lies_in first us (records_in rewrites) (filed_in appends) rise unmarked (lie_nowhere rewrites of_rewrite) (all_filed appends of_append) (λ group. made group),
    )
  where
    is : content ≡ after_batches (batches_of (filed_in appends)) (content_of (records_in rewrites))
    is = content_is ∙ ap content_of (both_records rewrites appends) ∙ records_compose (records_in rewrites) (batches_of (filed_in appends)) unmarked

    reach_so : reach ≡ reach_of_records (records_in rewrites ++ batches_of (filed_in appends))
    reach_so = reach_is ∙ ap reach_of_records (both_records rewrites appends)

    traces_are : traces_over (rewrites ++ appends) (λ group. new_trace) ≡ replayed_traces (filed_in appends)
    traces_are = rewrites_over rewrites appends (λ group. new_trace) of_rewrite ∙ appends_over appends (λ group. new_trace) of_append

    each : (group : ℕ) → IsMadeOf lies_in first (content group) (reach group) (replayed_traces (filed_in appends) group) (us group)
    each group = made_of first (content group) (reach group) (replayed_traces (filed_in appends) group) (ts group) (ss group) (us group)
        (subst (λ (rs : Traces). IsAlike (rs group) (ts group)) traces_are (replayed group))
        (since_at (is_member (eq_by_cmp nat_cmp) groups group) refl)
        (entries_at (content group).there refl)
      where
        since_at : (b : Bool) → is_member (eq_by_cmp nat_cmp) groups group ≡ b → (HasSince first 0 (ts group) (ss group)) ⊎ (IsAlike (ts group) (ss group) × (ts group ≡ new_trace))
        since_at true e = inl (changed.named group e)
        since_at false e = inr (changed.others group e, unnamed group e)

        entries_at : (b : Bool) → (content group).there ≡ b → (((content group).there ≡ true) × HasEntries (content group) (reach group) (ss group) (us group)) ⊎ (((content group).there ≡ false) × IsAlike (ss group) (us group))
        entries_at true e = inl (e, there group e)
        entries_at false e = inr (e, gone group e)

    made : (group : ℕ) → IsMadeOf lies_in first (after_batches (batches_of (filed_in appends)) (content_of (records_in rewrites)) group) (reach_of_records (records_in rewrites ++ batches_of (filed_in appends)) group)
        (replayed_traces (filed_in appends) group) (us group)
    made group =
        subst (λ (r : ℕ → Option ℕ). IsMadeOf lies_in first (after_batches (batches_of (filed_in appends)) (content_of (records_in rewrites)) group) (r group) (replayed_traces (filed_in appends) group) (us group)) reach_so
        (subst (λ (c : Content EntryIndex). IsMadeOf lies_in first (c group) (reach group) (replayed_traces (filed_in appends) group) (us group)) is (each group))
