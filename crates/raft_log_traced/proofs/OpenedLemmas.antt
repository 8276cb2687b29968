-- Traces as an opening makes them, step by step.
use Rattle.std.proofs.Common.{◌≡◌, ◌≤◌, ◌<◌, ◌+◌, ◌-◌, ℕ, Bool, true, false, cond, List, [], ◌∷◌, ◌++◌, Option, Some, None, refl, sym, ap, subst, ◌∙◌, arith, ltb-true, ltb-false, true≢false}
use Rattle.std.specs.Prelude.{◌||◌, IsSome, nat_eq, nat_le, nat_lt}
use Rattle.std.specs.Cmp.{unsigned_tied}
use Rattle.std.specs.Ordering.{eq_by_cmp, nat_cmp}
use Rattle.std.specs.Set.{is_member}
use Rattle.std.proofs.lemmas.Bool.{eq-eqb, eqb-true, leb-true, le-leb}
use Rattle.raft_log_records.specs.declared.item.EntryIndex.{EntryIndex}
use Rattle.raft_log_memtables.specs.Content.{GroupContent}
use Rattle.raft_log_memtables.specs.Entries.{IsFirst, IsLast}
use Rattle.raft_log_covers.specs.Kept.{Traces, with_trace}
use Rattle.raft_log_covers.specs.Trace.{Trace}
use Rattle.raft_log_covers.proofs.FileLemmas.{not_there}
use Rattle.raft_log_covers.proofs.KeptLemmas.{is_there_is}
use Rattle.raft_log_traces.specs.Alike.{IsAlike, AreAlike}
use Rattle.raft_log_traces.specs.Opened.{trace_filed, trace_since, trace_tailed, trace_with_ends}
use Rattle.raft_log_traces.proofs.AlikeLemmas.{joined, same}
use Rattle.raft_log_traces.proofs.OpenedLemmas.{since_same}
use Rattle.raft_log_marks.specs.Opened.{AreEnds, AreFilesOf, file_at, past_of}
use Rattle.raft_log_traced.specs.Opened.{AreChanged, AreFiledUpTo, HasEntries, HasRest, HasSince, IsFiledOne, IsSetOne, IsTailedOne, is_file, run_begun, tail_behind}
use Rattle.raft_log_traced.specs.Traced.{lies_in}

-- ---- ends

none_unless : {X : Type 0} (o : Option X) → (IsSome o → ⊥) → o ≡ None
none_unless None h = refl
none_unless (Some x) h = absurd (h refl)

pub full_ends : (g : GroupContent EntryIndex) (reach : Option ℕ) (first last top : ℕ) → IsFirst g.entry (Some first) → IsLast g.entry (Some last) → top ≡ past_of reach → AreEnds g reach first (last + 1) top
full_ends g reach first last top f l e = record {
  below = λ i h. none_unless (g.entry i) (λ s. let low = f.1 i s in omega (arith, h, low));
  above = λ i h. none_unless (g.entry i) (λ s. let high = l.1 i s in omega (arith, h, high));
  first = λ h. f.0;
  last = λ h. let same : last ≡ last + 1 - 1 = omega arith in subst (λ (n : ℕ). IsSome (g.entry n)) same l.0;
  top_is = e;
  empty = λ h. let low = f.1 last l.0 in absurd (omega (arith, h, low));
}

pub no_ends : (g : GroupContent EntryIndex) (reach : Option ℕ) (top : ℕ) → ((i : ℕ) → g.entry i ≡ None) → top ≡ past_of reach → AreEnds g reach top top top
no_ends g reach top none e = record {
  below = λ i h. none i;
  above = λ i h. none i;
  first = λ h. absurd (omega (arith, h));
  last = λ h. absurd (omega (arith, h));
  top_is = e;
  empty = λ h. (refl, refl);
}

-- ---- a run begins

pub same_trace : (group : ℕ) (ts : Traces) → AreAlike (with_trace group (ts group) ts) ts
same_trace group ts other = by_test (nat_eq group other) refl
  where
    by_test : (b : Bool) → nat_eq group other ≡ b → IsAlike (cond b (ts group) (ts other)) (ts other)
    by_test true e = subst (λ (n : ℕ). IsAlike (ts group) (ts n)) (eqb-true group other e) (same (ts group))
    by_test false e = same (ts other)

-- of the group itself, and of another one
pub at_group : (group : ℕ) (t : Trace) (ts us : Traces) → AreAlike (with_trace group t ts) us → IsAlike t (us group)
at_group group t ts us a = subst (λ (b : Bool). IsAlike (cond b t (ts group)) (us group)) (eq-eqb group group refl) (a group)

pub elsewhere : (group : ℕ) (t : Trace) (ts us : Traces) → AreAlike (with_trace group t ts) us → (other : ℕ) → nat_eq group other ≡ false → IsAlike (ts other) (us other)
elsewhere group t ts us a other e = subst (λ (b : Bool). IsAlike (cond b t (ts other)) (us other)) e (a other)

pub no_rest : (t : Trace) → HasRest t t
no_rest t = record { since = refl; key_file = λ k. refl; cleaned = refl; deleted = λ k. refl }

pub both_rest : (t u v : Trace) → HasRest t u → HasRest u v → HasRest t v
both_rest t u v a b = record {
  since = b.since ∙ a.since;
  key_file = λ k. b.key_file k ∙ a.key_file k;
  cleaned = b.cleaned ∙ a.cleaned;
  deleted = λ k. b.deleted k ∙ a.deleted k;
}

pub alike_rest : (t u : Trace) → IsAlike t u → HasRest t u
alike_rest t u a = record {
  since = sym a.since;
  key_file = λ k. sym (a.key_file k);
  cleaned = sym a.cleaned;
  deleted = λ k. sym (a.deleted k);
}

-- all but the files of entries
record HasAll (t u : Trace) : Type 0 where
  low : u.low ≡ t.low
  next : u.next ≡ t.next
  top : u.top ≡ t.top
  tail : u.tail ≡ t.tail
  rest : HasRest t u

begun_all : (index : ℕ) (before o : Option ℕ) (t : Trace) → HasAll t (run_begun index before o t)
begun_all index before None t = record { low = refl; next = refl; top = refl; tail = refl; rest = no_rest t }
begun_all index before (Some file) t = by_test (is_file before file)
  where
    by_test : (b : Bool) → HasAll t (cond b t (trace_filed index file t))
    by_test true = record { low = refl; next = refl; top = refl; tail = refl; rest = no_rest t }
    by_test false = record { low = refl; next = refl; top = refl; tail = refl; rest = record { since = refl; key_file = λ k. refl; cleaned = refl; deleted = λ k. refl } }

is_that : (before : Option ℕ) (file : ℕ) → is_file before file ≡ true → before ≡ Some file
is_that None file e = absurd (true≢false (sym e))
is_that (Some other) file e = ap Some (eqb-true other file e)

-- an index by the next one is an earlier one or this one
by_last : {P : Type 0} (i index : ℕ) → i < index + 1 → (i < index → P) → (i ≡ index → P) → P
by_last {P} i index h early now = by_test (nat_lt i index) refl
  where
    by_test : (b : Bool) → nat_lt i index ≡ b → P
    by_test true e = early (ltb-true i index e)
    by_test false e = let low = ltb-false i index e in now (omega (arith, h, low))

moved_files : (g : GroupContent EntryIndex) (low index : ℕ) (before : Option ℕ) (f h : ℕ → Option ℕ) → ((i : ℕ) → f i ≡ h i) → AreFiledUpTo g low index before f → AreFiledUpTo g low index before h
moved_files g low index before f h e k = record {
  own = λ i file l m is. sym (e i) ∙ k.own i file l m is;
  some = λ i j l m n s. subst (λ (o : Option ℕ). IsSome o) (e i) (k.some i j l m n s);
  told = λ i file is. k.told i file (e i ∙ is);
  tail = λ file is i l. sym (e i) ∙ k.tail file is i l;
}

module _ (g : GroupContent EntryIndex) (low index : ℕ) (before : Option ℕ) (t : Trace) (k : AreFiledUpTo g low index before t.entry_file) where
  no_file_there : file_at lies_in (g.entry index) ≡ None → AreFiledUpTo g low (index + 1) None t.entry_file
  no_file_there none = record {
    own = λ i f l m is. by_last i index m (λ h. k.own i f l h is) (λ same. absurd (let here = ap (λ (n : ℕ). file_at lies_in (g.entry n)) same in cc));
    some = λ i j l m n s. by_last j index m (λ h. k.some i j l h n s) (λ same. not_there (file_at lies_in (g.entry j)) (ap (λ (n : ℕ). file_at lies_in (g.entry n)) same ∙ none) s);
    told = k.told;
    tail = λ f is. absurd cc;
  }

  same_file_there : (file : ℕ) → file_at lies_in (g.entry index) ≡ Some file → before ≡ Some file → AreFiledUpTo g low (index + 1) (Some file) t.entry_file
  same_file_there file at is = record {
    own = λ i f l m said. by_last i index m (λ h. k.own i f l h said)
        (λ same. k.tail file is i (let low = same in omega (arith, low)) ∙ sym at ∙ sym (ap (λ (n : ℕ). file_at lies_in (g.entry n)) same) ∙ said);
    some = λ i j l m n s. by_last j index m (λ h. k.some i j l h n s) (λ same. is_there_is (t.entry_file i) file (k.tail file is i (omega (arith, same, n))));
    told = k.told;
    tail = λ f said i l. k.tail f (is ∙ said) i (omega (arith, l));
  }

  other_file_there : (file : ℕ) → file_at lies_in (g.entry index) ≡ Some file → AreFiledUpTo g low (index + 1) (Some file) (trace_filed index file t).entry_file
  other_file_there file at = record {
    own = λ i f l m said. by_last i index m
        (λ h. ap (λ (b : Bool). cond b (Some file) (t.entry_file i)) (lower i h) ∙ k.own i f l h said)
        (λ same. from i (omega (arith, same)) ∙ sym at ∙ sym (ap (λ (n : ℕ). file_at lies_in (g.entry n)) same) ∙ said);
    some = λ i j l m n s. either i j l m n s (nat_le index i) refl;
    told = λ i f said. told i f (nat_le index i) refl said;
    tail = λ f said i l. from i (omega (arith, l)) ∙ said;
  }
    where
      from : (i : ℕ) → index ≤ i → (trace_filed index file t).entry_file i ≡ Some file
      from i h = ap (λ (b : Bool). cond b (Some file) (t.entry_file i)) (le-leb index i h)

      lower : (i : ℕ) → i < index → nat_le index i ≡ false
      lower i h = by_test (nat_le index i) refl
        where
          by_test : (b : Bool) → nat_le index i ≡ b → b ≡ false
          by_test true e = let high = leb-true index i e in absurd (omega (arith, h, high))
          by_test false e = refl

      either : (i j : ℕ) → low ≤ j → j < index + 1 → j ≤ i → IsSome (file_at lies_in (g.entry j)) → (b : Bool) → nat_le index i ≡ b → IsSome (cond b (Some file) (t.entry_file i))
      either i j l m n s true e = refl
      either i j l m n s false e =
          by_last j index m (λ h. k.some i j l h n s)
          (λ same. absurd (true≢false (sym (le-leb index i (omega (arith, same, n))) ∙ e)))

      told : (i f : ℕ) → (b : Bool) → nat_le index i ≡ b → cond b (Some file) (t.entry_file i) ≡ Some f → (j : ℕ) × (j ≤ i) × (file_at lies_in (g.entry j) ≡ Some f)
      told i f true e said = (index, leb-true index i e, at ∙ said)
      told i f false e said = k.told i f said

begun_files : (g : GroupContent EntryIndex) (low index : ℕ) (before o : Option ℕ) (t : Trace) → file_at lies_in (g.entry index) ≡ o → AreFiledUpTo g low index before t.entry_file
    → AreFiledUpTo g low (index + 1) o (run_begun index before o t).entry_file
begun_files g low index before None t at k = no_file_there g low index before t k at
begun_files g low index before (Some file) t at k = by_test (is_file before file) refl
  where
    by_test : (b : Bool) → is_file before file ≡ b → AreFiledUpTo g low (index + 1) (Some file) (cond b t (trace_filed index file t)).entry_file
    by_test true e = same_file_there g low index before t k file at (is_that before file e)
    by_test false e = other_file_there g low index before t k file at

pub first_filed : (g : GroupContent EntryIndex) (group low : ℕ) (ts : Traces) → IsFiledOne g group low low None ts ts
first_filed g group low ts = record {
  others = λ other e. same (ts other);
  low_stays = refl;
  next_stays = refl;
  top_stays = refl;
  tail_stays = refl;
  rest = no_rest (ts group);
  files = λ none. record {
    own = λ i f l m is. absurd (omega (arith, l, m));
    some = λ i j l m n s. absurd (omega (arith, l, m));
    told = λ i f is. absurd (let here = none i in cc);
    tail = λ f is. absurd cc;
  };
}

pub next_filed : (g : GroupContent EntryIndex) (group low index : ℕ) (before o : Option ℕ) (ts us vs : Traces) → IsFiledOne g group low index before ts us → o ≡ file_at lies_in (g.entry index)
    → AreAlike (with_trace group (run_begun index before o (us group)) us) vs → IsFiledOne g group low (index + 1) o ts vs
next_filed g group low index before o ts us vs k at a =
    let here = at_group group (run_begun index before o (us group)) us vs a in
    let all = begun_all index before o (us group) in record {
      others = λ other e. joined (ts other) (us other) (vs other) (k.others other e) (elsewhere group (run_begun index before o (us group)) us vs a other e);
      low_stays = sym here.low ∙ all.low ∙ k.low_stays;
      next_stays = sym here.next ∙ all.next ∙ k.next_stays;
      top_stays = sym here.top ∙ all.top ∙ k.top_stays;
      tail_stays = sym here.tail ∙ all.tail ∙ k.tail_stays;
      rest = both_rest (ts group) (us group) (vs group) k.rest (both_rest (us group) (run_begun index before o (us group)) (vs group) all.rest (alike_rest (run_begun index before o (us group)) (vs group) here));
      files = λ none. moved_files g low (index + 1) o (run_begun index before o (us group)).entry_file (vs group).entry_file here.entry_file
          (begun_files g low index before o (us group) (sym at) (k.files none));
    }

-- over a hole the files stay what they are
over_hole : (g : GroupContent EntryIndex) (low from index : ℕ) (before : Option ℕ) (file : ℕ → Option ℕ) → from ≤ index → ((i : ℕ) → from ≤ i → i < index → g.entry i ≡ None)
    → AreFiledUpTo g low from before file → AreFiledUpTo g low index before file
over_hole g low from index before file order none k = record {
  own = λ i f l m is. by_place i m (λ h. k.own i f l h is) (λ nothing. absurd (let gone = ap (file_at lies_in) nothing in cc));
  some = λ i j l m n s. by_place j m (λ h. k.some i j l h n s) (λ nothing. not_there (file_at lies_in (g.entry j)) (ap (file_at lies_in) nothing) s);
  told = k.told;
  tail = λ f is i l. k.tail f is i (omega (arith, order, l));
}
  where
    by_place : {P : Type 0} (i : ℕ) → i < index → (i < from → P) → (g.entry i ≡ None → P) → P
    by_place {P} i m early hole = by_test (nat_lt i from) refl
      where
        by_test : (b : Bool) → nat_lt i from ≡ b → P
        by_test true e = early (ltb-true i from e)
        by_test false e = hole (none i (ltb-false i from e) m)

pub filed_over_hole : (g : GroupContent EntryIndex) (group low from index : ℕ) (before : Option ℕ) (ts us : Traces) → from ≤ index → ((i : ℕ) → from ≤ i → i < index → g.entry i ≡ None)
    → IsFiledOne g group low from before ts us → IsFiledOne g group low index before ts us
filed_over_hole g group low from index before ts us order none k = record {
  others = k.others;
  low_stays = k.low_stays;
  next_stays = k.next_stays;
  top_stays = k.top_stays;
  tail_stays = k.tail_stays;
  rest = k.rest;
  files = λ empty. over_hole g low from index before (us group).entry_file order none (k.files empty);
}

-- ---- a group is set

files_all : (g : GroupContent EntryIndex) (reach : Option ℕ) (low next top : ℕ) (before : Option ℕ) (file : ℕ → Option ℕ) → AreEnds g reach low next top → AreFiledUpTo g low next before file → AreFilesOf lies_in g file
files_all g reach low next top before file ends k = record {
  own = λ i f is. inside i (is_there_is (file_at lies_in (g.entry i)) f is) (λ l m. k.own i f l m is);
  some = λ i j l s. inside j s (λ from to. k.some i j from to l s);
  told = k.told;
}
  where
    nothing : (j : ℕ) → g.entry j ≡ None → IsSome (file_at lies_in (g.entry j)) → ⊥
    nothing j none s = not_there (file_at lies_in (g.entry j)) (ap (file_at lies_in) none) s

    inside : {P : Type 0} (j : ℕ) → IsSome (file_at lies_in (g.entry j)) → (low ≤ j → j < next → P) → P
    inside {P} j s then = by_place (nat_lt j low) refl (nat_lt j next) refl
      where
        by_place : (a : Bool) → nat_lt j low ≡ a → (b : Bool) → nat_lt j next ≡ b → P
        by_place true ea b eb = absurd (nothing j (ends.below j (ltb-true j low ea)) s)
        by_place false ea true eb = then (ltb-false j low ea) (ltb-true j next eb)
        by_place false ea false eb = absurd (nothing j (ends.above j (ltb-false j next eb)) s)

same_files : (g : GroupContent EntryIndex) (f h : ℕ → Option ℕ) → ((i : ℕ) → f i ≡ h i) → AreFilesOf lies_in g f → AreFilesOf lies_in g h
same_files g f h e k = record {
  own = λ i file is. sym (e i) ∙ k.own i file is;
  some = λ i j l m. subst (λ (o : Option ℕ). IsSome o) (e i) (k.some i j l m);
  told = λ i file is. k.told i file (e i ∙ is);
}

ends_at : (g : GroupContent EntryIndex) (reach : Option ℕ) (low next top a b c : ℕ) → low ≡ a → next ≡ b → top ≡ c → AreEnds g reach low next top → AreEnds g reach a b c
ends_at g reach low next top a b c p q r k =
    subst (λ (n : ℕ). AreEnds g reach n b c) p (subst (λ (n : ℕ). AreEnds g reach low n c) q (subst (λ (n : ℕ). AreEnds g reach low next n) r k))

-- the tail stays without entries, and is the file of the last one where there are some
pub tail_stays : (g : GroupContent EntryIndex) (group low next : ℕ) (ts : Traces) → next ≤ low → IsTailedOne g group low next ts ts
tail_stays g group low next ts h = by_ends (nat_lt low next) refl
  where
    by_ends : (b : Bool) → nat_lt low next ≡ b → AreAlike (with_trace group (trace_tailed (cond b (file_at lies_in (g.entry (next - 1))) (ts group).tail) (ts group)) ts) ts
    by_ends true e = let full = ltb-true low next e in absurd (omega (arith, h, full))
    by_ends false e = same_trace group ts

pub tail_moves : (g : GroupContent EntryIndex) (group low next : ℕ) (file : Option ℕ) (ts us : Traces) → low < next → file ≡ file_at lies_in (g.entry (next - 1))
    → AreAlike (with_trace group (trace_tailed file (ts group)) ts) us → IsTailedOne g group low next ts us
tail_moves g group low next file ts us h is a = by_ends (nat_lt low next) refl
  where
    by_ends : (b : Bool) → nat_lt low next ≡ b → AreAlike (with_trace group (trace_tailed (cond b (file_at lies_in (g.entry (next - 1))) (ts group).tail) (ts group)) ts) us
    by_ends true e = subst (λ (o : Option ℕ). AreAlike (with_trace group (trace_tailed o (ts group)) ts) us) is a
    by_ends false e = let empty = ltb-false low next e in absurd (omega (arith, h, empty))

pub set_one : (g : GroupContent EntryIndex) (reach : Option ℕ) (group low next top : ℕ) (ts us vs ws : Traces) → AreEnds g reach low next top → AreAlike (with_trace group (trace_with_ends low next top (ts group)) ts) us
    → ((before : Option ℕ) × IsFiledOne g group low next before us vs) → IsTailedOne g group low next vs ws → IsSetOne g reach group ts ws
set_one g reach group low next top ts us vs ws ends a filed tailed =
    let here = at_group group (trace_with_ends low next top (ts group)) ts us a in
    let k = filed.1 in
    let tail : Option ℕ = tail_behind g low next (vs group).tail in
    let last = at_group group (trace_tailed tail (vs group)) vs ws tailed in
    let low_is : low ≡ (ws group).low = here.low ∙ sym k.low_stays ∙ last.low in
    let next_is : next ≡ (ws group).next = here.next ∙ sym k.next_stays ∙ last.next in
    let tail_was : (vs group).tail ≡ (ts group).tail = k.tail_stays ∙ sym here.tail in record {
      others = λ other e. joined (ts other) (vs other) (ws other) (joined (ts other) (us other) (vs other) (elsewhere group (trace_with_ends low next top (ts group)) ts us a other e) (k.others other e))
          (elsewhere group (trace_tailed tail (vs group)) vs ws tailed other e);
      own = record {
        ends = ends_at g reach low next top (ws group).low (ws group).next (ws group).top low_is next_is (here.top ∙ sym k.top_stays ∙ last.top) ends;
        files = same_files g (vs group).entry_file (ws group).entry_file last.entry_file (files_all g reach low next top filed.0 (vs group).entry_file ends (k.files (λ i. sym (here.entry_file i))));
        tail = sym last.tail ∙ (λ i. tail_behind g (low_is i) (next_is i) (tail_was i));
        rest = both_rest (ts group) (us group) (ws group)
            (record { since = sym here.since; key_file = λ q. sym (here.key_file q); cleaned = sym here.cleaned; deleted = λ q. sym (here.deleted q) })
            (both_rest (us group) (vs group) (ws group) k.rest
            (record { since = sym last.since; key_file = λ q. sym (last.key_file q); cleaned = sym last.cleaned; deleted = λ q. sym (last.deleted q) }));
      };
    }

-- ---- groups are changed, one after the other

member_last : (xs : List ℕ) (x group : ℕ) → is_member (eq_by_cmp nat_cmp) (xs ++ x ∷ []) group ≡ (is_member (eq_by_cmp nat_cmp) xs group || eq_by_cmp nat_cmp group x)
member_last [] x group = by_test (eq_by_cmp nat_cmp group x)
  where
    by_test : (b : Bool) → (b || false) ≡ b
    by_test true = refl
    by_test false = refl
member_last (y ∷ xs) x group = by_test (member_last xs x group) (eq_by_cmp nat_cmp group y)
  where
    by_test : is_member (eq_by_cmp nat_cmp) (xs ++ x ∷ []) group ≡ (is_member (eq_by_cmp nat_cmp) xs group || eq_by_cmp nat_cmp group x) → (b : Bool)
        → (b || is_member (eq_by_cmp nat_cmp) (xs ++ x ∷ []) group) ≡ ((b || is_member (eq_by_cmp nat_cmp) xs group) || eq_by_cmp nat_cmp group x)
    by_test rest true = refl
    by_test rest false = rest

-- a change of one group that goes by what traces say, and may be done again
pub record IsChange (Change : ℕ → Trace → Trace → Type 0) : Type 0 where
  pub before : (group : ℕ) (s t u : Trace) → IsAlike s t → Change group t u → Change group s u
  pub after : (group : ℕ) (s t u : Trace) → Change group s t → IsAlike t u → Change group s u
  pub again : (group : ℕ) (s t u : Trace) → Change group s t → Change group t u → Change group s u

pub none_changed : (Change : ℕ → Trace → Trace → Type 0) (ts : Traces) → AreChanged Change [] ts ts
none_changed Change ts = record { named = λ group m. absurd (true≢false (sym m)); others = λ group m. same (ts group) }

pub one_changed : (Change : ℕ → Trace → Trace → Type 0) → IsChange Change → (xs more : List ℕ) (x : ℕ) (ts us vs : Traces) → more ≡ xs ++ x ∷ [] → AreChanged Change xs ts us
    → ((other : ℕ) → nat_eq x other ≡ false → IsAlike (us other) (vs other)) → Change x (us x) (vs x) → AreChanged Change more ts vs
one_changed Change laws xs more x ts us vs split k others own = record {
  named = λ group m. named group (sym (ap (λ (l : List ℕ). is_member (eq_by_cmp nat_cmp) l group) split ∙ member_last xs x group) ∙ m);
  others = λ group m. unnamed group (sym (ap (λ (l : List ℕ). is_member (eq_by_cmp nat_cmp) l group) split ∙ member_last xs x group) ∙ m);
}
  where
    tied : (group : ℕ) → eq_by_cmp nat_cmp group x ≡ nat_eq group x
    tied group = unsigned_tied group x

    apart : (group : ℕ) → nat_eq group x ≡ false → nat_eq x group ≡ false
    apart group e = by_test (nat_eq x group) refl
      where
        by_test : (b : Bool) → nat_eq x group ≡ b → b ≡ false
        by_test true h = absurd (true≢false (sym (eq-eqb group x (sym (eqb-true x group h))) ∙ e))
        by_test false h = refl

    named : (group : ℕ) → (is_member (eq_by_cmp nat_cmp) xs group || eq_by_cmp nat_cmp group x) ≡ true → Change group (ts group) (vs group)
    named group m = by_test (nat_eq group x) refl (is_member (eq_by_cmp nat_cmp) xs group) refl
      where
        by_test : (b : Bool) → nat_eq group x ≡ b → (a : Bool) → is_member (eq_by_cmp nat_cmp) xs group ≡ a → Change group (ts group) (vs group)
        by_test true e true f =
            let here : Change group (us group) (vs group) = subst (λ (n : ℕ). Change n (us n) (vs n)) (sym (eqb-true group x e)) own in
            laws.again group (ts group) (us group) (vs group) (k.named group f) here
        by_test true e false f =
            let here : Change group (us group) (vs group) = subst (λ (n : ℕ). Change n (us n) (vs n)) (sym (eqb-true group x e)) own in
            laws.before group (ts group) (us group) (vs group) (k.others group f) here
        by_test false e true f = laws.after group (ts group) (us group) (vs group) (k.named group f) (others group (apart group e))
        by_test false e false f =
            let none : (is_member (eq_by_cmp nat_cmp) xs group || eq_by_cmp nat_cmp group x) ≡ false = (λ i. f i || tied group i) ∙ e in
            absurd (true≢false (sym m ∙ none))

    unnamed : (group : ℕ) → (is_member (eq_by_cmp nat_cmp) xs group || eq_by_cmp nat_cmp group x) ≡ false → IsAlike (ts group) (vs group)
    unnamed group m = by_test (nat_eq group x) refl (is_member (eq_by_cmp nat_cmp) xs group) refl
      where
        by_test : (b : Bool) → nat_eq group x ≡ b → (a : Bool) → is_member (eq_by_cmp nat_cmp) xs group ≡ a → IsAlike (ts group) (vs group)
        by_test b e true f = absurd (true≢false (sym (ap (λ (a : Bool). a || eq_by_cmp nat_cmp group x) f) ∙ m))
        by_test true e false f = absurd (true≢false (sym ((λ i. f i || tied group i) ∙ e) ∙ m))
        by_test false e false f = joined (ts group) (us group) (vs group) (k.others group f) (others group (apart group e))

pub since_is_change : (first : ℕ) → IsChange (HasSince first)
since_is_change first = record {
  before = λ group s t u a h. joined (trace_since first s) (trace_since first t) u (since_same first s t a) h;
  after = λ group s t u h a. joined (trace_since first s) t u h a;
  again = λ group s t u h k. joined (trace_since first s) (trace_since first t) u (since_same first (trace_since first s) t h) k;
}

-- of the same entries two traces have ends that are both empty, or both not
empty_alike : (g : GroupContent EntryIndex) (reach : Option ℕ) (a b c low next top : ℕ) → AreEnds g reach a b c → AreEnds g reach low next top → nat_lt low next ≡ false → nat_lt a b ≡ false
empty_alike g reach a b c low next top ends others none = by_test (nat_lt a b) refl
  where
    gone : (o : Option EntryIndex) → o ≡ None → IsSome o → ⊥
    gone o e s = not_there o e s

    by_test : (x : Bool) → nat_lt a b ≡ x → x ≡ false
    by_test false e = refl
    by_test true e = by_place (nat_lt a low) refl
      where
        some : IsSome (g.entry a)
        some = ends.first (ltb-true a b e)

        by_place : (y : Bool) → nat_lt a low ≡ y → true ≡ false
        by_place true l = absurd (gone (g.entry a) (others.below a (ltb-true a low l)) some)
        by_place false l =
            let high = ltb-false low next none in
            let from = ltb-false a low l in
            absurd (gone (g.entry a) (others.above a (omega (arith, high, from))) some)

pub entries_are_change : (content : ℕ → GroupContent EntryIndex) (reach : ℕ → Option ℕ) → IsChange (λ group. HasEntries (content group) (reach group))
entries_are_change content reach = record {
  before = λ group s t u a h. record { ends = h.ends; files = h.files; tail = h.tail ∙ (λ i. tail_behind (content group) u.low u.next (sym a.tail i)); rest = both_rest s t u (alike_rest s t a) h.rest };
  after = λ group s t u h a. record {
    ends = ends_at (content group) (reach group) t.low t.next t.top u.low u.next u.top a.low a.next a.top h.ends;
    files = same_files (content group) t.entry_file u.entry_file a.entry_file h.files;
    tail = sym a.tail ∙ h.tail ∙ (λ i. tail_behind (content group) (a.low i) (a.next i) s.tail);
    rest = both_rest s t u h.rest (alike_rest t u a);
  };
  again = λ group s t u h k. record { ends = k.ends; files = k.files; tail = k.tail ∙ again group s t u h k (nat_lt u.low u.next) refl; rest = both_rest s t u h.rest k.rest };
}
  where
    again : (group : ℕ) (s t u : Trace) → HasEntries (content group) (reach group) s t → HasEntries (content group) (reach group) t u → (b : Bool) → nat_lt u.low u.next ≡ b
        → cond b (file_at lies_in ((content group).entry (u.next - 1))) t.tail ≡ cond b (file_at lies_in ((content group).entry (u.next - 1))) s.tail
    again group s t u h k true e = refl
    again group s t u h k false e =
        let empty = empty_alike (content group) (reach group) t.low t.next t.top u.low u.next u.top h.ends k.ends e in
        h.tail ∙ ap (λ (b : Bool). cond b (file_at lies_in ((content group).entry (t.next - 1))) s.tail) empty
