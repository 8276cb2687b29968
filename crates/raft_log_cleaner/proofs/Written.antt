-- Which entries the items of a batch have, and what the steps of a cleaning say of them.
use Rattle.std.proofs.Common.{◌≡◌, inl, inr, ℕ, ◌+◌, ◌<◌, ◌≤◌, Bool, true, false, cond, List, [], ◌∷◌, ◌++◌, map, Option, Some, None, refl, sym, ap, subst, ◌∙◌, arith, ltb-true, leb-true}
use Rattle.std.specs.Prelude.{IsSome, nat_eq, nat_le, nat_lt, ◌&&◌}
use Rattle.std.specs.Option.{option_map}
use Rattle.std.specs.List.{list_any}
use Rattle.std.proofs.lemmas.Bool.{eqb-true, le-leb, lt-ltb, or_left, or_right}
use Rattle.raft_log_records.specs.Item.{Change, Item, change_map, item_map}
use Rattle.raft_log_records.specs.Item.Change.{entries, clean, compact, put, delete, mark}
use Rattle.raft_log_records.specs.Spelling.{first_index, holds_entries}
use Rattle.raft_log_memtables.specs.Content.{Content, entry_at}
use Rattle.raft_log_memtables.specs.Entries.{or_else}
use Rattle.raft_log_memtables.specs.Laws.{all_of}
use Rattle.raft_log_covers.specs.Cells.Cell.{index}
use Rattle.raft_log_covers.specs.Cells.Held.{an_entry}
use Rattle.raft_log_covers.specs.Kept.{Traces, with_trace}
use Rattle.raft_log_covers.specs.Marks.{deletes, marks, of_group}
use Rattle.raft_log_covers.specs.Trace.{Trace, trace_put, trace_rewritten}
use Rattle.raft_log_covers.proofs.FileLemmas.{not_there}
use Rattle.raft_log_marks.specs.GroupMarks.{marks_of, trace_after_marks}
use Rattle.raft_log_marks.specs.MarkLaws.{IsThere}
use Rattle.raft_log_purge.specs.Steps.{AreSteps, IsFrontRewritten, IsKeyRewritten, IsMarking, IsStep}
use Rattle.raft_log_cleaner.specs.Written.{entry_in, written_at}

-- ---- entries seen in another way

either_mapped : {E F : Type 0} (f : E → F) (b : Bool) (x y : Option E) → cond b (option_map f x) (option_map f y) ≡ option_map f (cond b x y)
either_mapped f true x y = refl
either_mapped f false x y = refl

pub else_mapped : {E F : Type 0} (f : E → F) (x y : Option E) → or_else (option_map f x) (option_map f y) ≡ option_map f (or_else x y)
else_mapped f None y = refl
else_mapped f (Some x) y = refl

pub run_mapped : {E F : Type 0} (f : E → F) (es : List (ℕ × E)) (i : ℕ) → entry_at (map {A = ℕ × E} {B = ℕ × F} (λ e. (e.0, f e.1)) es) i ≡ option_map f (entry_at es i)
run_mapped f [] i = refl
run_mapped f (e ∷ es) i = ap (λ o. cond (nat_eq e.0 i) (Some (f e.1)) o) (run_mapped f es i) ∙ either_mapped f (nat_eq e.0 i) (Some e.1) (entry_at es i)

change_mapped : {E F : Type 0} (f : E → F) (change : Change E) (i : ℕ) → entry_in (change_map f change) i ≡ option_map f (entry_in change i)
change_mapped f (entries es) i = run_mapped f es i
change_mapped f clean i = refl
change_mapped f (compact limit) i = refl
change_mapped f (put name value) i = refl
change_mapped f (delete name) i = refl
change_mapped f (mark id status) i = refl

pub written_mapped : {E F : Type 0} (f : E → F) (items : List (Item E)) (group i : ℕ) → written_at (map (item_map f) items) group i ≡ option_map f (written_at items group i)
written_mapped f [] group i = refl
written_mapped {E} {F} f (item ∷ items) group i =
    let here : cond (nat_eq item.group group) (entry_in (change_map f item.change) i) None ≡ option_map f (cond (nat_eq item.group group) (entry_in item.change i) None) =
    ap (λ (o : Option F). cond (nat_eq item.group group) o None) (change_mapped f item.change i) ∙ either_mapped f (nat_eq item.group group) (entry_in item.change i) None in
    (λ j. or_else (written_mapped f items group i j) (here j)) ∙ else_mapped f (written_at items group i) (cond (nat_eq item.group group) (entry_in item.change i) None)

-- ---- items behind others

else_else : {E : Type 0} (x y z : Option E) → or_else (or_else x y) z ≡ or_else x (or_else y z)
else_else None y z = refl
else_else (Some x) y z = refl

pub written_behind : {E : Type 0} (items more : List (Item E)) (group i : ℕ) → written_at (items ++ more) group i ≡ or_else (written_at more group i) (written_at items group i)
written_behind {E} [] more group i = none_behind (written_at more group i)
  where
    none_behind : (x : Option E) → x ≡ or_else x None
    none_behind None = refl
    none_behind (Some x) = refl
written_behind {E} (item ∷ items) more group i =
    ap (λ (o : Option E). or_else o (cond (nat_eq item.group group) (entry_in item.change i) None)) (written_behind items more group i)
    ∙ else_else (written_at more group i) (written_at items group i) (cond (nat_eq item.group group) (entry_in item.change i) None)

-- what has an entry holds entries
pub some_held : {E : Type 0} (items : List (Item E)) (group i : ℕ) (v : E) → written_at items group i ≡ Some v → list_any holds_entries items ≡ true
some_held [] group i v is = absurd cc
some_held {E} (item ∷ items) group i v is = by_rest (written_at items group i) refl (λ x e. some_held items group i x e)
  where
    by_change : (b : Bool) (change : Change E) → cond b (entry_in change i) None ≡ Some v → holds_entries (record { group = item.group; change = change }) ≡ true
    by_change true (entries es) h = refl
    by_change true clean h = absurd cc
    by_change true (compact limit) h = absurd cc
    by_change true (put name value) h = absurd cc
    by_change true (delete name) h = absurd cc
    by_change true (mark id status) h = absurd cc
    by_change false change h = absurd cc

    by_rest : (o : Option E) → written_at items group i ≡ o → ((x : E) → written_at items group i ≡ Some x → list_any holds_entries items ≡ true) → list_any holds_entries (item ∷ items) ≡ true
    by_rest (Some x) e rest = or_right (holds_entries item) (list_any holds_entries items) (rest x e)
    by_rest None e rest = or_left (holds_entries item) (list_any holds_entries items) (by_change (nat_eq item.group group) item.change (ap (λ (o : Option E). or_else o (cond (nat_eq item.group group) (entry_in item.change i) None)) (sym e) ∙ is))

-- ---- what is written in steps

-- an entry that was written stands in no append file; any other one where it stood
abbrev pub FileAfter : {E : Type 0} → Option E → Option ℕ → Option ℕ → Type 0
FileAfter None old new = old ≡ new
FileAfter (Some v) old new = new ≡ None

-- The entries in these items are those of the content, and traces say where each stands then.
pub record Rewrites {E : Type 0} (content : Content E) (traces others : Traces) (items : List (Item E)) : Type 0 where
  pub bytes : (group i : ℕ) (v : E) → written_at items group i ≡ Some v → (content group).entry i ≡ Some v
  pub file : (group i : ℕ) → IsSome ((content group).entry i) → FileAfter (written_at items group i) ((traces group).entry_file i) ((others group).entry_file i)

file_then : {E : Type 0} (x y : Option E) (old mid new : Option ℕ) → FileAfter y old mid → FileAfter x mid new → FileAfter (or_else x y) old new
file_then None None old mid new one two = one ∙ two
file_then None (Some v) old mid new one two = sym two ∙ one
file_then (Some v) y old mid new one two = two

rewrites_then : {E : Type 0} (content : Content E) (traces middle others : Traces) (part rest : List (Item E)) → Rewrites content traces middle part → Rewrites content middle others rest
    → Rewrites content traces others (part ++ rest)
rewrites_then {E} content traces middle others part rest one two = record {
  bytes = λ group i v is. by_rest group i v (written_at rest group i) refl (sym (written_behind part rest group i) ∙ is);
  file = λ group i some.
      subst (λ (o : Option E). FileAfter o ((traces group).entry_file i) ((others group).entry_file i)) (sym (written_behind part rest group i))
      (file_then (written_at rest group i) (written_at part group i) ((traces group).entry_file i) ((middle group).entry_file i) ((others group).entry_file i) (one.file group i some) (two.file group i some));
}
  where
    by_rest : (group i : ℕ) (v : E) (o : Option E) → written_at rest group i ≡ o → or_else (written_at rest group i) (written_at part group i) ≡ Some v → (content group).entry i ≡ Some v
    by_rest group i v None e is = one.bytes group i v (ap (λ (x : Option E). or_else x (written_at part group i)) (sym e) ∙ is)
    by_rest group i v (Some x) e is = two.bytes group i v (e ∙ ap (λ (o : Option E). or_else o (written_at part group i)) (sym e) ∙ is)

-- ---- marks have no entries

none_either : {E : Type 0} (b : Bool) (none : Option E) → none ≡ None → cond b none None ≡ None
none_either true none e = e
none_either false none e = refl

else_none : {E : Type 0} (x y : Option E) → x ≡ None → y ≡ None → or_else x y ≡ None
else_none {E} x y h k = (λ j. or_else (h j) (k j))

deletes_unwritten : {E : Type 0} (group : ℕ) (ks : List (List ℕ)) (other i : ℕ) → written_at {E = E} (of_group group (deletes ks)) other i ≡ None
deletes_unwritten group [] other i = refl
deletes_unwritten {E} group (k ∷ ks) other i =
    else_none (written_at {E = E} (of_group group (deletes ks)) other i) (cond (nat_eq group other) None None) (deletes_unwritten group ks other i) (none_either {E = E} (nat_eq group other) None refl)

compact_unwritten : {E : Type 0} (group limit : ℕ) (ks : List (List ℕ)) (other i : ℕ) → written_at {E = E} (of_group group (compact limit ∷ deletes ks)) other i ≡ None
compact_unwritten {E} group limit ks other i =
    else_none (written_at {E = E} (of_group group (deletes ks)) other i) (cond (nat_eq group other) None None) (deletes_unwritten group ks other i) (none_either {E = E} (nat_eq group other) None refl)

marks_unwritten : {E : Type 0} (group : ℕ) (there : Bool) (t : Trace) (other i : ℕ) → written_at {E = E} (of_group group (marks_of there t)) other i ≡ None
marks_unwritten {E} group true t other i = by_cleaned t.cleaned
  where
    by_cleaned : (b : Bool) → written_at {E = E} (of_group group (marks b t.low t.deleted)) other i ≡ None
    by_cleaned true =
        else_none (written_at {E = E} (of_group group (compact t.low ∷ deletes t.deleted)) other i) (cond (nat_eq group other) None None)
        (compact_unwritten group t.low t.deleted other i) (none_either {E = E} (nat_eq group other) None refl)
    by_cleaned false = compact_unwritten group t.low t.deleted other i
marks_unwritten {E} group false t other i = none_either {E = E} (nat_eq group other) None refl

-- ---- each step

held_none : {E : Type 0} (o : Option E) → an_entry o ≡ an_entry None → o ≡ None
held_none o e = cc

-- a trace of a group in place of another one
group_file : (group : ℕ) (t : Trace) (traces : Traces) (other i : ℕ) → (group ≡ other → (traces other).entry_file i ≡ t.entry_file i) → (traces other).entry_file i ≡ (with_trace group t traces other).entry_file i
group_file group t traces other i same = by_test (nat_eq group other) refl
  where
    by_test : (b : Bool) → nat_eq group other ≡ b → (traces other).entry_file i ≡ (cond b t (traces other)).entry_file i
    by_test true e = same (eqb-true group other e)
    by_test false e = refl

marking_rewrites : {E : Type 0} (content : Content E) (traces others : Traces) (part : List (Item E)) → IsMarking content traces part others → Rewrites content traces others part
marking_rewrites {E} content traces others part m = record {
  bytes = λ group i v is. let none : None ≡ Some v = sym (unwritten group i) ∙ is in absurd cc;
  file = λ group i some.
      subst (λ (o : Option E). FileAfter o ((traces group).entry_file i) ((others group).entry_file i)) (sym (unwritten group i))
      (group_file m.group (trace_after_marks m.there (traces m.group)) traces group i (λ same. by_there m.there m.is_there group i same some) ∙ (m.noted group).entry_file i);
}
  where
    unwritten : (group i : ℕ) → written_at part group i ≡ None
    unwritten group i = ap (λ (is : List (Item E)). written_at is group i) m.written ∙ marks_unwritten m.group m.there (traces m.group) group i

    by_there : (there : Bool) → IsThere there (content m.group) → (group i : ℕ) → m.group ≡ group → IsSome ((content group).entry i) → (traces group).entry_file i ≡ (trace_after_marks there (traces m.group)).entry_file i
    by_there true is group i same some = ap (λ (n : ℕ). (traces n).entry_file i) (sym same)
    by_there false is group i same some =
        absurd (not_there ((content m.group).entry i) (held_none ((content m.group).entry i) (is (index i))) (subst (λ (n : ℕ). IsSome ((content n).entry i)) (sym same) some))

-- an index of entries that are rewritten
abbrev is_within : ℕ → ℕ → ℕ → Bool
is_within first stop i = nat_le first i && nat_lt i stop

within_true : (first stop i : ℕ) → first ≤ i → i < stop → is_within first stop i ≡ true
within_true first stop i l m = ap (λ (b : Bool). b && nat_lt i stop) (le-leb first i l) ∙ lt-ltb i stop m

within_parts : (b c : Bool) → (b && c) ≡ true → (b ≡ true) × (c ≡ true)
within_parts true true e = (refl, refl)
within_parts true false e = absurd cc
within_parts false c e = absurd cc

module _ {E : Type 0} (content : Content E) (traces others : Traces) (part : List (Item E)) (f : IsFrontRewritten content traces part others) where
  written_front : (group i : ℕ) → written_at part group i ≡ cond (nat_eq f.group group) (entry_at f.es i) None
  written_front group i = ap (λ (is : List (Item E)). written_at is group i) f.written

  -- an entry that is written is within
  entry_within : (i : ℕ) (v : E) → entry_at f.es i ≡ Some v → (first_index f.es ≤ i) × (i < f.stop)
  entry_within i v is = (
    omega (arith, λ (l : i < first_index f.es). by_none i v is (f.none_before i l)),
    omega (arith, λ (l : f.stop ≤ i). by_none i v is (f.front.run.no_more i (subst (λ (n : ℕ). n ≤ i) (sym f.front.until) l))),
  )
    where
      by_none : (i : ℕ) (v : E) → entry_at f.es i ≡ Some v → entry_at f.es i ≡ None → ⊥
      by_none i v is none = let both : None ≡ Some v = sym none ∙ is in cc

  entry_same : (i : ℕ) (v : E) → entry_at f.es i ≡ Some v → (content f.group).entry i ≡ Some v
  entry_same i v is = let in_it = entry_within i v is in sym (f.front.same i in_it.0 in_it.1) ∙ is

  front_bytes : (group i : ℕ) (v : E) → written_at part group i ≡ Some v → (content group).entry i ≡ Some v
  front_bytes group i v is = by_test (nat_eq f.group group) refl (sym (written_front group i) ∙ is)
    where
      by_test : (b : Bool) → nat_eq f.group group ≡ b → cond b (entry_at f.es i) None ≡ Some v → (content group).entry i ≡ Some v
      by_test true e h = subst (λ (n : ℕ). (content n).entry i ≡ Some v) (eqb-true f.group group e) (entry_same i v h)
      by_test false e h = absurd cc

  front_trace : Trace
  front_trace = trace_rewritten (first_index f.es) f.stop (traces f.group)

  -- where the entry of an index stands then
  front_file : (i : ℕ) (o : Option E) → entry_at f.es i ≡ o → IsSome ((content f.group).entry i) → FileAfter o ((traces f.group).entry_file i) (cond (is_within (first_index f.es) f.stop i) None ((traces f.group).entry_file i))
  front_file i (Some v) is some =
      let in_it = entry_within i v is in
      ap (λ (b : Bool). cond b None ((traces f.group).entry_file i)) (within_true (first_index f.es) f.stop i in_it.0 in_it.1)
  front_file i None is some = by_test (is_within (first_index f.es) f.stop i) refl
    where
      by_test : (b : Bool) → is_within (first_index f.es) f.stop i ≡ b → (traces f.group).entry_file i ≡ cond b None ((traces f.group).entry_file i)
      by_test true e =
          let both = within_parts (nat_le (first_index f.es) i) (nat_lt i f.stop) e in
          absurd (not_there ((content f.group).entry i) (sym (f.front.same i (leb-true (first_index f.es) i both.0) (ltb-true i f.stop both.1)) ∙ is) some)
      by_test false e = refl

  front_rewrites : Rewrites content traces others part
  front_rewrites = record {
    bytes = front_bytes;
    file = λ group i some.
        subst (λ (o : Option E). FileAfter o ((traces group).entry_file i) ((others group).entry_file i)) (sym (written_front group i))
        (subst (λ (file : Option ℕ). FileAfter (cond (nat_eq f.group group) (entry_at f.es i) None) ((traces group).entry_file i) file) ((f.noted group).entry_file i) (by_test group i some (nat_eq f.group group) refl));
  }
    where
      by_test : (group i : ℕ) → IsSome ((content group).entry i) → (b : Bool) → nat_eq f.group group ≡ b
          → FileAfter (cond b (entry_at f.es i) None) ((traces group).entry_file i) ((cond b (trace_rewritten (first_index f.es) f.stop (traces f.group)) (traces group)).entry_file i)
      by_test group i some true e =
          let same = eqb-true f.group group e in
          subst (λ (n : ℕ). FileAfter (entry_at f.es i) ((traces n).entry_file i) ((trace_rewritten (first_index f.es) f.stop (traces f.group)).entry_file i)) same
          (front_file i (entry_at f.es i) refl (subst (λ (n : ℕ). IsSome ((content n).entry i)) (sym same) some))
      by_test group i some false e = refl

key_rewrites : {E : Type 0} (content : Content E) (traces others : Traces) (part : List (Item E)) → IsKeyRewritten content traces part others → Rewrites content traces others part
key_rewrites {E} content traces others part p = record {
  bytes = λ group i v is. let none : None ≡ Some v = sym (unwritten group i) ∙ is in absurd cc;
  file = λ group i some.
      subst (λ (o : Option E). FileAfter o ((traces group).entry_file i) ((others group).entry_file i)) (sym (unwritten group i))
      (group_file p.group (trace_put p.name (traces p.group)) traces group i (λ same. ap (λ (n : ℕ). (traces n).entry_file i) (sym same)) ∙ (p.noted group).entry_file i);
}
  where
    unwritten : (group i : ℕ) → written_at part group i ≡ None
    unwritten group i = ap (λ (is : List (Item E)). written_at is group i) p.written ∙ none_either {E = E} (nat_eq p.group group) None refl

step_rewrites : {E : Type 0} (content : Content E) (traces others : Traces) (part : List (Item E)) → IsStep content traces part others → Rewrites content traces others part
step_rewrites content traces others part (inl m) = marking_rewrites content traces others part m
step_rewrites content traces others part (inr (inl f)) = front_rewrites content traces others part f
step_rewrites content traces others part (inr (inr p)) = key_rewrites content traces others part p

pub steps_rewrite : {E : Type 0} (content : Content E) (traces others : Traces) (parts : List (List (Item E))) → AreSteps content traces parts others → Rewrites content traces others (all_of parts)
steps_rewrite content traces others [] e = record {
  bytes = λ group i v is. absurd cc;
  file = λ group i some. λ j. (e j group).entry_file i;
}
steps_rewrite content traces others (part ∷ parts) s =
    rewrites_then content traces s.0 others part (all_of parts) (step_rewrites content traces s.0 part s.1) (steps_rewrite content s.0 others parts s.2)
