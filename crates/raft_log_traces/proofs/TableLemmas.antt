-- The traces of groups in a map.
use Rattle.std.proofs.Common.{◌≡◌, ℕ, Bool, true, false, cond, Option, Some, None, refl, sym, ap, subst, ◌∙◌}
use Rattle.std.specs.Prelude.{nat_eq}
use Rattle.std.specs.BTreeMap.{BTreeMap, get, UpdatesBy}
use Rattle.std.specs.Ordering.{nat_cmp}
use Rattle.std.proofs.lemmas.Bool.{eqb-true}
use Rattle.raft_log_memtables.proofs.Cells.{apart_number}
use Rattle.raft_log_records.specs.Item.{Item}
use Rattle.raft_log_covers.specs.Trace.{Trace, trace_after}
use Rattle.raft_log_covers.specs.Kept.{Traces, new_trace, traces_after_item, with_trace}
use Rattle.raft_log_traces.specs.declared.group_trace.GroupTrace.{GroupTrace}
use Rattle.raft_log_traces.specs.Alike.{IsAlike, AreAlike}
use Rattle.raft_log_traces.specs.Traces.{trace_of, trace_by, traces_at}
use Rattle.raft_log_traces.proofs.AlikeLemmas.{same, joined, after_same}

-- one group has another trace now, or none any more
pub changed_group : (old new : BTreeMap ℕ GroupTrace) (group : ℕ) (w : Option GroupTrace) (v : Trace) → UpdatesBy nat_cmp (nat_cmp group) old new w → IsAlike v (trace_by w)
    → AreAlike (with_trace group v (traces_at old)) (traces_at new)
changed_group old new group w v u a other = by_test (nat_eq group other) refl
  where
    by_test : (b : Bool) → nat_eq group other ≡ b → IsAlike (cond b v (traces_at old other)) (traces_at new other)
    by_test true e =
        let is : get nat_cmp new other ≡ w = ap (λ (n : ℕ). get nat_cmp new n) (sym (eqb-true group other e)) ∙ u.1 in
        subst (λ (o : Option GroupTrace). IsAlike v (trace_by o)) (sym is) a
    by_test false e = subst (λ (o : Option GroupTrace). IsAlike (trace_by (get nat_cmp old other)) (trace_by o)) (sym (u.2 other (apart_number group other e))) (same (trace_by (get nat_cmp old other)))

-- an item changes the trace of its group
pub item_is_change : {E : Type 0} (file : ℕ) (item : Item E) (ts : Traces) (us : Traces) → AreAlike (with_trace item.group (trace_after file item.change (ts item.group)) ts) us → AreAlike (traces_after_item file item ts) us
item_is_change file item ts us a other = by_test (nat_eq item.group other) refl (a other)
  where
    by_test : (b : Bool) → nat_eq item.group other ≡ b → IsAlike (cond b (trace_after file item.change (ts item.group)) (ts other)) (us other)
        → IsAlike (cond b (trace_after file item.change (ts other)) (ts other)) (us other)
    by_test true e h = subst (λ (n : ℕ). IsAlike (trace_after file item.change (ts n)) (us other)) (eqb-true item.group other e) h
    by_test false e h = h

-- an item makes the trace of its group, where there was none
pub first_item : {E : Type 0} (file : ℕ) (item : Item E) (old new : BTreeMap ℕ GroupTrace) (fresh w : GroupTrace) → get nat_cmp old item.group ≡ None → UpdatesBy nat_cmp (nat_cmp item.group) old new (Some w)
    → IsAlike new_trace (trace_of fresh) → IsAlike (trace_after file item.change (trace_of fresh)) (trace_of w) → AreAlike (traces_after_item file item (traces_at old)) (traces_at new)
first_item {E} file item old new fresh w n u f a =
    let none : new_trace ≡ traces_at old item.group = ap trace_by (sym n) in
    item_is_change file item (traces_at old) (traces_at new) (changed_group old new item.group (Some w) (trace_after {E = E} file item.change (traces_at old item.group)) u
    (subst (λ (t : Trace). IsAlike (trace_after {E = E} file item.change t) (trace_of w)) none
    (joined (trace_after {E = E} file item.change new_trace) (trace_after {E = E} file item.change (trace_of fresh)) (trace_of w) (after_same file item.change new_trace (trace_of fresh) f) a)))
