-- Traces as an opening makes them.
use Rattle.std.proofs.Common.{◌≡◌, ℕ, Bool, true, false, cond, [], Option, Some, None, refl, sym, ap, subst}
use Rattle.std.specs.Prelude.{nat_le, nat_lt}
use Rattle.std.specs.BTreeMap.{BTreeMap, get, UpdatesBy}
use Rattle.std.specs.Ordering.{nat_cmp}
use Rattle.raft_log_covers.specs.Trace.{Trace}
use Rattle.raft_log_covers.specs.Kept.{new_trace, with_trace}
use Rattle.raft_log_traces.specs.declared.group_trace.GroupTrace.{GroupTrace}
use Rattle.raft_log_traces.specs.Alike.{IsAlike, AreAlike}
use Rattle.raft_log_traces.specs.Opened.{trace_filed, trace_since, trace_tailed, trace_with_ends}
use Rattle.raft_log_traces.specs.Runs.{file_above}
use Rattle.raft_log_traces.specs.Traces.{trace_by, trace_of, traces_at}
use Rattle.raft_log_traces.proofs.AlikeLemmas.{joined}
use Rattle.raft_log_traces.proofs.TableLemmas.{changed_group}

-- ---- the same of traces that say the same

pub ends_same : (low next top : ℕ) (t u : Trace) → IsAlike t u → IsAlike (trace_with_ends low next top t) (trace_with_ends low next top u)
ends_same low next top t u a = record {
  low = refl;
  next = refl;
  top = refl;
  since = a.since;
  tail = a.tail;
  entry_file = λ i. refl;
  key_file = a.key_file;
  cleaned = a.cleaned;
  deleted = a.deleted;
}

pub filed_same : (first file : ℕ) (t u : Trace) → IsAlike t u → IsAlike (trace_filed first file t) (trace_filed first file u)
filed_same first file t u a = record {
  low = a.low;
  next = a.next;
  top = a.top;
  since = a.since;
  tail = a.tail;
  entry_file = λ i. ap (λ (o : Option ℕ). cond (nat_le first i) (Some file) o) (a.entry_file i);
  key_file = a.key_file;
  cleaned = a.cleaned;
  deleted = a.deleted;
}

pub tailed_same : (file : Option ℕ) (t u : Trace) → IsAlike t u → IsAlike (trace_tailed file t) (trace_tailed file u)
tailed_same file t u a = record {
  low = a.low;
  next = a.next;
  top = a.top;
  since = a.since;
  tail = refl;
  entry_file = a.entry_file;
  key_file = a.key_file;
  cleaned = a.cleaned;
  deleted = a.deleted;
}

pub since_same : (first : ℕ) (t u : Trace) → IsAlike t u → IsAlike (trace_since first t) (trace_since first u)
since_same first t u a = record {
  low = a.low;
  next = a.next;
  top = a.top;
  since = refl;
  tail = refl;
  entry_file = a.entry_file;
  key_file = a.key_file;
  cleaned = a.cleaned;
  deleted = a.deleted;
}

-- ---- a group's trace is changed, or made where there was none

pub set_group : (old new : BTreeMap ℕ GroupTrace) (group : ℕ) (t u : GroupTrace) (change : Trace → Trace) → Some t ≡ get nat_cmp old group → UpdatesBy nat_cmp (nat_cmp group) old new (Some u)
    → IsAlike (change (trace_of t)) (trace_of u) → AreAlike (with_trace group (change (traces_at old group)) (traces_at old)) (traces_at new)
set_group old new group t u change is up a =
    changed_group old new group (Some u) (change (traces_at old group)) up (subst (λ (o : Option GroupTrace). IsAlike (change (trace_by o)) (trace_of u)) is a)

pub make_group : (old new : BTreeMap ℕ GroupTrace) (group : ℕ) (fresh u : GroupTrace) (change : Trace → Trace) → ((x y : Trace) → IsAlike x y → IsAlike (change x) (change y))
    → get nat_cmp old group ≡ None → UpdatesBy nat_cmp (nat_cmp group) old new (Some u) → IsAlike new_trace (trace_of fresh) → IsAlike (change (trace_of fresh)) (trace_of u)
    → AreAlike (with_trace group (change (traces_at old group)) (traces_at old)) (traces_at new)
make_group old new group fresh u change keeps none up f a =
    let none_there : new_trace ≡ traces_at old group = ap trace_by (sym none) in
    changed_group old new group (Some u) (change (traces_at old group)) up
    (subst (λ (t : Trace). IsAlike (change t) (trace_of u)) none_there (joined (change new_trace) (change (trace_of fresh)) (trace_of u) (keeps new_trace (trace_of fresh) f) a))

-- ---- entries of which none stands in an append file

pub no_file : (floor i : ℕ) → file_above floor [] i ≡ None
no_file floor i = by_test (nat_lt i floor)
  where
    by_test : (b : Bool) → (let none : Option ℕ = None in cond b none None ≡ none)
    by_test true = refl
    by_test false = refl
