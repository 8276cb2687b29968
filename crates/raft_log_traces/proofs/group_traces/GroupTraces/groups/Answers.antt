use Rattle.std.proofs.Common.{◌≡◌, List, ℕ, false, Option, Some, None, Result, Ok, Err, sym, ap, ◌∙◌, refl}
use Rattle.std.specs.Prelude.{is_some, IfOk, Vec}
use Rattle.std.specs.declared.alloc.Global.{Global}
use Rattle.std.specs.BTreeMap.{BTreeMap, get, keys}
use Rattle.std.specs.Ordering.{nat_cmp, eq_by_cmp}
use Rattle.std.specs.Set.{is_member}
use Rattle.raft_log_covers.specs.Kept.{new_trace}
use Rattle.raft_log_traces.specs.declared.group_trace.GroupTrace.{GroupTrace}
use Rattle.raft_log_traces.specs.Traces.{trace_by, traces_at}
use Rattle.raft_log_traces.specs.GroupTraces.{traces_in}
use Rattle.raft_log_traces.proofs.group_traces.GroupTraces.groups.Goals as goal

none_there : (o : Option GroupTrace) → is_some o ≡ false → trace_by o ≡ new_trace
none_there None h = refl
none_there (Some t) h = absurd cc

others_new : {X : Type 0} (traces : BTreeMap ℕ GroupTrace) (r : Result (Vec ℕ Global) X) → IfOk r (λ ids. ids.items ≡ keys traces)
    → ((group : ℕ) → is_some (get nat_cmp traces group) ≡ is_member (eq_by_cmp nat_cmp) (keys traces) group)
    → IfOk r (λ ids. (group : ℕ) → is_member (eq_by_cmp nat_cmp) ids.items group ≡ false → traces_at traces group ≡ new_trace)
others_new traces (Ok ids) is has = λ group none. none_there (get nat_cmp traces group) (has group ∙ ap (λ (l : List ℕ). is_member (eq_by_cmp nat_cmp) l group) (sym is) ∙ none)
others_new traces (Err e) is has = tt

pub returns : goal.returns
unfolding traces_in
returns c = others_new c.args.self.now.traces c.ids_of.result c.ids_of.ensures.ids c.ids_of.ensures.exactly
