use Rattle.std.proofs.Common.{◌≡◌, ◌<◌, ℕ, Option, Some, None, sym, subst, rules}
use Rattle.std.specs.BTreeMap.{UpdatesBy, get}
use Rattle.std.specs.Ordering.{nat_cmp}
use Rattle.raft_log_covers.specs.Trace.{trace_rewritten}
use Rattle.raft_log_traces.specs.declared.group_trace.GroupTrace.{GroupTrace}
use Rattle.raft_log_traces.specs.Alike.{IsAlike}
use Rattle.raft_log_traces.specs.Traces.{trace_of, trace_by, traces_at}
use Rattle.raft_log_traces.proofs.TableLemmas.{changed_group}
use Rattle.raft_log_traces.proofs.rewritten.rewrite.Goals as goal

pub returns-in-Some : goal.returns-in-Some
returns-in-Some c = λ first h.
    let old = c.args.traces.now in
    let new = c.get_mut.follows.lender c.set_rewritten.new.self in
    let group = c.args.raft_group_id in
    let updates : UpdatesBy nat_cmp (nat_cmp group) old new (Some c.set_rewritten.new.self) = search rules in
    let is : Some c.in-Some.trace.now ≡ get nat_cmp old group = c.in-Some.ensures.value in
    let below : (i : ℕ) → i < first → (trace_of c.in-Some.trace.now).entry_file i ≡ None = subst (λ (o : Option GroupTrace). (i : ℕ) → i < first → (trace_by o).entry_file i ≡ None) (sym is) h in
    changed_group old new group (Some c.set_rewritten.new.self) (trace_rewritten first c.args.stop (traces_at old group)) updates
    (subst (λ (o : Option GroupTrace). IsAlike (trace_rewritten first c.args.stop (trace_by o)) (trace_of c.set_rewritten.new.self)) is (c.set_rewritten.ensures first below))
