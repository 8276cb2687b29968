use Rattle.std.proofs.Common.{ℕ, List, subst}
use Rattle.raft_log_covers.specs.Kept.{with_trace}
use Rattle.raft_log_covers.specs.Trace.{trace_put}
use Rattle.raft_log_records.specs.Item.Change.{put}
use Rattle.raft_log_traces.specs.Alike.{AreAlike}
use Rattle.raft_log_traces.specs.GroupTraces.{traces_in}
use Rattle.raft_log_purge.proofs.CausedLemmas.{item_cause}
use Rattle.raft_log_purge.proofs.StepLemmas.{key_rewritten, logged_item, on_ok}
use Rattle.raft_log_purge.proofs.rewriting.rewrite_key.Goals as goal

pub returns-clause-steps : goal.returns-clause-steps
returns-clause-steps c =
    let old = traces_in c.args.traces.now in
    let new = traces_in c.set_key_rewritten.new.self in
    let group = c.args.group in
    let noted = subst (λ (name : List ℕ). AreAlike (with_trace group (trace_put name (old group)) old) new) c.deref.ensures.value c.set_key_rewritten.ensures in
    on_ok c.put.result (logged_item c.args.batch.now (record { group = group; change = put c.args.key.items c.args.value.items }) c.put.new.self c.put.result c.put.ensures)
    (λ written content apart there has. key_rewritten content old new group c.args.key.items c.args.value.items c.args.batch.now.items c.put.new.self.items apart there has written noted)

pub returns-clause-cause : goal.returns-clause-cause
returns-clause-cause c = item_cause c.args.batch.now (record { group = c.args.group; change = put c.args.key.items c.args.value.items }) c.put.new.self c.put.result c.put.ensures
