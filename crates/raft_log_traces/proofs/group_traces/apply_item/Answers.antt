use Rattle.std.proofs.Common.{ℕ, Some, sym, subst}
use Rattle.std.specs.BTreeMap.{BTreeMap, UpdatesBy}
use Rattle.std.specs.Ordering.{nat_cmp}
use Rattle.raft_log_records.specs.Item.{item_of}
use Rattle.raft_log_traces.specs.declared.group_trace.GroupTrace.{GroupTrace}
use Rattle.raft_log_traces.proofs.TableLemmas.{first_item}
use Rattle.raft_log_traces.proofs.group_traces.apply_item.Goals as goal

pub returns-clause-ok : goal.returns-clause-ok
returns-clause-ok c =
    let updates = subst (λ (m : BTreeMap ℕ GroupTrace). UpdatesBy nat_cmp (nat_cmp c.args.item.now.raft_group_id) m c.insert.new.self (Some c.change-2.new.self)) c.get_mut.follows.holds-at-none c.in_ok-insert.ensures.updates in
    first_item c.args.file (item_of c.args.item.now) c.args.traces.now c.insert.new.self c.new-trace.result c.change-2.new.self (sym c.in_default.ensures.value) updates c.new-trace.ensures c.in_ok-change.ensures.ok
