use Rattle.std.proofs.Common.{arith}
use Rattle.raft_log_memtables.specs.MemTables.{content_in}
use Rattle.raft_log_traces.specs.GroupTraces.{traces_in}
use Rattle.raft_log_traced.proofs.OpenedLemmas.{filed_over_hole, next_filed}
use Rattle.raft_log_traced.proofs.opened.set_files.Goals as goal

pub loop-index-preserved : goal.loop-index-preserved
loop-index-preserved c =
    let content = content_in c.args.tables.now c.args.group in
    let found = c.in-Some.ensures in
    record {
      within = omega (arith, found.1);
      filed = next_filed content c.args.group c.args.low c.in-Some.index c.loop-index.before c.file_of-file.result (traces_in c.args.traces.now) (traces_in c.loop-index.traces) (traces_in c.begin_run.new.traces)
          (filed_over_hole content c.args.group c.args.low c.loop-index.at c.in-Some.index c.loop-index.before (traces_in c.args.traces.now) (traces_in c.loop-index.traces) found.0 found.2 c.loop-index.invariant.filed)
          c.file_of-file.ensures c.in_ok-begin_run.ensures;
    }

pub returns : goal.returns
returns c = (
  c.loop-index.before,
  filed_over_hole (content_in c.args.tables.now c.args.group) c.args.group c.args.low c.loop-index.at c.args.next c.loop-index.before (traces_in c.args.traces.now) (traces_in c.loop-index.traces)
      c.loop-index.invariant.within c.in_default.ensures c.loop-index.invariant.filed,
)
