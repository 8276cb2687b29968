use Rattle.std.proofs.Common.{List, get_or, take, subst, sym}
use Rattle.std.proofs.lemmas.List.{take_more}
use Rattle.raft_log_traces.specs.declared.runs.Run.{Run}
use Rattle.raft_log_traces.specs.Runs.{BeginAt}
use Rattle.raft_log_traces.proofs.BeginLemmas.{no_runs_begin, begins_more}
use Rattle.raft_log_traces.proofs.before.begin_of.Goals as goal

pub loop-run-init : goal.loop-run-init
loop-run-init c = no_runs_begin c.args.next

pub loop-run-preserved : goal.loop-run-preserved
loop-run-preserved c =
    subst (λ (rs : List Run). BeginAt c.earlier-begin.result c.args.next rs)
    (sym (take_more c.args.runs.now c.loop-run.run-index (record { first = 0; file = 0 }) c.loop-run-test.true))
    (begins_more c.args.next c.loop-run.begin c.earlier-begin.result (take c.loop-run.run-index c.args.runs.now) (get_or c.args.runs.now c.loop-run.run-index (record { first = 0; file = 0 }))
    c.earlier-begin.ensures c.loop-run.invariant)
