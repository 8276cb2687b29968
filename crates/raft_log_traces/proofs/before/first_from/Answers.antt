use Rattle.std.proofs.Common.{◌≤◌, ℕ, List, get_or, take, IfSome, subst, sym}
use Rattle.std.proofs.lemmas.List.{take_more}
use Rattle.raft_log_traces.specs.declared.runs.Run.{Run}
use Rattle.raft_log_traces.specs.Runs.{file_in}
use Rattle.raft_log_traces.specs.Before.{StandsFrom}
use Rattle.raft_log_traces.proofs.FileLemmas.{first_more}
use Rattle.raft_log_traces.proofs.before.first_from.Goals as goal

pub loop-run-preserved : goal.loop-run-preserved
loop-run-preserved c =
    subst (λ (rs : List Run). IfSome c.first_with-first.result (λ n. (i : ℕ) → n ≤ i → StandsFrom c.args.file (file_in rs i)))
    (sym (take_more c.args.runs.now c.loop-run.run-index (record { first = 0; file = 0 }) c.loop-run-test.true))
    (first_more c.args.file (take c.loop-run.run-index c.args.runs.now) (get_or c.args.runs.now c.loop-run.run-index (record { first = 0; file = 0 })) c.loop-run.first c.first_with-first.result
    c.loop-run.invariant c.first_with-first.ensures)
