use Rattle.std.proofs.Common.{◌+◌, ◌-◌, ap, sym, ◌∙◌, arith, rules}
use Rattle.raft_log_recovery.specs.Scan.{seq_at}
use Rattle.raft_log_tools.proofs.RunLemmas.{run_breaks, run_goes_on}
use Rattle.raft_log_tools.proofs.found.last_run.Goals.{then-not-follows, else-not-follows}
use Rattle.raft_log_tools.proofs.found.last_run.Goals as goal

pub loop-i-preserved : goal.loop-i-preserved
loop-i-preserved c =
    let files = c.args.found.now in
    let i = c.loop-i.i in
    elim c.if-not-follows.branch [
      | then-not-follows w ↦ record {
        before = omega arith;
        some = λ some. omega arith;
        within = omega arith;
        run = λ k from below. absurd (omega (arith, w.start-is, from, below));
        break = λ some is. run_breaks files i (record { seq = 0; path_id = 0 }) c.loop-i-test.true (λ follows. absurd (search (rules, w.if-not-follows.ensures.1 follows)))
            (ap (λ n. seq_at files n) (sym w.start-is) ∙ is ∙ ap (λ n. seq_at files (n - 1) + 1) w.start-is);
      }
      | else-not-follows w ↦ record {
        before = omega arith;
        some = λ some. omega (arith, w.start-is, c.loop-i.invariant.some some);
        within = omega arith;
        run = λ k from below.
            run_goes_on files i c.loop-i.start (record { seq = 0; path_id = 0 }) c.loop-i.auto.i c.loop-i-test.true (w.if-not-follows.ensures.0 (search rules)) c.loop-i.invariant.run k (omega (arith, w.start-is, from)) below;
        break = λ some is. c.loop-i.invariant.break (omega (arith, w.start-is, some)) (ap (λ n. seq_at files n) (sym w.start-is) ∙ is ∙ ap (λ n. seq_at files (n - 1) + 1) w.start-is);
      }
    ]
