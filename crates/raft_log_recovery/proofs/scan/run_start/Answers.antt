use Rattle.std.proofs.Common.{◌-◌, ◌<◌, length, get_or, arith}
use Rattle.raft_log_recovery.proofs.ScanLemmas.{get_or_any, run_more, seq_read}
use Rattle.raft_log_recovery.proofs.scan.run_start.Goals as goal

pub loop-start-preserved : goal.loop-start-preserved
loop-start-preserved c = record {
  within = omega arith;
  some = λ some. omega (arith, c.loop-start.invariant.some some);
  run = λ i from within.
      let files = c.args.files.now in
      let start = c.loop-start.start in
      let short : start < length files = c.loop-start.invariant.some (omega arith) in
      let here = seq_read files start (get_or files start (record { seq = 0; path_id = 0 })) short (get_or_any files start _ short) in
      let before = seq_read files (start - 1) (get_or files (start - 1) (record { seq = 0; path_id = 0 })) (omega arith) (get_or_any files (start - 1) _ (omega arith)) in
      run_more files start c.loop-start-test.true (omega (arith, here, before, c.if-here-before.false, c.if-here-before-ne1.false)) c.loop-start.invariant.run i from within;
}
