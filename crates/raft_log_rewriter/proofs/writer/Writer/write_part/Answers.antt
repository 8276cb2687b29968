-- A record of an atomic group that goes on.
use Rattle.std.proofs.Common.{Option, sym, subst, ℕ}
use Rattle.raft_log_traces.specs.GroupTraces.{traces_in}
use Rattle.raft_log_cleaner.proofs.Caused.{batch_cause, told_as}
use Rattle.raft_log_rewriter.proofs.Marked.{Follows, marked_follows}
use Rattle.raft_log_rewriter.proofs.Steps.{come_done, marked_behind, not_yet, stopped, wrote}
use Rattle.raft_log_rewriter.specs.Rewriting.{at}
use Rattle.raft_log_rewriter.proofs.writer.Writer.write_part.Goals as goal

pub returns-then-approximate_size-lt-MOST_BATCH_BYTES-clause-goes_on : goal.returns-then-approximate_size-lt-MOST_BATCH_BYTES-clause-goes_on
returns-then-approximate_size-lt-MOST_BATCH_BYTES-clause-goes_on g c =
    λ stage. come_done tt (not_yet (g.F.FileSystem.disk c.args.files.now) c.args.pipes.now c.args.log.now c.args.self.now (at stage))

pub returns-in-Err-clause-goes_on : goal.returns-in-Err-clause-goes_on
returns-in-Err-clause-goes_on g c =
    λ stage. stopped (g.F.FileSystem.disk c.args.files.now) c.args.pipes.now c.args.log.now c.args.log.now c.args.self.now c.mark_part.new.self (at stage) (at stage) c.of_record.result

pub returns-clause-goes_on : goal.returns-clause-goes_on
returns-clause-goes_on g c =
    let w = c.args.self.now in
    let mid = c.mark_part.new.self in
    let marks = c.in-Ok.ensures.marked in
    let behind = marked_behind w.group mid.group w.batch.items mid.batch.items marks in
    λ stage.
    wrote stage (g.F.FileSystem.disk c.args.files.now) (g.F.FileSystem.disk c.write.new.files) c.args.pipes.now c.write.new.pipes c.args.log.now c.write.new.log w c.write.new.self mid.batch.items behind.0 c.write.result
    (λ next groups content s.
    subst (λ (o : Option ℕ). Follows content (traces_in c.args.log.now.traces) s.ws s.open_group s.part mid.batch.items o) (sym c.write.ensures.group)
    (marked_follows content (traces_in c.args.log.now.traces) s.ws s.open_group w.batch.items s.part w.group mid.group mid.batch.items s.stored s.stands.anew s.id s.parts marks))
    behind.1 c.write.ensures.writes c.write.ensures.emptied c.write.ensures.traces

pub returns-in-Err-clause-cause : goal.returns-in-Err-clause-cause
returns-in-Err-clause-cause g c =
    let meter = g.F.FileSystem.meter c.args.files.now in
    told_as meter meter c.of_record.result _ c.of_record.ensures (batch_cause meter meter c.in-Err.error c.in-Err.ensures.cause)
