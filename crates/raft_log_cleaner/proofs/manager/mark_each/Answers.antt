-- The cleaning goes on with each group.
use Rattle.raft_log_disk.proofs.RefusalLemmas.{no_more_same, no_more_then}
use Rattle.raft_log_cleaner.proofs.Caused.{refused_then}
use Rattle.raft_log_cleaner.proofs.Going.{gone_done, gone_more, gone_refused, not_yet}
use Rattle.raft_log_cleaner.proofs.manager.mark_each.Goals as goal

pub loop-group-init : goal.loop-group-init
loop-group-init g c = record {
  gone = not_yet (g.F.FileSystem.disk c.args.files.now) c.args.pipes.now c.args.log.now c.args.writer.now.batch.items;
  later = no_more_same _ _;
}

pub mark-requires-after_bounds : goal.mark-requires-after_bounds
mark-requires-after_bounds g c κs within = (c.requires.0, c.loop-group.invariant.gone.on c.requires.0 c.requires.1)

pub returns-in_err-mark : goal.returns-in_err-mark
returns-in_err-mark g c = record {
  goes_on = gone_refused c.from_residual.result c.in_err-mark.field-0.0 c.from_residual.ensures.1 c.loop-group.invariant.gone c.in_err-mark.ensures.goes_on;
  later = no_more_then c.loop-group.invariant.later c.in_err-mark.ensures.later;
  cause = refused_then c.loop-group.invariant.later (g.F.FileSystem.meter c.mark.new.files) c.from_residual.result c.in_err-mark.field-0.0 c.from_residual.ensures.1 c.in_err-mark.ensures.cause;
}

pub loop-group-preserved : goal.loop-group-preserved
loop-group-preserved g c = record {
  gone = gone_more tt c.loop-group.invariant.gone c.in_ok-mark.ensures.goes_on;
  later = no_more_then c.loop-group.invariant.later c.in_ok-mark.ensures.later;
}

pub returns : goal.returns
returns g c = record { goes_on = gone_done tt c.loop-group.invariant.gone; later = c.loop-group.invariant.later; cause = tt }
