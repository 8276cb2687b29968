-- The cleaning goes on with each chunk.
use Rattle.raft_log_disk.proofs.RefusalLemmas.{no_more_same, no_more_then}
use Rattle.raft_log_cleaner.proofs.Caused.{refused_then}
use Rattle.raft_log_cleaner.proofs.Going.{gone_done, gone_more, gone_refused, not_yet}
use Rattle.raft_log_cleaner.proofs.entries.rewrite_all_entries.Goals as goal

pub returns-then-not-is_marked : goal.returns-then-not-is_marked
returns-then-not-is_marked g c = record {
  goes_on = gone_done tt (not_yet (g.F.FileSystem.disk c.args.files.now) c.args.pipes.now c.args.log.now c.args.writer.now.batch.items);
  later = no_more_same _ _;
  cause = tt;
}

pub returns-in_default : goal.returns-in_default
returns-in_default g c = record {
  goes_on = gone_done tt (not_yet (g.F.FileSystem.disk c.args.files.now) c.args.pipes.now c.args.log.now c.args.writer.now.batch.items);
  later = no_more_same _ _;
  cause = tt;
}

pub returns-in_default-next_entries : goal.returns-in_default-next_entries
returns-in_default-next_entries g c = record { goes_on = gone_done tt c.loop.invariant.gone; later = c.loop.invariant.later; cause = tt }

pub loop-init : goal.loop-init
loop-init g c = record {
  gone = not_yet (g.F.FileSystem.disk c.args.files.now) c.args.pipes.now c.args.log.now c.args.writer.now.batch.items;
  later = no_more_same _ _;
}

pub rewrite_chunk-requires-clause-cleaning : goal.rewrite_chunk-requires-clause-cleaning
rewrite_chunk-requires-clause-cleaning g c κs within = (c.requires.0, c.loop.invariant.gone.on c.requires.0 c.requires.1)

pub flush_large-requires-after_bounds : goal.flush_large-requires-after_bounds
flush_large-requires-after_bounds g c κs within = (c.requires.0, c.in_ok-rewrite_chunk.ensures.goes_on.ok c.requires.0 (c.loop.invariant.gone.on c.requires.0 c.requires.1))

pub returns-in_err-rewrite_chunk : goal.returns-in_err-rewrite_chunk
returns-in_err-rewrite_chunk g c = record {
  goes_on = gone_refused c.from_residual.result c.in_err-rewrite_chunk.field-0.0 c.from_residual.ensures.1 c.loop.invariant.gone c.in_err-rewrite_chunk.ensures.goes_on;
  later = c.loop.invariant.later;
  cause = refused_then c.loop.invariant.later (g.F.FileSystem.meter c.loop.files) c.from_residual.result c.in_err-rewrite_chunk.field-0.0 c.from_residual.ensures.1 c.in_err-rewrite_chunk.ensures.cause;
}

pub returns-in_err-flush_large : goal.returns-in_err-flush_large
returns-in_err-flush_large g c = record {
  goes_on = gone_refused c.from_residual-in_err-flush_large.result c.in_err-flush_large.field-0.0 c.from_residual-in_err-flush_large.ensures.1
      (gone_more tt c.loop.invariant.gone c.in_ok-rewrite_chunk.ensures.goes_on) c.in_err-flush_large.ensures.goes_on;
  later = no_more_then c.loop.invariant.later c.in_err-flush_large.ensures.later;
  cause = refused_then c.loop.invariant.later (g.F.FileSystem.meter c.flush_large.new.files) c.from_residual-in_err-flush_large.result c.in_err-flush_large.field-0.0 c.from_residual-in_err-flush_large.ensures.1 c.in_err-flush_large.ensures.cause;
}

pub loop-preserved : goal.loop-preserved
loop-preserved g c = record {
  gone = gone_more tt (gone_more tt c.loop.invariant.gone c.in_ok-rewrite_chunk.ensures.goes_on) c.in_ok-flush_large.ensures.goes_on;
  later = no_more_then c.loop.invariant.later c.in_ok-flush_large.ensures.later;
}

pub returns : goal.returns
returns g c = record { goes_on = gone_done tt c.loop.invariant.gone; later = c.loop.invariant.later; cause = tt }
