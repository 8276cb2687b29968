-- The cleaning goes on with each key.
use Rattle.raft_log_files.specs.declared.error.Error.TheVariants.{Memory}
use Rattle.raft_log_disk.proofs.RefusalLemmas.{no_more_same, no_more_then}
use Rattle.raft_log_cleaner.proofs.Caused.{refused, refused_then}
use Rattle.raft_log_cleaner.proofs.Going.{gone_done, gone_more, gone_refused, not_yet, stopped_by}
use Rattle.raft_log_cleaner.proofs.entries.rewrite_all_keys.Goals as goal

pub returns-in_default : goal.returns-in_default
returns-in_default g c = record {
  goes_on = gone_done tt (not_yet (g.F.FileSystem.disk c.args.files.now) c.args.pipes.now c.args.log.now c.args.writer.now.batch.items);
  later = no_more_same _ _;
  cause = tt;
}

pub returns-in_err-name-items : goal.returns-in_err-name-items
returns-in_err-name-items g c = record {
  goes_on = stopped_by _ (g.F.FileSystem.disk c.args.files.now) c.args.pipes.now c.args.log.now c.args.log.now c.args.writer.now.batch.items c.args.writer.now.batch.items c.from_residual.result c.from_residual.ensures.1;
  later = no_more_same _ _;
  cause = refused (g.F.FileSystem.meter c.args.files.now) (g.F.FileSystem.meter c.args.files.now) c.from_residual.result Memory c.from_residual.ensures.1 tt;
}

pub loop-name-init : goal.loop-name-init
loop-name-init g c = record {
  gone = not_yet (g.F.FileSystem.disk c.args.files.now) c.args.pipes.now c.args.log.now c.args.writer.now.batch.items;
  later = no_more_same _ _;
}

pub add_key-requires-after_bounds : goal.add_key-requires-after_bounds
add_key-requires-after_bounds g c κs within = (c.requires.0, c.loop-name.invariant.gone.on c.requires.0 c.requires.1)

pub flush_large-requires-after_bounds : goal.flush_large-requires-after_bounds
flush_large-requires-after_bounds g c κs within = (c.requires.0, c.in_ok-add_key.ensures.goes_on.ok c.requires.0 (c.loop-name.invariant.gone.on c.requires.0 c.requires.1))

pub returns-in_err-add_key : goal.returns-in_err-add_key
returns-in_err-add_key g c = record {
  goes_on = gone_refused c.from_residual-in_err-add_key.result c.in_err-add_key.field-0.0 c.from_residual-in_err-add_key.ensures.1 c.loop-name.invariant.gone c.in_err-add_key.ensures.goes_on;
  later = c.loop-name.invariant.later;
  cause = refused_then c.loop-name.invariant.later (g.F.FileSystem.meter c.loop-name.files) c.from_residual-in_err-add_key.result c.in_err-add_key.field-0.0 c.from_residual-in_err-add_key.ensures.1 c.in_err-add_key.ensures.cause;
}

pub returns-in_err-flush_large : goal.returns-in_err-flush_large
returns-in_err-flush_large g c = record {
  goes_on = gone_refused c.from_residual-in_err-flush_large.result c.in_err-flush_large.field-0.0 c.from_residual-in_err-flush_large.ensures.1
      (gone_more tt c.loop-name.invariant.gone c.in_ok-add_key.ensures.goes_on) c.in_err-flush_large.ensures.goes_on;
  later = no_more_then c.loop-name.invariant.later c.in_err-flush_large.ensures.later;
  cause = refused_then c.loop-name.invariant.later (g.F.FileSystem.meter c.flush_large.new.files) c.from_residual-in_err-flush_large.result c.in_err-flush_large.field-0.0 c.from_residual-in_err-flush_large.ensures.1 c.in_err-flush_large.ensures.cause;
}

pub loop-name-preserved : goal.loop-name-preserved
loop-name-preserved g c = record {
  gone = gone_more tt (gone_more tt c.loop-name.invariant.gone c.in_ok-add_key.ensures.goes_on) c.in_ok-flush_large.ensures.goes_on;
  later = no_more_then c.loop-name.invariant.later c.in_ok-flush_large.ensures.later;
}

pub returns : goal.returns
returns g c = record { goes_on = gone_done tt c.loop-name.invariant.gone; later = c.loop-name.invariant.later; cause = tt }
