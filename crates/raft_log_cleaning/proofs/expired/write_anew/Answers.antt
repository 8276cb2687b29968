-- What counts is counted before, and is what was written then.
use Rattle.raft_log_cleaner.proofs.Calls.{cleans_refused, cleans_stopped}
use Rattle.raft_log_cleaner.proofs.Going.{when_err}
use Rattle.raft_log_cleaner.proofs.Telling.{tells}
use Rattle.raft_log_cleaning.proofs.Behind.{unchanged_stands, written_set}
use Rattle.raft_log_cleaning.proofs.expired.write_anew.Goals as goal

pub live_of-requires : goal.live_of-requires
live_of-requires g c = tells (g.F.FileSystem.disk c.args.files.now) c.args.pipes.now c.args.log.now c.requires.can.0 c.requires.can.1

pub returns-in_err-live-clause-cleans : goal.returns-in_err-live-clause-cleans
returns-in_err-live-clause-cleans g c = cleans_stopped _ (g.F.FileSystem.disk c.args.files.now) c.args.pipes.now c.args.log.now c.from_residual.result c.from_residual.ensures.1

pub returns-in_err-live-clause-stands : goal.returns-in_err-live-clause-stands
returns-in_err-live-clause-stands g c = when_err c.from_residual.result (unchanged_stands (g.F.FileSystem.disk c.args.files.now) c.args.pipes.now c.args.log.now)

pub returns-in_err-write_queue-clause-cleans : goal.returns-in_err-write_queue-clause-cleans
returns-in_err-write_queue-clause-cleans g c =
    cleans_refused _ c.from_residual-in_err-write_queue.result c.in_err-write_queue.field-0.0 c.from_residual-in_err-write_queue.ensures.1 c.in_err-write_queue.ensures.cleans

pub returns-in_err-write_queue-clause-stands : goal.returns-in_err-write_queue-clause-stands
returns-in_err-write_queue-clause-stands g c = when_err c.from_residual-in_err-write_queue.result c.in_err-write_queue.ensures.stands

pub returns-clause-cleans : goal.returns-clause-cleans
returns-clause-cleans g c = record {
  ok = λ content can. written_set (g.F.FileSystem.disk c.write_queue.new.files) c.write_queue.new.pipes c.write_queue.new.log c.in_ok-live.live content (c.in_ok-write_queue.ensures.cleans.ok content can);
  err = λ content can. tt;
}
