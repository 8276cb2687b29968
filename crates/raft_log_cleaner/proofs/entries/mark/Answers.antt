-- A group is marked.
use Rattle.raft_log_disk.proofs.RefusalLemmas.{no_more_same}
use Rattle.raft_log_cleaner.proofs.Going.{gone_more, gone_then, not_yet}
use Rattle.raft_log_cleaner.proofs.entries.mark.Goals as goal

pub returns-in_err-add_marks-clause-later : goal.returns-in_err-add_marks-clause-later
returns-in_err-add_marks-clause-later g c = no_more_same _ _

pub flush_large-requires-after_bounds : goal.flush_large-requires-after_bounds
flush_large-requires-after_bounds g c κs within = (c.requires.0, c.in_ok-add_marks.ensures.goes_on.ok c.requires.0 c.requires.1)

pub returns-clause-goes_on : goal.returns-clause-goes_on
returns-clause-goes_on g c =
    gone_then c.flush_large.result (gone_more tt (not_yet (g.F.FileSystem.disk c.args.files.now) c.args.pipes.now c.args.log.now c.args.writer.now.batch.items) c.in_ok-add_marks.ensures.goes_on) c.flush_large.ensures.goes_on
