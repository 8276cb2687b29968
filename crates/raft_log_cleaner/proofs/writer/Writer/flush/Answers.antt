-- A batch that is written, and a sync behind it.
use Rattle.std.proofs.Common.{◌≡◌, ap, ◌∙◌}
use Rattle.raft_log_disk.proofs.RefusalLemmas.{no_more_then}
use Rattle.raft_log_cleaner.proofs.Caused.{cause_then}
use Rattle.raft_log_cleaner.proofs.Going.{gone_more, gone_refused, gone_then, not_yet, when_ok}
use Rattle.raft_log_cleaner.proofs.writer.Writer.flush.Goals as goal

pub returns-in_err-len-clause-goes_on : goal.returns-in_err-len-clause-goes_on
returns-in_err-len-clause-goes_on g c =
    gone_refused c.from_residual.result c.in_err-len.field-0.0 c.from_residual.ensures.1
    (not_yet (g.F.FileSystem.disk c.args.files.now) c.args.pipes.now c.args.log.now c.args.self.now.batch.items) c.in_err-len.ensures.goes_on

pub sync-requires-after_bounds : goal.sync-requires-after_bounds
sync-requires-after_bounds g c κs within = (c.requires.0, c.in_ok-len.ensures.goes_on.ok c.requires.0 c.requires.1)

pub returns-then-self-ge-MOST_UNSYNCED_BYTES-clause-goes_on : goal.returns-then-self-ge-MOST_UNSYNCED_BYTES-clause-goes_on
returns-then-self-ge-MOST_UNSYNCED_BYTES-clause-goes_on g c =
    gone_then c.sync.result
    (gone_more c.in_ok-len.len (not_yet (g.F.FileSystem.disk c.args.files.now) c.args.pipes.now c.args.log.now c.args.self.now.batch.items) c.in_ok-len.ensures.goes_on)
    c.sync.ensures.goes_on

pub returns-then-self-ge-MOST_UNSYNCED_BYTES-clause-emptied : goal.returns-then-self-ge-MOST_UNSYNCED_BYTES-clause-emptied
returns-then-self-ge-MOST_UNSYNCED_BYTES-clause-emptied g c = when_ok c.sync.result (ap (λ b. b.items) c.sync.ensures.batch ∙ c.in_ok-len.ensures.emptied)

pub returns-then-self-ge-MOST_UNSYNCED_BYTES-clause-later : goal.returns-then-self-ge-MOST_UNSYNCED_BYTES-clause-later
returns-then-self-ge-MOST_UNSYNCED_BYTES-clause-later g c = no_more_then c.in_ok-len.ensures.later c.sync.ensures.later

pub returns-then-self-ge-MOST_UNSYNCED_BYTES-clause-cause : goal.returns-then-self-ge-MOST_UNSYNCED_BYTES-clause-cause
returns-then-self-ge-MOST_UNSYNCED_BYTES-clause-cause g c = cause_then c.in_ok-len.ensures.later (g.F.FileSystem.meter c.sync.new.files) c.sync.result c.sync.ensures.cause
