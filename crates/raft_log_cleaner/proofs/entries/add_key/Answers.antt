-- A key of a group, in the batch.
use Rattle.std.proofs.Common.{◌≡◌, List, ℕ, Option, Some, refl, sym, ap, ◌∙◌}
use Rattle.std.specs.Option.{option_copied}
use Rattle.raft_log_memtables.specs.MemTables.{content_in}
use Rattle.raft_log_cleaner.proofs.Caused.{batch_cause, told_as}
use Rattle.raft_log_cleaner.proofs.Chunks.{group_there, value_seen}
use Rattle.raft_log_cleaner.proofs.Going.{added, stopped, stopped_by}
use Rattle.raft_log_cleaner.proofs.entries.add_key.Goals as goal

pub returns-in_err-value-clause-goes_on : goal.returns-in_err-value-clause-goes_on
returns-in_err-value-clause-goes_on g c =
    stopped_by _ (g.F.FileSystem.disk c.args.files.now) c.args.pipes.now c.args.log.now c.args.log.now c.args.writer.now.batch.items c.args.writer.now.batch.items c.from_residual.result c.from_residual.ensures.1

pub returns-in-Err-clause-goes_on : goal.returns-in-Err-clause-goes_on
returns-in-Err-clause-goes_on g c =
    stopped (g.F.FileSystem.disk c.args.files.now) c.args.pipes.now c.args.log.now (record c.args.log.now { traces = c.rewrite_key.new.traces }) c.args.writer.now.batch.items c.rewrite_key.new.batch.items c.of_record.result

pub returns-in-Err-clause-cause : goal.returns-in-Err-clause-cause
returns-in-Err-clause-cause g c =
    let meter = g.F.FileSystem.meter c.args.files.now in
    told_as meter meter c.of_record.result _ c.of_record.ensures (batch_cause meter meter c.in-Err.error c.in-Err.ensures.cause)

pub returns-clause-goes_on : goal.returns-clause-goes_on
returns-clause-goes_on g c =
    let d = g.F.FileSystem.disk c.args.files.now in
    added d c.args.pipes.now c.args.log.now (record c.args.log.now { traces = c.rewrite_key.new.traces }) c.args.writer.now.batch.items c.rewrite_key.new.batch.items tt refl refl
    (λ content s.
    c.in-Ok.ensures.steps content (c.is_marked.ensures.not_cleaned c.if-not-is_marked.false)
    (group_there d c.args.pipes.now c.args.log.now c.args.writer.now.batch.items content s c.args.group (c.is_marked.ensures.there c.if-not-is_marked.false))
    (sym (value_seen d c.args.pipes.now c.args.log.now c.args.writer.now.batch.items content s c.args.group c.args.name.items)
    ∙ ap (λ (k : List ℕ). (content_in c.args.log.now.tables c.args.group).value k) (sym c.deref.ensures.value)
    ∙ sym c.get.ensures
    ∙ ap option_copied c.in-Some.is
    ∙ ap (λ (v : List ℕ). Some v) (sym c.in_ok-value.ensures.items)))
