-- The last record of an atomic group.
use Rattle.std.proofs.Common.{◌≡◌, ◌∷◌, [], Option, None, ℕ, ap, subst, ◌∙◌}
use Rattle.std.specs.Prelude.{Err, Ok}
use Rattle.raft_log_records.specs.Item.Change.{mark}
use Rattle.raft_log_records.specs.declared.item.AtomicGroupStatus.TheVariants.{End}
use Rattle.raft_log_purge.proofs.CausedLemmas.{item_cause}
use Rattle.raft_log_purge.proofs.StepLemmas.{logged_item}
use Rattle.raft_log_cleaner.proofs.Going.{done, failed}
use Rattle.raft_log_cleaner.proofs.Caused.{batch_cause, told_as}
use Rattle.raft_log_rewriter.specs.Parts.{HasId}
use Rattle.raft_log_rewriter.specs.Parts.Stage.{between}
use Rattle.raft_log_rewriter.specs.Rewriting.{at}
use Rattle.raft_log_traces.specs.GroupTraces.{traces_in}
use Rattle.raft_log_rewriter.proofs.Items.{marked}
use Rattle.raft_log_rewriter.proofs.Steps.{come_refused, ended_follows, not_yet, stopped, wrote}
use Rattle.raft_log_rewriter.proofs.writer.Writer.write_end.Goals as goal

pub returns-in-Err-clause-goes_on : goal.returns-in-Err-clause-goes_on
returns-in-Err-clause-goes_on g c =
    stopped (g.F.FileSystem.disk c.args.files.now) c.args.pipes.now c.args.log.now c.args.log.now c.args.self.now (record c.args.self.now { batch = c.end.new.batch }) (at between) (at between) c.of_record.result

pub returns-in_err-write-clause-goes_on : goal.returns-in_err-write-clause-goes_on
returns-in_err-write-clause-goes_on g c =
    let w = c.args.self.now in
    let items = c.end.new.batch.items in
    let is : items ≡ marked w.batch.items c.args.id End =
    logged_item w.batch (record { group = 0; change = mark c.with_id.result.id End }) c.end.new.batch (Ok c.in-Ok.field-0) c.in-Ok.ensures ∙ ap (λ (n : ℕ). marked w.batch.items n End) c.with_id.ensures in
    come_refused c.from_residual.result c.in_err-write.field-0.0 c.from_residual.ensures.1
    (not_yet (g.F.FileSystem.disk c.args.files.now) c.args.pipes.now c.args.log.now w (at between))
    (wrote between (g.F.FileSystem.disk c.args.files.now) (g.F.FileSystem.disk c.write.new.files) c.args.pipes.now c.write.new.pipes c.args.log.now c.write.new.log w (record c.write.new.self { group = None }) items
    (record { group = 0; change = mark c.args.id End } ∷ []) (failed c.in_err-write.field-0.0)
    (λ next groups content s. ended_follows content (traces_in c.args.log.now.traces) s.ws s.open_group w.batch.items s.part items c.args.id s.stored s.stands.anew (subst (λ (o : Option ℕ). HasId s.open_group o) c.requires.group s.id) s.is_part is s.parts)
    is c.in_err-write.ensures.writes tt c.in_err-write.ensures.traces)

pub returns-clause-goes_on : goal.returns-clause-goes_on
returns-clause-goes_on g c =
    let w = c.args.self.now in
    let items = c.end.new.batch.items in
    let is : items ≡ marked w.batch.items c.args.id End =
    logged_item w.batch (record { group = 0; change = mark c.with_id.result.id End }) c.end.new.batch (Ok c.in-Ok.field-0) c.in-Ok.ensures ∙ ap (λ (n : ℕ). marked w.batch.items n End) c.with_id.ensures in
    wrote between (g.F.FileSystem.disk c.args.files.now) (g.F.FileSystem.disk c.write.new.files) c.args.pipes.now c.write.new.pipes c.args.log.now c.write.new.log w (record c.write.new.self { group = None }) items
    (record { group = 0; change = mark c.args.id End } ∷ []) (done tt)
    (λ next groups content s. ended_follows content (traces_in c.args.log.now.traces) s.ws s.open_group w.batch.items s.part items c.args.id s.stored s.stands.anew (subst (λ (o : Option ℕ). HasId s.open_group o) c.requires.group s.id) s.is_part is s.parts)
    is c.in_ok-write.ensures.writes c.in_ok-write.ensures.emptied c.in_ok-write.ensures.traces

pub returns-in-Err-clause-cause : goal.returns-in-Err-clause-cause
returns-in-Err-clause-cause g c =
    let meter = g.F.FileSystem.meter c.args.files.now in
    told_as meter meter c.of_record.result _ c.of_record.ensures (batch_cause meter meter c.in-Err.error (item_cause c.args.self.now.batch (record { group = 0; change = mark c.with_id.result.id End }) c.end.new.batch (Err c.in-Err.error) c.in-Err.ensures))
