-- A key of a group, in the batch.
use Rattle.std.proofs.Common.{List, ℕ, ◌++◌, ◌∷◌, [], Some, refl, sym, ap, ◌∙◌}
use Rattle.std.specs.Option.{option_copied}
use Rattle.std.specs.Prelude.{Err, Ok}
use Rattle.raft_log_records.specs.Item.Change.{put}
use Rattle.raft_log_files.specs.declared.error.Error.TheVariants.{Memory}
use Rattle.raft_log_purge.proofs.CausedLemmas.{item_cause}
use Rattle.raft_log_purge.proofs.StepLemmas.{logged_item}
use Rattle.raft_log_cleaner.proofs.Caused.{batch_cause, refused, told_as}
use Rattle.raft_log_rewriter.specs.Parts.Stage.{keys_to}
use Rattle.raft_log_rewriter.specs.Rewriting.{at}
use Rattle.raft_log_rewriter.proofs.Adding.{key_skipped, key_written}
use Rattle.raft_log_rewriter.proofs.Steps.{added, stopped, stopped_by}
use Rattle.raft_log_rewriter.proofs.group.add_key.Goals as goal

pub returns-in_default-clause-goes_on : goal.returns-in_default-clause-goes_on
returns-in_default-clause-goes_on c = λ d p first stop before.
    added d p c.args.log.now c.args.writer.now c.args.writer.now (at (keys_to c.args.group first stop before)) (at (keys_to c.args.group first stop (before ++ c.args.name.now ∷ []))) tt
    (λ next groups content s. key_skipped d p c.args.log.now next groups content c.args.writer.now c.args.group first stop before c.args.name.now s (sym c.get.ensures ∙ ap option_copied c.in_default.is))

pub returns-then-is_empty-clause-goes_on : goal.returns-then-is_empty-clause-goes_on
returns-then-is_empty-clause-goes_on c = λ d p first stop before.
    stopped d p c.args.log.now c.args.log.now c.args.writer.now c.args.writer.now (at (keys_to c.args.group first stop before)) (at (keys_to c.args.group first stop (before ++ c.args.name.now ∷ []))) _

pub returns-in_err-name-clause-goes_on : goal.returns-in_err-name-clause-goes_on
returns-in_err-name-clause-goes_on c = λ d p first stop before.
    stopped_by _ d p c.args.log.now c.args.log.now c.args.writer.now c.args.writer.now (at (keys_to c.args.group first stop before)) (at (keys_to c.args.group first stop (before ++ c.args.name.now ∷ []))) c.from_residual.result c.from_residual.ensures.1

pub returns-in_err-value-clause-goes_on : goal.returns-in_err-value-clause-goes_on
returns-in_err-value-clause-goes_on c = λ d p first stop before.
    stopped_by _ d p c.args.log.now c.args.log.now c.args.writer.now c.args.writer.now (at (keys_to c.args.group first stop before)) (at (keys_to c.args.group first stop (before ++ c.args.name.now ∷ []))) c.from_residual-in_err-value.result c.from_residual-in_err-value.ensures.1

pub returns-in-Err-clause-goes_on : goal.returns-in-Err-clause-goes_on
returns-in-Err-clause-goes_on c = λ d p first stop before.
    stopped d p c.args.log.now c.args.log.now c.args.writer.now (record c.args.writer.now { batch = c.put.new.self }) (at (keys_to c.args.group first stop before)) (at (keys_to c.args.group first stop (before ++ c.args.name.now ∷ []))) c.of_record.result

pub returns-in-Ok-clause-goes_on : goal.returns-in-Ok-clause-goes_on
returns-in-Ok-clause-goes_on c = λ d p first stop before.
    added d p c.args.log.now c.args.writer.now (record c.args.writer.now { batch = c.put.new.self }) (at (keys_to c.args.group first stop before)) (at (keys_to c.args.group first stop (before ++ c.args.name.now ∷ []))) tt
    (λ next groups content s. key_written d p c.args.log.now next groups content c.args.writer.now (record c.args.writer.now { batch = c.put.new.self }) c.args.group first stop before c.args.name.now c.in_ok-value.value.items s
    (sym c.get.ensures ∙ ap option_copied c.in-Some.is ∙ ap (λ (v : List ℕ). Some v) (sym c.in_ok-value.ensures.items))
    (logged_item c.args.writer.now.batch (record { group = c.args.group; change = put c.in_ok-name.name.items c.in_ok-value.value.items }) c.put.new.self (Ok c.in-Ok.field-0) c.in-Ok.ensures
    ∙ ap (λ (k : List ℕ). c.args.writer.now.batch.items ++ record { group = c.args.group; change = put k c.in_ok-value.value.items } ∷ []) c.in_ok-name.ensures.items) refl)

pub returns-in_err-name-clause-cause : goal.returns-in_err-name-clause-cause
returns-in_err-name-clause-cause c = λ meter. refused meter meter c.from_residual.result Memory c.from_residual.ensures.1 tt

pub returns-in_err-value-clause-cause : goal.returns-in_err-value-clause-cause
returns-in_err-value-clause-cause c = λ meter. refused meter meter c.from_residual-in_err-value.result Memory c.from_residual-in_err-value.ensures.1 tt

pub returns-in-Err-clause-cause : goal.returns-in-Err-clause-cause
returns-in-Err-clause-cause c = λ meter.
    told_as meter meter c.of_record.result _ c.of_record.ensures
    (batch_cause meter meter c.in-Err.error (item_cause c.args.writer.now.batch (record { group = c.args.group; change = put c.in_ok-name.name.items c.in_ok-value.value.items }) c.put.new.self (Err c.in-Err.error) c.in-Err.ensures))
