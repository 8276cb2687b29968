use Rattle.std.proofs.Common.{◌++◌, Err}
use Rattle.raft_log_records.specs.declared.file_id.LogQueue.{LogQueue}
use Rattle.raft_log_files.specs.declared.error.CorruptionFault.{CorruptionFault}
use Rattle.raft_log_files.specs.declared.error.Error.{Error}
use Rattle.raft_log_pipe.proofs.CausedLemmas.{told_cause}
use Rattle.raft_log_pipes.specs.Pipes.{other_queue}
use Rattle.raft_log_recovery.specs.Both.{CantBeOpened, IsEitherFault}
use Rattle.raft_log_recovery.proofs.BothLemmas.{found_of, with_both}
use Rattle.raft_log_recovery.proofs.CausedLemmas.{either_taken}
use Rattle.raft_log_recovery.proofs.CorruptLemmas.{passed_on}
use Rattle.std.proofs.Common.{List, map, inr, sym, subst}
use Rattle.std.specs.String.{string_bytes}
use Rattle.raft_log_disk.specs.Text.{Text}
use Rattle.raft_log_records.specs.declared.file_id.LogQueue.TheVariants.{Append}
use Rattle.raft_log_recovery.specs.Both.{KeepsFound}
use Rattle.raft_log_recovery.proofs.KeptLemmas.{holes_as, opened_as, with_as}
use Rattle.raft_log_pipe.proofs.EndLemmas.{not_given}
use Rattle.raft_log_recovery.proofs.EarlyLemmas.{an_err}
use Rattle.raft_log_recovery.proofs.builder.DualPipesBuilder.recover_by.Goals as goal

pub open_both-requires-clause-one : goal.open_both-requires-clause-one
open_both-requires-clause-one g c κs within = found_of c.args.self.now (g.F.FileSystem.disk c.args.files.now) c.first_queue-first.result c.requires.append c.requires.rewrite

pub open_both-requires-clause-two : goal.open_both-requires-clause-two
open_both-requires-clause-two g c κs within = found_of c.args.self.now (g.F.FileSystem.disk c.args.files.now) (other_queue c.first_queue-first.result) c.requires.append c.requires.rewrite

pub returns-in_err-pipes-clause-corrupt : goal.returns-in_err-pipes-clause-corrupt
returns-in_err-pipes-clause-corrupt g c =
    passed_on (λ (f : CorruptionFault). (queue : LogQueue) × CantBeOpened c.args.self.now.config.recovery_mode c.args.self.now queue (g.F.FileSystem.disk c.args.files.now))
    c.in_err-pipes.field-0.0 c.from_residual.result c.from_residual.ensures.1 (λ f same. c.in_err-pipes.ensures.corrupt f (λ i. Err (same i)))

pub returns-in_err-pipes-clause-cause : goal.returns-in_err-pipes-clause-cause
returns-in_err-pipes-clause-cause g c =
    let y = c.open_both.new.files in
    told_cause c.from_residual.result c.in_err-pipes.field-0.0
    (λ (e : Error). IsEitherFault c.args.self.now (g.F.FileSystem.disk c.args.files.now) (g.F.FileSystem.disk y) (g.F.FileSystem.is_bounded c.args.files.now) (g.F.FileSystem.meter c.args.files.now) (g.F.FileSystem.meter y) e)
    c.from_residual.ensures.1 c.in_err-pipes.ensures.cause

pub returns-in_err-pipes-clause-taken : goal.returns-in_err-pipes-clause-taken
returns-in_err-pipes-clause-taken g c =
    either_taken c.args.self.now (g.F.FileSystem.disk c.args.files.now) (g.F.FileSystem.disk c.open_both.new.files) (g.F.FileSystem.is_bounded c.args.files.now) (g.F.FileSystem.meter c.args.files.now) (g.F.FileSystem.meter c.open_both.new.files) c.from_residual.result
    (returns-in_err-pipes-clause-cause g c)

-- ---- reserved files

pub returns-in_err-with_found-clause-cause : goal.returns-in_err-with_found-clause-cause
returns-in_err-with_found-clause-cause g c =
    let y = c.open_both.new.files in
    let fault : Error → Type 0 = λ (e : Error). IsEitherFault c.args.self.now (g.F.FileSystem.disk c.args.files.now) (g.F.FileSystem.disk y) (g.F.FileSystem.is_bounded c.args.files.now) (g.F.FileSystem.meter c.args.files.now) (g.F.FileSystem.meter y) e in
    told_cause c.from_residual-in_err-with_found.result c.in_err-with_found.field-0.0 fault c.from_residual-in_err-with_found.ensures.1 (subst fault (sym c.in_err-with_found.ensures.cause) (Append, inr tt))

pub returns-in_err-with_found-clause-taken : goal.returns-in_err-with_found-clause-taken
returns-in_err-with_found-clause-taken g c =
    either_taken c.args.self.now (g.F.FileSystem.disk c.args.files.now) (g.F.FileSystem.disk c.open_both.new.files) (g.F.FileSystem.is_bounded c.args.files.now) (g.F.FileSystem.meter c.args.files.now) (g.F.FileSystem.meter c.open_both.new.files) c.from_residual-in_err-with_found.result
    (returns-in_err-with_found-clause-cause g c)

pub returns-clause-opened : goal.returns-clause-opened
returns-clause-opened g c = opened_as c.args.self.now (g.F.FileSystem.disk c.args.files.now) (g.F.FileSystem.disk c.open_both.new.files) c.in_ok-pipes.pipes c.with_found.new.pipes c.in_ok-with_found.ensures.append c.in_ok-with_found.ensures.rewrite c.in_ok-with_found.ensures.pipes.append c.in_ok-pipes.ensures.opened

pub returns-clause-replayed : goal.returns-clause-replayed
returns-clause-replayed g c =
    let all = c.in_ok-pipes.ensures.replayed c.new_target-machine.ensures in (
      all.0 ++ all.1,
      all.2,
      with_as c.args.self.now (g.F.FileSystem.disk c.args.files.now) (g.F.FileSystem.disk c.open_both.new.files) c.in_ok-pipes.pipes c.with_found.new.pipes c.in_ok-with_found.ensures.append c.in_ok-with_found.ensures.rewrite (all.0 ++ all.1)
          (with_both c.args.self.now c.first_queue-first.result (g.F.FileSystem.disk c.args.files.now) (g.F.FileSystem.disk c.open_both.new.files) c.in_ok-pipes.pipes all.0 all.1 c.first_queue-first.ensures all.3 all.4),
    )

pub returns-clause-reserved : goal.returns-clause-reserved
returns-clause-reserved g c =
    let opened = c.in_ok-pipes.ensures.opened.append in
    let d = g.F.FileSystem.disk c.open_both.new.files in
    let q = c.with_found.new.pipes.append in
    subst (λ (l : List Text). KeepsFound c.args.self.now Append l d q) opened.paths
    (subst (λ (x : LogQueue). KeepsFound c.args.self.now x (map string_bytes c.in_ok-pipes.pipes.append.paths.items) d q) opened.queue_is c.in_ok-with_found.ensures.reserved)

pub returns-clause-holes : goal.returns-clause-holes
returns-clause-holes g c = holes_as c.args.self.now (g.F.FileSystem.disk c.args.files.now) (g.F.FileSystem.disk c.open_both.new.files) c.in_ok-pipes.pipes c.with_found.new.pipes c.in_ok-with_found.ensures.append c.in_ok-with_found.ensures.rewrite (c.in_ok-pipes.ensures.holes c.new_target-machine.ensures)

pub returns-in_err-pipes-clause-pipes : goal.returns-in_err-pipes-clause-pipes
returns-in_err-pipes-clause-pipes g c = not_given _ _ c.from_residual.result c.from_residual.ensures.1

pub returns-in_err-pipes-clause-opened : goal.returns-in_err-pipes-clause-opened
returns-in_err-pipes-clause-opened g c = not_given _ _ c.from_residual.result c.from_residual.ensures.1

pub returns-in_err-pipes-clause-replayed : goal.returns-in_err-pipes-clause-replayed
returns-in_err-pipes-clause-replayed g c = not_given _ _ c.from_residual.result c.from_residual.ensures.1

pub returns-in_err-pipes-clause-reserved : goal.returns-in_err-pipes-clause-reserved
returns-in_err-pipes-clause-reserved g c = not_given _ _ c.from_residual.result c.from_residual.ensures.1

pub returns-in_err-pipes-clause-holes : goal.returns-in_err-pipes-clause-holes
returns-in_err-pipes-clause-holes g c = not_given _ _ c.from_residual.result c.from_residual.ensures.1

pub returns-in_err-pipes-clause-refused : goal.returns-in_err-pipes-clause-refused
returns-in_err-pipes-clause-refused g c = λ queue any. an_err _ c.from_residual.result c.from_residual.ensures.1

pub returns-in_err-with_found-clause-pipes : goal.returns-in_err-with_found-clause-pipes
returns-in_err-with_found-clause-pipes g c = not_given _ _ c.from_residual-in_err-with_found.result c.from_residual-in_err-with_found.ensures.1

pub returns-in_err-with_found-clause-opened : goal.returns-in_err-with_found-clause-opened
returns-in_err-with_found-clause-opened g c = not_given _ _ c.from_residual-in_err-with_found.result c.from_residual-in_err-with_found.ensures.1

pub returns-in_err-with_found-clause-replayed : goal.returns-in_err-with_found-clause-replayed
returns-in_err-with_found-clause-replayed g c = not_given _ _ c.from_residual-in_err-with_found.result c.from_residual-in_err-with_found.ensures.1

pub returns-in_err-with_found-clause-reserved : goal.returns-in_err-with_found-clause-reserved
returns-in_err-with_found-clause-reserved g c = not_given _ _ c.from_residual-in_err-with_found.result c.from_residual-in_err-with_found.ensures.1

pub returns-in_err-with_found-clause-holes : goal.returns-in_err-with_found-clause-holes
returns-in_err-with_found-clause-holes g c = not_given _ _ c.from_residual-in_err-with_found.result c.from_residual-in_err-with_found.ensures.1

pub returns-in_err-with_found-clause-refused : goal.returns-in_err-with_found-clause-refused
returns-in_err-with_found-clause-refused g c = λ queue any. an_err _ c.from_residual-in_err-with_found.result c.from_residual-in_err-with_found.ensures.1
