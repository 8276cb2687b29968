-- Entries of a group, in the batch.
use Rattle.std.proofs.Common.{◌≡◌, ℕ, ◌+◌, ◌<◌, List, [], ◌∷◌, ◌++◌, length, refl, sym, ap, subst, ◌∙◌, arith, vec_len}
use Rattle.std.proofs.lemmas.List.{length-map}
use Rattle.std.specs.Prelude.{Err, Ok, Vec}
use Rattle.std.specs.declared.alloc.Global.{Global}
use Rattle.raft_log_records.specs.Batch.{payloads, run_of}
use Rattle.raft_log_purge.proofs.CausedLemmas.{run_cause}
use Rattle.raft_log_purge.proofs.StepLemmas.{logged_run}
use Rattle.raft_log_cleaner.proofs.Chunks.{blocks_there}
use Rattle.raft_log_cleaner.proofs.Going.{none_ok}
use Rattle.raft_log_cleaner.proofs.Caused.{batch_cause, refused, told_as}
use Rattle.raft_log_rewriter.specs.Parts.Stage.{entries_to}
use Rattle.raft_log_rewriter.specs.Rewriting.{IsRewriting, at}
use Rattle.raft_log_rewriter.proofs.Adding.{chunk_written, tables_there}
use Rattle.raft_log_rewriter.proofs.Recording.{as_cleaning}
use Rattle.raft_log_rewriter.proofs.Steps.{added, stopped, stopped_by}
use Rattle.raft_log_rewriter.proofs.group.add_chunk.Goals as goal

pub copies-requires-clause-pipes : goal.copies-requires-clause-pipes
copies-requires-clause-pipes g c κs within = c.requires.rewriting.1.state.stands.pipes

pub copies-requires-clause-blocks : goal.copies-requires-clause-blocks
copies-requires-clause-blocks g c κs within =
    let r = c.requires.rewriting.1 in
    λ index e there. blocks_there (g.F.FileSystem.disk c.args.files.now) c.args.pipes.now c.args.log.now _ r.content (as_cleaning (g.F.FileSystem.disk c.args.files.now) c.args.pipes.now c.args.log.now r.next _ r.content r.state.stands) c.args.group index e there

pub copies-requires-clause-there : goal.copies-requires-clause-there
copies-requires-clause-there g c κs within =
    let r = c.requires.rewriting.1 in
    tables_there (g.F.FileSystem.disk c.args.files.now) c.args.pipes.now c.args.log.now c.args.writer.now r.next c.args.group c.requires.rewriting.0 c.args.begin.now r.done r.content r.state

pub returns-in_err-entries : goal.returns-in_err-entries
returns-in_err-entries g c = let meter = g.F.FileSystem.meter c.args.files.now in record {
  goes_on = λ first. stopped_by _ (g.F.FileSystem.disk c.args.files.now) c.args.pipes.now c.args.log.now c.args.log.now c.args.writer.now c.args.writer.now (at (entries_to c.args.group first c.args.begin.now)) (at (entries_to c.args.group first c.args.begin.now))
      c.from_residual.result c.from_residual.ensures.1;
  further = none_ok _ _ c.from_residual.result c.from_residual.ensures.1;
  cause = refused meter meter c.from_residual.result c.in_err-entries.field-0.0 c.from_residual.ensures.1 c.in_err-entries.ensures.cause;
}

pub returns-in-Err : goal.returns-in-Err
returns-in-Err g c = let meter = g.F.FileSystem.meter c.args.files.now in record {
  goes_on = λ first. stopped (g.F.FileSystem.disk c.args.files.now) c.args.pipes.now c.args.log.now c.args.log.now c.args.writer.now (record c.args.writer.now { batch = c.add_raw_entries.new.self }) (at (entries_to c.args.group first c.args.begin.now)) (at (entries_to c.args.group first c.args.begin.now))
      c.of_record.result;
  further = tt;
  cause = told_as meter meter c.of_record.result _ c.of_record.ensures
      (batch_cause meter meter c.in-Err.error (run_cause c.args.writer.now.batch c.args.group c.args.begin.now (payloads c.deref.result.now) c.add_raw_entries.new.self (Err c.in-Err.error) c.in-Err.ensures));
}

pub returns : goal.returns
returns g c =
    let d = g.F.FileSystem.disk c.args.files.now in
    let entries = c.in_ok-entries.entries in
    let copies = c.in_ok-entries.ensures.copied in
    let count : vec_len c.in_ok-entries.entries ≡ length c.in_ok-entries.entries.items = omega arith in
    let len : length (payloads entries.items) ≡ c.len.result = length-map entries.items (λ v. v.items) ∙ sym count ∙ sym c.len.ensures in
    record {
      goes_on = λ first.
          let w = c.args.writer.now in
          let v = record c.args.writer.now { batch = c.add_raw_entries.new.self } in
          added d c.args.pipes.now c.args.log.now w v (at (entries_to c.args.group first c.args.begin.now)) (at (entries_to c.args.group first (c.args.begin.now + c.len.result))) tt
          (λ next groups content s.
          subst (λ (n : ℕ). IsRewriting d c.args.pipes.now c.args.log.now v next (at (entries_to c.args.group first (c.args.begin.now + n)) groups) content) len
          (chunk_written d c.args.pipes.now c.args.log.now next groups content w v c.args.group first c.args.begin.now c.args.stop (payloads entries.items) s copies c.requires.only
          (logged_run w.batch c.args.group c.args.begin.now (payloads c.deref.result.now) c.add_raw_entries.new.self (Ok c.in-Ok.field-0)
          (subst (λ (l : List (Vec ℕ Global)). 0 < length (payloads l)) (sym c.deref.ensures.value) copies.some) c.in-Ok.ensures
          ∙ ap (λ (l : List (Vec ℕ Global)). w.batch.items ++ run_of c.args.group c.args.begin.now (payloads l) ∷ []) c.deref.ensures.value) refl));
      further = (omega (arith, copies.some, len), omega (arith, copies.short, len));
      cause = tt;
    }
