-- Entries of a group, in the batch.
use Rattle.std.proofs.Common.{◌≡◌, ◌⊎◌, ℕ, ◌+◌, ◌≤◌, List, None, length, refl, sym, ap, subst, ◌∙◌, arith, vec_len}
use Rattle.std.specs.Prelude.{IsSome}
use Rattle.std.proofs.lemmas.List.{length-map}
use Rattle.raft_log_files.specs.declared.error.Error.TheVariants.{EntryNotFound}
use Rattle.raft_log_records.specs.Batch.{payloads}
use Rattle.raft_log_memtables.specs.MemTables.{content_in}
use Rattle.raft_log_traces.specs.GroupTraces.{traces_in}
use Rattle.raft_log_purge.specs.Steps.{IsFrontOf}
use Rattle.raft_log_cleaner.proofs.Caused.{batch_cause, refused, told_as}
use Rattle.raft_log_cleaner.proofs.Chunks.{blocks_there, may_be_rewritten}
use Rattle.raft_log_cleaner.proofs.Going.{added, stopped, stopped_by}
use Rattle.raft_log_cleaner.proofs.entries.rewrite_chunk.Goals as goal

pub returns-then-not-is_marked : goal.returns-then-not-is_marked
returns-then-not-is_marked g c = record { goes_on = stopped (g.F.FileSystem.disk c.args.files.now) c.args.pipes.now c.args.log.now c.args.log.now c.args.writer.now.batch.items c.args.writer.now.batch.items EntryNotFound; cause = tt }

pub copies-requires-clause-blocks : goal.copies-requires-clause-blocks
copies-requires-clause-blocks g c κs within =
    blocks_there (g.F.FileSystem.disk c.args.files.now) c.args.pipes.now c.args.log.now c.args.writer.now.batch.items c.requires.cleaning.0 c.requires.cleaning.1 c.args.group

pub copies-requires-clause-there : goal.copies-requires-clause-there
copies-requires-clause-there g c κs within = c.is_marked.ensures.there c.if-not-is_marked.false

pub returns-in_err-entries : goal.returns-in_err-entries
returns-in_err-entries g c =
    let meter = g.F.FileSystem.meter c.args.files.now in
    record {
      goes_on = stopped_by _ (g.F.FileSystem.disk c.args.files.now) c.args.pipes.now c.args.log.now c.args.log.now c.args.writer.now.batch.items c.args.writer.now.batch.items c.from_residual.result c.from_residual.ensures.1;
      cause = refused meter meter c.from_residual.result c.in_err-entries.field-0.0 c.from_residual.ensures.1 c.in_err-entries.ensures.cause;
    }

pub returns-then-not-is_followed : goal.returns-then-not-is_followed
returns-then-not-is_followed g c = record { goes_on = stopped (g.F.FileSystem.disk c.args.files.now) c.args.pipes.now c.args.log.now c.args.log.now c.args.writer.now.batch.items c.args.writer.now.batch.items EntryNotFound; cause = tt }

pub returns-in-Err : goal.returns-in-Err
returns-in-Err g c = record {
  goes_on = stopped (g.F.FileSystem.disk c.args.files.now) c.args.pipes.now c.args.log.now (record c.args.log.now { traces = c.rewrite_entries.new.traces }) c.args.writer.now.batch.items c.rewrite_entries.new.batch.items c.of_record.result;
  cause =
      let meter = g.F.FileSystem.meter c.args.files.now in
      told_as meter meter c.of_record.result _ c.of_record.ensures (batch_cause meter meter c.in-Err.error c.in-Err.ensures.cause);
}

pub returns : goal.returns
returns g c =
    let d = g.F.FileSystem.disk c.args.files.now in
    let group = c.args.group in
    let begin = c.args.range.0 in
    let parts : List (List ℕ) = payloads c.in_ok-entries.entries.items in
    let count : vec_len c.in_ok-entries.entries ≡ length c.in_ok-entries.entries.items = omega arith in
    let len : c.len.result ≡ length parts = c.len.ensures ∙ count ∙ sym (length-map c.in_ok-entries.entries.items (λ v. v.items)) in
    record {
      goes_on = added d c.args.pipes.now c.args.log.now (record c.args.log.now { traces = c.rewrite_entries.new.traces }) c.args.writer.now.batch.items c.rewrite_entries.new.batch.items tt refl refl
          (λ content s.
          c.in-Ok.ensures.steps content
          (subst (λ l. IsFrontOf content (traces_in c.args.log.now.traces) group begin (payloads l)) (sym c.deref.ensures.value)
          (may_be_rewritten d c.args.pipes.now c.args.log.now c.args.writer.now.batch.items content s group begin c.args.range.1 parts c.in_ok-entries.ensures.copied
          (c.is_marked.ensures.there c.if-not-is_marked.false) (c.is_marked.ensures.not_cleaned c.if-not-is_marked.false) c.requires.below c.requires.above
          (subst (λ (n : ℕ). ((i : ℕ) → begin + n ≤ i → (content_in c.args.log.now.tables group).entry i ≡ None) ⊎ IsSome ((content_in c.args.log.now.tables group).entry (begin + n))) len (c.is_followed.ensures c.if-not-is_followed.false)))));
      cause = tt;
    }
