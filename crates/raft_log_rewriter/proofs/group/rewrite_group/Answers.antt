-- A group from its beginning to its end.
use Rattle.std.proofs.Common.{◌++◌, ◌∷◌, [], refl, sym, subst, ◌∙◌}
use Rattle.raft_log_disk.proofs.RefusalLemmas.{no_more_then}
use Rattle.raft_log_memtables.specs.MemTables.{content_in}
use Rattle.raft_log_files.specs.declared.error.Error.TheVariants.{EntryNotFound, Memory}
use Rattle.raft_log_records.specs.Batch.{payloads}
use Rattle.raft_log_traces.specs.GroupTraces.{traces_in}
use Rattle.raft_log_cleaner.proofs.Caused.{batch_cause, cause_then, refused, refused_then, told_as}
use Rattle.raft_log_rewriter.specs.Parts.{AreStoredNames, IsStoredRange}
use Rattle.raft_log_rewriter.specs.Parts.Stage.{between, entries_to, keys_to}
use Rattle.raft_log_rewriter.specs.Rewriting.{at}
use Rattle.raft_log_rewriter.proofs.Adding.{begin_added, content_there, group_skipped, group_whole, keys_next, names_seen}
use Rattle.raft_log_rewriter.proofs.Steps.{come_added, come_done, come_more, come_refused, come_seen, come_shifted, come_then, stopped, stopped_by}
use Rattle.raft_log_rewriter.proofs.group.rewrite_group.Goals as goal

pub returns-then-not-has_group-clause-goes_on : goal.returns-then-not-has_group-clause-goes_on
returns-then-not-has_group-clause-goes_on g c =
    let d = g.F.FileSystem.disk c.args.files.now in
    come_done tt (come_added d c.args.pipes.now c.args.log.now c.args.writer.now c.args.writer.now (at between) (λ groups. at between (groups ++ c.args.group ∷ []))
    (λ next groups content s. group_skipped d c.args.pipes.now c.args.log.now next groups content c.args.writer.now c.args.group s
    (sym (content_there d c.args.pipes.now c.args.log.now c.args.writer.now next c.args.group groups content s) ∙ sym c.has_group.ensures ∙ c.if-not-has_group.true)))

pub returns-in_err-range-clause-goes_on : goal.returns-in_err-range-clause-goes_on
returns-in_err-range-clause-goes_on g c =
    stopped_by _ (g.F.FileSystem.disk c.args.files.now) c.args.pipes.now c.args.log.now c.args.log.now c.args.writer.now c.args.writer.now (at between) (λ groups. at between (groups ++ c.args.group ∷ [])) c.from_residual.result c.from_residual.ensures.1

pub returns-in_err-names-clause-goes_on : goal.returns-in_err-names-clause-goes_on
returns-in_err-names-clause-goes_on g c =
    stopped_by _ (g.F.FileSystem.disk c.args.files.now) c.args.pipes.now c.args.log.now c.args.log.now c.args.writer.now c.args.writer.now (at between) (λ groups. at between (groups ++ c.args.group ∷ [])) c.from_residual-in_err-names.result c.from_residual-in_err-names.ensures.1

pub returns-in-Err-clause-goes_on : goal.returns-in-Err-clause-goes_on
returns-in-Err-clause-goes_on g c =
    stopped (g.F.FileSystem.disk c.args.files.now) c.args.pipes.now c.args.log.now c.args.log.now c.args.writer.now (record c.args.writer.now { batch = c.add_begin.new.batch }) (at between) (λ groups. at between (groups ++ c.args.group ∷ [])) c.of_record.result

pub rewrite_entries-requires-clause-rewriting : goal.rewrite_entries-requires-clause-rewriting
rewrite_entries-requires-clause-rewriting g c κs within =
    let d = g.F.FileSystem.disk c.args.files.now in
    let r = c.requires.rewriting in
    record {
      next = r.next;
      done = r.done;
      content = r.content;
      state = begin_added d c.args.pipes.now c.args.log.now r.next r.done r.content c.args.writer.now (record c.args.writer.now { batch = c.add_begin.new.batch }) c.args.group c.in_ok-range.range.0 r.state
          (sym (content_there d c.args.pipes.now c.args.log.now c.args.writer.now r.next c.args.group r.done r.content r.state) ∙ sym c.has_group.ensures ∙ c.if-not-has_group.false) c.in-Ok.ensures.added refl;
    }

pub rewrite_entries-requires-clause-range : goal.rewrite_entries-requires-clause-range
rewrite_entries-requires-clause-range g c κs within = c.in_ok-range.ensures.is

pub returns-in_err-rewrite_entries-clause-goes_on : goal.returns-in_err-rewrite_entries-clause-goes_on
returns-in_err-rewrite_entries-clause-goes_on g c =
    let d = g.F.FileSystem.disk c.args.files.now in
    let p = c.args.pipes.now in
    let log = c.args.log.now in
    let w = c.args.writer.now in
    let v = record c.args.writer.now { batch = c.add_begin.new.batch } in
    let first = c.in_ok-range.range.0 in
    come_refused c.from_residual-in_err-rewrite_entries.result c.in_err-rewrite_entries.field-0.0 c.from_residual-in_err-rewrite_entries.ensures.1
    (come_added d p log w v (at between) (at (entries_to c.args.group first first))
    (λ next groups content s. begin_added d p log next groups content w v c.args.group first s
    (sym (content_there d p log w next c.args.group groups content s) ∙ sym c.has_group.ensures ∙ c.if-not-has_group.false) c.in-Ok.ensures.added refl))
    c.in_err-rewrite_entries.ensures.goes_on

pub rewrite_keys-requires-after_bounds : goal.rewrite_keys-requires-after_bounds
rewrite_keys-requires-after_bounds g c κs within =
    let d = g.F.FileSystem.disk c.args.files.now in
    let e = g.F.FileSystem.disk c.rewrite_entries.new.files in
    let p = c.args.pipes.now in
    let log = c.args.log.now in
    let w = c.args.writer.now in
    let v = record c.args.writer.now { batch = c.add_begin.new.batch } in
    let r = c.requires.rewriting in
    let first = c.in_ok-range.range.0 in
    let stop = c.in_ok-range.range.1 in
    let begun = begin_added d p log r.next r.done r.content w v c.args.group first r.state
    (sym (content_there d p log w r.next c.args.group r.done r.content r.state) ∙ sym c.has_group.ensures ∙ c.if-not-has_group.false) c.in-Ok.ensures.added refl in (
      first,
      stop,
      record {
        next = r.next;
        done = r.done;
        content = r.content;
        state = keys_next e c.rewrite_entries.new.pipes c.rewrite_entries.new.log r.next r.done r.content c.rewrite_entries.new.writer c.args.group first stop (c.in_ok-rewrite_entries.ensures.goes_on.ok r.next r.done r.content begun);
      },
    )

pub returns-in_err-rewrite_keys-clause-goes_on : goal.returns-in_err-rewrite_keys-clause-goes_on
returns-in_err-rewrite_keys-clause-goes_on g c =
    let d = g.F.FileSystem.disk c.args.files.now in
    let e = g.F.FileSystem.disk c.rewrite_entries.new.files in
    let p = c.args.pipes.now in
    let log = c.args.log.now in
    let w = c.args.writer.now in
    let v = record c.args.writer.now { batch = c.add_begin.new.batch } in
    let first = c.in_ok-range.range.0 in
    let stop = c.in_ok-range.range.1 in
    come_refused c.from_residual-in_err-rewrite_keys.result c.in_err-rewrite_keys.field-0.0 c.from_residual-in_err-rewrite_keys.ensures.1
    (come_seen (come_more tt
    (come_added d p log w v (at between) (at (entries_to c.args.group first first))
    (λ next groups content s. begin_added d p log next groups content w v c.args.group first s
    (sym (content_there d p log w next c.args.group groups content s) ∙ sym c.has_group.ensures ∙ c.if-not-has_group.false) c.in-Ok.ensures.added refl))
    c.in_ok-rewrite_entries.ensures.goes_on)
    (λ next groups content s t. keys_next e c.rewrite_entries.new.pipes c.rewrite_entries.new.log next groups content c.rewrite_entries.new.writer c.args.group first stop t))
    (c.in_err-rewrite_keys.ensures.goes_on first stop)

pub returns-clause-goes_on : goal.returns-clause-goes_on
returns-clause-goes_on g c =
    let d = g.F.FileSystem.disk c.args.files.now in
    let e = g.F.FileSystem.disk c.rewrite_entries.new.files in
    let f = g.F.FileSystem.disk c.rewrite_keys.new.files in
    let p = c.args.pipes.now in
    let log = c.args.log.now in
    let w = c.args.writer.now in
    let v = record c.args.writer.now { batch = c.add_begin.new.batch } in
    let first = c.in_ok-range.range.0 in
    let stop = c.in_ok-range.range.1 in
    let same = c.in_ok-rewrite_keys.ensures.traces ∙ c.in_ok-rewrite_entries.ensures.traces in
    come_then c.end_group.result
    (come_seen {to = λ groups. at between (groups ++ c.args.group ∷ [])} (come_more tt
    (come_seen {to = at (keys_to c.args.group first stop [])} (come_more tt
    (come_added d p log w v (at between) (at (entries_to c.args.group first first))
    (λ next groups content s. begin_added d p log next groups content w v c.args.group first s
    (sym (content_there d p log w next c.args.group groups content s) ∙ sym c.has_group.ensures ∙ c.if-not-has_group.false) c.in-Ok.ensures.added refl))
    c.in_ok-rewrite_entries.ensures.goes_on)
    (λ next groups content s t. keys_next e c.rewrite_entries.new.pipes c.rewrite_entries.new.log next groups content c.rewrite_entries.new.writer c.args.group first stop t))
    (c.in_ok-rewrite_keys.ensures.goes_on first stop))
    (λ next groups content s t. group_whole f c.rewrite_keys.new.pipes c.rewrite_keys.new.log next groups content c.rewrite_keys.new.writer c.args.group first stop (payloads c.deref.result.now) t
    (subst (λ x. IsStoredRange (traces_in x c.args.group) first stop) (sym same) c.in_ok-range.ensures.is)
    (subst (λ x. AreStoredNames (traces_in x c.args.group) (content c.args.group).value (payloads c.deref.result.now)) (sym same)
    (names_seen d p log w next c.args.group groups content (traces_in log.traces c.args.group) (payloads c.deref.result.now) s
    (subst (λ l. AreStoredNames (traces_in log.traces c.args.group) (content_in log.tables c.args.group).value (payloads l)) (sym c.deref.ensures.value) c.in_ok-names.ensures)))))
    (come_shifted (c.args.group ∷ []) c.end_group.ensures.goes_on)

pub end_group-requires-after_bounds : goal.end_group-requires-after_bounds
end_group-requires-after_bounds g c κs within =
    let d = g.F.FileSystem.disk c.args.files.now in
    let e = g.F.FileSystem.disk c.rewrite_entries.new.files in
    let p = c.args.pipes.now in
    let log = c.args.log.now in
    let w = c.args.writer.now in
    let v = record c.args.writer.now { batch = c.add_begin.new.batch } in
    let r = c.requires.rewriting in
    let first = c.in_ok-range.range.0 in
    let stop = c.in_ok-range.range.1 in
    let begun = begin_added d p log r.next r.done r.content w v c.args.group first r.state
    (sym (content_there d p log w r.next c.args.group r.done r.content r.state) ∙ sym c.has_group.ensures ∙ c.if-not-has_group.false) c.in-Ok.ensures.added refl in
    ((c.in_ok-rewrite_keys.ensures.goes_on first stop).ok r.next r.done r.content
    (keys_next e c.rewrite_entries.new.pipes c.rewrite_entries.new.log r.next r.done r.content c.rewrite_entries.new.writer c.args.group first stop (c.in_ok-rewrite_entries.ensures.goes_on.ok r.next r.done r.content begun))).stands.pipes

pub returns-clause-later : goal.returns-clause-later
returns-clause-later g c = no_more_then (no_more_then c.in_ok-rewrite_entries.ensures.later c.in_ok-rewrite_keys.ensures.later) c.end_group.ensures.later

pub returns-in_err-rewrite_keys-clause-later : goal.returns-in_err-rewrite_keys-clause-later
returns-in_err-rewrite_keys-clause-later g c = no_more_then c.in_ok-rewrite_entries.ensures.later c.in_err-rewrite_keys.ensures.later

pub returns-in_err-range-clause-cause : goal.returns-in_err-range-clause-cause
returns-in_err-range-clause-cause g c =
    let meter = g.F.FileSystem.meter c.args.files.now in
    refused meter meter c.from_residual.result c.in_err-range.field-0.0 c.from_residual.ensures.1 (told_as meter meter c.in_err-range.field-0.0 EntryNotFound c.in_err-range.ensures.cause tt)

pub returns-in_err-names-clause-cause : goal.returns-in_err-names-clause-cause
returns-in_err-names-clause-cause g c =
    let meter = g.F.FileSystem.meter c.args.files.now in
    refused meter meter c.from_residual-in_err-names.result Memory c.from_residual-in_err-names.ensures.1 tt

pub returns-in-Err-clause-cause : goal.returns-in-Err-clause-cause
returns-in-Err-clause-cause g c =
    let meter = g.F.FileSystem.meter c.args.files.now in
    told_as meter meter c.of_record.result _ c.of_record.ensures (batch_cause meter meter c.in-Err.error c.in-Err.ensures.cause)

pub returns-in_err-rewrite_keys-clause-cause : goal.returns-in_err-rewrite_keys-clause-cause
returns-in_err-rewrite_keys-clause-cause g c =
    refused_then c.in_ok-rewrite_entries.ensures.later (g.F.FileSystem.meter c.rewrite_keys.new.files) c.from_residual-in_err-rewrite_keys.result c.in_err-rewrite_keys.field-0.0 c.from_residual-in_err-rewrite_keys.ensures.1 c.in_err-rewrite_keys.ensures.cause

pub returns-clause-cause : goal.returns-clause-cause
returns-clause-cause g c = cause_then (no_more_then c.in_ok-rewrite_entries.ensures.later c.in_ok-rewrite_keys.ensures.later) (g.F.FileSystem.meter c.end_group.new.files) c.end_group.result c.end_group.ensures.cause
