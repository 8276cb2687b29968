-- A record that is written.
use Rattle.std.proofs.Common.{◌≡◌, ℕ, List, [], ◌∷◌, ◌++◌, Option, None, refl, ap, subst, ◌∙◌}
use Rattle.raft_log_pipe.specs.Pipe.{first_of}
use Rattle.raft_log_records.specs.declared.item.LogItem.{LogItem}
use Rattle.raft_log_records.specs.Batch.{populated}
use Rattle.raft_log_records.specs.Batch as batch
use Rattle.raft_log_records.specs.Batch.Writing.{written}
use Rattle.raft_log_records.specs.Block.{StandsIn}
use Rattle.raft_log_records.specs.Item.{items_of, with_bytes, with_lengths}
use Rattle.raft_log_records.specs.Spelling.{block_of, lengths, spell_record}
use Rattle.raft_log_file.specs.Laws.{Batch}
use Rattle.raft_log_pipe.specs.Appending.{Appends, Stands}
use Rattle.raft_log_memtables.specs.MemTables.{content_in}
use Rattle.raft_log_recovery.proofs.LengthLemmas.{placed_lengths}
use Rattle.raft_log_traced.specs.Places.{items_moved}
use Rattle.raft_log_blocks.proofs.NewEntries.{block_fits}
use Rattle.raft_log_disk.specs.Cause.{Lacks}
use Rattle.raft_log_disk.proofs.RefusalLemmas.{no_more_same}
use Rattle.raft_log_cleaner.proofs.Going.{none_ok, when_err}
use Rattle.raft_log_cleaner.proofs.Keeping.{pipe_as_before, pipe_left, pipe_refused}
use Rattle.raft_log_cleaner.proofs.Caused.{pipe_cause, refused, told_as, written_cause}
use Rattle.raft_log_rewriter.specs.Standing.{WritesRecord}
use Rattle.raft_log_rewriter.proofs.Recording as recording
use Rattle.raft_log_rewriter.proofs.Steps.{record_failed}
use Rattle.raft_log_rewriter.proofs.writer.write_batch.Goals as goal

populated_items : (items : Batch) → (populated items).items ≡ items
populated_items [] = refl
populated_items (item ∷ items) = refl

populated_written : (items : Batch) → (items ≡ [] → ⊥) → (populated items).writing ≡ written None
populated_written [] some = absurd (some refl)
populated_written (item ∷ items) some = refl

pub returns-in-Err-clause-writes : goal.returns-in-Err-clause-writes
returns-in-Err-clause-writes g c = record_failed (g.F.FileSystem.disk c.args.files.now) c.args.pipes.now c.args.log.now c.args.log.now c.args.batch.now.items c.of_record.result

pub returns-in-Err-clause-later : goal.returns-in-Err-clause-later
returns-in-Err-clause-later g c = no_more_same _ _

pub append-requires-clause-populated : goal.append-requires-clause-populated
append-requires-clause-populated g c κs within = (None, ap (λ (b : batch.Batch). b.writing) c.in-Ok.ensures.ok ∙ populated_written c.args.batch.now.items c.requires.some)

pub place_of-place-requires : goal.place_of-place-requires
place_of-place-requires g c = block_fits c.finish_populate.new.self.items c.in_ok-written.written.offset c.entries_block-block.result c.entries_block-block.ensures c.in_ok-written.ensures.call.fits

pub returns-in_err-written-clause-writes : goal.returns-in_err-written-clause-writes
returns-in_err-written-clause-writes g c =
    let d = g.F.FileSystem.disk c.args.files.now in
    let e = g.F.FileSystem.disk c.append.new.files in
    let p = c.args.pipes.now in
    let q = c.append.new.self in
    let same : c.finish_populate.new.self.items ≡ c.args.batch.now.items = ap (λ (b : batch.Batch). b.items) c.in-Ok.ensures.ok ∙ populated_items c.args.batch.now.items in
    subst (λ (l : Batch). WritesRecord d c.args.pipes.now c.args.log.now l e c.append.new.self c.args.log.now c.from_residual.result) same (record {
      ok = λ next ws more content s m. none_ok _ _ c.from_residual.result c.from_residual.ensures.1;
      err = λ next ws more content s m. when_err c.from_residual.result
          (recording.refused d e c.args.pipes.now c.append.new.self c.args.log.now c.args.log.now c.finish_populate.new.self.items next ws more content s m (c.in_err-written.ensures.call.err (s.old ++ s.new) s.fresh s.rewrite) c.in_err-written.ensures.other);
      append = c.in_err-written.ensures.other;
      kept = none_ok _ _ c.from_residual.result c.from_residual.ensures.1;
      left = λ next ws more content s m. when_err c.from_residual.result (record {
        append = pipe_left p.append q.append d e s.appends [] (c.in_err-written.ensures.other.holds s.appends [] s.append) (pipe_as_before p.append q.append d e c.in_err-written.ensures.other);
        rewrite = pipe_refused p.rewrite q.rewrite d e (s.old ++ s.new) s.fresh s.rewrite c.in_err-written.ensures.set.1 c.in_err-written.ensures.call.paths c.in_err-written.ensures.call.nearly c.in_err-written.ensures.call.torn;
      });
    })

pub returns-clause-writes : goal.returns-clause-writes
returns-clause-writes g c =
    let d = g.F.FileSystem.disk c.args.files.now in
    let e = g.F.FileSystem.disk c.append.new.files in
    let p = c.args.pipes.now in
    let q = c.append.new.self in
    let h = c.in_ok-written.written in
    let call = c.in_ok-written.ensures.call in
    let drained = c.drain-items.result in
    let same : c.finish_populate.new.self.items ≡ c.args.batch.now.items = ap (λ (b : batch.Batch). b.items) c.in-Ok.ensures.ok ∙ populated_items c.args.batch.now.items in
    let later : c.append.new.batch.items ≡ c.args.batch.now.items = c.in_ok-written.ensures.batch ∙ same in
    record {
      ok = λ next ws more content s m.
          recording.written d e p q c.args.log.now c.set_places.new.self c.args.batch.now.items next ws more content s m (record {
            handle = h;
            place = c.place_of-place.result;
            block = c.entries_block-block.result;
            drained = drained;
            pipes = c.in_ok-written.ensures.both s.pipes;
            other = c.in_ok-written.ensures.other;
            files = call.files;
            appended = subst (λ (l : Batch). Appends p.rewrite d q.rewrite e h.id.seq l) same call.ok;
            at = subst (λ (l : Batch). Stands p.rewrite d q.rewrite l h) same call.stands;
            stands = subst (λ (l : Batch). (signature : Option ℕ) → StandsIn (spell_record signature l) l (block_of l) c.entries_block-block.result) same c.entries_block-block.ensures;
            is = c.place_of-place.ensures.is;
            id = c.place_of-place.ensures.id;
            bytes = subst (λ (l : Batch). with_bytes (block_of l) (items_of drained.items.items) ≡ l) later c.drain-items.ensures.items;
            lens = ap with_lengths c.drain-items.ensures.places ∙ placed_lengths 0 c.append.new.batch.items ∙ ap lengths later;
            moved = c.set_places.ensures.content ∙ ap (λ (l : List LogItem). items_moved c.place_of-place.result l (content_in c.args.log.now.tables)) c.deref.ensures.value;
            traces = c.set_places.ensures.traces;
            parted = c.set_places.ensures.parted;
          });
      err = λ next ws more content s m. tt;
      append = c.in_ok-written.ensures.other;
      kept = record {
        append = pipe_as_before p.append q.append d e c.in_ok-written.ensures.other;
        rewrite = record { set = c.in_ok-written.ensures.set.1; paths = call.paths; alone = call.alone };
        first = ap first_of c.in_ok-written.ensures.other.same;
        rewrites = call.first;
      };
      left = λ next ws more content s m. tt;
    }

pub returns-in-Err-clause-cause : goal.returns-in-Err-clause-cause
returns-in-Err-clause-cause g c =
    let meter = g.F.FileSystem.meter c.args.files.now in
    told_as meter meter c.of_record.result _ c.of_record.ensures (written_cause meter meter c.in-Err.error c.in-Err.ensures.err.0)

pub returns-in_err-written-clause-cause : goal.returns-in_err-written-clause-cause
returns-in_err-written-clause-cause g c =
    let old = g.F.FileSystem.meter c.args.files.now in
    let new = g.F.FileSystem.meter c.append.new.files in
    refused old new c.from_residual.result c.in_err-written.field-0.0 c.from_residual.ensures.1 (pipe_cause old new (Lacks 2 old new) _ _ (λ lacks. lacks) c.in_err-written.field-0.0 c.in_err-written.ensures.cause)
