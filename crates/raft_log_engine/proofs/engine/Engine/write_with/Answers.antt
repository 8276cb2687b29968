-- What a write leaves, exit by exit.
use Rattle.std.proofs.Common.{◌≡◌, ℕ, false, true, sym, ap, subst, ◌∙◌, inl, inr, refl}
use Rattle.std.proofs.lemmas.Bool.{false≢true}
use Rattle.std.specs.List.{list_any}
use Rattle.raft_log_records.specs.Item.{items_of, with_lengths}
use Rattle.raft_log_records.specs.Places.{placed}
use Rattle.raft_log_memtables.specs.MemTables.{content_in}
use Rattle.raft_log_memtables.specs.Taken.{TakesEach}
use Rattle.raft_log_records.specs.Spelling.{holds_mark}
use Rattle.raft_log_disk.proofs.CauseLemmas.{at_err}
use Rattle.raft_log_pipe.proofs.AloneLemmas.{nearly}
use Rattle.raft_log_recovery.proofs.LengthLemmas.{placed_lengths}
use Rattle.raft_log_memtables.specs.Content.{after_batch}
use Rattle.raft_log_blocks.specs.Held.{seen_on}
use Rattle.raft_log_engine.specs.Left.{answers_on}
use Rattle.raft_log_engine.specs.Since.{HasWritten}
use Rattle.raft_log_engine.proofs.Clauses.{HeldBy, agrees, done_blocks, done_from, done_kept, done_seen, done_written, failed, kept_by, others, parts, put_leaves, refused}
use Rattle.raft_log_engine.proofs.Reopened.{done_opens, failed_opens, refused_opens, stand_on}
use Rattle.raft_log_engine.proofs.Since.{failed_front, more_opens, more_written, no_batch, nothing_since, one_batch, refused_front, written_opens}
use Rattle.raft_log_engine.specs.Reopened.{directories_of_engine}
use Rattle.raft_log_engine.proofs.Synced.{either_opens, synced_agrees, synced_others, synced_refused, synced_written}
use Rattle.raft_log_blocks.proofs.HeldLemmas.{answered}
use Rattle.raft_log_blocks.proofs.NewEntries.{block_fits}
use Rattle.raft_log_engine.proofs.Tails.{held_in_tail, left_in_tail, more_in_tail, stands_in_tail}
use Rattle.raft_log_engine.proofs.Traced.{IsNoted}
use Rattle.raft_log_engine.proofs.Taken.{done_write, failed_write, refused_write, stopped_write, synced_write, unapplied_write}
use Rattle.raft_log_engine.proofs.Caused.{failed_cause, refused_cause, stopped_cause, synced_cause, unapplied_cause}
use Rattle.raft_log_engine.specs.Caused.{IsWriteFault}
use Rattle.raft_log_engine.specs.declared.fault.EngineFault.{EngineFault}
use Rattle.raft_log_pipe.proofs.CausedLemmas.{told_cause}
use Rattle.raft_log_engine.proofs.HearingLemmas.{append_heard, if_err, write_heard}
use Rattle.raft_log_pipe.proofs.EndLemmas.{not_given, not_ok}
use Rattle.raft_log_engine.proofs.engine.Engine.write_with.Goals as goal

pub returns-then-self-clause-opens_front : goal.returns-then-self-clause-opens_front
returns-then-self-clause-opens_front g c =
    let met = g.met.F.FileSystem g.world.𝓛 g.world.𝓜 g.world.𝓡 ((λ s x. x), (λ x. x), (λ x. x), λ x. x) in
    rw (← c.self.view_is) (λ before batches alone w. refused_front (g.F.FileSystem.disk) (parts c.self.inside.files c.self.inside.pipes c.self.inside.traced.tables c.self.inside.is_stopped c.self.inside.wrote_unsynced c.self.inside.blocks.reads c.self.inside.traced c.self.inside.manager.purge_threshold) before batches _ (met.is_named c.self.inside.files) alone w)

pub returns-then-is_empty-clause-answers : goal.returns-then-is_empty-clause-answers
returns-then-is_empty-clause-answers g c =
    rw (← c.self.view_is) (ap (λ l. after_batch l (answers_on (g.F.FileSystem.disk) (parts c.self.inside.files c.self.inside.pipes c.self.inside.traced.tables c.self.inside.is_stopped c.self.inside.wrote_unsynced c.self.inside.blocks.reads c.self.inside.traced c.self.inside.manager.purge_threshold))) (sym (c.is_empty.ensures.0 c.if-is_empty.true)))

pub returns-then-is_empty-clause-written : goal.returns-then-is_empty-clause-written
returns-then-is_empty-clause-written g c =
    rw (← c.self.view_is) (λ before batches w. subst (λ l. HasWritten (g.F.FileSystem.disk) (parts c.self.inside.files c.self.inside.pipes c.self.inside.traced.tables c.self.inside.is_stopped c.self.inside.wrote_unsynced c.self.inside.blocks.reads c.self.inside.traced c.self.inside.manager.purge_threshold) before l) (sym (no_batch c.args.batch.now.items batches (c.is_empty.ensures.0 c.if-is_empty.true))) w)

pub returns-then-is_empty-clause-opens_front : goal.returns-then-is_empty-clause-opens_front
returns-then-is_empty-clause-opens_front g c =
    let met = g.met.F.FileSystem g.world.𝓛 g.world.𝓜 g.world.𝓡 ((λ s x. x), (λ x. x), (λ x. x), λ x. x) in
    rw (← c.self.view_is) (λ before batches alone w. refused_front (g.F.FileSystem.disk) (parts c.self.inside.files c.self.inside.pipes c.self.inside.traced.tables c.self.inside.is_stopped c.self.inside.wrote_unsynced c.self.inside.blocks.reads c.self.inside.traced c.self.inside.manager.purge_threshold) before batches _ (met.is_named c.self.inside.files) alone w)

pub returns-in_err-len-clause-err : goal.returns-in_err-len-clause-err
returns-in_err-len-clause-err g c =
    rw (← c.self.view_is) (λ sound. at_err _ _ (refused (g.F.FileSystem.disk) (parts c.self.inside.files c.self.inside.pipes c.self.inside.traced.tables c.self.inside.is_stopped c.self.inside.wrote_unsynced c.self.inside.blocks.reads c.self.inside.traced c.self.inside.manager.purge_threshold) (kept_by (g.F.FileSystem.disk) (parts c.self.inside.files c.self.inside.pipes c.self.inside.traced.tables c.self.inside.is_stopped c.self.inside.wrote_unsynced c.self.inside.blocks.reads c.self.inside.traced c.self.inside.manager.purge_threshold) (c.self.invariant c.if-self.false).batches sound.synced) sound.synced c.args.batch.now.items))

pub returns-in_err-len-clause-opens_either : goal.returns-in_err-len-clause-opens_either
returns-in_err-len-clause-opens_either g c =
    let met = g.met.F.FileSystem g.world.𝓛 g.world.𝓜 g.world.𝓡 ((λ s x. x), (λ x. x), (λ x. x), λ x. x) in
    rw (← c.self.view_is) (λ sound alone. at_err _ _ (refused_opens (g.F.FileSystem.disk) (parts c.self.inside.files c.self.inside.pipes c.self.inside.traced.tables c.self.inside.is_stopped c.self.inside.wrote_unsynced c.self.inside.blocks.reads c.self.inside.traced c.self.inside.manager.purge_threshold) alone (kept_by (g.F.FileSystem.disk) (parts c.self.inside.files c.self.inside.pipes c.self.inside.traced.tables c.self.inside.is_stopped c.self.inside.wrote_unsynced c.self.inside.blocks.reads c.self.inside.traced c.self.inside.manager.purge_threshold) (c.self.invariant c.if-self.false).batches sound.synced) (met.is_named c.self.inside.files) c.args.batch.now.items))

pub returns-in_err-len-clause-opens_front : goal.returns-in_err-len-clause-opens_front
returns-in_err-len-clause-opens_front g c =
    let met = g.met.F.FileSystem g.world.𝓛 g.world.𝓜 g.world.𝓡 ((λ s x. x), (λ x. x), (λ x. x), λ x. x) in
    rw (← c.self.view_is) (λ before batches alone w. refused_front (g.F.FileSystem.disk) (parts c.self.inside.files c.self.inside.pipes c.self.inside.traced.tables c.self.inside.is_stopped c.self.inside.wrote_unsynced c.self.inside.blocks.reads c.self.inside.traced c.self.inside.manager.purge_threshold) before batches _ (met.is_named c.self.inside.files) alone w)

pub returns-in-Err-clause-err : goal.returns-in-Err-clause-err
returns-in-Err-clause-err g c =
    let same : c.prepare.new.batch.items ≡ c.args.batch.now.items = c.in_ok-len.ensures.same in
    let plain : list_any holds_mark c.prepare.new.batch.items ≡ false = ap (list_any holds_mark) same ∙ c.in_ok-len.ensures.plain in
    rw (← c.self.view_is, ← same) (λ sound. failed (g.F.FileSystem.disk) (parts c.self.inside.files c.self.inside.pipes c.self.inside.traced.tables c.self.inside.is_stopped c.self.inside.wrote_unsynced c.self.inside.blocks.reads c.self.inside.traced c.self.inside.manager.purge_threshold) (kept_by (g.F.FileSystem.disk) (parts c.self.inside.files c.self.inside.pipes c.self.inside.traced.tables c.self.inside.is_stopped c.self.inside.wrote_unsynced c.self.inside.blocks.reads c.self.inside.traced c.self.inside.manager.purge_threshold) (c.self.invariant c.if-self.false).batches sound.synced) sound.synced c.append_batch.new.files c.append_batch.new.pipes c.self.inside.traced.tables c.self.inside.traced c.self.inside.manager.purge_threshold (seen_on (g.F.FileSystem.disk c.append_batch.new.files) c.append_batch.new.pipes c.self.inside.traced.tables) c.prepare.new.batch.items plain c.in-Err.ensures.other c.in-Err.ensures.err)

pub returns-in-Err-clause-others : goal.returns-in-Err-clause-others
returns-in-Err-clause-others g c =
    let same : c.prepare.new.batch.items ≡ c.args.batch.now.items = c.in_ok-len.ensures.same in
    let plain : list_any holds_mark c.prepare.new.batch.items ≡ false = ap (list_any holds_mark) same ∙ c.in_ok-len.ensures.plain in
    rw (← c.self.view_is, ← same) (λ synced. others (g.F.FileSystem.disk) (parts c.self.inside.files c.self.inside.pipes c.self.inside.traced.tables c.self.inside.is_stopped c.self.inside.wrote_unsynced c.self.inside.blocks.reads c.self.inside.traced c.self.inside.manager.purge_threshold) (c.self.invariant c.if-self.false).batches c.if-self.false c.prepare.new.batch.items _ (λ all. (failed (g.F.FileSystem.disk) (parts c.self.inside.files c.self.inside.pipes c.self.inside.traced.tables c.self.inside.is_stopped c.self.inside.wrote_unsynced c.self.inside.blocks.reads c.self.inside.traced c.self.inside.manager.purge_threshold) (kept_by (g.F.FileSystem.disk) (parts c.self.inside.files c.self.inside.pipes c.self.inside.traced.tables c.self.inside.is_stopped c.self.inside.wrote_unsynced c.self.inside.blocks.reads c.self.inside.traced c.self.inside.manager.purge_threshold) (c.self.invariant c.if-self.false).batches all) all c.append_batch.new.files c.append_batch.new.pipes c.self.inside.traced.tables c.self.inside.traced c.self.inside.manager.purge_threshold (seen_on (g.F.FileSystem.disk c.append_batch.new.files) c.append_batch.new.pipes c.self.inside.traced.tables) c.prepare.new.batch.items plain c.in-Err.ensures.other c.in-Err.ensures.err).leaves_either))

pub returns-in-Err-clause-opens_either : goal.returns-in-Err-clause-opens_either
returns-in-Err-clause-opens_either g c =
    let met = g.met.F.FileSystem g.world.𝓛 g.world.𝓜 g.world.𝓡 ((λ s x. x), (λ x. x), (λ x. x), λ x. x) in
    let same : c.prepare.new.batch.items ≡ c.args.batch.now.items = c.in_ok-len.ensures.same in
    let plain : list_any holds_mark c.prepare.new.batch.items ≡ false = ap (list_any holds_mark) same ∙ c.in_ok-len.ensures.plain in
    rw (← c.self.view_is, ← same) (λ sound alone. failed_opens (g.F.FileSystem.disk) (parts c.self.inside.files c.self.inside.pipes c.self.inside.traced.tables c.self.inside.is_stopped c.self.inside.wrote_unsynced c.self.inside.blocks.reads c.self.inside.traced c.self.inside.manager.purge_threshold) alone (kept_by (g.F.FileSystem.disk) (parts c.self.inside.files c.self.inside.pipes c.self.inside.traced.tables c.self.inside.is_stopped c.self.inside.wrote_unsynced c.self.inside.blocks.reads c.self.inside.traced c.self.inside.manager.purge_threshold) (c.self.invariant c.if-self.false).batches sound.synced) c.append_batch.new.files c.append_batch.new.pipes c.prepare.new.batch.items (met.is_named c.append_batch.new.files) (record { paths = c.in-Err.ensures.paths; other = c.in-Err.ensures.other }) c.in-Err.ensures.nearly plain c.in-Err.ensures.err)

pub returns-in-Err-clause-opens_front : goal.returns-in-Err-clause-opens_front
returns-in-Err-clause-opens_front g c =
    let met = g.met.F.FileSystem g.world.𝓛 g.world.𝓜 g.world.𝓡 ((λ s x. x), (λ x. x), (λ x. x), λ x. x) in
    let same : c.prepare.new.batch.items ≡ c.args.batch.now.items = c.in_ok-len.ensures.same in
    let plain : list_any holds_mark c.prepare.new.batch.items ≡ false = ap (list_any holds_mark) same ∙ c.in_ok-len.ensures.plain in
    let some = one_batch c.prepare.new.batch.items (λ none. false≢true (sym c.if-is_empty.false ∙ c.is_empty.ensures.1 (sym same ∙ none))) in
    rw (← c.self.view_is, ← same, some) (λ before batches alone w. failed_front (g.F.FileSystem.disk) (parts c.self.inside.files c.self.inside.pipes c.self.inside.traced.tables c.self.inside.is_stopped c.self.inside.wrote_unsynced c.self.inside.blocks.reads c.self.inside.traced c.self.inside.manager.purge_threshold) c.append_batch.new.files c.append_batch.new.pipes c.prepare.new.batch.items before batches (met.is_named c.append_batch.new.files) (record { paths = c.in-Err.ensures.paths; other = c.in-Err.ensures.other }) c.in-Err.ensures.nearly plain c.in-Err.ensures.err alone w)

pub returns-in-Err-apply-clause-err : goal.returns-in-Err-apply-clause-err
returns-in-Err-apply-clause-err g c =
    let same : c.prepare.new.batch.items ≡ c.args.batch.now.items = c.in_ok-len.ensures.same in
    let plain : list_any holds_mark c.prepare.new.batch.items ≡ false = ap (list_any holds_mark) same ∙ c.in_ok-len.ensures.plain in
    rw (← c.self.view_is, ← same) (λ sound. failed (g.F.FileSystem.disk) (parts c.self.inside.files c.self.inside.pipes c.self.inside.traced.tables c.self.inside.is_stopped c.self.inside.wrote_unsynced c.self.inside.blocks.reads c.self.inside.traced c.self.inside.manager.purge_threshold) (kept_by (g.F.FileSystem.disk) (parts c.self.inside.files c.self.inside.pipes c.self.inside.traced.tables c.self.inside.is_stopped c.self.inside.wrote_unsynced c.self.inside.blocks.reads c.self.inside.traced c.self.inside.manager.purge_threshold) (c.self.invariant c.if-self.false).batches sound.synced) sound.synced c.append_batch.new.files c.append_batch.new.pipes c.apply.new.traced.tables c.apply.new.traced c.self.inside.manager.purge_threshold (seen_on (g.F.FileSystem.disk c.append_batch.new.files) c.append_batch.new.pipes c.apply.new.traced.tables) c.prepare.new.batch.items plain c.in-Ok.ensures.other (put_leaves (g.F.FileSystem.disk) (parts c.self.inside.files c.self.inside.pipes c.self.inside.traced.tables c.self.inside.is_stopped c.self.inside.wrote_unsynced c.self.inside.blocks.reads c.self.inside.traced c.self.inside.manager.purge_threshold) c.append_batch.new.files c.append_batch.new.pipes c.args.sync c.in-Ok.written.id.seq c.prepare.new.batch.items c.in-Ok.ensures.ok))

pub returns-in-Err-apply-clause-others : goal.returns-in-Err-apply-clause-others
returns-in-Err-apply-clause-others g c =
    let same : c.prepare.new.batch.items ≡ c.args.batch.now.items = c.in_ok-len.ensures.same in
    let plain : list_any holds_mark c.prepare.new.batch.items ≡ false = ap (list_any holds_mark) same ∙ c.in_ok-len.ensures.plain in
    rw (← c.self.view_is, ← same) (λ synced. others (g.F.FileSystem.disk) (parts c.self.inside.files c.self.inside.pipes c.self.inside.traced.tables c.self.inside.is_stopped c.self.inside.wrote_unsynced c.self.inside.blocks.reads c.self.inside.traced c.self.inside.manager.purge_threshold) (c.self.invariant c.if-self.false).batches c.if-self.false c.prepare.new.batch.items _ (λ all. (failed (g.F.FileSystem.disk) (parts c.self.inside.files c.self.inside.pipes c.self.inside.traced.tables c.self.inside.is_stopped c.self.inside.wrote_unsynced c.self.inside.blocks.reads c.self.inside.traced c.self.inside.manager.purge_threshold) (kept_by (g.F.FileSystem.disk) (parts c.self.inside.files c.self.inside.pipes c.self.inside.traced.tables c.self.inside.is_stopped c.self.inside.wrote_unsynced c.self.inside.blocks.reads c.self.inside.traced c.self.inside.manager.purge_threshold) (c.self.invariant c.if-self.false).batches all) all c.append_batch.new.files c.append_batch.new.pipes c.apply.new.traced.tables c.apply.new.traced c.self.inside.manager.purge_threshold (seen_on (g.F.FileSystem.disk c.append_batch.new.files) c.append_batch.new.pipes c.apply.new.traced.tables) c.prepare.new.batch.items plain c.in-Ok.ensures.other (put_leaves (g.F.FileSystem.disk) (parts c.self.inside.files c.self.inside.pipes c.self.inside.traced.tables c.self.inside.is_stopped c.self.inside.wrote_unsynced c.self.inside.blocks.reads c.self.inside.traced c.self.inside.manager.purge_threshold) c.append_batch.new.files c.append_batch.new.pipes c.args.sync c.in-Ok.written.id.seq c.prepare.new.batch.items c.in-Ok.ensures.ok)).leaves_either))

pub returns-in-Err-apply-clause-opens_either : goal.returns-in-Err-apply-clause-opens_either
returns-in-Err-apply-clause-opens_either g c =
    let met = g.met.F.FileSystem g.world.𝓛 g.world.𝓜 g.world.𝓡 ((λ s x. x), (λ x. x), (λ x. x), λ x. x) in
    let same : c.prepare.new.batch.items ≡ c.args.batch.now.items = c.in_ok-len.ensures.same in
    let plain : list_any holds_mark c.prepare.new.batch.items ≡ false = ap (list_any holds_mark) same ∙ c.in_ok-len.ensures.plain in
    rw (← c.self.view_is, ← same) (λ sound alone. failed_opens (g.F.FileSystem.disk) (parts c.self.inside.files c.self.inside.pipes c.self.inside.traced.tables c.self.inside.is_stopped c.self.inside.wrote_unsynced c.self.inside.blocks.reads c.self.inside.traced c.self.inside.manager.purge_threshold) alone (kept_by (g.F.FileSystem.disk) (parts c.self.inside.files c.self.inside.pipes c.self.inside.traced.tables c.self.inside.is_stopped c.self.inside.wrote_unsynced c.self.inside.blocks.reads c.self.inside.traced c.self.inside.manager.purge_threshold) (c.self.invariant c.if-self.false).batches sound.synced) c.append_batch.new.files c.append_batch.new.pipes c.prepare.new.batch.items (met.is_named c.append_batch.new.files) (record { paths = c.in-Ok.ensures.paths; other = c.in-Ok.ensures.other }) (λ alone. nearly c.append_batch.new.pipes.append (g.F.FileSystem.disk c.append_batch.new.files) (c.in-Ok.ensures.alone alone)) plain (put_leaves (g.F.FileSystem.disk) (parts c.self.inside.files c.self.inside.pipes c.self.inside.traced.tables c.self.inside.is_stopped c.self.inside.wrote_unsynced c.self.inside.blocks.reads c.self.inside.traced c.self.inside.manager.purge_threshold) c.append_batch.new.files c.append_batch.new.pipes c.args.sync c.in-Ok.written.id.seq c.prepare.new.batch.items c.in-Ok.ensures.ok))

pub returns-in-Err-apply-clause-opens_front : goal.returns-in-Err-apply-clause-opens_front
returns-in-Err-apply-clause-opens_front g c =
    let met = g.met.F.FileSystem g.world.𝓛 g.world.𝓜 g.world.𝓡 ((λ s x. x), (λ x. x), (λ x. x), λ x. x) in
    let same : c.prepare.new.batch.items ≡ c.args.batch.now.items = c.in_ok-len.ensures.same in
    let plain : list_any holds_mark c.prepare.new.batch.items ≡ false = ap (list_any holds_mark) same ∙ c.in_ok-len.ensures.plain in
    let some = one_batch c.prepare.new.batch.items (λ none. false≢true (sym c.if-is_empty.false ∙ c.is_empty.ensures.1 (sym same ∙ none))) in
    rw (← c.self.view_is, ← same, some) (λ before batches alone w. failed_front (g.F.FileSystem.disk) (parts c.self.inside.files c.self.inside.pipes c.self.inside.traced.tables c.self.inside.is_stopped c.self.inside.wrote_unsynced c.self.inside.blocks.reads c.self.inside.traced c.self.inside.manager.purge_threshold) c.append_batch.new.files c.append_batch.new.pipes c.prepare.new.batch.items before batches (met.is_named c.append_batch.new.files) (record { paths = c.in-Ok.ensures.paths; other = c.in-Ok.ensures.other }) (λ alone. nearly c.append_batch.new.pipes.append (g.F.FileSystem.disk c.append_batch.new.files) (c.in-Ok.ensures.alone alone)) plain (put_leaves (g.F.FileSystem.disk) (parts c.self.inside.files c.self.inside.pipes c.self.inside.traced.tables c.self.inside.is_stopped c.self.inside.wrote_unsynced c.self.inside.blocks.reads c.self.inside.traced c.self.inside.manager.purge_threshold) c.append_batch.new.files c.append_batch.new.pipes c.args.sync c.in-Ok.written.id.seq c.prepare.new.batch.items c.in-Ok.ensures.ok) alone w)

pub invariant_of-self-2 : goal.invariant_of-self-2
invariant_of-self-2 g c =
    let same : c.prepare.new.batch.items ≡ c.args.batch.now.items = c.in_ok-len.ensures.same in
    let plain : list_any holds_mark c.prepare.new.batch.items ≡ false = ap (list_any holds_mark) same ∙ c.in_ok-len.ensures.plain in
    let done = done_from (g.F.FileSystem.disk) (parts c.self.inside.files c.self.inside.pipes c.self.inside.traced.tables c.self.inside.is_stopped c.self.inside.wrote_unsynced c.self.inside.blocks.reads c.self.inside.traced c.self.inside.manager.purge_threshold) c.append_batch.new.files c.append_batch.new.pipes c.apply.new.traced.tables c.args.sync c.prepare.new.batch.items c.append_batch.new.batch.items c.in-Ok.written
    c.entries_block-block.result c.drain-items.result (sym c.in-Ok.ensures.batch) (ap (list_any holds_mark) c.in-Ok.ensures.batch ∙ plain) c.in-Ok.ensures.pipes c.in-Ok.ensures.files c.in-Ok.ensures.other c.in-Ok.ensures.ok c.in-Ok.ensures.stands c.entries_block-block.ensures c.in_default.ensures.ok c.drain-items.ensures.items (ap with_lengths c.drain-items.ensures.places ∙ placed_lengths 0 c.append_batch.new.batch.items) in
    let noted : IsNoted c.self.inside.traced c.apply.new.traced c.in-Ok.written c.prepare.new.batch.items =
    record {
      taken = subst (λ l. TakesEach (placed 0 l) (content_in c.self.inside.traced.tables)) (sym same) c.in_ok-len.ensures.taken;
      each = c.in_ok-len.ensures.items;
      plain = plain;
      drained = items_of c.drain-items.result.items.items;
      read = done.read;
      lengths_are = done.lengths_are;
      place = done.place;
      named = done.named;
      applied = done.applied;
      traces = c.in_default.ensures.traces;
      marked = c.in_default.ensures.marked;
      parted = c.in_default.ensures.parted;
    } in
    λ goes_on. done_blocks (g.F.FileSystem.disk) (parts c.self.inside.files c.self.inside.pipes c.self.inside.traced.tables c.self.inside.is_stopped c.self.inside.wrote_unsynced c.self.inside.blocks.reads c.self.inside.traced c.self.inside.manager.purge_threshold) c.append_batch.new.files c.append_batch.new.pipes c.apply.new.traced.tables c.args.sync c.prepare.new.batch.items c.in-Ok.written c.entries_block-block.result c.drain-items.result done c.self.inside.traced.traces c.apply.new.traced.traces c.self.inside.traced.has_marked c.apply.new.traced.has_marked c.self.inside.traced.is_parted c.apply.new.traced.is_parted c.self.inside.traced.written c.apply.new.traced.written c.self.inside.blocks (c.self.invariant c.if-self.false) noted c.skips_sync-self-inside.result c.skips_sync-self-inside.ensures.none

pub returns-clause-answers : goal.returns-clause-answers
returns-clause-answers g c =
    let same : c.prepare.new.batch.items ≡ c.args.batch.now.items = c.in_ok-len.ensures.same in
    let plain : list_any holds_mark c.prepare.new.batch.items ≡ false = ap (list_any holds_mark) same ∙ c.in_ok-len.ensures.plain in
    let done = done_from (g.F.FileSystem.disk) (parts c.self.inside.files c.self.inside.pipes c.self.inside.traced.tables c.self.inside.is_stopped c.self.inside.wrote_unsynced c.self.inside.blocks.reads c.self.inside.traced c.self.inside.manager.purge_threshold) c.append_batch.new.files c.append_batch.new.pipes c.apply.new.traced.tables c.args.sync c.prepare.new.batch.items c.append_batch.new.batch.items c.in-Ok.written
    c.entries_block-block.result c.drain-items.result (sym c.in-Ok.ensures.batch) (ap (list_any holds_mark) c.in-Ok.ensures.batch ∙ plain) c.in-Ok.ensures.pipes c.in-Ok.ensures.files c.in-Ok.ensures.other c.in-Ok.ensures.ok c.in-Ok.ensures.stands c.entries_block-block.ensures c.in_default.ensures.ok c.drain-items.ensures.items (ap with_lengths c.drain-items.ensures.places ∙ placed_lengths 0 c.append_batch.new.batch.items) in
    rw (← c.self.view_is, ← same) (done_seen (g.F.FileSystem.disk) (parts c.self.inside.files c.self.inside.pipes c.self.inside.traced.tables c.self.inside.is_stopped c.self.inside.wrote_unsynced c.self.inside.blocks.reads c.self.inside.traced c.self.inside.manager.purge_threshold) c.append_batch.new.files c.append_batch.new.pipes c.apply.new.traced.tables c.args.sync c.prepare.new.batch.items c.in-Ok.written c.entries_block-block.result c.drain-items.result done (c.self.invariant c.if-self.false).batches)

pub returns-clause-ok : goal.returns-clause-ok
returns-clause-ok g c =
    let same : c.prepare.new.batch.items ≡ c.args.batch.now.items = c.in_ok-len.ensures.same in
    let plain : list_any holds_mark c.prepare.new.batch.items ≡ false = ap (list_any holds_mark) same ∙ c.in_ok-len.ensures.plain in
    let done = done_from (g.F.FileSystem.disk) (parts c.self.inside.files c.self.inside.pipes c.self.inside.traced.tables c.self.inside.is_stopped c.self.inside.wrote_unsynced c.self.inside.blocks.reads c.self.inside.traced c.self.inside.manager.purge_threshold) c.append_batch.new.files c.append_batch.new.pipes c.apply.new.traced.tables c.args.sync c.prepare.new.batch.items c.append_batch.new.batch.items c.in-Ok.written
    c.entries_block-block.result c.drain-items.result (sym c.in-Ok.ensures.batch) (ap (list_any holds_mark) c.in-Ok.ensures.batch ∙ plain) c.in-Ok.ensures.pipes c.in-Ok.ensures.files c.in-Ok.ensures.other c.in-Ok.ensures.ok c.in-Ok.ensures.stands c.entries_block-block.ensures c.in_default.ensures.ok c.drain-items.ensures.items (ap with_lengths c.drain-items.ensures.places ∙ placed_lengths 0 c.append_batch.new.batch.items) in
    rw (← c.self.view_is, ← same) (λ sound synced. done_written (g.F.FileSystem.disk) (parts c.self.inside.files c.self.inside.pipes c.self.inside.traced.tables c.self.inside.is_stopped c.self.inside.wrote_unsynced c.self.inside.blocks.reads c.self.inside.traced c.self.inside.manager.purge_threshold) c.append_batch.new.files c.append_batch.new.pipes c.apply.new.traced.tables c.args.sync c.prepare.new.batch.items c.in-Ok.written c.entries_block-block.result c.drain-items.result done (c.self.invariant c.if-self.false).batches synced c.self.inside.is_stopped c.skips_sync-self-inside.result (c.skips_sync-self-inside.ensures.synced synced ∙ sound.synced))

pub returns-clause-sound : goal.returns-clause-sound
returns-clause-sound g c =
    rw (← c.self.view_is) (λ sound synced. record { goes_on = sound.goes_on; synced = c.skips_sync-self-inside.ensures.synced synced ∙ sound.synced })

pub returns-clause-alone : goal.returns-clause-alone
returns-clause-alone g c =
    rw (← c.self.view_is) (λ alone. stand_on c.self.inside.pipes c.append_batch.new.pipes (g.F.FileSystem.disk c.self.inside.files) (g.F.FileSystem.disk c.append_batch.new.files) (record { paths = c.in-Ok.ensures.paths; other = c.in-Ok.ensures.other }) alone (c.in-Ok.ensures.alone alone.append))

pub returns-clause-opens : goal.returns-clause-opens
returns-clause-opens g c =
    let met = g.met.F.FileSystem g.world.𝓛 g.world.𝓜 g.world.𝓡 ((λ s x. x), (λ x. x), (λ x. x), λ x. x) in
    let same : c.prepare.new.batch.items ≡ c.args.batch.now.items = c.in_ok-len.ensures.same in
    let plain : list_any holds_mark c.prepare.new.batch.items ≡ false = ap (list_any holds_mark) same ∙ c.in_ok-len.ensures.plain in
    let done = done_from (g.F.FileSystem.disk) (parts c.self.inside.files c.self.inside.pipes c.self.inside.traced.tables c.self.inside.is_stopped c.self.inside.wrote_unsynced c.self.inside.blocks.reads c.self.inside.traced c.self.inside.manager.purge_threshold) c.append_batch.new.files c.append_batch.new.pipes c.apply.new.traced.tables c.args.sync c.prepare.new.batch.items c.append_batch.new.batch.items c.in-Ok.written
    c.entries_block-block.result c.drain-items.result (sym c.in-Ok.ensures.batch) (ap (list_any holds_mark) c.in-Ok.ensures.batch ∙ plain) c.in-Ok.ensures.pipes c.in-Ok.ensures.files c.in-Ok.ensures.other c.in-Ok.ensures.ok c.in-Ok.ensures.stands c.entries_block-block.ensures c.in_default.ensures.ok c.drain-items.ensures.items (ap with_lengths c.drain-items.ensures.places ∙ placed_lengths 0 c.append_batch.new.batch.items) in
    rw (← c.self.view_is) (λ alone synced. done_opens (g.F.FileSystem.disk) (parts c.self.inside.files c.self.inside.pipes c.self.inside.traced.tables c.self.inside.is_stopped c.self.inside.wrote_unsynced c.self.inside.blocks.reads c.self.inside.traced c.self.inside.manager.purge_threshold) alone (c.self.invariant c.if-self.false).batches c.append_batch.new.files c.append_batch.new.pipes c.apply.new.traced.tables c.args.sync c.prepare.new.batch.items c.in-Ok.written
    c.entries_block-block.result c.drain-items.result (met.is_named c.append_batch.new.files) (stand_on c.self.inside.pipes c.append_batch.new.pipes (g.F.FileSystem.disk c.self.inside.files) (g.F.FileSystem.disk c.append_batch.new.files) (record { paths = c.in-Ok.ensures.paths; other = c.in-Ok.ensures.other }) alone (c.in-Ok.ensures.alone alone.append)) done synced)

pub returns-clause-written : goal.returns-clause-written
returns-clause-written g c =
    let same : c.prepare.new.batch.items ≡ c.args.batch.now.items = c.in_ok-len.ensures.same in
    let plain : list_any holds_mark c.prepare.new.batch.items ≡ false = ap (list_any holds_mark) same ∙ c.in_ok-len.ensures.plain in
    let some = one_batch c.prepare.new.batch.items (λ none. false≢true (sym c.if-is_empty.false ∙ c.is_empty.ensures.1 (sym same ∙ none))) in
    rw (← c.self.view_is, ← same, some) (λ before batches w. more_written (g.F.FileSystem.disk) (parts c.self.inside.files c.self.inside.pipes c.self.inside.traced.tables c.self.inside.is_stopped c.self.inside.wrote_unsynced c.self.inside.blocks.reads c.self.inside.traced c.self.inside.manager.purge_threshold) (parts c.append_batch.new.files c.append_batch.new.pipes c.apply.new.traced.tables c.self.inside.is_stopped c.skips_sync-self-inside.result c.self.inside.blocks.reads c.apply.new.traced c.self.inside.manager.purge_threshold) c.args.sync before batches c.in-Ok.written.id.seq c.prepare.new.batch.items c.in-Ok.ensures.other c.in-Ok.ensures.ok plain w)

pub returns-clause-opens_front : goal.returns-clause-opens_front
returns-clause-opens_front g c =
    let met = g.met.F.FileSystem g.world.𝓛 g.world.𝓜 g.world.𝓡 ((λ s x. x), (λ x. x), (λ x. x), λ x. x) in
    let same : c.prepare.new.batch.items ≡ c.args.batch.now.items = c.in_ok-len.ensures.same in
    let plain : list_any holds_mark c.prepare.new.batch.items ≡ false = ap (list_any holds_mark) same ∙ c.in_ok-len.ensures.plain in
    let some = one_batch c.prepare.new.batch.items (λ none. false≢true (sym c.if-is_empty.false ∙ c.is_empty.ensures.1 (sym same ∙ none))) in
    rw (← c.self.view_is, ← same, some) (λ before batches alone w. written_opens (g.F.FileSystem.disk) (parts c.append_batch.new.files c.append_batch.new.pipes c.apply.new.traced.tables c.self.inside.is_stopped c.skips_sync-self-inside.result c.self.inside.blocks.reads c.apply.new.traced c.self.inside.manager.purge_threshold) before _ (met.is_named c.append_batch.new.files)
    (stand_on c.self.inside.pipes c.append_batch.new.pipes (g.F.FileSystem.disk c.self.inside.files) (g.F.FileSystem.disk c.append_batch.new.files) (record { paths = c.in-Ok.ensures.paths; other = c.in-Ok.ensures.other }) alone (c.in-Ok.ensures.alone alone.append))
    (more_written (g.F.FileSystem.disk) (parts c.self.inside.files c.self.inside.pipes c.self.inside.traced.tables c.self.inside.is_stopped c.self.inside.wrote_unsynced c.self.inside.blocks.reads c.self.inside.traced c.self.inside.manager.purge_threshold) (parts c.append_batch.new.files c.append_batch.new.pipes c.apply.new.traced.tables c.self.inside.is_stopped c.skips_sync-self-inside.result c.self.inside.blocks.reads c.apply.new.traced c.self.inside.manager.purge_threshold) c.args.sync before batches c.in-Ok.written.id.seq c.prepare.new.batch.items c.in-Ok.ensures.other c.in-Ok.ensures.ok plain w))

pub returns-clause-all_written : goal.returns-clause-all_written
returns-clause-all_written g c =
    let same : c.prepare.new.batch.items ≡ c.args.batch.now.items = c.in_ok-len.ensures.same in
    let plain : list_any holds_mark c.prepare.new.batch.items ≡ false = ap (list_any holds_mark) same ∙ c.in_ok-len.ensures.plain in
    let done = done_from (g.F.FileSystem.disk) (parts c.self.inside.files c.self.inside.pipes c.self.inside.traced.tables c.self.inside.is_stopped c.self.inside.wrote_unsynced c.self.inside.blocks.reads c.self.inside.traced c.self.inside.manager.purge_threshold) c.append_batch.new.files c.append_batch.new.pipes c.apply.new.traced.tables c.args.sync c.prepare.new.batch.items c.append_batch.new.batch.items c.in-Ok.written
    c.entries_block-block.result c.drain-items.result (sym c.in-Ok.ensures.batch) (ap (list_any holds_mark) c.in-Ok.ensures.batch ∙ plain) c.in-Ok.ensures.pipes c.in-Ok.ensures.files c.in-Ok.ensures.other c.in-Ok.ensures.ok c.in-Ok.ensures.stands c.entries_block-block.ensures c.in_default.ensures.ok c.drain-items.ensures.items (ap with_lengths c.drain-items.ensures.places ∙ placed_lengths 0 c.append_batch.new.batch.items) in
    let held = (c.self.invariant c.if-self.false).batches in
    λ synced. let kept = done_kept (g.F.FileSystem.disk) (parts c.self.inside.files c.self.inside.pipes c.self.inside.traced.tables c.self.inside.is_stopped c.self.inside.wrote_unsynced c.self.inside.blocks.reads c.self.inside.traced c.self.inside.manager.purge_threshold) c.append_batch.new.files c.append_batch.new.pipes c.apply.new.traced.tables c.args.sync c.prepare.new.batch.items c.in-Ok.written c.entries_block-block.result c.drain-items.result done synced held.rewrites held.synced held.unsynced held.held in
    nothing_since (g.F.FileSystem.disk) (parts c.append_batch.new.files c.append_batch.new.pipes c.apply.new.traced.tables c.self.inside.is_stopped c.skips_sync-self-inside.result c.self.inside.blocks.reads c.apply.new.traced c.self.inside.manager.purge_threshold) _ _ kept.rewrite kept.append (answers_on (g.F.FileSystem.disk) (parts c.append_batch.new.files c.append_batch.new.pipes c.apply.new.traced.tables c.self.inside.is_stopped c.skips_sync-self-inside.result c.self.inside.blocks.reads c.apply.new.traced c.self.inside.manager.purge_threshold)) (answered (g.F.FileSystem.disk c.append_batch.new.files) c.append_batch.new.pipes c.apply.new.traced.tables _ _ kept)

pub returns-clause-others : goal.returns-clause-others
returns-clause-others g c =
    let same : c.prepare.new.batch.items ≡ c.args.batch.now.items = c.in_ok-len.ensures.same in
    let plain : list_any holds_mark c.prepare.new.batch.items ≡ false = ap (list_any holds_mark) same ∙ c.in_ok-len.ensures.plain in
    let done = done_from (g.F.FileSystem.disk) (parts c.self.inside.files c.self.inside.pipes c.self.inside.traced.tables c.self.inside.is_stopped c.self.inside.wrote_unsynced c.self.inside.blocks.reads c.self.inside.traced c.self.inside.manager.purge_threshold) c.append_batch.new.files c.append_batch.new.pipes c.apply.new.traced.tables c.args.sync c.prepare.new.batch.items c.append_batch.new.batch.items c.in-Ok.written
    c.entries_block-block.result c.drain-items.result (sym c.in-Ok.ensures.batch) (ap (list_any holds_mark) c.in-Ok.ensures.batch ∙ plain) c.in-Ok.ensures.pipes c.in-Ok.ensures.files c.in-Ok.ensures.other c.in-Ok.ensures.ok c.in-Ok.ensures.stands c.entries_block-block.ensures c.in_default.ensures.ok c.drain-items.ensures.items (ap with_lengths c.drain-items.ensures.places ∙ placed_lengths 0 c.append_batch.new.batch.items) in
    rw (← c.self.view_is, ← same) (λ synced. others (g.F.FileSystem.disk) (parts c.self.inside.files c.self.inside.pipes c.self.inside.traced.tables c.self.inside.is_stopped c.self.inside.wrote_unsynced c.self.inside.blocks.reads c.self.inside.traced c.self.inside.manager.purge_threshold) (c.self.invariant c.if-self.false).batches c.if-self.false c.prepare.new.batch.items _ (λ all left may. inr ((done_written (g.F.FileSystem.disk) (parts c.self.inside.files c.self.inside.pipes c.self.inside.traced.tables c.self.inside.is_stopped c.self.inside.wrote_unsynced c.self.inside.blocks.reads c.self.inside.traced c.self.inside.manager.purge_threshold) c.append_batch.new.files c.append_batch.new.pipes c.apply.new.traced.tables c.args.sync c.prepare.new.batch.items c.in-Ok.written c.entries_block-block.result c.drain-items.result done (c.self.invariant c.if-self.false).batches synced c.self.inside.is_stopped c.skips_sync-self-inside.result (c.skips_sync-self-inside.ensures.synced synced ∙ all)).leaves_only left may)))

pub returns-clause-others_answered : goal.returns-clause-others_answered
returns-clause-others_answered g c =
    let same : c.prepare.new.batch.items ≡ c.args.batch.now.items = c.in_ok-len.ensures.same in
    let plain : list_any holds_mark c.prepare.new.batch.items ≡ false = ap (list_any holds_mark) same ∙ c.in_ok-len.ensures.plain in
    let done = done_from (g.F.FileSystem.disk) (parts c.self.inside.files c.self.inside.pipes c.self.inside.traced.tables c.self.inside.is_stopped c.self.inside.wrote_unsynced c.self.inside.blocks.reads c.self.inside.traced c.self.inside.manager.purge_threshold) c.append_batch.new.files c.append_batch.new.pipes c.apply.new.traced.tables c.args.sync c.prepare.new.batch.items c.append_batch.new.batch.items c.in-Ok.written
    c.entries_block-block.result c.drain-items.result (sym c.in-Ok.ensures.batch) (ap (list_any holds_mark) c.in-Ok.ensures.batch ∙ plain) c.in-Ok.ensures.pipes c.in-Ok.ensures.files c.in-Ok.ensures.other c.in-Ok.ensures.ok c.in-Ok.ensures.stands c.entries_block-block.ensures c.in_default.ensures.ok c.drain-items.ensures.items (ap with_lengths c.drain-items.ensures.places ∙ placed_lengths 0 c.append_batch.new.batch.items) in
    rw (← c.self.view_is, ← same) (λ sound. (record { goes_on = c.if-self.false; synced = (c.skips_sync-self-inside.ensures.none sound.synced).1 }, agrees c.prepare.new.batch.items (answers_on (g.F.FileSystem.disk) (parts c.self.inside.files c.self.inside.pipes c.self.inside.traced.tables c.self.inside.is_stopped c.self.inside.wrote_unsynced c.self.inside.blocks.reads c.self.inside.traced c.self.inside.manager.purge_threshold)) (seen_on (g.F.FileSystem.disk c.append_batch.new.files) c.append_batch.new.pipes c.apply.new.traced.tables) (done_seen (g.F.FileSystem.disk) (parts c.self.inside.files c.self.inside.pipes c.self.inside.traced.tables c.self.inside.is_stopped c.self.inside.wrote_unsynced c.self.inside.blocks.reads c.self.inside.traced c.self.inside.manager.purge_threshold) c.append_batch.new.files c.append_batch.new.pipes c.apply.new.traced.tables c.args.sync c.prepare.new.batch.items c.in-Ok.written c.entries_block-block.result c.drain-items.result done (c.self.invariant c.if-self.false).batches)))

-- ---- an empty batch, with a sync

pub returns-then-sync-clause-ok : goal.returns-then-sync-clause-ok
returns-then-sync-clause-ok g c =
    let held = subst (λ n. HeldBy (g.F.FileSystem.disk) n) c.self.view_is (c.self.invariant c.if-self.false).batches in
    λ sound synced. synced_written (g.F.FileSystem.disk) c.args.self.now c.sync.new.self c.args.batch.now.items c.in_ok-sync.ensures.left held (c.is_empty.ensures.0 c.if-is_empty.true) c.in_ok-sync.ensures.answers sound

pub returns-then-sync-clause-others_answered : goal.returns-then-sync-clause-others_answered
returns-then-sync-clause-others_answered g c = synced_agrees (g.F.FileSystem.disk) c.args.self.now c.sync.new.self c.args.batch.now.items c.in_ok-sync.ensures.left c.in_ok-sync.ensures.kept

pub returns-in_err-sync-clause-others_answered : goal.returns-in_err-sync-clause-others_answered
returns-in_err-sync-clause-others_answered g c = synced_agrees (g.F.FileSystem.disk) c.args.self.now c.sync.new.self c.args.batch.now.items c.in_err-sync.ensures.left c.in_err-sync.ensures.kept

pub returns-then-sync-clause-opens : goal.returns-then-sync-clause-opens
returns-then-sync-clause-opens g c = λ alone synced. c.in_ok-sync.ensures.opens alone

pub returns-then-sync-clause-written : goal.returns-then-sync-clause-written
returns-then-sync-clause-written g c =
    λ before batches w. subst (λ l. HasWritten (g.F.FileSystem.disk) c.sync.new.self before l) (sym (no_batch c.args.batch.now.items batches (c.is_empty.ensures.0 c.if-is_empty.true))) (c.in_ok-sync.ensures.written before batches w)

pub returns-in_err-sync-clause-err : goal.returns-in_err-sync-clause-err
returns-in_err-sync-clause-err g c =
    let held = subst (λ n. HeldBy (g.F.FileSystem.disk) n) c.self.view_is (c.self.invariant c.if-self.false).batches in
    λ sound. at_err _ _ (synced_refused (g.F.FileSystem.disk) c.args.self.now c.sync.new.self c.args.batch.now.items c.in_err-sync.ensures.left held c.in_err-sync.ensures.kept sound)

pub returns-in_err-sync-clause-opens_either : goal.returns-in_err-sync-clause-opens_either
returns-in_err-sync-clause-opens_either g c =
    λ sound alone. at_err _ _ (either_opens (g.F.FileSystem.disk) c.args.self.now c.sync.new.self (after_batch c.args.batch.now.items (answers_on (g.F.FileSystem.disk) c.args.self.now)) (c.in_err-sync.ensures.opens_still sound alone))

pub returns-then-sync-clause-opens_front : goal.returns-then-sync-clause-opens_front
returns-then-sync-clause-opens_front g c =
    λ before batches alone w. more_opens (directories_of_engine c.sync.new.self) (g.F.FileSystem.disk c.sync.new.self.files) before batches _ (c.in_ok-sync.ensures.opens_front before batches alone w)

pub returns-in_err-sync-clause-opens_front : goal.returns-in_err-sync-clause-opens_front
returns-in_err-sync-clause-opens_front g c =
    λ before batches alone w. more_opens (directories_of_engine c.sync.new.self) (g.F.FileSystem.disk c.sync.new.self.files) before batches _ (c.in_err-sync.ensures.opens_front before batches alone w)

pub returns-then-sync-clause-others : goal.returns-then-sync-clause-others
returns-then-sync-clause-others g c = λ synced. synced_others (g.F.FileSystem.disk) c.args.self.now c.sync.new.self c.args.batch.now.items c.in_ok-sync.ensures.left

pub returns-in_err-sync-clause-others : goal.returns-in_err-sync-clause-others
returns-in_err-sync-clause-others g c = λ synced. synced_others (g.F.FileSystem.disk) c.args.self.now c.sync.new.self c.args.batch.now.items c.in_err-sync.ensures.left

-- ---- why it is refused where nothing is set to refuse

pub apply-requires : goal.apply-requires
apply-requires g c = block_fits c.prepare.new.batch.items c.in-Ok.written.offset c.entries_block-block.result c.entries_block-block.ensures c.in-Ok.ensures.fits

pub returns-then-self-clause-taken : goal.returns-then-self-clause-taken
returns-then-self-clause-taken g c =
    rw (← c.self.view_is) (λ free. stopped_write ℕ (g.F.FileSystem.disk) (parts c.self.inside.files c.self.inside.pipes c.self.inside.traced.tables c.self.inside.is_stopped c.self.inside.wrote_unsynced c.self.inside.blocks.reads c.self.inside.traced c.self.inside.manager.purge_threshold) c.args.batch.now.items c.if-self.true)

pub returns-in_err-sync-clause-taken : goal.returns-in_err-sync-clause-taken
returns-in_err-sync-clause-taken g c = λ free.
    synced_write ℕ (g.F.FileSystem.disk) c.args.self.now c.args.batch.now.items (c.is_empty.ensures.0 c.if-is_empty.true) (Unit {0}) c.from_residual.result c.in_err-sync.field-0.0 c.from_residual.ensures.1 (c.in_err-sync.ensures.taken free)

pub returns-then-sync-clause-taken : goal.returns-then-sync-clause-taken
returns-then-sync-clause-taken g c = λ free. done_write ℕ (g.F.FileSystem.disk) c.args.self.now c.args.batch.now.items 0

pub returns-then-is_empty-clause-taken : goal.returns-then-is_empty-clause-taken
returns-then-is_empty-clause-taken g c = λ free. done_write ℕ (g.F.FileSystem.disk) c.args.self.now c.args.batch.now.items 0

pub returns-in_err-len-clause-taken : goal.returns-in_err-len-clause-taken
returns-in_err-len-clause-taken g c =
    rw (← c.self.view_is) (λ free. refused_write ℕ (g.F.FileSystem.disk) (parts c.self.inside.files c.self.inside.pipes c.self.inside.traced.tables c.self.inside.is_stopped c.self.inside.wrote_unsynced c.self.inside.blocks.reads c.self.inside.traced c.self.inside.manager.purge_threshold) c.args.batch.now.items
    (λ none. false≢true (sym c.if-is_empty.false ∙ c.is_empty.ensures.1 none)) c.from_residual-in_err-len.result c.in_err-len.field-0.0 c.from_residual-in_err-len.ensures.1 c.in_err-len.ensures.err)

pub returns-in-Err-clause-taken : goal.returns-in-Err-clause-taken
returns-in-Err-clause-taken g c =
    let same : c.prepare.new.batch.items ≡ c.args.batch.now.items = c.in_ok-len.ensures.same in
    rw (← c.self.view_is, ← same) (λ free. failed_write ℕ (g.F.FileSystem.disk) (parts c.self.inside.files c.self.inside.pipes c.self.inside.traced.tables c.self.inside.is_stopped c.self.inside.wrote_unsynced c.self.inside.blocks.reads c.self.inside.traced c.self.inside.manager.purge_threshold) c.prepare.new.batch.items
    (λ none. false≢true (sym c.if-is_empty.false ∙ c.is_empty.ensures.1 (sym same ∙ none))) c.in-Err.error (c.in-Err.ensures.taken free))

pub returns-in-Err-apply-clause-taken : goal.returns-in-Err-apply-clause-taken
returns-in-Err-apply-clause-taken g c = λ free. unapplied_write ℕ (g.F.FileSystem.disk) c.args.self.now c.args.batch.now.items c.in-Err-apply.fault c.in-Err-apply.ensures.err

pub returns-clause-taken : goal.returns-clause-taken
returns-clause-taken g c = λ free. done_write ℕ (g.F.FileSystem.disk) c.args.self.now c.args.batch.now.items c.in_ok-len.len

-- ---- what an opening that tolerates a torn tail refuses

pub returns-then-self-clause-opens_in_tail : goal.returns-then-self-clause-opens_in_tail
returns-then-self-clause-opens_in_tail g c =
    rw (← c.self.view_is) (λ going alone. absurd (false≢true (sym going ∙ c.if-self.true)))

pub returns-then-is_empty-clause-opens_in_tail : goal.returns-then-is_empty-clause-opens_in_tail
returns-then-is_empty-clause-opens_in_tail g c =
    let met = g.met.F.FileSystem g.world.𝓛 g.world.𝓜 g.world.𝓡 ((λ s x. x), (λ x. x), (λ x. x), λ x. x) in
    let held = (c.self.invariant c.if-self.false).batches in
    rw (← c.self.view_is) (λ going alone. held_in_tail (g.F.FileSystem.disk c.self.inside.files) c.self.inside.pipes held.rewrites held.synced held.unsynced (met.is_named c.self.inside.files) alone held.held.rewrite held.held.append)

pub returns-in_err-len-clause-opens_in_tail : goal.returns-in_err-len-clause-opens_in_tail
returns-in_err-len-clause-opens_in_tail g c =
    let met = g.met.F.FileSystem g.world.𝓛 g.world.𝓜 g.world.𝓡 ((λ s x. x), (λ x. x), (λ x. x), λ x. x) in
    let held = (c.self.invariant c.if-self.false).batches in
    rw (← c.self.view_is) (λ going alone. held_in_tail (g.F.FileSystem.disk c.self.inside.files) c.self.inside.pipes held.rewrites held.synced held.unsynced (met.is_named c.self.inside.files) alone held.held.rewrite held.held.append)

pub returns-in_err-sync-clause-opens_in_tail : goal.returns-in_err-sync-clause-opens_in_tail
returns-in_err-sync-clause-opens_in_tail g c = c.in_err-sync.ensures.opens_in_tail

pub returns-then-sync-clause-opens_in_tail : goal.returns-then-sync-clause-opens_in_tail
returns-then-sync-clause-opens_in_tail g c = c.in_ok-sync.ensures.opens_in_tail

pub returns-in-Err-clause-opens_in_tail : goal.returns-in-Err-clause-opens_in_tail
returns-in-Err-clause-opens_in_tail g c =
    let met = g.met.F.FileSystem g.world.𝓛 g.world.𝓜 g.world.𝓡 ((λ s x. x), (λ x. x), (λ x. x), λ x. x) in
    let held = (c.self.invariant c.if-self.false).batches in
    rw (← c.self.view_is) (λ going alone.
    left_in_tail c.self.inside.pipes c.append_batch.new.pipes (g.F.FileSystem.disk c.self.inside.files) (g.F.FileSystem.disk c.append_batch.new.files) held.rewrites held.synced held.unsynced (met.is_named c.append_batch.new.files)
    (record { paths = c.in-Err.ensures.paths; other = c.in-Err.ensures.other }) alone held.held.rewrite held.held.append c.in-Err.ensures.torn)

pub returns-in-Err-apply-clause-opens_in_tail : goal.returns-in-Err-apply-clause-opens_in_tail
returns-in-Err-apply-clause-opens_in_tail g c =
    let met = g.met.F.FileSystem g.world.𝓛 g.world.𝓜 g.world.𝓡 ((λ s x. x), (λ x. x), (λ x. x), λ x. x) in
    rw (← c.self.view_is) (λ going alone. more_in_tail (g.F.FileSystem.disk) (parts c.self.inside.files c.self.inside.pipes c.self.inside.traced.tables c.self.inside.is_stopped c.self.inside.wrote_unsynced c.self.inside.blocks.reads c.self.inside.traced c.self.inside.manager.purge_threshold) (c.self.invariant c.if-self.false).batches c.append_batch.new.files c.append_batch.new.pipes c.args.sync c.in-Ok.written.id.seq c.prepare.new.batch.items
    (met.is_named c.append_batch.new.files)
    (stand_on c.self.inside.pipes c.append_batch.new.pipes (g.F.FileSystem.disk c.self.inside.files) (g.F.FileSystem.disk c.append_batch.new.files) (record { paths = c.in-Ok.ensures.paths; other = c.in-Ok.ensures.other }) alone (c.in-Ok.ensures.alone alone.append))
    c.in-Ok.ensures.other c.in-Ok.ensures.ok)

pub returns-clause-opens_in_tail : goal.returns-clause-opens_in_tail
returns-clause-opens_in_tail g c =
    let met = g.met.F.FileSystem g.world.𝓛 g.world.𝓜 g.world.𝓡 ((λ s x. x), (λ x. x), (λ x. x), λ x. x) in
    rw (← c.self.view_is) (λ going alone. more_in_tail (g.F.FileSystem.disk) (parts c.self.inside.files c.self.inside.pipes c.self.inside.traced.tables c.self.inside.is_stopped c.self.inside.wrote_unsynced c.self.inside.blocks.reads c.self.inside.traced c.self.inside.manager.purge_threshold) (c.self.invariant c.if-self.false).batches c.append_batch.new.files c.append_batch.new.pipes c.args.sync c.in-Ok.written.id.seq c.prepare.new.batch.items
    (met.is_named c.append_batch.new.files)
    (stand_on c.self.inside.pipes c.append_batch.new.pipes (g.F.FileSystem.disk c.self.inside.files) (g.F.FileSystem.disk c.append_batch.new.files) (record { paths = c.in-Ok.ensures.paths; other = c.in-Ok.ensures.other }) alone (c.in-Ok.ensures.alone alone.append))
    c.in-Ok.ensures.other c.in-Ok.ensures.ok)

-- ---- why it is refused

pub returns-then-self-clause-cause : goal.returns-then-self-clause-cause
returns-then-self-clause-cause g c =
    let m = g.F.FileSystem.meter c.self.inside.files in
    rw (← c.self.view_is) (stopped_cause (g.F.FileSystem.disk) (parts c.self.inside.files c.self.inside.pipes c.self.inside.traced.tables c.self.inside.is_stopped c.self.inside.wrote_unsynced c.self.inside.blocks.reads c.self.inside.traced c.self.inside.manager.purge_threshold) c.args.batch.now.items m m c.if-self.true)

pub returns-in_err-sync-clause-cause : goal.returns-in_err-sync-clause-cause
returns-in_err-sync-clause-cause g c =
    let a = g.F.FileSystem.meter c.args.self.now.files in
    let b = g.F.FileSystem.meter c.sync.new.self.files in
    told_cause c.from_residual.result c.in_err-sync.field-0.0 (λ (x : EngineFault). IsWriteFault (g.F.FileSystem.disk) c.args.self.now c.args.batch.now.items a b x) c.from_residual.ensures.1
    (synced_cause (g.F.FileSystem.disk) c.args.self.now c.args.batch.now.items a b (c.is_empty.ensures.0 c.if-is_empty.true) c.in_err-sync.field-0.0 c.in_err-sync.ensures.cause)

pub returns-in_err-len-clause-cause : goal.returns-in_err-len-clause-cause
returns-in_err-len-clause-cause g c =
    let m = g.F.FileSystem.meter c.self.inside.files in
    rw (← c.self.view_is) (told_cause c.from_residual-in_err-len.result c.in_err-len.field-0.0
    (λ (x : EngineFault). IsWriteFault (g.F.FileSystem.disk) (parts c.self.inside.files c.self.inside.pipes c.self.inside.traced.tables c.self.inside.is_stopped c.self.inside.wrote_unsynced c.self.inside.blocks.reads c.self.inside.traced c.self.inside.manager.purge_threshold) c.args.batch.now.items m m x) c.from_residual-in_err-len.ensures.1
    (refused_cause (g.F.FileSystem.disk) (parts c.self.inside.files c.self.inside.pipes c.self.inside.traced.tables c.self.inside.is_stopped c.self.inside.wrote_unsynced c.self.inside.blocks.reads c.self.inside.traced c.self.inside.manager.purge_threshold) c.args.batch.now.items m m
    (λ none. false≢true (sym c.if-is_empty.false ∙ c.is_empty.ensures.1 none)) c.in_err-len.field-0.0 c.in_err-len.ensures.err))

pub returns-in-Err-clause-cause : goal.returns-in-Err-clause-cause
returns-in-Err-clause-cause g c =
    let same : c.prepare.new.batch.items ≡ c.args.batch.now.items = c.in_ok-len.ensures.same in
    rw (← c.self.view_is, ← same) (failed_cause (g.F.FileSystem.disk) (parts c.self.inside.files c.self.inside.pipes c.self.inside.traced.tables c.self.inside.is_stopped c.self.inside.wrote_unsynced c.self.inside.blocks.reads c.self.inside.traced c.self.inside.manager.purge_threshold) c.prepare.new.batch.items
    (g.F.FileSystem.meter c.self.inside.files) (g.F.FileSystem.meter c.append_batch.new.files)
    (λ none. false≢true (sym c.if-is_empty.false ∙ c.is_empty.ensures.1 (sym same ∙ none))) c.in-Err.error c.in-Err.ensures.cause)

pub returns-in-Err-apply-clause-cause : goal.returns-in-Err-apply-clause-cause
returns-in-Err-apply-clause-cause g c =
    unapplied_cause (g.F.FileSystem.disk) c.args.self.now c.args.batch.now.items (g.F.FileSystem.meter c.args.self.now.files) (g.F.FileSystem.meter c.append_batch.new.files) c.in-Err-apply.fault c.in-Err-apply.ensures.err

-- ---- where it goes on

pub returns-then-self-clause-goes_on_in_tail : goal.returns-then-self-clause-goes_on_in_tail
returns-then-self-clause-goes_on_in_tail g c = rw (← c.self.view_is) (λ alone going. absurd (false≢true (sym going ∙ c.if-self.true)))

pub returns-then-is_empty-clause-goes_on_in_tail : goal.returns-then-is_empty-clause-goes_on_in_tail
returns-then-is_empty-clause-goes_on_in_tail g c =
    let met = g.met.F.FileSystem g.world.𝓛 g.world.𝓜 g.world.𝓡 ((λ s x. x), (λ x. x), (λ x. x), λ x. x) in
    rw (← c.self.view_is) (λ alone going. stands_in_tail (g.F.FileSystem.disk) (parts c.self.inside.files c.self.inside.pipes c.self.inside.traced.tables c.self.inside.is_stopped c.self.inside.wrote_unsynced c.self.inside.blocks.reads c.self.inside.traced c.self.inside.manager.purge_threshold) (met.is_named c.self.inside.files) alone (c.self.invariant c.if-self.false).batches)

pub returns-in_err-len-clause-goes_on_in_tail : goal.returns-in_err-len-clause-goes_on_in_tail
returns-in_err-len-clause-goes_on_in_tail g c =
    let met = g.met.F.FileSystem g.world.𝓛 g.world.𝓜 g.world.𝓡 ((λ s x. x), (λ x. x), (λ x. x), λ x. x) in
    rw (← c.self.view_is) (λ alone going. stands_in_tail (g.F.FileSystem.disk) (parts c.self.inside.files c.self.inside.pipes c.self.inside.traced.tables c.self.inside.is_stopped c.self.inside.wrote_unsynced c.self.inside.blocks.reads c.self.inside.traced c.self.inside.manager.purge_threshold) (met.is_named c.self.inside.files) alone (c.self.invariant c.if-self.false).batches)

pub returns-in_err-sync-clause-goes_on_in_tail : goal.returns-in_err-sync-clause-goes_on_in_tail
returns-in_err-sync-clause-goes_on_in_tail g c = c.in_err-sync.ensures.goes_on_in_tail

pub returns-then-sync-clause-goes_on_in_tail : goal.returns-then-sync-clause-goes_on_in_tail
returns-then-sync-clause-goes_on_in_tail g c = c.in_ok-sync.ensures.goes_on_in_tail

pub returns-in-Err-clause-goes_on_in_tail : goal.returns-in-Err-clause-goes_on_in_tail
returns-in-Err-clause-goes_on_in_tail g c = λ alone going. absurd (false≢true (sym going))

pub returns-in-Err-apply-clause-goes_on_in_tail : goal.returns-in-Err-apply-clause-goes_on_in_tail
returns-in-Err-apply-clause-goes_on_in_tail g c = λ alone going. absurd (false≢true (sym going))

pub returns-clause-goes_on_in_tail : goal.returns-clause-goes_on_in_tail
returns-clause-goes_on_in_tail g c =
    let met = g.met.F.FileSystem g.world.𝓛 g.world.𝓜 g.world.𝓡 ((λ s x. x), (λ x. x), (λ x. x), λ x. x) in
    rw (← c.self.view_is) (λ alone going.
    let stand = stand_on c.self.inside.pipes c.append_batch.new.pipes (g.F.FileSystem.disk c.self.inside.files) (g.F.FileSystem.disk c.append_batch.new.files) (record { paths = c.in-Ok.ensures.paths; other = c.in-Ok.ensures.other }) alone (c.in-Ok.ensures.alone alone.append) in
    record {
      alone = stand;
      opens = more_in_tail (g.F.FileSystem.disk) (parts c.self.inside.files c.self.inside.pipes c.self.inside.traced.tables c.self.inside.is_stopped c.self.inside.wrote_unsynced c.self.inside.blocks.reads c.self.inside.traced c.self.inside.manager.purge_threshold) (c.self.invariant c.if-self.false).batches c.append_batch.new.files c.append_batch.new.pipes c.args.sync c.in-Ok.written.id.seq c.prepare.new.batch.items
          (met.is_named c.append_batch.new.files) stand c.in-Ok.ensures.other c.in-Ok.ensures.ok;
    })

-- ---- what listeners hear

pub returns-then-self-clause-heard : goal.returns-then-self-clause-heard
returns-then-self-clause-heard g c = λ some. tt

pub returns-then-self-clause-unheard : goal.returns-then-self-clause-unheard
returns-then-self-clause-unheard g c = λ none. refl

pub returns-then-self-clause-err_heard : goal.returns-then-self-clause-err_heard
returns-then-self-clause-err_heard g c = inl refl

pub returns-then-is_empty-clause-unheard : goal.returns-then-is_empty-clause-unheard
returns-then-is_empty-clause-unheard g c = λ none. refl

pub returns-then-sync-clause-unheard : goal.returns-then-sync-clause-unheard
returns-then-sync-clause-unheard g c = λ none. refl

pub returns-in_err-sync-clause-unheard : goal.returns-in_err-sync-clause-unheard
returns-in_err-sync-clause-unheard g c = λ none. refl

pub returns-in_err-sync-clause-err_heard : goal.returns-in_err-sync-clause-err_heard
returns-in_err-sync-clause-err_heard g c = if_err c.from_residual.result (λ fault. inl refl)

pub returns-in_err-len-clause-unheard : goal.returns-in_err-len-clause-unheard
returns-in_err-len-clause-unheard g c = λ none. refl

pub returns-in_err-len-clause-err_heard : goal.returns-in_err-len-clause-err_heard
returns-in_err-len-clause-err_heard g c = if_err c.from_residual-in_err-len.result (λ fault. inl refl)

pub returns-in-Err-clause-heard : goal.returns-in-Err-clause-heard
returns-in-Err-clause-heard g c = λ some. tt

pub returns-in-Err-clause-unheard : goal.returns-in-Err-clause-unheard
returns-in-Err-clause-unheard g c = λ none. refl

pub returns-in-Err-clause-err_heard : goal.returns-in-Err-clause-err_heard
returns-in-Err-clause-err_heard g c = inl refl

pub returns-in-Err-apply-clause-heard : goal.returns-in-Err-apply-clause-heard
returns-in-Err-apply-clause-heard g c = λ some. tt

pub returns-then-is_empty-clause-heard : goal.returns-then-is_empty-clause-heard
returns-then-is_empty-clause-heard g c = λ some. absurd (some (c.is_empty.ensures.0 c.if-is_empty.true))

pub returns-then-sync-clause-heard : goal.returns-then-sync-clause-heard
returns-then-sync-clause-heard g c = λ some. absurd (some (c.is_empty.ensures.0 c.if-is_empty.true))

pub returns-in-Err-apply-clause-unheard : goal.returns-in-Err-apply-clause-unheard
returns-in-Err-apply-clause-unheard g c = λ none. absurd (false≢true (sym c.if-is_empty.false ∙ c.is_empty.ensures.1 none))

pub returns-in-Err-apply-clause-err_heard : goal.returns-in-Err-apply-clause-err_heard
returns-in-Err-apply-clause-err_heard g c =
    let same : c.prepare.new.batch.items ≡ c.args.batch.now.items = c.in_ok-len.ensures.same in
    let held = (c.self.invariant c.if-self.false).batches in
    rw (← c.self.view_is, ← same) (inr (
      c.in-Err-apply.ensures.err,
      append_heard g.L.EventListener.hears g.F.FileSystem.disk (parts c.self.inside.files c.self.inside.pipes c.self.inside.traced.tables c.self.inside.is_stopped c.self.inside.wrote_unsynced c.self.inside.blocks.reads c.self.inside.traced c.self.inside.manager.purge_threshold)
          (parts c.append_batch.new.files c.append_batch.new.pipes c.apply.new.traced.tables true c.self.inside.wrote_unsynced c.self.inside.blocks.reads c.apply.new.traced c.self.inside.manager.purge_threshold)
          c.prepare.new.batch.items c.in-Ok.written c.file_span-last.result.1 c.file_span-last.ensures.last held.synced held.unsynced held.held.append c.append_batch.new.pipes.appends c.in-Ok.ensures.stands
          c.args.listeners.now c.tell_appended.new.listeners c.tell_appended.ensures.told,
    ))

pub returns-clause-unheard : goal.returns-clause-unheard
returns-clause-unheard g c = λ none. absurd (false≢true (sym c.if-is_empty.false ∙ c.is_empty.ensures.1 none))

pub returns-clause-heard : goal.returns-clause-heard
returns-clause-heard g c =
    let same : c.prepare.new.batch.items ≡ c.args.batch.now.items = c.in_ok-len.ensures.same in
    let held = (c.self.invariant c.if-self.false).batches in
    rw (← c.self.view_is, ← same) (λ some.
    write_heard g.L.EventListener.hears g.F.FileSystem.disk (parts c.self.inside.files c.self.inside.pipes c.self.inside.traced.tables c.self.inside.is_stopped c.self.inside.wrote_unsynced c.self.inside.blocks.reads c.self.inside.traced c.self.inside.manager.purge_threshold)
    (parts c.append_batch.new.files c.append_batch.new.pipes c.apply.new.traced.tables c.self.inside.is_stopped c.skips_sync-self-inside.result c.self.inside.blocks.reads c.apply.new.traced c.self.inside.manager.purge_threshold)
    c.prepare.new.batch.items c.in-Ok.written c.file_span-last.result.1 c.file_span-last.ensures.last held.synced held.unsynced held.held.append c.append_batch.new.pipes.appends c.in-Ok.ensures.stands
    c.args.listeners.now c.tell_appended.new.listeners c.tell_applied.new.listeners c.tell_appended.ensures.told c.tell_applied.ensures.told)

-- ---- what is written, where nothing is

pub returns-in_err-sync-clause-answers : goal.returns-in_err-sync-clause-answers
returns-in_err-sync-clause-answers g c = not_ok _ _ c.from_residual.result c.from_residual.ensures.1

pub returns-in_err-sync-clause-ok : goal.returns-in_err-sync-clause-ok
returns-in_err-sync-clause-ok g c = λ sound. not_ok _ _ c.from_residual.result c.from_residual.ensures.1

pub returns-in_err-sync-clause-sound : goal.returns-in_err-sync-clause-sound
returns-in_err-sync-clause-sound g c = λ sound. not_ok _ _ c.from_residual.result c.from_residual.ensures.1

pub returns-in_err-sync-clause-alone : goal.returns-in_err-sync-clause-alone
returns-in_err-sync-clause-alone g c = λ alone. not_ok _ _ c.from_residual.result c.from_residual.ensures.1

pub returns-in_err-sync-clause-opens : goal.returns-in_err-sync-clause-opens
returns-in_err-sync-clause-opens g c = λ alone. not_ok _ _ c.from_residual.result c.from_residual.ensures.1

pub returns-in_err-sync-clause-written : goal.returns-in_err-sync-clause-written
returns-in_err-sync-clause-written g c = λ before batches held. not_ok _ _ c.from_residual.result c.from_residual.ensures.1

pub returns-in_err-sync-clause-all_written : goal.returns-in_err-sync-clause-all_written
returns-in_err-sync-clause-all_written g c = not_ok _ _ c.from_residual.result c.from_residual.ensures.1

pub returns-in_err-sync-clause-emptied : goal.returns-in_err-sync-clause-emptied
returns-in_err-sync-clause-emptied g c = not_ok _ _ c.from_residual.result c.from_residual.ensures.1

pub returns-in_err-sync-clause-empty : goal.returns-in_err-sync-clause-empty
returns-in_err-sync-clause-empty g c = λ none. not_given _ _ c.from_residual.result c.from_residual.ensures.1

pub returns-in_err-sync-clause-len : goal.returns-in_err-sync-clause-len
returns-in_err-sync-clause-len g c = λ some. not_given _ _ c.from_residual.result c.from_residual.ensures.1

pub returns-in_err-sync-clause-heard : goal.returns-in_err-sync-clause-heard
returns-in_err-sync-clause-heard g c = λ some. not_ok _ _ c.from_residual.result c.from_residual.ensures.1

pub returns-in_err-len-clause-answers : goal.returns-in_err-len-clause-answers
returns-in_err-len-clause-answers g c = not_ok _ _ c.from_residual-in_err-len.result c.from_residual-in_err-len.ensures.1

pub returns-in_err-len-clause-ok : goal.returns-in_err-len-clause-ok
returns-in_err-len-clause-ok g c = λ sound. not_ok _ _ c.from_residual-in_err-len.result c.from_residual-in_err-len.ensures.1

pub returns-in_err-len-clause-sound : goal.returns-in_err-len-clause-sound
returns-in_err-len-clause-sound g c = λ sound. not_ok _ _ c.from_residual-in_err-len.result c.from_residual-in_err-len.ensures.1

pub returns-in_err-len-clause-alone : goal.returns-in_err-len-clause-alone
returns-in_err-len-clause-alone g c = λ alone. not_ok _ _ c.from_residual-in_err-len.result c.from_residual-in_err-len.ensures.1

pub returns-in_err-len-clause-opens : goal.returns-in_err-len-clause-opens
returns-in_err-len-clause-opens g c = λ alone. not_ok _ _ c.from_residual-in_err-len.result c.from_residual-in_err-len.ensures.1

pub returns-in_err-len-clause-written : goal.returns-in_err-len-clause-written
returns-in_err-len-clause-written g c = λ before batches held. not_ok _ _ c.from_residual-in_err-len.result c.from_residual-in_err-len.ensures.1

pub returns-in_err-len-clause-all_written : goal.returns-in_err-len-clause-all_written
returns-in_err-len-clause-all_written g c = not_ok _ _ c.from_residual-in_err-len.result c.from_residual-in_err-len.ensures.1

pub returns-in_err-len-clause-emptied : goal.returns-in_err-len-clause-emptied
returns-in_err-len-clause-emptied g c = not_ok _ _ c.from_residual-in_err-len.result c.from_residual-in_err-len.ensures.1

pub returns-in_err-len-clause-empty : goal.returns-in_err-len-clause-empty
returns-in_err-len-clause-empty g c = λ none. not_given _ _ c.from_residual-in_err-len.result c.from_residual-in_err-len.ensures.1

pub returns-in_err-len-clause-len : goal.returns-in_err-len-clause-len
returns-in_err-len-clause-len g c = λ some. not_given _ _ c.from_residual-in_err-len.result c.from_residual-in_err-len.ensures.1

pub returns-in_err-len-clause-heard : goal.returns-in_err-len-clause-heard
returns-in_err-len-clause-heard g c = λ some. not_ok _ _ c.from_residual-in_err-len.result c.from_residual-in_err-len.ensures.1

-- ---- an empty batch, as the sync leaves it

pub returns-in_err-sync-clause-paths : goal.returns-in_err-sync-clause-paths
returns-in_err-sync-clause-paths g c = c.in_err-sync.ensures.paths

pub returns-in_err-sync-clause-set : goal.returns-in_err-sync-clause-set
returns-in_err-sync-clause-set g c = c.in_err-sync.ensures.set

pub returns-in_err-sync-clause-threshold : goal.returns-in_err-sync-clause-threshold
returns-in_err-sync-clause-threshold g c = c.in_err-sync.ensures.threshold

pub returns-in_err-sync-clause-marks : goal.returns-in_err-sync-clause-marks
returns-in_err-sync-clause-marks g c = c.in_err-sync.ensures.marks

pub returns-in_err-sync-clause-later : goal.returns-in_err-sync-clause-later
returns-in_err-sync-clause-later g c = c.in_err-sync.ensures.later

pub returns-then-sync-clause-paths : goal.returns-then-sync-clause-paths
returns-then-sync-clause-paths g c = c.in_ok-sync.ensures.paths

pub returns-then-sync-clause-set : goal.returns-then-sync-clause-set
returns-then-sync-clause-set g c = c.in_ok-sync.ensures.set

pub returns-then-sync-clause-threshold : goal.returns-then-sync-clause-threshold
returns-then-sync-clause-threshold g c = c.in_ok-sync.ensures.threshold

pub returns-then-sync-clause-marks : goal.returns-then-sync-clause-marks
returns-then-sync-clause-marks g c = c.in_ok-sync.ensures.marks

pub returns-then-sync-clause-later : goal.returns-then-sync-clause-later
returns-then-sync-clause-later g c = c.in_ok-sync.ensures.later

pub returns-then-sync-clause-all_written : goal.returns-then-sync-clause-all_written
returns-then-sync-clause-all_written g c = λ synced. c.in_ok-sync.ensures.all_written

pub returns-then-sync-clause-alone : goal.returns-then-sync-clause-alone
returns-then-sync-clause-alone g c = c.in_ok-sync.ensures.alone

pub returns-then-sync-clause-sound : goal.returns-then-sync-clause-sound
returns-then-sync-clause-sound g c = λ sound synced. c.in_ok-sync.ensures.sound sound
