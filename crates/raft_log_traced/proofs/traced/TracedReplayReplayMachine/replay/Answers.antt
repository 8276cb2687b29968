use Rattle.std.proofs.Common.{List, [], ◌∷◌, ◌+◌, ◌++◌, ◌||◌, refl, sym, ap, subst, ◌∙◌}
use Rattle.raft_log_memtables.proofs.Cells.{on_ok}
use Rattle.raft_log_covers.specs.Kept.{Traces, new_trace, traces_after}
use Rattle.raft_log_records.specs.declared.item.LogItem.{LogItem}
use Rattle.std.specs.List.{list_any}
use Rattle.raft_log_records.specs.Item.{item_of, items_of}
use Rattle.raft_log_records.specs.Spelling.{holds_mark}
use Rattle.raft_log_recovery.specs.Replay.{Placed}
use Rattle.raft_log_replay.specs.Batches.{HasReplayed}
use Rattle.raft_log_traces.specs.Alike.{AreAlike}
use Rattle.raft_log_traces.specs.GroupTraces.{traces_in}
use Rattle.raft_log_traced.specs.declared.traced.TracedReplay.{TracedReplay}
use Rattle.raft_log_purge.specs.Together.{Tells}
use Rattle.raft_log_traced.specs.Traced.{rewrites_in, traces_over}
use Rattle.raft_log_traced.specs.Written.{with_record}
use Rattle.raft_log_traced.proofs.MarkedLemmas.{append_noted, rewrite_noted}
use Rattle.raft_log_traced.proofs.PartedLemmas.{append_told, rewrite_told}
use Rattle.raft_log_traced.proofs.TraceLemmas.{appended, rewritten}
use Rattle.raft_log_traced.proofs.WrittenLemmas.{append_counted, rewrite_counted}
use Rattle.raft_log_traced.proofs.traced.TracedReplayReplayMachine.replay.Goals.{in-Append+in_ok-apply-in-Append, in-Rewrite}
use Rattle.raft_log_traced.proofs.traced.TracedReplayReplayMachine.replay.Goals as goal

pub returns-clause-replayed : goal.returns-clause-replayed
returns-clause-replayed c = on_ok c.replay.result c.replay.ensures.replayed
    (λ step placed has.
    let p : Placed = record { handle = c.args.handle; items = items_of c.args.batch.items.items } in
    let none : Traces = λ group. new_trace in
    let old : Traces = traces_in c.args.self.now.traces in
    elim c.match-handle.branch [
      | in-Append+in_ok-apply-in-Append w ↦
          let applied : AreAlike (traces_after c.args.handle.id.seq (items_of c.args.batch.items.items) old) (traces_in w.apply.new.self)
          = subst (λ (l : List LogItem). AreAlike (traces_after c.args.handle.id.seq (items_of l) old) (traces_in w.apply.new.self)) w.deref-in-Append.ensures.value w.in_ok-apply-in-Append.ensures.ok in
          let now = subst (λ (m : TracedReplay). AreAlike (traces_after c.args.handle.id.seq (items_of c.args.batch.items.items) old) (traces_in m.traces)) (sym w.self-is) applied in
          record {
            tables = step placed (subst (λ (m : TracedReplay). HasReplayed m.replayed placed) (sym w.self-is) has.tables);
            traces = appended placed p none old (traces_in c.match-handle.self.traces) w.in-Append.is has.traces now;
            marked = append_noted placed p c.args.batch.items.items c.args.self.now.has_marked c.match-handle.self.has_marked w.in-Append.is refl has.marked (ap (λ (m : TracedReplay). m.has_marked) w.self-is ∙ w.with_marks-self.ensures ∙ ap (λ (l : List LogItem). c.args.self.now.has_marked || list_any (λ item. holds_mark (item_of item)) l) w.deref.ensures.value);
            together = append_told placed p c.match-handle.self.together w.in-Append.is (subst (λ (m : TracedReplay). Tells m.together (rewrites_in placed)) (sym w.self-is) has.together);
            written = append_counted placed p c.match-handle.self.written w.in-Append.is (ap (λ (m : TracedReplay). m.written) w.self-is ∙ has.written);
          }
      | in-Rewrite w ↦
          record {
            tables = step placed (subst (λ (m : TracedReplay). HasReplayed m.replayed placed) (sym w.self-is) has.tables);
            traces = rewritten placed p none (traces_in c.match-handle.self.traces) w.in-Rewrite.is (subst (λ (m : TracedReplay). AreAlike (traces_over placed none) (traces_in m.traces)) (sym w.self-is) has.traces);
            marked = rewrite_noted placed p c.match-handle.self.has_marked w.in-Rewrite.is (ap (λ (m : TracedReplay). m.has_marked) w.self-is ∙ has.marked);
            together = rewrite_told placed p c.match-handle.self.together w.in-Rewrite.is
                (subst (λ (m : TracedReplay). Tells m.together (rewrites_in placed ++ p.items ∷ [])) (sym w.self-is)
                (subst (λ (l : List LogItem). Tells w.add.new.self (rewrites_in placed ++ items_of l ∷ [])) w.deref-in-Rewrite.ensures.value (w.add.ensures (rewrites_in placed) has.together)));
            written = rewrite_counted placed p c.args.self.now.written c.match-handle.self.written w.in-Rewrite.is has.written
                (ap (λ (m : TracedReplay). m.written) w.self-is ∙ w.with_written-self.ensures
                ∙ ap (λ (l : List LogItem). with_record c.args.self.now.written (items_of l)) w.deref-in-Rewrite-2.ensures.value);
          }
    ])
