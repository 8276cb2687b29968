use Rattle.std.proofs.Common.{ℕ, Option, None, sym, ap, ◌∙◌}
use Rattle.raft_log_records.specs.declared.item.EntryIndex.{EntryIndex}
use Rattle.raft_log_records.specs.Item.{items_of}
use Rattle.raft_log_memtables.specs.Content.{Content, after_batch, nothing, reach_after_batch}
use Rattle.raft_log_memtables.specs.MemTable.{batch_items}
use Rattle.raft_log_memtables.specs.Replay.{Replay, after_record}
use Rattle.raft_log_recovery.specs.Replay.{Placed}
use Rattle.raft_log_replay.proofs.TableLemmas.{one_more}
use Rattle.raft_log_replay.proofs.tables.ReplayedTablesReplayMachine.replay.Goals as goal

pub returns-clause-replayed : goal.returns-clause-replayed
returns-clause-replayed c = λ placed has.
    let p : Placed = record { handle = c.args.handle; items = items_of c.args.batch.items.items } in
    record {
      content = c.in_ok-replay.ensures.content ∙ ap (λ (r : Replay EntryIndex (Content EntryIndex)). after_record after_batch (batch_items c.args.handle c.args.batch) r) has.content
          ∙ sym (one_more after_batch placed p (record { state = nothing; begun = None }));
      reach = c.in_ok-replay.ensures.reach ∙ ap (λ (r : Replay EntryIndex (ℕ → Option ℕ)). after_record reach_after_batch (batch_items c.args.handle c.args.batch) r) has.reach
          ∙ sym (one_more reach_after_batch placed p (record { state = λ group. None; begun = None }));
    }
