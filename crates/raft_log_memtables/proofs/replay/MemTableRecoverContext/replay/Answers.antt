use Rattle.std.proofs.Common.{◌≡◌, ℕ, Option, Some, None, ap, ◌∙◌}
use Rattle.raft_log_records.specs.declared.item.EntryIndex.{EntryIndex}
use Rattle.raft_log_records.specs.Item.{items_of}
use Rattle.raft_log_memtables.specs.Content.{Content, after_batch, reach_after_batch}
use Rattle.raft_log_memtables.specs.Recovery.{begun_by, replay_in, reach_replay_in}
use Rattle.raft_log_memtables.specs.Replay.{mark_of}
use Rattle.raft_log_memtables.proofs.Cells.{on_ok}
use Rattle.raft_log_memtables.proofs.Folds.{marked}
use Rattle.raft_log_memtables.proofs.replay.MemTableRecoverContext.replay.Goals as goal

pub returns-in-None-clause-content : goal.returns-in-None-clause-content
unfolding replay_in
returns-in-None-clause-content c =
    let items = items_of c.args.batch.items.items in
    let m : mark_of items ≡ None = cc in
    on_ok c.apply.result c.apply.ensures.content (λ e.
    ap (λ (s : Content EntryIndex). record { state = s; begun = begun_by c.args.self.now.pending }) e ∙ marked after_batch c.args.handle items None (replay_in c.args.self.now) m)

pub returns-in-Some-clause-content : goal.returns-in-Some-clause-content
returns-in-Some-clause-content c =
    let items = items_of c.args.batch.items.items in
    let m : mark_of items ≡ Some (c.in-Some.id, c.in-Some.status) = cc in
    on_ok c.replay_marked.result c.replay_marked.ensures.content (λ e. e ∙ marked after_batch c.args.handle items (Some (c.in-Some.id, c.in-Some.status)) (replay_in c.args.self.now) m)

pub returns-in-None-clause-reach : goal.returns-in-None-clause-reach
unfolding reach_replay_in
returns-in-None-clause-reach c =
    let items = items_of c.args.batch.items.items in
    let m : mark_of items ≡ None = cc in
    on_ok c.apply.result c.apply.ensures.reach (λ e.
    ap (λ (s : ℕ → Option ℕ). record { state = s; begun = begun_by c.args.self.now.pending }) e ∙ marked reach_after_batch c.args.handle items None (reach_replay_in c.args.self.now) m)

pub returns-in-Some-clause-reach : goal.returns-in-Some-clause-reach
returns-in-Some-clause-reach c =
    let items = items_of c.args.batch.items.items in
    let m : mark_of items ≡ Some (c.in-Some.id, c.in-Some.status) = cc in
    on_ok c.replay_marked.result c.replay_marked.ensures.reach (λ e. e ∙ marked reach_after_batch c.args.handle items (Some (c.in-Some.id, c.in-Some.status)) (reach_replay_in c.args.self.now) m)
