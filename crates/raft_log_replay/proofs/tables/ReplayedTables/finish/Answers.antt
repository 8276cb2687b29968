use Rattle.std.proofs.Common.{ℕ, Option, ap, ◌∙◌}
use Rattle.raft_log_records.specs.declared.item.EntryIndex.{EntryIndex}
use Rattle.raft_log_memtables.specs.Content.{Content}
use Rattle.raft_log_memtables.specs.Replay.{Replay}
use Rattle.raft_log_replay.proofs.tables.ReplayedTables.finish.Goals as goal

pub returns-clause-content : goal.returns-clause-content
returns-clause-content c = λ placed has. c.finish.ensures.content ∙ ap (λ (r : Replay EntryIndex (Content EntryIndex)). r.state) has.content

pub returns-clause-reach : goal.returns-clause-reach
returns-clause-reach c = λ placed has. c.finish.ensures.reach ∙ ap (λ (r : Replay EntryIndex (ℕ → Option ℕ)). r.state) has.reach
