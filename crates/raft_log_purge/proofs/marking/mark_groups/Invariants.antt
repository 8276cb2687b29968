use Rattle.std.proofs.Common.{◌≡◌, ◌<◌, ℕ, List, false}
use Rattle.std.specs.Prelude.{slice_index}
use Rattle.raft_log_memtables.specs.Content.{Content}
use Rattle.raft_log_memtables.specs.MemTables.{content_in}
use Rattle.raft_log_traces.specs.GroupTraces.{traces_in}
use Rattle.raft_log_purge.specs.Marking.{needs_marks}
use Rattle.raft_log_purge.specs.Steps.{AreThere, HasSteps}
use Rattle.raft_log_purge.proofs.marking.mark_groups.Given as goal

abbrev pub invariant-loop-group : goal.invariant-loop-group
invariant-loop-group l = record {
  counted : l.count ≡ l.group-index;
  steps : (content : Content (List ℕ)) → AreThere (λ g. (content_in l.tables g).there) content → HasSteps content (traces_in l.fn.traces) l.fn.batch.items (traces_in l.traces) l.batch.items;
  marked : (k : ℕ) → k < l.group-index → needs_marks l.file (traces_in l.traces (slice_index l.groups k)) ≡ false;
}
