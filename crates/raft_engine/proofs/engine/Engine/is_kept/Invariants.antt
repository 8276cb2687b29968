-- Whether an entry needs the log is up to the rest.
use Rattle.std.proofs.Common.{◌≡◌}
use Rattle.std.specs.List.{list_any}
use Rattle.raft_engine.proofs.PeersLemmas.{entry_needs}
use Rattle.raft_engine.proofs.engine.Engine.is_kept.Given as goal

abbrev pub invariant-loop-entry : goal.invariant-loop-entry
invariant-loop-entry g l =
    list_any (entry_needs l.place l.leader) l.entry-iterator ≡ list_any (entry_needs l.place l.leader) l.initial.entry-iterator
