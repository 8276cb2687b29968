-- The keys so far are counted.
use Rattle.std.proofs.Common.{◌≡◌, ◌≤◌, map, take}
use Rattle.std.specs.Map.Iter.{deref_pair}
use Rattle.raft_log_traces.specs.GroupTraces.{traces_in}
use Rattle.raft_log_cleaner.specs.Live.{count_stored}
use Rattle.raft_log_cleaner.proofs.live.stored_among.Given as goal

abbrev pub invariant-loop-pair : goal.invariant-loop-pair
invariant-loop-pair l = record {
  counted : l.count ≡ count_stored (traces_in l.traces l.group) (map deref_pair (take l.pair-index l.found));
  within : l.count ≤ l.pair-index;
}
