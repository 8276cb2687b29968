use Rattle.std.proofs.Common.{◌-◌, ◌≤◌, length}
use Rattle.raft_log_host.specs.Loading.{HasOnlyLoaded}
use Rattle.raft_log_host.proofs.files.HostFileSystem.adopt_all.Given as goal

abbrev pub invariant-loop-at : goal.invariant-loop-at
invariant-loop-at l = (l.at ≤ length l.bytes) × (HasOnlyLoaded l.initial.self.events → HasOnlyLoaded l.self.events)

abbrev pub decreases-loop-at : goal.decreases-loop-at
decreases-loop-at l = length l.bytes - l.at
