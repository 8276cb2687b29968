use Rattle.raft_log_host.specs.Loading.{HasOnlyLoaded}
use Rattle.raft_log_host.proofs.files.HostFileSystem.load_all.Given as goal

abbrev pub invariant-loop-name : goal.invariant-loop-name
invariant-loop-name l = HasOnlyLoaded l.initial.self.events → HasOnlyLoaded l.self.events
