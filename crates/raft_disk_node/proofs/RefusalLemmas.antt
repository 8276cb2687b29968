-- What a log refuses, the node of its directory does.
use Rattle.std.proofs.Common.{◌≡◌, ℕ}
use Rattle.std.specs.Prelude.{List, string_bytes, Result, Ok, Err, IfErr}
use Rattle.raft_log_files.specs.declared.config.Config.{Config}
use Rattle.raft_log_host.specs.Mirror.{OnHost}
use Rattle.raft_disk_node.specs.Refusals.{IsOfLog, IsRefusal}
use Rattle.raft_disk_node.specs.declared.fault.NotOpenedDisk.{NotOpenedDisk}
use Rattle.raft_disk_node.specs.declared.fault.NotOpenedDisk.TheVariants.{Directory, Log, Node}

of_log : (directory : List ℕ) (settings : Config) (files : OnHost) (why : NotOpenedDisk)
    → string_bytes settings.dir ≡ directory → IsOfLog settings files why → IsRefusal directory why
of_log directory settings files (Directory why) inside log = absurd log
of_log directory settings files (Log fault cause) inside log = record { settings = settings; files = files; inside = inside; log = log }
of_log directory settings files (Node fault cause) inside log = absurd log

pub refused_inside : {A : Type 0} (directory : List ℕ) (settings : Config) (files : OnHost) (opened : Result A NotOpenedDisk)
    → string_bytes settings.dir ≡ directory → IfErr opened (IsOfLog settings files) → IfErr opened (IsRefusal directory)
refused_inside directory settings files (Ok log) inside refused = refused
refused_inside directory settings files (Err why) inside refused = of_log directory settings files why inside refused
