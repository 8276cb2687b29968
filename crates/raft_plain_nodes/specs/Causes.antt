-- Why a node on a log in memory stops, and what a crash may leave of one.
use Rattle.std.specs.Prelude.{◌≡◌}
use Rattle.raft_cluster_events.specs.declared.event.CrashChoice.{CrashChoice}
use Rattle.raft_cluster_events.specs.declared.event.CrashChoice.TheVariants as choice
use Rattle.raft_cluster_events.specs.declared.outcome.StopCause.{StopCause}
use Rattle.raft_cluster_events.specs.declared.outcome.StopCause.TheVariants as stop_cause
use Rattle.raft_content_log.specs.declared.plain_log.PlainFault.TheVariants as plain_fault
use Rattle.raft_plain_nodes.specs.declared.fused_log.FusedChoice.{FusedChoice}
use Rattle.raft_plain_nodes.specs.declared.fused_log.FusedChoice.TheVariants as fused
use Rattle.raft_plain_nodes.specs.declared.fused_log.FusedFault.{FusedFault}
use Rattle.raft_plain_nodes.specs.declared.fused_log.FusedFault.TheVariants.{Plain, Refused}

abbrev pub cause_of_fault : FusedFault → StopCause
cause_of_fault Refused = stop_cause.Io
cause_of_fault (Plain plain_fault.Memory) = stop_cause.Memory
cause_of_fault (Plain plain_fault.Lost) = stop_cause.Memory
cause_of_fault (Plain plain_fault.NotTaken) = stop_cause.Other
cause_of_fault (Plain plain_fault.NotThere) = stop_cause.Other

-- what is stored stays; it has no bytes of files
abbrev pub ChoosesSo : CrashChoice → FusedChoice → Type 0
ChoosesSo choice.Least chosen = chosen ≡ fused.Stored
ChoosesSo choice.Most chosen = chosen ≡ fused.Stored
ChoosesSo (choice.Bytes images) chosen = chosen ≡ fused.Bytes
