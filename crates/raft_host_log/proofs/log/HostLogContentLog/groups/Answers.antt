-- Files of a directory cross threads.
use denote.Param.Send.{sendable}
use Rattle.raft_log_host.proofs.Sent.{files_sent, files_shared}
use Rattle.raft_host_log.proofs.log.HostLogContentLog.groups.Goals as goal

pub raft_groups-requires-send-F : goal.raft_groups-requires-send-F
raft_groups-requires-send-F c κs = search (sendable, files_sent)

pub raft_groups-requires-sync-F : goal.raft_groups-requires-sync-F
raft_groups-requires-sync-F c κs = search (sendable, files_shared)
