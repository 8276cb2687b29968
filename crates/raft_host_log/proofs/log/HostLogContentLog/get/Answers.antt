-- Files of a directory cross threads.
use denote.Param.Send.{sendable}
use Rattle.raft_log_host.proofs.Sent.{files_sent, files_shared}
use Rattle.raft_host_log.proofs.log.HostLogContentLog.get.Goals as goal

pub get-requires-send-F : goal.get-requires-send-F
get-requires-send-F c κs = search (sendable, files_sent)

pub get-requires-sync-F : goal.get-requires-sync-F
get-requires-sync-F c κs = search (sendable, files_shared)
