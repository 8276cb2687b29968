-- Files of a directory cross threads.
use denote.Param.Send.{sendable}
use Rattle.raft_log_host.proofs.Sent.{files_sent, files_shared}
use Rattle.raft_host_log.proofs.log.HostLogContentLog.is_there.Goals as goal

pub is_there-requires-send-F : goal.is_there-requires-send-F
is_there-requires-send-F c κs = search (sendable, files_sent)

pub is_there-requires-sync-F : goal.is_there-requires-sync-F
is_there-requires-sync-F c κs = search (sendable, files_shared)
