-- Files of a directory cross threads.
use denote.Param.Send.{sendable}
use Rattle.raft_log_host.proofs.Sent.{files_sent, files_shared}
use Rattle.raft_node_files.proofs.home.status_of.Goals as goal

pub log_status-requires-send-F : goal.log_status-requires-send-F
log_status-requires-send-F c κs = search (sendable, files_sent)

pub log_status-requires-sync-F : goal.log_status-requires-sync-F
log_status-requires-sync-F c κs = search (sendable, files_shared)
