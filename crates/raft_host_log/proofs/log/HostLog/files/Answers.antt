-- Files of a directory cross threads.
use denote.Param.Send.{sendable}
use Rattle.raft_log_host.proofs.Sent.{files_sent, files_shared}
use Rattle.raft_host_log.proofs.log.HostLog.files.Goals as goal

pub files-requires-send-F : goal.files-requires-send-F
files-requires-send-F c κs = search (sendable, files_sent)

pub files-requires-sync-F : goal.files-requires-sync-F
files-requires-sync-F c κs = search (sendable, files_shared)
