-- Of new files an opening finds nothing.
use Rattle.raft_node_logs.proofs.file_log.MemoryLogNodeLog.new_files.Goals as goal

pub returns : goal.returns
returns c = record { fresh = c.new.ensures.free; none = λ content found. c.new.ensures.none content found.found }
