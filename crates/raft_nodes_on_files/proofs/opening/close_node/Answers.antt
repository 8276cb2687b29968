use Rattle.std.proofs.Common.{ap, ◌∙◌, subst}
use Rattle.raft_log_disk.specs.MemorySystem.{disk_in}
use Rattle.raft_log_engine.specs.Closing as closing
use Rattle.raft_log_engine.specs.Log.{leaves_of_log}
use Rattle.raft_log_engine.specs.declared.memory.MemoryLog.{MemoryLog}
use Rattle.raft_nodes_on_files.specs.OnFiles.{on_files}
use Rattle.raft_nodes_on_logs.proofs.Handing.{handed_back}
use Rattle.raft_nodes_on_files.proofs.opening.close_node.Goals as goal

pub returns-clause-shown : goal.returns-clause-shown
returns-clause-shown g c =
    handed_back (on_files g.M.StateMachine g.M.StateMachine.rules g.M.StateMachine.state) c.args.node.groups.storage (closing.handed_back c.close.result)
    (λ content found. subst (λ (l : MemoryLog). leaves_of_log disk_in l content) (c.into_log.ensures ∙ ap (λ s. s.log) c.into_storage.ensures)
    (c.close.ensures.as_read content found.genuine found.found))
