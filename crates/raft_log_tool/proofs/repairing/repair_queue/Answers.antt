-- Files that were recovered are whole.
use Rattle.raft_log_recovery.specs.Queue.{directories_in, names_in}
use Rattle.raft_log_tool.proofs.RepairLemmas.{recovered_whole}
use Rattle.raft_log_tool.proofs.repairing.repair_queue.Goals as goal

pub returns-clause-ok : goal.returns-clause-ok
returns-clause-ok g c =
    let recovered = c.in_ok-recover_queue.ensures.ok in
    recovered_whole (directories_in c.args.found.now) c.args.queue (g.F.FileSystem.disk c.args.files.now) (g.F.FileSystem.disk c.recover_queue.new.files) (names_in c.args.found.now c.args.queue) c.in_ok-recover_queue.field-0.items recovered.opened
    recovered.each
