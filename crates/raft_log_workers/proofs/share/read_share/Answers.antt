use Rattle.std.proofs.Common.{Some, subst}
use Rattle.raft_log_records.specs.declared.file_id.FileId.{FileId}
use Rattle.raft_log_workers.specs.Reading.{IsReadBy}
use Rattle.raft_log_workers.proofs.ReadingLemmas.{read_by}
use Rattle.raft_log_workers.proofs.share.read_share.Goals as goal

pub returns-clause-read : goal.returns-clause-read
returns-clause-read g c = λ begun.
    let said = c.replay_file-read.ensures in
    let P = g.M.ReplayMachine.has_replayed c.args.share.now.machine in
    let Q = g.M.ReplayMachine.has_replayed c.replay_file-read.new.machine in
    let d = g.F.FileSystem.disk c.args.files.now in
    let m = g.F.FileSystem.meter c.args.files.now in
    subst (λ (id : FileId). IsReadBy Q d m id c.args.share.now.fd.0 (Some c.replay_file-read.result)) (λ j. record { queue = c.new-id.ensures.queue j; seq = c.new-id.ensures.seq j })
    (read_by P Q d m c.new-id.result c.args.share.now.fd.0 c.replay_file-read.result begun said.to said.fault said.format said.replayed said.corrupt said.err)
