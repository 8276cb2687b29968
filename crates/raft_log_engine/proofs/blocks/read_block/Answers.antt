use Rattle.raft_log_pipe.proofs.CausedLemmas.{told_cause}
use Rattle.raft_log_engine.specs.Caused.{IsUnread}
use Rattle.raft_log_engine.specs.declared.fault.EngineFault.{EngineFault}
use Rattle.raft_log_engine.specs.declared.fault.EngineFault.TheVariants.{Log}
use Rattle.raft_log_engine.proofs.Caused.{log_unread}
use Rattle.raft_log_engine.proofs.blocks.read_block.Goals as goal

pub returns-in_err-entries-clause-err : goal.returns-in_err-entries-clause-err
returns-in_err-entries-clause-err g c =
    let d = g.F.FileSystem.disk c.args.files.now in
    let m = g.F.FileSystem.meter c.args.files.now in
    told_cause c.from_residual.result (Log c.in_err-entries.field-0.0) (λ (fault : EngineFault). IsUnread d c.args.pipes.now m c.args.handle fault) c.from_residual.ensures.1
    (log_unread d c.args.pipes.now m c.args.handle c.in_err-entries.field-0.0 c.in_err-entries.ensures.err)
