use Rattle.raft_log_files.proofs.OpeningLemmas.{opened_err}
use Rattle.raft_log_files.proofs.opening.open_listed.Goals as goal

pub returns-in-Err-clause-err : goal.returns-in-Err-clause-err
returns-in-Err-clause-err g c = opened_err (g.F.FileSystem.disk c.args.files.now) c.args.path.now _ _ c.in-Err.fault _ c.from.ensures c.requires c.in-Err.ensures.cause
