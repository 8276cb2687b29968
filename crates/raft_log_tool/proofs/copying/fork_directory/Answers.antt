use Rattle.std.proofs.Common.{refl}
use Rattle.raft_log_tools.proofs.ForkLemmas.{adds_none}
use Rattle.raft_log_tool.proofs.copying.fork_directory.Goals as goal

pub returns-in_err-config-clause-adds : goal.returns-in_err-config-clause-adds
returns-in_err-config-clause-adds g c = adds_none (g.F.FileSystem.disk c.args.files.now) (g.F.FileSystem.disk c.args.files.now) refl
