use Rattle.std.proofs.Common.{refl}
use Rattle.raft_log_tools.proofs.ForkLemmas.{adds_none}
use Rattle.raft_log_tools.proofs.forking.make_parent.Goals as goal

pub returns-then-is_empty-clause-adds : goal.returns-then-is_empty-clause-adds
returns-then-is_empty-clause-adds g c = adds_none (g.F.FileSystem.disk c.args.files.now) (g.F.FileSystem.disk c.args.files.now) refl
