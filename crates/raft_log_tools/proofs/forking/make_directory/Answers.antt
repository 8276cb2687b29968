use Rattle.std.proofs.Common.{refl}
use Rattle.raft_log_tools.proofs.ForkLemmas.{adds_directory, adds_none}
use Rattle.raft_log_tools.proofs.forking.make_directory.Goals as goal

pub returns-then-is_dir-clause-adds : goal.returns-then-is_dir-clause-adds
returns-then-is_dir-clause-adds g c = adds_none (g.F.FileSystem.disk c.args.files.now) (g.F.FileSystem.disk c.args.files.now) refl

pub returns-clause-adds : goal.returns-clause-adds
returns-clause-adds g c = (adds_directory (g.F.FileSystem.disk c.args.files.now) (g.F.FileSystem.disk c.make_dir.new.self) c.args.path.now _ c.make_dir.ensures.dirs).0

pub returns-clause-names : goal.returns-clause-names
returns-clause-names g c = (adds_directory (g.F.FileSystem.disk c.args.files.now) (g.F.FileSystem.disk c.make_dir.new.self) c.args.path.now _ c.make_dir.ensures.dirs).1

pub returns-in_err-make_dir-clause-adds : goal.returns-in_err-make_dir-clause-adds
returns-in_err-make_dir-clause-adds g c = (adds_directory (g.F.FileSystem.disk c.args.files.now) (g.F.FileSystem.disk c.make_dir.new.self) c.args.path.now _ c.make_dir.ensures.dirs).0

pub returns-in_err-make_dir-clause-names : goal.returns-in_err-make_dir-clause-names
returns-in_err-make_dir-clause-names g c = (adds_directory (g.F.FileSystem.disk c.args.files.now) (g.F.FileSystem.disk c.make_dir.new.self) c.args.path.now _ c.make_dir.ensures.dirs).1
