use Rattle.std.proofs.Common.{rules}
use Rattle.raft_log_tools.proofs.PathLemmas.{file_stands}
use Rattle.raft_log_tools.specs.Paths.{IsNoDirectory}
use Rattle.raft_log_tools.proofs.dumping.dump.Goals as goal

pub returns-else-is_dir-clause-ok : goal.returns-else-is_dir-clause-ok
returns-else-is_dir-clause-ok g c =
    let none : IsNoDirectory (g.F.FileSystem.disk c.args.files.now) c.args.path.now = λ there. absurd (search (rules, c.is_dir.ensures.no there)) in
    file_stands c.new_file_reader.result (g.F.FileSystem.disk c.args.files.now) c.args.path.now none c.new_file_reader.ensures.file c.new_file_reader.ensures.ok
