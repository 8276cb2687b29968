use Rattle.std.proofs.Common.{map}
use Rattle.raft_log_items.specs.Found.{found_of}
use Rattle.raft_log_items.proofs.reader.LogItemReader.new_directory_reader.Goals as goal

pub returns-clause-ok : goal.returns-clause-ok
returns-clause-ok g c = (map found_of c.in_ok-found.found.items, c.in_ok-found.ensures.ok, c.over.ensures.left (g.F.FileSystem.disk c.args.files.now))

pub returns-clause-reading : goal.returns-clause-reading
returns-clause-reading g c = c.over.ensures.reading (g.F.FileSystem.disk c.args.files.now)
