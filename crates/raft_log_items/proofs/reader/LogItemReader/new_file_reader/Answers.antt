use Rattle.raft_log_items.proofs.reader.LogItemReader.new_file_reader.Goals as goal

pub returns-clause-reading : goal.returns-clause-reading
returns-clause-reading g c = c.over.ensures.reading (g.F.FileSystem.disk c.args.files.now)
