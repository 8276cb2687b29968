use Rattle.raft_log_file.proofs.HeaderLemmas.{told_front}
use Rattle.raft_log_file.proofs.reader.LogFileReader.parse_format.Goals as goal

pub returns-in-Ok : goal.returns-in-Ok
returns-in-Ok g c = told_front ((g.F.FileSystem.disk c.args.files.now).file c.args.self.now.fd.0).bytes _ _ _ _ c.max_encoded_len-len.ensures c.in_ok-front.ensures.ok c.deref.ensures.value c.in-Ok.ensures.read

pub returns : goal.returns
returns g c = told_front ((g.F.FileSystem.disk c.args.files.now).file c.args.self.now.fd.0).bytes _ _ _ _ c.max_encoded_len-len.ensures c.in_ok-front.ensures.ok c.deref.ensures.value c.in-Err.ensures.read
