use Rattle.std.proofs.Common.{ap}
use Rattle.raft_log_pipe.proofs.ReadLemmas.{block_read, file_read, unread}
use Rattle.raft_log_pipe.proofs.pipe.SinglePipe.read_bytes.Goals as goal

pub returns-clause-file : goal.returns-clause-file
returns-clause-file g c =
    file_read c.read.result c.args.self.now (g.F.FileSystem.disk c.args.files.now) c.args.handle c.in-Some.file _ c.requires c.in-Some.ensures.found.0 c.in-Some.ensures.found.1 (ap (λ h. h.0) c.build_file_reader.ensures) c.read.ensures.ok

pub returns-clause-block : goal.returns-clause-block
returns-clause-block g c =
    block_read c.read.result c.args.self.now (g.F.FileSystem.disk c.args.files.now) c.args.handle c.in-Some.file _ c.requires c.in-Some.ensures.found.0 c.in-Some.ensures.found.1 (ap (λ h. h.0) c.build_file_reader.ensures) c.read.ensures.ok

pub returns-clause-err : goal.returns-clause-err
returns-clause-err g c =
    unread c.read.result c.args.self.now (g.F.FileSystem.disk c.args.files.now) (g.F.FileSystem.meter c.args.files.now) c.args.handle c.in-Some.file _ c.in-Some.ensures.found.0 c.in-Some.ensures.found.1 (ap (λ h. h.0) c.build_file_reader.ensures) c.read.ensures.err
