use Rattle.std.proofs.Common.{sym, subst}
use Rattle.raft_log_records.specs.declared.file_id.LogQueue.{LogQueue}
use Rattle.raft_log_pipes.specs.Calls.{IsReadOf}
use Rattle.raft_log_pipes.specs.Pipes.{pipe_of}
use Rattle.raft_log_pipes.proofs.pipes.DualPipes.read_bytes.Goals as goal

pub returns-in-Append : goal.returns-in-Append
returns-in-Append g c =
    subst (λ (q : LogQueue). IsReadOf (pipe_of c.args.self.now q) (g.F.FileSystem.disk c.args.files.now) (g.F.FileSystem.meter c.args.files.now) c.args.handle c.read_bytes.result) (sym c.in-Append.is)
    (record { file = c.read_bytes.ensures.file; block = c.read_bytes.ensures.block; out = c.read_bytes.ensures.out; err = c.read_bytes.ensures.err })

pub returns-in-Rewrite : goal.returns-in-Rewrite
returns-in-Rewrite g c =
    subst (λ (q : LogQueue). IsReadOf (pipe_of c.args.self.now q) (g.F.FileSystem.disk c.args.files.now) (g.F.FileSystem.meter c.args.files.now) c.args.handle c.read_bytes-in-Rewrite.result) (sym c.in-Rewrite.is)
    (record { file = c.read_bytes-in-Rewrite.ensures.file; block = c.read_bytes-in-Rewrite.ensures.block; out = c.read_bytes-in-Rewrite.ensures.out; err = c.read_bytes-in-Rewrite.ensures.err })
