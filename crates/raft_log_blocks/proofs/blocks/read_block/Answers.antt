use Rattle.std.proofs.Common.{◌∙◌, sym}
use Rattle.std.proofs.lemmas.Bool.{false≢true}
use Rattle.raft_log_files.specs.declared.error.Error.{Error}
use Rattle.raft_log_pipe.proofs.CausedLemmas.{told_cause}
use Rattle.raft_log_pipes.specs.Pipes.{pipe_of}
use Rattle.raft_log_blocks.specs.Unread.{IsUnread}
use Rattle.raft_log_blocks.proofs.EntryReads.{block_read, pipe_there}
use Rattle.raft_log_blocks.proofs.Whole.{whole_bytes, whole_unread}
use Rattle.raft_log_blocks.proofs.blocks.read_block.Goals as goal

pub returns-clause-read : goal.returns-clause-read
returns-clause-read g c =
    block_read (pipe_of c.args.pipes.now c.args.handle.id.queue) (g.F.FileSystem.disk c.args.files.now) c.args.handle c.in_ok-bytes.bytes.items c.in-Ok.entries.now c.truncate.new.self.items (pipe_there c.args.pipes.now (g.F.FileSystem.disk c.args.files.now) c.requires.pipes c.args.handle.id.queue) c.in_ok-bytes.ensures.file (λ out. false≢true (c.in_ok-bytes.ensures.out out))
    (sym c.deref.ensures.value ∙ c.in-Ok.ensures.found) c.truncate.ensures.items

pub returns-in_err-bytes-clause-err : goal.returns-in_err-bytes-clause-err
returns-in_err-bytes-clause-err g c =
    let d = g.F.FileSystem.disk c.args.files.now in
    let m = g.F.FileSystem.meter c.args.files.now in
    told_cause c.from_residual.result c.in_err-bytes.field-0.0 (λ (error : Error). IsUnread d c.args.pipes.now m c.args.handle error) c.from_residual.ensures.1
    (whole_unread d c.args.pipes.now m c.args.handle c.requires.pipes c.requires.whole c.in_err-bytes.field-0.0 c.in_err-bytes.ensures.err)

pub returns-in-Err-clause-err : goal.returns-in-Err-clause-err
returns-in-Err-clause-err g c =
    absurd (c.in-Err.ensures.only c.requires.whole.entries (c.deref.ensures.value ∙ whole_bytes (g.F.FileSystem.disk c.args.files.now) c.args.pipes.now c.args.handle c.in_ok-bytes.bytes.items c.requires.whole c.in_ok-bytes.ensures.file))
