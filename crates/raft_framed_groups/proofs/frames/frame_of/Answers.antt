-- A message without a frame has the fault of its body.
use Rattle.raft_wire.specs.Frames.{spelled_frame}
use Rattle.raft_framed_groups.specs.Frames.{frame_with}
use Rattle.raft_framed_groups.proofs.FramedLemmas.{not_framed}
use Rattle.raft_framed_groups.proofs.frames.frame_of.Goals as goal

pub returns-clause-err : goal.returns-clause-err
returns-clause-err c = not_framed c.args.group c.args.message (spelled_frame (frame_with c.args.group c.args.message)) c.in-Err.why c.in-Err.ensures.written
