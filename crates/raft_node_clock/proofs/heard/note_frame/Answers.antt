-- The next one has noted it too.
use Rattle.std.proofs.Common.{arith}
use Rattle.raft_node_clock.specs.Heard.{noted}
use Rattle.raft_node_clock.proofs.EachHeard.{made_more}
use Rattle.raft_node_clock.proofs.heard.note_frame.Goals as goal

pub loop-heard-preserved : goal.loop-heard-preserved
loop-heard-preserved c =
    made_more (noted c.args.peer c.args.matched c.args.now) c.args.heards.now c.loop-heard.heards c.loop-heard.heard-index
    c.note.new.self _ (omega arith) (omega arith) c.loop-heard.invariant c.note.ensures
