-- What came of a piece of one frame is what came of a whole piece.
use Rattle.raft_node.specs.Feeding.{so_far}
use Rattle.raft_node.specs.Standing.{value_of}
use Rattle.raft_node.proofs.Feeds.{feeds_part, feeds_whole, part_waits}
use Rattle.raft_node.proofs.node.Node.feed.Goals as goal

pub returns-clause-whole : goal.returns-clause-whole
returns-clause-whole g c = λ frame going stream fits some is.
    feeds_whole g.M.StateMachine.state g.S.GroupStorage.is_well g.S.GroupStorage.shows g.S.GroupStorage.fails g.M.StateMachine.rules g.S.GroupStorage.stands c.args.peer c.args.now c.args.self.now c.feed_frames.new.self c.args.piece.now frame fits is some stream
    c.feed_frames.result.outcomes.items c.feed_frames.result.fault c.feed_frames.result.used c.feed_frames.ensures.frames

pub returns-clause-part : goal.returns-clause-part
returns-clause-part g c = λ frame more going stream fits some is.
    feeds_part g.M.StateMachine.state g.S.GroupStorage.is_well g.S.GroupStorage.shows g.S.GroupStorage.fails g.M.StateMachine.rules g.S.GroupStorage.stands c.args.peer c.args.now c.args.self.now c.feed_frames.new.self c.args.piece.now
    (part_waits (so_far (value_of g.M.StateMachine.state g.S.GroupStorage.is_well g.S.GroupStorage.shows g.S.GroupStorage.fails c.args.self.now) c.args.peer c.args.piece.now) more frame fits some is) stream
    c.feed_frames.result.outcomes.items c.feed_frames.result.fault c.feed_frames.result.used c.feed_frames.ensures.frames
