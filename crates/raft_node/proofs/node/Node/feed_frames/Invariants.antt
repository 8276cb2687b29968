-- The frames so far came to their groups, whatever comes of the rest.
use Rattle.std.proofs.Common.{◌≤◌, ◌-◌, length, None}
use Rattle.raft_node.proofs.Feeds.{HasFed}
use Rattle.raft_node.proofs.node.Node.feed_frames.Given as goal

abbrev pub invariant-loop-used : goal.invariant-loop-used
invariant-loop-used g l =
    (l.used ≤ length l.piece)
    × HasFed g.M.StateMachine.state g.S.GroupStorage.is_well g.S.GroupStorage.shows g.S.GroupStorage.fails g.M.StateMachine.rules g.S.GroupStorage.stands l.peer l.now l.outcomes.items l.initial.self l.self l.piece l.used
    × g.S.GroupStorage.meets l.initial.self.groups.storage l.self.groups.storage None

abbrev pub decreases-loop-used : goal.decreases-loop-used
decreases-loop-used g l = length l.piece - l.used
