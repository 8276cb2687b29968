-- The first so many have noted it.
use Rattle.std.proofs.Common.{◌≡◌, ◌++◌, take, drop}
use Rattle.raft_node_clock.specs.Heard.{all_noted}
use Rattle.raft_node_clock.proofs.heard.note_frame.Given as goal

abbrev pub invariant-loop-heard : goal.invariant-loop-heard
invariant-loop-heard l =
    l.heards
    ≡ all_noted l.peer l.matched l.now (take l.heard-index l.initial.heards) ++ drop l.heard-index l.initial.heards
