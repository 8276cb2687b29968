-- None so far is the peer.
use Rattle.std.proofs.Common.{◌≡◌, drop}
use Rattle.raft_node_clock.specs.Heard.{kept_heard}
use Rattle.raft_node_clock.proofs.heard.kept_heard.Given as goal

abbrev pub invariant-loop-heard : goal.invariant-loop-heard
invariant-loop-heard l = kept_heard l.heards l.peer ≡ kept_heard (drop l.heard-index l.heards) l.peer
