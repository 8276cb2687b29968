-- The crashes so far were asked for.
use Rattle.std.proofs.Common.{map, take}
use Rattle.raft_sent_frames.specs.Frames.{frames_of}
use Rattle.raft_cluster.specs.Round.{AreAhead, AreAsked}
use Rattle.raft_cluster.proofs.crashes.ask_crashes.Given as goal

abbrev pub invariant-loop-count : goal.invariant-loop-count
invariant-loop-count g l = record {
  ahead : AreAhead g.N.ClusterNode.acts (map (λ slot. g.N.ClusterNode.acts.id slot.node) l.initial.slots.items) (frames_of l.sent) l.history l.events (take l.count l.events) (map (λ slot. slot.node) l.initial.slots.items) (map (λ slot. slot.node) l.slots.items) (map (λ slot. slot.answer) l.slots.items);
  asked : AreAsked g.N.ClusterNode.acts (map (λ slot. g.N.ClusterNode.acts.id slot.node) l.initial.slots.items) (frames_of l.sent) l.history (take l.count l.events) (map (λ slot. slot.node) l.initial.slots.items) (map (λ slot. slot.answer) l.slots.items);
}
