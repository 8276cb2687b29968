-- Those so far had their turns.
use Rattle.std.proofs.Common.{◌≡◌, ◌++◌, ◌+◌, ◌≤◌, ℕ, List, length, map, true, vec_capacity, vec_len}
use Rattle.std.specs.Vec.Iter.{into_iter_items, into_iter_len}
use Rattle.raft_sent_frames.specs.Frames.{frames_of}
use Rattle.raft_cluster.specs.Round.{AreAhead, is_round}
use Rattle.raft_cluster.proofs.RoundLemmas.{HaveHadTurns}
use Rattle.raft_cluster.proofs.front.settle_all.Given as goal

abbrev pub invariant-loop-event : goal.invariant-loop-event
invariant-loop-event g l =
    (l.yielded ++ into_iter_items l.event-iterator ≡ into_iter_items l.initial.event-iterator)
    × (into_iter_len l.event-iterator ≡ length (into_iter_items l.event-iterator))
    × (vec_len l.history + length (into_iter_items l.event-iterator) ≤ vec_capacity l.history)
    × ((ids : List ℕ) (before : List g.row.N.Denot)
    → is_round (frames_of l.initial.sent) (into_iter_items l.initial.event-iterator) ≡ true
    → AreAhead g.N.ClusterNode.acts ids (frames_of l.initial.sent) l.initial.history.items (into_iter_items l.initial.event-iterator) (into_iter_items l.initial.event-iterator) before (map (λ slot. slot.node) l.initial.slots.items) (map (λ slot. slot.answer) l.initial.slots.items)
    → HaveHadTurns g.N.ClusterNode.acts ids (frames_of l.initial.sent) l.initial.history.items (into_iter_items l.initial.event-iterator) before (map (λ slot. slot.answer) l.initial.slots.items) l.yielded (into_iter_items l.event-iterator) (map (λ slot. slot.node) l.slots.items) (map (λ slot. slot.answer) l.slots.items) l.history.items (frames_of l.sent))
