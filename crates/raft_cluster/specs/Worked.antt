-- A node at its place in a round is worked.
use Rattle.std.specs.Prelude.{◌≡◌, ℕ, List, Option, None}
use Rattle.raft_cluster_events.specs.declared.event.ClusterEvent.{ClusterEvent}
use Rattle.raft_cluster_events.specs.declared.outcome.Recorded.{Recorded}
use Rattle.raft_cluster_events.specs.Node.{NodeActs}
use Rattle.raft_cluster.specs.declared.answer.Answer.{Answer}
use Rattle.raft_cluster.specs.Facts.{Sent}
use Rattle.raft_cluster.specs.Round.{HasPart}

module _ {N : Type 0} (acts : NodeActs N) (ids : List ℕ) (sent : Sent) (history : List Recorded) (events : List ClusterEvent) where
  -- it may have been asked for its event, and has its part of the round as before; an answer that it had stays
  pub record IsWorked (place : ℕ) (old : N) (had : Option Answer) (new : N) (has : Option Answer) : Type 0 where
    pub id : acts.id new ≡ acts.id old
    pub part : (before : N) → HasPart acts ids sent history events events place before old had → HasPart acts ids sent history events events place before new has
    pub kept : has ≡ None → had ≡ None
