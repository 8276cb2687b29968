-- What the lists hear of a round, once it is over.
use Rattle.std.specs.Prelude.{◌≡◌, ◌≤◌, not, Bool, true, false, List, [], ◌∷◌, length}
use Rattle.std.specs.List.{AllByRecursion, filter}
use Rattle.raft_cluster_events.specs.declared.event.ClusterEvent.{ClusterEvent}
use Rattle.raft_cluster_events.specs.declared.outcome.Recorded.{Recorded}
use Rattle.raft_cluster_events.specs.Node.{NodeActs}
use Rattle.raft_cluster_lists.specs.declared.brought.Brought.{Brought}
use Rattle.raft_cluster_lists.specs.declared.kept.KeptGroup.{KeptGroup}
use Rattle.raft_cluster_lists.specs.Groups.{IsReadyFor}
use Rattle.raft_cluster.specs.Cluster.{events_of}
use Rattle.raft_cluster.specs.Facts.{Sent, node_of}
use Rattle.raft_cluster.specs.Round.{is_crash}
use Rattle.raft_listed_cluster.specs.Hearing.{IsHeardThen}

-- those of the events of which the lists hear: a crash brings no list anything
abbrev pub heard_of : List ClusterEvent → List ClusterEvent
heard_of events = filter (λ event. not (is_crash event)) events

-- there is room for all of these that are still to be heard, and what each of them brings but the crashes. Behind that there may be what
-- events bring before which the round ended
pub record AreReadyFor (records : List Recorded) (broughts : List Brought) (groups : List KeptGroup) : Type 0 where
  pub each : AllByRecursion (λ (r : Recorded). IsReadyFor r.event (length records) groups) records
  pub brought : length (heard_of (events_of records)) ≤ length broughts

-- what is heard of one record, and then of the rest
abbrev pub HearsNext : {N : Type 0} → NodeActs N → List N → Sent → Bool → Recorded → List Brought
    → (List Brought → List KeptGroup → List KeptGroup → Type 0) → List KeptGroup → List KeptGroup → Type 0
HearsNext acts nodes sent true r broughts rest olds news = rest broughts olds news
HearsNext acts nodes sent false r [] rest olds news = ⊥
HearsNext acts nodes sent false r (b ∷ bs) rest olds news =
    (mid : List KeptGroup) × IsHeardThen acts nodes sent (node_of sent r.event) r.event r.outcome b olds mid × rest bs mid news

-- the lists hear of the records in their order: of each but the crashes, with what was copied of it before the round
abbrev pub HearsRound : {N : Type 0} → NodeActs N → List N → Sent → List Recorded → List Brought → List KeptGroup → List KeptGroup → Type 0
HearsRound acts nodes sent [] broughts olds news = news ≡ olds
HearsRound acts nodes sent (r ∷ rs) broughts olds news =
    HearsNext acts nodes sent (is_crash r.event) r broughts (λ bs mid end. HearsRound acts nodes sent rs bs mid end) olds news
