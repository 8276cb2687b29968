-- What is known of events before which memory was found for all that they may bring to the lists.
use Rattle.std.specs.Prelude.{◌⊎◌, ℕ, List, Option, Contains}
use Rattle.std.specs.List.{AllZip}
use Rattle.raft_list_facts.specs.declared.leading.Leading.{Leading}
use Rattle.raft_cluster_events.specs.declared.event.ClusterEvent.{ClusterEvent}
use Rattle.raft_cluster_events.specs.Node.{NodeActs}
use Rattle.raft_cluster_lists.specs.declared.brought.Brought.{Brought}
use Rattle.raft_cluster_lists.specs.declared.kept.KeptGroup.{KeptGroup}
use Rattle.raft_cluster_lists.specs.Groups.{BringsTo, IsBegunFor, IsReadyFor, IsSameGroup, KeepsOn, kept_in}
use Rattle.raft_cluster_lists.specs.Hearing.{group_of}
use Rattle.raft_cluster.specs.Facts.{Sent, node_at, node_of}
use Rattle.raft_listed_cluster.specs.Hearing.{Tells}
use Rattle.raft_listed_cluster.specs.Round.{heard_of}

-- of each group the same is kept, but that those of these events may be kept now
abbrev pub ArePreparedFor : List ClusterEvent → List KeptGroup → List KeptGroup → Type 0
ArePreparedFor events olds news =
    (h : ℕ) → KeepsOn IsSameGroup (kept_in olds h) (kept_in news h)
    ⊎ ((event : ClusterEvent) × Contains events event × IsBegunFor event h (kept_in olds h) (kept_in news h))

module _ {N : Type 0} (acts : NodeActs N) (nodes : List N) (sent : Sent) (n : ℕ) (groups : List KeptGroup) where
  -- there is room for so many events like this one, and this is what it brings to its group, with which its node leads
  pub record IsPreparedSo (event : ClusterEvent) (brought : Brought) : Type 0 where
    pub leading : Option Leading
    pub tells : Tells acts (node_at acts nodes (node_of sent event)) (group_of event) leading
    pub ready : IsReadyFor event n groups
    pub brings : BringsTo groups leading event brought

  -- so it is of each of these but the crashes
  abbrev pub ArePrepared : List ClusterEvent → List Brought → Type 0
  ArePrepared events broughts = AllZip IsPreparedSo (heard_of events) broughts
