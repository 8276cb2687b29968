-- What the type of a cluster keeps that has the list of each group.
use Rattle.std.specs.Prelude.{ℕ, List, [], ◌∷◌, Option, Some, None}
use Rattle.std.specs.List.{AllByRecursion}
use Rattle.raft_group_step.specs.Values.{Membership}
use Rattle.raft_machines.specs.Machine.{MachineRules}
use Rattle.raft_cluster_events.specs.declared.outcome.Recorded.{Recorded}
use Rattle.raft_cluster_events.specs.Node.{NodeActs}
use Rattle.raft_cluster_events.specs.States.{NodeStates}
use Rattle.raft_cluster_lists.specs.declared.kept.KeptGroup.{KeptGroup}
use Rattle.raft_cluster_lists.specs.Groups.{kept_in}
use Rattle.raft_cluster_lists.specs.Keeping.{GroupNotes, KeepsList}
use Rattle.raft_cluster_lists.specs.Lists.{stopped_at}
use Rattle.raft_cluster.specs.Cluster.{IsNew, RunsTo, nothing_sent}
use Rattle.raft_cluster.specs.Facts.{Sent}
use Rattle.raft_cluster.specs.Joined.{downs_of, ids_of}
use Rattle.raft_cluster.proofs.JoinLemmas.{IsToldSoFar}
use Rattle.raft_cluster.proofs.PlainLemmas.{first_set_up}

abbrev pub one_of : Option Membership → List Membership
one_of None = []
one_of (Some membership) = membership ∷ []

-- what is kept of a group, with the first set-up that was asked for and taken: each later one names the same membership
abbrev pub noted_with : KeptGroup → Option Membership → GroupNotes
noted_with kept asked = record { notes = kept.list.notes; stopped = stopped_at kept.stopped.items; asked = one_of asked }

abbrev pub notes_of : Option KeptGroup → Option Membership → Option GroupNotes
notes_of None asked = None
notes_of (Some kept) asked = Some (noted_with kept asked)

module _ {N : Type 0} (rules : MachineRules) (acts : NodeActs N) (states : NodeStates N) where
  -- behind the histories, real and plain, this is kept of each group
  abbrev pub KeepsEach : (ids downs : List ℕ) (nodes : List N) (sent : Sent) (history : List Recorded)
      → IsToldSoFar rules acts states ids downs nodes sent history → List KeptGroup → Type 0
  KeepsEach ids downs nodes sent history so_far groups =
      (h : ℕ) → KeepsList rules ids h (so_far.told.stand.candidates h) so_far.told.plain (notes_of (kept_in groups h) (first_set_up h history))

  -- the history leads from nodes that had nothing to what there is, and of each group this is kept
  pub record KeepsLists (nodes : List N) (sent : Sent) (history : List Recorded) (groups : List KeptGroup) : Type 0 where
    pub first : List N
    pub new : AllByRecursion (IsNew acts) first
    pub runs : RunsTo acts first nothing_sent [] history nodes sent
    pub so_far : IsToldSoFar rules acts states (ids_of acts first) (downs_of acts first) nodes sent history
    pub each : KeepsEach (ids_of acts first) (downs_of acts first) nodes sent history so_far groups
