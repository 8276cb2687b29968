-- What is known of an event around a step of the cluster, and heard of it.
use Rattle.std.specs.Prelude.{◌≡◌, ℕ, suc, List, drop, length, Option, Some, None}
use Rattle.raft_sent_frames.specs.Frames.{first_accepted}
use Rattle.raft_list_facts.specs.declared.acceptance.Acceptance.{Acceptance}
use Rattle.raft_list_facts.specs.declared.leading.Leading.{Leading}
use Rattle.raft_cluster_events.specs.declared.event.ClusterEvent.{ClusterEvent}
use Rattle.raft_cluster_events.specs.declared.outcome.EventOutcome.{EventOutcome}
use Rattle.raft_cluster_events.specs.Node.{NodeActs}
use Rattle.raft_cluster_lists.specs.declared.brought.Brought.{Brought}
use Rattle.raft_cluster_lists.specs.declared.kept.KeptGroup.{KeptGroup}
use Rattle.raft_cluster_lists.specs.Groups.{IsHeard, KeepReady}
use Rattle.raft_cluster_lists.specs.Hearing.{group_of}
use Rattle.raft_cluster.specs.Facts.{Sent, node_at}
use Rattle.raft_listed_cluster.specs.Numbers.{AcceptsBy}

-- so many frames were sent in the group, if there is one
abbrev pub HasSent : Sent → Option ℕ → ℕ → Type 0
HasSent sent group count = (h : ℕ) → group ≡ Some h → count ≡ length (sent h)

-- this is the first that the group's frames behind so many accept
abbrev pub AcceptsSince : Sent → Option ℕ → ℕ → Option Acceptance → Type 0
AcceptsSince sent group count accepted = (h : ℕ) → group ≡ Some h → accepted ≡ first_accepted (drop count (sent h))

module _ {N : Type 0} (acts : NodeActs N) where
  -- the node tells that it leads the group with this; where there is no node, none leads
  abbrev pub Tells : Option N → Option ℕ → Option Leading → Type 0
  Tells None group leading = leading ≡ None
  Tells (Some node) group leading = (h : ℕ) → group ≡ Some h → acts.leads node h leading

  -- the lists heard of the event by its node; of one without a node they hear nothing
  abbrev pub IsHeardBy : Option N → ClusterEvent → EventOutcome → Option Acceptance → Brought → List KeptGroup → List KeptGroup → Type 0
  IsHeardBy None event outcome accepted brought olds news = news ≡ olds
  IsHeardBy (Some node) event outcome accepted brought olds news =
      IsHeard (acts.id node) (acts.leads node) event outcome accepted brought olds news

  -- behind the event, its node and its group's frames
  pub record IsHeardOf (nodes : List N) (sent : Sent) (id group : Option ℕ) (count : ℕ) (event : ClusterEvent) (outcome : EventOutcome)
      (brought : Brought) (olds news : List KeptGroup) : Type 0 where
    pub accepted : Option Acceptance
    pub accepts : AcceptsSince sent group count accepted
    pub heard : IsHeardBy (node_at acts nodes id) event outcome accepted brought olds news

  -- behind the whole round of the event, its node and its group's frames by their numbers; each event takes room for one
  pub record IsHeardThen (nodes : List N) (sent : Sent) (id : Option ℕ) (event : ClusterEvent) (outcome : EventOutcome) (brought : Brought)
      (olds news : List KeptGroup) : Type 0 where
    pub accepted : Option Acceptance
    pub accepts : AcceptsBy sent (group_of event) outcome accepted
    pub heard : IsHeardBy (node_at acts nodes id) event outcome accepted brought olds news
    pub room : (n : ℕ) → KeepReady (suc n) n olds news
