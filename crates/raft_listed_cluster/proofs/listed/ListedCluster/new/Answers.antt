use Rattle.std.proofs.Common.{List, [], sym, subst}
use Rattle.raft_sent_frames.specs.Frames.{frames_of}
use Rattle.raft_cluster_events.specs.declared.outcome.Recorded.{Recorded}
use Rattle.raft_cluster_lists.specs.declared.kept.KeptGroup.{KeptGroup}
use Rattle.raft_cluster.specs.Cluster.{IsReached}
use Rattle.raft_listed_cluster.specs.Keeping.{KeepsLists}
use Rattle.raft_listed_cluster.proofs.BeginFacts.{begin_keeps}
use Rattle.raft_listed_cluster.proofs.listed.ListedCluster.new.Goals as goal

-- nothing happened yet, and nothing is kept
pub invariant_of-result : goal.invariant_of-result
invariant_of-result g c law =
    let rules = g.N.Machine.StateMachine.rules in
    let acts = g.N.ClusterNode.acts in
    let states = g.N.ClusterNode.states in
    let cluster = c.in_ok-cluster.cluster in
    let nothing = c.in_ok-cluster.ensures.history in
    let R : List Recorded → Type 0 = λ h. IsReached acts cluster.nodes (frames_of cluster.sent) h in
    let H : List Recorded → Type 0 = λ h. KeepsLists rules acts states cluster.nodes (frames_of cluster.sent) h [] in
    let G : List KeptGroup → Type 0 = λ l. KeepsLists rules acts states cluster.nodes (frames_of cluster.sent) cluster.history l in
    subst G (sym c.new-2.ensures) (subst H (sym nothing) (begin_keeps rules acts states cluster.nodes (frames_of cluster.sent) law (subst R nothing c.replays.ensures.reached)))
