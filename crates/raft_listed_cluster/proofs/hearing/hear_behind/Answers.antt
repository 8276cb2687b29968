use Rattle.std.proofs.Common.{◌≡◌, ℕ, Option, None, refl, sym, ap, ◌∙◌, subst}
use Rattle.raft_sent_frames.specs.Frames.{frames_of}
use Rattle.raft_cluster_lists.proofs.ReadyLemmas.{keep_less}
use Rattle.raft_cluster.specs.Facts.{node_at, node_of}
use Rattle.raft_listed_cluster.specs.Hearing.{IsHeardBy}
use Rattle.raft_listed_cluster.specs.Numbers.{AcceptsBy}
use Rattle.raft_listed_cluster.proofs.hearing.hear_behind.Goals as goal

-- there is no node: nothing is heard
pub returns-in_default : goal.returns-in_default
returns-in_default g c =
    let acts = g.N.ClusterNode.acts in
    let nodes = c.args.cluster.now.nodes in
    let sent = frames_of c.args.cluster.now.sent in
    let recorded = c.args.recorded.now in
    let lists = c.args.lists.now in
    let accepted = c.accepted_by-accepted.result in
    let none : node_at acts nodes (node_of sent recorded.event) ≡ None = ap (node_at acts nodes) (sym c.node_of.ensures) ∙ sym c.in_default.ensures in
    let H : Option g.row.N.Denot → Type 0 = λ w. IsHeardBy acts w recorded.event recorded.outcome accepted c.args.brought lists lists in
    let A : Option ℕ → Type 0 = λ w. AcceptsBy sent w recorded.outcome accepted in
    record {
      accepted = accepted;
      accepts = subst A c.group_of.ensures c.accepted_by-accepted.ensures;
      heard = subst H (sym none) refl;
      room = λ n. keep_less n lists;
    }
