use Rattle.std.proofs.Common.{◌∙◌, ap, length}
use Rattle.std.specs.String.{string_bytes}
use Rattle.raft_sent_frames.specs.Frames.{frames_of}
use Rattle.raft_cluster.specs.Facts.{node_of}
use Rattle.raft_cluster.specs.Fused.{place_behind}
use Rattle.raft_cluster_script.proofs.FuseLemmas.{shows_cut, shows_whole}
use Rattle.raft_cluster_script.proofs.fuse.happen_fused.Goals as goal

pub returns-then-cut : goal.returns-then-cut
returns-then-cut g c =
    shows_cut g.N.ClusterNode.acts g.N.Machine.ScriptMachine.speech c.stopped_text.result string_bytes c.args.first c.args.cluster.now c.args.event c.in_ok-cut.cut c.step_fused.new.self c.in_ok-cut.ensures.ok c.if-cut.true c.stopped_text.ensures

pub returns : goal.returns
returns g c =
    let before = c.history-before.result.now in
    let place = c.place_behind-at.ensures ∙ ap (λ node. place_behind node (length before)) c.node_of-node.ensures ∙ ap (λ l. place_behind (node_of (frames_of c.args.cluster.now.sent) c.args.event) (length l)) c.history-before.ensures in
    shows_whole g.N.ClusterNode.acts g.N.Machine.ScriptMachine.speech c.outcome_text.result string_bytes c.args.first c.args.cluster.now c.args.event c.in_ok-cut.cut c.step_fused.new.self c.in_ok-cut.ensures.ok c.if-cut.false c.index-history-at.result c.history-history.result.now c.place_behind-at.result c.history-history.ensures place c.outcome_text.ensures
