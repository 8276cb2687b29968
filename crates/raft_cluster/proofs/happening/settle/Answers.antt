use Rattle.raft_sent_frames.specs.Frames.{frames_of}
use Rattle.raft_cluster.specs.declared.answer.Answer.TheVariants.{Cleaned, OfGroup, Opened, Quiet, Spared}
use Rattle.raft_cluster.proofs.HappeningLemmas.{ends_as_opening, ends_cleaned, ends_in_group, ends_quietly, ends_spared, of_answer}
use Rattle.raft_cluster.proofs.happening.settle.Goals as goal

pub returns-in-OfGroup : goal.returns-in-OfGroup
returns-in-OfGroup g c =
    λ event before.
    of_answer g.N.ClusterNode.acts (frames_of c.args.sent.now) event before c.args.node.now c.args.answer (OfGroup c.in-OfGroup.answered) _ c.in-OfGroup.is
    (ends_in_group g.N.ClusterNode.acts (frames_of c.args.sent.now) (frames_of c.settle_group.new.sent) event before c.args.node.now c.settle_group.new.node c.in-OfGroup.answered c.settle_group.result c.settle_group.ensures.does c.settle_group.ensures.id)

pub returns-in-Quiet : goal.returns-in-Quiet
returns-in-Quiet g c =
    λ event before.
    of_answer g.N.ClusterNode.acts (frames_of c.args.sent.now) event before c.args.node.now c.args.answer (Quiet c.in-Quiet.answered) _ c.in-Quiet.is
    (ends_quietly g.N.ClusterNode.acts (frames_of c.args.sent.now) event before c.args.node.now c.in-Quiet.answered c.settle_quietly.result c.settle_quietly.ensures)

pub returns-in-Cleaned : goal.returns-in-Cleaned
returns-in-Cleaned g c =
    λ event before.
    of_answer g.N.ClusterNode.acts (frames_of c.args.sent.now) event before c.args.node.now c.args.answer (Cleaned c.in-Cleaned.answered) _ c.in-Cleaned.is
    (ends_cleaned g.N.ClusterNode.acts (frames_of c.args.sent.now) event before c.args.node.now c.in-Cleaned.answered c.settle_cleaning.result c.settle_cleaning.ensures)

pub returns-in-Opened : goal.returns-in-Opened
returns-in-Opened g c =
    λ event before.
    of_answer g.N.ClusterNode.acts (frames_of c.args.sent.now) event before c.args.node.now c.args.answer (Opened c.in-Opened.answered) _ c.in-Opened.is
    (ends_as_opening g.N.ClusterNode.acts (frames_of c.args.sent.now) (frames_of c.settle_opening.new.sent) event before c.args.node.now c.settle_opening.new.node c.in-Opened.answered c.settle_opening.result c.settle_opening.ensures.does c.settle_opening.ensures.id)

pub returns-in-Spared : goal.returns-in-Spared
returns-in-Spared g c =
    λ event before.
    of_answer g.N.ClusterNode.acts (frames_of c.args.sent.now) event before c.args.node.now c.args.answer (Spared c.in-Spared.away) _ c.in-Spared.is
    (ends_spared g.N.ClusterNode.acts (frames_of c.args.sent.now) event before c.args.node.now c.in-Spared.away)
