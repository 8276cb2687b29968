use Rattle.raft_sent_frames.specs.Frames.{frames_of}
use Rattle.raft_cluster.proofs.SlotLemmas.{all_ahead, all_kept}
use Rattle.raft_cluster.proofs.round.work_all.Goals as goal

pub returns-clause-ahead : goal.returns-clause-ahead
returns-clause-ahead g c =
    λ before. all_ahead g.N.ClusterNode.acts (λ slot. slot.node) (λ slot. slot.answer) c.args.ids.now (frames_of c.args.sent.now) c.args.history.now c.args.events.now before c.args.slots.now c.work_each.new.slots
    c.work_each.ensures.length c.work_each.ensures.worked

pub returns-clause-kept : goal.returns-clause-kept
returns-clause-kept g c =
    all_kept (λ slot. slot.answer) c.args.slots.now c.work_each.new.slots c.work_each.ensures.length
    (λ place old new was is. (c.work_each.ensures.worked place old new was is).kept)
