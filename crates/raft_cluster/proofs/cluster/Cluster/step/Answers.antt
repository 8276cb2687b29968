use Rattle.std.proofs.Common.{◌≡◌, List, [], ◌∷◌, ◌++◌, map, sym, ap, ◌∙◌, subst}
use Rattle.raft_sent_frames.specs.Frames.{frames_of}
use Rattle.raft_cluster_events.specs.declared.outcome.Recorded.{Recorded}
use Rattle.raft_cluster.specs.Cluster.{ClusterValue, Happens, RunsTo, Steps, nothing_sent}
use Rattle.raft_cluster.proofs.ClusterLemmas.{runs_on}
use Rattle.raft_cluster.proofs.RoundLemmas.{stepped}
use Rattle.raft_cluster.proofs.cluster.Cluster.step.Goals as goal

pub invariant_of-self-2 : goal.invariant_of-self-2
invariant_of-self-2 g c =
    let acts = g.N.ClusterNode.acts in
    let reached = c.self.invariant.0 in
    let old = c.self.inside in
    let new = c.take_turn.new in
    let nodes = map (λ slot. slot.node) old.slots.items in
    let nodes' = map (λ slot. slot.node) new.slots.items in
    let o = c.in_ok-outcome.outcome in
    let r : Recorded = record { event = c.args.event; outcome = o } in
    let pushed : c.push.new.self.items ≡ old.history.items ++ r ∷ [] = (rw c.unwrap.ensures at c.push.ensures.items) ∙ ap (λ l. l ++ r ∷ []) c.reserve.ensures.items in
    let turn = stepped acts (frames_of old.sent) (frames_of new.sent) c.as_slice.result.now c.args.event o nodes nodes' (map (λ slot. slot.answer) old.slots.items) (map (λ slot. slot.answer) new.slots.items) c.self.invariant.1 c.in_ok-outcome.ensures.ok in
    let P : List Recorded → Type 0 = λ h. Happens acts nodes (frames_of old.sent) h c.args.event o nodes' (frames_of new.sent) in
    let happened = subst P (c.as_slice.ensures.value ∙ c.reserve.ensures.items) turn.happens in
    let Q : List Recorded → Type 0 = λ h. RunsTo acts reached.first nothing_sent [] h nodes' (frames_of new.sent) in (
      record {
        first = reached.first;
        new = reached.new;
        runs = subst Q (sym pushed) (runs_on acts reached.first nothing_sent [] old.history.items nodes (frames_of old.sent) r nodes' (frames_of new.sent) reached.runs happened);
      },
      turn.idle,
    )

pub returns-clause-ok : goal.returns-clause-ok
returns-clause-ok g c =
    let acts = g.N.ClusterNode.acts in
    let old = c.self.inside in
    let new = c.take_turn.new in
    let nodes = map (λ slot. slot.node) old.slots.items in
    let nodes' = map (λ slot. slot.node) new.slots.items in
    let o = c.in_ok-outcome.outcome in
    let r : Recorded = record { event = c.args.event; outcome = o } in
    let pushed : c.push.new.self.items ≡ old.history.items ++ r ∷ [] = (rw c.unwrap.ensures at c.push.ensures.items) ∙ ap (λ l. l ++ r ∷ []) c.reserve.ensures.items in
    let turn = stepped acts (frames_of old.sent) (frames_of new.sent) c.as_slice.result.now c.args.event o nodes nodes' (map (λ slot. slot.answer) old.slots.items) (map (λ slot. slot.answer) new.slots.items) c.self.invariant.1 c.in_ok-outcome.ensures.ok in
    let P : List Recorded → Type 0 = λ h. Happens acts nodes (frames_of old.sent) h c.args.event o nodes' (frames_of new.sent) in
    let happened = subst P (c.as_slice.ensures.value ∙ c.reserve.ensures.items) turn.happens in
    let Q : ClusterValue g.row.N.Denot → Type 0 = λ v. Steps acts v c.args.event (record { nodes = nodes'; sent = new.sent; history = c.push.new.self.items }) in
    subst Q c.self.view_is (record { outcome = o; history = pushed; happens = happened })
