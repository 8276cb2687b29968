use Rattle.std.proofs.Common.{◌∙◌, List, map, sym, ap, subst}
use Rattle.raft_sent_frames.specs.Frames.{frames_of}
use Rattle.raft_cluster_events.specs.declared.outcome.Recorded.{Recorded}
use Rattle.raft_cluster.specs.Cluster.{ClusterValue, IsReached}
use Rattle.raft_cluster.specs.Round.{Rounds, RunsFront, is_round}
use Rattle.raft_cluster.proofs.RoundLemmas.{reached_on, rounds_so}
use Rattle.raft_cluster.proofs.cluster.Cluster.run_round.Goals as goal

pub invariant_of-self-2 : goal.invariant_of-self-2
invariant_of-self-2 g c =
    let acts = g.N.ClusterNode.acts in
    let old = c.self.inside in
    let new = c.run_front-count.new in
    let nodes = map (λ slot. slot.node) old.slots.items in
    let nodes' = map (λ slot. slot.node) new.slots.items in
    let answers' = map (λ slot. slot.answer) new.slots.items in
    let count = c.run_front-count.result in
    let H : List Recorded → Type 0 = λ hs. RunsFront acts (frames_of old.sent) hs nodes c.args.events.items count nodes' answers' (frames_of new.sent) new.history.items in
    let front = subst H c.reserve.ensures.items c.run_front-count.ensures in
    (reached_on acts (frames_of old.sent) (frames_of new.sent) old.history.items new.history.items nodes nodes' _ answers' c.self.invariant.0 front.turns, front.turns.idle)

pub returns-clause-runs : goal.returns-clause-runs
returns-clause-runs g c =
    let acts = g.N.ClusterNode.acts in
    let old = c.self.inside in
    let new = c.run_front-count.new in
    let events = c.args.events.items in
    let nodes = map (λ slot. slot.node) old.slots.items in
    let nodes' = map (λ slot. slot.node) new.slots.items in
    let answers' = map (λ slot. slot.answer) new.slots.items in
    let count = c.run_front-count.result in
    let H : List Recorded → Type 0 = λ hs. RunsFront acts (frames_of old.sent) hs nodes events count nodes' answers' (frames_of new.sent) new.history.items in
    let front = subst H c.reserve.ensures.items c.run_front-count.ensures in
    let was : ClusterValue g.row.N.Denot = record { nodes = nodes; sent = old.sent; history = old.history.items } in
    let is : ClusterValue g.row.N.Denot = record { nodes = nodes'; sent = new.sent; history = new.history.items } in
    let V : ClusterValue g.row.N.Denot → Type 0 = λ v. Rounds acts v events count is in
    subst V c.self.view_is (rounds_so acts was is events count answers' front)

pub run_front-count-requires-clause-round : goal.run_front-count-requires-clause-round
run_front-count-requires-clause-round g c =
    λ κs within. ap (is_round (frames_of c.self.inside.sent)) (sym c.as_slice.ensures.value) ∙ sym c.is_round.ensures ∙ c.if-not-is_round.false

pub run_front-count-requires-clause-ids : goal.run_front-count-requires-clause-ids
run_front-count-requires-clause-ids g c = λ κs within. c.as_slice-3.ensures.value ∙ c.in-Ok.ensures ∙ ap (map (λ slot. g.N.ClusterNode.acts.id slot.node)) c.as_slice-2.ensures.value

pub run_front-count-requires-clause-idle : goal.run_front-count-requires-clause-idle
run_front-count-requires-clause-idle g c = λ κs within. c.self.invariant.1

pub invariant_of-self : goal.invariant_of-self
invariant_of-self g c =
    let old = c.self.inside in
    let P : List Recorded → Type 0 = λ h. IsReached g.N.ClusterNode.acts (map (λ slot. slot.node) old.slots.items) (frames_of old.sent) h in
    (subst P (sym c.reserve.ensures.items) c.self.invariant.0, c.self.invariant.1)
