use Rattle.std.proofs.Common.{◌≡◌, ◌<◌, ◌+◌, ℕ, false, List, [], get_or, length, take, sym, ◌∙◌, subst, arith}
use Rattle.std.specs.Prelude.{Contains}
use Rattle.std.specs.List.{AllZip}
use Rattle.std.proofs.lemmas.List.Elements.{Contains-get_or}
use Rattle.raft_sent_frames.specs.Frames.{frames_of}
use Rattle.raft_cluster_events.specs.declared.event.ClusterEvent.{ClusterEvent}
use Rattle.raft_cluster_lists.specs.declared.brought.Brought.{Brought}
use Rattle.raft_listed_cluster.specs.Preparing.{ArePrepared, IsPreparedSo}
use Rattle.raft_cluster.specs.Round.{is_crash}
use Rattle.raft_listed_cluster.proofs.PreparedFacts.{more_prepared, nothing_prepared, prepared_more}
use Rattle.raft_listed_cluster.proofs.round.prepare_round.Goals as goal

among : (events : List ClusterEvent) (at : ℕ) (x : ClusterEvent) → at < length events → x ≡ get_or events at x → Contains events x
among events at x within is = subst (Contains events) (sym is) (Contains-get_or events at x within)

pub loop-event-init : goal.loop-event-init
loop-event-init g c =
    let R = IsPreparedSo g.N.ClusterNode.acts c.args.cluster.now.nodes (frames_of c.args.cluster.now.sent) (length c.args.events.now) c.args.lists.now in
    record {
      groups = nothing_prepared c.args.events.now c.args.lists.now;
      prepared = subst (λ (bs : List Brought). AllZip R [] bs) (sym c.new-broughts.ensures.items) tt;
    }

pub returns-in_err-brought-clause-groups : goal.returns-in_err-brought-clause-groups
returns-in_err-brought-clause-groups g c =
    let events = c.args.events.now in
    let at = c.loop-event.event-index in
    let within : at < length events = omega (arith, c.loop-event-test.true) in
    more_prepared events c.event-item.result c.args.lists.now c.loop-event.lists c.prepare_event.new.lists (among events at c.event-item.result within c.event-item.is) c.loop-event.invariant.groups c.prepare_event.ensures.groups

pub returns-in_err-push-clause-groups : goal.returns-in_err-push-clause-groups
returns-in_err-push-clause-groups g c =
    let events = c.args.events.now in
    let at = c.loop-event.event-index in
    let within : at < length events = omega (arith, c.loop-event-test.true) in
    more_prepared events c.event-item.result c.args.lists.now c.loop-event.lists c.prepare_event.new.lists (among events at c.event-item.result within c.event-item.is) c.loop-event.invariant.groups c.prepare_event.ensures.groups

pub loop-event-preserved : goal.loop-event-preserved
loop-event-preserved g c =
    let acts = g.N.ClusterNode.acts in
    let nodes = c.args.cluster.now.nodes in
    let sent = frames_of c.args.cluster.now.sent in
    let events = c.args.events.now in
    let at = c.loop-event.event-index in
    let within : at < length events = omega (arith, c.loop-event-test.true) in
    let x = c.event-item.result in
    let olds = c.loop-event.lists in
    let news = c.prepare_event.new.lists in
    let b = c.in_ok-brought.brought in
    let n = length events in
    let here : is_crash x ≡ false = sym c.is_crash.ensures ∙ c.if-is_crash.false in
    let all = prepared_more acts nodes sent n events at x olds news c.loop-event.broughts.items b within c.event-item.is here c.prepare_event.ensures.groups c.in_ok-brought.ensures.keep c.in_ok-brought.ensures.prepared c.loop-event.invariant.prepared in
    record {
      groups = more_prepared events x c.args.lists.now olds news (among events at x within c.event-item.is) c.loop-event.invariant.groups c.prepare_event.ensures.groups;
      prepared = subst (ArePrepared acts nodes sent n news (take (at + 1) events)) (sym c.in_ok-push.ensures.items) all;
    }
