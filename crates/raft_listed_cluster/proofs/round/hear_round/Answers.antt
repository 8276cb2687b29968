use Rattle.std.proofs.Common.{◌≡◌, ◌<◌, ◌+◌, ℕ, true, false, List, ◌∷◌, get_or, drop, length, refl, sym, ap, ◌∙◌, subst, arith, add-one}
use Rattle.std.specs.Vec.Iter.{into_iter_items}
use Rattle.std.proofs.Math.Seq.{drop-cons}
use Rattle.raft_sent_frames.specs.Frames.{frames_of}
use Rattle.raft_cluster_events.specs.declared.outcome.Recorded.{Recorded}
use Rattle.raft_cluster.specs.Round.{is_crash}
use Rattle.raft_listed_cluster.specs.Round.{AreReadyFor, HearsRound}
use Rattle.raft_listed_cluster.proofs.LeftFacts.{hears_on, hears_past, ready_now, ready_on, ready_past}
use Rattle.raft_listed_cluster.proofs.round.hear_round.Goals as goal

split : (records : List Recorded) (at : ℕ) (x : Recorded) → at < length records → x ≡ get_or records at x → drop at records ≡ x ∷ drop (at + 1) records
split records at x within is =
    let front : drop at records ≡ get_or records at x ∷ drop (at + 1) records = rw (add-one, drop-cons records at x) refl in
    front ∙ ap (λ y. y ∷ drop (at + 1) records) (sym is)

pub loop-recorded-preserved-then-is_crash : goal.loop-recorded-preserved-then-is_crash
loop-recorded-preserved-then-is_crash g c =
    let acts = g.N.ClusterNode.acts in
    let nodes = c.args.cluster.now.nodes in
    let sent = frames_of c.args.cluster.now.sent in
    let records = c.args.records.now in
    let loop = c.loop-recorded in
    let at = loop.recorded-index in
    let within : at < length records = omega (arith, c.loop-recorded-test.true) in
    let x = c.recorded-item.result in
    let rest = drop (at + 1) records in
    let bs = into_iter_items loop.left in
    let is = split records at x within c.recorded-item.is in
    let crash : is_crash x.event ≡ true = sym c.is_crash.ensures ∙ c.if-is_crash.true in
    record {
      ready = ready_past x rest bs loop.lists crash (subst (λ rs. AreReadyFor rs bs loop.lists) is loop.invariant.ready);
      hears = λ end all. loop.invariant.hears end (subst (λ rs. HearsRound acts nodes sent rs bs loop.lists end) (sym is) (hears_past acts nodes sent x rest bs loop.lists end crash all));
    }

pub hear_behind-requires : goal.hear_behind-requires
hear_behind-requires g c =
    let records = c.args.records.now in
    let loop = c.loop-recorded in
    let at = loop.recorded-index in
    let within : at < length records = omega (arith, c.loop-recorded-test.true) in
    let x = c.recorded-item.result in
    let bs = into_iter_items loop.left in
    let is = split records at x within c.recorded-item.is in
    ready_now x (drop (at + 1) records) bs loop.lists (subst (λ rs. AreReadyFor rs bs loop.lists) is loop.invariant.ready)

pub loop-recorded-preserved : goal.loop-recorded-preserved
loop-recorded-preserved g c =
    let acts = g.N.ClusterNode.acts in
    let nodes = c.args.cluster.now.nodes in
    let sent = frames_of c.args.cluster.now.sent in
    let records = c.args.records.now in
    let loop = c.loop-recorded in
    let at = loop.recorded-index in
    let within : at < length records = omega (arith, c.loop-recorded-test.true) in
    let x = c.recorded-item.result in
    let rest = drop (at + 1) records in
    let bs = into_iter_items loop.left in
    let is = split records at x within c.recorded-item.is in
    let here : is_crash x.event ≡ false = sym c.is_crash.ensures ∙ c.if-is_crash.false in
    let b = c.in-Some.brought in
    let left = into_iter_items c.next.new.self in
    let next : bs ≡ b ∷ left = c.in-Some.ensures.items in
    let mids = c.hear_behind.new.lists in
    let ready = subst (λ l. AreReadyFor (x ∷ rest) l loop.lists) next (subst (λ rs. AreReadyFor rs bs loop.lists) is loop.invariant.ready) in
    record {
      ready = ready_on x rest b left loop.lists mids here c.hear_behind.ensures.room ready;
      hears = λ end all.
          loop.invariant.hears end
          (subst (λ rs. HearsRound acts nodes sent rs bs loop.lists end) (sym is)
          (subst (λ l. HearsRound acts nodes sent (x ∷ rest) l loop.lists end) (sym next)
          (hears_on acts nodes sent x rest b left loop.lists mids end here c.hear_behind.ensures all)));
    }
