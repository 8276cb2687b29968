use Rattle.std.proofs.Common.{◌≡◌, ◌<◌, ◌∙◌, ◌+◌, ℕ, List, length, map, take, refl, sym, subst, arith}
use Rattle.std.proofs.lemmas.List.{length-map}
use Rattle.std.proofs.lemmas.Option.{slice_get_read}
use Rattle.raft_sent_frames.specs.Frames.{frames_of}
use Rattle.raft_cluster.specs.Round.{AreAhead, AreAsked}
use Rattle.raft_cluster.proofs.CrashLemmas.{next_ahead, next_in, none_ahead, none_asked, one_asked}
use Rattle.raft_cluster.proofs.SlotLemmas.{map_twice}
use Rattle.raft_cluster.proofs.crashes.ask_crashes.Goals as goal

pub loop-count-init : goal.loop-count-init
loop-count-init g c =
    let acts = g.N.ClusterNode.acts in
    let slots = c.args.slots.now.items in
    let sent = frames_of c.args.sent.now in
    let nodes = map (λ slot. slot.node) slots in
    let answers = map (λ slot. slot.answer) slots in
    let ids = map (λ slot. acts.id slot.node) slots in
    record {
      ahead = none_ahead acts ids sent c.args.history.now c.args.events.now nodes answers (map_twice acts.id (λ slot. slot.node) slots) (length-map slots (λ slot. slot.answer) ∙ sym (length-map slots (λ slot. slot.node))) c.requires.idle;
      asked = none_asked acts ids sent c.args.history.now nodes c.args.events.now answers;
    }

pub loop-count-preserved : goal.loop-count-preserved
loop-count-preserved g c =
    let acts = g.N.ClusterNode.acts in
    let at = c.loop-count in
    let slots = c.args.slots.now.items in
    let sent = frames_of c.args.sent.now in
    let history = c.args.history.now in
    let events = c.args.events.now in
    let before = map (λ slot. slot.node) slots in
    let ids = map (λ slot. acts.id slot.node) slots in
    let nodes = map (λ slot. slot.node) at.slots.items in
    let answers = map (λ slot. slot.answer) at.slots.items in
    let answers' = map (λ slot. slot.answer) c.ask_if_crash.new.slots.items in
    let x = c.index-events-count.result in
    let within : at.count < length events = c.loop-count-test.true in
    let there = slice_get_read events (length events) at.count x refl within c.index-events-count.is in
    let more = next_ahead acts ids sent history events at.count before nodes answers at.invariant.ahead in
    record {
      ahead = c.ask_if_crash.ensures.ahead ids (take (at.count + 1) events) before (next_in acts ids sent history events at.count x there) more;
      asked = one_asked acts ids sent history before at.count events x answers answers' there c.ask_if_crash.ensures.kept at.invariant.asked (c.in-Ok.ensures.asked ids (take at.count events) before at.invariant.ahead);
    }

pub returns-in_default-clause-ahead : goal.returns-in_default-clause-ahead
returns-in_default-clause-ahead g c =
    let acts = g.N.ClusterNode.acts in
    let at = c.loop-count in
    let slots = c.args.slots.now.items in
    let sent = frames_of c.args.sent.now in
    let history = c.args.history.now in
    let events = c.args.events.now in
    let before = map (λ slot. slot.node) slots in
    let own = map (λ slot. acts.id slot.node) slots in
    let nodes' = map (λ slot. slot.node) c.ask_if_crash.new.slots.items in
    let answers = map (λ slot. slot.answer) at.slots.items in
    λ ids is.
    let I : List ℕ → Type 0 = λ i. AreAhead acts i sent history events (take at.count events) before nodes' (map (λ slot. slot.answer) c.ask_if_crash.new.slots.items) in
    let A : _ → Type 0 = λ ws. AreAhead acts own sent history events (take at.count events) before nodes' ws in
    let M : _ → Type 0 = λ ns. AreAhead acts own sent history events (take at.count events) before ns answers in
    subst I (sym is) (subst A (sym c.in_default.ensures.answers) (subst M (sym c.in_default.ensures.nodes) at.invariant.ahead))

pub returns-in_default-clause-asked : goal.returns-in_default-clause-asked
returns-in_default-clause-asked g c =
    let acts = g.N.ClusterNode.acts in
    let at = c.loop-count in
    let slots = c.args.slots.now.items in
    let sent = frames_of c.args.sent.now in
    let history = c.args.history.now in
    let events = c.args.events.now in
    let before = map (λ slot. slot.node) slots in
    let own = map (λ slot. acts.id slot.node) slots in
    λ ids is.
    let I : List ℕ → Type 0 = λ i. AreAsked acts i sent history (take at.count events) before (map (λ slot. slot.answer) c.ask_if_crash.new.slots.items) in
    let A : _ → Type 0 = λ ws. AreAsked acts own sent history (take at.count events) before ws in
    subst I (sym is) (subst A (sym c.in_default.ensures.answers) at.invariant.asked)

pub returns-in_default-clause-ends : goal.returns-in_default-clause-ends
returns-in_default-clause-ends g c =
    let acts = g.N.ClusterNode.acts in
    let at = c.loop-count in
    let slots = c.args.slots.now.items in
    let events = c.args.events.now in
    let before = map (λ slot. slot.node) slots in
    let ids = map (λ slot. acts.id slot.node) slots in
    let x = c.index-events-count.result in
    λ less. (x, slice_get_read events (length events) at.count x refl less c.index-events-count.is, c.in_default.ensures.memory ids (take at.count events) before at.invariant.ahead)

pub returns-clause-ahead : goal.returns-clause-ahead
returns-clause-ahead g c =
    let acts = g.N.ClusterNode.acts in
    let at = c.loop-count in
    let slots = c.args.slots.now.items in
    let sent = frames_of c.args.sent.now in
    let history = c.args.history.now in
    let events = c.args.events.now in
    let before = map (λ slot. slot.node) slots in
    let own = map (λ slot. acts.id slot.node) slots in
    let nodes = map (λ slot. slot.node) at.slots.items in
    let answers = map (λ slot. slot.answer) at.slots.items in
    let all : at.count ≡ length events = omega (arith, c.loop-count-test.false, c.loop-count.auto.count-end) in
    λ ids is.
    let I : List ℕ → Type 0 = λ i. AreAhead acts i sent history events (take (length events) events) before nodes answers in
    let C : ℕ → Type 0 = λ n. AreAhead acts own sent history events (take n events) before nodes answers in
    subst I (sym is) (subst C all at.invariant.ahead)

pub returns-clause-asked : goal.returns-clause-asked
returns-clause-asked g c =
    let acts = g.N.ClusterNode.acts in
    let at = c.loop-count in
    let slots = c.args.slots.now.items in
    let sent = frames_of c.args.sent.now in
    let history = c.args.history.now in
    let events = c.args.events.now in
    let before = map (λ slot. slot.node) slots in
    let own = map (λ slot. acts.id slot.node) slots in
    let answers = map (λ slot. slot.answer) at.slots.items in
    let all : at.count ≡ length events = omega (arith, c.loop-count-test.false, c.loop-count.auto.count-end) in
    λ ids is.
    let I : List ℕ → Type 0 = λ i. AreAsked acts i sent history (take (length events) events) before answers in
    let C : ℕ → Type 0 = λ n. AreAsked acts own sent history (take n events) before answers in
    subst I (sym is) (subst C all at.invariant.asked)
