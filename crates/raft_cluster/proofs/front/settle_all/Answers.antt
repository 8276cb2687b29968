use Rattle.std.proofs.Common.{◌≡◌, true, refl, ◌∷◌, [], ◌++◌, List, length, ap, ◌∙◌, append_assoc, append-nil, arith, sym, subst, map}
use Rattle.std.specs.Vec.Iter.{into_iter_items}
use Rattle.std.proofs.lemmas.List.{nil_from_length}
use Rattle.raft_sent_frames.specs.Frames.{frames_of}
use Rattle.raft_cluster_events.specs.declared.event.ClusterEvent.{ClusterEvent}
use Rattle.raft_cluster_events.specs.declared.outcome.Recorded.{Recorded}
use Rattle.raft_cluster.specs.Round.{AreAhead, AreAsked, IsTurned, TakesTurns, WantsMemory, is_round}
use Rattle.raft_cluster.proofs.RoundLemmas.{HaveHadTurns, at_first, at_last, had_turn, none_lacks}
use Rattle.raft_cluster.proofs.front.settle_all.Goals as goal

pub loop-event-init : goal.loop-event-init
loop-event-init g c =
    let gives = c.into_iter-event-iterator.ensures.into_iter_gives in
    let items = ap length gives.0 in
    let room = c.requires.room in (
      refl,
      let n = gives.1 in omega arith,
      omega arith,
      λ ids before round ahead. at_first g.N.ClusterNode.acts ids (frames_of c.args.sent.now) c.args.history.now.items (into_iter_items c.into_iter-event-iterator.result) before (map (λ slot. slot.answer) c.args.slots.now.items) (map (λ slot. slot.node) c.args.slots.now.items) round ahead,
    )

pub loop-event-preserved : goal.loop-event-preserved
loop-event-preserved g c =
    let acts = g.N.ClusterNode.acts in
    let at = c.loop-event in
    let x = c.in-Some.event in
    let rest = into_iter_items c.next.new.self in
    let all = into_iter_items c.into_iter-event-iterator.result in
    let first = frames_of c.args.sent.now in
    let past = c.args.history.now.items in
    let nodes = map (λ slot. slot.node) at.slots.items in
    let answers = map (λ slot. slot.answer) at.slots.items in
    let nodes' = map (λ slot. slot.node) c.take_turn.new.slots.items in
    let answers' = map (λ slot. slot.answer) c.take_turn.new.slots.items in
    let waiting = map (λ slot. slot.answer) c.args.slots.now.items in
    let steps : into_iter_items at.event-iterator ≡ x ∷ rest = c.in-Some.ensures.steps.0 in
    let short = ap length steps in
    let P : List Recorded → Type 0 = λ hs. IsTurned acts (frames_of at.sent) hs x nodes answers c.in-Ok.outcome nodes' answers' (frames_of c.take_turn.new.sent) in
    let turned = subst P c.as_slice.ensures.value c.in-Ok.ensures.ok in (
      append_assoc at.yielded (x ∷ []) _ ∙ rw (← steps) at.invariant.0,
      let was = at.invariant.1 in
          let gone = c.in-Some.ensures.steps.1 in
          omega arith,
      let room = at.invariant.2 in
          let len = c.push_reserved.ensures.len in
          let capacity = c.push_reserved.ensures.capacity in
          omega arith,
      λ ids before round ahead.
          let Q : List ClusterEvent → Type 0 = λ left. HaveHadTurns acts ids first past all before waiting at.yielded left nodes answers at.history.items (frames_of at.sent) in
          let had = subst Q steps (at.invariant.3 ids before round ahead) in
          had_turn acts ids first past all before waiting at.yielded rest x c.in-Ok.outcome nodes nodes' answers answers' at.history.items c.push_reserved.new.self.items (frames_of at.sent) (frames_of c.take_turn.new.sent) had turned c.push_reserved.ensures.items,
    )

pub returns-in_default : goal.returns-in_default
returns-in_default g c =
    let acts = g.N.ClusterNode.acts in
    let at = c.loop-event in
    let x = c.in-Some.event in
    let rest = into_iter_items c.next.new.self in
    let all = into_iter_items c.into_iter-event-iterator.result in
    let first = frames_of c.args.sent.now in
    let past = c.args.history.now.items in
    let nodes = map (λ slot. slot.node) at.slots.items in
    let answers = map (λ slot. slot.answer) at.slots.items in
    let waiting = map (λ slot. slot.answer) c.args.slots.now.items in
    let steps : into_iter_items at.event-iterator ≡ x ∷ rest = c.in-Some.ensures.steps.0 in
    let same : all ≡ c.args.events.items = c.into_iter-event-iterator.ensures.into_iter_gives.0 in
    let P : List Recorded → Type 0 = λ hs. WantsMemory acts (frames_of at.sent) hs x nodes answers in
    let wants = subst P c.as_slice.ensures.value c.in_default.ensures.memory in
    λ ids before round ahead asked.
    let R : List ClusterEvent → Type 0 = λ es. is_round first es ≡ true in
    let S : List ClusterEvent → Type 0 = λ es. AreAhead acts ids first past es es before (map (λ slot. slot.node) c.args.slots.now.items) waiting in
    let A : List ClusterEvent → Type 0 = λ es. AreAsked acts ids first past es before waiting in
    let Q : List ClusterEvent → Type 0 = λ left. HaveHadTurns acts ids first past all before waiting at.yielded left nodes answers at.history.items (frames_of at.sent) in
    let had = subst Q steps (at.invariant.3 ids before (subst R (sym same) round) (subst S (sym same) ahead)) in
    absurd (none_lacks acts ids first past all before waiting at.yielded rest x nodes answers at.history.items (frames_of at.sent) had (subst A (sym same) asked) wants)

pub returns : goal.returns
returns g c =
    let acts = g.N.ClusterNode.acts in
    let at = c.loop-event in
    let all = into_iter_items c.into_iter-event-iterator.result in
    let first = frames_of c.args.sent.now in
    let past = c.args.history.now.items in
    let nodes = map (λ slot. slot.node) at.slots.items in
    let answers = map (λ slot. slot.answer) at.slots.items in
    let waiting = map (λ slot. slot.answer) c.args.slots.now.items in
    let none : into_iter_items at.event-iterator ≡ [] = nil_from_length _ (let empty = c.in-None.ensures.steps.0 in let length = at.invariant.1 in omega arith) in
    let same : all ≡ c.args.events.items = c.into_iter-event-iterator.ensures.into_iter_gives.0 in
    let done : at.yielded ≡ all = sym (append-nil at.yielded) ∙ ap (λ l. at.yielded ++ l) (sym none) ∙ at.invariant.0 in
    λ ids before round ahead asked.
    let R : List ClusterEvent → Type 0 = λ es. is_round first es ≡ true in
    let S : List ClusterEvent → Type 0 = λ es. AreAhead acts ids first past es es before (map (λ slot. slot.node) c.args.slots.now.items) waiting in
    let Q : List ClusterEvent → Type 0 = λ left. HaveHadTurns acts ids first past all before waiting at.yielded left nodes answers at.history.items (frames_of at.sent) in
    let had = subst Q none (at.invariant.3 ids before (subst R (sym same) round) (subst S (sym same) ahead)) in
    let T : List ClusterEvent → Type 0 = λ es. TakesTurns acts first past before es nodes answers (frames_of at.sent) at.history.items in
    subst T (done ∙ same) (at_last acts ids first past all before waiting at.yielded nodes answers at.history.items (frames_of at.sent) had)

pub push_reserved-requires : goal.push_reserved-requires
push_reserved-requires g c =
    let room = c.loop-event.invariant.2 in
    let steps : into_iter_items c.loop-event.event-iterator ≡ c.in-Some.event ∷ into_iter_items c.next.new.self = c.in-Some.ensures.steps.0 in
    let short = ap length steps in omega arith
