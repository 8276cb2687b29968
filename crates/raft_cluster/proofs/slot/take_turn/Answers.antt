use Rattle.std.proofs.Common.{◌∙◌, Result, Ok, Err, sym}
use Rattle.std.specs.Prelude.{OnErr}
use Rattle.std.proofs.lemmas.Result.{IfOk-weaker, on_err_weaker}
use Rattle.raft_sent_frames.specs.Frames.{frames_of}
use Rattle.raft_cluster.specs.Facts.{node_of}
use Rattle.raft_cluster.proofs.SlotLemmas.{at_turned, found, same_slots, stands, wants}
use Rattle.raft_cluster.proofs.slot.take_turn.Goals as goal

-- two things are said of an error
both : {A E P Q R : Type 0} (r : Result A E) → (P → Q → R) → OnErr r P → OnErr r Q → OnErr r R
both (Ok a) f p q = tt
both (Err e) f p q = f p q

pub returns-in-Some-clause-ok : goal.returns-in-Some-clause-ok
returns-in-Some-clause-ok g c =
    let acts = g.N.ClusterNode.acts in
    let slots = c.args.slots.now.items in
    let place = c.in-Some.place in
    let old = c.index_mut.result.now in
    let here = found acts (λ slot. slot.node) slots c.as_slice.result.now place c.node_of.result (node_of (frames_of c.args.sent.now) c.args.event.now) c.as_slice.ensures.value c.node_of.ensures c.in-Some.ensures.first in
    let there = stands slots c.as_slice.result.now place old c.as_slice.ensures.value c.in-Some.ensures.within c.index_mut.ensures.value in
    IfOk-weaker c.turn.result _ _
    (λ o h. at_turned acts (λ slot. slot.node) (λ slot. slot.answer) (frames_of c.args.sent.now) c.args.history.now c.args.event.now slots place old here there c.turn.new.self o (frames_of c.turn.new.sent) c.turn.ensures.left h) c.turn.ensures.ok

pub returns-in-Some-clause-memory : goal.returns-in-Some-clause-memory
returns-in-Some-clause-memory g c =
    let acts = g.N.ClusterNode.acts in
    let slots = c.args.slots.now.items in
    let place = c.in-Some.place in
    let old = c.index_mut.result.now in
    let here = found acts (λ slot. slot.node) slots c.as_slice.result.now place c.node_of.result (node_of (frames_of c.args.sent.now) c.args.event.now) c.as_slice.ensures.value c.node_of.ensures c.in-Some.ensures.first in
    let there = stands slots c.as_slice.result.now place old c.as_slice.ensures.value c.in-Some.ensures.within c.index_mut.ensures.value in
    both c.turn.result
    (λ admitted why. wants acts (λ slot. slot.node) (λ slot. slot.answer) (frames_of c.args.sent.now) c.args.history.now c.args.event.now slots place old here there why.0 admitted why.1) c.turn.ensures.admitted c.turn.ensures.memory

pub returns-in-Some-clause-nodes : goal.returns-in-Some-clause-nodes
returns-in-Some-clause-nodes g c =
    let slots = c.args.slots.now.items in
    let there = stands slots c.as_slice.result.now c.in-Some.place c.index_mut.result.now c.as_slice.ensures.value c.in-Some.ensures.within c.index_mut.ensures.value in
    on_err_weaker c.turn.result (same_slots (λ slot. slot.node) slots c.in-Some.place c.index_mut.result.now c.turn.new.self there) c.turn.ensures.node

pub returns-in-Some-clause-answers : goal.returns-in-Some-clause-answers
returns-in-Some-clause-answers g c =
    let slots = c.args.slots.now.items in
    let there = stands slots c.as_slice.result.now c.in-Some.place c.index_mut.result.now c.as_slice.ensures.value c.in-Some.ensures.within c.index_mut.ensures.value in
    on_err_weaker c.turn.result (λ why. same_slots (λ slot. slot.answer) slots c.in-Some.place c.index_mut.result.now c.turn.new.self there (c.turn.ensures.left ∙ sym why.0)) c.turn.ensures.memory
