use Rattle.std.proofs.Common.{◌≡◌, ◌∙◌, true, false, Some, ap, map, sym}
use Rattle.std.proofs.lemmas.Result.{on_err_weaker, on_ok_weaker}
use Rattle.raft_sent_frames.specs.Frames.{frames_of}
use Rattle.raft_cluster.specs.Facts.{node_of}
use Rattle.raft_cluster.proofs.CrashLemmas.{asked_nowhere, asked_there, refused_there, stands_by}
use Rattle.raft_cluster.proofs.SlotLemmas.{found, mapped_at, missing, one_ahead, one_kept, same_slots, stands}
use Rattle.raft_cluster.proofs.crashes.ask_if_crash.Goals as goal

pub returns-then-not-is_crash-clause-asked : goal.returns-then-not-is_crash-clause-asked
returns-then-not-is_crash-clause-asked g c =
    λ ids left before ahead place node crash here was none free. let no : false ≡ true = sym c.if-not-is_crash.true ∙ c.is_crash.ensures ∙ crash in absurd (cc)

pub returns-in-Some-clause-ahead : goal.returns-in-Some-clause-ahead
returns-in-Some-clause-ahead g c =
    let acts = g.N.ClusterNode.acts in
    let sent = frames_of c.args.sent.now in
    let history = c.args.history.now in
    let events = c.args.events.now in
    let event = c.args.event.now in
    let slots = c.args.slots.now.items in
    let place = c.in-Some.place in
    let old = c.index_mut.result.now in
    let new = c.ask_ahead.new.slot in
    let here = found acts (λ slot. slot.node) slots c.as_slice.result.now place c.node_of.result (node_of sent event) c.as_slice.ensures.value c.node_of.ensures c.in-Some.ensures.first in
    let there = stands slots c.as_slice.result.now place old c.as_slice.ensures.value c.in-Some.ensures.within c.index_mut.ensures.value in
    λ ids left before among ahead.
    let by = stands_by acts ids sent history events left before (map (λ slot. slot.node) slots) (map (λ slot. slot.answer) slots) event ahead ∙ here in
    one_ahead acts (λ slot. slot.node) (λ slot. slot.answer) ids sent history events left before slots place old new there c.ask_ahead.ensures.id (λ b. c.ask_ahead.ensures.part ids left place b among by) ahead

pub returns-in-Some-clause-kept : goal.returns-in-Some-clause-kept
returns-in-Some-clause-kept g c =
    let slots = c.args.slots.now.items in
    let place = c.in-Some.place in
    let old = c.index_mut.result.now in
    let there = stands slots c.as_slice.result.now place old c.as_slice.ensures.value c.in-Some.ensures.within c.index_mut.ensures.value in
    one_kept (λ slot. slot.answer) slots place old c.ask_ahead.new.slot there c.ask_ahead.ensures.kept

pub returns-in-Some-clause-asked : goal.returns-in-Some-clause-asked
returns-in-Some-clause-asked g c =
    let acts = g.N.ClusterNode.acts in
    let sent = frames_of c.args.sent.now in
    let history = c.args.history.now in
    let events = c.args.events.now in
    let event = c.args.event.now in
    let slots = c.args.slots.now.items in
    let place = c.in-Some.place in
    let old = c.index_mut.result.now in
    let here = found acts (λ slot. slot.node) slots c.as_slice.result.now place c.node_of.result (node_of sent event) c.as_slice.ensures.value c.node_of.ensures c.in-Some.ensures.first in
    let there = stands slots c.as_slice.result.now place old c.as_slice.ensures.value c.in-Some.ensures.within c.index_mut.ensures.value in
    on_ok_weaker c.ask_ahead.result
    (λ waits ids left before ahead. asked_there acts ids sent history events (λ slot. slot.node) (λ slot. slot.answer) left before slots event place old c.ask_ahead.new.slot there here c.ask_ahead.ensures.kept waits ahead) c.ask_ahead.ensures.waits

pub returns-in-Some-clause-memory : goal.returns-in-Some-clause-memory
returns-in-Some-clause-memory g c =
    let acts = g.N.ClusterNode.acts in
    let sent = frames_of c.args.sent.now in
    let history = c.args.history.now in
    let events = c.args.events.now in
    let event = c.args.event.now in
    let slots = c.args.slots.now.items in
    let place = c.in-Some.place in
    let old = c.index_mut.result.now in
    let here = found acts (λ slot. slot.node) slots c.as_slice.result.now place c.node_of.result (node_of sent event) c.as_slice.ensures.value c.node_of.ensures c.in-Some.ensures.first in
    let there = stands slots c.as_slice.result.now place old c.as_slice.ensures.value c.in-Some.ensures.within c.index_mut.ensures.value in
    on_err_weaker c.ask_ahead.result
    (λ why ids left before ahead. refused_there acts ids sent history events left before (map (λ slot. slot.node) slots) (map (λ slot. slot.answer) slots) event place old.node ahead here (mapped_at (λ slot. slot.node) slots place old there)
    (mapped_at (λ slot. slot.answer) slots place old there ∙ ap Some why.0) why.1) c.ask_ahead.ensures.memory

pub returns-in-Some-clause-nodes : goal.returns-in-Some-clause-nodes
returns-in-Some-clause-nodes g c =
    let slots = c.args.slots.now.items in
    let there = stands slots c.as_slice.result.now c.in-Some.place c.index_mut.result.now c.as_slice.ensures.value c.in-Some.ensures.within c.index_mut.ensures.value in
    on_err_weaker c.ask_ahead.result (same_slots (λ slot. slot.node) slots c.in-Some.place c.index_mut.result.now c.ask_ahead.new.slot there) c.ask_ahead.ensures.node

pub returns-in-Some-clause-answers : goal.returns-in-Some-clause-answers
returns-in-Some-clause-answers g c =
    let slots = c.args.slots.now.items in
    let there = stands slots c.as_slice.result.now c.in-Some.place c.index_mut.result.now c.as_slice.ensures.value c.in-Some.ensures.within c.index_mut.ensures.value in
    on_err_weaker c.ask_ahead.result (same_slots (λ slot. slot.answer) slots c.in-Some.place c.index_mut.result.now c.ask_ahead.new.slot there) c.ask_ahead.ensures.answer

pub returns-in-None-clause-asked : goal.returns-in-None-clause-asked
returns-in-None-clause-asked g c =
    let acts = g.N.ClusterNode.acts in
    let sent = frames_of c.args.sent.now in
    let slots = c.args.slots.now.items in
    let nowhere = missing acts (λ slot. slot.node) slots c.as_slice.result.now c.node_of.result (node_of sent c.args.event.now) c.as_slice.ensures.value c.node_of.ensures c.in-None.ensures.first in
    λ ids left before ahead.
    asked_nowhere acts ids sent c.args.history.now c.args.events.now left before (map (λ slot. slot.node) slots) (map (λ slot. slot.answer) slots) c.args.event.now ahead nowhere
