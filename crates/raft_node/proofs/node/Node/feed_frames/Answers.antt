-- One frame more came to its group, or none of what is left does.
use Rattle.std.proofs.Common.{◌≡◌, ◌+◌, ◌<◌, ◌≤◌, ◌++◌, [], ◌∷◌, inr, drop, length, Some, None, Ok, Err, sym, ap, subst, ◌∙◌, arith, length-drop}
use Rattle.std.proofs.lemmas.List.{take_rest}
use Rattle.raft_node.specs.Feeding.{FeedsTo, TakesNext}
use Rattle.raft_node.specs.Standing.{value_of}
use Rattle.raft_node.proofs.Feeds.{HasFed, fed_all, fed_last, fed_more, fed_none}
use Rattle.raft_node_faults.specs.Fault.{fault_met_by_node}
use Rattle.raft_node.proofs.node.Node.feed_frames.Goals as goal

pub loop-used-init : goal.loop-used-init
loop-used-init g c = (
  omega arith,
  subst (λ l. HasFed g.M.StateMachine.state g.S.GroupStorage.is_well g.S.GroupStorage.shows g.S.GroupStorage.fails g.M.StateMachine.rules g.S.GroupStorage.stands c.args.peer c.args.now l c.args.self.now c.args.self.now c.args.piece.now 0) (sym c.new-outcomes.ensures.items) (fed_none g.M.StateMachine.state g.S.GroupStorage.is_well g.S.GroupStorage.shows g.S.GroupStorage.fails g.M.StateMachine.rules g.S.GroupStorage.stands c.args.peer c.args.now c.args.self.now c.args.piece.now),
  g.met.S.GroupStorage.meets_none c.args.self.now.groups.storage,
)

pub loop-used-preserved : goal.loop-used-preserved
loop-used-preserved g c =
    let is : c.feed_frame-taken.result.outcome ≡ Ok (Some c.in-Ok-Some.outcome) = c.in-Ok-Some.is ∙ ap Ok c.in-Ok-Some.field-0-is in
    let next = subst (λ l. TakesNext {F = g.row.S-Fault.Denot} g.M.StateMachine.rules g.S.GroupStorage.stands (value_of g.M.StateMachine.state g.S.GroupStorage.is_well g.S.GroupStorage.shows g.S.GroupStorage.fails c.loop-used.self) (value_of g.M.StateMachine.state g.S.GroupStorage.is_well g.S.GroupStorage.shows g.S.GroupStorage.fails c.feed_frame-taken.new.self) c.args.peer c.args.now l c.feed_frame-taken.result.used c.feed_frame-taken.result.outcome)
    (take_rest c.args.piece.now c.loop-used.used) c.feed_frame-taken.ensures.next in
    let some : 0 < length (drop c.loop-used.used c.args.piece.now) = let test = c.loop-used-test.true in omega (arith, length-drop c.loop-used.used c.args.piece.now) in
    let items = c.with_one-outcomes.ensures ∙ ap (λ l. l ++ c.in-Ok-Some.outcome ∷ []) c.feed_frame-taken.ensures.items in (
      let within = subst (λ l. c.feed_frame-taken.result.used ≤ length l) (take_rest c.args.piece.now c.loop-used.used) c.feed_frame-taken.ensures.within in let first = c.loop-used.invariant.0 in omega (arith, length-drop c.loop-used.used c.args.piece.now),
      subst (λ l. HasFed g.M.StateMachine.state g.S.GroupStorage.is_well g.S.GroupStorage.shows g.S.GroupStorage.fails g.M.StateMachine.rules g.S.GroupStorage.stands c.args.peer c.args.now l c.args.self.now c.feed_frame-taken.new.self c.args.piece.now (c.loop-used.used + c.feed_frame-taken.result.used)) (sym items)
          (fed_more g.M.StateMachine.state g.S.GroupStorage.is_well g.S.GroupStorage.shows g.S.GroupStorage.fails g.M.StateMachine.rules g.S.GroupStorage.stands c.args.peer c.args.now c.loop-used.outcomes.items c.args.self.now c.loop-used.self c.feed_frame-taken.new.self c.args.piece.now c.loop-used.used c.feed_frame-taken.result.used c.in-Ok-Some.outcome c.loop-used.invariant.1 (some, subst (λ r. TakesNext {F = g.row.S-Fault.Denot} g.M.StateMachine.rules g.S.GroupStorage.stands (value_of g.M.StateMachine.state g.S.GroupStorage.is_well g.S.GroupStorage.shows g.S.GroupStorage.fails c.loop-used.self) (value_of g.M.StateMachine.state g.S.GroupStorage.is_well g.S.GroupStorage.shows g.S.GroupStorage.fails c.feed_frame-taken.new.self) c.args.peer c.args.now (drop c.loop-used.used c.args.piece.now) c.feed_frame-taken.result.used r) is next)),
      g.met.S.GroupStorage.meets_later _ _ _ _ c.loop-used.invariant.2 (subst (λ r. g.S.GroupStorage.meets c.loop-used.self.groups.storage c.feed_frame-taken.new.self.groups.storage (fault_met_by_node {F = g.row.S-Fault.Denot} r)) is c.feed_frame-taken.ensures.met),
    )

pub returns-in-Ok-None-clause-frames : goal.returns-in-Ok-None-clause-frames
returns-in-Ok-None-clause-frames g c =
    let is : c.feed_frame-taken.result.outcome ≡ Ok None = c.in-Ok-None.is ∙ ap Ok c.in-Ok-None.field-0-is in
    let next = subst (λ l. TakesNext {F = g.row.S-Fault.Denot} g.M.StateMachine.rules g.S.GroupStorage.stands (value_of g.M.StateMachine.state g.S.GroupStorage.is_well g.S.GroupStorage.shows g.S.GroupStorage.fails c.loop-used.self) (value_of g.M.StateMachine.state g.S.GroupStorage.is_well g.S.GroupStorage.shows g.S.GroupStorage.fails c.feed_frame-taken.new.self) c.args.peer c.args.now l c.feed_frame-taken.result.used c.feed_frame-taken.result.outcome)
    (take_rest c.args.piece.now c.loop-used.used) c.feed_frame-taken.ensures.next in
    let some : 0 < length (drop c.loop-used.used c.args.piece.now) = let test = c.loop-used-test.true in omega (arith, length-drop c.loop-used.used c.args.piece.now) in
    subst (λ l. FeedsTo {F = g.row.S-Fault.Denot} (value_of g.M.StateMachine.state g.S.GroupStorage.is_well g.S.GroupStorage.shows g.S.GroupStorage.fails) g.M.StateMachine.rules g.S.GroupStorage.stands c.args.peer c.args.now l None c.args.self.now c.feed_frame-taken.new.self c.args.piece.now (c.loop-used.used + c.feed_frame-taken.result.used)) (sym c.feed_frame-taken.ensures.items)
    (fed_last g.M.StateMachine.state g.S.GroupStorage.is_well g.S.GroupStorage.shows g.S.GroupStorage.fails g.M.StateMachine.rules g.S.GroupStorage.stands c.args.peer c.args.now c.loop-used.outcomes.items None c.args.self.now c.loop-used.self c.feed_frame-taken.new.self c.args.piece.now c.loop-used.used c.feed_frame-taken.result.used c.loop-used.invariant.1 (inr (some, subst (λ r. TakesNext {F = g.row.S-Fault.Denot} g.M.StateMachine.rules g.S.GroupStorage.stands (value_of g.M.StateMachine.state g.S.GroupStorage.is_well g.S.GroupStorage.shows g.S.GroupStorage.fails c.loop-used.self) (value_of g.M.StateMachine.state g.S.GroupStorage.is_well g.S.GroupStorage.shows g.S.GroupStorage.fails c.feed_frame-taken.new.self) c.args.peer c.args.now (drop c.loop-used.used c.args.piece.now) c.feed_frame-taken.result.used r) is next)))

pub returns-in-Err-clause-frames : goal.returns-in-Err-clause-frames
returns-in-Err-clause-frames g c =
    let is : c.feed_frame-taken.result.outcome ≡ Err c.in-Err.why = c.in-Err.is in
    let next = subst (λ l. TakesNext {F = g.row.S-Fault.Denot} g.M.StateMachine.rules g.S.GroupStorage.stands (value_of g.M.StateMachine.state g.S.GroupStorage.is_well g.S.GroupStorage.shows g.S.GroupStorage.fails c.loop-used.self) (value_of g.M.StateMachine.state g.S.GroupStorage.is_well g.S.GroupStorage.shows g.S.GroupStorage.fails c.feed_frame-taken.new.self) c.args.peer c.args.now l c.feed_frame-taken.result.used c.feed_frame-taken.result.outcome)
    (take_rest c.args.piece.now c.loop-used.used) c.feed_frame-taken.ensures.next in
    let some : 0 < length (drop c.loop-used.used c.args.piece.now) = let test = c.loop-used-test.true in omega (arith, length-drop c.loop-used.used c.args.piece.now) in
    subst (λ l. FeedsTo {F = g.row.S-Fault.Denot} (value_of g.M.StateMachine.state g.S.GroupStorage.is_well g.S.GroupStorage.shows g.S.GroupStorage.fails) g.M.StateMachine.rules g.S.GroupStorage.stands c.args.peer c.args.now l (Some c.in-Err.why) c.args.self.now c.feed_frame-taken.new.self c.args.piece.now (c.loop-used.used + c.feed_frame-taken.result.used)) (sym c.feed_frame-taken.ensures.items)
    (fed_last g.M.StateMachine.state g.S.GroupStorage.is_well g.S.GroupStorage.shows g.S.GroupStorage.fails g.M.StateMachine.rules g.S.GroupStorage.stands c.args.peer c.args.now c.loop-used.outcomes.items (Some c.in-Err.why) c.args.self.now c.loop-used.self c.feed_frame-taken.new.self c.args.piece.now c.loop-used.used c.feed_frame-taken.result.used c.loop-used.invariant.1 (some, subst (λ r. TakesNext {F = g.row.S-Fault.Denot} g.M.StateMachine.rules g.S.GroupStorage.stands (value_of g.M.StateMachine.state g.S.GroupStorage.is_well g.S.GroupStorage.shows g.S.GroupStorage.fails c.loop-used.self) (value_of g.M.StateMachine.state g.S.GroupStorage.is_well g.S.GroupStorage.shows g.S.GroupStorage.fails c.feed_frame-taken.new.self) c.args.peer c.args.now (drop c.loop-used.used c.args.piece.now) c.feed_frame-taken.result.used r) is next))

pub returns-clause-frames : goal.returns-clause-frames
returns-clause-frames g c = fed_all g.M.StateMachine.state g.S.GroupStorage.is_well g.S.GroupStorage.shows g.S.GroupStorage.fails g.M.StateMachine.rules g.S.GroupStorage.stands c.args.peer c.args.now c.loop-used.outcomes.items c.args.self.now c.loop-used.self c.args.piece.now c.loop-used.used c.loop-used.invariant.1 c.loop-used-test.false
