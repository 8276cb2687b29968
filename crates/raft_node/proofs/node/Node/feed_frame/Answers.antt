-- What was read of the piece comes to its group.
use Rattle.std.proofs.Common.{◌≡◌, inl, Option, Some, None, Result, Ok, Err, refl, sym, ap, subst, ◌∙◌}
use Rattle.std.specs.Ordering.{nat_cmp}
use Rattle.std.specs.BTreeMap.{get}
use Rattle.raft_wire.specs.Stream.{IsSpelledSo}
use Rattle.raft_wire.specs.declared.error.FrameError.{FrameError}
use Rattle.raft_wire.specs.declared.frame.Frame.{Frame}
use Rattle.raft_node.specs.Feeding.{IsReadAs, StaysBut}
use Rattle.raft_node.specs.Standing.{feeding_of, value_of}
use Rattle.raft_node.proofs.Feeds.{fed_frame, fed_told, same_but, takes, took_some}
use Rattle.raft_node.proofs.node.Node.feed_frame.Goals as goal

pub returns-in-Ok-None-clause-next : goal.returns-in-Ok-None-clause-next
returns-in-Ok-None-clause-next g c =
    let is : c.read_piece-used.result.frame ≡ Ok None = c.in-Ok-None.is ∙ ap Ok c.in-Ok-None.field-0-is in
    inl (takes g.row.S-Fault.Denot g.M.StateMachine.rules g.S.GroupStorage.stands (value_of g.M.StateMachine.state g.S.GroupStorage.is_well g.S.GroupStorage.shows g.S.GroupStorage.fails c.args.self.now) (value_of g.M.StateMachine.state g.S.GroupStorage.is_well g.S.GroupStorage.shows g.S.GroupStorage.fails (record c.args.self.now { feeders = c.read_piece-used.new.feeders })) c.args.peer c.args.now c.args.piece.now c.read_piece-used.result.used (Ok None)
    (λ p. feeding_of (get nat_cmp c.make_room.new.feeders p)) (λ p. feeding_of (get nat_cmp c.read_piece-used.new.feeders p)) c.make_room.ensures.same (λ p. refl) c.read_piece-used.result.frame c.read_piece-used.ensures.answers c.read_piece-used.ensures.spelled
    (λ other apart. ap feeding_of (c.read_piece-used.ensures.others other apart))
    (subst (λ r. IsReadAs {F = g.row.S-Fault.Denot} g.M.StateMachine.rules g.S.GroupStorage.stands (value_of g.M.StateMachine.state g.S.GroupStorage.is_well g.S.GroupStorage.shows g.S.GroupStorage.fails c.args.self.now) (value_of g.M.StateMachine.state g.S.GroupStorage.is_well g.S.GroupStorage.shows g.S.GroupStorage.fails (record c.args.self.now { feeders = c.read_piece-used.new.feeders })) c.args.peer c.args.now r (Ok None)) (sym is) (refl, same_but g.M.StateMachine.state g.S.GroupStorage.is_well g.S.GroupStorage.shows g.S.GroupStorage.fails c.args.peer c.args.self.now (record c.args.self.now { feeders = c.read_piece-used.new.feeders }) (record c.args.self.now { feeders = c.read_piece-used.new.feeders }) refl refl refl)))

pub returns-in-Ok-clause-next : goal.returns-in-Ok-clause-next
returns-in-Ok-clause-next g c =
    let is : c.read_piece-used.result.frame ≡ Ok (Some c.in-Ok-Some.frame) = c.in-Ok-Some.is ∙ ap Ok c.in-Ok-Some.field-0-is in
    inl (takes g.row.S-Fault.Denot g.M.StateMachine.rules g.S.GroupStorage.stands (value_of g.M.StateMachine.state g.S.GroupStorage.is_well g.S.GroupStorage.shows g.S.GroupStorage.fails c.args.self.now) (value_of g.M.StateMachine.state g.S.GroupStorage.is_well g.S.GroupStorage.shows g.S.GroupStorage.fails c.take_frame.new.self) c.args.peer c.args.now c.args.piece.now c.read_piece-used.result.used (Ok (Some c.in-Ok.outcome))
    (λ p. feeding_of (get nat_cmp c.make_room.new.feeders p)) (λ p. feeding_of (get nat_cmp c.read_piece-used.new.feeders p)) c.make_room.ensures.same (λ p. c.take_frame.ensures.frame.elsewhere.streams p) c.read_piece-used.result.frame c.read_piece-used.ensures.answers c.read_piece-used.ensures.spelled
    (λ other apart. ap feeding_of (c.read_piece-used.ensures.others other apart))
    (subst (λ r. IsReadAs {F = g.row.S-Fault.Denot} g.M.StateMachine.rules g.S.GroupStorage.stands (value_of g.M.StateMachine.state g.S.GroupStorage.is_well g.S.GroupStorage.shows g.S.GroupStorage.fails c.args.self.now) (value_of g.M.StateMachine.state g.S.GroupStorage.is_well g.S.GroupStorage.shows g.S.GroupStorage.fails c.take_frame.new.self) c.args.peer c.args.now r (Ok (Some c.in-Ok.outcome))) (sym is) (fed_frame g.M.StateMachine.rules g.S.GroupStorage.stands (c.take_frame.new.self ≡ (record c.args.self.now { feeders = c.read_piece-used.new.feeders })) (StaysBut (value_of g.M.StateMachine.state g.S.GroupStorage.is_well g.S.GroupStorage.shows g.S.GroupStorage.fails c.args.self.now) (value_of g.M.StateMachine.state g.S.GroupStorage.is_well g.S.GroupStorage.shows g.S.GroupStorage.fails c.take_frame.new.self) c.args.peer) (value_of g.M.StateMachine.state g.S.GroupStorage.is_well g.S.GroupStorage.shows g.S.GroupStorage.fails c.args.self.now) (value_of g.M.StateMachine.state g.S.GroupStorage.is_well g.S.GroupStorage.shows g.S.GroupStorage.fails c.take_frame.new.self) (λ p. feeding_of (get nat_cmp c.read_piece-used.new.feeders p)) c.args.peer c.in-Ok-Some.frame c.args.now (Ok c.in-Ok.outcome) (λ back. same_but g.M.StateMachine.state g.S.GroupStorage.is_well g.S.GroupStorage.shows g.S.GroupStorage.fails c.args.peer c.args.self.now (record c.args.self.now { feeders = c.read_piece-used.new.feeders }) c.take_frame.new.self refl refl back) c.in-Ok.ensures.frame)))

pub returns-in-Ok-clause-progress : goal.returns-in-Ok-clause-progress
returns-in-Ok-clause-progress g c =
    let is : c.read_piece-used.result.frame ≡ Ok (Some c.in-Ok-Some.frame) = c.in-Ok-Some.is ∙ ap Ok c.in-Ok-Some.field-0-is in
    let held = (feeding_of (get nat_cmp c.make_room.new.feeders c.args.peer)).held in
    took_some held c.args.piece.now c.read_piece-used.result.used c.in-Ok-Some.frame c.read_piece-used.ensures.waited
    (subst (λ (r : Result (Option Frame) FrameError). IsSpelledSo held c.args.piece.now c.read_piece-used.result.used r) is c.read_piece-used.ensures.spelled)

pub returns-in-Ok-Some-clause-next : goal.returns-in-Ok-Some-clause-next
returns-in-Ok-Some-clause-next g c =
    let is : c.read_piece-used.result.frame ≡ Ok (Some c.in-Ok-Some.frame) = c.in-Ok-Some.is ∙ ap Ok c.in-Ok-Some.field-0-is in
    inl (takes g.row.S-Fault.Denot g.M.StateMachine.rules g.S.GroupStorage.stands (value_of g.M.StateMachine.state g.S.GroupStorage.is_well g.S.GroupStorage.shows g.S.GroupStorage.fails c.args.self.now) (value_of g.M.StateMachine.state g.S.GroupStorage.is_well g.S.GroupStorage.shows g.S.GroupStorage.fails c.take_frame.new.self) c.args.peer c.args.now c.args.piece.now c.read_piece-used.result.used (Err c.in-Err-take_frame.fault)
    (λ p. feeding_of (get nat_cmp c.make_room.new.feeders p)) (λ p. feeding_of (get nat_cmp c.read_piece-used.new.feeders p)) c.make_room.ensures.same (λ p. c.take_frame.ensures.frame.elsewhere.streams p) c.read_piece-used.result.frame c.read_piece-used.ensures.answers c.read_piece-used.ensures.spelled
    (λ other apart. ap feeding_of (c.read_piece-used.ensures.others other apart))
    (subst (λ r. IsReadAs {F = g.row.S-Fault.Denot} g.M.StateMachine.rules g.S.GroupStorage.stands (value_of g.M.StateMachine.state g.S.GroupStorage.is_well g.S.GroupStorage.shows g.S.GroupStorage.fails c.args.self.now) (value_of g.M.StateMachine.state g.S.GroupStorage.is_well g.S.GroupStorage.shows g.S.GroupStorage.fails c.take_frame.new.self) c.args.peer c.args.now r (Err c.in-Err-take_frame.fault)) (sym is) (fed_frame g.M.StateMachine.rules g.S.GroupStorage.stands (c.take_frame.new.self ≡ (record c.args.self.now { feeders = c.read_piece-used.new.feeders })) (StaysBut (value_of g.M.StateMachine.state g.S.GroupStorage.is_well g.S.GroupStorage.shows g.S.GroupStorage.fails c.args.self.now) (value_of g.M.StateMachine.state g.S.GroupStorage.is_well g.S.GroupStorage.shows g.S.GroupStorage.fails c.take_frame.new.self) c.args.peer) (value_of g.M.StateMachine.state g.S.GroupStorage.is_well g.S.GroupStorage.shows g.S.GroupStorage.fails c.args.self.now) (value_of g.M.StateMachine.state g.S.GroupStorage.is_well g.S.GroupStorage.shows g.S.GroupStorage.fails c.take_frame.new.self) (λ p. feeding_of (get nat_cmp c.read_piece-used.new.feeders p)) c.args.peer c.in-Ok-Some.frame c.args.now (Err c.in-Err-take_frame.fault) (λ back. same_but g.M.StateMachine.state g.S.GroupStorage.is_well g.S.GroupStorage.shows g.S.GroupStorage.fails c.args.peer c.args.self.now (record c.args.self.now { feeders = c.read_piece-used.new.feeders }) c.take_frame.new.self refl refl back) c.in-Err-take_frame.ensures.frame)))

pub returns-clause-next : goal.returns-clause-next
returns-clause-next g c =
    let is = c.in-Err.is in
    inl (takes g.row.S-Fault.Denot g.M.StateMachine.rules g.S.GroupStorage.stands (value_of g.M.StateMachine.state g.S.GroupStorage.is_well g.S.GroupStorage.shows g.S.GroupStorage.fails c.args.self.now) (value_of g.M.StateMachine.state g.S.GroupStorage.is_well g.S.GroupStorage.shows g.S.GroupStorage.fails c.stream_fault.new.self) c.args.peer c.args.now c.args.piece.now c.read_piece-used.result.used (Err c.stream_fault.result)
    (λ p. feeding_of (get nat_cmp c.make_room.new.feeders p)) (λ p. feeding_of (get nat_cmp c.read_piece-used.new.feeders p)) c.make_room.ensures.same (λ p. c.stream_fault.ensures.told.streams p) c.read_piece-used.result.frame c.read_piece-used.ensures.answers c.read_piece-used.ensures.spelled
    (λ other apart. ap feeding_of (c.read_piece-used.ensures.others other apart))
    (subst (λ r. IsReadAs {F = g.row.S-Fault.Denot} g.M.StateMachine.rules g.S.GroupStorage.stands (value_of g.M.StateMachine.state g.S.GroupStorage.is_well g.S.GroupStorage.shows g.S.GroupStorage.fails c.args.self.now) (value_of g.M.StateMachine.state g.S.GroupStorage.is_well g.S.GroupStorage.shows g.S.GroupStorage.fails c.stream_fault.new.self) c.args.peer c.args.now r (Err c.stream_fault.result)) (sym is) (c.stream_fault.ensures.why, fed_told (c.stream_fault.new.self ≡ (record c.args.self.now { feeders = c.read_piece-used.new.feeders })) (StaysBut (value_of g.M.StateMachine.state g.S.GroupStorage.is_well g.S.GroupStorage.shows g.S.GroupStorage.fails c.args.self.now) (value_of g.M.StateMachine.state g.S.GroupStorage.is_well g.S.GroupStorage.shows g.S.GroupStorage.fails c.stream_fault.new.self) c.args.peer) (value_of g.M.StateMachine.state g.S.GroupStorage.is_well g.S.GroupStorage.shows g.S.GroupStorage.fails c.args.self.now) (value_of g.M.StateMachine.state g.S.GroupStorage.is_well g.S.GroupStorage.shows g.S.GroupStorage.fails c.stream_fault.new.self) (λ p. feeding_of (get nat_cmp c.read_piece-used.new.feeders p)) c.stream_fault.result (λ back. same_but g.M.StateMachine.state g.S.GroupStorage.is_well g.S.GroupStorage.shows g.S.GroupStorage.fails c.args.peer c.args.self.now (record c.args.self.now { feeders = c.read_piece-used.new.feeders }) c.stream_fault.new.self refl refl back) c.stream_fault.ensures.told)))
