-- What the group answered is how its event ended.
use Rattle.std.proofs.Common.{◌≡◌, ap, ◌∙◌, subst, Ok}
use Rattle.raft_node.specs.Settling.{IsAnswered}
use Rattle.raft_node.specs.Standing.{value_of}
use Rattle.raft_node.proofs.Ends.{sent_settled}
use Rattle.raft_node.proofs.Events.{error_ends}
use Rattle.raft_node.proofs.node.Node.settle.Goals as goal

pub returns-in-Ok-Sent-clause-ended : goal.returns-in-Ok-Sent-clause-ended
returns-in-Ok-Sent-clause-ended g c = λ s e of step answered.
    sent_settled _ g.M.StateMachine.rules g.S.GroupStorage.stands (value_of g.M.StateMachine.state g.S.GroupStorage.is_well g.S.GroupStorage.shows g.S.GroupStorage.fails c.args.self.now) (value_of g.M.StateMachine.state g.S.GroupStorage.is_well g.S.GroupStorage.shows g.S.GroupStorage.fails c.follow.new.self) c.args.group s e
    c.follow.ensures.elsewhere.own (g.met.S.GroupStorage.shows_more c.follow.new.self.groups.storage) (g.met.S.GroupStorage.well_fails c.follow.new.self.groups.storage) c.in-Ok-Sent.frames c.args.answered c.follow.result
    (c.in-Ok-Sent.is ∙ ap Ok c.in-Ok-Sent.field-0-is) step answered (λ taken behind. c.follow.ensures.ended s e of taken behind)

pub returns-in-Err-clause-ended : goal.returns-in-Err-clause-ended
returns-in-Err-clause-ended g c = λ s e of step answered.
    error_ends g.M.StateMachine.rules g.S.GroupStorage.stands (c.answer_fault.new.self ≡ c.args.self.now) (value_of g.M.StateMachine.state g.S.GroupStorage.is_well g.S.GroupStorage.shows g.S.GroupStorage.fails c.args.self.now) (value_of g.M.StateMachine.state g.S.GroupStorage.is_well g.S.GroupStorage.shows g.S.GroupStorage.fails c.answer_fault.new.self) c.args.group s e
    c.in-Err.error c.answer_fault.result (g.met.S.GroupStorage.shows_more c.answer_fault.new.self.groups.storage) (g.met.S.GroupStorage.well_fails c.answer_fault.new.self.groups.storage)
    (subst (IsAnswered g.M.StateMachine.rules g.S.GroupStorage.stands (value_of g.M.StateMachine.state g.S.GroupStorage.is_well g.S.GroupStorage.shows g.S.GroupStorage.fails c.args.self.now) c.args.group s e) c.in-Err.is answered)
    c.answer_fault.ensures.told c.answer_fault.ensures.why
