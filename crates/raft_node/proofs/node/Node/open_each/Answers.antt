-- One group more is opened, or its opening stops the node.
use Rattle.std.proofs.Common.{◌≡◌, ◌+◌, ◌++◌, [], ◌∷◌, cond, drop, get_or, refl, sym, ap, subst, ◌∙◌}
use Rattle.std.proofs.lemmas.List.{drop_all, drop_more}
use Rattle.raft_node.specs.Opening.{HasNotOpened, IsReopened}
use Rattle.raft_node.specs.Standing.{running_in, value_of}
use Rattle.raft_node.specs.Waiting.{waiting_of}
use Rattle.raft_node.proofs.Openings.{IsOpening, next_comes, opens_all, opens_next, stopped_here, stopped_in, way_on}
use Rattle.raft_node.proofs.OpeningSteps.{stops_for}
use Rattle.raft_node.proofs.node.Node.open_each.Goals as goal

pub returns-in-Err-clause-stopped : goal.returns-in-Err-clause-stopped
returns-in-Err-clause-stopped g c = λ kept of begun there.
    let i = c.loop-group.group-index in
    let gid = get_or c.args.groups.now i 0 in
    let rest = drop (i + 1) c.args.groups.now in
    let was = c.loop-group.invariant.3 kept of begun there in
    let here = subst (λ l. IsOpening g.M.StateMachine.rules kept g.S.GroupStorage.stands (value_of g.M.StateMachine.state g.S.GroupStorage.is_well g.S.GroupStorage.shows g.S.GroupStorage.fails c.loop-group.self) c.args.groups.now l c.loop-group.outcomes.items) (drop_more c.args.groups.now i 0 c.loop-group-test.true) was in
    let next = next_comes g.M.StateMachine.rules kept (value_of g.M.StateMachine.state g.S.GroupStorage.is_well g.S.GroupStorage.shows g.S.GroupStorage.fails c.loop-group.self) gid rest (here.way gid) in
    let reached = subst (λ k. IsReopened k (kept gid)) (sym c.loop-group.invariant.0) (begun.keeps.reached gid next.0) in
    let opens = c.in-Err.ensures.opened (kept gid) of (c.loop-group.invariant.1 ∙ begun.going) here.well next.1 next.0 reached in
    subst (λ k. HasNotOpened {F = g.row.S-Fault.Denot} k kept (g.S.GroupStorage.shows c.open_group.new.self.groups.storage) (g.S.GroupStorage.fails c.open_group.new.self.groups.storage) c.in-Err.why) (c.open_group.ensures.id ∙ c.loop-group.invariant.0)
    (stopped_in g.M.StateMachine.rules kept g.row.S-Fault.Denot (value_of g.M.StateMachine.state g.S.GroupStorage.is_well g.S.GroupStorage.shows g.S.GroupStorage.fails c.loop-group.self) (value_of g.M.StateMachine.state g.S.GroupStorage.is_well g.S.GroupStorage.shows g.S.GroupStorage.fails c.open_group.new.self) (gid ∷ rest) c.open_group.ensures.id (g.met.S.GroupStorage.shows_more c.open_group.new.self.groups.storage) here.way
    gid c.in-Err.why next.0 opens.1 c.open_group.ensures.kept opens.2)

pub returns-then-is_err-clause-stopped : goal.returns-then-is_err-clause-stopped
returns-then-is_err-clause-stopped g c = λ kept of begun there.
    let i = c.loop-group.group-index in
    let gid = get_or c.args.groups.now i 0 in
    let rest = drop (i + 1) c.args.groups.now in
    let was = c.loop-group.invariant.3 kept of begun there in
    let here = subst (λ l. IsOpening g.M.StateMachine.rules kept g.S.GroupStorage.stands (value_of g.M.StateMachine.state g.S.GroupStorage.is_well g.S.GroupStorage.shows g.S.GroupStorage.fails c.loop-group.self) c.args.groups.now l c.loop-group.outcomes.items) (drop_more c.args.groups.now i 0 c.loop-group-test.true) was in
    let next = next_comes g.M.StateMachine.rules kept (value_of g.M.StateMachine.state g.S.GroupStorage.is_well g.S.GroupStorage.shows g.S.GroupStorage.fails c.loop-group.self) gid rest (here.way gid) in
    let reached = subst (λ k. IsReopened k (kept gid)) (sym c.loop-group.invariant.0) (begun.keeps.reached gid next.0) in
    let done = c.in-Ok.ensures.opened (kept gid) of (c.loop-group.invariant.1 ∙ begun.going) here.well next.1 next.0 reached in
    let ways =
    way_on g.M.StateMachine.rules kept (value_of g.M.StateMachine.state g.S.GroupStorage.is_well g.S.GroupStorage.shows g.S.GroupStorage.fails c.loop-group.self) (value_of g.M.StateMachine.state g.S.GroupStorage.is_well g.S.GroupStorage.shows g.S.GroupStorage.fails c.open_group.new.self) gid c.open_group.ensures.id done.at.up.holds.well c.open_group.ensures.members (λ other apart. c.in-Ok.ensures.running other apart) c.open_group.ensures.kept
    rest here.rising next.0 done.at here.way in
    let stopped = c.stop.ensures.groups in
    subst (λ k. HasNotOpened {F = g.row.S-Fault.Denot} k kept (g.S.GroupStorage.shows c.stop.new.self.groups.storage) (g.S.GroupStorage.fails c.stop.new.self.groups.storage) c.stop.result) (ap (λ x. x.id) stopped ∙ c.open_group.ensures.id ∙ c.loop-group.invariant.0)
    (stopped_here g.M.StateMachine.rules kept g.row.S-Fault.Denot (value_of g.M.StateMachine.state g.S.GroupStorage.is_well g.S.GroupStorage.shows g.S.GroupStorage.fails c.open_group.new.self) (value_of g.M.StateMachine.state g.S.GroupStorage.is_well g.S.GroupStorage.shows g.S.GroupStorage.fails c.stop.new.self) rest (ap (λ x. x.id) stopped) (g.met.S.GroupStorage.shows_more c.stop.new.self.groups.storage) ways c.stop.result
    (stops_for (running_in g.M.StateMachine.state c.open_group.new.self.machines) (λ group. waiting_of (running_in g.M.StateMachine.state c.open_group.new.self.machines group)) _ c.stop.result (λ group. refl) c.stop.ensures.stops)
    (λ group parts shown. subst (λ x. g.S.GroupStorage.shows x.storage group parts) (sym stopped) shown)
    (g.met.S.GroupStorage.well_fails c.stop.new.self.groups.storage (subst (λ x. g.S.GroupStorage.is_well x.storage) (sym stopped) done.at.up.holds.well)))

pub loop-group-preserved : goal.loop-group-preserved
loop-group-preserved g c = (
  c.open_group.ensures.id ∙ c.loop-group.invariant.0,
  c.in-Ok.ensures.going ∙ c.loop-group.invariant.1,
  c.in-Ok.ensures.feeders ∙ c.loop-group.invariant.2,
  λ kept of begun there.
      let i = c.loop-group.group-index in
      let gid = get_or c.args.groups.now i 0 in
      let rest = drop (i + 1) c.args.groups.now in
      let was = c.loop-group.invariant.3 kept of begun there in
      let here = subst (λ l. IsOpening g.M.StateMachine.rules kept g.S.GroupStorage.stands (value_of g.M.StateMachine.state g.S.GroupStorage.is_well g.S.GroupStorage.shows g.S.GroupStorage.fails c.loop-group.self) c.args.groups.now l c.loop-group.outcomes.items) (drop_more c.args.groups.now i 0 c.loop-group-test.true) was in
      let next = next_comes g.M.StateMachine.rules kept (value_of g.M.StateMachine.state g.S.GroupStorage.is_well g.S.GroupStorage.shows g.S.GroupStorage.fails c.loop-group.self) gid rest (here.way gid) in
      let reached = subst (λ k. IsReopened k (kept gid)) (sym c.loop-group.invariant.0) (begun.keeps.reached gid next.0) in
      let done = c.in-Ok.ensures.opened (kept gid) of (c.loop-group.invariant.1 ∙ begun.going) here.well next.1 next.0 reached in
      let pushed : c.push.new.self.items ≡ c.loop-group.outcomes.items ++ c.in-Ok.outcome ∷ [] =
      c.push.ensures.items ∙ ap (λ b. cond b (c.loop-group.outcomes.items ++ c.in-Ok.outcome ∷ []) c.loop-group.outcomes.items) c.if-is_err.ensures.negation in
      subst (λ l. IsOpening g.M.StateMachine.rules kept g.S.GroupStorage.stands (value_of g.M.StateMachine.state g.S.GroupStorage.is_well g.S.GroupStorage.shows g.S.GroupStorage.fails c.open_group.new.self) c.args.groups.now rest l) (sym pushed)
      (opens_next g.M.StateMachine.rules kept g.S.GroupStorage.stands (value_of g.M.StateMachine.state g.S.GroupStorage.is_well g.S.GroupStorage.shows g.S.GroupStorage.fails c.loop-group.self) (value_of g.M.StateMachine.state g.S.GroupStorage.is_well g.S.GroupStorage.shows g.S.GroupStorage.fails c.open_group.new.self) gid c.args.groups.now rest c.loop-group.outcomes.items c.in-Ok.outcome c.open_group.ensures.id c.open_group.ensures.members
      (λ other apart. c.in-Ok.ensures.running other apart) c.open_group.ensures.kept done here),
  g.met.S.GroupStorage.meets_later _ _ _ _ c.loop-group.invariant.4 c.in-Ok.ensures.met,
)

pub returns-clause-opened : goal.returns-clause-opened
returns-clause-opened g c = λ kept of begun there.
    opens_all g.M.StateMachine.rules kept g.S.GroupStorage.stands (value_of g.M.StateMachine.state g.S.GroupStorage.is_well g.S.GroupStorage.shows g.S.GroupStorage.fails c.loop-group.self) c.args.groups.now c.loop-group.outcomes.items there
    (subst (λ l. IsOpening g.M.StateMachine.rules kept g.S.GroupStorage.stands (value_of g.M.StateMachine.state g.S.GroupStorage.is_well g.S.GroupStorage.shows g.S.GroupStorage.fails c.loop-group.self) c.args.groups.now l c.loop-group.outcomes.items) (drop_all c.loop-group.group-index c.args.groups.now c.loop-group-test.false) (c.loop-group.invariant.3 kept of begun there))
