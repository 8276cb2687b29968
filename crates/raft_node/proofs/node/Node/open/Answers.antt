-- A node without groups opens those that its storage has.
use Rattle.std.proofs.Common.{[], ◌∷◌, sym, ap, subst}
use Rattle.raft_node.specs.Opening.{HasNotOpened, IsBegun, IsReopened}
use Rattle.raft_node.specs.Standing.{running_in, value_of}
use Rattle.raft_node.proofs.node.Node.open.Goals as goal

pub returns-in-Ok-clause-opened : goal.returns-in-Ok-clause-opened
returns-in-Ok-clause-opened g c = λ kept of keeps.
    let begun : IsBegun (value_of g.M.StateMachine.state g.S.GroupStorage.is_well g.S.GroupStorage.shows g.S.GroupStorage.fails c.without_groups-node.result) kept = record {
      going = c.without_groups-node.ensures.going;
      keeps = record {
        well = subst g.S.GroupStorage.is_well (sym c.without_groups-node.ensures.storage) keeps.well;
        shown = λ group. subst (λ x. g.S.GroupStorage.shows x group (kept group ∷ [])) (sym c.without_groups-node.ensures.storage) (keeps.shown group);
        reached = λ group present. subst (λ k. IsReopened k (kept group)) (sym c.without_groups-node.ensures.id) (keeps.reached group present);
      };
      no_member = c.without_groups-node.ensures.none;
      idle = λ group. ap (λ m. running_in g.M.StateMachine.state m group) c.without_groups-node.ensures.no_machines;
    } in
    c.in-Ok.ensures.opened kept of begun

pub returns-in-Err-clause-stopped : goal.returns-in-Err-clause-stopped
returns-in-Err-clause-stopped g c = λ kept of keeps.
    let begun : IsBegun (value_of g.M.StateMachine.state g.S.GroupStorage.is_well g.S.GroupStorage.shows g.S.GroupStorage.fails c.without_groups-node.result) kept = record {
      going = c.without_groups-node.ensures.going;
      keeps = record {
        well = subst g.S.GroupStorage.is_well (sym c.without_groups-node.ensures.storage) keeps.well;
        shown = λ group. subst (λ x. g.S.GroupStorage.shows x group (kept group ∷ [])) (sym c.without_groups-node.ensures.storage) (keeps.shown group);
        reached = λ group present. subst (λ k. IsReopened k (kept group)) (sym c.without_groups-node.ensures.id) (keeps.reached group present);
      };
      no_member = c.without_groups-node.ensures.none;
      idle = λ group. ap (λ m. running_in g.M.StateMachine.state m group) c.without_groups-node.ensures.no_machines;
    } in
    subst (λ x. HasNotOpened {F = g.row.S-Fault.Denot} c.args.id kept (g.S.GroupStorage.shows x) (g.S.GroupStorage.fails x) c.in-Err.fault) (sym c.into_storage.ensures)
    (subst (λ k. HasNotOpened {F = g.row.S-Fault.Denot} k kept (g.S.GroupStorage.shows c.open_groups.new.self.groups.storage) (g.S.GroupStorage.fails c.open_groups.new.self.groups.storage) c.in-Err.fault) c.without_groups-node.ensures.id (c.in-Err.ensures.stopped kept of begun))
