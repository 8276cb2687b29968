-- The node has room for its groups, and opens those that are there.
use Rattle.std.proofs.Common.{◌≡◌, ℕ, [], ◌∷◌, Result, Ok, Err, IfErr, OnErr, OnOk, refl, sym, ap, subst, ◌∙◌}
use Rattle.std.specs.BTreeMap.{get}
use Rattle.std.specs.List.Sorted.{IsStrictlySortedBy}
use Rattle.std.specs.Ordering.{eq_by_cmp, nat_cmp}
use Rattle.std.specs.Set.{is_member}
use Rattle.raft_group_storage.specs.Keeping.{FailsAnyhow}
use Rattle.raft_node.specs.Opening.{AreThere, HasNotOpened}
use Rattle.raft_node.specs.Standing.{running_in, value_of}
use Rattle.raft_node.specs.Waiting.{waiting_of}
use Rattle.raft_node.proofs.Follows.{on_err_map}
use Rattle.raft_node.proofs.OpeningSteps.{begun_on, stopped_first, stops_for}
use Rattle.raft_node.proofs.node.Node.open_groups.Goals as goal

either : {T E P : Type 0} (r : Result T E) → OnOk r P → OnErr r P → P
either (Ok x) ok err = ok
either (Err x) ok err = err

pub returns-then-is_err-clause-stopped : goal.returns-then-is_err-clause-stopped
returns-then-is_err-clause-stopped g c = λ kept of begun.
    let stopped = c.stop.ensures.groups in
    subst (λ k. HasNotOpened {F = g.row.S-Fault.Denot} k kept (g.S.GroupStorage.shows c.stop.new.self.groups.storage) (g.S.GroupStorage.fails c.stop.new.self.groups.storage) c.stop.result) (ap (λ x. x.id) stopped ∙ ap (λ x. x.id) c.make_machines.ensures.groups)
    (stopped_first (value_of g.M.StateMachine.state g.S.GroupStorage.is_well g.S.GroupStorage.shows g.S.GroupStorage.fails c.stop.new.self) kept (running_in g.M.StateMachine.state c.make_machines.new.self.machines) c.stop.result (g.met.S.GroupStorage.shows_more c.stop.new.self.groups.storage)
    (g.met.S.GroupStorage.well_fails c.stop.new.self.groups.storage (subst (λ x. g.S.GroupStorage.is_well x.storage) (sym stopped) (subst (λ x. g.S.GroupStorage.is_well x.storage) (sym c.make_machines.ensures.groups) begun.keeps.well)))
    (λ group. either c.make_machines.result (c.make_machines.ensures.none group) (on_err_map c.make_machines.result (λ same. ap (λ m. running_in g.M.StateMachine.state m group) same ∙ begun.idle group) c.make_machines.ensures.err)) (stops_for (running_in g.M.StateMachine.state c.make_machines.new.self.machines) (λ group. waiting_of (running_in g.M.StateMachine.state c.make_machines.new.self.machines group)) _ c.stop.result (λ group. refl) c.stop.ensures.stops)
    (λ group. subst (λ x. g.S.GroupStorage.shows x.storage group (kept group ∷ [])) (sym stopped) (subst (λ x. g.S.GroupStorage.shows x.storage group (kept group ∷ [])) (sym c.make_machines.ensures.groups) (begun.keeps.shown group))))

pub returns-in-Ok-clause-opened : goal.returns-in-Ok-clause-opened
returns-in-Ok-clause-opened g c = λ kept of begun.
    let shown : (group : ℕ) → g.S.GroupStorage.shows c.make_machines.new.self.groups.storage group (kept group ∷ []) = λ group. subst (λ x. g.S.GroupStorage.shows x.storage group (kept group ∷ [])) (sym c.make_machines.ensures.groups) (begun.keeps.shown group) in
    let well : g.S.GroupStorage.is_well c.make_machines.new.self.groups.storage = subst (λ x. g.S.GroupStorage.is_well x.storage) (sym c.make_machines.ensures.groups) begun.keeps.well in
    let on =
    begun_on (value_of g.M.StateMachine.state g.S.GroupStorage.is_well g.S.GroupStorage.shows g.S.GroupStorage.fails c.args.self.now) (value_of g.M.StateMachine.state g.S.GroupStorage.is_well g.S.GroupStorage.shows g.S.GroupStorage.fails (record c.make_machines.new.self { groups = record c.make_machines.new.self.groups { storage = c.groups.new.self } })) kept begun (ap (λ x. x.id) c.make_machines.ensures.groups) (ap (λ x. x.has_failed) c.make_machines.ensures.groups) (λ w. c.in-Ok.ensures.well well)
    (λ group parts here. c.groups.ensures.kept group parts (subst (λ x. g.S.GroupStorage.shows x.storage group parts) (sym c.make_machines.ensures.groups) here)) (λ group. ap (λ x. get nat_cmp x.members group) c.make_machines.ensures.groups) (λ group. either c.make_machines.result (c.make_machines.ensures.none group) (on_err_map c.make_machines.result (λ same. ap (λ m. running_in g.M.StateMachine.state m group) same ∙ begun.idle group) c.make_machines.ensures.err)) in
    let there : AreThere kept c.as_slice.result.now = record {
      rising = subst (IsStrictlySortedBy nat_cmp) (sym c.as_slice.ensures.value) (c.in-Ok.ensures.rising well);
      exactly = λ group. subst (λ l. is_member (eq_by_cmp nat_cmp) l group ≡ (kept group).present) (sym c.as_slice.ensures.value) (c.in-Ok.ensures.ok group (kept group) well (shown group));
    } in
    c.open_each.ensures.opened kept of on there

pub returns-in-Ok-clause-stopped : goal.returns-in-Ok-clause-stopped
returns-in-Ok-clause-stopped g c = λ kept of begun.
    let shown : (group : ℕ) → g.S.GroupStorage.shows c.make_machines.new.self.groups.storage group (kept group ∷ []) = λ group. subst (λ x. g.S.GroupStorage.shows x.storage group (kept group ∷ [])) (sym c.make_machines.ensures.groups) (begun.keeps.shown group) in
    let well : g.S.GroupStorage.is_well c.make_machines.new.self.groups.storage = subst (λ x. g.S.GroupStorage.is_well x.storage) (sym c.make_machines.ensures.groups) begun.keeps.well in
    let on =
    begun_on (value_of g.M.StateMachine.state g.S.GroupStorage.is_well g.S.GroupStorage.shows g.S.GroupStorage.fails c.args.self.now) (value_of g.M.StateMachine.state g.S.GroupStorage.is_well g.S.GroupStorage.shows g.S.GroupStorage.fails (record c.make_machines.new.self { groups = record c.make_machines.new.self.groups { storage = c.groups.new.self } })) kept begun (ap (λ x. x.id) c.make_machines.ensures.groups) (ap (λ x. x.has_failed) c.make_machines.ensures.groups) (λ w. c.in-Ok.ensures.well well)
    (λ group parts here. c.groups.ensures.kept group parts (subst (λ x. g.S.GroupStorage.shows x.storage group parts) (sym c.make_machines.ensures.groups) here)) (λ group. ap (λ x. get nat_cmp x.members group) c.make_machines.ensures.groups) (λ group. either c.make_machines.result (c.make_machines.ensures.none group) (on_err_map c.make_machines.result (λ same. ap (λ m. running_in g.M.StateMachine.state m group) same ∙ begun.idle group) c.make_machines.ensures.err)) in
    let there : AreThere kept c.as_slice.result.now = record {
      rising = subst (IsStrictlySortedBy nat_cmp) (sym c.as_slice.ensures.value) (c.in-Ok.ensures.rising well);
      exactly = λ group. subst (λ l. is_member (eq_by_cmp nat_cmp) l group ≡ (kept group).present) (sym c.as_slice.ensures.value) (c.in-Ok.ensures.ok group (kept group) well (shown group));
    } in
    subst (λ k. IfErr c.open_each.result (HasNotOpened {F = g.row.S-Fault.Denot} k kept (g.S.GroupStorage.shows c.open_each.new.self.groups.storage) (g.S.GroupStorage.fails c.open_each.new.self.groups.storage))) (ap (λ x. x.id) c.make_machines.ensures.groups) (c.open_each.ensures.stopped kept of on there)

pub returns-in-Err-clause-stopped : goal.returns-in-Err-clause-stopped
returns-in-Err-clause-stopped g c = λ kept of begun.
    let stopped = c.stop-in-Err.ensures.groups in
    subst (λ k. HasNotOpened {F = g.row.S-Fault.Denot} k kept (g.S.GroupStorage.shows c.stop-in-Err.new.self.groups.storage) (g.S.GroupStorage.fails c.stop-in-Err.new.self.groups.storage) c.stop-in-Err.result) (ap (λ x. x.id) stopped ∙ ap (λ x. x.id) c.make_machines.ensures.groups)
    (stopped_first (value_of g.M.StateMachine.state g.S.GroupStorage.is_well g.S.GroupStorage.shows g.S.GroupStorage.fails c.stop-in-Err.new.self) kept (running_in g.M.StateMachine.state c.make_machines.new.self.machines) c.stop-in-Err.result (g.met.S.GroupStorage.shows_more c.stop-in-Err.new.self.groups.storage)
    (subst (λ x. FailsAnyhow (g.S.GroupStorage.fails x.storage)) (sym stopped) (c.in-Err.ensures.err (subst (λ x. g.S.GroupStorage.is_well x.storage) (sym c.make_machines.ensures.groups) begun.keeps.well)))
    (λ group. either c.make_machines.result (c.make_machines.ensures.none group) (on_err_map c.make_machines.result (λ same. ap (λ m. running_in g.M.StateMachine.state m group) same ∙ begun.idle group) c.make_machines.ensures.err)) (stops_for (running_in g.M.StateMachine.state c.make_machines.new.self.machines) (λ group. waiting_of (running_in g.M.StateMachine.state c.make_machines.new.self.machines group)) _ c.stop-in-Err.result (λ group. refl) c.stop-in-Err.ensures.stops)
    (λ group. subst (λ x. g.S.GroupStorage.shows x.storage group (kept group ∷ [])) (sym stopped) (c.groups.ensures.kept group _ (subst (λ x. g.S.GroupStorage.shows x.storage group (kept group ∷ [])) (sym c.make_machines.ensures.groups) (begun.keeps.shown group)))))
