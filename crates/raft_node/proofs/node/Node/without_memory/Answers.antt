-- A refusal is told; else the node stops before the group is asked.
use Rattle.std.proofs.Common.{◌≡◌, ◌++◌, [], ◌∷◌, ap, sym, subst, ◌∙◌}
use Rattle.std.specs.Ordering.{nat_cmp}
use Rattle.std.specs.BTreeMap.{get}
use Rattle.std.specs.Option.{option_to_list}
use Rattle.std.proofs.lemmas.List.{append-nil}
use Rattle.raft_group_step.specs.GroupEvent.{Call}
use Rattle.raft_group_step.specs.Refusal.{refusal_of}
use Rattle.raft_group_step.specs.StoredGroup.{end_place}
use Rattle.raft_step_laws.specs.Tokens.{tokens_at}
use Rattle.raft_node_faults.specs.declared.fault.Cause.TheVariants.{Memory}
use Rattle.raft_node.specs.Standing.{feeding_of, one_more_in, running_in, value_of}
use Rattle.raft_node.specs.Waiting.{waiting_of}
use Rattle.raft_node.proofs.Ends.{waits}
use Rattle.raft_node.proofs.Faults.{left_before}
use Rattle.raft_node.proofs.Stops.{none_more_else, one_more_here, stop_for_elsewhere, stop_for_ends}
use Rattle.raft_node.proofs.node.Node.without_memory.Goals as goal

pub returns-in-Some-clause-ended : goal.returns-in-Some-clause-ended
returns-in-Some-clause-ended g c = λ s token at lawful.
    let judged = c.in-Taken.ensures s at.up lawful in
    let own : c.stop_with.new.self.groups.id ≡ c.args.self.now.groups.id = ap (λ x. x.id) c.stop_with.ensures.groups in
    stop_for_ends g.M.StateMachine.rules g.S.GroupStorage.stands (value_of g.M.StateMachine.state g.S.GroupStorage.is_well g.S.GroupStorage.shows g.S.GroupStorage.fails c.stop_with.new.self) c.args.group s (Call c.args.call.now c.args.now) Memory
    (λ other. waiting_of (running_in g.M.StateMachine.state c.args.self.now.machines other) ++ one_more_in c.args.self.now.machines other c.args.group (record { token = c.in-Some.token; place = c.in-Taken.place }))
    c.stop_with.result c.stop_with.ensures.stops (ap (λ x. x.has_failed) c.stop_with.ensures.groups)
    (λ unknown named. record {
      taken = ap (λ n. refusal_of n s (Call c.args.call.now c.args.now)) own ∙ judged.0;
      left =
          left_before (value_of g.M.StateMachine.state g.S.GroupStorage.is_well g.S.GroupStorage.shows g.S.GroupStorage.fails c.stop_with.new.self) c.args.group s (Call c.args.call.now c.args.now) (g.met.S.GroupStorage.shows_more c.stop_with.new.self.groups.storage)
          (g.met.S.GroupStorage.well_fails c.stop_with.new.self.groups.storage (subst (λ x. g.S.GroupStorage.is_well x.storage) (sym c.stop_with.ensures.groups) at.up.holds.well))
          (subst (λ x. g.S.GroupStorage.shows x.storage c.args.group (s.stored ∷ [])) (sym c.stop_with.ensures.groups) at.up.holds.stored);
      named =
          named
          ∙ ap (λ xs. xs ++ one_more_in c.args.self.now.machines c.args.group c.args.group (record { token = c.in-Some.token; place = c.in-Taken.place })) (waits g.M.StateMachine.rules _ s at.runs)
          ∙ ap (λ xs. s.untold ++ xs)
          (one_more_here g.M.StateMachine.rules g.M.StateMachine.state c.args.self.now.machines c.args.group s (record { token = c.in-Some.token; place = c.in-Taken.place }) at.runs
          ∙ ap (λ place. record { token = c.in-Some.token; place = place } ∷ []) judged.1
          ∙ sym (ap (λ ts. tokens_at (end_place s.stored) ts) (token ∙ ap option_to_list c.in-Some.is)));
      caused = tt;
    })

pub returns-in-Some-clause-elsewhere : goal.returns-in-Some-clause-elsewhere
returns-in-Some-clause-elsewhere g c =
    stop_for_elsewhere (value_of g.M.StateMachine.state g.S.GroupStorage.is_well g.S.GroupStorage.shows g.S.GroupStorage.fails c.args.self.now) (value_of g.M.StateMachine.state g.S.GroupStorage.is_well g.S.GroupStorage.shows g.S.GroupStorage.fails c.stop_with.new.self) c.args.group Memory
    (λ other. waiting_of (running_in g.M.StateMachine.state c.args.self.now.machines other) ++ one_more_in c.args.self.now.machines other c.args.group (record { token = c.in-Some.token; place = c.in-Taken.place }))
    c.stop_with.result c.stop_with.ensures.stops
    (λ other apart.
    ap (λ xs. waiting_of (running_in g.M.StateMachine.state c.args.self.now.machines other) ++ xs) (none_more_else c.args.self.now.machines other c.args.group (record { token = c.in-Some.token; place = c.in-Taken.place }) apart)
    ∙ append-nil _)
    (ap (λ x. x.id) c.stop_with.ensures.groups) (ap (λ x. x.has_failed) c.stop_with.ensures.groups)
    (λ group parts shown. subst (λ x. g.S.GroupStorage.shows x.storage group parts) (sym c.stop_with.ensures.groups) shown)
    (λ peer. ap (λ x. feeding_of (get nat_cmp x peer)) c.stop_with.ensures.feeders)

pub returns-in-None-clause-ended : goal.returns-in-None-clause-ended
returns-in-None-clause-ended g c = λ s token at lawful.
    let judged = c.in-Taken.ensures s at.up lawful in
    let own : c.stop.new.self.groups.id ≡ c.args.self.now.groups.id = ap (λ x. x.id) c.stop.ensures.groups in
    stop_for_ends g.M.StateMachine.rules g.S.GroupStorage.stands (value_of g.M.StateMachine.state g.S.GroupStorage.is_well g.S.GroupStorage.shows g.S.GroupStorage.fails c.stop.new.self) c.args.group s (Call c.args.call.now c.args.now) Memory
    (λ other. waiting_of (running_in g.M.StateMachine.state c.args.self.now.machines other))
    c.stop.result c.stop.ensures.stops (ap (λ x. x.has_failed) c.stop.ensures.groups)
    (λ unknown named. record {
      taken = ap (λ n. refusal_of n s (Call c.args.call.now c.args.now)) own ∙ judged.0;
      left =
          left_before (value_of g.M.StateMachine.state g.S.GroupStorage.is_well g.S.GroupStorage.shows g.S.GroupStorage.fails c.stop.new.self) c.args.group s (Call c.args.call.now c.args.now) (g.met.S.GroupStorage.shows_more c.stop.new.self.groups.storage)
          (g.met.S.GroupStorage.well_fails c.stop.new.self.groups.storage (subst (λ x. g.S.GroupStorage.is_well x.storage) (sym c.stop.ensures.groups) at.up.holds.well))
          (subst (λ x. g.S.GroupStorage.shows x.storage c.args.group (s.stored ∷ [])) (sym c.stop.ensures.groups) at.up.holds.stored);
      named = named ∙ waits g.M.StateMachine.rules _ s at.runs ∙ sym (append-nil s.untold) ∙ ap (λ xs. s.untold ++ xs) (sym (ap (λ ts. tokens_at (end_place s.stored) ts) (token ∙ ap option_to_list c.in-None.is)));
      caused = tt;
    })
