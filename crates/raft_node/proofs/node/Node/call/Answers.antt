-- The call is one of those that have a name of their own.
use Rattle.std.proofs.Common.{◌≡◌, [], Result, refl, sym, subst}
use Rattle.raft_group_step.specs.GroupEvent.{Call, GroupCall}
use Rattle.raft_group_step.specs.declared.group_call.GroupCall.TheVariants.{ChangeMembership, Elect, Heartbeat, Initialize, Lost, Propose, TriggerPurge, TriggerSnapshot}
use Rattle.raft_laws.specs.Stop.{token_of_call}
use Rattle.raft_node_faults.specs.declared.fault.Fault.{Fault}
use Rattle.raft_node.specs.Asking.{without_its_why}
use Rattle.raft_node.specs.Ending.{IsEvent}
use Rattle.raft_node.specs.Standing.{value_of}
use Rattle.raft_node.proofs.node.Node.call.Goals as goal

-- another call brings no token
no_token : (call : GroupCall) → ((x : _) (y : _) → call ≡ Propose x y → ⊥) → ((x : _) (y : _) → call ≡ ChangeMembership x y → ⊥) → token_of_call call ≡ []
no_token (Initialize m) p ch = refl
no_token (Propose x y) p ch = absurd (p x y refl)
no_token (ChangeMembership x y) p ch = absurd (ch x y refl)
no_token Elect p ch = refl
no_token Heartbeat p ch = refl
no_token (Lost peer) p ch = refl
no_token TriggerSnapshot p ch = refl
no_token (TriggerPurge place) p ch = refl

-- and sets nothing up
no_why : {T F : Type 0} (call : GroupCall) (result : Result T (Fault F)) → ((m : _) → call ≡ Initialize m → ⊥) → without_its_why call result ≡ result
no_why (Initialize m) result n = absurd (n m refl)
no_why (Propose x y) result n = refl
no_why (ChangeMembership x y) result n = refl
no_why Elect result n = refl
no_why Heartbeat result n = refl
no_why (Lost peer) result n = refl
no_why TriggerSnapshot result n = refl
no_why (TriggerPurge place) result n = refl

pub returns-in-TriggerSnapshot-clause-event : goal.returns-in-TriggerSnapshot-clause-event
returns-in-TriggerSnapshot-clause-event g c =
    subst (λ call. IsEvent g.M.StateMachine.rules g.S.GroupStorage.stands (c.ask_snapshot.new.self ≡ c.args.self.now) (value_of g.M.StateMachine.state g.S.GroupStorage.is_well g.S.GroupStorage.shows g.S.GroupStorage.fails c.args.self.now)
    (value_of g.M.StateMachine.state g.S.GroupStorage.is_well g.S.GroupStorage.shows g.S.GroupStorage.fails c.ask_snapshot.new.self) c.args.group (Call call c.args.now) (without_its_why call c.ask_snapshot.result))
    (sym c.in-TriggerSnapshot.is) c.ask_snapshot.ensures.event

pub returns-in_default-clause-event : goal.returns-in_default-clause-event
returns-in_default-clause-event g c =
    subst (λ r. IsEvent {F = g.row.S-Fault.Denot} g.M.StateMachine.rules g.S.GroupStorage.stands (c.ask-in_default.new.self ≡ c.args.self.now) (value_of g.M.StateMachine.state g.S.GroupStorage.is_well g.S.GroupStorage.shows g.S.GroupStorage.fails c.args.self.now)
    (value_of g.M.StateMachine.state g.S.GroupStorage.is_well g.S.GroupStorage.shows g.S.GroupStorage.fails c.ask-in_default.new.self) c.args.group (Call c.args.call.now c.args.now) r)
    (sym (no_why c.args.call.now c.ask-in_default.result c.in_default.not-Initialize))
    (c.ask-in_default.ensures.event (no_token c.args.call.now c.in_default.not-Propose c.in_default.not-ChangeMembership) c.in_default.not-TriggerSnapshot)
