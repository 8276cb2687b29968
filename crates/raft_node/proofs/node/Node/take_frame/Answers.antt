-- The groups take the frame, and their answer is settled.
use Rattle.std.proofs.Common.{◌≡◌, None, Err, inl, inr, refl, sym, ap, subst, ◌∙◌}
use Rattle.std.specs.Ordering.{nat_cmp}
use Rattle.std.specs.BTreeMap.{get}
use Rattle.raft_group_step.specs.GroupEvent.{Receive}
use Rattle.raft_group_step.specs.Refusal.{refusal_of}
use Rattle.raft_applier.specs.Following.{IsStep}
use Rattle.raft_framed_groups.specs.Answers.{IsTurnedAway, Node, Stands, is_right_party}
use Rattle.raft_node_faults.specs.declared.fault.Fault.TheVariants as fault
use Rattle.raft_node.specs.Ending.{GoesOn}
use Rattle.raft_node.specs.Settling.{IsPassedOn}
use Rattle.raft_node.specs.Standing.{NodeValue, value_of}
use Rattle.raft_node.proofs.Events.{Passes, Reaches, asked_reaches, begun_taken, none_said, of_group_now, of_right, of_wrong, reach_elsewhere, runs_by, taken_now, unknown_event, with_own}
use Rattle.raft_node.proofs.node.Node.take_frame.Goals as goal

pub returns-clause-frame : goal.returns-clause-frame
returns-clause-frame g c =
    let old : NodeValue = (value_of g.M.StateMachine.state g.S.GroupStorage.is_well g.S.GroupStorage.shows g.S.GroupStorage.fails c.args.self.now) in
    let mid : NodeValue = (value_of g.M.StateMachine.state g.S.GroupStorage.is_well g.S.GroupStorage.shows g.S.GroupStorage.fails (record c.args.self.now { groups = c.receive_frame-answered.new.groups })) in
    let new : NodeValue = (value_of g.M.StateMachine.state g.S.GroupStorage.is_well g.S.GroupStorage.shows g.S.GroupStorage.fails c.settle.new.self) in
    let id : c.receive_frame-answered.new.groups.id ≡ c.args.self.now.groups.id = c.receive_frame-answered.ensures.id in
    let n : Node = with_own mid.groups c.args.self.now.groups.id in
    let passes : Passes (c.settle.new.self ≡ c.args.self.now) (c.settle.new.self ≡ record c.args.self.now { groups = c.receive_frame-answered.new.groups }) old mid c.args.frame.now.group c.receive_frame-answered.result c.settle.result = record {
      away = λ turned other x stands.
          subst (λ gr. Stands (record { own = gr.id; has_failed = gr.has_failed; members = get nat_cmp gr.members; is_well = g.S.GroupStorage.is_well gr.storage; shows = g.S.GroupStorage.shows gr.storage; fails = g.S.GroupStorage.fails gr.storage }) other x)
          (sym (c.receive_frame-answered.ensures.same turned)) stands;
      back = λ turned is. is ∙ ap (λ gr. record c.args.self.now { groups = gr }) (c.receive_frame-answered.ensures.same turned);
      passed = c.settle.ensures.passed;
    } in
    let reaches : Reaches old mid c.args.frame.now.group (GoesOn c.settle.result) = elim c.receive_frame-answered.ensures.takes [
      | inl wrong ↦ record {
        own = id;
        members = λ other x apart goes stands. passes.away (subst IsTurnedAway (sym wrong.1) tt) other x stands;
        running = λ other apart. refl;
        kept = λ other parts apart shown. subst (λ gr. g.S.GroupStorage.shows gr.storage other parts) (sym wrong.2) shown;
        streams = λ peer. refl;
        flag = λ goes. ap (λ gr. gr.has_failed) wrong.2;
      }
      | inr taken ↦
          asked_reaches old.groups mid.groups c.args.frame.now.group old.running old.running old.streams c.receive_frame-answered.result c.settle.result _ id
          (of_group_now old.groups n c.receive_frame-answered.new.groups.id id c.args.frame.now.group c.receive_frame-answered.result taken.1.of_group) (λ other x turned stands. passes.away turned other x stands) (λ other apart. refl) c.settle.ensures.passed
    ] in
    record {
      leads = λ right m says s going of at reached.
          let taken = of_right (is_right_party c.args.self.now.groups.id c.args.peer c.args.frame.now) c.args.self.now.groups c.receive_frame-answered.new.groups _ c.receive_frame-answered.result c.receive_frame-answered.ensures.takes right in
          c.settle.ensures.ended s (Receive c.args.frame.now.message.sender m c.args.now) of
          (λ is. subst (λ k. IsStep k s (Receive c.args.frame.now.message.sender m c.args.now)) (sym id) (reached.step (subst (λ k. refusal_of k s (Receive c.args.frame.now.message.sender m c.args.now) ≡ None) id is)))
          (record {
            taken = taken_now n c.receive_frame-answered.new.groups.id id g.S.GroupStorage.stands c.args.frame.now.group s (Receive c.args.frame.now.message.sender m c.args.now) c.receive_frame-answered.result (begun_taken g.S.GroupStorage.stands n c.args.frame.now.group s (Receive c.args.frame.now.message.sender m c.args.now) c.receive_frame-answered.result (taken.taken m s going says at.up reached.lawful));
            runs = runs_by g.M.StateMachine.rules (old.running c.args.frame.now.group) s (Receive c.args.frame.now.message.sender m c.args.now) c.receive_frame-answered.result at.runs (none_said g.M.StateMachine.rules (old.running c.args.frame.now.group) s c.args.frame.now.message.sender m c.args.now at.runs);
          });
      elsewhere = reach_elsewhere old mid new c.args.frame.now.group c.settle.result reaches c.settle.ensures.elsewhere;
      wrong = λ is.
          let w = of_wrong (is_right_party c.args.self.now.groups.id c.args.peer c.args.frame.now) c.args.self.now.groups c.receive_frame-answered.new.groups _ c.receive_frame-answered.result c.receive_frame-answered.ensures.takes is in
          let x : (c.settle.result ≡ Err fault.WrongParty) × (c.settle.new.self ≡ record c.args.self.now { groups = c.receive_frame-answered.new.groups }) = subst (λ a. IsPassedOn (c.settle.new.self ≡ record c.args.self.now { groups = c.receive_frame-answered.new.groups }) a c.settle.result) w.0 c.settle.ensures.passed in
          (x.0, x.1 ∙ ap (λ gr. record c.args.self.now { groups = gr }) w.1);
      unknown = λ right going absent.
          let taken = of_right (is_right_party c.args.self.now.groups.id c.args.peer c.args.frame.now) c.args.self.now.groups c.receive_frame-answered.new.groups _ c.receive_frame-answered.result c.receive_frame-answered.ensures.takes right in
          unknown_event (c.settle.new.self ≡ c.args.self.now) _ old mid c.args.frame.now.group c.receive_frame-answered.result c.settle.result going absent (of_group_now old.groups n c.receive_frame-answered.new.groups.id id c.args.frame.now.group c.receive_frame-answered.result taken.of_group) passes;
    }
