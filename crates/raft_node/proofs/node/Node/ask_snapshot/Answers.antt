-- The snapshot was built, the groups are asked, and their answer is settled.
use Rattle.std.proofs.Common.{rules, ◌≡◌, None, refl, sym, ap, subst, ◌∙◌}
use Rattle.std.specs.Ordering.{nat_cmp}
use Rattle.std.specs.BTreeMap.{get}
use Rattle.raft_group_step.specs.GroupEvent.{Call}
use Rattle.std.specs.Option.{option_copied}
use Rattle.raft_group_step.specs.declared.group_call.GroupCall.TheVariants.{TriggerSnapshot}
use Rattle.raft_group_step.specs.Refusal.{refusal_of}
use Rattle.raft_member.specs.Member.{IsBuilt}
use Rattle.raft_applier.specs.Following.{IsStep}
use Rattle.raft_framed_groups.specs.Answers.{Node, Stands}
use Rattle.raft_node.specs.Standing.{NodeValue, value_of}
use Rattle.raft_node.proofs.Events.{Passes, asked_reaches, failed_event, none_brought, of_group_now, reach_elsewhere, runs_by, taken_now, unknown_event, with_own}
use Rattle.raft_node.proofs.node.Node.ask_snapshot.Goals as goal

pub returns-clause-event : goal.returns-clause-event
returns-clause-event g c =
    let lent : option_copied c.as_ref.result ≡ c.in-Ok.built = search rules in
    let old : NodeValue = (value_of g.M.StateMachine.state g.S.GroupStorage.is_well g.S.GroupStorage.shows g.S.GroupStorage.fails c.args.self.now) in
    let mid : NodeValue = (value_of g.M.StateMachine.state g.S.GroupStorage.is_well g.S.GroupStorage.shows g.S.GroupStorage.fails (record c.args.self.now { groups = c.ask_group-answered.new.groups })) in
    let new : NodeValue = (value_of g.M.StateMachine.state g.S.GroupStorage.is_well g.S.GroupStorage.shows g.S.GroupStorage.fails c.settle.new.self) in
    let id : c.ask_group-answered.new.groups.id ≡ c.args.self.now.groups.id = c.ask_group-answered.ensures.id in
    let n : Node = with_own mid.groups c.args.self.now.groups.id in
    let of_group = of_group_now old.groups n c.ask_group-answered.new.groups.id id c.args.group c.ask_group-answered.result c.ask_group-answered.ensures.asked.of_group in
    let passes : Passes (c.settle.new.self ≡ c.args.self.now) (c.settle.new.self ≡ record c.args.self.now { groups = c.ask_group-answered.new.groups }) old mid c.args.group c.ask_group-answered.result c.settle.result = record {
      away = λ turned other x stands.
          subst (λ gr. Stands (record { own = gr.id; has_failed = gr.has_failed; members = get nat_cmp gr.members; is_well = g.S.GroupStorage.is_well gr.storage; shows = g.S.GroupStorage.shows gr.storage; fails = g.S.GroupStorage.fails gr.storage }) other x)
          (sym (c.ask_group-answered.ensures.same turned)) stands;
      back = λ turned is. is ∙ ap (λ gr. record c.args.self.now { groups = gr }) (c.ask_group-answered.ensures.same turned);
      passed = c.settle.ensures.passed;
    } in
    record {
      leads = λ s going of at reached.
          c.settle.ensures.ended s (Call TriggerSnapshot c.args.now) of
          (λ taken. subst (λ k. IsStep k s (Call TriggerSnapshot c.args.now)) (sym id) (reached.step (subst (λ k. refusal_of k s (Call TriggerSnapshot c.args.now) ≡ None) id taken)))
          (record {
            taken =
                taken_now n c.ask_group-answered.new.groups.id id g.S.GroupStorage.stands c.args.group s (Call TriggerSnapshot c.args.now) c.ask_group-answered.result
                (c.ask_group-answered.ensures.asked.taken s going (λ is. subst (λ b. IsBuilt g.S.GroupStorage.stands b s) (sym lent) (c.in-Ok.ensures.ok s of at reached.membership)) at.up reached.lawful);
            runs = runs_by g.M.StateMachine.rules (old.running c.args.group) s (Call TriggerSnapshot c.args.now) c.ask_group-answered.result at.runs (none_brought g.M.StateMachine.rules (old.running c.args.group) s TriggerSnapshot c.args.now refl at.runs);
          });
      elsewhere =
          reach_elsewhere old mid new c.args.group c.settle.result
          (asked_reaches old.groups mid.groups c.args.group old.running old.running old.streams c.ask_group-answered.result c.settle.result _ id of_group (λ other x turned stands. passes.away turned other x stands) (λ other apart. refl) c.settle.ensures.passed)
          c.settle.ensures.elsewhere;
      failed = λ has. failed_event (c.settle.new.self ≡ c.args.self.now) _ old mid c.args.group c.ask_group-answered.result c.settle.result has of_group passes;
      unknown = λ going absent. unknown_event (c.settle.new.self ≡ c.args.self.now) _ old mid c.args.group c.ask_group-answered.result c.settle.result going absent of_group passes;
    }
