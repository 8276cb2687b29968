-- The token waits, the groups are asked, and their answer is settled.
use Rattle.std.proofs.Common.{rules, ◌≡◌, [], ◌∷◌, None, Err, true, false, refl, sym, ap, subst, ◌∙◌}
use Rattle.std.specs.Prelude.{is_err}
use Rattle.std.specs.Ordering.{nat_cmp}
use Rattle.std.specs.BTreeMap.{get}
use Rattle.raft_group_step.specs.GroupEvent.{Call}
use Rattle.raft_group_step.specs.Refusal.{refusal_of}
use Rattle.raft_group_step.specs.StoredGroup.{end_place}
use Rattle.raft_laws.specs.GroupWorld.{Up}
use Rattle.raft_laws.specs.Stop.{token_of_call}
use Rattle.raft_member.specs.Member.{IsLawful}
use Rattle.raft_step_laws.specs.Tokens.{tokens_at}
use Rattle.raft_applier.specs.Following.{IsStep}
use Rattle.raft_framed_groups.specs.Answers.{IsTurnedAway, Node, Stands}
use Rattle.raft_node_faults.specs.declared.fault.Fault.TheVariants as fault
use Rattle.raft_node.specs.Ending.{GoesOn}
use Rattle.raft_node.specs.Settling.{IsPassedOn}
use Rattle.raft_node.specs.Standing.{NodeValue, feeding_of, value_of}
use Rattle.raft_node.proofs.Events.{Reaches, asked_reaches, of_group_now, reach_elsewhere, taken_now, with_own}
use Rattle.raft_node.proofs.Tokens.{ok_holds}
use Rattle.raft_node.proofs.node.Node.ask_with_token.Goals as goal

pub returns-clause-event : goal.returns-clause-event
returns-clause-event g c = λ one.
    let old : NodeValue = (value_of g.M.StateMachine.state g.S.GroupStorage.is_well g.S.GroupStorage.shows g.S.GroupStorage.fails c.args.self.now) in
    let waiting : NodeValue = (value_of g.M.StateMachine.state g.S.GroupStorage.is_well g.S.GroupStorage.shows g.S.GroupStorage.fails c.take_token.new.self) in
    let mid : NodeValue = (value_of g.M.StateMachine.state g.S.GroupStorage.is_well g.S.GroupStorage.shows g.S.GroupStorage.fails (record c.take_token.new.self { groups = c.ask_group-answered.new.groups })) in
    let new : NodeValue = (value_of g.M.StateMachine.state g.S.GroupStorage.is_well g.S.GroupStorage.shows g.S.GroupStorage.fails c.settle_with_token.new.self) in
    let same = c.take_token.ensures.groups in
    let id : c.ask_group-answered.new.groups.id ≡ c.take_token.new.self.groups.id = c.ask_group-answered.ensures.id in
    let own : c.ask_group-answered.new.groups.id ≡ c.args.self.now.groups.id = id ∙ ap (λ gr. gr.id) same in
    let n : Node = with_own mid.groups c.take_token.new.self.groups.id in
    let of_group = of_group_now waiting.groups n c.ask_group-answered.new.groups.id id c.args.group c.ask_group-answered.result c.ask_group-answered.ensures.asked.of_group in
    let first : Reaches old waiting c.args.group (GoesOn c.settle_with_token.result) = record {
      own = ap (λ gr. gr.id) same;
      members = λ other x apart goes stands. subst (λ gr. Stands (record { own = gr.id; has_failed = gr.has_failed; members = get nat_cmp gr.members; is_well = g.S.GroupStorage.is_well gr.storage; shows = g.S.GroupStorage.shows gr.storage; fails = g.S.GroupStorage.fails gr.storage }) other x) (sym same) stands;
      running = c.take_token.ensures.others;
      kept = λ other parts apart shown. subst (λ gr. g.S.GroupStorage.shows gr.storage other parts) (sym same) shown;
      streams = λ peer. ap (λ f. feeding_of (get nat_cmp f peer)) c.take_token.ensures.feeders;
      flag = λ goes. ap (λ gr. gr.has_failed) same;
    } in
    record {
      leads = λ s going of at reached.
          let room : is_err c.take_token.result ≡ false = search rules in
          c.settle_with_token.ensures.ended s (Call c.args.call.now c.args.now) (record { token = c.args.token; place = end_place s.stored }) of
          (λ taken. subst (λ k. IsStep k s (Call c.args.call.now c.args.now)) (sym own) (reached.step (subst (λ k. refusal_of k s (Call c.args.call.now c.args.now) ≡ None) own taken)))
          (ap (λ ts. tokens_at (end_place s.stored) ts) one)
          (taken_now n c.ask_group-answered.new.groups.id id g.S.GroupStorage.stands c.args.group s (Call c.args.call.now c.args.now) c.ask_group-answered.result
          (c.ask_group-answered.ensures.asked.taken s (ap (λ gr. gr.has_failed) same ∙ going) (λ is. absurd (let no : [] ≡ c.args.token ∷ [] = sym (ap token_of_call is) ∙ one in cc))
          (subst (λ gr. Stands (record { own = gr.id; has_failed = gr.has_failed; members = get nat_cmp gr.members; is_well = g.S.GroupStorage.is_well gr.storage; shows = g.S.GroupStorage.shows gr.storage; fails = g.S.GroupStorage.fails gr.storage }) c.args.group (Up s)) (sym same) at.up) (subst (λ gr. IsLawful gr.id s) (sym same) reached.lawful)))
          (ok_holds c.take_token.result room (c.take_token.ensures.ok s at reached.lawful));
      elsewhere =
          reach_elsewhere old waiting new c.args.group c.settle_with_token.result first
          (reach_elsewhere waiting mid new c.args.group c.settle_with_token.result
          (asked_reaches waiting.groups mid.groups c.args.group waiting.running waiting.running waiting.streams c.ask_group-answered.result c.settle_with_token.result _ id of_group
          (λ other x turned stands. subst (λ gr. Stands (record { own = gr.id; has_failed = gr.has_failed; members = get nat_cmp gr.members; is_well = g.S.GroupStorage.is_well gr.storage; shows = g.S.GroupStorage.shows gr.storage; fails = g.S.GroupStorage.fails gr.storage }) other x) (sym (c.ask_group-answered.ensures.same turned)) stands) (λ other apart. refl) c.settle_with_token.ensures.passed)
          c.settle_with_token.ensures.elsewhere);
      failed = λ has. absurd (let no : true ≡ false = sym has ∙ c.if-self.false in cc);
      unknown = λ going none.
          let f = of_group.unknown (ap (λ gr. gr.has_failed) same ∙ going) (ap (λ gr. get nat_cmp gr.members c.args.group) same ∙ none) in
          let turned : IsTurnedAway c.ask_group-answered.result = subst IsTurnedAway (sym f) tt in
          let x : (c.settle_with_token.result ≡ Err fault.UnknownGroup) × (c.settle_with_token.new.self ≡ record c.take_token.new.self { groups = c.ask_group-answered.new.groups }) =
          subst (λ a. IsPassedOn (c.settle_with_token.new.self ≡ record c.take_token.new.self { groups = c.ask_group-answered.new.groups }) a c.settle_with_token.result) f (c.settle_with_token.ensures.away turned) in
          (x.0, x.1 ∙ ap (λ gr. record c.take_token.new.self { groups = gr }) (c.ask_group-answered.ensures.same turned) ∙ (c.take_token.ensures.absent none).1);
    }
