-- The token waits with the others where the call was begun, and else no more.
use Rattle.std.proofs.Common.{rules, ◌≡◌, ◌++◌, List, None, true, false, sym, subst}
use Rattle.std.specs.Ordering.{nat_cmp}
use Rattle.std.specs.BTreeMap.{get}
use Rattle.raft_group_step.specs.GroupState.{Untold}
use Rattle.raft_group_step.specs.Refusal.{refusal_of}
use Rattle.raft_member.specs.Member.{HasBrokenOff}
use Rattle.raft_applier.specs.Following.{IsStep}
use Rattle.raft_framed_groups.specs.Answers.{IsTakenOr}
use Rattle.raft_node.specs.Asking.{is_not_begun}
use Rattle.raft_node.specs.Running.{RunsAt}
use Rattle.raft_node.specs.Standing.{running_in}
use Rattle.raft_node.proofs.Tokens.{waits_before, waits_begun}
use Rattle.raft_node.proofs.node.Node.settle_with_token.Goals as goal

pub returns-then-not-is_not_begun-clause-ended : goal.returns-then-not-is_not_begun-clause-ended
returns-then-not-is_not_begun-clause-ended g c = λ s e x of step is taken runs.
    let begun : is_not_begun c.args.answered ≡ false = search rules in
    let behind = subst (λ (l : List Untold). RunsAt g.M.StateMachine.rules (running_in g.M.StateMachine.state c.args.self.now.machines c.args.group) (record s { untold = s.untold ++ l })) (sym is) runs in
    c.settle.ensures.ended s e of step (record { taken = taken; runs = subst (RunsAt g.M.StateMachine.rules (running_in g.M.StateMachine.state c.args.self.now.machines c.args.group)) (sym (waits_begun s e c.args.answered begun)) behind })

pub returns-clause-ended : goal.returns-clause-ended
returns-clause-ended g c = λ s e x of step is taken runs.
    let before : is_not_begun c.args.answered ≡ true = search rules in
    c.settle-2.ensures.ended s e of
    (subst (λ gr. refusal_of gr.id s e ≡ None → IsStep gr.id s e) (sym c.give_back_token.ensures.groups) step)
    (record {
      taken =
          subst (λ gr. IsTakenOr (λ met member. HasBrokenOff (g.S.GroupStorage.is_well gr.storage) (g.S.GroupStorage.shows gr.storage c.args.group) (g.S.GroupStorage.fails gr.storage) gr.id s e member met) g.S.GroupStorage.stands (record { own = gr.id; has_failed = gr.has_failed; members = get nat_cmp gr.members; is_well = g.S.GroupStorage.is_well gr.storage; shows = g.S.GroupStorage.shows gr.storage; fails = g.S.GroupStorage.fails gr.storage }) c.args.group s e c.args.answered)
          (sym c.give_back_token.ensures.groups) taken;
      runs = subst (RunsAt g.M.StateMachine.rules (running_in g.M.StateMachine.state c.give_back_token.new.self.machines c.args.group)) (sym (waits_before s e c.args.answered before)) (c.give_back_token.ensures.back s x runs);
    })
