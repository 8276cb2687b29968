use Rattle.std.specs.Prelude.{Some}
use Rattle.std.proofs.Common.{◌≡◌, ◌∙◌, ap, sym, subst}
use Rattle.std.specs.Option.{option_copied}
use Rattle.raft_values.specs.LogId.{next_place}
use Rattle.raft_group_step.specs.StoredGroup.{CutFrom, after_storing, membership_in_force}
use Rattle.raft_laws.proofs.BallotAgreement.{same_some}
use Rattle.raft_known_state.specs.KnownState.{effective_of}
use Rattle.raft_machines.specs.Fold.{fold_of}
use Rattle.raft_messages.specs.declared.memberships.SnapshotBytes.{SnapshotBytes}
use Rattle.raft_engine.specs.Standing.{IsStateOf}
use Rattle.raft_member.specs.Member.{Engine}
use Rattle.raft_applier.proofs.Shots.{cut_in_force, shot_last, shot_list, shot_membership}
use Rattle.raft_applier.proofs.applier.Applier.build_snapshot.Goals as goal

pub returns : goal.returns
returns g c = λ e s of has idle its caught x is.
    let rules = g.M.StateMachine.rules in
    let own = c.args.member.now.id in
    let engine = c.in-Some.engine.now in
    let both : Some e ≡ Some engine = sym has ∙ sym c.engine.ensures ∙ ap option_copied c.in-Some.is in
    let same : e ≡ engine = same_some both in
    let stands : IsStateOf own engine s = subst (λ (y : Engine). IsStateOf own y s) same idle.stands in
    let built : SnapshotBytes =
    record {
      meta = record { last_log_id = c.in-Some-committed.last; last_membership = c.in_ok-last_membership.last_membership };
      bytes = c.in_ok-bytes.bytes;
    } in
    let ids : Some c.in-Some-committed.last ≡ Some x.last = sym c.in-Some-committed.is ∙ stands.committed ∙ shot_last s x stands.order.applied is in
    let last : c.in-Some-committed.last ≡ x.last = same_some ids in
    let effective =
    c.committed_membership.ensures s.stored stands.knows
    ∙ cut_in_force s.stored engine.state.state.committed stands.order.placed
    ∙ ap (λ o. effective_of (membership_in_force (after_storing (CutFrom (next_place o)) s.stored))) (c.in-Some-committed.is ∙ ids) in
    let membership = c.in_ok-last_membership.ensures ∙ c.pair_of.ensures _ effective ∙ sym (shot_membership s x its is) in
    let folded = caught.folded ∙ ap (fold_of rules) (sym (shot_list s x is)) in
    let state = ap rules.restored c.in_ok-bytes.ensures ∙ g.met.M.StateMachine.restores c.args.self.now.machine ∙ folded in
    of.stand built x last membership state (c.in_ok-bytes.ensures ∙ ap rules.snapshot folded)
