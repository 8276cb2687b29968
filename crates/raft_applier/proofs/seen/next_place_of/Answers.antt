use Rattle.std.specs.Prelude.{◌<◌, ◌^◌, Some}
use Rattle.std.proofs.Common.{◌≡◌, ◌∙◌, ap, sym, subst}
use Rattle.std.specs.Option.{option_copied}
use Rattle.raft_values.specs.LogId.{next_place}
use Rattle.raft_group_step.specs.StoredGroup.{end_place}
use Rattle.raft_laws.proofs.BallotAgreement.{same_some}
use Rattle.raft_engine.specs.Standing.{IsStateOf}
use Rattle.raft_engine.proofs.SendingLemmas.{end-last}
use Rattle.raft_member.specs.Member.{Engine}
use Rattle.raft_applier.proofs.seen.next_place_of.Goals as goal

pub returns-in-Some : goal.returns-in-Some
returns-in-Some c = λ e s has idle low.
    let own = c.args.member.now.id in
    let engine = c.in-Some.engine.now in
    let both : Some e ≡ Some engine = sym has ∙ sym c.engine.ensures ∙ ap option_copied c.in-Some.is in
    let stands : IsStateOf own engine s = subst (λ (y : Engine). IsStateOf own y s) (same_some both) idle.stands in
    let last : next_place c.last_log_id.result ≡ end_place s.stored =
    ap next_place (c.last_log_id.ensures s.stored stands.knows stands.order.placed) ∙ end-last s.stored stands.order.placed in
    c.place_behind.ensures (subst (λ n. n < 2 ^ 64) (sym last) low) ∙ last
