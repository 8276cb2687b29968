-- Who has a value keeps it.
use Rattle.std.proofs.Common.{◌∙◌, subst}
use Rattle.std.specs.Prelude.{IfOk}
use Rattle.raft_progress.specs.Parts.{IsUpgraded}
use Rattle.raft_leaders.proofs.leader.carry_over_by_id.Goals as goal

pub returns : goal.returns
returns g c =
    subst (λ l. IfOk c.upgrade_by_id.result (λ p. IsUpgraded g.NID.PartialEq.eq c.args.progress.now p c.args.quorum_set (g.QS.QuorumSet.members c.args.quorum_set) l c.args.default_value))
    (c.as_slice.ensures.value ∙ c.in_ok-ids.ensures) c.upgrade_by_id.ensures.upgraded
