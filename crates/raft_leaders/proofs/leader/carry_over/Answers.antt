-- Who has a value keeps it.
use Rattle.std.proofs.Common.{◌∙◌, subst}
use Rattle.std.specs.Prelude.{IfOk}
use Rattle.raft_progress.specs.Parts.{IsUpgraded}
use Rattle.raft_leaders.proofs.leader.carry_over.Goals as goal

pub returns-clause-upgraded : goal.returns-clause-upgraded
returns-clause-upgraded g c =
    subst (λ l. IfOk c.upgrade_quorum_set.result (λ p. IsUpgraded g.NID.PartialEq.eq c.args.progress.now p c.args.quorum_set (g.QS.QuorumSet.members c.args.quorum_set) l c.args.default_value))
    (c.as_slice.ensures.value ∙ c.in_ok-ids.ensures) c.upgrade_quorum_set.ensures.upgraded
