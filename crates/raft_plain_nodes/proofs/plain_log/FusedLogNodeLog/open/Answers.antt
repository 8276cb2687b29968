use Rattle.std.proofs.Common.{◌≡◌, ◌∙◌, refl, subst, sym}
use Rattle.raft_cluster_events.specs.declared.outcome.Stop.{Stop}
use Rattle.raft_cluster_events.specs.declared.outcome.StopCause.TheVariants.{Memory}
use Rattle.raft_node_joint.specs.Reopening.{NamesNobody}
use Rattle.raft_node_laws.specs.Saying.{names_of}
use Rattle.raft_plain_nodes.proofs.plain_log.FusedLogNodeLog.open.Goals as goal

pub returns-then-is_lost-clause-err : goal.returns-then-is_lost-clause-err
returns-then-is_lost-clause-err g c = record {
  named = subst (λ s. NamesNobody (names_of s)) (sym c.quiet_stop.ensures) (λ h. refl);
  why = (sym c.is_lost.ensures ∙ c.if-is_lost.true, subst (λ (s : Stop). s.cause ≡ Memory) (sym c.quiet_stop.ensures) refl);
  found = λ content found. found;
}
