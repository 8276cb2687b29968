use Rattle.std.proofs.Common.{ap, length}
use Rattle.std.specs.String.{string_bytes}
use Rattle.raft_cluster_script.proofs.ScriptLemmas.{shows_step}
use Rattle.raft_cluster_script.proofs.script.happen_in.Goals as goal

pub returns : goal.returns
returns g c =
    shows_step g.N.ClusterNode.acts g.N.Machine.ScriptMachine.speech c.outcome_text.result string_bytes c.args.cluster.now c.step.new.self c.args.event c.in_ok-step.ensures.ok c.index-history-at.result c.history.result.now (length c.history-at.result.now) c.history.ensures (ap length c.history-at.ensures) c.outcome_text.ensures
