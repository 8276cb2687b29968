use Rattle.std.proofs.Common.{subst}
use Rattle.raft_script_session.specs.Run.{Answers}
use Rattle.raft_cluster_script.specs.Script.{RunsLine, RunsScript, ScriptValue}
use Rattle.raft_cluster_script.proofs.ScriptLemmas.{for_some}
use Rattle.raft_cluster_script.proofs.run.run_script.Goals as goal

pub returns : goal.returns
returns g c =
    let acts = g.N.ClusterNode.acts in
    let speech = g.N.Machine.ScriptMachine.speech in
    let before = g.W.Write.contents c.args.writer.now in
    let after = g.W.Write.contents c.run_lines.new.writer in
    let last = c.run_lines.new.script in
    for_some _ _ (λ input. RunsScript acts speech input before after c.run_lines.result)
    (λ input h.
    let P : ScriptValue g.row.N.Denot → Type 0 = λ s. Answers (RunsLine acts speech) s input before after last c.run_lines.result in
    (last, subst P c.new-script.ensures h)) c.run_lines.ensures
