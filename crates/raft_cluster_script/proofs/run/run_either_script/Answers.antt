use Rattle.std.proofs.Common.{subst}
use Rattle.raft_script_session.specs.Run.{Answers}
use Rattle.raft_cluster_script.specs.Either.{EitherValue, RunsEither, RunsEitherLine}
use Rattle.raft_cluster_script.proofs.ScriptLemmas.{for_some}
use Rattle.raft_cluster_script.proofs.run.run_either_script.Goals as goal

pub returns : goal.returns
returns g c =
    let acts = g.A.ClusterNode.acts in
    let speech = g.A.Machine.ScriptMachine.speech in
    let other_acts = g.B.ClusterNode.acts in
    let other_speech = g.B.Machine.ScriptMachine.speech in
    let before = g.W.Write.contents c.args.writer.now in
    let after = g.W.Write.contents c.run_lines.new.writer in
    let last = c.run_lines.new.script in
    for_some _ _ (λ input. RunsEither acts speech other_acts other_speech input before after c.run_lines.result)
    (λ input h.
    let P : EitherValue g.row.A.Denot g.row.B.Denot → Type 0 = λ s. Answers (RunsEitherLine acts speech other_acts other_speech) s input before after last c.run_lines.result in
    (last, subst P c.new-script.ensures h)) c.run_lines.ensures
