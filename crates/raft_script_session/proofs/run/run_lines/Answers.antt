use Rattle.raft_script_session.proofs.RunLemmas.{answers}
use Rattle.raft_script_session.proofs.run.run_lines.Goals as goal

pub returns : goal.returns
returns g c = rw c.end_of.ensures (answers g.S.LineRunner.runs _ _ _ c.args.script.now c.read_lines.new.script c.read_lines.result c.read_lines.ensures.ok c.read_lines.ensures.err)
