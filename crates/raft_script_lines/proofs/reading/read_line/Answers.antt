use Rattle.raft_script_lines.proofs.LineLemmas.{tells_ok, tells_err}
use Rattle.raft_script_lines.proofs.reading.read_line.Goals as goal

pub returns-clause-ok : goal.returns-clause-ok
returns-clause-ok c = tells_ok c.args.bytes.now c.line_of.result c.line_of.ensures

pub returns-clause-err : goal.returns-clause-err
returns-clause-err c = tells_err c.args.bytes.now c.line_of.result c.line_of.ensures
