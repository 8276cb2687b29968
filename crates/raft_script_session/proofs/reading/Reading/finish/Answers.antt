use Rattle.std.proofs.Common.{◌<◌, length, arith}
use Rattle.std.proofs.lemmas.Grind.{common_steps}
use Rattle.raft_script_session.proofs.ReadingLemmas.{last_written, last_stops, on_ok, if_err}
use Rattle.raft_script_session.proofs.reading.Reading.finish.Goals as goal

pub returns-clause-ok : goal.returns-clause-ok
returns-clause-ok g c =
    let some : 0 < length c.args.self.now.pending = grind (arith, common_steps) in
    on_ok c.end_line.result (last_written g.S.LineRunner.runs _ _ c.args.script.now c.args.self.now c.end_line.new.script c.end_line.new.self c.requires.open_line some) c.end_line.ensures.ok

pub returns-clause-err : goal.returns-clause-err
returns-clause-err g c =
    let some : 0 < length c.args.self.now.pending = grind (arith, common_steps) in
    if_err c.end_line.result _ _ (λ stop. last_stops g.S.LineRunner.runs _ _ c.args.script.now c.args.self.now stop c.requires.open_line some) c.end_line.ensures.err
