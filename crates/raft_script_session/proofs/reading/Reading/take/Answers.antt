use Rattle.raft_script_session.proofs.ReadingLemmas.{newline_taken, newline_stops, on_ok, if_err}
use Rattle.raft_script_session.proofs.reading.Reading.take.Goals as goal

pub returns-then-byte-eq-NEWLINE-clause-ok : goal.returns-then-byte-eq-NEWLINE-clause-ok
returns-then-byte-eq-NEWLINE-clause-ok g c =
    rw c.if-byte-eq-NEWLINE.true
    (on_ok c.end_line.result (newline_taken g.S.LineRunner.runs _ _ c.args.script.now c.args.self.now c.end_line.new.script c.end_line.new.self c.requires.open_line) c.end_line.ensures.ok)

pub returns-then-byte-eq-NEWLINE-clause-err : goal.returns-then-byte-eq-NEWLINE-clause-err
returns-then-byte-eq-NEWLINE-clause-err g c =
    rw c.if-byte-eq-NEWLINE.true
    (if_err c.end_line.result _ _ (λ stop. newline_stops g.S.LineRunner.runs _ _ c.args.script.now c.args.self.now stop c.requires.open_line) c.end_line.ensures.err)
