use Rattle.std.proofs.lemmas.Result.{err_from_is_err_and}
use Rattle.raft_script_session.proofs.ReadingLemmas.{one_more_taken, stops_in_piece}
use Rattle.raft_script_session.proofs.reading.Reading.feed.Goals as goal

pub returns-in_err-take-clause-err : goal.returns-in_err-take-clause-err
returns-in_err-take-clause-err g c =
    let p = err_from_is_err_and c.from_residual.result c.from_residual.ensures.1 in
    rw (p.1, p.2)
    (stops_in_piece g.S.LineRunner.runs _ _ _ c.args.script.now c.args.self.now c.loop-byte.script c.loop-byte.self c.args.piece.now c.loop-byte.byte-index c.in_err-take.field-0.0 c.loop-byte-test.true c.loop-byte.invariant c.in_err-take.ensures.err)

pub loop-byte-preserved : goal.loop-byte-preserved
loop-byte-preserved g c =
    one_more_taken g.S.LineRunner.runs _ _ _ c.args.script.now c.args.self.now c.loop-byte.script c.loop-byte.self c.take.new.script c.take.new.self c.args.piece.now c.loop-byte.byte-index c.loop-byte-test.true c.loop-byte.invariant c.in_ok-take.ensures.ok
