use Rattle.std.proofs.Common.{◌≤◌, ◌+◌, ◌*◌, [], ◌++◌, ◌<◌, take, length, arith, length-append, length-take}
use Rattle.std.proofs.lemmas.Result.{err_from_is_err_and}
use Rattle.std.proofs.KnownBytes.{Consumes-nil, Consumes-trans, Consumes-kept, Consumes-whole}
use Rattle.raft_script_session.specs.Run.{StopsIn, WritesText}
use Rattle.raft_script_session.proofs.ReadingLemmas.{on_ok, if_err}
use Rattle.raft_script_session.proofs.RunLemmas.{nothing_taken, all_written, stops_at_the_end, stops_in_feed, stops_by_fault, read_nothing, takes_more}
use Rattle.raft_script_session.proofs.run.read_all.Goals as goal
use Rattle.raft_script_session.proofs.run.read_all.Goals.{in-Ok+in_ok-feed-in-Ok, in-Err+else-ne}

pub loop-init : goal.loop-init
loop-init g c = ([], Consumes-nil _, omega arith, nothing_taken g.S.LineRunner.runs _ c.args.script.now c.args.reading.now c.requires.first)

pub returns-then-ne-clause-err : goal.returns-then-ne-clause-err
returns-then-ne-clause-err g c =
    let (taken, consumed, few, written) = c.loop.invariant in
    stops_by_fault g.S.LineRunner.runs _ _ _ _ c.args.script.now taken c.loop.script c.loop.reading consumed written

pub returns-clause-err : goal.returns-clause-err
returns-clause-err g c =
    let (taken, consumed, few, written) = c.loop.invariant in
    stops_by_fault g.S.LineRunner.runs _ _ _ _ c.args.script.now taken c.loop.script c.loop.reading consumed written

pub returns-in-Ok-eq0-clause-ok : goal.returns-in-Ok-eq0-clause-ok
returns-in-Ok-eq0-clause-ok g c =
    let (taken, consumed, few, written) = c.loop.invariant in
    let some : 0 < length c.read.new.buf = omega arith in
    let read = read_nothing _ _ _ taken c.read.new.buf c.in-Ok-eq0.field-0 c.in-Ok-eq0.field-0-test some consumed c.in-Ok-eq0.ensures.bytes in
    on_ok c.finish.result (λ all. Consumes-whole _ _ taken (λ input. WritesText g.S.LineRunner.runs c.args.script.now input (g.W.Write.contents c.args.writer.now) _ c.finish.new.script) read.0 read.1 (all_written g.S.LineRunner.runs _ _ _ c.args.script.now taken c.loop.script c.loop.reading c.finish.new.script written all)) c.finish.ensures.ok

pub returns-in-Ok-eq0-clause-err : goal.returns-in-Ok-eq0-clause-err
returns-in-Ok-eq0-clause-err g c =
    let (taken, consumed, few, written) = c.loop.invariant in
    let some : 0 < length c.read.new.buf = omega arith in
    let read = read_nothing _ _ _ taken c.read.new.buf c.in-Ok-eq0.field-0 c.in-Ok-eq0.field-0-test some consumed c.in-Ok-eq0.ensures.bytes in
    if_err c.finish.result _ _ (λ stop at_end. Consumes-whole _ _ taken (λ input. StopsIn g.S.LineRunner.runs c.args.script.now input (g.W.Write.contents c.args.writer.now) _ stop) read.0 read.1 (stops_at_the_end g.S.LineRunner.runs _ _ _ c.args.script.now taken c.loop.script c.loop.reading stop written at_end)) c.finish.ensures.err

pub returns-in_err-feed-in-Ok-clause-err : goal.returns-in_err-feed-in-Ok-clause-err
returns-in_err-feed-in-Ok-clause-err g c =
    let (taken, consumed, few, written) = c.loop.invariant in
    let p = err_from_is_err_and c.from_residual.result c.from_residual.ensures.1 in
    rw (p.1, p.2)
    (stops_in_feed g.S.LineRunner.runs _ _ _ _ _ c.args.script.now taken (take c.in-Ok.n c.read.new.buf) c.loop.script c.loop.reading c.in_err-feed-in-Ok.field-0.0 (Consumes-trans _ _ _ taken (take c.in-Ok.n c.read.new.buf) consumed c.in-Ok.ensures.bytes.0) written c.in_err-feed-in-Ok.ensures.err)

pub loop-preserved : goal.loop-preserved
loop-preserved g c =
    let (taken, consumed, few, written) = c.loop.invariant in
    elim c.match-read.branch [
      | in-Ok+in_ok-feed-in-Ok w ↦
          let piece = take w.in-Ok.n c.read.new.buf in
          let short : length (taken ++ piece) ≤ 65536 * (c.loop.counter + 1) = simp (length-append, length-take) (omega arith) in (
            taken ++ piece,
            Consumes-trans _ _ _ taken piece consumed w.in-Ok.ensures.bytes.0,
            short,
            rw (w.script-is, w.reading-is, w.writer-is) (takes_more g.S.LineRunner.runs _ _ _ c.args.script.now taken piece c.loop.script c.loop.reading w.feed.new.script w.feed.new.self written w.in_ok-feed-in-Ok.ensures.ok),
          )
      | in-Err+else-ne w ↦
          (taken, Consumes-kept _ _ _ taken consumed w.in-Err.ensures.bytes, omega arith, rw (w.script-is, w.reading-is, w.writer-is) written)
    ]
