use Rattle.std.proofs.Common.{of_calls}
use Rattle.raft_log_engine.proofs.Visits.{of_some, reads_last, reads_on}
use Rattle.raft_log_engine.specs.Scanning.{IsMessage}
use Rattle.raft_log_engine.proofs.scans.visit_messages.Goals as goal

pub returns-then-not-callback : goal.returns-then-not-callback
returns-then-not-callback g c =
    let is = of_some _ _ c.in-Some.message c.in_ok-message.ensures.found c.in-Some.is in
    (_, c.loop-key.invariant.1 _ (reads_last g.C.FnMut (IsMessage g.S.Message.fits g.S.Message.bytes) c.args.pairs.now c.loop-key.key-index _ c.loop-key-test.true c.loop-key.callback c.callback.new.self c.in-Some.message c.callback.result is c.callback.ensures c.if-not-callback.true))

pub loop-key-preserved : goal.loop-key-preserved
loop-key-preserved g c =
    let is = of_some _ _ c.in-Some.message c.in_ok-message.ensures.found c.in-Some.is in
    (search (of_calls, c.loop-key.invariant.0, c.callback.ensures), λ last rest. c.loop-key.invariant.1 last (reads_on g.C.FnMut (IsMessage g.S.Message.fits g.S.Message.bytes) c.args.pairs.now c.loop-key.key-index _ c.loop-key-test.true c.loop-key.callback c.callback.new.self c.in-Some.message c.callback.result is c.callback.ensures c.if-not-callback.false last rest))
