use Rattle.std.proofs.Common.{arith, of_calls}
use Rattle.raft_log_engine.proofs.Visits.{ends, goes_on, runs_out}
use Rattle.raft_log_engine.proofs.scans.visit.Goals as goal

pub loop-key-init : goal.loop-key-init
loop-key-init g c = (c.requires, λ last rest. rest)

pub returns-then-not-callback : goal.returns-then-not-callback
returns-then-not-callback g c =
    (_, c.loop-key.invariant.1 _ (ends g.C.FnMut c.args.pairs.now c.loop-key.key-index _ c.loop-key-test.true c.loop-key.callback c.callback.new.self c.callback.result c.callback.ensures c.if-not-callback.true))

pub loop-key-preserved : goal.loop-key-preserved
loop-key-preserved g c =
    (search (of_calls, c.loop-key.invariant.0, c.callback.ensures), λ last rest. c.loop-key.invariant.1 last (goes_on g.C.FnMut c.args.pairs.now c.loop-key.key-index _ c.loop-key-test.true c.loop-key.callback c.callback.new.self c.callback.result c.callback.ensures c.if-not-callback.false last rest))

pub returns : goal.returns
returns g c = (_, c.loop-key.invariant.1 _ (runs_out g.C.FnMut c.args.pairs.now c.loop-key.key-index (omega arith) c.loop-key.callback))
