-- The next one is noted too.
use Rattle.std.proofs.Common.{arith}
use Rattle.raft_timers.specs.Request.{is_among, request_after}
use Rattle.raft_timers.proofs.EachRequest.{made_more}
use Rattle.raft_timers.proofs.request.tick_requests.Goals as goal

pub loop-request-preserved : goal.loop-request-preserved
loop-request-preserved c =
    made_more (λ r. request_after c.args.settings.now (is_among c.args.waiting.now r.peer) c.args.now r) c.args.requests.now
    c.loop-request.requests c.loop-request.request-index c.tick.new.self _ (omega arith) (omega arith) c.loop-request.invariant
    (rw c.contains-is_waiting.ensures.value at c.tick.ensures)
