-- The next one has heard of it too.
use Rattle.std.proofs.Common.{arith}
use Rattle.raft_timers.specs.Request.{answered_by}
use Rattle.raft_timers.proofs.EachRequest.{made_more}
use Rattle.raft_timers.proofs.request.hear_answer.Goals as goal

pub loop-request-preserved : goal.loop-request-preserved
loop-request-preserved c =
    made_more (answered_by c.args.settings.now c.args.peer) c.args.requests.now c.loop-request.requests c.loop-request.request-index
    c.hear_answer.new.self _ (omega arith) (omega arith) c.loop-request.invariant c.hear_answer.ensures
