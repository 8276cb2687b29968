-- The first so many have heard of it.
use Rattle.std.proofs.Common.{◌≡◌, ◌++◌, take, drop}
use Rattle.raft_timers.specs.Request.{requests_answered}
use Rattle.raft_timers.proofs.request.hear_answer.Given as goal

abbrev pub invariant-loop-request : goal.invariant-loop-request
invariant-loop-request l =
    l.requests
    ≡ requests_answered l.settings l.peer (take l.request-index l.initial.requests) ++ drop l.request-index l.initial.requests
