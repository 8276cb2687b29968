-- The first so many are noted.
use Rattle.std.proofs.Common.{◌≡◌, ◌++◌, take, drop}
use Rattle.raft_timers.specs.Request.{requests_after}
use Rattle.raft_timers.proofs.request.tick_requests.Given as goal

abbrev pub invariant-loop-request : goal.invariant-loop-request
invariant-loop-request l =
    l.requests
    ≡ requests_after l.settings l.waiting l.now (take l.request-index l.initial.requests) ++ drop l.request-index l.initial.requests
