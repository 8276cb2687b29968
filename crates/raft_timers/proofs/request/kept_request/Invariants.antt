-- None of the requests so far is the peer's.
use Rattle.std.proofs.Common.{◌≡◌, drop}
use Rattle.raft_timers.specs.Request.{kept_request}
use Rattle.raft_timers.proofs.request.kept_request.Given as goal

abbrev pub invariant-loop-request : goal.invariant-loop-request
invariant-loop-request l =
    kept_request l.settings l.requests l.peer ≡ kept_request l.settings (drop l.request-index l.requests) l.peer
