-- What is still to be called ends as all calls end.
use Rattle.std.proofs.Common.{map, drop}
use Rattle.std.specs.Fn.{CalledAtTwo}
use Rattle.std.specs.Map.Iter.{deref_pair}
use Rattle.raft_log_engine.specs.Scanning.{CalledUntilFalse}
use Rattle.raft_log_engine.proofs.scans.visit.Given as goal

abbrev pub invariant-loop-key : goal.invariant-loop-key
invariant-loop-key g l =
    goal.C-IsAlwaysCallable g l.callback
    × ((last : _) → CalledUntilFalse (λ f p r f'. CalledAtTwo g.C.FnMut f p.0 p.1 r f') l.callback (map deref_pair (drop l.key-index l.pairs)) last
    → CalledUntilFalse (λ f p r f'. CalledAtTwo g.C.FnMut f p.0 p.1 r f') l.fn.callback (map deref_pair l.pairs) last)
