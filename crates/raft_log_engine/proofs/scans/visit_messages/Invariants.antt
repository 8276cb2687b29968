-- What is still to be handed over ends as all ends.
use Rattle.std.proofs.Common.{map, drop}
use Rattle.std.specs.Map.Iter.{deref_pair}
use Rattle.raft_log_engine.specs.Scanning.{CalledWith, IsMessage, ReadsUntilFalse}
use Rattle.raft_log_engine.proofs.scans.visit_messages.Given as goal

abbrev pub invariant-loop-key : goal.invariant-loop-key
invariant-loop-key g l =
    goal.C-IsAlwaysCallable g l.callback
    × ((last : _) → ReadsUntilFalse (IsMessage g.S.Message.fits g.S.Message.bytes) (CalledWith g.C.FnMut) l.callback (map deref_pair (drop l.key-index l.pairs)) last
    → ReadsUntilFalse (IsMessage g.S.Message.fits g.S.Message.bytes) (CalledWith g.C.FnMut) l.fn.callback (map deref_pair l.pairs) last)
