use Rattle.std.proofs.Common.{map}
use Rattle.std.specs.Map.Iter.{deref_pair}
use Rattle.raft_log_engine.proofs.engine.Engine.scan_raw_messages.Goals as goal

pub returns-clause-called : goal.returns-clause-called
returns-clause-called g c =
    rw (← c.self.view_is) (map deref_pair c.in_ok-pairs.pairs.items, c.in_ok-pairs.ensures, rw (← c.deref.ensures.value) c.visit.ensures)
