-- The entry is written where somebody has the id.
use Rattle.std.proofs.Common.{sym}
use Rattle.raft_progress.proofs.PartsLemmas.{nobody_has}
use Rattle.raft_leaders.proofs.PeerLemmas.{nothing_set, somebody_has}
use Rattle.raft_leaders.proofs.leader.Leader.set_peer.Goals as goal

pub returns-in_default-clause-there : goal.returns-in_default-clause-there
returns-in_default-clause-there g c =
    rw (← c.self.view_is) (sym (nobody_has g.NID.PartialEq.eq c.self.inside.progress c.args.id.now (sym c.in_default.ensures.value)))

pub returns-in_default-clause-sets : goal.returns-in_default-clause-sets
returns-in_default-clause-sets g c =
    rw (← c.self.view_is)
    (nothing_set g.NID.PartialEq.eq c.self.inside.progress c.args.id.now _ c.args.entry
    (nobody_has g.NID.PartialEq.eq c.self.inside.progress c.args.id.now (sym c.in_default.ensures.value)) (c.in_default.ensures.sets c.args.entry))

pub returns-clause-there : goal.returns-clause-there
returns-clause-there g c =
    rw (← c.self.view_is) (sym (somebody_has g.NID.PartialEq.eq c.self.inside.progress c.args.id.now c.in-Some.known.now (sym c.in-Some.ensures.value)))
